use Rattle.std.proofs.Common.{length}
use Rattle.trees.specs.Lists.{chain}
use Rattle.trees.proofs.Views.{nx}
use Rattle.trees.proofs.Turns.{Turn}
use Rattle.trees.proofs.records.Records.bases_first.Given as goal

abbrev pub invariant-loop-cur : goal.invariant-loop-cur
invariant-loop-cur l = Turn l.initial.self l.self l.p l.prev l.cur

-- the children that were still to come when the loop began
abbrev pub decreases-loop-cur : goal.decreases-loop-cur
decreases-loop-cur l = length (chain (nx l.initial.self.entries.now) (length l.initial.self.entries.now) l.cur)
