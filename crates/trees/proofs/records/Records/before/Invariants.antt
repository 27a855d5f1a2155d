use Rattle.std.proofs.Common.{◌≡◌, false, List, length}
use Rattle.trees.specs.Lists.{chain, has}
use Rattle.trees.specs.View.{kin}
use Rattle.trees.proofs.Seeks.{Seeking}
use Rattle.trees.proofs.records.Records.before.Given as goal

-- the child is none of those that came before
abbrev pub invariant-loop-cur : goal.invariant-loop-cur
invariant-loop-cur l = (behind : List _) × Seeking (kin l.self.entries.now l.self.entry_count) (length l.self.entries.now) l.p behind l.prev l.cur × (has l.c behind ≡ false)

abbrev pub decreases-loop-cur : goal.decreases-loop-cur
decreases-loop-cur l = length (chain (kin l.self.entries.now l.self.entry_count).next (length l.self.entries.now) l.cur)
