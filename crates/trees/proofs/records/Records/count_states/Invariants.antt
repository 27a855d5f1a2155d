use Rattle.std.proofs.Common.{◌≡◌, take}
use Rattle.trees.specs.Counts.{counts_in}
use Rattle.trees.specs.View.{view}
use Rattle.trees.proofs.records.Records.count_states.Given as goal

-- those of the entries that came
abbrev pub invariant-loop-entry : goal.invariant-loop-entry
invariant-loop-entry l = l.counts ≡ counts_in (take l.entry-index (view l.self).entries)
