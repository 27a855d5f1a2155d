use Rattle.std.proofs.Common.{◌≡◌, drop}
use Rattle.trees.specs.Counts.{file_in}
use Rattle.trees.specs.View.{view}
use Rattle.trees.proofs.records.Records.unit_names_file.Given as goal

-- the entries to come decide
abbrev pub invariant-loop-e : goal.invariant-loop-e
invariant-loop-e l = file_in l.unit (drop l.e (view l.self).entries) ≡ file_in l.unit (view l.self).entries
