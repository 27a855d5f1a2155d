use Rattle.std.proofs.Common.{length}
use Rattle.unitwriter.proofs.run.run_script.Given as goal

abbrev pub decreases-loop-entry : goal.decreases-loop-entry
decreases-loop-entry l = length l.rest
