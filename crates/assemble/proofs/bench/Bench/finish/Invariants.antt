use Rattle.std.proofs.Common.{vec_len}
use Rattle.assemble.proofs.bench.Bench.finish.Given as goal

abbrev pub decreases-loop-length : goal.decreases-loop-length
decreases-loop-length g l = vec_len l.lengths
