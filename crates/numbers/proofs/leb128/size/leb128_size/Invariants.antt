use Rattle.std.proofs.Common.{◌-◌, ◌≤◌}
use Rattle.numbers.proofs.Turns.{Count}
use Rattle.numbers.proofs.leb128.size.leb128_size.Given as goal

abbrev pub invariant-loop-val : goal.invariant-loop-val
invariant-loop-val g l = (l.len ≤ 9) × Count g.S.Septets.groups l.initial.val l.len l.val

abbrev pub decreases-loop-val : goal.decreases-loop-val
decreases-loop-val g l = 10 - l.len
