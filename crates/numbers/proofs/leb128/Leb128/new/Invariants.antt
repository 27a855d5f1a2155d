use Rattle.std.proofs.Common.{◌≡◌, ◌-◌, ◌≤◌, length, take}
use Rattle.numbers.proofs.Turns.{Turn}
use Rattle.numbers.proofs.leb128.Leb128.new.Given as goal

abbrev pub invariant-loop-bytes : goal.invariant-loop-bytes
invariant-loop-bytes g l = (l.len ≤ 9) × (length l.bytes ≡ 10) × Turn g.S.Septets.groups l.initial.val (take l.len l.bytes) l.val

abbrev pub decreases-loop-bytes : goal.decreases-loop-bytes
decreases-loop-bytes g l = 10 - l.len
