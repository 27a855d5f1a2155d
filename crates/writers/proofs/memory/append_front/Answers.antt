use Rattle.std.proofs.Common.{refl, arith}
use Rattle.writers.proofs.Fronts.{front_appended, front_full}
use Rattle.writers.proofs.memory.append_front.Goals as goal

pub returns-then-room-len : goal.returns-then-room-len
returns-then-room-len c = front_full c.args.len c.args.bytes.now c.args.memory.now _ (omega arith) refl

pub returns : goal.returns
returns c =
    front_appended c.args.len c.args.bytes.now c.args.memory.now c.overwrite.new.memory c.requires (omega arith) c.overwrite.ensures
