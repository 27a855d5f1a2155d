use Rattle.std.proofs.Common.{refl, arith}
use Rattle.writers.proofs.Fronts.{front_placed, front_past, front_over}
use Rattle.writers.proofs.memory.place_front.Goals as goal

pub returns-then-offset-len : goal.returns-then-offset-len
returns-then-offset-len c = front_past c.args.len c.args.offset c.args.bytes.now c.args.memory.now _ c.requires (omega arith) refl

pub returns-then-bytes-len : goal.returns-then-bytes-len
returns-then-bytes-len c =
    front_over c.args.len c.args.offset c.args.bytes.now c.args.memory.now _ c.requires (omega arith) (omega arith) refl

pub returns : goal.returns
returns c =
    front_placed c.args.len c.args.offset c.args.bytes.now c.args.memory.now c.overwrite.new.memory c.requires (omega arith) c.overwrite.ensures
