use Rattle.std.proofs.Common.{arith}
use Rattle.std.proofs.lemmas.Grind.{common_steps}
use Rattle.layers.proofs.Positions.{has_is_some}
use Rattle.layers.proofs.notes.Notes.has_room.Goals as goal

pub returns-then-is_some : goal.returns-then-is_some
returns-then-is_some c = let h = has_is_some c.args.place c.args.self.now in grind (arith, common_steps)

pub returns-else-is_some : goal.returns-else-is_some
returns-else-is_some c = let h = has_is_some c.args.place c.args.self.now in grind (arith, common_steps)
