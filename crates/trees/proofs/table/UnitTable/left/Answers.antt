use Rattle.std.proofs.Common.{length, arith}
use Rattle.trees.specs.Attributes.{lists}
use Rattle.trees.specs.Lists.{nil}
use Rattle.trees.proofs.Families.{chain_short}
use Rattle.trees.proofs.table.UnitTable.left.Goals as goal

pub overflow_add-result : goal.overflow_add-result
overflow_add-result c =
    let t = c.args.self.now in
    let s = t.records in
    let z = chain_short (lists s).next (length s.attributes.now) ((lists s).first nil) in
    let y = t.records.sound.attributes_fit in
    let r = c.count_free.ensures in
    omega arith
