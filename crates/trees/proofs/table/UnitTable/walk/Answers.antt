use Rattle.std.proofs.Common.{sym, subst}
use Rattle.trees.proofs.Paths.{Begins, begins}
use Rattle.trees.proofs.Runs.{events_in_order}
use Rattle.trees.proofs.Reaches.{matches}
use Rattle.trees.proofs.table.UnitTable.walk.Goals as goal

pub invariant_of-result : goal.invariant_of-result
invariant_of-result c =
    let t = c.args.self.now in
    let b = subst (Begins t.records c.args.unit) (sym c.root_record-root.ensures) (begins t.records c.args.unit) in
    record { inside = t.records.sound.entries_fit.0; ending = b.1 }

pub returns : goal.returns
returns c =
    let t = c.args.self.now in
    let b = subst (Begins t.records c.args.unit) (sym c.root_record-root.ensures) (begins t.records c.args.unit) in
    let m = matches t.records c.args.unit in
    record { events = b.0; tree = m.0; reached = m.1; once = b.2; runs = events_in_order }
