use Rattle.std.proofs.Common.{Some, sym, ap, ◌∙◌}
use Rattle.std.proofs.lemmas.Bool.{cond-true}
use Rattle.trees.specs.declared.records.UnitRecord.{UnitRecord}
use Rattle.trees.proofs.Edits.{known_unit, view_unit}
use Rattle.trees.proofs.table.UnitTable.unit_record.Goals as goal

pub returns : goal.returns
returns c =
    let t = c.args.self.now in
    let k = sym c.knows_unit.ensures ∙ c.if-not-knows_unit.false in
    ap (λ (u : UnitRecord). Some u) (sym (view_unit t.records c.args.id.unit (known_unit t.records c.args.id k))) ∙ sym (cond-true _ _ _ k)
