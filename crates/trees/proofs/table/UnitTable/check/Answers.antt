use Rattle.std.proofs.Common.{ap, ◌∙◌}
use Rattle.trees.specs.View.{view}
use Rattle.trees.specs.declared.records.UnitRecord.{UnitRecord}
use Rattle.trees.proofs.Edits.{view_unit, is_written, is_passed}
use Rattle.trees.proofs.table.UnitTable.check.Goals as goal

pub returns-then-self-unit : goal.returns-then-self-unit
returns-then-self-unit c = let r = c.args.self.now.records in
    is_written (view r) c.args.known c.args.unit c.if-self.false c.if-not-known.false (ap (λ (u : UnitRecord). u.written) (view_unit r c.args.unit (c.requires c.if-not-known.false)) ∙ c.if-self-unit.true)

pub returns : goal.returns
returns c = let r = c.args.self.now.records in
    is_passed (view r) c.args.known c.args.unit c.if-self.false c.if-not-known.false (ap (λ (u : UnitRecord). u.written) (view_unit r c.args.unit (c.requires c.if-not-known.false)) ∙ c.if-self-unit.false)
