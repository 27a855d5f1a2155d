use Rattle.std.proofs.Common.{sym, ◌∙◌}
use Rattle.trees.specs.View.{view}
use Rattle.trees.proofs.Edits.{known, passed}
use Rattle.trees.proofs.table.UnitTable.try_set_sibling.Goals as goal

pub check-requires : goal.check-requires
check-requires c = λ e. (known c.args.self.now.records c.args.id (sym c.knows.ensures ∙ e)).housed

pub flag-requires : goal.flag-requires
flag-requires c =
    let t = c.args.self.now in
    let p = passed (view t.records) c.knows.result c.args.id.unit c.in_ok-check.ensures in
    record { used = (known t.records c.args.id (sym c.knows.ensures ∙ p.1)).used }
