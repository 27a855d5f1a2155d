use Rattle.std.proofs.Common.{Bool, not, ◌&&◌, sym, ap, ◌∙◌}
use Rattle.std.proofs.lemmas.Bool.{eq-eqb, ne_eqb}
use Rattle.trees.specs.Model.{is_given_back}
use Rattle.trees.proofs.Views.{un, st}
use Rattle.trees.proofs.Edits.{knows_past, knows_is}
use Rattle.trees.proofs.table.UnitTable.knows.Goals as goal

pub returns-then-e-self : goal.returns-then-e-self
returns-then-e-self c = knows_past c.args.self.now.records c.args.id c.if-e-self.true

pub returns-then-entry-id : goal.returns-then-entry-id
returns-then-entry-id c = let r = c.args.self.now.records in
    ap not c.is_given_back.ensures ∙ (sym (ap (λ (b : Bool). b && not (is_given_back (st r.entries.now c.args.id.entry))) (eq-eqb (un r.entries.now c.args.id.entry) c.args.id.unit c.if-entry-id.true))
    ∙ knows_is r c.args.id c.if-id-self.false c.if-e-self.false)

pub returns-else-entry-id : goal.returns-else-entry-id
returns-else-entry-id c = let r = c.args.self.now.records in
    ne_eqb (un r.entries.now c.args.id.entry) c.args.id.unit c.if-entry-id.false ∙ (sym (ap (λ (b : Bool). b && not (is_given_back (st r.entries.now c.args.id.entry))) (ne_eqb (un r.entries.now c.args.id.entry) c.args.id.unit c.if-entry-id.false))
    ∙ knows_is r c.args.id c.if-id-self.false c.if-e-self.false)
