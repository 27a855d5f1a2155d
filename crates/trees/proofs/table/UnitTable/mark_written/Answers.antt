use Rattle.std.proofs.Common.{true, sym, refl, ap, ◌∙◌, subst}
use Rattle.std.proofs.lemmas.Bool.{cond-true, cond-false, true≢false}
use Rattle.trees.specs.Model.{Table}
use Rattle.trees.specs.History.{Stands}
use Rattle.trees.specs.Growth.{Grows}
use Rattle.trees.proofs.Edits.{known_unit}
use Rattle.trees.proofs.table.UnitTable.mark_written.Goals as goal

pub returns-then-not-knows_unit : goal.returns-then-not-knows_unit
returns-then-not-knows_unit c = record { outcome = sym (cond-false _ _ _ (sym c.knows_unit.ensures ∙ c.if-not-knows_unit.true)); declined = λ _. refl; law = λ h S. S; growth = λ h S. S }

pub mark-requires : goal.mark-requires
mark-requires c = let t = c.args.self.now in record { used = known_unit t.records c.args.unit (sym c.knows_unit.ensures ∙ c.if-not-knows_unit.false) }

pub returns : goal.returns
returns c =
    let t = c.args.self.now in
    let q = sym c.knows_unit.ensures ∙ c.if-not-knows_unit.false in
    record {
      outcome = ap (λ (v : Table). (v, true)) c.mark.ensures.view ∙ sym (cond-true _ _ _ q);
      declined = λ e. absurd (true≢false e);
      law = λ h S. subst (Stands h) (sym c.mark.ensures.view) (record { states = S.states; counts = S.counts; lists = record { placed = S.lists.placed; others = S.lists.others } });
      growth = λ h S. subst (Grows h) (sym c.mark.ensures.view) (record { entries = S.entries; trees = S.trees });
    }
