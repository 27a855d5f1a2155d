use Rattle.std.proofs.Common.{ℕ, ◌-◌, cond, [], ◌∷◌, ◌++◌, Ok, Result, sym, refl, ap, ◌∙◌, arith}
use Rattle.std.proofs.lemmas.Bool.{true≢false, cond-true, cond-false, eq-eqb, ne_eqb, eqb-false, not-true, not-false}
use Rattle.trees.specs.declared.records.Attribute.{Attribute}
use Rattle.trees.specs.declared.records.EditFault.{EditFault}
use Rattle.trees.specs.declared.records.EditFault.TheVariants.{SiblingName, SpanOutOfBounds, TableFull}
use Rattle.trees.specs.Lists.{nil}
use Rattle.trees.specs.Model.{Table, knows, entry_of, named, put, amended, as_is}
use Rattle.trees.specs.View.{view}
use Rattle.trees.proofs.Edits.{known, passed, passed_as, done, fault}
use Rattle.trees.proofs.Holdings.{put_new}
use Rattle.trees.proofs.Values.{is_named, not_named, amend_same, set_checks, set_named, set_room, set_full, set_sibling, set_span}
use Rattle.trees.proofs.table.UnitTable.try_set.Goals as goal

pub check-requires : goal.check-requires
check-requires c = λ e. (known c.args.self.now.records c.args.id (sym c.knows.ensures ∙ e)).housed

pub find-requires : goal.find-requires
find-requires c =
    let t = c.args.self.now in
    let p = passed (view t.records) c.knows.result c.args.id.unit c.in_ok-check.ensures in
    record { used = (known t.records c.args.id (sym c.knows.ensures ∙ p.1)).used }

pub replace-requires : goal.replace-requires
unfolding nil
replace-requires c =
    let t = c.args.self.now in
    let p = passed (view t.records) c.knows.result c.args.id.unit c.in_ok-check.ensures in
    record { used = (known t.records c.args.id (sym c.knows.ensures ∙ p.1)).used; found = c.in-Ok.ensures }

pub returns-in-Ok : goal.returns-in-Ok
unfolding nil
returns-in-Ok c =
    let t = c.args.self.now in
    let r = t.records in
    let e = c.args.id.entry in
    let v : Attribute = record { name = c.args.name; value = c.args.value } in
    let p = passed (view r) c.knows.result c.args.id.unit c.in_ok-check.ensures in
    let h = (known r c.args.id (sym c.knows.ensures ∙ p.1)).used in
    let n = is_named r e c.args.name _ h c.in-Ok.ensures in
    let D : ℕ → Table × Result Unit EditFault = λ s. (amended (view r) e (put v) s, Ok tt) in
    record {
      outcome = ap (λ (x : Table). (x, Ok tt)) c.replace.ensures.view
          ∙ (ap D (sym (cond-true (named c.args.name (entry_of (view r) e).attributes) (view r).attributes_left ((view r).attributes_left - 1) n))
          ∙ done (view r) (knows (view r) c.args.id) c.args.id.unit (set_checks (view r) e c.args.name c.args.value) as_is (D (cond (named c.args.name (entry_of (view r) e).attributes) (view r).attributes_left ((view r).attributes_left - 1)))
          (passed_as (view r) c.knows.result _ c.args.id.unit c.knows.ensures p) (set_named (view r) e c.args.name c.args.value (ne_eqb c.args.name 1 c.if-name-eq-DW_AT_SIBLING.false) (sym c.holds_span.ensures ∙ c.if-not-holds_span.false) n));
      declined = λ z. absurd (true≢false z);
    }

pub returns-then-not-has_spare : goal.returns-then-not-has_spare
unfolding nil
returns-then-not-has_spare c =
    let t = c.args.self.now in
    let r = t.records in
    let e = c.args.id.entry in
    let v : Attribute = record { name = c.args.name; value = c.args.value } in
    let p = passed (view r) c.knows.result c.args.id.unit c.in_ok-check.ensures in
    let h = (known r c.args.id (sym c.knows.ensures ∙ p.1)).used in
    let n = not_named r e c.args.name _ h c.in-Err.ensures in
    record {
      outcome = fault (view r) (knows (view r) c.args.id) c.args.id.unit (set_checks (view r) e c.args.name c.args.value) as_is
          (amended (view r) e (put v) (cond (named c.args.name (entry_of (view r) e).attributes) (view r).attributes_left ((view r).attributes_left - 1)), Ok tt) TableFull
          (passed_as (view r) c.knows.result _ c.args.id.unit c.knows.ensures p)
          (set_full (view r) e c.args.name c.args.value (ne_eqb c.args.name 1 c.if-name-eq-DW_AT_SIBLING.false) (sym c.holds_span.ensures ∙ c.if-not-holds_span.false) n (not-false _ (sym c.has_spare.ensures ∙ c.if-not-has_spare.true)));
      declined = λ _. refl;
    }

pub append-requires : goal.append-requires
unfolding nil
append-requires c =
    let t = c.args.self.now in
    let p = passed (view t.records) c.knows.result c.args.id.unit c.in_ok-check.ensures in
    let ne = eqb-false _ 0 (not-true _ (sym c.has_spare.ensures ∙ c.if-not-has_spare.false)) in
    record { used = (known t.records c.args.id (sym c.knows.ensures ∙ p.1)).used; room = omega arith; last = c.in-Err.ensures.last }

pub returns-else-not-has_spare : goal.returns-else-not-has_spare
unfolding nil
returns-else-not-has_spare c =
    let t = c.args.self.now in
    let r = t.records in
    let e = c.args.id.entry in
    let v : Attribute = record { name = c.args.name; value = c.args.value } in
    let p = passed (view r) c.knows.result c.args.id.unit c.in_ok-check.ensures in
    let h = (known r c.args.id (sym c.knows.ensures ∙ p.1)).used in
    let n = not_named r e c.args.name _ h c.in-Err.ensures in
    let D : ℕ → Table × Result Unit EditFault = λ s. (amended (view r) e (put v) s, Ok tt) in
    record {
      outcome = ap (λ (x : Table). (x, Ok tt)) (c.append.ensures.view ∙ sym (amend_same (view r) e (put v) (λ xs. xs ++ v ∷ []) ((view r).attributes_left - 1) (put_new v (entry_of (view r) e).attributes n)))
          ∙ (ap D (sym (cond-false (named c.args.name (entry_of (view r) e).attributes) (view r).attributes_left ((view r).attributes_left - 1) n))
          ∙ done (view r) (knows (view r) c.args.id) c.args.id.unit (set_checks (view r) e c.args.name c.args.value) as_is (D (cond (named c.args.name (entry_of (view r) e).attributes) (view r).attributes_left ((view r).attributes_left - 1)))
          (passed_as (view r) c.knows.result _ c.args.id.unit c.knows.ensures p) (set_room (view r) e c.args.name c.args.value (ne_eqb c.args.name 1 c.if-name-eq-DW_AT_SIBLING.false) (sym c.holds_span.ensures ∙ c.if-not-holds_span.false) n (not-true _ (sym c.has_spare.ensures ∙ c.if-not-has_spare.false))));
      declined = λ z. absurd (true≢false z);
    }

pub returns-then-name-eq-DW_AT_SIBLING : goal.returns-then-name-eq-DW_AT_SIBLING
returns-then-name-eq-DW_AT_SIBLING c =
    let r = c.args.self.now.records in
    let e = c.args.id.entry in
    let v : Attribute = record { name = c.args.name; value = c.args.value } in
    let p = passed (view r) c.knows.result c.args.id.unit c.in_ok-check.ensures in
    record {
      outcome = fault (view r) (knows (view r) c.args.id) c.args.id.unit (set_checks (view r) e c.args.name c.args.value) as_is
          (amended (view r) e (put v) (cond (named c.args.name (entry_of (view r) e).attributes) (view r).attributes_left ((view r).attributes_left - 1)), Ok tt) SiblingName
          (passed_as (view r) c.knows.result _ c.args.id.unit c.knows.ensures p) (set_sibling (view r) e c.args.name c.args.value (eq-eqb c.args.name 1 c.if-name-eq-DW_AT_SIBLING.true));
      declined = λ _. refl;
    }

pub returns-then-not-holds_span : goal.returns-then-not-holds_span
returns-then-not-holds_span c =
    let r = c.args.self.now.records in
    let e = c.args.id.entry in
    let v : Attribute = record { name = c.args.name; value = c.args.value } in
    let p = passed (view r) c.knows.result c.args.id.unit c.in_ok-check.ensures in
    record {
      outcome = fault (view r) (knows (view r) c.args.id) c.args.id.unit (set_checks (view r) e c.args.name c.args.value) as_is
          (amended (view r) e (put v) (cond (named c.args.name (entry_of (view r) e).attributes) (view r).attributes_left ((view r).attributes_left - 1)), Ok tt) SpanOutOfBounds
          (passed_as (view r) c.knows.result _ c.args.id.unit c.knows.ensures p) (set_span (view r) e c.args.name c.args.value (ne_eqb c.args.name 1 c.if-name-eq-DW_AT_SIBLING.false) (sym c.holds_span.ensures ∙ c.if-not-holds_span.true));
      declined = λ _. refl;
    }
