use Rattle.std.proofs.Common.{◌≡◌, Bool, true, false, cond, [], Ok, Result, sym, refl, ap, ◌∙◌, arith}
use Rattle.std.proofs.lemmas.Bool.{true≢false, cond-true, cond-false}
use Rattle.trees.specs.declared.records.EditFault.{EditFault}
use Rattle.trees.specs.Lists.{has}
use Rattle.trees.specs.Model.{Table, Entry, knows_both, entry_of, take_out, as_is}
use Rattle.trees.specs.View.{view}
use Rattle.trees.proofs.Families.{mem_has}
use Rattle.trees.proofs.Edits.{known_both, passed, passed_as, done, view_entry}
use Rattle.trees.proofs.table.UnitTable.try_delete_child.Goals as goal

pub check-requires : goal.check-requires
check-requires c = λ e. let t = c.args.self.now in (known_both t.records c.args.parent c.args.child (sym c.knows_both.ensures ∙ e)).0.housed

pub overflow_cast-child : goal.overflow_cast-child
overflow_cast-child c =
    let t = c.args.self.now in
    let p = passed (view t.records) c.knows_both.result c.args.parent.unit c.in_ok-check.ensures in
    let k = (known_both t.records c.args.parent c.args.child (sym c.knows_both.ensures ∙ p.1)).1.used in
    let z = t.records.sound.entries_fit in omega arith

pub before-requires : goal.before-requires
before-requires c =
    let t = c.args.self.now in
    let p = passed (view t.records) c.knows_both.result c.args.parent.unit c.in_ok-check.ensures in
    record { parent = (known_both t.records c.args.parent c.args.child (sym c.knows_both.ensures ∙ p.1)).0.used }

pub take_out-requires : goal.take_out-requires
take_out-requires c =
    let t = c.args.self.now in
    let p = passed (view t.records) c.knows_both.result c.args.parent.unit c.in_ok-check.ensures in
    record { parent = (known_both t.records c.args.parent c.args.child (sym c.knows_both.ensures ∙ p.1)).0.used; before = c.in-Some.ensures }

pub returns-in-None : goal.returns-in-None
returns-in-None c =
    let t = c.args.self.now in
    let p = passed (view t.records) c.knows_both.result c.args.parent.unit c.in_ok-check.ensures in
    let h = (known_both t.records c.args.parent c.args.child (sym c.knows_both.ensures ∙ p.1)).0.used in
    let w : has c.args.child.entry (entry_of (view t.records) c.args.parent.entry).children ≡ false = ap (λ (x : Entry). has c.args.child.entry x.children) (view_entry t.records c.args.parent.entry h) ∙ c.in-None.ensures in
    record {
      outcome = sym (cond-false _ (take_out (view t.records) c.args.parent.entry c.args.child.entry, Ok true) (view t.records, Ok false) w)
          ∙ done (view t.records) (knows_both (view t.records) c.args.parent c.args.child) c.args.parent.unit [] as_is
          (cond (has c.args.child.entry (entry_of (view t.records) c.args.parent.entry).children) (take_out (view t.records) c.args.parent.entry c.args.child.entry, Ok true) (view t.records, Ok false))
          (passed_as (view t.records) c.knows_both.result _ c.args.parent.unit c.knows_both.ensures p) refl;
      declined = λ _. refl;
      absent = λ _. refl;
    }

pub returns-in-Some : goal.returns-in-Some
returns-in-Some c =
    let t = c.args.self.now in
    let p = passed (view t.records) c.knows_both.result c.args.parent.unit c.in_ok-check.ensures in
    let h = (known_both t.records c.args.parent c.args.child (sym c.knows_both.ensures ∙ p.1)).0.used in
    let w : has c.args.child.entry (entry_of (view t.records) c.args.parent.entry).children ≡ true = ap (λ (x : Entry). has c.args.child.entry x.children) (view_entry t.records c.args.parent.entry h) ∙ mem_has c.args.child.entry _ c.in-Some.ensures.0 in
    record {
      outcome = ap (λ (v : Table). (v, Ok true)) c.take_out.ensures.view ∙ (sym (cond-true _ (take_out (view t.records) c.args.parent.entry c.args.child.entry, Ok true) (view t.records, Ok false) w)
          ∙ done (view t.records) (knows_both (view t.records) c.args.parent c.args.child) c.args.parent.unit [] as_is
          (cond (has c.args.child.entry (entry_of (view t.records) c.args.parent.entry).children) (take_out (view t.records) c.args.parent.entry c.args.child.entry, Ok true) (view t.records, Ok false))
          (passed_as (view t.records) c.knows_both.result _ c.args.parent.unit c.knows_both.ensures p) refl);
      declined = λ e. absurd (true≢false e);
      absent = λ e. absurd (no e);
    }
  where
    no : ◌≡◌ {A = Result Bool EditFault} (Ok true) (Ok false) → ⊥
    no q = let z : true ≡ false = cc in true≢false z
