use Rattle.std.proofs.Common.{ℕ, ◌+◌, cond, [], Ok, Result, sym, refl, ap, ◌∙◌}
use Rattle.std.proofs.lemmas.Bool.{true≢false, cond-true, cond-false}
use Rattle.trees.specs.declared.records.EditFault.{EditFault}
use Rattle.trees.specs.Lists.{nil}
use Rattle.trees.specs.Model.{Table, knows, entry_of, named, unname, amended, as_is}
use Rattle.trees.specs.View.{view}
use Rattle.trees.proofs.Edits.{known, passed, passed_as, done}
use Rattle.trees.proofs.Holdings.{unname_none}
use Rattle.trees.proofs.Values.{is_named, not_named, amend_none}
use Rattle.trees.proofs.table.UnitTable.try_delete.Goals as goal

pub check-requires : goal.check-requires
check-requires c = λ e. (known c.args.self.now.records c.args.id (sym c.knows.ensures ∙ e)).housed

pub find-requires : goal.find-requires
find-requires c =
    let t = c.args.self.now in
    let p = passed (view t.records) c.knows.result c.args.id.unit c.in_ok-check.ensures in
    record { used = (known t.records c.args.id (sym c.knows.ensures ∙ p.1)).used }

pub returns-in_default : goal.returns-in_default
unfolding nil
returns-in_default c =
    let t = c.args.self.now in
    let r = t.records in
    let e = c.args.id.entry in
    let p = passed (view r) c.knows.result c.args.id.unit c.in_ok-check.ensures in
    let h = (known r c.args.id (sym c.knows.ensures ∙ p.1)).used in
    let n = not_named r e c.args.name _ h c.in_default.ensures in
    let D : ℕ → Table × Result Unit EditFault = λ s. (amended (view r) e (unname c.args.name) s, Ok tt) in
    record {
      outcome = ap (λ (v : Table). (v, Ok tt)) (sym (amend_none (view r) e (unname c.args.name) (unname_none c.args.name (entry_of (view r) e).attributes n)))
          ∙ (ap D (sym (cond-false (named c.args.name (entry_of (view r) e).attributes) ((view r).attributes_left + 1) (view r).attributes_left n))
          ∙ done (view r) (knows (view r) c.args.id) c.args.id.unit [] as_is (D (cond (named c.args.name (entry_of (view r) e).attributes) ((view r).attributes_left + 1) (view r).attributes_left))
          (passed_as (view r) c.knows.result _ c.args.id.unit c.knows.ensures p) refl);
      declined = λ _. refl;
    }

pub remove-requires : goal.remove-requires
unfolding nil
remove-requires c =
    let t = c.args.self.now in
    let p = passed (view t.records) c.knows.result c.args.id.unit c.in_ok-check.ensures in
    record { used = (known t.records c.args.id (sym c.knows.ensures ∙ p.1)).used; found = (c.args.name, c.in-Ok.ensures) }

pub returns-in-Ok : goal.returns-in-Ok
unfolding nil
returns-in-Ok c =
    let t = c.args.self.now in
    let r = t.records in
    let e = c.args.id.entry in
    let p = passed (view r) c.knows.result c.args.id.unit c.in_ok-check.ensures in
    let h = (known r c.args.id (sym c.knows.ensures ∙ p.1)).used in
    let w = c.in-Ok.ensures in
    let n = is_named r e c.args.name _ h w in
    let D : ℕ → Table × Result Unit EditFault = λ s. (amended (view r) e (unname c.args.name) s, Ok tt) in
    record {
      outcome = ap (λ (v : Table). (v, Ok tt)) (c.remove.ensures.view c.args.name w)
          ∙ (ap D (sym (cond-true (named c.args.name (entry_of (view r) e).attributes) ((view r).attributes_left + 1) (view r).attributes_left n))
          ∙ done (view r) (knows (view r) c.args.id) c.args.id.unit [] as_is (D (cond (named c.args.name (entry_of (view r) e).attributes) ((view r).attributes_left + 1) (view r).attributes_left))
          (passed_as (view r) c.knows.result _ c.args.id.unit c.knows.ensures p) refl);
      declined = λ z. absurd (true≢false z);
    }
