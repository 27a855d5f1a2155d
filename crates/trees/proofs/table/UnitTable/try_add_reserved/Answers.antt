use Rattle.std.proofs.Common.{◌≡◌, true, false, not, [], ◌∷◌, Ok, sym, refl, ap, ◌∙◌, arith}
use Rattle.std.proofs.lemmas.Bool.{true≢false}
use Rattle.trees.specs.declared.records.EditFault.TheVariants.{NotWaiting}
use Rattle.trees.specs.Model.{Table, knows_both, entry_of, is_waiting, place}
use Rattle.trees.specs.View.{view}
use Rattle.trees.proofs.Edits.{known_both, passed, passed_as, done, fault, view_state, waiting_is}
use Rattle.trees.proofs.table.UnitTable.try_add_reserved.Goals as goal

pub check-requires : goal.check-requires
check-requires c = λ e. let t = c.args.self.now in
    (known_both t.records c.args.reservation.id c.args.parent (sym c.knows_both.ensures ∙ e)).0.housed

pub bounds-self-c : goal.bounds-self-c
bounds-self-c c =
    let t = c.args.self.now in
    let b = c.knows_both.ensures in
    let p = passed (view t.records) c.knows_both.result c.args.reservation.id.unit c.in_default.ensures in
    let k = (known_both t.records c.args.reservation.id c.args.parent (sym b ∙ p.1)).0.used in
    let z = t.records.sound.entries_fit in omega arith

pub returns-then-not-is_waiting : goal.returns-then-not-is_waiting
returns-then-not-is_waiting c =
    let t = c.args.self.now in
    let b = c.knows_both.ensures in
    let p = passed (view t.records) c.knows_both.result c.args.reservation.id.unit c.in_default.ensures in
    let k = (known_both t.records c.args.reservation.id c.args.parent (sym b ∙ p.1)).0 in
    let w : is_waiting (entry_of (view t.records) c.args.reservation.id.entry).state ≡ false = ap is_waiting (view_state t.records c.args.reservation.id.entry k.used) ∙ (sym c.is_waiting.ensures ∙ c.if-not-is_waiting.true) in
    record {
      outcome = fault (view t.records) (knows_both (view t.records) c.args.reservation.id c.args.parent) c.args.reservation.id.unit
          ((not (is_waiting (entry_of (view t.records) c.args.reservation.id.entry).state), NotWaiting) ∷ []) (λ f. record { fault = f; reservation = c.args.reservation })
          (place (view t.records) c.args.reservation.id.entry c.args.parent.entry c.args.tag, Ok tt) NotWaiting
          (passed_as (view t.records) c.knows_both.result _ c.args.reservation.id.unit b p) (rw w);
      declined = λ _. refl;
    }

pub place-requires : goal.place-requires
place-requires c =
    let t = c.args.self.now in
    let b = c.knows_both.ensures in
    let p = passed (view t.records) c.knows_both.result c.args.reservation.id.unit c.in_default.ensures in
    let k = known_both t.records c.args.reservation.id c.args.parent (sym b ∙ p.1) in
    record { child = k.0.used; parent = k.1.used; waits = waiting_is _ (sym c.is_waiting.ensures ∙ c.if-not-is_waiting.false); same = k.0.unit ∙ (k.2 ∙ sym k.1.unit) }

pub returns : goal.returns
returns c =
    let t = c.args.self.now in
    let b = c.knows_both.ensures in
    let p = passed (view t.records) c.knows_both.result c.args.reservation.id.unit c.in_default.ensures in
    let k = (known_both t.records c.args.reservation.id c.args.parent (sym b ∙ p.1)).0 in
    let w : is_waiting (entry_of (view t.records) c.args.reservation.id.entry).state ≡ true = ap is_waiting (view_state t.records c.args.reservation.id.entry k.used) ∙ (sym c.is_waiting.ensures ∙ c.if-not-is_waiting.false) in
    record {
      outcome = ap (λ (v : Table). (v, Ok tt)) c.place.ensures.view ∙ done (view t.records) (knows_both (view t.records) c.args.reservation.id c.args.parent) c.args.reservation.id.unit
          ((not (is_waiting (entry_of (view t.records) c.args.reservation.id.entry).state), NotWaiting) ∷ []) (λ f. record { fault = f; reservation = c.args.reservation })
          (place (view t.records) c.args.reservation.id.entry c.args.parent.entry c.args.tag, Ok tt)
          (passed_as (view t.records) c.knows_both.result _ c.args.reservation.id.unit b p) (rw w);
      declined = λ e. absurd (true≢false e);
    }
