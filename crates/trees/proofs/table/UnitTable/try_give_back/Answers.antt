use Rattle.std.proofs.Common.{◌≡◌, true, false, sym, refl, ap, ◌∙◌, arith}
use Rattle.std.proofs.lemmas.Bool.{true≢false, and_from, and_right, cond-true, cond-false}
use Rattle.trees.specs.Model.{Table, knows, entry_of, is_waiting}
use Rattle.trees.specs.View.{view}
use Rattle.trees.proofs.Edits.{known, view_state, waiting_is}
use Rattle.trees.proofs.table.UnitTable.try_give_back.Goals as goal

pub bounds-self-e : goal.bounds-self-e
bounds-self-e c =
    let t = c.args.self.now in
    let k = (known t.records c.args.reservation.id (sym c.knows.ensures ∙ c.if-not-knows.false)).used in
    let z = t.records.sound.entries_fit in omega arith

pub returns-then-not-is_waiting : goal.returns-then-not-is_waiting
returns-then-not-is_waiting c =
    let t = c.args.self.now in
    let kn = sym c.knows.ensures ∙ c.if-not-knows.false in
    let k = known t.records c.args.reservation.id kn in
    let w : is_waiting (entry_of (view t.records) c.args.reservation.id.entry).state ≡ false = ap is_waiting (view_state t.records c.args.reservation.id.entry k.used) ∙ (sym c.is_waiting.ensures ∙ c.if-not-is_waiting.true) in
    record { outcome = sym (cond-false _ _ _ (and_right (knows (view t.records) c.args.reservation.id) _ w)); declined = λ _. refl }

pub retire-requires : goal.retire-requires
retire-requires c =
    let t = c.args.self.now in
    let kn = sym c.knows.ensures ∙ c.if-not-knows.false in
    record { used = (known t.records c.args.reservation.id kn).used; waits = waiting_is _ (sym c.is_waiting.ensures ∙ c.if-not-is_waiting.false) }

pub returns : goal.returns
returns c =
    let t = c.args.self.now in
    let kn = sym c.knows.ensures ∙ c.if-not-knows.false in
    let k = known t.records c.args.reservation.id kn in
    let w : is_waiting (entry_of (view t.records) c.args.reservation.id.entry).state ≡ true = ap is_waiting (view_state t.records c.args.reservation.id.entry k.used) ∙ (sym c.is_waiting.ensures ∙ c.if-not-is_waiting.false) in
    record { outcome = ap (λ (v : Table). (v, true)) c.retire.ensures.view ∙ sym (cond-true _ _ _ (and_from _ _ kn w)); declined = λ e. absurd (true≢false e) }
