use Rattle.std.proofs.Common.{ℕ, eqb, [], ◌∷◌, length, Ok, Result, sym, ap, ◌∙◌, arith}
use Rattle.std.proofs.lemmas.Bool.{true≢false}
use Rattle.trees.specs.declared.records.UnitEntryId.{UnitEntryId}
use Rattle.trees.specs.declared.records.EditFault.{EditFault}
use Rattle.trees.specs.declared.records.EditFault.TheVariants.{TableFull}
use Rattle.trees.specs.Model.{Table, grant, place, knows, as_is}
use Rattle.trees.specs.View.{view}
use Rattle.trees.proofs.Edits.{known, passed, passed_as, done, room, view_count, granted}
use Rattle.trees.proofs.table.UnitTable.try_add_entry.Goals as goal

pub check-requires : goal.check-requires
check-requires c = λ e. (known c.args.self.now.records c.args.parent (sym c.knows.ensures ∙ e)).housed

pub overflow_cast-parent : goal.overflow_cast-parent
overflow_cast-parent c =
    let t = c.args.self.now in
    let p = passed (view t.records) c.knows.result c.args.parent.unit c.in_ok-check.ensures in
    let k = known t.records c.args.parent (sym c.knows.ensures ∙ p.1) in
    let z = t.records.sound.units_fit in omega arith

pub grant-requires : goal.grant-requires
grant-requires c =
    let t = c.args.self.now in
    let p = passed (view t.records) c.knows.result c.args.parent.unit c.in_ok-check.ensures in
    let k = known t.records c.args.parent (sym c.knows.ensures ∙ p.1) in
    record { unit = k.housed; room = c.if-entry-self.false }

pub place-requires : goal.place-requires
place-requires c =
    let t = c.args.self.now in
    let p = passed (view t.records) c.knows.result c.args.parent.unit c.in_ok-check.ensures in
    let k = known t.records c.args.parent (sym c.knows.ensures ∙ p.1) in
    let g = granted t.records c.grant.new.self c.args.parent.unit c.grant.ensures.view c.grant.ensures.count in
    let e = c.grant.ensures.count in
    let h = k.used in
    record { child = omega arith; parent = omega arith; waits = g.0; same = g.1 ∙ (sym k.unit ∙ sym (g.2 c.args.parent.entry h)) }

pub returns : goal.returns
returns c =
    let t = c.args.self.now in
    let r = t.records in
    let u = c.args.parent.unit in
    let e = c.args.parent.entry in
    let p = passed_as (view r) c.knows.result (knows (view r) c.args.parent) u c.knows.ensures (passed (view r) c.knows.result u c.in_ok-check.ensures) in
    let at : Table → ℕ → Table × Result UnitEntryId EditFault = λ v n. (place v n e c.args.tag, Ok (record { table = r.number; unit = u; entry = n })) in
    record {
      outcome = ap (λ (i : UnitEntryId). (view c.place.new.self, Ok i)) c.name_entry-id.ensures ∙ (ap (λ (v : Table). (v, Ok (record { table = r.number; unit = u; entry = r.entry_count }))) c.place.ensures.view ∙ (ap (λ (v : Table). at v r.entry_count) c.grant.ensures.view ∙ (ap (at (grant (view r) u)) (sym (view_count r))
          ∙ done (view r) (knows (view r) c.args.parent) u ((eqb (view r).entries_left 0, TableFull) ∷ []) as_is (at (grant (view r) u) (length (view r).entries)) p (room r c.if-entry-self.false))));
      declined = λ z. absurd (true≢false z);
    }
