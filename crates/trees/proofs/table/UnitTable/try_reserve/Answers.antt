use Rattle.std.proofs.Common.{ℕ, eqb, [], ◌∷◌, length, Ok, Result, sym, ap, ◌∙◌}
use Rattle.std.proofs.lemmas.Bool.{true≢false}
use Rattle.trees.specs.declared.records.UnitEntryId.{UnitEntryId}
use Rattle.trees.specs.declared.records.Reservation.{Reservation}
use Rattle.trees.specs.declared.records.EditFault.{EditFault}
use Rattle.trees.specs.declared.records.EditFault.TheVariants.{TableFull}
use Rattle.trees.specs.Model.{Table, grant, knows_unit, as_is}
use Rattle.trees.specs.View.{view}
use Rattle.trees.proofs.Edits.{passed, passed_as, done, room, view_count}
use Rattle.trees.proofs.table.UnitTable.try_reserve.Goals as goal

pub returns : goal.returns
returns c =
    let t = c.args.self.now in
    let r = t.records in
    let u = c.args.unit.unit in
    let p = passed_as (view r) c.knows_unit.result (knows_unit (view r) c.args.unit) u c.knows_unit.ensures (passed (view r) c.knows_unit.result u c.in_ok-check.ensures) in
    let at : Table → ℕ → Table × Result (UnitEntryId × Reservation) EditFault = λ v n. (v, Ok (record { table = r.number; unit = u; entry = n }, record { id = record { table = r.number; unit = u; entry = n } })) in
    record {
      outcome = ap (λ (i : UnitEntryId). (view c.grant.new.self, Ok (i, record { id = i }))) c.name_entry-id.ensures ∙ (ap (λ (v : Table). at v r.entry_count) c.grant.ensures.view ∙ (ap (at (grant (view r) u)) (sym (view_count r))
          ∙ done (view r) (knows_unit (view r) c.args.unit) u ((eqb (view r).entries_left 0, TableFull) ∷ []) as_is (at (grant (view r) u) (length (view r).entries)) p (room r c.if-entry-self.false)));
      declined = λ e. absurd (true≢false e);
    }
