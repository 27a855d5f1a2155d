-- What each call of the model gives where its checks pass.
use Rattle.std.proofs.Common.{ℕ, Bool, true, false, cond, length, Ok, Option, Result}
use Rattle.trees.specs.declared.records.Encoding.{Encoding}
use Rattle.trees.specs.declared.records.LineProgram.{LineProgram}
use Rattle.trees.specs.declared.records.UnitId.{UnitId}
use Rattle.trees.specs.declared.records.UnitEntryId.{UnitEntryId}
use Rattle.trees.specs.declared.records.Reservation.{Reservation}
use Rattle.trees.specs.declared.records.Refusal.{Refusal}
use Rattle.trees.specs.declared.records.EditFault.{EditFault}
use Rattle.trees.specs.declared.records.State.TheVariants.{GivenBack}
use Rattle.trees.specs.Model.{Table, unless, as_is, change, left, with_entries, place, take_out, grant, open_unit, new_id, new_reservation}

module _ (t : Table) where
  abbrev pub unit_done : (encoding : Encoding) (line : Option LineProgram) → Table × Result UnitId EditFault
  unit_done encoding line = (open_unit t encoding line, Ok (record { table = t.number; unit = length t.units }))

  abbrev pub reserve_done : (u : UnitId) → Table × Result (UnitEntryId × Reservation) EditFault
  reserve_done u = (grant t u.unit, Ok (new_id t u.unit, new_reservation t u.unit))

  abbrev pub place_done : (r : Reservation) (p : UnitEntryId) (tag : ℕ) → Table × Result Unit Refusal
  place_done r p tag = (place t r.id.entry p.entry tag, Ok tt)

  abbrev pub back_done : (r : Reservation) → Table
  back_done r = with_entries t (change r.id.entry (left GivenBack) t.entries)

  abbrev pub back_as : (r : Reservation) → Bool → Table × Bool
  back_as r b = cond b (back_done r, true) (t, false)

  abbrev pub delete_done : (p c : UnitEntryId) → Bool → Table × Result Bool EditFault
  delete_done p c b = cond b (take_out t p.entry c.entry, Ok true) (t, Ok false)

  abbrev pub edit_done : Table → Option EditFault → Table × Result Unit EditFault
  edit_done d o = unless o as_is t (d, Ok tt)

  abbrev pub add_done : (p : UnitEntryId) (tag : ℕ) → Table × Result UnitEntryId EditFault
  add_done p tag = (place (grant t p.unit) (length t.entries) p.entry tag, Ok (new_id t p.unit))
