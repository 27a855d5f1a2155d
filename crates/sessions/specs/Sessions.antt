-- What a session keeps of its table's answers: the unit of each entry granted, and the reservations not spent.
use Rattle.std.specs.Prelude.{◌≡◌, ◌≢◌, ℕ, ◌<◌, ◌≤◌, ◌⊎◌, List, [], ◌∷◌, ◌++◌, length, Ok, Err, Result, slice_index_or, vec_len, vec_capacity}
use Rattle.std.specs.List.{remove}
use Rattle.trees.specs.declared.records.UnitEntryId.{UnitEntryId}
use Rattle.trees.specs.declared.records.Reservation.{Reservation}
use Rattle.trees.specs.declared.records.EditFault.{EditFault}
use Rattle.trees.specs.declared.records.AttributeValue.{AttributeValue}
use Rattle.trees.specs.declared.records.AttributeValue.TheVariants as value
use Rattle.trees.specs.declared.records.DebugInfoRef.TheVariants as info
use Rattle.trees.specs.History.{History, Stands, times}
use Rattle.trees.specs.Growth.{Deeds, Grows}
use Rattle.trees.specs.Model.{Table}
use Rattle.trees.specs.View.{view}
use Rattle.scripts.specs.declared.call.Edit.{Edit}
use Rattle.scripts.specs.declared.call.Edit.TheVariants as edit
use Rattle.sessions.specs.declared.order.Order.{Order}
use Rattle.sessions.specs.declared.order.Order.TheVariants as order
use Rattle.scripts.specs.declared.complaint.Complaint.{Complaint}
use Rattle.scripts.specs.declared.complaint.Complaint.TheVariants.{NotHeld, UnknownReference, NoMemory}
use Rattle.scripts.specs.declared.value.EntryName.{EntryName}
use Rattle.scripts.specs.declared.value.Value.{Value}
use Rattle.scripts.specs.declared.value.Value.TheVariants.{Plain, UnitRef, InfoRef}
use Rattle.sessions.specs.Orders.{carried, act_of, deed_of}
use Rattle.sessions.specs.Rolls.{IsEntryOf, Named}
use Rattle.sessions.specs.Tables.{units_in, Leads}
use Rattle.sessions.specs.declared.order.Answer.{Answer}
use Rattle.sessions.specs.declared.order.Answer.TheVariants as answer
use Rattle.sessions.specs.declared.reply.Reply.{Reply}
use Rattle.sessions.specs.declared.reply.Reply.TheVariants.{Unit as UnitReply, Id, Done, Told}
use Rattle.sessions.specs.declared.ledger.Ledger.{Ledger}
use Rattle.sessions.specs.declared.session.Session.{Session}

-- what stands past the reservations
abbrev pub no_token : Reservation
no_token = record { id = record { table = 0; unit = 0; entry = 0 } }

-- the unit in which an answer grants an entry
abbrev pub unit_granted : Answer → List ℕ
unit_granted (answer.Unit (Ok u)) = u.unit ∷ []
unit_granted (answer.Unit (Err f)) = []
unit_granted (answer.Reserved (Ok a)) = a.0.unit ∷ []
unit_granted (answer.Reserved (Err f)) = []
unit_granted (answer.ReservedAdded x) = []
unit_granted (answer.Added (Ok i)) = i.unit ∷ []
unit_granted (answer.Added (Err f)) = []
unit_granted (answer.GaveBack x) = []
unit_granted (answer.ChildDeleted x) = []
unit_granted (answer.Edited x) = []

-- the reservation that an answer hands out, or back
abbrev pub kept_back : Answer → List Reservation
kept_back (answer.Unit x) = []
kept_back (answer.Reserved (Ok a)) = a.1 ∷ []
kept_back (answer.Reserved (Err f)) = []
kept_back (answer.ReservedAdded (Ok x)) = []
kept_back (answer.ReservedAdded (Err f)) = f.reservation ∷ []
kept_back (answer.Added x) = []
kept_back (answer.GaveBack x) = []
kept_back (answer.ChildDeleted x) = []
kept_back (answer.Edited x) = []

-- the answer in the script's names, or why the call was declined: a new entry's number is how many of its unit were granted before it
abbrev pub reply_of : List ℕ → Answer → Result Reply EditFault
reply_of homes (answer.Unit (Ok u)) = Ok (UnitReply u.unit)
reply_of homes (answer.Unit (Err f)) = Err f
reply_of homes (answer.Reserved (Ok a)) = Ok (Id (record { unit = a.0.unit; entry = times a.0.unit homes }))
reply_of homes (answer.Reserved (Err f)) = Err f
reply_of homes (answer.ReservedAdded (Ok x)) = Ok Done
reply_of homes (answer.ReservedAdded (Err f)) = Err f.fault
reply_of homes (answer.Added (Ok i)) = Ok (Id (record { unit = i.unit; entry = times i.unit homes }))
reply_of homes (answer.Added (Err f)) = Err f
reply_of homes (answer.GaveBack b) = Ok (Told b)
reply_of homes (answer.ChildDeleted (Ok b)) = Ok (Told b)
reply_of homes (answer.ChildDeleted (Err f)) = Err f
reply_of homes (answer.Edited (Ok x)) = Ok Done
reply_of homes (answer.Edited (Err f)) = Err f

-- room for an entry and for a reservation more
abbrev pub HasRoom : Ledger → Type 0
HasRoom l = (vec_len l.homes < vec_capacity l.homes) × (vec_len l.held < vec_capacity l.held)

-- a value in the table's ids: one that refers to an entry refers to one that was granted
abbrev pub InIds : List ℕ → ℕ → Value → AttributeValue → Type 0
InIds homes table (Plain v) w = w ≡ v
InIds homes table (UnitRef x) w = (e : ℕ) × (IsEntryOf homes x e) × (w ≡ value.UnitRef (record { table = table; unit = x.unit; entry = e }))
InIds homes table (InfoRef x) w = (e : ℕ) × (IsEntryOf homes x e) × (w ≡ value.DebugInfoRef (info.Entry (record { table = table; unit = x.unit; entry = e })))

-- a reservation of the entry that a name says was held, and is held no more
abbrev pub HeldOf : List ℕ → ℕ → List Reservation → List Reservation → EntryName → Reservation → Type 0
HeldOf homes table held held' x r = (k : ℕ) × (i : UnitEntryId) × (k < length held) × (slice_index_or held k no_token ≡ r) × (held' ≡ remove held k) × Named homes table x i × (r.id.entry ≡ i.entry)

-- the order that an edit is, in the table's ids
abbrev pub OrderOf : List ℕ → ℕ → List Reservation → List Reservation → Edit → Order → Type 0
OrderOf homes table held held' (edit.Unit encoding line) o = (held' ≡ held) × (o ≡ order.Unit encoding line)
OrderOf homes table held held' (edit.Reserve u) o = (held' ≡ held) × (o ≡ order.Reserve (record { table = table; unit = u }))
OrderOf homes table held held' (edit.AddReserved x p tag) o = (r : Reservation) × (j : UnitEntryId) × HeldOf homes table held held' x r × Named homes table p j × (o ≡ order.AddReserved r j tag)
OrderOf homes table held held' (edit.Add p tag) o = (held' ≡ held) × (j : UnitEntryId) × Named homes table p j × (o ≡ order.Add j tag)
OrderOf homes table held held' (edit.Set x name v) o = (held' ≡ held) × (i : UnitEntryId) × (w : AttributeValue) × Named homes table x i × InIds homes table v w × (o ≡ order.Set i name w)
OrderOf homes table held held' (edit.Delete x name) o = (held' ≡ held) × (i : UnitEntryId) × Named homes table x i × (o ≡ order.Delete i name)
OrderOf homes table held held' (edit.SetSibling x b) o = (held' ≡ held) × (i : UnitEntryId) × Named homes table x i × (o ≡ order.SetSibling i b)
OrderOf homes table held held' (edit.DeleteChild p c) o = (held' ≡ held) × (i : UnitEntryId) × (j : UnitEntryId) × Named homes table p i × Named homes table c j × (o ≡ order.DeleteChild i j)
OrderOf homes table held held' (edit.GiveBack x) o = (r : Reservation) × HeldOf homes table held held' x r × (o ≡ order.GiveBack r)

-- a value that refers to an entry of which so many were not granted
abbrev pub NotMade : List ℕ → Value → Type 0
NotMade homes (Plain v) = ⊥
NotMade homes (UnitRef x) = length homes ≤ 4294967295 → times x.unit homes ≤ x.entry
NotMade homes (InfoRef x) = length homes ≤ 4294967295 → times x.unit homes ≤ x.entry

-- no reservation of an entry is held
abbrev pub IsFree : List Reservation → ℕ → Type 0
IsFree held e = (k : ℕ) → k < length held → (slice_index_or held k no_token).id.entry ≢ e

-- and so of the entry that a name says
abbrev pub NotHeldOf : List ℕ → ℕ → List Reservation → EntryName → Type 0
NotHeldOf homes table held x = (i : UnitEntryId) × Named homes table x i × IsFree held i.entry

-- why an edit is no order, and with which complaint
abbrev pub Complains : List ℕ → ℕ → List Reservation → Edit → Complaint → Type 0
Complains homes table held (edit.Unit encoding line) c = ⊥
Complains homes table held (edit.Reserve u) c = ⊥
Complains homes table held (edit.AddReserved x p tag) c = (c ≡ NotHeld) × NotHeldOf homes table held x
Complains homes table held (edit.Add p tag) c = ⊥
Complains homes table held (edit.Set x name v) c = (c ≡ UnknownReference) × NotMade homes v
Complains homes table held (edit.Delete x name) c = ⊥
Complains homes table held (edit.SetSibling x b) c = ⊥
Complains homes table held (edit.DeleteChild p c') c = ⊥
Complains homes table held (edit.GiveBack x) c = (c ≡ NotHeld) × NotHeldOf homes table held x

-- where a session stands: the number of its table, the unit of each entry, the reservations not spent, and the table
pub record Stage : Type 0 where
  pub number : ℕ
  pub homes : List ℕ
  pub held : List Reservation
  pub table : Table

abbrev pub stage_of : Ledger → Table → Stage
stage_of l t = record { number = l.table; homes = l.homes.items; held = l.held.items; table = t }

abbrev pub stage : Session → Stage
stage s = stage_of s.ledger (view s.table.records)

-- why an edit is not performed: it is no order, or there is no memory
abbrev pub Unperformed : Stage → Edit → Complaint → Type 0
Unperformed s x c = (c ≡ NoMemory) ⊎ Complains s.homes s.number s.held x c

-- what an edit leaves: the table is as after the order that the edit is, the reply is the table's answer
-- in the script's names, and what the answers so far tell of the entries stays true
pub record Performed (s s' : Stage) (x : Edit) (reply : Result Reply EditFault) : Type 0 where
  pub order : Order
  pub unspent : List Reservation
  pub number : s'.number ≡ s.number
  pub means : OrderOf s.homes s.number s.held unspent x order
  pub table : s'.table ≡ (carried s.table order).0
  pub replies : reply ≡ reply_of s.homes (carried s.table order).1
  pub grants : s'.homes ≡ s.homes ++ unit_granted (carried s.table order).1
  pub holds : s'.held ≡ unspent ++ kept_back (carried s.table order).1
  pub law : (h : History) → Stands h s.table → Stands (act_of s.table order ∷ h) s'.table
  pub growth : (h : Deeds) → Grows h s.table → Grows (deed_of s.table order ∷ h) s'.table
  pub units : s.homes ≡ units_in s.table.entries → s'.homes ≡ units_in s'.table.entries

-- where edits have led from one stage to another: what calls and answers tell of the first table they tell, with
-- more of them, of the second; and the units that are kept are still those of the entries
pub record Led (s s' : Stage) : Type 0 where
  pub tells : Leads s.table s'.table
  pub units : s.homes ≡ units_in s.table.entries → s'.homes ≡ units_in s'.table.entries
