-- What a table holds, and what each call makes of it.
use Rattle.std.specs.Prelude.{ℕ, ◌+◌, ◌-◌, min, Bool, true, false, cond, not, ◌&&◌, ◌||◌, List, [], ◌∷◌, ◌++◌, length, take, Some, None, Ok, Err, Option, Result, ◌==◌, nat_le, nat_lt, slice_index_or, slice_set}
use Rattle.numbers.specs.declared.common.Format.TheVariants.{Dwarf32}
use Rattle.trees.specs.declared.records.UnitId.{UnitId}
use Rattle.trees.specs.declared.records.UnitEntryId.{UnitEntryId}
use Rattle.trees.specs.declared.records.Reservation.{Reservation}
use Rattle.trees.specs.declared.records.Refusal.{Refusal}
use Rattle.trees.specs.declared.records.Attribute.{Attribute}
use Rattle.trees.specs.declared.records.Span.{Span}
use Rattle.trees.specs.declared.records.AttributeValue.{AttributeValue}
use Rattle.trees.specs.declared.records.AttributeValue.TheVariants.{Address, Block, Data1, Data2, Data4, Data8, Data16, Sdata, Udata, ImplicitConst, Exprloc, Flag, FlagPresent, UnitRef, DebugInfoRef, DebugInfoRefSup, LineProgramRef, LocationListRef, DebugMacinfoRef, DebugMacroRef, RangeListRef, DebugTypesRef, StringRef, DebugStrRefSup, LineStringRef, String, Encoding as EncodingOf, DecimalSign, Endianity, Accessibility, Visibility, Virtuality, Language, AddressClass, IdentifierCase, CallingConvention, Inline, Ordering, FileIndex}
use Rattle.trees.specs.declared.records.Encoding.{Encoding}
use Rattle.trees.specs.declared.records.LineProgram.{LineProgram}
use Rattle.trees.specs.declared.records.UnitRecord.{UnitRecord}
use Rattle.trees.specs.declared.records.Note.{Note}
use Rattle.trees.specs.declared.records.State.{State}
use Rattle.trees.specs.declared.records.State.TheVariants.{Root, Waiting, Placed, TakenOut, GivenBack}
use Rattle.trees.specs.declared.records.EditFault.{EditFault}
use Rattle.trees.specs.declared.records.EditFault.TheVariants.{SiblingName, SpanOutOfBounds, UnknownId, NotWaiting, UnitWritten, SessionClosed, TableFull}
use Rattle.trees.specs.Lists.{has, without}

-- the number of a refusal
abbrev pub number_of : EditFault → ℕ
number_of SiblingName = 9
number_of SpanOutOfBounds = 10
number_of UnknownId = 11
number_of NotWaiting = 12
number_of UnitWritten = 13
number_of SessionClosed = 14
number_of TableFull = 15

-- an entry: its attributes in the order first set, its children in their order, and what the last write noted of it
pub record Entry : Type 0 where
  pub unit : ℕ
  pub state : State
  pub tag : ℕ
  pub sibling : Bool
  pub note : Note
  pub attributes : List Attribute
  pub children : List ℕ

-- a table: its units and entries by number, its byte pool, and how many records are left
pub record Table : Type 0 where
  pub number : ℕ
  pub closed : Bool
  pub units : List UnitRecord
  pub entries : List Entry
  pub pool : List ℕ
  pub units_left : ℕ
  pub entries_left : ℕ
  pub attributes_left : ℕ

-- not put down yet
abbrev pub no_note : Note
no_note = record { offset = 0; code = 0 }

-- what a number past the end stands for
abbrev pub no_entry : Entry
no_entry = record { unit = 0; state = GivenBack; tag = 0; sibling = false; note = no_note; attributes = []; children = [] }

abbrev pub no_unit : UnitRecord
no_unit = record { encoding = record { version = 0; format = Dwarf32; address_size = 0 }; line = None; root = 0; written = false }

abbrev pub entry_of : Table → ℕ → Entry
entry_of t e = slice_index_or t.entries e no_entry

abbrev pub unit_of : Table → ℕ → UnitRecord
unit_of t u = slice_index_or t.units u no_unit

abbrev pub is_waiting : State → Bool
is_waiting Root = false
is_waiting Waiting = true
is_waiting Placed = false
is_waiting TakenOut = false
is_waiting GivenBack = false

abbrev pub is_given_back : State → Bool
is_given_back Root = false
is_given_back Waiting = false
is_given_back Placed = false
is_given_back TakenOut = false
is_given_back GivenBack = true

-- the ids that a table knows: its own number, a unit that it has; an entry of that unit, not given back
abbrev pub knows_unit : Table → UnitId → Bool
knows_unit t u = u.table == t.number && nat_lt u.unit (length t.units)

abbrev pub knows : Table → UnitEntryId → Bool
knows t i = i.table == t.number && (nat_lt i.entry (length t.entries)
    && ((entry_of t i.entry).unit == i.unit && not (is_given_back (entry_of t i.entry).state)))

-- two known entries of one unit
abbrev pub knows_both : Table → UnitEntryId → UnitEntryId → Bool
knows_both t i j = knows t i && (knows t j && i.unit == j.unit)

abbrev pub entry_id : Reservation → UnitEntryId
entry_id r = r.id

-- a test that declines a call, with its refusal
abbrev pub Check : Type 0
Check = Bool × EditFault

-- the first that holds decides
abbrev pub first_fault : List Check → Option EditFault
first_fault [] = None
first_fault (c ∷ cs) = cond c.0 (Some c.1) (first_fault cs)

-- what an edit in unit u tests first: session closed, an id not known, unit written
abbrev pub edit_checks : Table → Bool → ℕ → List Check → List Check
edit_checks t known u more = (t.closed, SessionClosed) ∷ ((not known, UnknownId) ∷ (((unit_of t u).written, UnitWritten) ∷ more))

-- a declined call leaves the table
abbrev pub unless : {X E : Type 0} → Option EditFault → (EditFault → E) → Table → Table × Result X E → Table × Result X E
unless None err t done = done
unless (Some f) err t done = (t, Err (err f))

abbrev pub as_is : EditFault → EditFault
as_is f = f

abbrev pub passes : Option EditFault → Result Unit EditFault
passes None = Ok tt
passes (Some f) = Err f

-- one entry changed
abbrev pub change : ℕ → (Entry → Entry) → List Entry → List Entry
change e f es = slice_set es e (f (slice_index_or es e no_entry))

-- a table with other entries
abbrev pub with_entries : Table → List Entry → Table
with_entries t es = record { number = t.number; closed = t.closed; units = t.units; entries = es; pool = t.pool; units_left = t.units_left; entries_left = t.entries_left; attributes_left = t.attributes_left }

-- a new entry in unit u
abbrev pub new_entry : ℕ → State → ℕ → Entry
new_entry u s tag = record { unit = u; state = s; tag = tag; sibling = false; note = no_note; attributes = []; children = [] }

abbrev pub grant : Table → ℕ → Table
grant t u = record { number = t.number; closed = t.closed; units = t.units; entries = t.entries ++ new_entry u Waiting 0 ∷ []; pool = t.pool; units_left = t.units_left; entries_left = t.entries_left - 1; attributes_left = t.attributes_left }

-- what becomes of an entry
abbrev pub become : State → ℕ → Entry → Entry
become s tag e = record { unit = e.unit; state = s; tag = tag; sibling = e.sibling; note = e.note; attributes = e.attributes; children = e.children }

abbrev pub with_children : List ℕ → Entry → Entry
with_children cs e = record { unit = e.unit; state = e.state; tag = e.tag; sibling = e.sibling; note = e.note; attributes = e.attributes; children = cs }

abbrev pub placed : ℕ → Entry → Entry
placed tag e = become Placed tag e

abbrev pub left : State → Entry → Entry
left s e = become s e.tag e

abbrev pub adopt : ℕ → Entry → Entry
adopt c e = with_children (e.children ++ c ∷ []) e

abbrev pub abandon : ℕ → Entry → Entry
abandon c e = with_children (without c e.children) e

abbrev pub flagged : Bool → Entry → Entry
flagged b e = record { unit = e.unit; state = e.state; tag = e.tag; sibling = b; note = e.note; attributes = e.attributes; children = e.children }

-- c is placed under a tag, last among the children of p
abbrev pub place : Table → ℕ → ℕ → ℕ → Table
place t c p tag = with_entries t (change p (adopt c) (change c (placed tag) t.entries))

-- c is taken out of the children of p
abbrev pub take_out : Table → ℕ → ℕ → Table
take_out t p c = with_entries t (change c (left TakenOut) (change p (abandon c) t.entries))

-- the calls

-- a new table of a number, over memory for so many units, entries and attributes
abbrev pub new_table : ℕ → ℕ → ℕ → ℕ → List ℕ → Table
new_table number us es ats pool = record { number = number; closed = false; units = []; entries = []; pool = take 1048576 pool; units_left = min us 64; entries_left = min es 65535; attributes_left = min ats 65535 }

-- one more unit, with its root
abbrev pub open_unit : Table → Encoding → Option LineProgram → Table
open_unit t encoding line = record {
  number = t.number;
  closed = t.closed;
  units = t.units ++ record { encoding = encoding; line = line; root = length t.entries; written = false } ∷ [];
  entries = t.entries ++ new_entry (length t.units) Root 17 ∷ [];
  pool = t.pool;
  units_left = t.units_left - 1;
  entries_left = t.entries_left - 1;
  attributes_left = t.attributes_left;
}

abbrev pub add_unit : Table → Encoding → Option LineProgram → Table × Result UnitId EditFault
add_unit t encoding line = unless (first_fault ((t.closed, SessionClosed) ∷ ((t.units_left == 0 || (t.entries_left == 0), TableFull) ∷ []))) as_is t
    (open_unit t encoding line, Ok (record { table = t.number; unit = length t.units }))

-- the id of the next entry, in unit u, and its reservation
abbrev pub new_id : Table → ℕ → UnitEntryId
new_id t u = record { table = t.number; unit = u; entry = length t.entries }

abbrev pub new_reservation : Table → ℕ → Reservation
new_reservation t u = record { id = new_id t u }

abbrev pub reserve : Table → UnitId → Table × Result (UnitEntryId × Reservation) EditFault
reserve t u = unless (first_fault (edit_checks t (knows_unit t u) u.unit (((t.entries_left == 0), TableFull) ∷ []))) as_is t
    (grant t u.unit, Ok (new_id t u.unit, new_reservation t u.unit))

abbrev pub add_reserved : Table → Reservation → UnitEntryId → ℕ → Table × Result Unit Refusal
add_reserved t r p tag = unless (first_fault (edit_checks t (knows_both t (entry_id r) p) r.id.unit ((not (is_waiting (entry_of t r.id.entry).state), NotWaiting) ∷ [])))
    (λ f. record { fault = f; reservation = r }) t
    (place t r.id.entry p.entry tag, Ok tt)

abbrev pub add : Table → UnitEntryId → ℕ → Table × Result UnitEntryId EditFault
add t p tag = unless (first_fault (edit_checks t (knows t p) p.unit (((t.entries_left == 0), TableFull) ∷ []))) as_is t
    (place (grant t p.unit) (length t.entries) p.entry tag, Ok (new_id t p.unit))

-- giving back is never declined: yes if the entry was waiting here
abbrev pub give_back : Table → Reservation → Table × Bool
give_back t r = cond (knows t (entry_id r) && is_waiting (entry_of t r.id.entry).state)
    (with_entries t (change r.id.entry (left GivenBack) t.entries), true)
    (t, false)

abbrev pub delete_child : Table → UnitEntryId → UnitEntryId → Table × Result Bool EditFault
delete_child t p c = unless (first_fault (edit_checks t (knows_both t p c) p.unit [])) as_is t
    (cond (has c.entry (entry_of t p.entry).children) (take_out t p.entry c.entry, Ok true) (t, Ok false))

abbrev pub set_sibling : Table → UnitEntryId → Bool → Table × Result Unit EditFault
set_sibling t i b = unless (first_fault (edit_checks t (knows t i) i.unit [])) as_is t
    (with_entries t (change i.entry (flagged b) t.entries), Ok tt)

-- the children of an entry, and none of one that is not known
abbrev pub children_of : Table → UnitEntryId → List ℕ
children_of t i = cond (knows t i) (entry_of t i.entry).children []

-- the root of a unit
abbrev pub root_of : Table → UnitId → Option UnitEntryId
root_of t u = cond (knows_unit t u) (Some (record { table = t.number; unit = u.unit; entry = (unit_of t u.unit).root })) None

-- attributes

-- the part of the pool that a value is, if it is one
abbrev pub span_of : AttributeValue → Option Span
span_of (Address x) = None
span_of (Block s) = Some s
span_of (Data1 x) = None
span_of (Data2 x) = None
span_of (Data4 x) = None
span_of (Data8 x) = None
span_of (Data16 h l) = None
span_of (Sdata x) = None
span_of (Udata x) = None
span_of (ImplicitConst x) = None
span_of (Exprloc s) = Some s
span_of (Flag x) = None
span_of FlagPresent = None
span_of (UnitRef x) = None
span_of (DebugInfoRef x) = None
span_of (DebugInfoRefSup x) = None
span_of LineProgramRef = None
span_of (LocationListRef x) = None
span_of (DebugMacinfoRef x) = None
span_of (DebugMacroRef x) = None
span_of (RangeListRef x) = None
span_of (DebugTypesRef x) = None
span_of (StringRef x) = None
span_of (DebugStrRefSup x) = None
span_of (LineStringRef x) = None
span_of (String s) = Some s
span_of (EncodingOf x) = None
span_of (DecimalSign x) = None
span_of (Endianity x) = None
span_of (Accessibility x) = None
span_of (Visibility x) = None
span_of (Virtuality x) = None
span_of (Language x) = None
span_of (AddressClass x) = None
span_of (IdentifierCase x) = None
span_of (CallingConvention x) = None
span_of (Inline x) = None
span_of (Ordering x) = None
span_of (FileIndex x) = None

abbrev pub within : ℕ → Option Span → Bool
within size None = true
within size (Some s) = nat_le (s.start + s.len) size

-- a value's part of the pool, if it is one, lies in the pool
abbrev pub fits : ℕ → AttributeValue → Bool
fits size v = within size (span_of v)

-- whether a name stands among attributes; its value put where it stands, or last; and dropped
abbrev pub named : ℕ → List Attribute → Bool
named name [] = false
named name (a ∷ as') = a.name == name || named name as'

abbrev pub put : Attribute → List Attribute → List Attribute
put b [] = b ∷ []
put b (a ∷ as') = cond (a.name == b.name) (b ∷ as') (a ∷ put b as')

abbrev pub unname : ℕ → List Attribute → List Attribute
unname name [] = []
unname name (a ∷ as') = cond (a.name == name) as' (a ∷ unname name as')

abbrev pub amend : (List Attribute → List Attribute) → Entry → Entry
amend f e = record { unit = e.unit; state = e.state; tag = e.tag; sibling = e.sibling; note = e.note; attributes = f e.attributes; children = e.children }

-- the attributes of an entry changed, and so many records left
abbrev pub amended : Table → ℕ → (List Attribute → List Attribute) → ℕ → Table
amended t e f spare = record { number = t.number; closed = t.closed; units = t.units; entries = change e (amend f) t.entries; pool = t.pool; units_left = t.units_left; entries_left = t.entries_left; attributes_left = spare }

abbrev pub with_spare : Table → ℕ → Table
with_spare t spare = record { number = t.number; closed = t.closed; units = t.units; entries = t.entries; pool = t.pool; units_left = t.units_left; entries_left = t.entries_left; attributes_left = spare }

-- a value replaced where its name stands, or appended, which takes a record
abbrev pub set_attribute : Table → UnitEntryId → ℕ → AttributeValue → Table × Result Unit EditFault
set_attribute t i name value =
    unless (first_fault (edit_checks t (knows t i) i.unit
    (((name == 1), SiblingName) ∷ ((not (fits (length t.pool) value), SpanOutOfBounds)
    ∷ ((not (named name (entry_of t i.entry).attributes) && (t.attributes_left == 0), TableFull) ∷ []))))) as_is t
    (amended t i.entry (put (record { name = name; value = value })) (cond (named name (entry_of t i.entry).attributes) t.attributes_left (t.attributes_left - 1)), Ok tt)

-- an attribute dropped, whose record is free again
abbrev pub delete_attribute : Table → UnitEntryId → ℕ → Table × Result Unit EditFault
delete_attribute t i name =
    unless (first_fault (edit_checks t (knows t i) i.unit [])) as_is t
    (amended t i.entry (unname name) (cond (named name (entry_of t i.entry).attributes) (t.attributes_left + 1) t.attributes_left), Ok tt)

-- the attributes of an entry, and none of one that is not known
abbrev pub attributes_of : Table → UnitEntryId → List Attribute
attributes_of t i = cond (knows t i) (entry_of t i.entry).attributes []

-- what the writer of units does besides

-- the session is closed: only giving back and looking goes on
abbrev pub close_session : Table → Table
close_session t = record { number = t.number; closed = true; units = t.units; entries = t.entries; pool = t.pool; units_left = t.units_left; entries_left = t.entries_left; attributes_left = t.attributes_left }

abbrev pub as_written : UnitRecord → UnitRecord
as_written u = record { encoding = u.encoding; line = u.line; root = u.root; written = true }

-- a unit is marked written: it is edited no more
abbrev pub mark_written : Table → ℕ → Table
mark_written t u = record { number = t.number; closed = t.closed; units = slice_set t.units u (as_written (unit_of t u)); entries = t.entries; pool = t.pool; units_left = t.units_left; entries_left = t.entries_left; attributes_left = t.attributes_left }

abbrev pub written_if : Table → UnitId → Table × Bool
written_if t u = cond (knows_unit t u) (mark_written t u.unit, true) (t, false)

-- a unit's record
abbrev pub unit_if : Table → UnitId → Option UnitRecord
unit_if t u = cond (knows_unit t u) (Some (unit_of t u.unit)) None

-- an entry's tag and sibling flag
abbrev pub tag_if : Table → UnitEntryId → Option (ℕ × Bool)
tag_if t i = cond (knows t i) (Some ((entry_of t i.entry).tag, (entry_of t i.entry).sibling)) None

-- what a write notes of an entry
abbrev pub noted : Note → Entry → Entry
noted m e = record { unit = e.unit; state = e.state; tag = e.tag; sibling = e.sibling; note = m; attributes = e.attributes; children = e.children }

abbrev pub note_if : Table → UnitEntryId → Note → Table × Bool
note_if t i m = cond (knows t i) (with_entries t (change i.entry (noted m) t.entries), true) (t, false)

abbrev pub note_of : Table → UnitEntryId → Option Note
note_of t i = cond (knows t i) (Some (entry_of t i.entry).note) None
