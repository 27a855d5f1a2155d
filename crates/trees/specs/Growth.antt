-- The calls of a session with all their arguments and their answers, and what they alone tell of the trees.
use Rattle.std.specs.Prelude.{◌≡◌, ℕ, ◌+◌, Bool, true, false, cond, not, List, [], ◌∷◌, ◌++◌, length, Ok, Err, filter, Option, Result, ◌==◌, nat_eq}
use Rattle.trees.specs.declared.records.UnitId.{UnitId}
use Rattle.trees.specs.declared.records.UnitEntryId.{UnitEntryId}
use Rattle.trees.specs.declared.records.Reservation.{Reservation}
use Rattle.trees.specs.declared.records.Refusal.{Refusal}
use Rattle.trees.specs.declared.records.EditFault.{EditFault}
use Rattle.trees.specs.declared.records.Attribute.{Attribute}
use Rattle.trees.specs.declared.records.AttributeValue.{AttributeValue}
use Rattle.trees.specs.declared.records.Encoding.{Encoding}
use Rattle.trees.specs.declared.records.LineProgram.{LineProgram}
use Rattle.trees.specs.History.{Act as act, History, Stands}
use Rattle.trees.specs.Lists.{without}
use Rattle.trees.specs.Model.{Entry, Table, entry_of, put, unname}

-- a call with its arguments, and its answer
pub data Deed : Type 0 where
  unit_added : Encoding → Option LineProgram → Result UnitId EditFault → Deed
  reserved : UnitId → Result (UnitEntryId × Reservation) EditFault → Deed
  reserved_added : Reservation → UnitEntryId → ℕ → Result Unit Refusal → Deed
  entry_added : UnitEntryId → ℕ → Result UnitEntryId EditFault → Deed
  gave_back : Reservation → Bool → Deed
  child_deleted : UnitEntryId → UnitEntryId → Result Bool EditFault → Deed
  sibling_set : UnitEntryId → Bool → Result Unit EditFault → Deed
  attribute_set : UnitEntryId → ℕ → AttributeValue → Result Unit EditFault → Deed
  attribute_deleted : UnitEntryId → ℕ → Result Unit EditFault → Deed
  -- a step of a write: the base types among the children of an entry move to the front
  bases_moved : ℕ → Bool → Deed

-- the latest first
abbrev pub Deeds : Type 0
Deeds = List Deed

-- what an entry holds besides its state
pub record Contents : Type 0 where
  pub tag : ℕ
  pub sibling : Bool
  pub attributes : List Attribute
  pub children : List ℕ

abbrev pub contents_of : Entry → Contents
contents_of e = record { tag = e.tag; sibling = e.sibling; attributes = e.attributes; children = e.children }

abbrev pub contents_in : Table → ℕ → Contents
contents_in t e = contents_of (entry_of t e)

-- nothing yet
abbrev pub nothing : Contents
nothing = record { tag = 0; sibling = false; attributes = []; children = [] }

-- another tag; one more child, the last; one child less; another flag; other attributes
abbrev pub tagged : ℕ → Contents → Contents
tagged tag c = record { tag = tag; sibling = c.sibling; attributes = c.attributes; children = c.children }

abbrev pub gains : ℕ → Contents → Contents
gains x c = record { tag = c.tag; sibling = c.sibling; attributes = c.attributes; children = c.children ++ x ∷ [] }

abbrev pub loses : ℕ → Contents → Contents
loses x c = record { tag = c.tag; sibling = c.sibling; attributes = c.attributes; children = without x c.children }

abbrev pub flags : Bool → Contents → Contents
flags b c = record { tag = c.tag; sibling = b; attributes = c.attributes; children = c.children }

abbrev pub amends : (List Attribute → List Attribute) → Contents → Contents
amends f c = record { tag = c.tag; sibling = c.sibling; attributes = f c.attributes; children = c.children }

-- the children that pass a test first, then the others; both groups keep their order
abbrev pub reorders : (ℕ → Bool) → Contents → Contents
reorders base c = record { tag = c.tag; sibling = c.sibling; attributes = c.attributes; children = filter base c.children ++ filter (λ x. not (base x)) c.children }

-- a change of one entry
abbrev pub at : ℕ → (Contents → Contents) → (ℕ → Contents) → ℕ → Contents
at i g f e = cond (e == i) (g (f e)) (f e)

-- what an answer makes of the trees, where n entries stood before the call: a unit's root comes with
-- its tag, a placed entry with its tag as the last child of its parent, a child taken out leaves the
-- list, what was set or dropped stands so, and base types (tag 0x24) come first where a write moved
-- them; a refusal changes nothing
abbrev pub grown : ℕ → Deed → (ℕ → Contents) → ℕ → Contents
grown n (unit_added encoding line (Ok u)) f = at n (tagged 17) f
grown n (unit_added encoding line (Err x)) f = f
grown n (reserved u r) f = f
grown n (reserved_added r p tag (Ok a)) f = at p.entry (gains r.id.entry) (at r.id.entry (tagged tag) f)
grown n (reserved_added r p tag (Err x)) f = f
grown n (entry_added p tag (Ok i)) f = at p.entry (gains i.entry) (at i.entry (tagged tag) f)
grown n (entry_added p tag (Err x)) f = f
grown n (gave_back r a) f = f
grown n (child_deleted p c (Ok true)) f = at p.entry (loses c.entry) f
grown n (child_deleted p c (Ok false)) f = f
grown n (child_deleted p c (Err x)) f = f
grown n (sibling_set i b (Ok a)) f = at i.entry (flags b) f
grown n (sibling_set i b (Err x)) f = f
grown n (attribute_set i name value (Ok a)) f = at i.entry (amends (put (record { name = name; value = value }))) f
grown n (attribute_set i name value (Err x)) f = f
grown n (attribute_deleted i name (Ok a)) f = at i.entry (amends (unname name)) f
grown n (attribute_deleted i name (Err x)) f = f
grown n (bases_moved p true) f = at p (reorders (λ x. nat_eq (f x).tag 36)) f
grown n (bases_moved p false) f = f

-- the entries that the answers so far made: roots, and those granted
abbrev pub makes_entries : Deed → ℕ
makes_entries (unit_added encoding line (Ok u)) = 1
makes_entries (unit_added encoding line (Err f)) = 0
makes_entries (reserved u (Ok a)) = 1
makes_entries (reserved u (Err f)) = 0
makes_entries (reserved_added r p tag a) = 0
makes_entries (entry_added p tag (Ok i)) = 1
makes_entries (entry_added p tag (Err f)) = 0
makes_entries (gave_back r a) = 0
makes_entries (child_deleted p c a) = 0
makes_entries (sibling_set i b a) = 0
makes_entries (attribute_set i name value a) = 0
makes_entries (attribute_deleted i name a) = 0
makes_entries (bases_moved p a) = 0

abbrev pub entries_by : Deeds → ℕ
entries_by [] = 0
entries_by (a ∷ h) = makes_entries a + entries_by h

-- the trees, by the answers so far
abbrev pub contents_by : Deeds → ℕ → Contents
contents_by [] = λ e. nothing
contents_by (a ∷ h) = grown (entries_by h) a (contents_by h)

-- what the answers so far tell of the trees
pub record Grows (h : Deeds) (t : Table) : Type 0 where
  pub entries : length t.entries ≡ entries_by h
  pub trees : (e : ℕ) → contents_in t e ≡ contents_by h e

-- a call without the arguments that the states need not; a step of a write is no call
abbrev pub acts_of : Deed → History
acts_of (unit_added encoding line r) = act.unit_added r ∷ []
acts_of (reserved u r) = act.reserved u r ∷ []
acts_of (reserved_added r p tag a) = act.reserved_added r p a ∷ []
acts_of (entry_added p tag r) = act.entry_added p r ∷ []
acts_of (gave_back r a) = act.gave_back r a ∷ []
acts_of (child_deleted p c r) = act.child_deleted p c r ∷ []
acts_of (sibling_set i b r) = act.edited r ∷ []
acts_of (attribute_set i name value r) = act.edited r ∷ []
acts_of (attribute_deleted i name r) = act.edited r ∷ []
acts_of (bases_moved p r) = []

abbrev pub acts_in : Deeds → History
acts_in [] = []
acts_in (d ∷ h) = acts_of d ++ acts_in h

-- what the answers so far tell of the table: of its states, and of its trees
abbrev pub Tells : Deeds → Table → Type 0
Tells h t = Stands (acts_in h) t × Grows h t
