-- The calls of a session with their answers, and what they alone tell of the entries.
use Rattle.std.specs.Prelude.{◌≡◌, ℕ, ◌+◌, ◌<◌, Bool, true, false, cond, ◌≢◌, List, [], ◌∷◌, length, Some, None, Ok, Err, Option, Result, ◌==◌, nat_lt}
use Rattle.trees.specs.declared.records.UnitId.{UnitId}
use Rattle.trees.specs.declared.records.UnitEntryId.{UnitEntryId}
use Rattle.trees.specs.declared.records.Reservation.{Reservation}
use Rattle.trees.specs.declared.records.Refusal.{Refusal}
use Rattle.trees.specs.declared.records.EditFault.{EditFault}
use Rattle.trees.specs.declared.records.State.{State}
use Rattle.trees.specs.declared.records.State.TheVariants.{Root, Waiting, Placed, TakenOut, GivenBack}
use Rattle.trees.specs.Model.{Entry, Table, entry_of}

-- a call and its answer
pub data Act : Type 0 where
  unit_added : Result UnitId EditFault → Act
  reserved : UnitId → Result (UnitEntryId × Reservation) EditFault → Act
  reserved_added : Reservation → UnitEntryId → Result Unit Refusal → Act
  entry_added : UnitEntryId → Result UnitEntryId EditFault → Act
  gave_back : Reservation → Bool → Act
  child_deleted : UnitEntryId → UnitEntryId → Result Bool EditFault → Act
  edited : Result Unit EditFault → Act

-- the latest first
abbrev pub History : Type 0
History = List Act

-- an accepted `reserve` makes an entry waiting, an accepted `add_reserved` or `add` placed,
-- a yes of `delete_child` taken out, a yes of giving back given back; no other answer makes a state
abbrev pub makes : Act → Option (ℕ × State)
makes (unit_added r) = None
makes (reserved u (Ok a)) = Some (a.0.entry, Waiting)
makes (reserved u (Err f)) = None
makes (reserved_added r p (Ok a)) = Some (r.id.entry, Placed)
makes (reserved_added r p (Err f)) = None
makes (entry_added p (Ok i)) = Some (i.entry, Placed)
makes (entry_added p (Err f)) = None
makes (gave_back r true) = Some (r.id.entry, GivenBack)
makes (gave_back r false) = None
makes (child_deleted p c (Ok true)) = Some (c.entry, TakenOut)
makes (child_deleted p c (Ok false)) = None
makes (child_deleted p c (Err f)) = None
makes (edited r) = None

abbrev pub remade : Option (ℕ × State) → ℕ → Option State → Option State
remade None e before = before
remade (Some m) e before = cond (e == m.0) (Some m.1) before

-- the state of an entry, by the answers so far
abbrev pub state_by : History → ℕ → Option State
state_by [] e = None
state_by (a ∷ h) e = remade (makes a) e (state_by h e)

-- accepted `reserve`s and `add`s
abbrev pub grants : Act → ℕ
grants (unit_added r) = 0
grants (reserved u (Ok a)) = 1
grants (reserved u (Err f)) = 0
grants (reserved_added r p a) = 0
grants (entry_added p (Ok i)) = 1
grants (entry_added p (Err f)) = 0
grants (gave_back r a) = 0
grants (child_deleted p c a) = 0
grants (edited r) = 0

abbrev pub granted : History → ℕ
granted [] = 0
granted (a ∷ h) = grants a + granted h

-- the state of an entry in the table; a root has none
abbrev pub of_state : State → Option State
of_state Root = None
of_state Waiting = Some Waiting
of_state Placed = Some Placed
of_state TakenOut = Some TakenOut
of_state GivenBack = Some GivenBack

abbrev pub state_in : Table → ℕ → Option State
state_in t e = cond (nat_lt e (length t.entries)) (of_state (entry_of t e).state) None

-- how many entries are in a state
abbrev pub is_state : State → State → ℕ
is_state Root Root = 1
is_state Root Waiting = 0
is_state Root Placed = 0
is_state Root TakenOut = 0
is_state Root GivenBack = 0
is_state Waiting Root = 0
is_state Waiting Waiting = 1
is_state Waiting Placed = 0
is_state Waiting TakenOut = 0
is_state Waiting GivenBack = 0
is_state Placed Root = 0
is_state Placed Waiting = 0
is_state Placed Placed = 1
is_state Placed TakenOut = 0
is_state Placed GivenBack = 0
is_state TakenOut Root = 0
is_state TakenOut Waiting = 0
is_state TakenOut Placed = 0
is_state TakenOut TakenOut = 1
is_state TakenOut GivenBack = 0
is_state GivenBack Root = 0
is_state GivenBack Waiting = 0
is_state GivenBack Placed = 0
is_state GivenBack TakenOut = 0
is_state GivenBack GivenBack = 1

abbrev pub in_state : State → List Entry → ℕ
in_state s [] = 0
in_state s (e ∷ es) = is_state s e.state + in_state s es

-- how often an entry stands in a list
abbrev pub times : ℕ → List ℕ → ℕ
times e [] = 0
times e (x ∷ xs) = cond (e == x) 1 0 + times e xs

-- each placed entry stands once in one child list, and no other entry in any
pub record Listed (t : Table) : Type 0 where
  pub placed : (e : ℕ) → state_in t e ≡ Some Placed → (p : ℕ) × (p < length t.entries) × (times e (entry_of t p).children ≡ 1) × ((q : ℕ) → q < length t.entries → q ≢ p → times e (entry_of t q).children ≡ 0)
  pub others : (e : ℕ) → state_in t e ≢ Some Placed → (q : ℕ) → q < length t.entries → times e (entry_of t q).children ≡ 0

-- what the answers so far tell of the table
pub record Stands (h : History) (t : Table) : Type 0 where
  pub states : (e : ℕ) → state_in t e ≡ state_by h e
  pub counts : granted h ≡ in_state Waiting t.entries + in_state Placed t.entries + in_state TakenOut t.entries + in_state GivenBack t.entries
  pub lists : Listed t
