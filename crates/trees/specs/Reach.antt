-- The tree of a unit in the table as plain lists, and what is reached in it.
use Rattle.std.specs.Prelude.{◌≡◌, ℕ, true, cond, List, [], length}
use Rattle.trees.specs.declared.records.Event.{Event}
use Rattle.trees.specs.declared.records.UnitId.{UnitId}
use Rattle.trees.specs.Lists.{nil, Mem}
use Rattle.trees.specs.Model.{Table, knows_unit, entry_of, unit_of}
use Rattle.trees.specs.Walk.{events, entered}

-- the children of an entry of a table
abbrev pub children_in : Table → ℕ → List ℕ
children_in t e = (entry_of t e).children

-- the root of a unit, or no record where the unit is not known
abbrev pub root_in : Table → UnitId → ℕ
root_in t u = cond (knows_unit t u) (unit_of t u.unit).root nil

-- the events of the tree of a table's entry, which has no more levels than the table has entries
abbrev pub events_from : Table → ℕ → List Event
events_from t e = events (children_in t) (length t.entries) e

-- and of a unit's tree
abbrev pub events_in : Table → UnitId → List Event
events_in t u = cond (knows_unit t u) (events_from t (root_in t u)) []

-- what is reached: the root of a unit that the table has, and any child of a reached entry
pub data Reached (t : Table) (u : UnitId) : ℕ → Type 0 where
  top : knows_unit t u ≡ true → Reached t u (root_in t u)
  below : {p c : ℕ} → Reached t u p → Mem c (children_in t p) → Reached t u c

-- just the reached entries are entered
abbrev pub EntersReached : Table → UnitId → Type 0
EntersReached t u = (e : ℕ) → (Mem e (entered (events_in t u)) → Reached t u e) × (Reached t u e → Mem e (entered (events_in t u)))
