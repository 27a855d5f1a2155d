-- Which entry a script's name is. `homes` has the unit of each entry of a table, in the order granted.
use Rattle.std.specs.Prelude.{◌≡◌, ℕ, ◌<◌, ◌≤◌, ◌⊎◌, List, length, take, slice_index}
use Rattle.trees.specs.declared.records.UnitEntryId.{UnitEntryId}
use Rattle.trees.specs.History.{times}
use Rattle.scripts.specs.declared.value.EntryName.{EntryName}

-- the entry e is of the named unit, and was granted after as many of it as its number says
abbrev pub IsEntryOf : List ℕ → EntryName → ℕ → Type 0
IsEntryOf homes x e = (e < length homes) × (slice_index homes e ≡ x.unit) × (times x.unit (take e homes) ≡ x.entry)

-- or so many of its unit were not granted, and e is past the entries of any table
abbrev pub IsNowhere : List ℕ → EntryName → ℕ → Type 0
IsNowhere homes x e = (e ≡ 4294967295) × (times x.unit homes ≤ x.entry)

-- the id of a name, in a table of a number that is not too large to number its entries
pub record Named (homes : List ℕ) (table : ℕ) (x : EntryName) (i : UnitEntryId) : Type 0 where
  pub number : i.table ≡ table
  pub unit : i.unit ≡ x.unit
  pub entry : length homes ≤ 4294967295 → IsEntryOf homes x i.entry ⊎ IsNowhere homes x i.entry
