-- The base types of a unit moved to the front of its root's children, before the unit is laid out.
use Rattle.std.specs.Prelude.{ℕ, Bool, true, false, cond, not, List, ◌++◌, filter, ◌==◌}
use Rattle.trees.specs.declared.records.UnitId.{UnitId}
use Rattle.trees.specs.Model.{Table, entry_of, unit_of, knows_unit, change, with_entries, with_children}

-- DW_TAG_base_type is 0x24
abbrev pub is_base : Table → ℕ → Bool
is_base t c = (entry_of t c).tag == 36

-- the base types, then the others; each group keeps its order
abbrev pub bases_first : Table → List ℕ → List ℕ
bases_first t cs = filter (is_base t) cs ++ filter (λ c. not (is_base t c)) cs

-- other children for p
abbrev pub recast : Table → ℕ → List ℕ → Table
recast t p cs = with_entries t (change p (with_children cs) t.entries)

abbrev pub reordered : Table → ℕ → Table
reordered t u = recast t (unit_of t u).root (bases_first t (entry_of t (unit_of t u).root).children)

abbrev pub reordered_if : Table → UnitId → Table × Bool
reordered_if t u = cond (knows_unit t u) (reordered t u.unit, true) (t, false)
