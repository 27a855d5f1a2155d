-- A child moves to the end of its list: the model, and the stores.
use Rattle.std.specs.Prelude.{ℕ, cond, List, [], ◌∷◌, ◌++◌, ◌==◌, slice_index_or}
use Rattle.trees.specs.declared.records.EntryRecord.{EntryRecord}
use Rattle.trees.specs.Lists.{without}
use Rattle.trees.specs.Model.{Table, entry_of}
use Rattle.trees.specs.Reorder.{is_base, recast}
use Rattle.trees.specs.Stores.{modify, with_last, with_next}
use Rattle.trees.specs.View.{blank}

-- c moved to the end of a list
abbrev pub moved_last : ℕ → List ℕ → List ℕ
moved_last c cs = without c cs ++ c ∷ []

-- c keeps its place among the children of p if it is a base type, and else becomes the last
abbrev pub settled : Table → ℕ → ℕ → Table
settled t p c = cond (is_base t c) t (recast t p (moved_last c (entry_of t p).children))

abbrev pub with_first : ℕ → EntryRecord → EntryRecord
with_first f r = record { unit = r.unit; state = r.state; tag = r.tag; sibling = r.sibling; parent = r.parent; first = f; last = r.last; next = r.next; attribute = r.attribute; note = r.note }

-- the list of p goes past c, its first or the one after l
abbrev pub detached : List EntryRecord → ℕ → ℕ → ℕ → List EntryRecord
detached es p c l = cond (l == 65535) (modify es p (with_first (slice_index_or es c blank).next)) (modify es l (with_next (slice_index_or es c blank).next))

-- and ends with c, after e
abbrev pub attached : List EntryRecord → ℕ → ℕ → ℕ → List EntryRecord
attached es p c e = modify (modify (modify es c (with_next 65535)) e (with_next c)) p (with_last c)
