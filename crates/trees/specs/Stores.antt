-- What the private functions write: the stores of one step, record by record.
use Rattle.std.specs.Prelude.{ℕ, Bool, false, cond, List, get_or, ◌==◌, slice_index_or, slice_set}
use Rattle.trees.specs.declared.records.EntryRecord.{EntryRecord}
use Rattle.trees.specs.declared.records.Note.{Note}
use Rattle.trees.specs.declared.records.State.{State}
use Rattle.trees.specs.declared.records.State.TheVariants.{Placed, TakenOut}
use Rattle.trees.specs.Model.{no_note}
use Rattle.trees.specs.View.{blank}

-- one record changed
abbrev pub modify : List EntryRecord → ℕ → (EntryRecord → EntryRecord) → List EntryRecord
modify es i f = slice_set es i (f (slice_index_or es i blank))

-- an entry that no list holds
abbrev pub fresh_record : ℕ → State → ℕ → EntryRecord
fresh_record u s tag = record { unit = u; state = s; tag = tag; sibling = false; parent = 65535; first = 65535; last = 65535; next = 65535; attribute = 65535; note = no_note }

-- placed under p, at the end of its list
abbrev pub placed_record : ℕ → ℕ → EntryRecord → EntryRecord
placed_record p tag r = record { unit = r.unit; state = Placed; tag = tag; sibling = r.sibling; parent = p; first = r.first; last = r.last; next = 65535; attribute = r.attribute; note = r.note }

-- out of its list
abbrev pub loose_record : EntryRecord → EntryRecord
loose_record r = record { unit = r.unit; state = TakenOut; tag = r.tag; sibling = r.sibling; parent = 65535; first = r.first; last = r.last; next = 65535; attribute = r.attribute; note = r.note }

abbrev pub with_ends : ℕ → ℕ → EntryRecord → EntryRecord
with_ends f l r = record { unit = r.unit; state = r.state; tag = r.tag; sibling = r.sibling; parent = r.parent; first = f; last = l; next = r.next; attribute = r.attribute; note = r.note }

abbrev pub with_last : ℕ → EntryRecord → EntryRecord
with_last l r = record { unit = r.unit; state = r.state; tag = r.tag; sibling = r.sibling; parent = r.parent; first = r.first; last = l; next = r.next; attribute = r.attribute; note = r.note }

abbrev pub with_next : ℕ → EntryRecord → EntryRecord
with_next x r = record { unit = r.unit; state = r.state; tag = r.tag; sibling = r.sibling; parent = r.parent; first = r.first; last = r.last; next = x; attribute = r.attribute; note = r.note }

-- with another flag, another state, another note
abbrev pub with_sibling : Bool → EntryRecord → EntryRecord
with_sibling b r = record { unit = r.unit; state = r.state; tag = r.tag; sibling = b; parent = r.parent; first = r.first; last = r.last; next = r.next; attribute = r.attribute; note = r.note }

abbrev pub with_state : State → EntryRecord → EntryRecord
with_state s r = record { unit = r.unit; state = s; tag = r.tag; sibling = r.sibling; parent = r.parent; first = r.first; last = r.last; next = r.next; attribute = r.attribute; note = r.note }

abbrev pub jotted : Note → EntryRecord → EntryRecord
jotted m r = record { unit = r.unit; state = r.state; tag = r.tag; sibling = r.sibling; parent = r.parent; first = r.first; last = r.last; next = r.next; attribute = r.attribute; note = m }

-- c becomes the only child of p, or its last, after l
abbrev pub linked_first : List EntryRecord → ℕ → ℕ → ℕ → List EntryRecord
linked_first es c p tag = modify (modify es c (placed_record p tag)) p (with_ends c c)

abbrev pub linked_after : List EntryRecord → ℕ → ℕ → ℕ → ℕ → List EntryRecord
linked_after es c p l tag = modify (modify (modify es c (placed_record p tag)) l (with_next c)) p (with_last c)

-- the last child of p once c, which follows l, is out
abbrev pub last_without : List EntryRecord → ℕ → ℕ → ℕ → ℕ
last_without es c p l = cond ((get_or es c blank).next == 65535) l (get_or es p blank).last

-- c, the first child of p or the one after l, is taken out
abbrev pub unlinked_first : List EntryRecord → ℕ → ℕ → List EntryRecord
unlinked_first es c p = modify (modify es p (with_ends (get_or es c blank).next (last_without es c p 65535))) c loose_record

abbrev pub unlinked_after : List EntryRecord → ℕ → ℕ → ℕ → List EntryRecord
unlinked_after es c p l = modify (modify (modify es l (with_next (get_or es c blank).next)) p (with_last (last_without (modify es l (with_next (get_or es c blank).next)) c p l))) c loose_record
