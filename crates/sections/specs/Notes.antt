use Rattle.std.specs.Prelude.{ℕ, Bool, true, false, cond, List, [], ◌∷◌, ◌++◌, Some, None, Option, ◌==◌, codes}
use Rattle.std.specs.Fmt.{decimal}
use Rattle.numbers.specs.Common.{section_name}
use Rattle.sections.specs.declared.note.Note.{Note}
use Rattle.sections.specs.declared.note.Target.{Target}
use Rattle.sections.specs.declared.note.Target.TheVariants.{Section, Symbol}

-- what a target is called
abbrev pub target_name : Target → List ℕ
target_name (Section x) = section_name x
target_name (Symbol n) = codes "symbol " ++ decimal n

-- whether a place has a note
abbrev pub has : ℕ → List Note → Bool
has p [] = false
has p (n ∷ ns) = cond (n.place == p) true (has p ns)

-- the note of a place
abbrev pub note_at : ℕ → List Note → Option Note
note_at p [] = None
note_at p (n ∷ ns) = cond (n.place == p) (Some n) (note_at p ns)

-- a note in the place of the one that its place has, or else as a new one
abbrev pub noted : Note → List Note → List Note
noted n [] = n ∷ []
noted n (m ∷ ms) = cond (m.place == n.place) (n ∷ ms) (m ∷ noted n ms)

-- no two notes share a place
abbrev pub distinct : List Note → Bool
distinct [] = true
distinct (n ∷ ns) = cond (has n.place ns) false (distinct ns)
