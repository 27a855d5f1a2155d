use Rattle.std.specs.Prelude.{ℕ, ◌+◌, ◌-◌, ◌≤◌, List, [], ◌∷◌, length, ℤ}
use Rattle.std.proofs.Common.{arith}
use Rattle.sections.specs.declared.note.Note.{Note}
use Rattle.sections.specs.declared.note.Target.{Target}
use Rattle.sections.specs.Section.{Section, Act, declining, odd_size, note_end, note_into, capped, section_limit}

-- a section under a relocating layer: the notes are the layer's own, at most 512
abbrev pub relocated : List Note → Section → Section
relocated ns s = record { big = s.big; bytes = s.bytes; notes = ns; left = s.left; spare = 512 - length ns }

-- the same section with no note, and all notes of a layer left
abbrev pub bare : Section → Section
bare s = record { big = s.big; bytes = s.bytes; notes = []; left = s.left; spare = 512 }

-- a word of zeros at the end, or in the middle, with a note, of a size that words have
unfoldable pub word_end : ℕ → Target → ℤ → Act Unit
word_end size x a = declining (odd_size size ∷ []) (note_end size x a)

unfoldable pub word_into : ℕ → ℕ → Target → ℤ → Act Unit
word_into at size x a = declining (odd_size size ∷ []) (note_into at size x a)

pub capped_bounded : (limit : ℕ) (s : Section) → length s.bytes + s.left ≤ section_limit → length (capped limit s).bytes + (capped limit s).left ≤ section_limit
capped_bounded limit s h = omega arith
