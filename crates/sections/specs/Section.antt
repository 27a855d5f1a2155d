use Rattle.std.specs.Prelude.{◌≡◌, ℕ, ◌+◌, ◌-◌, ◌^◌, min, Bool, cond, not, ◌||◌, List, [], ◌∷◌, ◌++◌, length, take, drop, replicate, ℤ, pos, Ok, Err, Result, ◌==◌, nat_le, nat_lt}
use Rattle.numbers.specs.Orders.{bytes_of}
use Rattle.numbers.specs.declared.common.Address.{Address}
use Rattle.numbers.specs.declared.common.Address.TheVariants.{Constant, Symbol}
use Rattle.numbers.specs.declared.common.SectionId.{SectionId}
use Rattle.sections.specs.declared.fault.Fault.{Fault}
use Rattle.sections.specs.declared.fault.Fault.TheVariants.{UnsupportedWordSize, ValueTooLarge, InvalidReference, InvalidAddress, OffsetOutOfBounds, LengthOutOfBounds, SectionFull, NotesFull}
use Rattle.sections.specs.declared.note.Note.{Note}
use Rattle.sections.specs.declared.note.Target.{Target}
use Rattle.sections.specs.declared.note.Target.TheVariants as target
use Rattle.sections.specs.Notes.{has, noted}

-- what a section's writer means: its byte order, its bytes, its notes, and how many of each are left
pub record Section : Type 0 where
  pub big : Bool
  pub bytes : List ℕ
  pub notes : List Note
  pub left : ℕ
  pub spare : ℕ

-- the longest section
abbrev pub section_limit : ℕ
section_limit = 2147483647

-- a call: the section that it leaves, and its answer
abbrev pub Act : Type 0 → Type 0
Act X = Section → Section × Result X Fault

-- the call p took the section s to t and answered r
abbrev pub Ran : {X : Type 0} → Act X → Section → Section → Result X Fault → Type 0
Ran p s t r = p s ≡ (t, r)

-- one call after another; the first that declines ends them, and what stood before it stays
abbrev pub onward : {X Y : Type 0} → (X → Act Y) → Section × Result X Fault → Section × Result Y Fault
onward q o = elim o.1 [ Ok x ↦ q x o.0 | Err e ↦ (o.0, Err e) ]

infixr 20 ◌⨟◌
abbrev pub ◌⨟◌ : {X Y : Type 0} → Act X → Act Y → Act Y
(p ⨟ q) s = onward (λ _. q) (p s)

-- a reason to decline: whether it holds, and the fault that names it
abbrev pub Check : Type 0
Check = Bool × Fault

-- a call declines for the first of its reasons that holds, and then alters nothing
abbrev pub declining : {X : Type 0} → List Check → Act X → Act X
declining [] p s = p s
declining (c ∷ cs) p s = cond c.0 (s, Err c.1) (declining cs p s)

-- the same of a check alone, which has no section
abbrev pub verdict : List Check → Result Unit Fault
verdict [] = Ok tt
verdict (c ∷ cs) = cond c.0 (Err c.1) (verdict cs)

-- an accepted call
abbrev pub becomes : Section → Act Unit
becomes t s = (t, Ok tt)

-- the reasons: words have 1, 2, 3, 4 or 8 bytes
abbrev pub word_sized : ℕ → Bool
word_sized k = k == 1 || (k == 2 || (k == 3 || (k == 4 || k == 8)))

abbrev pub odd_size : ℕ → Check
odd_size size = (not (word_sized size), UnsupportedWordSize size)

-- a number needs more bytes than the word has
abbrev pub too_large : ℕ → ℕ → Check
too_large n size = (nat_le (256 ^ size) n, ValueTooLarge)

-- fewer than k bytes are left
abbrev pub full : ℕ → Section → Check
full k s = (nat_lt s.left k, SectionFull)

-- an offset lies past the end
abbrev pub past_end : ℕ → Section → Check
past_end at s = (nat_lt (length s.bytes) at, OffsetOutOfBounds)

-- k bytes from an offset on would pass the end
abbrev pub over_end : ℕ → ℕ → Section → Check
over_end at k s = (nat_lt (length s.bytes) (at + k), LengthOutOfBounds)

-- a place has no note, and none is left
abbrev pub no_note : ℕ → Section → Check
no_note p s = (not (has p s.notes || nat_lt 0 s.spare), NotesFull)

-- the checks of a number before it becomes a word
abbrev pub word_checks : ℕ → ℕ → List Check
word_checks n size = odd_size size ∷ too_large n size ∷ []

-- more bytes at the end, of those that were left
abbrev pub grown : List ℕ → Section → Section
grown xs s = record { big = s.big; bytes = s.bytes ++ xs; notes = s.notes; left = s.left - length xs; spare = s.spare }

-- the bytes xs in the place of those from `at` on
abbrev pub over : ℕ → List ℕ → List ℕ → List ℕ
over at xs b = take at b ++ (xs ++ drop (at + length xs) b)

abbrev pub mended : ℕ → List ℕ → Section → Section
mended at xs s = record { big = s.big; bytes = over at xs s.bytes; notes = s.notes; left = s.left; spare = s.spare }

-- a note more, or in the place of the one that its place has
abbrev pub with_note : Note → Section → Section
with_note n s = record { big = s.big; bytes = s.bytes; notes = noted n s.notes; left = s.left; spare = cond (has n.place s.notes) s.spare (s.spare - 1) }

-- append bytes
unfoldable pub append : List ℕ → Act Unit
append xs s = declining (full (length xs) s ∷ []) (becomes (grown xs s)) s

-- overwrite the middle
unfoldable pub place : ℕ → List ℕ → Act Unit
place at xs s = declining (past_end at s ∷ over_end at (length xs) s ∷ []) (becomes (mended at xs s)) s

-- a number of `size` bytes in the section's order, at the end or in the middle
abbrev pub number : ℕ → ℕ → Act Unit
number size n s = append (bytes_of s.big size n) s

abbrev pub number_into : ℕ → ℕ → ℕ → Act Unit
number_into at size n s = place at (bytes_of s.big size n) s

-- a word, of a size that words have, that holds its number
unfoldable pub udata : ℕ → ℕ → Act Unit
udata n size = declining (word_checks n size) (number size n)

unfoldable pub udata_at : ℕ → ℕ → ℕ → Act Unit
udata_at at n size = declining (word_checks n size) (number_into at size n)

abbrev pub note_of : ℕ → ℕ → Target → ℤ → Note
note_of p size x a = record { place = p; size = size; target = x; addend = a }

-- a word of zeros at the end, or in the middle, with a note
unfoldable pub note_end : ℕ → Target → ℤ → Act Unit
note_end size x a s =
    declining (full size s ∷ no_note (length s.bytes) s ∷ [])
    (becomes (with_note (note_of (length s.bytes) size x a) (grown (replicate size 0) s))) s

unfoldable pub note_into : ℕ → ℕ → Target → ℤ → Act Unit
note_into at size x a s =
    declining (past_end at s ∷ over_end at size s ∷ no_note at s ∷ [])
    (becomes (with_note (note_of at size x a) (mended at (replicate size 0) s))) s

-- an offset into a section: a number, or zeros and a note where the writer relocates
abbrev pub offset_body : Bool → ℕ → SectionId → ℕ → Act Unit
offset_body relocates n x size s = cond relocates (note_end size (target.Section x) (pos n) s) (number size n s)

abbrev pub offset_into_body : Bool → ℕ → ℕ → SectionId → ℕ → Act Unit
offset_into_body relocates at n x size s = cond relocates (note_into at size (target.Section x) (pos n) s) (number_into at size n s)

unfoldable pub offset : Bool → ℕ → SectionId → ℕ → Act Unit
offset relocates n x size = declining (word_checks n size) (offset_body relocates n x size)

unfoldable pub offset_at : Bool → ℕ → ℕ → SectionId → ℕ → Act Unit
offset_at relocates at n x size = declining (word_checks n size) (offset_into_body relocates at n x size)

-- a symbol, which a plain writer declines before anything else
abbrev pub symbol_checks : Bool → Fault → ℕ → List Check
symbol_checks relocates e size = (not relocates, e) ∷ odd_size size ∷ []

unfoldable pub reference : Bool → ℕ → ℕ → Act Unit
reference relocates x size = declining (symbol_checks relocates InvalidReference size) (note_end size (target.Symbol x) (pos 0))

-- an address: a number, or a symbol plus an addend
abbrev pub address_checks : Bool → Address → ℕ → List Check
address_checks relocates (Constant n) size = word_checks n size
address_checks relocates (Symbol x a) size = symbol_checks relocates InvalidAddress size

abbrev pub address_body : Address → ℕ → Act Unit
address_body (Constant n) size = number size n
address_body (Symbol x a) size = note_end size (target.Symbol x) a

unfoldable pub address : Bool → Address → ℕ → Act Unit
address relocates a size = declining (address_checks relocates a size) (address_body a size)

-- the same section under a limit
abbrev pub capped : ℕ → Section → Section
capped limit s = record { big = s.big; bytes = s.bytes; notes = s.notes; left = min s.left (limit - length s.bytes); spare = s.spare }
