use Rattle.std.specs.Prelude.{◌≡◌, ℕ, ◌+◌, ◌<◌, ◌≤◌, Bool, false, ◌⊎◌, List, length, take, drop, ℤ, pos, Some, None, Ok}
use Rattle.numbers.specs.Orders.{value_of}
use Rattle.numbers.specs.declared.common.Address.{Address}
use Rattle.numbers.specs.declared.common.SectionId.{SectionId}
use Rattle.sections.specs.Notes.{note_at}
use Rattle.sections.specs.Section.{Section, Act, append, place, address, offset, offset_at, reference, udata_at}

-- the number at a place: its note's addend, else the value of its `size` bytes in the section's order
unfoldable pub number_at : Section → ℕ → ℕ → ℤ
number_at s p size = elim (note_at p s.notes) [ Some n ↦ n.addend | None ↦ pos (value_of s.big (take size (drop p s.bytes))) ]

-- the calls that append
pub data Appending : Type 0 where
  these_bytes : List ℕ → Appending
  an_address : Address → ℕ → Appending
  an_offset : ℕ → SectionId → ℕ → Appending
  a_symbol : ℕ → ℕ → Appending

abbrev pub appending : Bool → Appending → Act Unit
appending relocates (these_bytes xs) = append xs
appending relocates (an_address a size) = address relocates a size
appending relocates (an_offset n x size) = offset relocates n x size
appending relocates (a_symbol x size) = reference relocates x size

-- the calls that overwrite, each with where it begins and how many bytes it writes
pub data Overwriting : Type 0 where
  bytes_at : ℕ → List ℕ → Overwriting
  an_offset_at : ℕ → ℕ → SectionId → ℕ → Overwriting

abbrev pub overwriting : Bool → Overwriting → Act Unit
overwriting relocates (bytes_at at xs) = place at xs
overwriting relocates (an_offset_at at n x size) = offset_at relocates at n x size

abbrev pub start : Overwriting → ℕ
start (bytes_at at xs) = at
start (an_offset_at at n x size) = at

abbrev pub extent : Overwriting → ℕ
extent (bytes_at at xs) = length xs
extent (an_offset_at at n x size) = size

-- a word of `size` bytes at p that a call does not overlap
pub record Clear (c : Overwriting) (p size : ℕ) : Type 0 where
  pub elsewhere : p ≡ start c → ⊥
  pub beside : (p + size ≤ start c) ⊎ (start c + extent c ≤ p)

-- an append, declined or not, changes no number at an earlier place
abbrev pub AppendKeeps : Type 0
AppendKeeps = (relocates : Bool) (c : Appending) (s : Section) (p size : ℕ) → p < length s.bytes → p + size ≤ length s.bytes
    → number_at (appending relocates c s).0 p size ≡ number_at s p size

-- an overwrite, declined or not, changes only the numbers that it overlaps
abbrev pub OverwriteKeeps : Type 0
OverwriteKeeps = (relocates : Bool) (c : Overwriting) (s : Section) (p size : ℕ) → Clear c p size
    → number_at (overwriting relocates c s).0 p size ≡ number_at s p size

-- a word that was filled by a number is that number, at a place that has no note
abbrev pub WordSays : Type 0
WordSays = (at n size : ℕ) (s t : Section) → udata_at at n size s ≡ (t, Ok tt) → note_at at s.notes ≡ None → number_at t at size ≡ pos n

-- a word that was filled by an offset is that offset: a relocating writer notes it, and a plain one has no note there
abbrev pub OffsetSays : Type 0
OffsetSays = (relocates : Bool) (at n : ℕ) (x : SectionId) (size : ℕ) (s t : Section) → offset_at relocates at n x size s ≡ (t, Ok tt)
    → (relocates ≡ false → note_at at s.notes ≡ None) → number_at t at size ≡ pos n

-- what later proofs use of the number at a place
pub record NumbersStand : Type 0 where
  pub appended : AppendKeeps
  pub overwritten : OverwriteKeeps
  pub word : WordSays
  pub offset_word : OffsetSays
