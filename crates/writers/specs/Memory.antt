use Rattle.std.specs.Prelude.{◌≡◌, ℕ, ◌+◌, ◌-◌, ◌≤◌, min, Bool, List, [], length, take, Ok, Err, Result}
use Rattle.std.proofs.Common.{arith, length-take}
use Rattle.sections.specs.declared.fault.Fault.{Fault}
use Rattle.sections.specs.Section.{Section, append, place, section_limit}

-- how many bytes of memory a section can have
abbrev pub section_room : List ℕ → ℕ
section_room m = min (length m) section_limit

-- the first n bytes of memory, as a section without notes
abbrev pub front : Bool → ℕ → List ℕ → Section
front big n m = record { big = big; bytes = take n m; notes = []; left = section_room m - n; spare = 0 }

pub front_bounded : (big : Bool) (n : ℕ) (m : List ℕ) → n ≤ section_room m → length (front big n m).bytes + (front big n m).left ≤ section_limit
front_bounded big n m h = simp length-take (omega arith)

-- lent memory of which n bytes were used, as far as a section can reach
abbrev pub used : ℕ → List ℕ → ℕ
used n m = min n (section_room m)

abbrev pub lent : Bool → ℕ → List ℕ → Section
lent big n m = front big (used n m) m

pub lent_bounded : (big : Bool) (n : ℕ) (m : List ℕ) → length (lent big n m).bytes + (lent big n m).left ≤ section_limit
lent_bounded big n m = front_bounded big (used n m) m (omega arith)

-- an append to the first n bytes of memory m, which it leaves as m': the new length, or a refusal
abbrev pub Appended : ℕ → List ℕ → List ℕ → List ℕ → Result ℕ Fault → Type 0
Appended n xs m m' (Ok k) = (k ≤ section_room m') × ((big : Bool) → append xs (front big n m) ≡ (front big k m', Ok tt))
Appended n xs m m' (Err e) = (m' ≡ m) × ((big : Bool) → append xs (front big n m) ≡ (front big n m, Err e))

-- an overwrite in them
pub record Placed (n at : ℕ) (xs m m' : List ℕ) (r : Result Unit Fault) : Type 0 where
  pub within : n ≤ section_room m'
  pub placed : (big : Bool) → place at xs (front big n m) ≡ (front big n m', r)

-- an empty section over a page of 4,096 bytes
abbrev pub empty_page : Bool → Section
empty_page big = record { big = big; bytes = []; notes = []; left = 4096; spare = 0 }

-- an empty section over memory
abbrev pub empty_over : Bool → List ℕ → Section
empty_over big m = record { big = big; bytes = []; notes = []; left = section_room m; spare = 0 }
