use Rattle.std.proofs.Common.{◌≡◌, ℕ, ◌+◌, ◌-◌, ◌<◌, ◌≤◌, Bool, List, [], ◌++◌, length, take, drop, Ok, Err, sym, ap, ◌∙◌, append_assoc, arith, length-append, length-drop, length-take}
use Rattle.std.proofs.lemmas.List.{take_at, ext_get_or, places, length-take-le}
use Rattle.sections.specs.declared.fault.Fault.TheVariants.{SectionFull, OffsetOutOfBounds, LengthOutOfBounds}
use Rattle.sections.specs.Section.{Section, over}
use Rattle.writers.specs.Memory.{section_room, front, Appended, Placed}
use Rattle.sections.proofs.Acts.{append_fits, append_full, place_fits, place_past, place_over, length_over}

-- what stands before and in the part that is written
take_over : (at : ℕ) (xs m : List ℕ) → at + length xs ≤ length m → take (at + length xs) (over at xs m) ≡ take at m ++ xs
take_over at xs m h =
    let l : length (take at m ++ xs) ≡ at + length xs = simp (length-append, length-take) (omega arith) in
    ap (take (at + length xs)) (sym (append_assoc (take at m) xs (drop (at + length xs) m))) ∙ take_at (take at m ++ xs) (drop (at + length xs) m) (at + length xs) l

-- a section without notes
abbrev plain : Bool → List ℕ → ℕ → Section
plain b bs l = record { big = b; bytes = bs; notes = []; left = l; spare = 0 }

pub front_appended : (n : ℕ) (xs m m' : List ℕ) → n ≤ section_room m → length xs ≤ section_room m - n → m' ≡ over n xs m → Appended n xs m m' (Ok (n + length xs))
front_appended n xs m m' h fits e =
    let inside : n + length xs ≤ length m = omega arith in
    let same : length m' ≡ length m = ap length e ∙ length_over n xs m inside in
    let bytes : take (n + length xs) m' ≡ take n m ++ xs = ap (take (n + length xs)) e ∙ take_over n xs m inside in
    let left : section_room m' - (n + length xs) ≡ section_room m - n - length xs = omega arith in (
      omega arith,
      λ big.
          append_fits xs (front big n m) fits
          ∙ ap (λ ys. (plain big ys (section_room m - n - length xs), Ok tt)) (sym bytes)
          ∙ ap (λ l. (plain big (take (n + length xs) m') l, Ok tt)) (sym left),
    )

pub front_full : (n : ℕ) (xs m m' : List ℕ) → section_room m - n < length xs → m' ≡ m → Appended n xs m m' (Err SectionFull)
front_full n xs m m' h e = (e, λ big. append_full xs (front big n m) h)

-- a part that is written, within a front
over_front : (u at : ℕ) (xs m : List ℕ) → at + length xs ≤ u → u ≤ length m → take u (over at xs m) ≡ over at xs (take u m)
over_front u at xs m h k = ext_get_or 0 _ _ (simp (length-append, length-take, length-drop) (omega arith)) (λ i lt. grind (arith, places))

pub front_placed : (n at : ℕ) (xs m m' : List ℕ) → n ≤ section_room m → at + length xs ≤ n → m' ≡ over at xs m → Placed n at xs m m' (Ok tt)
front_placed n at xs m m' h fits e =
    let same : length m' ≡ length m = ap length e ∙ length_over at xs m (omega arith) in
    let long : length (take n m) ≡ n = length-take-le n m (omega arith) in
    let bytes : take n m' ≡ over at xs (take n m) = ap (take n) e ∙ over_front n at xs m fits (omega arith) in
    let left : section_room m' - n ≡ section_room m - n = omega arith in
    record {
      within = omega arith;
      placed = λ big.
          place_fits at xs (front big n m) (omega arith)
          ∙ ap (λ ys. (plain big ys (section_room m - n), Ok tt)) (sym bytes)
          ∙ ap (λ l. (plain big (take n m') l, Ok tt)) (sym left);
    }

pub front_past : (n at : ℕ) (xs m m' : List ℕ) → n ≤ section_room m → n < at → m' ≡ m → Placed n at xs m m' (Err OffsetOutOfBounds)
front_past n at xs m m' h past e =
    let long : length (take n m) ≡ n = length-take-le n m (omega arith) in
    record {
      within = omega (arith, ap length e);
      placed = λ big. place_past at xs (front big n m) (omega arith) ∙ ap (λ k. (front big n k, Err OffsetOutOfBounds)) (sym e);
    }

pub front_over : (n at : ℕ) (xs m m' : List ℕ) → n ≤ section_room m → at ≤ n → n < at + length xs → m' ≡ m → Placed n at xs m m' (Err LengthOutOfBounds)
front_over n at xs m m' h inside past e =
    let long : length (take n m) ≡ n = length-take-le n m (omega arith) in
    record {
      within = omega (arith, ap length e);
      placed = λ big. place_over at xs (front big n m) (omega arith) (omega arith) ∙ ap (λ k. (front big n k, Err LengthOutOfBounds)) (sym e);
    }
