-- What each kind of number proves of its groups of seven bits.
use Rattle.std.specs.Prelude.{◌≡◌, ℕ, ◌+◌, ◌-◌, ◌*◌, ◌/◌, ◌%◌, ◌<◌, ◌≤◌, true, cond, ℤ, pos, negsuc, ◌+ℤ◌, ◌-ℤ◌, ◌*ℤ◌, nat_lt, refl}
use Rattle.std.proofs.Common.{sym, ap, ◌∙◌, ⊎_elim, arith}
use Rattle.std.proofs.lemmas.Int.{ints}
use Rattle.std.proofs.lemmas.Bool.{cases_lt, ltb-true, le-ltb, lt-ltb}
use Rattle.numbers.specs.Leb.{Grouping, unsigned, signed, low7, rest7, is_short_number, sign_extended}

-- taking apart and putting together undo each other, and each group taken off leaves a 128th
pub record Laws {N : Type 0} (g : Grouping N) : Type 0 where
  pub low_below : (n : N) → g.low n < 128
  pub shown : (n : N) → g.is_last n ≡ true → g.last (g.low n) ≡ n
  pub whole : (n : N) → g.joined (g.low n) (g.rest n) ≡ n
  pub parted : (d : ℕ) (n : N) → d < 128 → g.rest (g.joined d n) ≡ n
  pub ends : (b : ℕ) → b < 128 → g.is_last (g.last b) ≡ true
  pub narrow : (n : N) → g.is_last n ≡ nat_lt (g.reach n) 64
  pub shrinks : (n : N) → g.reach (g.rest n) ≡ g.reach n / 128

half_test : (n : ℕ) → nat_lt n 128 ≡ nat_lt (n / 2) 64
half_test n =
    ⊎_elim
    (λ h. let l : n / 2 < 64 = omega arith in lt-ltb n 128 h ∙ sym (lt-ltb (n / 2) 64 l))
    (λ h. let l : 64 ≤ n / 2 = omega arith in le-ltb n 128 h ∙ sym (le-ltb (n / 2) 64 l))
    (cases_lt n 128)

low_shown : (n : ℕ) → nat_lt n 128 ≡ true → n % 128 ≡ n
low_shown n t = let h : n < 128 = ltb-true n 128 t in omega arith

pub unsigned_laws : Laws unsigned
unsigned_laws = record {
  low_below = λ n. omega arith;
  shown = low_shown;
  whole = λ n. omega arith;
  parted = λ d n h. omega arith;
  ends = λ b h. lt-ltb b 128 h;
  narrow = half_test;
  shrinks = λ n. omega arith;
}

low_below : (z : ℤ) → low7 z < 128
low_below (pos n) = omega arith
low_below (negsuc n) = omega arith

-- a number whose high part is negative
below_zero : (low q : ℕ) → low < 128 → pos low +ℤ pos 128 *ℤ negsuc q ≡ negsuc (128 * q + (127 - low))
below_zero low q h = omega (arith, ints)

shown : (z : ℤ) → is_short_number z ≡ true → sign_extended (low7 z) ≡ z
shown (pos n) t =
    let h : n < 64 = ltb-true n 64 t in
    let e : n % 128 ≡ n = omega arith in
    ap sign_extended e ∙ rw (lt-ltb n 64 h)
shown (negsuc n) t =
    let h : n < 64 = ltb-true n 64 t in
    let e : 127 - n % 128 ≡ 127 - n = omega arith in
    let f : 64 ≤ 127 - n = omega arith in
    ap sign_extended e ∙ rw (le-ltb (127 - n) 64 f) (omega (arith, ints))

whole : (z : ℤ) → pos (low7 z) +ℤ pos 128 *ℤ rest7 z ≡ z
whole (pos n) = let w : n % 128 + 128 * (n / 128) ≡ n = omega arith in ap pos w
whole (negsuc n) =
    let w : 128 * (n / 128) + (127 - (127 - n % 128)) ≡ n = omega arith in
    below_zero (127 - n % 128) (n / 128) (omega arith) ∙ ap negsuc w

parted : (d : ℕ) (z : ℤ) → d < 128 → rest7 (pos d +ℤ pos 128 *ℤ z) ≡ z
parted d (pos q) h = let e : (d + 128 * q) / 128 ≡ q = omega arith in ap pos e
parted d (negsuc q) h =
    let e : (128 * q + (127 - d)) / 128 ≡ q = omega arith in
    ap rest7 (below_zero d q h) ∙ ap negsuc e

ends : (b : ℕ) → b < 128 → is_short_number (sign_extended b) ≡ true
ends b h =
    ⊎_elim
    (λ l. ap (λ t. is_short_number (cond t (pos b) (pos b -ℤ pos 128))) (lt-ltb b 64 l) ∙ lt-ltb b 64 l)
    (λ l. let e : pos b -ℤ pos 128 ≡ negsuc (127 - b) = omega (arith, ints) in
    ap (λ t. is_short_number (cond t (pos b) (pos b -ℤ pos 128))) (le-ltb b 64 l) ∙ ap is_short_number e ∙ lt-ltb (127 - b) 64 (omega arith))
    (cases_lt b 64)

narrow : (z : ℤ) → is_short_number z ≡ nat_lt (signed.reach z) 64
narrow (pos n) = refl
narrow (negsuc n) = refl

shrinks : (z : ℤ) → signed.reach (rest7 z) ≡ signed.reach z / 128
shrinks (pos n) = refl
shrinks (negsuc n) = refl

pub signed_laws : Laws signed
signed_laws = record {
  low_below = low_below;
  shown = shown;
  whole = whole;
  parted = parted;
  ends = ends;
  narrow = narrow;
  shrinks = shrinks;
}
