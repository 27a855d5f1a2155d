use Rattle.std.specs.Prelude.{◌≡◌, ℕ, zero, suc, ◌+◌, ◌*◌, ◌/◌, ◌%◌, ◌^◌, ◌<◌, Bool, true, false, List, [], ◌∷◌, ◌++◌, reverse, length, replicate, refl}
use Rattle.std.proofs.Math.Nat.{div-div-eq-div-mul}
use Rattle.std.proofs.Common.{mod-eq_of_lt, mul_comm, zero-add, suc-add, add-one, arith, sym, ap, ◌∙◌}
use mathlib.Core.List.{reverse-cons, reverse-append}
use Rattle.std.proofs.Math.Arith.{mod-mul, digits_div, digits_mod}
use Rattle.std.proofs.lemmas.Nat.{mod_below}
use Rattle.std.proofs.lemmas.List.{length-reverse, replicate_more}
use Rattle.numbers.specs.Orders.{digits, bytes_of, halves_of}
use Rattle.numbers.specs.Reading.{power}

-- sizes

pub length_digits : (size n : ℕ) → length (digits size n) ≡ size
length_digits zero n = refl
length_digits (suc size) n = ap suc (length_digits size (n / 256))

pub length_bytes_of : (big : Bool) (size n : ℕ) → length (bytes_of big size n) ≡ size
unfolding bytes_of
length_bytes_of true size n = length-reverse (digits size n) ∙ length_digits size n
length_bytes_of false size n = length_digits size n

-- the bytes of zero, and one byte

digits_zero : (size : ℕ) → digits size 0 ≡ replicate size 0
digits_zero zero = refl
digits_zero (suc size) = ap (λ ds. 0 ∷ ds) (digits_zero size)

reverse_zeros : (size : ℕ) → reverse {A = ℕ} (replicate size 0) ≡ replicate size 0
reverse_zeros zero = refl
reverse_zeros (suc size) =
    reverse-cons 0 (replicate size 0)
    ∙ ap (λ ds. ds ++ 0 ∷ []) (reverse_zeros size)
    ∙ replicate_more size 0
    ∙ ap (λ k. replicate k 0) (add-one size)

pub bytes_of_zero : (big : Bool) (size : ℕ) → bytes_of big size 0 ≡ replicate size 0
unfolding bytes_of
bytes_of_zero true size = ap reverse (digits_zero size) ∙ reverse_zeros size
bytes_of_zero false size = digits_zero size

pub bytes_of_one : (big : Bool) (n : ℕ) → n < 256 → bytes_of big 1 n ≡ n ∷ []
unfolding bytes_of
bytes_of_one true n h = ap (λ d. d ∷ []) (mod-eq_of_lt h)
bytes_of_one false n h = ap (λ d. d ∷ []) (mod-eq_of_lt h)

-- halves

digits_split : (k m n : ℕ) → digits (k + m) n ≡ digits k n ++ digits m (n / 256 ^ k)
digits_split zero m n = let e : n ≡ n / 1 = omega arith in ap (λ j. digits j n) (zero-add m) ∙ ap (digits m) e
digits_split (suc k) m n =
    ap (λ j. digits j n) (suc-add k m)
    ∙ ap (λ ds. n % 256 ∷ ds) (digits_split k m (n / 256))
    ∙ ap (λ q. n % 256 ∷ (digits k (n / 256) ++ digits m q))
    (div-div-eq-div-mul n 256 (256 ^ k) ∙ ap (λ d. n / d) (mul_comm 256 (256 ^ k) ∙ sym (power k)))

positive : (k : ℕ) → 0 < 256 ^ k
positive zero = omega arith
positive (suc k) = let h = positive k in rw power (omega arith)

digits_low : (k n : ℕ) → digits k (n % 256 ^ k) ≡ digits k n
digits_low zero n = refl
digits_low (suc k) n =
    let e : n % 256 ^ suc k ≡ (n / 256 % 256 ^ k) * 256 + n % 256 = ap (λ d. n % d) (power k) ∙ mod-mul n (positive k) (omega arith) in
    ap (digits (suc k)) e
    ∙ ap (λ d. d ∷ digits k (((n / 256 % 256 ^ k) * 256 + n % 256) / 256)) (digits_mod (n / 256 % 256 ^ k) (mod_below n 256 (omega arith)))
    ∙ ap (λ q. n % 256 ∷ digits k q) (digits_div (n / 256 % 256 ^ k) (mod_below n 256 (omega arith)))
    ∙ ap (λ ds. n % 256 ∷ ds) (digits_low k (n / 256))

digits_halves : (n : ℕ) → digits 16 n ≡ digits 8 (n % 2 ^ 64) ++ digits 8 (n / 2 ^ 64)
digits_halves n = digits_split 8 8 n ∙ ap (λ ds. ds ++ digits 8 (n / 2 ^ 64)) (sym (digits_low 8 n))

-- 16 bytes are two halves of 8: the high one first if big-endian, the low one first if little-endian
pub bytes_halves : (big : Bool) (n : ℕ) → bytes_of big 16 n ≡ halves_of big n
unfolding bytes_of
bytes_halves true n = ap reverse (digits_halves n) ∙ reverse-append (digits 8 (n % 2 ^ 64)) (digits 8 (n / 2 ^ 64))
bytes_halves false n = digits_halves n

-- digits as quotients, which is how `to_le_bytes` has them

abbrev pub places : ℕ → ℕ → ℕ → List ℕ
places d zero n = []
places d (suc k) n = (n / d % 256) ∷ places (d * 256) k n

places_are : (d k n : ℕ) → places d k n ≡ digits k (n / d)
places_are d zero n = refl
places_are d (suc k) n =
    ap (λ ds. n / d % 256 ∷ ds) (places_are (d * 256) k n ∙ ap (digits k) (sym (div-div-eq-div-mul n d 256)))

abbrev pub quotients : ℕ → ℕ → List ℕ
quotients zero n = []
quotients (suc k) n = n % 256 ∷ places 256 k n

quotients_are : (size n : ℕ) → quotients size n ≡ digits size n
quotients_are zero n = refl
quotients_are (suc k) n = ap (λ ds. n % 256 ∷ ds) (places_are 256 k n)

pub writes_little : (size n : ℕ) (xs : List ℕ) → xs ≡ quotients size n → xs ≡ bytes_of false size n
unfolding bytes_of
writes_little size n xs e = e ∙ quotients_are size n

pub writes_big : (size n : ℕ) (xs : List ℕ) → xs ≡ reverse (quotients size n) → xs ≡ bytes_of true size n
unfolding bytes_of
writes_big size n xs e = e ∙ ap reverse (quotients_are size n)
