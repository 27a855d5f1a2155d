-- What each byte order proves of itself: reading undoes writing.
use Rattle.std.specs.Prelude.{◌≡◌, ℕ, zero, suc, ◌*◌, ◌/◌, ◌^◌, ◌<◌, Bool, true, false}
use Rattle.std.proofs.Common.{arith, ap, subst, ◌∙◌}
use Rattle.std.proofs.Math.Numerals.{unary_clauses}
use mathlib.Core.List.{reverse-reverse}
use Rattle.std.proofs.lemmas.Nat.{div_below}
use Rattle.numbers.specs.Orders.{digits, number, bytes_of, value_of}

pub power : (k : ℕ) → 256 ^ suc k ≡ 256 ^ k * 256
power k = simp unary_clauses

number_digits : (size n : ℕ) → n < 256 ^ size → number (digits size n) ≡ n
number_digits zero n h = omega arith
number_digits (suc size) n h =
    let e = number_digits size (n / 256) (div_below n 256 (256 ^ size) (omega arith) (subst (λ m. n < m) (power size) h)) in
    omega arith

pub value_bytes_of : (big : Bool) (size n : ℕ) → n < 256 ^ size → value_of big (bytes_of big size n) ≡ n
unfolding bytes_of value_of
value_bytes_of true size n h = ap number (reverse-reverse (digits size n)) ∙ number_digits size n h
value_bytes_of false size n h = number_digits size n h
