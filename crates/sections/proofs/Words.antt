use Rattle.std.proofs.Common.{◌≡◌, ℕ, zero, suc, ◌+◌, ◌-◌, ◌/◌, ◌%◌, ◌≤◌, Bool, true, false, ◌∷◌, reverse, length, take, drop, ℤ, Err, Result, sym, refl, ap, ◌∙◌, suc-add, arith, length-drop}
use Rattle.std.proofs.lemmas.List.{length-reverse, reverse-append, take-append-drop, drop_at}
use Rattle.numbers.specs.Orders.{bytes_of, digits}
use Rattle.numbers.proofs.Orders.{length_digits}
use Rattle.numbers.specs.declared.common.Address.{Address}
use Rattle.numbers.specs.declared.common.Address.TheVariants.{Constant, Symbol}
use Rattle.sections.specs.declared.fault.Fault.TheVariants.{InvalidAddress}
use Rattle.sections.specs.declared.fault.Fault.{Fault}
use Rattle.sections.specs.Words.{significant}
use Rattle.sections.specs.Section.{Section, udata, address}

-- fewer digits are the first of more
take_digits : (k m n : ℕ) → take k (digits (k + m) n) ≡ digits k n
take_digits zero m n = refl
take_digits (suc k) m n = rw suc-add (ap (λ ds. (n % 256) ∷ ds) (take_digits k m (n / 256)))

front_digits : (size n : ℕ) → size ≤ 8 → take size (digits 8 n) ≡ digits size n
front_digits size n h = let e : 8 ≡ size + (8 - size) = omega arith in ap (λ k. take size (digits k n)) e ∙ take_digits size (8 - size) n

pub word_of : (big : Bool) (size n : ℕ) → size ≤ 8 → significant big size (bytes_of big 8 n) ≡ bytes_of big size n
unfolding bytes_of
word_of true size n h =
    let ds = digits 8 n in
    let long : length (reverse (drop size ds)) ≡ 8 - size = length-reverse (drop size ds) ∙ length-drop size ds ∙ ap (λ k. k - size) (length_digits 8 n) in
    ap (λ xs. drop (8 - size) (reverse xs)) (sym (take-append-drop size ds))
    ∙ ap (drop (8 - size)) (reverse-append (take size ds) (drop size ds))
    ∙ drop_at (reverse (drop size ds)) (reverse (take size ds)) (8 - size) long
    ∙ ap reverse (front_digits size n h)
word_of false size n h = front_digits size n h

-- an address that is a number; a symbol where the writer is plain
pub address_constant : (relocates : Bool) (y : Address) (n size : ℕ) (s t : Section) (r : Result Unit Fault) → y ≡ Constant n → udata n size s ≡ (t, r) → address relocates y size s ≡ (t, r)
unfolding address udata
address_constant relocates y n size s t r e p = ap (λ z. address relocates z size s) e ∙ p

pub address_refused : (y : Address) (x : ℕ) (a : ℤ) (size : ℕ) (s : Section) → y ≡ Symbol x a → address false y size s ≡ (s, Err InvalidAddress)
unfolding address
address_refused y x a size s e = ap (λ z. address false z size s) e
