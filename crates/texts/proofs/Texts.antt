use Rattle.std.proofs.Common.{◌≡◌, ℕ, zero, suc, ◌*◌, ◌%◌, List, [], ◌∷◌, ◌++◌, length, get_or, Some, None, Option, refl, arith}
use Rattle.std.specs.Simd.{first_chunks}
use Rattle.texts.specs.Texts.{onto, byte_of, bytes_after}

-- the bytes that pairs of digits say, after others
abbrev pub after_pairs : List ℕ → List (List ℕ) → Option (List ℕ)
after_pairs acc [] = Some acc
after_pairs acc (p ∷ ps) = onto (λ x. after_pairs (acc ++ x ∷ []) ps) (byte_of (get_or p 0 0) (get_or p 1 0))

onto_same : {X Y : Type 0} (f g : X → Option Y) (o : Option X) → ((x : X) → f x ≡ g x) → onto f o ≡ onto g o
onto_same f g None h = refl
onto_same f g (Some x) h = h x

pub in_pairs : (acc : List ℕ) (k : ℕ) (xs : List ℕ) → length xs ≡ k * 2 → bytes_after acc xs ≡ after_pairs acc (first_chunks 2 k xs)
in_pairs acc zero [] h = refl
in_pairs acc (suc k) (a ∷ b ∷ bs) h =
    let less : length bs ≡ k * 2 = omega (arith, h) in
    onto_same (λ x. bytes_after (acc ++ x ∷ []) bs) (λ x. after_pairs (acc ++ x ∷ []) (first_chunks 2 k bs)) (byte_of a b) (λ x. in_pairs (acc ++ x ∷ []) k bs less)
in_pairs acc zero (a ∷ bs) h = absurd (omega (arith, h))
in_pairs acc (suc k) [] h = absurd (omega (arith, h))
in_pairs acc (suc k) (a ∷ []) h = absurd (omega (arith, h))

-- a digit left over
onto_none : {X Y : Type 0} (f : X → Option Y) (o : Option X) → ((x : X) → f x ≡ None) → onto f o ≡ None
onto_none f None h = refl
onto_none f (Some x) h = h x

pub odd_fails : (acc xs : List ℕ) → length xs % 2 ≡ 1 → bytes_after acc xs ≡ None
odd_fails acc [] h = absurd (omega (arith, h))
odd_fails acc (a ∷ []) h = refl
odd_fails acc (a ∷ b ∷ bs) h =
    let k : length bs % 2 ≡ 1 = omega (arith, h) in
    onto_none (λ x. bytes_after (acc ++ x ∷ []) bs) (byte_of a b) (λ x. odd_fails (acc ++ x ∷ []) bs k)
