use Rattle.std.proofs.Common.{◌≡◌, ℕ, ◌+◌, ◌<◌, cond, ◌==◌, List, length, get_or, take, count_by, refl, arith}
use Rattle.std.proofs.lemmas.Bool.{eq-eqb, ne_eqb}
use Rattle.std.proofs.lemmas.Bool.Decides.{nat_tests}
use Rattle.std.proofs.lemmas.List.Recursion.{is_count_by}
use Rattle.std.proofs.lemmas.List.Sums.{count_by_more_yes, count_by_more_no}
use Rattle.trees.specs.History.{times}

step : (u x n : ℕ) → cond (u == x) 1 0 + n ≡ cond (x == u) (1 + n) n
step u x n = grind (arith, nat_tests)

-- how often a number stands in a list is std's count
pub times_counts : (u : ℕ) (xs : List ℕ) → times u xs ≡ count_by (λ x. x == u) xs
times_counts u xs = is_count_by (times u) (λ x. x == u) refl (λ x ys. step u x (times u ys)) xs

pub times_same : (u : ℕ) (xs : List ℕ) (i : ℕ) → i < length xs → get_or xs i 0 ≡ u → times u (take (i + 1) xs) ≡ times u (take i xs) + 1
times_same u xs i h e =
    let k = count_by_more_yes (λ x. x == u) xs i 0 h (eq-eqb (get_or xs i 0) u e) in
    omega (arith, k, times_counts u (take (i + 1) xs), times_counts u (take i xs))

pub times_other : (u : ℕ) (xs : List ℕ) (i : ℕ) → i < length xs → (get_or xs i 0 ≡ u → ⊥) → times u (take (i + 1) xs) ≡ times u (take i xs)
times_other u xs i h e =
    let k = count_by_more_no (λ x. x == u) xs i 0 h (ne_eqb (get_or xs i 0) u e) in
    omega (arith, k, times_counts u (take (i + 1) xs), times_counts u (take i xs))
