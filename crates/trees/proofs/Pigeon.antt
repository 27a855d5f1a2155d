use Rattle.std.proofs.Common.{◌≡◌, ℕ, zero, suc, ◌<◌, ◌≤◌, cond, ltb, ◌≢◌, ◌⊎◌, sym, ap, ◌∙◌, inl, inr, arith}
use Rattle.std.proofs.lemmas.Bool.{cases_lt, cases_eq, lt-ltb, le-ltb, cond-true, cond-false}

-- some index below m at which f is v, or none
pub seek : (f : ℕ → ℕ) (v m : ℕ) → ((k : ℕ) × ((k < m) × (f k ≡ v))) ⊎ ((k : ℕ) → k < m → f k ≡ v → ⊥)
seek f v zero = inr (λ k h e. omega arith)
seek f v (suc m) = go (seek f v m) (cases_eq (f m) v)
  where
    go : ((k : ℕ) × ((k < m) × (f k ≡ v))) ⊎ ((k : ℕ) → k < m → f k ≡ v → ⊥) → (f m ≡ v) ⊎ (f m ≡ v → ⊥)
        → ((k : ℕ) × ((k < suc m) × (f k ≡ v))) ⊎ ((k : ℕ) → k < suc m → f k ≡ v → ⊥)
    go (inl t) d = inl (t.0, (omega arith, t.1.1))
    go (inr u) (inl e) = inl (m, (omega arith, e))
    go (inr u) (inr ne) = inr (λ k h e. last k h e (cases_eq k m))
      where
        last : (k : ℕ) → k < suc m → f k ≡ v → (k ≡ m) ⊎ (k ≡ m → ⊥) → ⊥
        last k h e (inl q) = ne (ap f (sym q) ∙ e)
        last k h e (inr q) = u k (omega arith) e

abbrev pub Apart : (ℕ → ℕ) → ℕ → Type 0
Apart f m = (j k : ℕ) → j < k → k < m → f j ≡ f k → ⊥

-- f without the index k
abbrev pub skip : (ℕ → ℕ) → ℕ → ℕ → ℕ
skip f k j = cond (ltb j k) (f j) (f (suc j))

-- at each index below k `skip` is f, from k on it is f one further
skip_is : (f : ℕ → ℕ) (k j : ℕ) → ((j < k) × (skip f k j ≡ f j)) ⊎ ((k ≤ j) × (skip f k j ≡ f (suc j)))
skip_is f k j = go (cases_lt j k)
  where
    go : (j < k) ⊎ (k ≤ j) → ((j < k) × (skip f k j ≡ f j)) ⊎ ((k ≤ j) × (skip f k j ≡ f (suc j)))
    go (inl h) = inl (h, cond-true _ _ _ (lt-ltb j k h))
    go (inr h) = inr (h, cond-false _ _ _ (le-ltb j k h))

skip_apart : (f : ℕ → ℕ) (m k : ℕ) → Apart f (suc m) → Apart (skip f k) m
skip_apart f m k a i j lt h e = go (skip_is f k i) (skip_is f k j)
  where
    go : ((i < k) × (skip f k i ≡ f i)) ⊎ ((k ≤ i) × (skip f k i ≡ f (suc i))) → ((j < k) × (skip f k j ≡ f j)) ⊎ ((k ≤ j) × (skip f k j ≡ f (suc j))) → ⊥
    go (inl p) (inl q) = a i j lt (omega arith) (cc (e, p.1, q.1))
    go (inl p) (inr q) = a i (suc j) (omega arith) (omega arith) (cc (e, p.1, q.1))
    go (inr p) (inl q) = omega arith
    go (inr p) (inr q) = a (suc i) (suc j) (omega arith) (omega arith) (cc (e, p.1, q.1))

skip_below : (f : ℕ → ℕ) (n m k : ℕ) → ((j : ℕ) → j < suc m → f j < suc n) → Apart f (suc m) → k < suc m → f k ≡ n → (j : ℕ) → j < m → skip f k j < n
skip_below f n m k lt a h e j l = go (skip_is f k j)
  where
    go : ((j < k) × (skip f k j ≡ f j)) ⊎ ((k ≤ j) × (skip f k j ≡ f (suc j))) → skip f k j < n
    go (inl p) = let b = lt j (omega arith) in let ne : f j ≢ n = λ q. a j k p.0 h (q ∙ sym e) in omega arith
    go (inr p) = let b = lt (suc j) (omega arith) in let ne : f (suc j) ≢ n = λ q. a k (suc j) (omega arith) (omega arith) (e ∙ sym q) in omega arith

-- more than n places hold no n numbers that all differ
pub pigeon : (n : ℕ) (f : ℕ → ℕ) (m : ℕ) → ((k : ℕ) → k < m → f k < n) → Apart f m → m ≤ n
pigeon zero f zero lt a = omega arith
pigeon zero f (suc m) lt a = let h = lt zero (omega arith) in absurd (omega arith)
pigeon (suc n) f zero lt a = omega arith
pigeon (suc n) f (suc m) lt a = go (λ g. pigeon n g m) (pigeon n f (suc m)) (seek f n (suc m))
  where
    go : ((g : ℕ → ℕ) → ((k : ℕ) → k < m → g k < n) → Apart g m → m ≤ n) → (((k : ℕ) → k < suc m → f k < n) → Apart f (suc m) → suc m ≤ n)
        → ((k : ℕ) × ((k < suc m) × (f k ≡ n))) ⊎ ((k : ℕ) → k < suc m → f k ≡ n → ⊥) → suc m ≤ suc n
    go ih ih' (inl t) = let r = ih (skip f t.0) (skip_below f n m t.0 lt a t.1.0 t.1.1) (skip_apart f m t.0 a) in omega arith
    go ih ih' (inr u) = let r = ih' (λ k h. let b = lt k h in let ne : f k ≢ n = u k h in omega arith) a in omega arith
