-- Lists that lie in an array of records, each record naming the next by its number.
use Rattle.std.specs.Prelude.{◌≡◌, ℕ, zero, suc, ◌<◌, Bool, false, cond, ◌||◌, ◌≢◌, ◌⊎◌, List, [], ◌∷◌, ◌==◌}

-- no record: the end of a list
unfoldable pub nil : ℕ
nil = 65535

-- the records from a on along `next`, at most `fuel`
unfoldable pub chain : (ℕ → ℕ) → ℕ → ℕ → List ℕ
chain next zero a = []
chain next (suc fuel) a = cond (a == nil) [] (a ∷ chain next fuel (next a))

-- where one stands after them
unfoldable pub stop : (ℕ → ℕ) → ℕ → ℕ → ℕ
stop next zero a = a
stop next (suc fuel) a = cond (a == nil) a (stop next fuel (next a))

abbrev pub Mem : ℕ → List ℕ → Type 0
Mem x [] = ⊥
Mem x (y ∷ ys) = (x ≡ y) ⊎ Mem x ys

-- whether c stands in a list
abbrev pub has : ℕ → List ℕ → Bool
has c [] = false
has c (x ∷ xs) = c == x || has c xs

-- a list without the first c
abbrev pub without : ℕ → List ℕ → List ℕ
without c [] = []
without c (x ∷ xs) = cond (x == c) xs (x ∷ without c xs)

-- the last of a list, or d
abbrev pub last_or : ℕ → List ℕ → ℕ
last_or d [] = d
last_or d (x ∷ xs) = last_or x xs

-- lists in an array: the record after each, the first of each list, and whose list each record stands in
pub record Links : Type 0 where
  pub next : ℕ → ℕ
  pub first : ℕ → ℕ
  pub owner : ℕ → ℕ

-- the list of h
abbrev pub kids : Links → ℕ → ℕ → List ℕ
kids L fuel h = chain L.next fuel (L.first h)

-- each list ends
abbrev pub Ends : Links → ℕ → Type 0
Ends L fuel = (h : ℕ) → stop L.next fuel (L.first h) ≡ nil

-- who stands in the list of h is one of m records, and has h for its owner
abbrev pub Owned : Links → ℕ → ℕ → Type 0
Owned L fuel m = (q : (h : ℕ) × (c : ℕ) × Mem c (kids L fuel h)) → (q.1 < m) × (L.owner q.1 ≡ q.0)

-- l stands before c in the list of h; where l is nil, c is the first
abbrev pub Before : Links → ℕ → ℕ → ℕ → ℕ → Type 0
Before L fuel h c l = Mem c (kids L fuel h) × (l ≡ nil → L.first h ≡ c) × (l ≢ nil → Mem l (kids L fuel h) × (L.next l ≡ c))
