use Rattle.std.proofs.Common.{◌≡◌, ℕ, zero, suc, pred, ◌+◌, ◌*◌, ◌%◌, ◌^◌, ◌<◌, ◌≤◌, true, false, List, [], ◌∷◌, ◌++◌, length, Some, None, Option, sym, ap, ◌∙◌, subst, ⊎_elim, arith}
use native.Mathlib.Numerals.{unary_clauses}
use Rattle.std.proofs.lemmas.Nat.{div_below}
use Rattle.std.proofs.lemmas.Bool.{cases_lt, cases_Bool, le-ltb, lt-ltb}
use Rattle.numbers.specs.Leb.{Grouping, leb_in, leb, above, read_leb, Reads, Shortest}
use Rattle.numbers.specs.Grouping.{Laws}

pub power : (k : ℕ) → 128 ^ suc k ≡ 128 ^ k * 128
power k = simp unary_clauses

none : {A : Type 0} {P : Type 0} (a : A) → None ≡ Some a → P
none a e = let z : ◌≡◌ {A = ℕ} 0 1 = cc in absurd (omega arith)

inside : {A : Type 0} (a b : A) → Some a ≡ Some b → a ≡ b
inside a b e = cc

module _ {N : Type 0} {g : Grouping N} (laws : Laws g) where
  -- one step of writing

  pub leb_last : (k : ℕ) (n : N) → g.is_last n ≡ true → leb_in g (suc k) n ≡ g.low n ∷ []
  leb_last k n h = rw h

  pub leb_more : (k : ℕ) (n : N) → g.is_last n ≡ false → leb_in g (suc k) n ≡ (g.low n + 128) ∷ leb_in g k (g.rest n)
  leb_more k n h = rw h

  -- one step of reading

  read_last : (b : ℕ) (bs : List ℕ) → b < 128 → read_leb g (b ∷ bs) ≡ Some (g.last b, bs)
  unfolding read_leb
  read_last b bs h = rw (lt-ltb b 128 h)

  read_more : (b : ℕ) (bs : List ℕ) → 128 ≤ b → read_leb g (b ∷ bs) ≡ above g b (read_leb g bs)
  unfolding read_leb
  read_more b bs h = rw (le-ltb b 128 h)

  -- what is written reads as the number

  reads_last : (k : ℕ) (n : N) (rest : List ℕ) → g.is_last n ≡ true → read_leb g (leb_in g (suc k) n ++ rest) ≡ Some (n, rest)
  reads_last k n rest h =
      ap (λ xs. read_leb g (xs ++ rest)) (leb_last k n h)
      ∙ read_last (g.low n) rest (laws.low_below n)
      ∙ ap (λ m. Some (m, rest)) (laws.shown n h)

  reads_more : (k : ℕ) (n : N) (rest : List ℕ) → g.is_last n ≡ false → read_leb g (leb_in g k (g.rest n) ++ rest) ≡ Some (g.rest n, rest) → read_leb g (leb_in g (suc k) n ++ rest) ≡ Some (n, rest)
  reads_more k n rest h e =
      let b = laws.low_below n in
      let w : (g.low n + 128) % 128 ≡ g.low n = omega (arith, b) in
      ap (λ xs. read_leb g (xs ++ rest)) (leb_more k n h)
      ∙ read_more (g.low n + 128) (leb_in g k (g.rest n) ++ rest) (omega arith)
      ∙ ap (above g (g.low n + 128)) e
      ∙ ap (λ d. Some (g.joined d (g.rest n), rest)) w
      ∙ ap (λ m. Some (m, rest)) (laws.whole n)

  reads : (k : ℕ) (n : N) (rest : List ℕ) → g.reach n < 64 * 128 ^ k → read_leb g (leb_in g (suc k) n ++ rest) ≡ Some (n, rest)
  reads zero n rest h = reads_last zero n rest (laws.narrow n ∙ lt-ltb (g.reach n) 64 (omega arith))
  reads (suc k) n rest h =
      let f : g.reach n < 64 * 128 ^ k * 128 = omega (arith, power k) in
      let b : g.reach (g.rest n) < 64 * 128 ^ k = subst (λ r. r < 64 * 128 ^ k) (sym (laws.shrinks n)) (div_below (g.reach n) 128 _ (omega arith) f) in
      ⊎_elim (reads_last (suc k) n rest) (λ m. reads_more (suc k) n rest m (reads k (g.rest n) rest b)) (cases_Bool (g.is_last n))

  -- no fewer bytes read as the number

  from_above : (b : ℕ) (o : Option (N × List ℕ)) (n : N) (rest : List ℕ) → above g b o ≡ Some (n, rest) → (m : N) × (o ≡ Some (m, rest)) × (g.joined (b % 128) m ≡ n)
  from_above b None n rest e = none _ e
  from_above b (Some p) n rest e =
      let i = inside _ _ e in
      (p.0, ap (λ t. Some (p.0, t)) (ap (λ q. q.1) i), ap (λ q. q.0) i)

  leb_one : (k : ℕ) (n : N) → g.is_last n ≡ true → length (leb_in g k n) ≤ 1
  leb_one zero n h = omega arith
  leb_one (suc k) n h = omega (arith, ap length (leb_last k n h))

  leb_grows : (k : ℕ) (n m : N) (b : ℕ) → g.joined (b % 128) m ≡ n → length (leb_in g k n) ≤ suc (length (leb_in g (pred k) m))
  leb_grows zero n m b e = omega arith
  leb_grows (suc k) n m b e =
      let q : g.rest n ≡ m = ap g.rest (sym e) ∙ laws.parted (b % 128) m (omega arith) in
      ⊎_elim (λ h. omega (arith, leb_one (suc k) n h)) (λ h. omega (arith, ap length (leb_more k n h), ap (λ j. length (leb_in g k j)) q)) (cases_Bool (g.is_last n))

  shortest : (k : ℕ) (xs : List ℕ) (n : N) (rest : List ℕ) → read_leb g xs ≡ Some (n, rest) → length (leb_in g k n) + length rest ≤ length xs
  unfolding read_leb
  shortest k [] n rest e = none _ e
  shortest k (b ∷ bs) n rest e =
      ⊎_elim
      (λ h. let i = inside _ _ (sym (read_last b bs h) ∙ e) in
      omega (arith, leb_one k n (ap g.is_last (sym (ap (λ q. q.0) i)) ∙ laws.ends b h), ap (λ q. length q.1) i))
      (λ h. let a = from_above b (read_leb g bs) n rest (sym (read_more b bs h) ∙ e) in
      omega (arith, shortest (pred k) bs a.0 rest a.1, leb_grows k n a.0 b a.2))
      (cases_lt b 128)

  -- the two together, of the bytes that a call returns
  pub leb_right : (n : N) (xs : List ℕ) → g.reach n < 2 ^ 63 → xs ≡ leb g n → Reads (read_leb g) n xs × Shortest (read_leb g) n xs
  unfolding leb
  leb_right n xs h e = (
    λ rest. ap (λ ys. read_leb g (ys ++ rest)) e ∙ reads 9 n rest (omega arith),
    λ ys rest r. omega (arith, ap length e, shortest 10 ys n rest r),
  )

  -- the number of bytes

  leb_most : (k : ℕ) (n : N) → length (leb_in g k n) ≤ k
  leb_most zero n = omega arith
  leb_most (suc k) n =
      ⊎_elim (λ h. omega (arith, leb_one (suc k) n h))
      (λ h. omega (arith, ap length (leb_more k n h), leb_most k (g.rest n)))
      (cases_Bool (g.is_last n))

  leb_some : (k : ℕ) (n : N) → 1 ≤ length (leb_in g (suc k) n)
  leb_some k n =
      ⊎_elim (λ h. omega (arith, ap length (leb_last k n h))) (λ h. omega (arith, ap length (leb_more k n h))) (cases_Bool (g.is_last n))

  pub leb_length : (n : N) → (1 ≤ length (leb g n)) × (length (leb g n) ≤ 10)
  unfolding leb
  leb_length n = (leb_some 9 n, leb_most 10 n)
