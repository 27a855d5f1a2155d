-- one turn of the loop that writes LEB128, after the bytes xs of ten
use Rattle.std.proofs.Common.{◌≡◌, ℕ, suc, ◌+◌, ◌-◌, ◌*◌, ◌^◌, ◌<◌, ◌≤◌, true, false, List, [], ◌∷◌, ◌++◌, length, take, set, refl, sym, ap, ◌∙◌, subst, ⊎_elim, append_assoc, length-append, arith}
use Rattle.std.proofs.lemmas.Nat.{div_below}
use Rattle.std.proofs.lemmas.List.{take_more_set, length-take-le}
use Rattle.std.proofs.lemmas.Bool.{cases_lt, ltb-false}
use Rattle.numbers.specs.Leb.{Grouping, leb_in, leb}
use Rattle.numbers.specs.Grouping.{Laws}
use Rattle.numbers.proofs.Leb.{power, leb_last, leb_more}

-- how far the loop is: what it wrote before what is left is all, and the number fits the room that is left
pub record Turn {N : Type 0} (g : Grouping N) (all : N) (xs : List ℕ) (n : N) : Type 0 where
  pub room : length xs ≤ 9
  pub written : xs ++ leb_in g (10 - length xs) n ≡ leb g all
  pub first : length xs ≡ 0 → n ≡ all
  pub fits : 0 < length xs → (g.reach all < 2 ^ 63) × (g.reach n < 64 * 128 ^ (9 - length xs))

module _ {N : Type 0} {g : Grouping N} (laws : Laws g) where
  -- where no byte is written yet, the first test says that the number fits
  pub bounded : (all : N) (xs : List ℕ) (n : N) → Turn g all xs n → g.reach n < 2 ^ 63 → (g.reach all < 2 ^ 63) × (g.reach n < 64 * 128 ^ (9 - length xs))
  bounded all xs n t h =
      ⊎_elim
      (λ l. let z : length xs ≡ 0 = omega arith in
      (subst (λ m. g.reach m < 2 ^ 63) (t.first z) h, subst (λ k. g.reach n < 64 * 128 ^ (9 - k)) (sym z) (omega arith)))
      (λ l. t.fits l)
      (cases_lt (length xs) 1)

  pub begun : (all : N) → Turn g all [] all
  unfolding leb
  begun all = record { room = omega arith; written = refl; first = λ _. refl; fits = λ z. absurd (omega arith) }

  pub ended : (all : N) (xs : List ℕ) (n : N) → Turn g all xs n → g.is_last n ≡ true → xs ++ (g.low n ∷ []) ≡ leb g all
  ended all xs n t h =
      let e : 10 - length xs ≡ suc (9 - length xs) = omega (arith, t.room) in
      ap (λ ys. xs ++ ys) (sym (ap (λ k. leb_in g k n) e ∙ leb_last laws (9 - length xs) n h)) ∙ t.written

  pub turned : (all : N) (xs : List ℕ) (n : N) → Turn g all xs n → g.reach n < 2 ^ 63 → g.is_last n ≡ false → Turn g all (xs ++ ((g.low n + 128) ∷ [])) (g.rest n)
  turned all xs n t h m =
      let b = bounded all xs n t h in
      let far : 64 ≤ g.reach n = ltb-false (g.reach n) 64 (sym (laws.narrow n) ∙ m) in
      let long : length (xs ++ ((g.low n + 128) ∷ [])) ≡ length xs + 1 = simp length-append in
      let more : length xs + 1 ≤ 9 = ⊎_elim (λ q. omega arith) (λ q. let e : length xs ≡ 9 = omega (arith, t.room) in let c : g.reach n < 64 = subst (λ j. g.reach n < 64 * 128 ^ (9 - j)) e b.1 in absurd (omega arith)) (cases_lt (length xs) 9) in
      let e : 9 - length xs ≡ suc (9 - (length xs + 1)) = omega arith in
      let c : g.reach n < 64 * (128 ^ (9 - (length xs + 1)) * 128) = subst (λ p. g.reach n < 64 * p) (ap (λ j. 128 ^ j) e ∙ power (9 - (length xs + 1))) b.1 in
      let d : g.reach (g.rest n) < 64 * 128 ^ (9 - (length xs + 1)) = subst (λ r. r < 64 * 128 ^ (9 - (length xs + 1))) (sym (laws.shrinks n)) (div_below (g.reach n) 128 _ (omega arith) (omega arith)) in
      let f : 10 - length xs ≡ suc (10 - (length xs + 1)) = omega arith in
      record {
        room = omega arith;
        written =
            append_assoc xs ((g.low n + 128) ∷ []) _
            ∙ ap (λ k. xs ++ ((g.low n + 128) ∷ leb_in g (10 - k) (g.rest n))) long
            ∙ ap (λ ys. xs ++ ys) (sym (ap (λ k. leb_in g k n) f ∙ leb_more laws (10 - (length xs + 1)) n m))
            ∙ t.written;
        first = λ z. absurd (omega arith);
        fits = λ _. (b.0, subst (λ k. g.reach (g.rest n) < 64 * 128 ^ (9 - k)) (sym long) d);
      }

-- how far the loop is that only counts: some bytes, so many, come before what is left
pub record Count {N : Type 0} (g : Grouping N) (all : N) (len : ℕ) (n : N) : Type 0 where
  pub bytes : List ℕ
  pub long : length bytes ≡ len
  pub turn : Turn g all bytes n

module _ {N : Type 0} {g : Grouping N} (laws : Laws g) where
  pub none_counted : (all : N) → Count g all 0 all
  none_counted all = record { bytes = []; long = refl; turn = begun laws all }

  pub one_counted : (all : N) (len : ℕ) (n : N) → Count g all len n → g.reach n < 2 ^ 63 → g.is_last n ≡ false → (len + 1 ≤ 9) × Count g all (len + 1) (g.rest n)
  one_counted all len n c h m =
      let t = turned laws all c.bytes n c.turn h m in
      let l : length (c.bytes ++ ((g.low n + 128) ∷ [])) ≡ length c.bytes + 1 = simp length-append in
      let k : length (c.bytes ++ ((g.low n + 128) ∷ [])) ≡ len + 1 = l ∙ ap (λ j. j + 1) c.long in
      (omega (arith, t.room, k), record { bytes = c.bytes ++ ((g.low n + 128) ∷ []); long = k; turn = t })

  pub all_counted : (all : N) (len : ℕ) (n : N) → Count g all len n → g.is_last n ≡ true → len + 1 ≡ length (leb g all)
  all_counted all len n c h =
      let l : length (c.bytes ++ (g.low n ∷ [])) ≡ length c.bytes + 1 = simp length-append in
      omega (arith, c.long, l, ap length (ended laws all c.bytes n c.turn h))

-- the loop that fills an array of ten: the bytes so far are its first `len`
module _ {N : Type 0} {g : Grouping N} (laws : Laws g) where
  pub placed : (all : N) (bytes : List ℕ) (len b : ℕ) (n : N) → len ≤ 9 → length bytes ≡ 10 → b ≡ g.low n + 128 → Turn g all (take len bytes) n → g.reach n < 2 ^ 63 → g.is_last n ≡ false → (len + 1 ≤ 9) × Turn g all (take (len + 1) (set bytes len b)) (g.rest n)
  placed all bytes len b n r h e t f m =
      let more = turned laws all (take len bytes) n t f m in
      let now : take (len + 1) (set bytes len b) ≡ take len bytes ++ ((g.low n + 128) ∷ []) = take_more_set bytes len b (omega arith) ∙ ap (λ d. take len bytes ++ (d ∷ [])) e in
      let k : length (take len bytes ++ ((g.low n + 128) ∷ [])) ≡ length (take len bytes) + 1 = simp length-append in
      let j = length-take-le len bytes (omega arith) in
      (omega (arith, more.room, k, j), subst (λ xs. Turn g all xs (g.rest n)) (sym now) more)

  pub last_placed : (all : N) (bytes : List ℕ) (len b : ℕ) (n : N) → len ≤ 9 → length bytes ≡ 10 → b ≡ g.low n → Turn g all (take len bytes) n → g.is_last n ≡ true → take (len + 1) (set bytes len b) ≡ leb g all
  last_placed all bytes len b n r h e t m =
      take_more_set bytes len b (omega arith) ∙ (ap (λ d. take len bytes ++ (d ∷ [])) e ∙ ended laws all (take len bytes) n t m)
