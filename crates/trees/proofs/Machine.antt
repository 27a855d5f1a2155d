-- The walk by links gives the events of the tree, and ends.
use Rattle.std.proofs.Common.{◌≡◌, ℕ, zero, suc, ◌+◌, ◌<◌, ◌≤◌, Bool, true, false, eqb, ◌≢◌, List, [], ◌∷◌, ◌++◌, length, sym, refl, ap, ◌∙◌, inl, inr, arith}
use Rattle.std.specs.List.{flat_map}
use Rattle.std.proofs.lemmas.List.{append-nil, append_assoc}
use Rattle.std.proofs.lemmas.Bool.{eq-eqb, ne_eqb, lt-ltb, true≢false}
use Rattle.trees.specs.declared.records.Event.{Event}
use Rattle.trees.specs.declared.records.Event.TheVariants.{Enter, Leave}
use Rattle.trees.specs.Lists.{nil, Mem}
use Rattle.trees.specs.Walk.{events, halt, to_e, to_u, emit, run, ends, weigh, cost}
use Rattle.trees.proofs.Segs.{Seg, Below, short}

module _ (fs nx pa : ℕ → ℕ) (n root : ℕ) where
  abbrev H : ℕ → Bool → Bool
  H e u = halt fs nx pa n root e u

  abbrev R : ℕ → ℕ → Bool → List Event
  R k e u = run fs nx pa n root k e u

  abbrev E : ℕ → ℕ → Bool → Bool
  E k e u = ends fs nx pa n root k e u

  abbrev t_e : ℕ → Bool → ℕ
  t_e e u = to_e fs nx pa n root e u

  abbrev t_u : ℕ → Bool → Bool
  t_u e u = to_u fs nx pa n root e u

  abbrev M : ℕ → Bool → List Event
  M e u = emit fs nx pa n root e u

  abbrev Steady : ℕ → ℕ → Bool → Type 0
  Steady k e u = (R (suc k) e u ≡ R k e u) × (E (suc k) e u ≡ true)

  steady : (k e : ℕ) (u : Bool) → E k e u ≡ true → Steady k e u
  unfolding run ends
  steady zero e u h = (rw h, rw h)
  steady (suc k) e u h = go (H e u) refl (steady k (t_e e u) (t_u e u))
    where
      go : (t : Bool) → H e u ≡ t → (E k (t_e e u) (t_u e u) ≡ true → Steady k (t_e e u) (t_u e u)) → Steady (suc k) e u
      go true q ih = (rw q, rw q)
      go false q ih = let r = ih (rw q at h) in (simp (q, r.0), simp (q, r.1))

  -- one step of the walk
  pub advance : (N e : ℕ) (u : Bool) → E N e u ≡ true → H e u ≡ false → (R N e u ≡ M e u ++ R N (t_e e u) (t_u e u)) × (E N (t_e e u) (t_u e u) ≡ true)
  unfolding run ends
  advance zero e u h q = absurd (true≢false (sym h ∙ q))
  advance (suc k) e u h q = let r = steady k (t_e e u) (t_u e u) (rw q at h) in (rw q (ap (λ (x : List Event). M e u ++ x) (sym r.0)), r.1)

  pub halted : (N e : ℕ) (u : Bool) → H e u ≡ true → R N e u ≡ []
  unfolding run
  halted zero e u h = refl
  halted (suc k) e u h = rw h

  -- the four kinds of step
  leaf : (k e : ℕ) → e < n → fs e ≡ nil → (R (suc k) e false ≡ Enter e ∷ R k e true) × (E (suc k) e false ≡ E k e true)
  unfolding run ends
  leaf k e l h = let b = lt-ltb e n l in let q = eq-eqb (fs e) nil h in (rw (b, q), rw (b, q))

  down : (k e x : ℕ) → e < n → fs e ≡ x → x ≢ nil → (R (suc k) e false ≡ Enter e ∷ R k x false) × (E (suc k) e false ≡ E k x false)
  unfolding run ends
  down k e x l h ne = let b = lt-ltb e n l in let q : eqb (fs e) nil ≡ false = ne_eqb (fs e) nil (λ p. ne (sym h ∙ p)) in (rw (b, q) (rw h), rw (b, q) (rw h))

  over : (k e y : ℕ) → e < n → e ≢ root → nx e ≡ y → y ≢ nil → (R (suc k) e true ≡ R k y false) × (E (suc k) e true ≡ E k y false)
  unfolding run ends
  over k e y l z h ne = let b = lt-ltb e n l in let q : eqb (nx e) nil ≡ false = ne_eqb (nx e) nil (λ p. ne (sym h ∙ p)) in let w = ne_eqb e root z in (rw (b, w, q) (rw h), rw (b, w, q) (rw h))

  back : (k e p : ℕ) → e < n → e ≢ root → nx e ≡ nil → pa e ≡ p → (R (suc k) e true ≡ Leave p ∷ R k p true) × (E (suc k) e true ≡ E k p true)
  unfolding run ends
  back k e p l z h h' = let b = lt-ltb e n l in let q = eq-eqb (nx e) nil h in let w = ne_eqb e root z in (rw (b, w, q) (rw h'), rw (b, w, q) (rw h'))

-- no way down from e is longer than f
abbrev pub Deep : (ℕ → List ℕ) → ℕ → ℕ → Type 0
Deep ch zero e = ⊥
Deep ch (suc f) e = (c : ℕ) → Mem c (ch e) → Deep ch f c

-- links that fit the lists: of entries below n, and the root in none
pub record Fit (fs nx pa : ℕ → ℕ) (n root : ℕ) (ch : ℕ → List ℕ) : Type 0 where
  pub small : n ≤ nil
  pub segs : (p : ℕ) → p < n → Seg nx (fs p) (ch p) nil
  pub own : (p c : ℕ) → p < n → Mem c (ch p) → (c < n) × (c ≢ root) × (pa c ≡ p)

module _ (fs nx pa : ℕ → ℕ) (n root : ℕ) (ch : ℕ → List ℕ) (w : Fit fs nx pa n root ch) where
  -- the walk through the subtree at e, and on from there
  abbrev pub Through : ℕ → ℕ → ℕ → Type 0
  Through f e k = (run fs nx pa n root (cost ch f e + k) e false ≡ events ch f e ++ run fs nx pa n root k e true) × (ends fs nx pa n root (cost ch f e + k) e false ≡ ends fs nx pa n root k e true)

  sibs : (f e : ℕ) (xs : List ℕ) (x : ℕ) → e < n → Seg nx x (x ∷ xs) nil → ((c : ℕ) → Mem c (x ∷ xs) → Mem c (ch e))
      → ((c : ℕ) → Mem c (x ∷ xs) → (k : ℕ) → Through f c k) → (k : ℕ)
      → (run fs nx pa n root (weigh (cost ch f) (x ∷ xs) + k) x false ≡ flat_map (events ch f) (x ∷ xs) ++ (Leave e ∷ run fs nx pa n root k e true))
      × (ends fs nx pa n root (weigh (cost ch f) (x ∷ xs) + k) x false ≡ ends fs nx pa n root k e true)
  sibs f e [] x h s inn ih k =
      let o = w.own e x h (inn x (inl refl)) in
      let b = back fs nx pa n root k x e o.0 o.1 s.1 o.2 in
      let t = ih x (inl refl) (suc k) in
      let a : cost ch f x + suc 0 + k ≡ cost ch f x + suc k = omega arith in
      (rw a (t.0 ∙ (ap (λ (l : List Event). events ch f x ++ l) b.0 ∙ ap (λ (l : List Event). l ++ (Leave e ∷ run fs nx pa n root k e true)) (sym (append-nil (events ch f x))))), rw a (t.1 ∙ b.1))
  sibs f e (y ∷ ys) x h s inn ih k =
      let o = w.own e x h (inn x (inl refl)) in
      let oy = w.own e y h (inn y (inr (inl refl))) in
      let sm = w.small in
      let W : ℕ = weigh (cost ch f) (y ∷ ys) in
      let v = over fs nx pa n root (W + k) x y o.0 o.1 s.1.0 (λ q. omega arith) in
      let t = ih x (inl refl) (suc (W + k)) in
      let r = sibs f e ys y h (refl, s.1.1) (λ c m. inn c (inr m)) (λ c m j. ih c (inr m) j) k in
      let a : cost ch f x + suc W + k ≡ cost ch f x + suc (W + k) = omega arith in
      (rw a (t.0 ∙ (ap (λ (l : List Event). events ch f x ++ l) (v.0 ∙ r.0) ∙ sym (append_assoc (events ch f x) (flat_map (events ch f) (y ∷ ys)) (Leave e ∷ run fs nx pa n root k e true)))), rw a (t.1 ∙ (v.1 ∙ r.1)))

  pub through : (f e : ℕ) → e < n → Deep ch f e → (k : ℕ) → Through f e k
  unfolding events cost
  through zero e h d k = absurd d
  through (suc f) e h d k = go (ch e) refl (λ c m j. through f c (w.own e c h m).0 (d c m) j)
    where
      go : (xs : List ℕ) → ch e ≡ xs → ((c : ℕ) → Mem c (ch e) → (j : ℕ) → Through f c j) → Through (suc f) e k
      go [] q ih =
          let s : fs e ≡ nil = rw q at (w.segs e h) in
          let l = leaf fs nx pa n root k e h s in
          let a : suc 0 + k ≡ suc k = omega arith in
          (rw (q, a) l.0, rw (q, a) l.1)
      go (x ∷ xs) q ih =
          let s : Seg nx (fs e) (x ∷ xs) nil = rw q at (w.segs e h) in
          let sm = w.small in
          let inn : (c : ℕ) → Mem c (x ∷ xs) → Mem c (ch e) = λ c m. rw q m in
          let ox = w.own e x h (inn x (inl refl)) in
          let W : ℕ = weigh (cost ch f) (x ∷ xs) in
          let d1 = down fs nx pa n root (W + k) e x h s.0 (λ z. omega arith) in
          let r = sibs f e xs x h (refl, s.1) inn (λ c m j. ih c (inn c m) j) k in
          let a : suc W + k ≡ suc (W + k) = omega arith in (
            rw (q, a) (d1.0 ∙ ap (λ (l : List Event). Enter e ∷ l) (r.0 ∙ sym (append_assoc (flat_map (events ch f) (x ∷ xs)) (Leave e ∷ []) (run fs nx pa n root k e true)))),
            rw (q, a) (d1.1 ∙ r.1),
          )

  -- a way down is no longer than there are entries: the ways up from its end is a chain that ends
  pub deep : (f e : ℕ) (xs : List ℕ) → e < n → Seg pa e xs nil → Below n xs → n < f + length xs → Deep ch f e
  deep zero e xs h s b l = let k = short pa n nil xs e w.small s b in absurd (omega arith)
  deep (suc f) e xs h s b l = λ c m.
      let o = w.own e c h m in
      deep f c (c ∷ xs) o.0 (refl, rw o.2 s) (λ y z. elim z [ inl q ↦ rw q o.0 | inr z' ↦ b y z' ]) (omega arith)

  pub deep_root : root < n → pa root ≡ nil → Deep ch n root
  deep_root h e = deep n root (root ∷ []) h (refl, e) (λ y z. elim z [ inl q ↦ rw q h | inr z' ↦ absurd z' ]) (omega arith)

  -- the walk from the root: its events are those of the tree, and it ends
  abbrev pub fuel : ℕ
  fuel = cost ch n root + 0

  pub walk_all : root < n → pa root ≡ nil → (run fs nx pa n root fuel root false ≡ events ch n root) × (ends fs nx pa n root fuel root false ≡ true)
  unfolding run ends
  walk_all h e = let r = through n root h (deep_root h e) 0 in let b = lt-ltb root n h in let z = eq-eqb root root refl in (r.0 ∙ append-nil (events ch n root), r.1 ∙ rw (b, z))
