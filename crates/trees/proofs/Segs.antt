-- A list along links, as a segment; the lists of `chain` are segments, and the other way round.
use Rattle.std.proofs.Common.{◌≡◌, ℕ, zero, suc, ◌+◌, ◌-◌, ◌<◌, ◌≤◌, Bool, true, false, cond, eqb, ◌≢◌, List, [], ◌∷◌, ◌++◌, length, sym, refl, ap, ◌∙◌, subst, inl, inr, suc-add, zero-add, arith}
use Rattle.std.proofs.lemmas.Bool.{eqb-true, eqb-false, eq-eqb, ne_eqb, cond-true, cond-false}
use Rattle.trees.specs.Lists.{nil, chain, stop, Mem, last_or, without}
use Rattle.trees.proofs.Pigeon.{pigeon, Apart}

-- from a along nx by way of xs one comes to z
abbrev pub Seg : (ℕ → ℕ) → ℕ → List ℕ → ℕ → Type 0
Seg nx a [] z = a ≡ z
Seg nx a (x ∷ xs) z = (a ≡ x) × Seg nx (nx x) xs z

-- the place k steps from a
abbrev pub at : (ℕ → ℕ) → ℕ → ℕ → ℕ
at nx a zero = a
at nx a (suc k) = at nx (nx a) k

at_at : (nx : ℕ → ℕ) (j a k : ℕ) → at nx (at nx a j) k ≡ at nx a (j + k)
at_at nx zero a k = ap (at nx a) (sym (zero-add k))
at_at nx (suc j) a k = at_at nx j (nx a) k ∙ ap (at nx a) (sym (suc-add j k))

abbrev pub Below : ℕ → List ℕ → Type 0
Below n xs = (x : ℕ) → Mem x xs → x < n

seg_at : (nx : ℕ → ℕ) (xs : List ℕ) (a z k : ℕ) → Seg nx a xs z → k < length xs → Mem (at nx a k) xs
seg_at nx [] a z k s h = absurd (omega arith)
seg_at nx (x ∷ xs) a z zero s h = inl s.0
seg_at nx (x ∷ xs) a z (suc k) s h = inr (seg_at nx xs (nx a) z k (rw s.0 s.1) (omega arith))

seg_end : (nx : ℕ → ℕ) (xs : List ℕ) (a z : ℕ) → Seg nx a xs z → at nx a (length xs) ≡ z
seg_end nx [] a z s = s
seg_end nx (x ∷ xs) a z s = seg_end nx xs (nx a) z (rw s.0 s.1)

-- what stands in xs stands at some step
mem_at : (nx : ℕ → ℕ) (xs : List ℕ) (a z y : ℕ) → Seg nx a xs z → Mem y xs → (k : ℕ) × ((k < length xs) × (at nx a k ≡ y))
mem_at nx [] a z y s m = absurd m
mem_at nx (x ∷ xs) a z y s (inl e) = (zero, (omega arith, s.0 ∙ sym e))
mem_at nx (x ∷ xs) a z y s (inr m) = let r = mem_at nx xs (nx a) z y (rw s.0 s.1) m in (suc r.0, (omega arith, r.1.1))

-- no two places of a chain that ends are the same
pub seg_apart : (nx : ℕ → ℕ) (n z : ℕ) (xs : List ℕ) (a : ℕ) → n ≤ z → Seg nx a xs z → Below n xs → Apart (at nx a) (length xs)
seg_apart nx n z xs a le s b j k lt h e =
    let t : ℕ = length xs - k in
    let p : at nx a (j + t) ≡ at nx a (k + t) = sym (at_at nx j a t) ∙ (ap (λ (y : ℕ). at nx y t) e ∙ at_at nx k a t) in
    let q : at nx a (k + t) ≡ z = (let w : k + t ≡ length xs = omega arith in rw w (seg_end nx xs a z s)) in
    let m : at nx a (j + t) < n = b _ (seg_at nx xs a z (j + t) s (omega arith)) in
    let pq : at nx a (j + t) ≡ z = p ∙ q in
    omega arith

-- a chain that ends is no longer than there are entries
pub short : (nx : ℕ → ℕ) (n z : ℕ) (xs : List ℕ) (a : ℕ) → n ≤ z → Seg nx a xs z → Below n xs → length xs ≤ n
short nx n z xs a le s b = pigeon n (at nx a) (length xs) (λ k h. b _ (seg_at nx xs a z k s h)) (seg_apart nx n z xs a le s b)

-- the first stands once
pub fresh : (nx : ℕ → ℕ) (n z x : ℕ) (xs : List ℕ) (a : ℕ) → n ≤ z → Seg nx a (x ∷ xs) z → Below n (x ∷ xs) → Mem x xs → ⊥
fresh nx n z x xs a le s b m =
    let r = mem_at nx xs (nx x) z x s.1 m in
    seg_apart nx n z (x ∷ xs) a le s b zero (suc r.0) (omega arith) (omega arith) (s.0 ∙ (sym r.1.1 ∙ ap (λ (y : ℕ). at nx (nx y) r.0) (sym s.0)))

pub frame : (nx nx' : ℕ → ℕ) (xs : List ℕ) (a z : ℕ) → Seg nx a xs z → ((x : ℕ) → Mem x xs → nx' x ≡ nx x) → Seg nx' a xs z
frame nx nx' [] a z s f = s
frame nx nx' (x ∷ xs) a z s f = (s.0, frame nx nx' xs (nx' x) z (rw (f x (inl refl)) s.1) (λ y m. f y (inr m)))

pub last_mem : (x : ℕ) (xs : List ℕ) → Mem (last_or x xs) (x ∷ xs)
last_mem x [] = inl refl
last_mem x (y ∷ ys) = inr (last_mem y ys)

-- append: the last's link is set to c, and c's to the end
pub push : (nx nx' : ℕ → ℕ) (n z c : ℕ) → n ≤ z → nx' c ≡ z → (xs : List ℕ) (x a : ℕ) → Seg nx a (x ∷ xs) z → Below n (x ∷ xs)
    → nx' (last_or x xs) ≡ c → ((y : ℕ) → Mem y (x ∷ xs) → y ≢ last_or x xs → nx' y ≡ nx y) → Seg nx' a ((x ∷ xs) ++ c ∷ []) z
push nx nx' n z c le e [] x a s b l f = (s.0, (l, e))
push nx nx' n z c le e (y ∷ ys) x a s b l f =
    let ne : x ≢ last_or y ys = λ q. fresh nx n z x (y ∷ ys) a le s b (subst (λ (w : ℕ). Mem w (y ∷ ys)) (sym q) (last_mem y ys)) in
    (s.0, rw (f x (inl refl) ne) (push nx nx' n z c le e ys y (nx x) s.1 (λ w m. b w (inr m)) l (λ w m q. f w (inr m) q)))

pub without_here : (c x : ℕ) (xs : List ℕ) → x ≡ c → without c (x ∷ xs) ≡ xs
without_here c x xs e = cond-true _ _ _ (eq-eqb x c e)

pub without_past : (c x : ℕ) (xs : List ℕ) → x ≢ c → without c (x ∷ xs) ≡ x ∷ without c xs
without_past c x xs e = cond-false _ _ _ (ne_eqb x c e)

-- the one after l, which is not the last, stands in what follows
pub after_mem : (nx : ℕ → ℕ) (z l c : ℕ) → c ≢ z → nx l ≡ c → (xs : List ℕ) (a : ℕ) → Seg nx a xs z → Mem l xs → Mem c (xs)
after_mem nx z l c ne e [] a s m = absurd m
after_mem nx z l c ne e (x ∷ []) a s (inl q) = absurd (ne (sym e ∙ (ap nx q ∙ s.1)))
after_mem nx z l c ne e (x ∷ (y ∷ ys)) a s (inl q) = inr (inl (sym e ∙ (ap nx q ∙ s.1.0)))
after_mem nx z l c ne e (x ∷ xs) a s (inr m) = inr (after_mem nx z l c ne e xs (nx x) s.1 m)

-- remove the first
pub unlink_first : (nx nx' : ℕ → ℕ) (n z c : ℕ) → n ≤ z → (xs : List ℕ) (a : ℕ) → Seg nx a (c ∷ xs) z → Below n (c ∷ xs)
    → ((y : ℕ) → Mem y xs → y ≢ c → nx' y ≡ nx y) → Seg nx' (nx c) (without c (c ∷ xs)) z
unlink_first nx nx' n z c le xs a s b f =
    rw (without_here c c xs refl) (frame nx nx' xs (nx c) z s.1 (λ x m. f x m (λ q. fresh nx n z c xs a le s b (subst (λ (w : ℕ). Mem w xs) q m))))

-- remove one further on: the link of the one before, l, is set to c's
pub unlink : (nx nx' : ℕ → ℕ) (n z l c : ℕ) → n ≤ z → c ≢ z → nx l ≡ c → nx' l ≡ nx c
    → ((y : ℕ) → y ≢ c → y ≢ l → nx' y ≡ nx y)
    → (xs : List ℕ) (a : ℕ) → Seg nx a xs z → Below n xs → Mem l xs → Seg nx' a (without c xs) z
unlink nx nx' n z l c le cz e e' f [] a s b m = absurd m
unlink nx nx' n z l c le cz e e' f (x ∷ []) a s b (inl q) = absurd (cz (sym e ∙ (ap nx q ∙ s.1)))
unlink nx nx' n z l c le cz e e' f (x ∷ []) a s b (inr m) = absurd m
unlink nx nx' n z l c le cz e e' f (x ∷ (y ∷ ys)) a s b (inl q) =
    let yc : y ≡ c = cc (s.1.0, e, ap nx q) in
    let sub : (w : ℕ) → w ≡ x → Mem w (y ∷ ys) → ⊥ = λ w p m. fresh nx n z x (y ∷ ys) a le s b (subst (λ (v : ℕ). Mem v (y ∷ ys)) p m) in
    let xc : x ≢ c = λ p. sub x refl (inl (p ∙ sym yc)) in
    let g : nx' x ≡ nx y = cc (e', ap nx' q, ap nx yc) in
    let fr : (w : ℕ) → Mem w ys → nx' w ≡ nx w = λ w m. f w
    (λ p. fresh nx n z y ys (nx x) le s.1 (λ v h. b v (inr h)) (subst (λ (v : ℕ). Mem v ys) (p ∙ sym yc) m))
    (λ p. sub w (p ∙ q) (inr m)) in
    let t : Seg nx' (nx y) ys z = frame nx nx' ys (nx y) z s.1.1 fr in
    rw (without_past c x (y ∷ ys) xc, without_here c y ys yc) (s.0, rw g t)
unlink nx nx' n z l c le cz e e' f (x ∷ (y ∷ ys)) a s b (inr m) =
    let sub : (w : ℕ) → x ≡ w → Mem w (y ∷ ys) → ⊥ = λ w p h. fresh nx n z x (y ∷ ys) a le s b (subst (λ (v : ℕ). Mem v (y ∷ ys)) (sym p) h) in
    let xc : x ≢ c = λ p. sub c p (after_mem nx z l c cz e (y ∷ ys) (nx x) s.1 m) in
    let g : nx' x ≡ nx x = f x xc (λ p. sub l p m) in
    let t : Seg nx' (nx x) (without c (y ∷ ys)) z = unlink nx nx' n z l c le cz e e' f (y ∷ ys) (nx x) s.1 (λ v h. b v (inr h)) m in
    rw (without_past c x (y ∷ ys) xc) (s.0, rw g t)

-- the function with fuel and the segments: one and the same
pub chain_seg : (nx : ℕ → ℕ) (f a : ℕ) → stop nx f a ≡ nil → Seg nx a (chain nx f a) nil
unfolding chain stop
chain_seg nx zero a e = e
chain_seg nx (suc f) a e = go (chain_seg nx f (nx a)) (eqb a nil) refl
  where
    go : (stop nx f (nx a) ≡ nil → Seg nx (nx a) (chain nx f (nx a)) nil) → (t : Bool) → eqb a nil ≡ t → Seg nx a (cond (eqb a nil) [] (a ∷ chain nx f (nx a))) nil
    go ih true q = rw q (eqb-true a nil q)
    go ih false q = rw q (refl, ih (rw q at e))

pub seg_chain : (nx : ℕ → ℕ) (f : ℕ) (xs : List ℕ) (a : ℕ) → Seg nx a xs nil → (Mem nil xs → ⊥) → length xs ≤ f → (chain nx f a ≡ xs) × (stop nx f a ≡ nil)
unfolding chain stop
seg_chain nx zero [] a s b le = (refl, s)
seg_chain nx zero (x ∷ xs) a s b le = absurd (omega arith)
seg_chain nx (suc f) [] a s b le = let q = eq-eqb a nil s in (rw q, rw q s)
seg_chain nx (suc f) (x ∷ xs) a s b le =
    let q : eqb a nil ≡ false = ne_eqb a nil (λ p. b (inl (sym p ∙ s.0))) in
    let r = seg_chain nx f xs (nx x) s.1 (λ m. b (inr m)) (omega arith) in
    let w : nx a ≡ nx x = ap nx s.0 in
    (rw (q, w, r.0) (ap (λ (v : ℕ). v ∷ xs) s.0), rw (q, w) r.1)

pub chain_no_nil : (nx : ℕ → ℕ) (f a : ℕ) → Mem nil (chain nx f a) → ⊥
unfolding chain
chain_no_nil nx zero a m = m
chain_no_nil nx (suc f) a m = go (chain_no_nil nx f (nx a)) (eqb a nil) refl
  where
    go : (Mem nil (chain nx f (nx a)) → ⊥) → (t : Bool) → eqb a nil ≡ t → ⊥
    go ih true q = rw q at m
    go ih false q = let h : Mem nil (a ∷ chain nx f (nx a)) = rw q at m in elim h [ inl p ↦ eqb-false a nil q (sym p) | inr p ↦ ih p ]
