-- Families of lists that lie in one array: what linking in and taking out make of them.
use Rattle.std.proofs.Common.{◌≡◌, ℕ, zero, suc, ◌<◌, ◌≤◌, Bool, true, false, cond, eqb, ◌≢◌, ◌⊎◌, List, [], ◌∷◌, ◌++◌, length, sym, refl, ap, ◌∙◌, subst, inl, inr, arith}
use Rattle.std.proofs.lemmas.Bool.{cases_eq, eqb-true, eq-eqb, ne_eqb, cond-true, cond-false, or_left, or_right, or_cases, cases_Bool, true≢false}
use Rattle.trees.specs.Lists.{nil, chain, stop, Mem, last_or, without, has, Links, kids, Ends, Owned, Before}
use Rattle.trees.proofs.Segs.{Seg, Below, short, fresh, frame, push, last_mem, unlink, unlink_first, without_here, without_past, after_mem, chain_seg, seg_chain, chain_no_nil}

-- the lists of a family end, and hold the records that they own
pub record Good (L : Links) (F M : ℕ) : Type 0 where
  pub ends : Ends L F
  pub owned : Owned L F M

-- lists that fit the links are the family's
pub rebuild : (L : Links) (F M : ℕ) → M ≤ F → M ≤ nil → (new : ℕ → List ℕ)
    → ((h : ℕ) → Seg L.next (L.first h) (new h) nil)
    → ((h c : ℕ) → Mem c (new h) → (c < M) × (L.owner c ≡ h))
    → Good L F M × ((h : ℕ) → kids L F h ≡ new h)
rebuild L F M mF mz new segs own = (record { ends = λ h. (both h).1; owned = λ q. own q.0 q.1 (rw (both q.0).0 at q.2) }, λ h. (both h).0)
  where
    both : (h : ℕ) → (kids L F h ≡ new h) × (stop L.next F (L.first h) ≡ nil)
    both h =
        let b : Below M (new h) = λ x m. (own h x m).0 in
        let s = short L.next M nil (new h) (L.first h) mz (segs h) b in
        seg_chain L.next F (new h) (L.first h) (segs h) (λ m. let k = b nil m in omega arith) (omega arith)

pub good_seg : (L : Links) (F M : ℕ) → Good L F M → (h : ℕ) → Seg L.next (L.first h) (kids L F h) nil
good_seg L F M g h = chain_seg L.next F (L.first h) (g.ends h)

-- more records
pub wider : (L : Links) (F M N : ℕ) → M ≤ N → Good L F M → Good L F N
wider L F M N le g = record { ends = g.ends; owned = λ q. let o = g.owned q in (omega arith, o.1) }

-- the record h is the last of no list but its own, and so on: members

pub mem_push : (xs : List ℕ) (c y : ℕ) → Mem y (xs ++ c ∷ []) → Mem y xs ⊎ (y ≡ c)
mem_push [] c y (inl e) = inr e
mem_push [] c y (inr m) = absurd m
mem_push (x ∷ xs) c y (inl e) = inl (inl e)
mem_push (x ∷ xs) c y (inr m) = elim (mem_push xs c y m) [ inl k ↦ inl (inr k) | inr k ↦ inr k ]

pub push_mem : (xs : List ℕ) (c : ℕ) → Mem c (xs ++ c ∷ [])
push_mem [] c = inl refl
push_mem (x ∷ xs) c = inr (push_mem xs c)

pub mem_left : (xs ys : List ℕ) (c : ℕ) → Mem c xs → Mem c (xs ++ ys)
mem_left [] ys c m = absurd m
mem_left (x ∷ xs) ys c (inl e) = inl e
mem_left (x ∷ xs) ys c (inr m) = inr (mem_left xs ys c m)

pub last_push : (d c : ℕ) (xs : List ℕ) → last_or d (xs ++ c ∷ []) ≡ c
last_push d c [] = refl
last_push d c (x ∷ xs) = last_push x c xs

pub last_in : (d : ℕ) (xs : List ℕ) → (last_or d xs ≢ d) → Mem (last_or d xs) xs
last_in d [] ne = absurd (ne refl)
last_in d (x ∷ xs) ne = last_mem x xs

-- lists with one more record c, last at h; first at h; or without it
abbrev pub added : ℕ → ℕ → (ℕ → List ℕ) → ℕ → List ℕ
added h c ch y = cond (eqb y h) (ch y ++ c ∷ []) (ch y)

abbrev pub headed : ℕ → ℕ → (ℕ → List ℕ) → ℕ → List ℕ
headed h c ch y = cond (eqb y h) (c ∷ ch y) (ch y)

abbrev pub dropped : ℕ → ℕ → (ℕ → List ℕ) → ℕ → List ℕ
dropped h c ch y = cond (eqb y h) (without c (ch y)) (ch y)

-- the links after c was linked in at the end of the list of h, whose last record is l (nil where it is empty)
pub record Appending (L L' : Links) (F M h c l : ℕ) : Type 0 where
  pub small : c < M
  pub apart : (y : ℕ) → Mem c (kids L F y) → ⊥
  pub last : l ≡ last_or nil (kids L F h)
  pub nextc : L'.next c ≡ nil
  pub nexts : (y : ℕ) → y ≢ c → y ≢ l → L'.next y ≡ L.next y
  pub empty : l ≡ nil → L'.first h ≡ c
  pub more : l ≢ nil → (L'.first h ≡ L.first h) × (L'.next l ≡ c)
  pub firsts : (y : ℕ) → y ≢ h → L'.first y ≡ L.first y
  pub ownerc : L'.owner c ≡ h
  pub owners : (y : ℕ) → y ≢ c → L'.owner y ≡ L.owner y

module _ (L L' : Links) (F M h c l : ℕ) (mF : M ≤ F) (mz : M ≤ nil) (g : Good L F M) (w : Appending L L' F M h c l) where
  app_not : (y x : ℕ) → Mem x (kids L F y) → x ≢ c
  app_not y x m e = w.apart y (subst (λ (v : ℕ). Mem v (kids L F y)) e m)

  app_other : (y : ℕ) → y ≢ h → (x : ℕ) → Mem x (kids L F y) → L'.next x ≡ L.next x
  app_other y ne x m = w.nexts x (app_not y x m)
      (λ e. let xn : x < M = (g.owned (y, x, m)).0 in
      let ne' : last_or nil (kids L F h) ≢ nil = λ q. (let z : x ≡ nil = e ∙ (w.last ∙ q) in omega arith) in
      let m' : Mem x (kids L F h) = rw (e ∙ w.last) (last_in nil (kids L F h) ne') in
      ne (sym (g.owned (y, x, m)).1 ∙ (g.owned (h, x, m')).1))

  app_seg_h : (ks : List ℕ) → kids L F h ≡ ks → Seg L'.next (L'.first h) (ks ++ c ∷ []) nil
  app_seg_h [] e = (w.empty (w.last ∙ ap (last_or nil) e), w.nextc)
  app_seg_h (x ∷ xs) e =
      let la : l ≡ last_or x xs = w.last ∙ ap (last_or nil) e in
      let s : Seg L.next (L.first h) (x ∷ xs) nil = rw e at (good_seg L F M g h) in
      let own : (v : ℕ) → Mem v (x ∷ xs) → (v < M) × (L.owner v ≡ h) = λ v m. g.owned (h, v, rw e m) in
      let lm : l < M = (own l (subst (λ (v : ℕ). Mem v (x ∷ xs)) (sym la) (last_mem x xs))).0 in
      let mo = w.more (λ q. omega arith) in
      rw mo.0 (push L.next L'.next M nil c mz w.nextc xs x (L.first h) s (λ v m. (own v m).0) (rw (← la) mo.1)
      (λ y m ne. w.nexts y (app_not h y (rw e m)) (λ q. ne (q ∙ la))))

  app_at : added h c (kids L F) h ≡ kids L F h ++ c ∷ []
  app_at = cond-true _ _ _ (eq-eqb h h refl)

  app_off : (y : ℕ) → y ≢ h → added h c (kids L F) y ≡ kids L F y
  app_off y ne = cond-false _ _ _ (ne_eqb y h ne)

  app_seg : (y : ℕ) → Seg L'.next (L'.first y) (added h c (kids L F) y) nil
  app_seg y = elim (cases_eq y h) [
    | inl e ↦ rw e (rw app_at (app_seg_h (kids L F h) refl))
    | inr ne ↦ rw (app_off y ne, w.firsts y ne) (frame L.next L'.next (kids L F y) (L.first y) nil (good_seg L F M g y) (app_other y ne))
  ]

  app_old : (y x : ℕ) → Mem x (kids L F y) → (x < M) × (L'.owner x ≡ y)
  app_old y x m = let o = g.owned (y, x, m) in (o.0, w.owners x (app_not y x m) ∙ o.1)

  app_own : (y x : ℕ) → Mem x (added h c (kids L F) y) → (x < M) × (L'.owner x ≡ y)
  app_own y x m = elim (cases_eq y h) [
    | inl e ↦ (let m' : Mem x (kids L F h ++ c ∷ []) = rw app_at at (rw e at m) in elim (mem_push (kids L F h) c x m')
        [ inl k ↦ app_old y x (rw e k) | inr q ↦ rw q (w.small, w.ownerc ∙ sym e) ])
    | inr ne ↦ app_old y x (rw (app_off y ne) at m)
  ]

  pub append_good : Good L' F M × ((y : ℕ) → kids L' F y ≡ added h c (kids L F) y)
  append_good = rebuild L' F M mF mz (added h c (kids L F)) app_seg app_own

-- the links after c was linked in at the front of the list of h
pub record Heading (L L' : Links) (F M h c : ℕ) : Type 0 where
  pub small : c < M
  pub apart : (y : ℕ) → Mem c (kids L F y) → ⊥
  pub nextc : L'.next c ≡ L.first h
  pub nexts : (y : ℕ) → y ≢ c → L'.next y ≡ L.next y
  pub first : L'.first h ≡ c
  pub firsts : (y : ℕ) → y ≢ h → L'.first y ≡ L.first y
  pub ownerc : L'.owner c ≡ h
  pub owners : (y : ℕ) → y ≢ c → L'.owner y ≡ L.owner y

module _ (L L' : Links) (F M h c : ℕ) (mF : M ≤ F) (mz : M ≤ nil) (g : Good L F M) (w : Heading L L' F M h c) where
  hd_not : (y x : ℕ) → Mem x (kids L F y) → x ≢ c
  hd_not y x m e = w.apart y (subst (λ (v : ℕ). Mem v (kids L F y)) e m)

  hd_at : headed h c (kids L F) h ≡ c ∷ kids L F h
  hd_at = cond-true _ _ _ (eq-eqb h h refl)

  hd_off : (y : ℕ) → y ≢ h → headed h c (kids L F) y ≡ kids L F y
  hd_off y ne = cond-false _ _ _ (ne_eqb y h ne)

  hd_frame : (y : ℕ) → Seg L'.next (L.first y) (kids L F y) nil
  hd_frame y = frame L.next L'.next (kids L F y) (L.first y) nil (good_seg L F M g y) (λ x m. w.nexts x (hd_not y x m))

  hd_seg : (y : ℕ) → Seg L'.next (L'.first y) (headed h c (kids L F) y) nil
  hd_seg y = elim (cases_eq y h) [
    | inl e ↦ rw e (rw hd_at (w.first, rw w.nextc (hd_frame h)))
    | inr ne ↦ rw (hd_off y ne, w.firsts y ne) (hd_frame y)
  ]

  hd_old : (y x : ℕ) → Mem x (kids L F y) → (x < M) × (L'.owner x ≡ y)
  hd_old y x m = let o = g.owned (y, x, m) in (o.0, w.owners x (hd_not y x m) ∙ o.1)

  hd_own : (y x : ℕ) → Mem x (headed h c (kids L F) y) → (x < M) × (L'.owner x ≡ y)
  hd_own y x m = elim (cases_eq y h) [
    | inl e ↦ (let m' : Mem x (c ∷ kids L F h) = rw hd_at at (rw e at m) in elim m'
        [ inl q ↦ rw q (w.small, w.ownerc ∙ sym e) | inr k ↦ hd_old y x (rw e k) ])
    | inr ne ↦ hd_old y x (rw (hd_off y ne) at m)
  ]

  pub head_good : Good L' F M × ((y : ℕ) → kids L' F y ≡ headed h c (kids L F) y)
  head_good = rebuild L' F M mF mz (headed h c (kids L F)) hd_seg hd_own

-- taking out

pub without_mem : (c x : ℕ) (xs : List ℕ) → Mem x (without c xs) → Mem x xs
without_mem c x [] m = m
without_mem c x (y ∷ ys) m = go (without_mem c x ys) (cases_eq y c)
  where
    go : (Mem x (without c ys) → Mem x ys) → (y ≡ c) ⊎ (y ≡ c → ⊥) → Mem x (y ∷ ys)
    go ih (inl e) = inr (rw (without_here c y ys e) at m)
    go ih (inr ne) = let k : Mem x (y ∷ without c ys) = rw (without_past c y ys ne) at m in elim k [ inl q ↦ inl q | inr q ↦ inr (ih q) ]

pub mem_without : (c x : ℕ) (xs : List ℕ) → Mem x xs → x ≢ c → Mem x (without c xs)
mem_without c x [] m ne = m
mem_without c x (y ∷ ys) m ne = go (λ k. mem_without c x ys k ne) (cases_eq y c) m
  where
    go : (Mem x ys → Mem x (without c ys)) → (y ≡ c) ⊎ (y ≡ c → ⊥) → Mem x (y ∷ ys) → Mem x (without c (y ∷ ys))
    go ih (inl e) (inl q) = absurd (ne (q ∙ e))
    go ih (inl e) (inr k) = rw (without_here c y ys e) k
    go ih (inr d) (inl q) = rw (without_past c y ys d) (inl q)
    go ih (inr d) (inr k) = rw (without_past c y ys d) (inr (ih k))

-- c stands once, so not in what is left
gone : (nx : ℕ → ℕ) (n z c : ℕ) → n ≤ z → (xs : List ℕ) (a : ℕ) → Seg nx a xs z → Below n xs → Mem c (without c xs) → ⊥
gone nx n z c le [] a s b m = m
gone nx n z c le (x ∷ xs) a s b m = go (gone nx n z c le xs (nx x) s.1 (λ y k. b y (inr k))) (cases_eq x c)
  where
    go : (Mem c (without c xs) → ⊥) → (x ≡ c) ⊎ (x ≡ c → ⊥) → ⊥
    go ih (inl e) = fresh nx n z x xs a le s b (subst (λ (v : ℕ). Mem v xs) (sym e) (rw (without_here c x xs e) at m))
    go ih (inr d) = let k : Mem c (x ∷ without c xs) = rw (without_past c x xs d) at m in elim k [ inl q ↦ d (sym q) | inr q ↦ ih q ]

-- the last of what is left: the one before c where c was last
last_first : (nx : ℕ → ℕ) (z c d : ℕ) (xs : List ℕ) → Seg nx (nx c) xs z → ((Mem z xs) → ⊥)
    → (nx c ≡ z → last_or d (without c (c ∷ xs)) ≡ d) × (nx c ≢ z → last_or d (without c (c ∷ xs)) ≡ last_or d (c ∷ xs))
last_first nx z c d [] s b = (λ _. rw (without_here c c [] refl), λ ne. absurd (ne s))
last_first nx z c d (x ∷ xs) s b = (λ e. absurd (b (inl (sym e ∙ s.0))), λ _. rw (without_here c c (x ∷ xs) refl))

last_after : (nx : ℕ → ℕ) (n z l c : ℕ) → n ≤ z → c ≢ z → nx l ≡ c → (xs : List ℕ) (a d : ℕ) → Seg nx a xs z → Below n xs → Mem l xs
    → (nx c ≡ z → last_or d (without c xs) ≡ l) × (nx c ≢ z → last_or d (without c xs) ≡ last_or d xs)
last_after nx n z l c le cz e [] a d s b m = absurd m
last_after nx n z l c le cz e (x ∷ []) a d s b (inl q) = absurd (cz (sym e ∙ (ap nx q ∙ s.1)))
last_after nx n z l c le cz e (x ∷ []) a d s b (inr m) = absurd m
last_after nx n z l c le cz e (x ∷ (y ∷ ys)) a d s b (inl q) =
    let yc : y ≡ c = cc (s.1.0, e, ap nx q) in
    let xc : x ≢ c = λ p. fresh nx n z x (y ∷ ys) a le s b (inl (p ∙ sym yc)) in
    let s' : Seg nx (nx c) ys z = rw yc at s.1.1 in
    let r = last_first nx z c x ys s' (λ k. let h = b z (inr (inr k)) in omega arith) in
    rw (without_past c x (y ∷ ys) xc) (rw yc ((λ k. r.0 k ∙ sym q), r.1))
last_after nx n z l c le cz e (x ∷ (y ∷ ys)) a d s b (inr m) =
    let xc : x ≢ c = λ p. fresh nx n z x (y ∷ ys) a le s b (subst (λ (v : ℕ). Mem v (y ∷ ys)) (sym p) (after_mem nx z l c cz e (y ∷ ys) (nx x) s.1 m)) in
    rw (without_past c x (y ∷ ys) xc) (last_after nx n z l c le cz e (y ∷ ys) (nx x) x s.1 (λ v h. b v (inr h)) m)

-- the links after c was taken out
pub record Removing (L L' : Links) (F h c l : ℕ) : Type 0 where
  pub before : Before L F h c l
  pub head : l ≡ nil → L'.first h ≡ L.next c
  pub later : l ≢ nil → (L'.next l ≡ L.next c) × (L'.first h ≡ L.first h)
  pub nexts : (y : ℕ) → y ≢ c → y ≢ l → L'.next y ≡ L.next y
  pub firsts : (y : ℕ) → y ≢ h → L'.first y ≡ L.first y
  pub owners : (y : ℕ) → y ≢ c → L'.owner y ≡ L.owner y

module _ (L : Links) (F M : ℕ) (mz : M ≤ nil) (g : Good L F M) where
  pub below : (y : ℕ) → Below M (kids L F y)
  below y x m = (g.owned (y, x, m)).0

  -- what is left of a list holds c no more
  pub once : (h c : ℕ) → Mem c (without c (kids L F h)) → ⊥
  once h c m = gone L.next M nil c mz (kids L F h) (L.first h) (good_seg L F M g h) (below h) m

  head_is : (h c l : ℕ) → Before L F h c l → (xs : List ℕ) → kids L F h ≡ xs → l ≡ nil → (ys : List ℕ) × (kids L F h ≡ c ∷ ys)
  head_is h c l b [] e q = absurd (subst (Mem c) e b.0)
  head_is h c l b (x ∷ xs) e q = let s : Seg L.next (L.first h) (x ∷ xs) nil = rw e at (good_seg L F M g h) in
      (xs, e ∙ ap (λ (v : ℕ). v ∷ xs) (sym s.0 ∙ b.1 q))

  c_nil : (h c l : ℕ) → Before L F h c l → c ≢ nil
  c_nil h c l b q = let k = (g.owned (h, c, b.0)).0 in omega arith

  -- the last of what is left
  pub last_left : (h c l : ℕ) → Before L F h c l
      → (L.next c ≡ nil → last_or nil (without c (kids L F h)) ≡ l) × (L.next c ≢ nil → last_or nil (without c (kids L F h)) ≡ last_or nil (kids L F h))
  last_left h c l b = elim (cases_eq l nil) [ inl q ↦ at_head q (head_is h c l b (kids L F h) refl q) | inr k ↦ further k ]
    where
      at_head : l ≡ nil → ((ys : List ℕ) × (kids L F h ≡ c ∷ ys)) → (L.next c ≡ nil → last_or nil (without c (kids L F h)) ≡ l) × (L.next c ≢ nil → last_or nil (without c (kids L F h)) ≡ last_or nil (kids L F h))
      at_head q t =
          let ys = t.0 in
          let e : kids L F h ≡ c ∷ ys = t.1 in
          let s : Seg L.next (L.first h) (c ∷ ys) nil = rw e at (good_seg L F M g h) in
          let r = last_first L.next nil c nil ys s.1 (λ m. let k = below h nil (rw e (inr m)) in omega arith) in
          rw e ((λ z. r.0 z ∙ sym q), r.1)

      further : l ≢ nil → (L.next c ≡ nil → last_or nil (without c (kids L F h)) ≡ l) × (L.next c ≢ nil → last_or nil (without c (kids L F h)) ≡ last_or nil (kids L F h))
      further k = last_after L.next M nil l c mz (c_nil h c l b) (b.2 k).1 (kids L F h) (L.first h) nil (good_seg L F M g h) (below h) (b.2 k).0

module _ (L L' : Links) (F M h c l : ℕ) (mF : M ≤ F) (mz : M ≤ nil) (g : Good L F M) (w : Removing L L' F h c l) where
  rm_not : (y x : ℕ) → y ≢ h → Mem x (kids L F y) → x ≢ c
  rm_not y x ne m e = ne (sym (g.owned (y, x, m)).1 ∙ (ap L.owner e ∙ (g.owned (h, c, w.before.0)).1))

  rm_other : (y : ℕ) → y ≢ h → (x : ℕ) → Mem x (kids L F y) → L'.next x ≡ L.next x
  rm_other y ne x m = w.nexts x (rm_not y x ne m) (λ e. elim (cases_eq l nil) [
    | inl q ↦ (let k = below L F M mz g y x m in omega arith)
    | inr k ↦ ne (sym (g.owned (y, x, m)).1 ∙ (ap L.owner e ∙ (g.owned (h, l, (w.before.2 k).0)).1))
  ])

  rm_h : Seg L'.next (L'.first h) (without c (kids L F h)) nil
  rm_h = elim (cases_eq l nil) [ inl q ↦ at_head q (head_is L F M mz g h c l w.before (kids L F h) refl q) | inr k ↦ further k ]
    where
      at_head : l ≡ nil → ((ys : List ℕ) × (kids L F h ≡ c ∷ ys)) → Seg L'.next (L'.first h) (without c (kids L F h)) nil
      at_head q t =
          let ys = t.0 in
          let e : kids L F h ≡ c ∷ ys = t.1 in
          let s : Seg L.next (L.first h) (c ∷ ys) nil = rw e at (good_seg L F M g h) in
          let b : Below M (c ∷ ys) = λ x m. below L F M mz g h x (rw e m) in
          rw e (rw (w.head q) (unlink_first L.next L'.next M nil c mz ys (L.first h) s b (λ y m ne. w.nexts y ne (λ v. (let k = b y (inr m) in omega arith)))))

      further : l ≢ nil → Seg L'.next (L'.first h) (without c (kids L F h)) nil
      further k =
          let b = w.before.2 k in
          let t = w.later k in
          rw t.1 (unlink L.next L'.next M nil l c mz (c_nil L F M mz g h c l w.before) b.1 t.0 w.nexts (kids L F h) (L.first h) (good_seg L F M g h) (below L F M mz g h) b.0)

  rm_at : dropped h c (kids L F) h ≡ without c (kids L F h)
  rm_at = cond-true _ _ _ (eq-eqb h h refl)

  rm_off : (y : ℕ) → y ≢ h → dropped h c (kids L F) y ≡ kids L F y
  rm_off y ne = cond-false _ _ _ (ne_eqb y h ne)

  rm_seg : (y : ℕ) → Seg L'.next (L'.first y) (dropped h c (kids L F) y) nil
  rm_seg y = elim (cases_eq y h) [
    | inl e ↦ rw e (rw rm_at rm_h)
    | inr ne ↦ rw (rm_off y ne, w.firsts y ne) (frame L.next L'.next (kids L F y) (L.first y) nil (good_seg L F M g y) (rm_other y ne))
  ]

  rm_kept : (y x : ℕ) → Mem x (kids L F y) → x ≢ c → (x < M) × (L'.owner x ≡ y)
  rm_kept y x m ne = let o = g.owned (y, x, m) in (o.0, w.owners x ne ∙ o.1)

  rm_own : (y x : ℕ) → Mem x (dropped h c (kids L F) y) → (x < M) × (L'.owner x ≡ y)
  rm_own y x m = elim (cases_eq y h) [
    | inl e ↦ (let m' : Mem x (without c (kids L F h)) = rw rm_at at (rw e at m) in
        rm_kept y x (rw e (without_mem c x (kids L F h) m'))
        (λ q. once L F M mz g h c (subst (λ (v : ℕ). Mem v (without c (kids L F h))) q m')))
    | inr ne ↦ (let m' : Mem x (kids L F y) = rw (rm_off y ne) at m in rm_kept y x m' (rm_not y x ne m'))
  ]

  pub remove_good : Good L' F M × ((y : ℕ) → kids L' F y ≡ dropped h c (kids L F) y)
  remove_good = rebuild L' F M mF mz (dropped h c (kids L F)) rm_seg rm_own

  -- c stands in no list any more
  pub removed : (y : ℕ) → Mem c (kids L' F y) → ⊥
  removed y m = elim (cases_eq y h) [
    | inl e ↦ once L F M mz g h c (rw rm_at at (rw e at (subst (Mem c) (remove_good.1 y) m)))
    | inr ne ↦ rm_not y c ne (rw (rm_off y ne) at (subst (Mem c) (remove_good.1 y) m)) refl
  ]

-- a family whose links and owners stay
pub framed : (L L' : Links) (F M N : ℕ) → N ≤ F → N ≤ nil → M ≤ N → Good L F M → ((y : ℕ) → y < M → L'.next y ≡ L.next y) → ((y : ℕ) → L'.first y ≡ L.first y)
    → ((y : ℕ) → y < M → L'.owner y ≡ L.owner y) → Good L' F N × ((y : ℕ) → kids L' F y ≡ kids L F y)
framed L L' F M N nF nz mn g nx fs ow = rebuild L' F N nF nz (kids L F)
    (λ h. rw (fs h) (frame L.next L'.next (kids L F h) (L.first h) nil (good_seg L F M g h) (λ x m. nx x (g.owned (h, x, m)).0)))
    (λ h c m. let o = g.owned (h, c, m) in (omega arith, ow c o.0 ∙ o.1))

-- none is its own next
pub no_loop : (nx : ℕ → ℕ) (n z l : ℕ) → n ≤ z → nx l ≡ l → (xs : List ℕ) (a : ℕ) → Seg nx a xs z → Below n xs → Mem l xs → ⊥
no_loop nx n z l le e [] a s b m = m
no_loop nx n z l le e (x ∷ []) a s b (inl q) = let k = b l (inl q) in let w : l ≡ z = sym e ∙ (ap nx q ∙ s.1) in omega arith
no_loop nx n z l le e (x ∷ (y ∷ ys)) a s b (inl q) = fresh nx n z x (y ∷ ys) a le s b (inl (sym q ∙ (sym e ∙ (ap nx q ∙ s.1.0))))
no_loop nx n z l le e (x ∷ xs) a s b (inr m) = no_loop nx n z l le e xs (nx x) s.1 (λ v h. b v (inr h)) m

pub before_not : (L : Links) (F M : ℕ) → M ≤ nil → Good L F M → (h c l : ℕ) → Before L F h c l → l ≢ nil → l ≢ c
before_not L F M mz g h c l b ne q = let t = b.2 ne in
    no_loop L.next M nil l mz (t.1 ∙ sym q) (kids L F h) (L.first h) (good_seg L F M g h) (λ x m. (g.owned (h, x, m)).0) t.0

-- a list that ends, one step on
pub chain_short : (nx : ℕ → ℕ) (f a : ℕ) → length (chain nx f a) ≤ f
unfolding chain
chain_short nx zero a = omega arith
chain_short nx (suc f) a = go (chain_short nx f (nx a)) (eqb a nil)
  where
    go : length (chain nx f (nx a)) ≤ f → (t : Bool) → length (cond t [] (a ∷ chain nx f (nx a))) ≤ suc f
    go ih true = omega arith
    go ih false = omega arith

pub chain_step : (nx : ℕ → ℕ) (F a : ℕ) → stop nx F a ≡ nil → a ≢ nil → (chain nx F a ≡ a ∷ chain nx F (nx a)) × (stop nx F (nx a) ≡ nil)
chain_step nx F a e ne = go (chain nx F a) refl (chain_seg nx F a e)
  where
    go : (xs : List ℕ) → chain nx F a ≡ xs → Seg nx a (chain nx F a) nil → (chain nx F a ≡ a ∷ chain nx F (nx a)) × (stop nx F (nx a) ≡ nil)
    go [] q s = absurd (ne (rw q at s))
    go (x ∷ xs) q s =
        let s' : Seg nx a (x ∷ xs) nil = rw q at s in
        let k : length (x ∷ xs) ≤ F = rw q at (chain_short nx F a) in
        let r = seg_chain nx F xs (nx a) (rw s'.0 s'.1) (λ m. chain_no_nil nx F a (rw q (inr m))) (omega arith) in
        (q ∙ (ap (λ (v : ℕ). v ∷ xs) (sym s'.0) ∙ ap (λ (l : List ℕ). a ∷ l) (sym r.0)), r.1)

pub chain_nil : (nx : ℕ → ℕ) (F a : ℕ) → a ≡ nil → chain nx F a ≡ []
unfolding chain
chain_nil nx zero a e = refl
chain_nil nx (suc F) a e = cond-true _ _ _ (eq-eqb a nil e)

-- membership as a test
pub has_mem : (c : ℕ) (xs : List ℕ) → has c xs ≡ true → Mem c xs
has_mem c [] e = absurd (true≢false (sym e))
has_mem c (x ∷ xs) e = elim (or_cases (eqb c x) (has c xs) e) [ inl q ↦ inl (eqb-true c x q) | inr q ↦ inr (has_mem c xs q) ]

pub mem_has : (c : ℕ) (xs : List ℕ) → Mem c xs → has c xs ≡ true
mem_has c [] m = absurd m
mem_has c (x ∷ xs) (inl e) = or_left (eqb c x) (has c xs) (eq-eqb c x e)
mem_has c (x ∷ xs) (inr m) = or_right (eqb c x) (has c xs) (mem_has c xs m)

pub not_has : (c : ℕ) (xs : List ℕ) → (Mem c xs → ⊥) → has c xs ≡ false
not_has c xs n = elim (cases_Bool (has c xs)) [ inl e ↦ absurd (n (has_mem c xs e)) | inr e ↦ e ]
