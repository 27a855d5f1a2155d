-- Each entry of a tree is entered once.
use Rattle.std.proofs.Common.{◌≡◌, ℕ, zero, suc, ◌+◌, ◌<◌, ◌≤◌, ◌⊎◌, List, [], ◌∷◌, ◌++◌, length, get_or, sym, refl, ap, ◌∙◌, subst, inl, inr, arith}
use Rattle.std.specs.List.{flat_map}
use Rattle.std.proofs.lemmas.List.{append-nil, append_assoc, append_cancel_right, same_from_push, length-append}
use Rattle.trees.specs.Lists.{nil, Mem}
use Rattle.trees.specs.declared.records.Event.{Event}
use Rattle.trees.specs.declared.records.Event.TheVariants.{Enter, Leave}
use Rattle.trees.specs.Walk.{events, closing, entries, entered, Once}
use Rattle.trees.proofs.Pigeon.{pigeon, Apart}
use Rattle.trees.proofs.Segs.{Seg, Below, fresh, seg_chain}
use Rattle.trees.proofs.Families.{mem_left}
use Rattle.trees.proofs.Seeks.{mem_right}
use Rattle.trees.proofs.Machine.{Deep, Fit}

joined_same : {X : Type 0} (g h : ℕ → List X) (xs : List ℕ) → ((c : ℕ) → Mem c xs → g c ≡ h c) → flat_map g xs ≡ flat_map h xs
joined_same g h [] f = refl
joined_same g h (x ∷ xs) f = let a = f x (inl refl) in let b = joined_same g h xs (λ c m. f c (inr m)) in cc

mem_app : (xs ys : List ℕ) (x : ℕ) → Mem x (xs ++ ys) → Mem x xs ⊎ Mem x ys
mem_app [] ys x m = inr m
mem_app (y ∷ xs) ys x (inl e) = inl (inl e)
mem_app (y ∷ xs) ys x (inr m) = elim (mem_app xs ys x m) [ inl k ↦ inl (inr k) | inr k ↦ inr k ]

nodup_app : (xs ys : List ℕ) → Once xs → Once ys → ((x : ℕ) → Mem x xs → Mem x ys → ⊥) → Once (xs ++ ys)
nodup_app [] ys a b d = b
nodup_app (x ∷ xs) ys a b d = ((λ m. elim (mem_app xs ys x m) [ inl k ↦ a.0 k | inr k ↦ d x (inl refl) k ]), nodup_app xs ys a.1 b (λ y m k. d y (inr m) k))

get_or_mem : (xs : List ℕ) (k : ℕ) → k < length xs → Mem (get_or xs k 0) xs
get_or_mem [] k h = absurd (omega arith)
get_or_mem (x ∷ xs) zero h = inl refl
get_or_mem (x ∷ xs) (suc k) h = inr (get_or_mem xs k (omega arith))

nodup_apart : (xs : List ℕ) → Once xs → Apart (λ k. get_or xs k 0) (length xs)
nodup_apart [] a j k l h e = omega arith
nodup_apart (x ∷ xs) a j zero l h e = omega arith
nodup_apart (x ∷ xs) a zero (suc k) l h e = a.0 (subst (λ (v : ℕ). Mem v xs) (sym e) (get_or_mem xs k (omega arith)))
nodup_apart (x ∷ xs) a (suc j) (suc k) l h e = nodup_apart xs a.1 j k (omega arith) (omega arith) e

pub nodup_short : (n : ℕ) (xs : List ℕ) → Once xs → Below n xs → length xs ≤ n
nodup_short n xs a b = pigeon n (λ k. get_or xs k 0) (length xs) (λ k h. b _ (get_or_mem xs k h)) (nodup_apart xs a)

-- a chain has none twice
seg_nodup : (nx : ℕ → ℕ) (n z : ℕ) → n ≤ z → (xs : List ℕ) (a : ℕ) → Seg nx a xs z → Below n xs → Once xs
seg_nodup nx n z le [] a s b = tt
seg_nodup nx n z le (x ∷ xs) a s b = (fresh nx n z x xs a le s b, seg_nodup nx n z le xs (nx x) s.1 (λ y m. b y (inr m)))

-- the way along nx to the end is one
one_way : (nx : ℕ → ℕ) (n : ℕ) → n ≤ nil → (xs ys : List ℕ) (a : ℕ) → Seg nx a xs nil → Seg nx a ys nil → Below n xs → Below n ys → xs ≡ ys
one_way nx n le xs ys a s t b c =
    let F : ℕ = length xs + length ys in
    sym (seg_chain nx F xs a s (λ m. let k = b nil m in omega arith) (omega arith)).0 ∙ (seg_chain nx F ys a t (λ m. let k = c nil m in omega arith) (omega arith)).0

joined_mem : (g : ℕ → List ℕ) (x : ℕ) (cs : List ℕ) → Mem x (flat_map g cs) → (c : ℕ) × (Mem c cs × Mem x (g c))
joined_mem g x [] m = absurd m
joined_mem g x (c ∷ cs) m = elim (mem_app (g c) (flat_map g cs) x m)
    [ inl k ↦ (c, (inl refl, k)) | inr k ↦ (let r = joined_mem g x cs k in (r.0, (inr r.1.0, r.1.1))) ]

module _ (fs nx pa : ℕ → ℕ) (n root : ℕ) (ch : ℕ → List ℕ) (w : Fit fs nx pa n root ch) where
  -- a way up from x by zs to e, and on by P to the end
  abbrev Way : ℕ → List ℕ → Type 0
  Way x xs = Seg pa x xs nil × Below n xs

  step_way : (e c : ℕ) (P : List ℕ) → e < n → Mem c (ch e) → Way e (e ∷ P) → Way c (c ∷ (e ∷ P))
  step_way e c P h m r = let o = w.own e c h m in ((refl, rw o.2 r.0), λ y k. elim k [ inl q ↦ rw q o.0 | inr k' ↦ r.1 y k' ])

  way_up : (f e x : ℕ) (P : List ℕ) → e < n → Way e (e ∷ P) → Mem x (entries ch f e) → (zs : List ℕ) × Way x (zs ++ (e ∷ P))
  unfolding entries
  way_up zero e x P h r m = absurd m
  way_up (suc f) e x P h r (inl q) = ([], rw q r)
  way_up (suc f) e x P h r (inr m) =
      let k = joined_mem (entries ch f) x (ch e) m in
      let c = k.0 in
      let z = way_up f c x (e ∷ P) (w.own e c h k.1.0).0 (step_way e c P h k.1.0 r) k.1.1 in
      (z.0 ++ (c ∷ []), rw (append_assoc z.0 (c ∷ []) (e ∷ P)) z.1)

  -- two children's trees have no entry in common
  apart : (f e x c d : ℕ) (P : List ℕ) → e < n → Way e (e ∷ P) → Mem c (ch e) → Mem d (ch e) → Mem x (entries ch f c) → Mem x (entries ch f d) → c ≡ d
  apart f e x c d P h r mc md xc xd =
      let a = way_up f c x (e ∷ P) (w.own e c h mc).0 (step_way e c P h mc r) xc in
      let b = way_up f d x (e ∷ P) (w.own e d h md).0 (step_way e d P h md r) xd in
      let q = one_way pa n w.small (a.0 ++ (c ∷ (e ∷ P))) (b.0 ++ (d ∷ (e ∷ P))) x a.1.0 b.1.0 a.1.1 b.1.1 in
      let q' : (a.0 ++ (c ∷ [])) ++ (e ∷ P) ≡ (b.0 ++ (d ∷ [])) ++ (e ∷ P) = append_assoc a.0 (c ∷ []) (e ∷ P) ∙ (q ∙ sym (append_assoc b.0 (d ∷ []) (e ∷ P))) in
      (same_from_push a.0 b.0 c d (append_cancel_right (a.0 ++ (c ∷ [])) (b.0 ++ (d ∷ [])) (e ∷ P) q')).1

  -- e is in no child's tree
  not_below : (f e c : ℕ) (P : List ℕ) → e < n → Way e (e ∷ P) → Mem c (ch e) → Mem e (entries ch f c) → ⊥
  not_below f e c P h r mc m =
      let a = way_up f c e (e ∷ P) (w.own e c h mc).0 (step_way e c P h mc r) m in
      let q = ap length (one_way pa n w.small (a.0 ++ (c ∷ (e ∷ P))) (e ∷ P) e a.1.0 r.0 a.1.1 r.1) in
      let l = length-append a.0 (c ∷ (e ∷ P)) in omega arith

  trees : (f e : ℕ) (P : List ℕ) → e < n → Way e (e ∷ P) → ((c : ℕ) → Mem c (ch e) → Once (entries ch f c)) → (cs : List ℕ) → Once cs → ((c : ℕ) → Mem c cs → Mem c (ch e)) → Once (flat_map (entries ch f) cs)
  trees f e P h r ih [] nd inn = tt
  trees f e P h r ih (c ∷ cs) nd inn = nodup_app (entries ch f c) (flat_map (entries ch f) cs) (ih c (inn c (inl refl))) (trees f e P h r ih cs nd.1 (λ d m. inn d (inr m)))
      (λ x m k. let j = joined_mem (entries ch f) x cs k in
      nd.0 (subst (λ (v : ℕ). Mem v cs) (sym (apart f e x c j.0 P h r (inn c (inl refl)) (inn j.0 (inr j.1.0)) m j.1.1)) j.1.0))

  once : (f e : ℕ) (P : List ℕ) → e < n → Way e (e ∷ P) → Once (entries ch f e)
  unfolding entries
  once zero e P h r = tt
  once (suc f) e P h r =
      let cs : Once (ch e) = seg_nodup nx n nil w.small (ch e) (fs e) (w.segs e h) (λ x m. (w.own e x h m).0) in (
        (λ m. let k = joined_mem (entries ch f) e (ch e) m in not_below f e k.0 P h r k.1.0 k.1.1),
        trees f e P h r (λ c m. once f c (e ∷ P) (w.own e c h m).0 (step_way e c P h m r)) (ch e) cs (λ c m. m),
      )

  below_all : (f e x : ℕ) → e < n → Mem x (entries ch f e) → x < n
  unfolding entries
  below_all zero e x h m = absurd m
  below_all (suc f) e x h (inl q) = rw q h
  below_all (suc f) e x h (inr m) = let k = joined_mem (entries ch f) x (ch e) m in below_all f k.0 x (w.own e k.0 h k.1.0).0 k.1.1

  -- each entry is entered once, so no more than there are
  pub entered_once : root < n → pa root ≡ nil → Once (entries ch n root) × (length (entries ch n root) ≤ n)
  entered_once h e =
      let nd = once n root [] h ((refl, e), λ y k. elim k [ inl q ↦ rw q h | inr z ↦ absurd z ]) in
      (nd, nodup_short n (entries ch n root) nd (λ x m. below_all n root x h m))

entered_app : (xs ys : List Event) → entered (xs ++ ys) ≡ entered xs ++ entered ys
entered_app [] ys = refl
entered_app (Enter e ∷ xs) ys = ap (λ (l : List ℕ). e ∷ l) (entered_app xs ys)
entered_app (Leave e ∷ xs) ys = entered_app xs ys

entered_joined : (g : ℕ → List Event) (h : ℕ → List ℕ) (cs : List ℕ) → ((c : ℕ) → entered (g c) ≡ h c) → entered (flat_map g cs) ≡ flat_map h cs
entered_joined g h [] q = refl
entered_joined g h (c ∷ cs) q = entered_app (g c) (flat_map g cs) ∙ (ap (λ (l : List ℕ). l ++ entered (flat_map g cs)) (q c) ∙ ap (λ (l : List ℕ). h c ++ l) (entered_joined g h cs q))

entered_closing : (xs : List ℕ) (e : ℕ) → entered (closing xs e) ≡ []
entered_closing [] e = refl
entered_closing (x ∷ xs) e = refl

-- the events of a tree enter its entries
pub entered_events : (ch : ℕ → List ℕ) (f e : ℕ) → entered (events ch f e) ≡ entries ch f e
unfolding events entries
entered_events ch zero e = refl
entered_events ch (suc f) e = ap (λ (l : List ℕ). e ∷ l) (entered_app (flat_map (events ch f) (ch e)) (closing (ch e) e)
    ∙ (ap (λ (l : List ℕ). entered (flat_map (events ch f) (ch e)) ++ l) (entered_closing (ch e) e) ∙ (append-nil (entered (flat_map (events ch f) (ch e))) ∙ entered_joined (events ch f) (entries ch f) (ch e) (entered_events ch f))))

-- what holds of e, and of the children of whatever it holds of, holds of each entry of the tree at e
pub all_below : (ch : ℕ → List ℕ) (P : ℕ → Type 0) → ((p c : ℕ) → P p → Mem c (ch p) → P c) → (f e x : ℕ) → P e → Mem x (entries ch f e) → P x
unfolding entries
all_below ch P down zero e x h m = absurd m
all_below ch P down (suc f) e x h (inl q) = subst P (sym q) h
all_below ch P down (suc f) e x h (inr m) = let k = joined_mem (entries ch f) x (ch e) m in all_below ch P down f k.0 x (down e k.0 h k.1.0) k.1.1

mem_joined : (g : ℕ → List ℕ) (x c : ℕ) (cs : List ℕ) → Mem c cs → Mem x (g c) → Mem x (flat_map g cs)
mem_joined g x c [] m k = absurd m
mem_joined g x c (d ∷ cs) (inl q) k = mem_left (g d) (flat_map g cs) x (subst (λ (v : ℕ). Mem x (g v)) q k)
mem_joined g x c (d ∷ cs) (inr m) k = mem_right (g d) (flat_map g cs) x (mem_joined g x c cs m k)

-- a tree with enough levels has its root, and each child of an entry that it has
pub entered_root : (ch : ℕ → List ℕ) (f e : ℕ) → Deep ch f e → Mem e (entries ch f e)
unfolding entries
entered_root ch zero e d = absurd d
entered_root ch (suc f) e d = inl refl

pub entered_child : (ch : ℕ → List ℕ) (f e p c : ℕ) → Deep ch f e → Mem p (entries ch f e) → Mem c (ch p) → Mem c (entries ch f e)
unfolding entries
entered_child ch zero e p c d m k = absurd d
entered_child ch (suc f) e p c d (inl q) k = let k' : Mem c (ch e) = subst (λ (v : ℕ). Mem c (ch v)) q k in inr (mem_joined (entries ch f) c c (ch e) k' (entered_root ch f c (d c k')))
entered_child ch (suc f) e p c d (inr m) k =
    let j = joined_mem (entries ch f) p (ch e) m in
    inr (mem_joined (entries ch f) c j.0 (ch e) j.1.0 (entered_child ch f j.0 p c (d j.0 j.1.0) j.1.1 k))
