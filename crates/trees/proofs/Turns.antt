-- The base types move to the front: the children are gone through once, and each of another tag moves to the end.
use Rattle.std.proofs.Common.{◌≡◌, ℕ, ◌<◌, ◌≤◌, Bool, true, false, cond, not, eqb, ◌≢◌, ◌⊎◌, List, [], ◌∷◌, ◌++◌, length, set, filter, sym, refl, ap, ◌∙◌, subst, inl, inr, append_assoc, append-nil, arith}
use Rattle.std.proofs.lemmas.List.Elements.{filter-append}
use Rattle.std.proofs.lemmas.List.{get_or-set_same, set-set, set-get_or}
use Rattle.std.proofs.lemmas.Bool.{cases_eq, cases_Bool, lt-ltb, cond-true, cond-false}
use Rattle.trees.specs.declared.records.Records.{Records}
use Rattle.trees.specs.declared.records.UnitId.{UnitId}
use Rattle.trees.specs.declared.records.UnitRecord.{UnitRecord}
use Rattle.trees.specs.Lists.{nil, chain, stop, Links, kids, Mem, last_or, without, Before}
use Rattle.trees.specs.Model.{Entry, Table, no_entry, entry_of, unit_of, knows_unit, change, with_entries, with_children}
use Rattle.trees.specs.History.{History, Stands, Listed}
use Rattle.trees.specs.Growth.{reorders, Deed.bases_moved}
use Rattle.trees.specs.Moves.{moved_last, settled}
use Rattle.trees.specs.Reorder.{is_base, bases_first, recast, reordered_if}
use Rattle.trees.specs.View.{view, Holds, kin}
use Rattle.trees.proofs.Segs.{Seg, last_mem, without_here, without_past}
use Rattle.trees.proofs.Families.{Good, good_seg, once, last_push, chain_step, chain_nil}
use Rattle.trees.proofs.Views.{nx, fs, ls, change_at, length_change, kin_of}
use Rattle.trees.proofs.Trees.{small}
use Rattle.trees.proofs.Edits.{view_count, view_entry}
use Rattle.trees.proofs.Laws.{all, all_change, state_kept, still}
use Rattle.trees.proofs.Growths.{Grew, contents_set}
use Rattle.trees.proofs.Reorders.{end_last}

-- other children for an entry
pub recast_same : (t : Table) (p : ℕ) → recast t p (entry_of t p).children ≡ t
recast_same t p = ap (with_entries t) (set-get_or t.entries p no_entry)

recast_again : (t : Table) (p : ℕ) (xs ys : List ℕ) → p < length t.entries → recast (recast t p xs) p ys ≡ recast t p ys
recast_again t p xs ys h = ap (with_entries t)
    (ap (λ (x : Entry). set (change p (with_children xs) t.entries) p (with_children ys x)) (get_or-set_same t.entries p (with_children xs (entry_of t p)) no_entry h)
    ∙ set-set t.entries p (with_children xs (entry_of t p)) (with_children ys (entry_of t p)))

recast_children : (t : Table) (p : ℕ) (xs : List ℕ) → p < length t.entries → (entry_of (recast t p xs) p).children ≡ xs
recast_children t p xs h = ap (λ (x : Entry). x.children) (get_or-set_same t.entries p (with_children xs (entry_of t p)) no_entry h)

recast_base : (t : Table) (p : ℕ) (xs : List ℕ) → p < length t.entries → (c : ℕ) → is_base (recast t p xs) c ≡ is_base t c
recast_base t p xs h c = ap (λ (x : Entry). eqb x.tag 36) (change_at t.entries p (with_children xs) h c) ∙ both (eqb c p) (entry_of t c)
  where
    both : (b : Bool) (x : Entry) → eqb (cond b (with_children xs x) x).tag 36 ≡ eqb x.tag 36
    both true x = refl
    both false x = refl

-- what becomes of one child
pub stays_base : (t : Table) (p c l : ℕ) → is_base t c ≡ true → (t ≡ settled t p c) × (c ≡ cond (is_base t c) c l)
stays_base t p c l e = (sym (cond-true _ _ _ e), sym (cond-true _ _ _ e))

pub moves_other : (t t' : Table) (p c l : ℕ) → is_base t c ≡ false → t' ≡ recast t p (moved_last c (entry_of t p).children) → (t' ≡ settled t p c) × (l ≡ cond (is_base t c) c l)
moves_other t t' p c l e q = (q ∙ sym (cond-false _ _ _ e), sym (cond-false _ _ _ e))

-- and of the whole, at a root r
pub reordered_as : (t t' : Table) (u : UnitId) (r : UnitRecord) → knows_unit t u ≡ true → unit_of t u.unit ≡ r → t' ≡ recast t r.root (bases_first t (entry_of t r.root).children) → (t', true) ≡ reordered_if t u
reordered_as t t' u r e q v =
    ap (λ (x : Table). (x, true)) (v ∙ ap (λ (x : UnitRecord). recast t x.root (bases_first t (entry_of t x.root).children)) (sym q)) ∙ sym (cond-true _ _ _ e)

-- lists
mem_mid : (xs : List ℕ) (c : ℕ) (ys : List ℕ) → Mem c (xs ++ c ∷ ys)
mem_mid [] c ys = inl refl
mem_mid (x ∷ xs) c ys = inr (mem_mid xs c ys)

without_mid : (c : ℕ) (xs ys : List ℕ) → (Mem c (without c (xs ++ c ∷ ys)) → ⊥) → without c (xs ++ c ∷ ys) ≡ xs ++ ys
without_mid c [] ys n = without_here c c ys refl
without_mid c (x ∷ xs) ys n = go (cases_eq x c) (without_mid c xs ys)
  where
    go : (x ≡ c) ⊎ (x ≡ c → ⊥) → ((Mem c (without c (xs ++ c ∷ ys)) → ⊥) → without c (xs ++ c ∷ ys) ≡ xs ++ ys) → without c (x ∷ (xs ++ c ∷ ys)) ≡ x ∷ (xs ++ ys)
    go (inl q) ih = absurd (n (rw (without_here c x (xs ++ c ∷ ys) q) (mem_mid xs c ys)))
    go (inr d) ih = without_past c x (xs ++ c ∷ ys) d ∙ ap (λ (l : List ℕ). x ∷ l) (ih (λ h. n (rw (without_past c x (xs ++ c ∷ ys) d) (inr h))))

seg_next : (nx : ℕ → ℕ) (z c y : ℕ) (xs ys : List ℕ) (a : ℕ) → Seg nx a (xs ++ c ∷ (y ∷ ys)) z → nx c ≡ y
seg_next nx z c y [] ys a s = s.1.0
seg_next nx z c y (x ∷ xs) ys a s = seg_next nx z c y xs ys (nx x) s.1

seg_after : (nx : ℕ → ℕ) (z c x : ℕ) (xs ys : List ℕ) (a : ℕ) → Seg nx a ((x ∷ xs) ++ c ∷ ys) z → nx (last_or x xs) ≡ c
seg_after nx z c x [] ys a s = s.1.0
seg_after nx z c x (y ∷ xs) ys a s = seg_after nx z c y xs ys (nx x) s.1

seg_last : (nx : ℕ → ℕ) (z d c : ℕ) (xs : List ℕ) (a : ℕ) → Seg nx a xs z → Mem c xs → nx (last_or d xs) ≡ z
seg_last nx z d c [] a s m = absurd m
seg_last nx z d c (x ∷ []) a s m = s.1
seg_last nx z d c (x ∷ (y ∷ ys)) a s m = seg_last nx z x y (y ∷ ys) (nx x) s.1 (inl refl)

mem_start : (xs ys : List ℕ) (c : ℕ) → Mem c xs → Mem c (xs ++ ys)
mem_start [] ys c m = absurd m
mem_start (x ∷ xs) ys c (inl e) = inl e
mem_start (x ∷ xs) ys c (inr m) = inr (mem_start xs ys c m)

-- who stands before c
stands_before : (L : Links) (F M h c : ℕ) (bs ys : List ℕ) → M ≤ nil → Good L F M → kids L F h ≡ bs ++ c ∷ ys → Before L F h c (last_or nil bs)
stands_before L F M h c [] ys mz g e =
    let s : Seg L.next (L.first h) (c ∷ ys) nil = rw e at (good_seg L F M g h) in
    (rw e (inl refl), (λ _. s.0), (λ ne. absurd (ne refl)))
stands_before L F M h c (x ∷ xs) ys mz g e =
    let s : Seg L.next (L.first h) ((x ∷ xs) ++ c ∷ ys) nil = rw e at (good_seg L F M g h) in
    let m : Mem (last_or x xs) (kids L F h) = rw e (mem_start (x ∷ xs) (c ∷ ys) (last_or x xs) (last_mem x xs)) in
    (rw e (mem_mid (x ∷ xs) c ys), (λ q. absurd (let k = (g.owned (h, last_or x xs, m)).0 in omega arith)), (λ _. (m, seg_after L.next nil c x xs ys (L.first h) s)))

-- of the children ds are done, and rs are still to come: those of ds that f tells stand first, the others last
abbrev pub lineup : (ℕ → Bool) → List ℕ → List ℕ → List ℕ
lineup f ds rs = filter f ds ++ (rs ++ filter (λ x. not (f x)) ds)

module _ (f : ℕ → Bool) (ds : List ℕ) (c : ℕ) where
  kept_more : (g : ℕ → Bool) → g c ≡ true → filter g (ds ++ c ∷ []) ≡ filter g ds ++ c ∷ []
  kept_more g e = filter-append g ds (c ∷ []) ∙ ap (λ (l : List ℕ). filter g ds ++ l) (cond-true _ _ _ e)

  kept_less : (g : ℕ → Bool) → g c ≡ false → filter g (ds ++ c ∷ []) ≡ filter g ds
  kept_less g e = filter-append g ds (c ∷ []) ∙ (ap (λ (l : List ℕ). filter g ds ++ l) (cond-false _ _ _ e) ∙ append-nil (filter g ds))

  line_kept : (rs : List ℕ) → f c ≡ true → lineup f ds (c ∷ rs) ≡ lineup f (ds ++ c ∷ []) rs
  line_kept rs e =
      sym (append_assoc (filter f ds) (c ∷ []) (rs ++ filter (λ x. not (f x)) ds))
      ∙ (ap (λ (l : List ℕ). l ++ (rs ++ filter (λ x. not (f x)) ds)) (sym (kept_more f e))
      ∙ ap (λ (l : List ℕ). filter f (ds ++ c ∷ []) ++ (rs ++ l)) (sym (kept_less (λ x. not (f x)) (ap not e))))

  line_moved : (rs : List ℕ) → f c ≡ false → (Mem c (without c (lineup f ds (c ∷ rs))) → ⊥) → moved_last c (lineup f ds (c ∷ rs)) ≡ lineup f (ds ++ c ∷ []) rs
  line_moved rs e n =
      let B = filter f ds in
      let O = filter (λ x. not (f x)) ds in
      ap (λ (l : List ℕ). l ++ c ∷ []) (without_mid c B (rs ++ O) n)
      ∙ (append_assoc B (rs ++ O) (c ∷ [])
      ∙ (ap (λ (l : List ℕ). B ++ l) (append_assoc rs O (c ∷ []))
      ∙ (ap (λ (l : List ℕ). l ++ (rs ++ (O ++ c ∷ []))) (sym (kept_less f e))
      ∙ ap (λ (l : List ℕ). filter f (ds ++ c ∷ []) ++ (rs ++ l)) (sym (kept_more (λ x. not (f x)) (ap not e))))))

  line_prev : (prev : ℕ) → prev ≡ last_or nil (filter f ds) → cond (f c) c prev ≡ last_or nil (filter f (ds ++ c ∷ []))
  line_prev prev q = elim (cases_Bool (f c)) [
    | inl e ↦ cond-true _ _ _ e ∙ sym (ap (last_or nil) (kept_more f e) ∙ last_push nil c (filter f ds))
    | inr e ↦ cond-false _ _ _ e ∙ (q ∙ sym (ap (last_or nil) (kept_less f e)))
  ]

-- a turn begins at `cur`, with the last base type that is done at `prev`
pub record Turn (old r : Records) (p prev cur : ℕ) : Type 0 where
  pub done : List ℕ
  pub ends : stop (nx old.entries.now) (length old.entries.now) cur ≡ nil
  pub split : kids (kin old.entries.now old.entry_count) (length old.entries.now) p ≡ done ++ chain (nx old.entries.now) (length old.entries.now) cur
  pub here : cur ≢ nil
  pub before : prev ≡ last_or nil (filter (is_base (view old)) done)
  pub lined : view r ≡ recast (view old) p (lineup (is_base (view old)) done (chain (nx old.entries.now) (length old.entries.now) cur))

pub sizes : (r : Records) → r.entry_count ≤ nil
sizes r = small r.sound

module _ (old : Records) (p : ℕ) (hp : p < old.entry_count) where
  S : Holds old
  S = old.sound

  abbrev nx₀ : ℕ → ℕ
  nx₀ = nx old.entries.now

  abbrev F₀ : ℕ
  F₀ = length old.entries.now

  abbrev L₀ : Links
  L₀ = kin old.entries.now old.entry_count

  abbrev v₀ : Table
  v₀ = view old

  first₀ : L₀.first p ≡ fs old.entries.now p
  first₀ = cond-true _ _ _ (lt-ltb p old.entry_count hp)

  children₀ : (entry_of v₀ p).children ≡ kids L₀ F₀ p
  children₀ = ap (λ (x : Entry). x.children) (view_entry old p hp)

  used : p < length v₀.entries
  used = let z = view_count old in omega arith

  -- no children
  pub no_turn : fs old.entries.now p ≡ nil → view old ≡ recast (view old) p (bases_first (view old) (entry_of (view old) p).children)
  no_turn q =
      let e : (entry_of v₀ p).children ≡ [] = children₀ ∙ chain_nil nx₀ F₀ (L₀.first p) (first₀ ∙ q) in
      sym (ap (recast v₀ p) (ap (bases_first v₀) e ∙ sym e) ∙ recast_same v₀ p)

  pub first_turn : fs old.entries.now p ≢ nil → Turn old old p nil (fs old.entries.now p)
  first_turn ne =
      let a = fs old.entries.now p in
      let e : kids L₀ F₀ p ≡ chain nx₀ F₀ a = ap (chain nx₀ F₀) first₀ in
      record {
        done = [];
        ends = ap (stop nx₀ F₀) (sym first₀) ∙ S.kin_ends p;
        split = e;
        here = ne;
        before = refl;
        lined = sym (ap (recast v₀ p) (append-nil (chain nx₀ F₀ a) ∙ sym (children₀ ∙ e)) ∙ recast_same v₀ p);
      }

  module _ (r : Records) (prev cur : ℕ) (T : Turn old r p prev cur) where
    abbrev ds : List ℕ
    ds = T.done

    abbrev rest : List ℕ
    rest = chain nx₀ F₀ (nx₀ cur)

    step : (chain nx₀ F₀ cur ≡ cur ∷ rest) × (stop nx₀ F₀ (nx₀ cur) ≡ nil)
    step = chain_step nx₀ F₀ cur T.ends T.here

    line : view r ≡ recast v₀ p (lineup (is_base v₀) ds (cur ∷ rest))
    line = T.lined ∙ ap (λ (l : List ℕ). recast v₀ p (lineup (is_base v₀) ds l)) step.0

    pub turn_parent : p < r.entry_count
    turn_parent =
        let z = view_count old in
        let y = view_count r in
        let x = ap (λ (t : Table). length t.entries) line ∙ length_change v₀.entries p (with_children (lineup (is_base v₀) ds (cur ∷ rest))) in
        omega arith

    abbrev L : Links
    L = kin r.entries.now r.entry_count

    abbrev F : ℕ
    F = length r.entries.now

    children_now : (entry_of (view r) p).children ≡ lineup (is_base v₀) ds (cur ∷ rest)
    children_now = ap (λ (t : Table). (entry_of t p).children) line ∙ recast_children v₀ p (lineup (is_base v₀) ds (cur ∷ rest)) used

    kids_now : kids L F p ≡ lineup (is_base v₀) ds (cur ∷ rest)
    kids_now = sym (ap (λ (x : Entry). x.children) (view_entry r p turn_parent)) ∙ children_now

    pub turn_before : Before L F p cur prev
    turn_before = subst (Before L F p cur) (sym T.before) (stands_before L F r.entry_count p cur (filter (is_base v₀) ds) (rest ++ filter (λ x. not (is_base v₀ x)) ds) (sizes r) (kin_of r) kids_now)

    pub turn_in : cur < r.entry_count
    turn_in = (r.sound.kin_owned (p, cur, turn_before.0)).0

    same_base : is_base (view r) cur ≡ is_base v₀ cur
    same_base = ap (λ (t : Table). is_base t cur) line ∙ recast_base v₀ p (lineup (is_base v₀) ds (cur ∷ rest)) used cur

    one_more : kids L₀ F₀ p ≡ (ds ++ cur ∷ []) ++ rest
    one_more = T.split ∙ (ap (λ (l : List ℕ). ds ++ l) step.0 ∙ sym (append_assoc ds (cur ∷ []) rest))

    old_mem : Mem cur (kids L₀ F₀ p)
    old_mem = subst (Mem cur) (sym (T.split ∙ ap (λ (l : List ℕ). ds ++ l) step.0)) (mem_mid ds cur rest)

    settled_line : settled (view r) p cur ≡ recast v₀ p (lineup (is_base v₀) (ds ++ cur ∷ []) rest)
    settled_line = elim (cases_Bool (is_base v₀ cur)) [
      | inl e ↦ cond-true _ _ _ (same_base ∙ e) ∙ (line ∙ ap (recast v₀ p) (line_kept (is_base v₀) ds cur rest e))
      | inr e ↦ cond-false _ _ _ (same_base ∙ e) ∙ (ap (λ (l : List ℕ). recast (view r) p (moved_last cur l)) children_now
          ∙ (ap (λ (t : Table). recast t p (moved_last cur (lineup (is_base v₀) ds (cur ∷ rest)))) line
          ∙ (recast_again v₀ p (lineup (is_base v₀) ds (cur ∷ rest)) (moved_last cur (lineup (is_base v₀) ds (cur ∷ rest))) used
          ∙ ap (recast v₀ p) (line_moved (is_base v₀) ds cur rest e (λ m. once L F r.entry_count (sizes r) (kin_of r) p cur (subst (λ (l : List ℕ). Mem cur (without cur l)) (sym kids_now) m))))))
    ]

    no_nil : Mem nil (kids L₀ F₀ p) → ⊥
    no_nil m = let k = (S.kin_owned (p, nil, m)).0 in let z = sizes old in omega arith

    -- the last turn
    pub turn_ends : (r' : Records) → view r' ≡ settled (view r) p cur → cur ≡ ls old.entries.now p → view r' ≡ recast v₀ p (bases_first v₀ (entry_of v₀ p).children)
    turn_ends r' v q =
        let e : nx₀ cur ≡ nil = ap nx₀ (q ∙ S.lasts p hp) ∙ seg_last nx₀ nil nil cur (kids L₀ F₀ p) (L₀.first p) (good_seg L₀ F₀ old.entry_count (kin_of old) p) old_mem in
        let z : rest ≡ [] = chain_nil nx₀ F₀ (nx₀ cur) e in
        let w : ds ++ cur ∷ [] ≡ (entry_of v₀ p).children = sym (children₀ ∙ (one_more ∙ (ap (λ (l : List ℕ). (ds ++ cur ∷ []) ++ l) z ∙ append-nil (ds ++ cur ∷ [])))) in
        v ∙ (settled_line ∙ (ap (λ (l : List ℕ). recast v₀ p (lineup (is_base v₀) (ds ++ cur ∷ []) l)) z ∙ ap (λ (l : List ℕ). recast v₀ p (bases_first v₀ l)) w))

    -- another one follows
    module _ (ne : cur ≢ ls old.entries.now p) where
      on : nx₀ cur ≢ nil
      on q = ne (sym (S.lasts p hp ∙ end_last nx₀ nil cur nil (kids L₀ F₀ p) (L₀.first p) q no_nil (good_seg L₀ F₀ old.entry_count (kin_of old) p) old_mem))

      next_same : nx r.entries.now cur ≡ nx₀ cur
      next_same =
          let more = (chain_step nx₀ F₀ (nx₀ cur) step.1 on).0 in
          let O = filter (λ x. not (is_base v₀ x)) ds in
          let e : kids L F p ≡ filter (is_base v₀) ds ++ (cur ∷ (nx₀ cur ∷ (chain nx₀ F₀ (nx₀ (nx₀ cur)) ++ O))) = kids_now ∙ ap (λ (l : List ℕ). lineup (is_base v₀) ds (cur ∷ l)) more in
          seg_next (nx r.entries.now) nil cur (nx₀ cur) (filter (is_base v₀) ds) (chain nx₀ F₀ (nx₀ (nx₀ cur)) ++ O) (L.first p)
          (subst (λ (l : List ℕ). Seg (nx r.entries.now) (L.first p) l nil) e (good_seg L F r.entry_count (kin_of r) p))

      pub turn_less : length (chain nx₀ F₀ (nx r.entries.now cur)) < length (chain nx₀ F₀ cur)
      turn_less = let a = ap (λ (x : ℕ). length (chain nx₀ F₀ x)) next_same in let b = ap length step.0 in omega arith

      pub turn_next : (r' : Records) (prev' : ℕ) → view r' ≡ settled (view r) p cur → prev' ≡ cond (is_base (view r) cur) cur prev → Turn old r' p prev' (nx r.entries.now cur)
      turn_next r' prev' v q = subst (Turn old r' p prev') (sym next_same) (record {
        done = ds ++ cur ∷ [];
        ends = step.1;
        split = one_more;
        here = on;
        before = q ∙ (ap (λ (b : Bool). cond b cur prev) same_base ∙ line_prev (is_base v₀) ds cur prev T.before);
        lined = v ∙ settled_line;
      })

-- the laws of histories and of trees for the base types moved to the front
pub bases_law : (t t' : Table) (p : ℕ) → p < length t.entries → t' ≡ recast t p (bases_first t (entry_of t p).children) → Listed t' → (h : History) → Stands h t → Stands h t'
bases_law t t' p hp q =
    let xs = bases_first t (entry_of t p).children in
    let e : t'.entries ≡ change p (with_children xs) t.entries = ap (λ (t : Table). t.entries) q in
    still t t' (state_kept t t' p (with_children xs) hp e refl) (ap all e ∙ all_change t.entries p (with_children xs) refl)

pub bases_grew : (t t' : Table) (p : ℕ) → p < length t.entries → t' ≡ recast t p (bases_first t (entry_of t p).children) → Grew t t' (bases_moved p true)
bases_grew t t' p hp q =
    let xs = bases_first t (entry_of t p).children in
    let e : t'.entries ≡ change p (with_children xs) t.entries = ap (λ (t : Table). t.entries) q in
    record { count = ap length e ∙ (length_change t.entries p (with_children xs) ∙ omega arith); trees = contents_set t t' p (with_children xs) (reorders (is_base t)) hp e refl }
