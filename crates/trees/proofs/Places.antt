-- In a sound table each placed entry stands once in one child list, and no other in any.
use Rattle.std.proofs.Common.{◌≡◌, ℕ, ◌<◌, true, not, eqb, ltb, ◌≢◌, ◌⊎◌, List, [], ◌∷◌, length, Some, None, sym, refl, ap, ◌∙◌, subst, inl, inr, arith}
use Rattle.std.proofs.lemmas.Bool.{cases_eq, cases_lt, eq-eqb, ne_eqb, lt-ltb, le-ltb, cond-true, cond-false, true≢false}
use Rattle.trees.specs.declared.records.Records.{Records}
use Rattle.trees.specs.declared.records.State.{State}
use Rattle.trees.specs.declared.records.State.TheVariants.{Root, Waiting, Placed, TakenOut, GivenBack}
use Rattle.trees.specs.Lists.{nil, kids, Mem, without}
use Rattle.trees.specs.Model.{Entry, entry_of}
use Rattle.trees.specs.View.{view, Holds, kin, kind}
use Rattle.trees.specs.History.{times, state_in, of_state, Listed}
use Rattle.trees.proofs.Segs.{without_here, without_past}
use Rattle.trees.proofs.Families.{once, has_mem, chain_nil}
use Rattle.trees.proofs.Views.{pa, st, kin_of}
use Rattle.trees.proofs.Trees.{parent_in, small}
use Rattle.trees.proofs.Edits.{view_count, view_entry, view_state}

times_none : (c : ℕ) (xs : List ℕ) → (Mem c xs → ⊥) → times c xs ≡ 0
times_none c [] n = refl
times_none c (x ∷ xs) n = let k = times_none c xs (λ m. n (inr m)) in rw (ne_eqb c x (λ q. n (inl q))) (omega arith)

times_once : (c : ℕ) (xs : List ℕ) → Mem c xs → (Mem c (without c xs) → ⊥) → times c xs ≡ 1
times_once c [] m n = absurd m
times_once c (x ∷ xs) m n = go (cases_eq c x) (times_once c xs) m
  where
    go : (c ≡ x) ⊎ (c ≡ x → ⊥) → (Mem c xs → (Mem c (without c xs) → ⊥) → times c xs ≡ 1) → Mem c (x ∷ xs) → times c (x ∷ xs) ≡ 1
    go (inl q) ih mm = let k = times_none c xs (λ h. n (rw (without_here c x xs (sym q)) h)) in rw (eq-eqb c x q) (omega arith)
    go (inr q) ih (inl p) = absurd (q p)
    go (inr q) ih (inr p) = let k = ih p (λ h. n (rw (without_past c x xs (λ z. q (sym z))) (inr h))) in rw (ne_eqb c x q) (omega arith)

module _ (r : Records) where
  S : Holds r
  S = r.sound

  abbrev ks : ℕ → List ℕ
  ks = kids (kin r.entries.now r.entry_count) (length r.entries.now)

  children_are : (p : ℕ) → p < r.entry_count → (entry_of (view r) p).children ≡ ks p
  children_are p h = ap (λ (x : Entry). x.children) (view_entry r p h)

  state_is : (e : ℕ) → e < r.entry_count → state_in (view r) e ≡ of_state (st r.entries.now e)
  state_is e h = cond-true _ _ _ (lt-ltb e (length (view r).entries) (let z = view_count r in omega arith)) ∙ ap of_state (view_state r e h)

  -- who has a parent is placed, and the other way round
  placed_parent : (e : ℕ) → e < r.entry_count → of_state (st r.entries.now e) ≡ Some Placed → pa r.entries.now e ≢ nil
  placed_parent e h q z = go (st r.entries.now e) refl
    where
      go : (s : State) → st r.entries.now e ≡ s → ⊥
      go Root p = let y : ◌≡◌ {A = ℕ} 0 1 = cc in omega arith
      go Waiting p = let k : Some Waiting ≡ Some Placed = sym (ap of_state p) ∙ q in let y : ◌≡◌ {A = ℕ} 0 1 = cc in omega arith
      go Placed p = true≢false (sym (ap (λ (s : State). eqb (kind s) 2) p) ∙ (S.parented e h ∙ ap not (eq-eqb (pa r.entries.now e) nil z)))
      go TakenOut p = let k : Some TakenOut ≡ Some Placed = sym (ap of_state p) ∙ q in let y : ◌≡◌ {A = ℕ} 0 1 = cc in omega arith
      go GivenBack p = let k : Some GivenBack ≡ Some Placed = sym (ap of_state p) ∙ q in let y : ◌≡◌ {A = ℕ} 0 1 = cc in omega arith

  listed_placed : (e : ℕ) → e < r.entry_count → eqb (kind (st r.entries.now e)) 2 ≡ true → of_state (st r.entries.now e) ≡ Some Placed
  listed_placed e h q = go (st r.entries.now e) q
    where
      go : (s : State) → eqb (kind s) 2 ≡ true → of_state s ≡ Some Placed
      go Root q = absurd (true≢false (sym q))
      go Waiting q = absurd (true≢false (sym q))
      go Placed q = refl
      go TakenOut q = absurd (true≢false (sym q))
      go GivenBack q = absurd (true≢false (sym q))

  -- who stands in a list is placed, in use, and has the list's owner for its parent
  member : (e q : ℕ) → Mem e (ks q) → (e < r.entry_count) × (pa r.entries.now e ≡ q) × (state_in (view r) e ≡ Some Placed)
  member e q m =
      let o = S.kin_owned (q, e, m) in
      let ne : pa r.entries.now e ≢ nil = λ z. none e (subst (λ (v : ℕ). Mem e (ks v)) (sym o.1 ∙ z) m) in
      (o.0, o.1, state_is e o.0 ∙ listed_placed e o.0 (S.parented e o.0 ∙ ap not (ne_eqb (pa r.entries.now e) nil ne)))
    where
      none : (x : ℕ) → Mem x (ks nil) → ⊥
      none x mm = subst (Mem x) (chain_nil (kin r.entries.now r.entry_count).next (length r.entries.now) ((kin r.entries.now r.entry_count).first nil)
          (cond-false (ltb nil r.entry_count) _ nil (le-ltb nil r.entry_count (small S)))) mm

  pub lists_of : Listed (view r)
  lists_of = record {
    placed = λ e q.
        let h : e < r.entry_count = in_use e q in
        let ne = placed_parent e h (sym (state_is e h) ∙ q) in
        let p = pa r.entries.now e in
        let hp = parent_in S e h ne in (
          p,
          (let z = view_count r in omega arith),
          ap (times e) (children_are p hp) ∙ times_once e (ks p) (has_mem e (ks p) (S.listed e h ne)) (once (kin r.entries.now r.entry_count) (length r.entries.now) r.entry_count (small S) (kin_of r) p e),
          λ x l d. let hx : x < r.entry_count = (let z = view_count r in omega arith) in ap (times e) (children_are x hx) ∙ times_none e (ks x) (λ m. d (sym (member e x m).1)),
        );
    others = λ e n x l. let hx : x < r.entry_count = (let z = view_count r in omega arith) in ap (times e) (children_are x hx) ∙ times_none e (ks x) (λ m. n (member e x m).2);
  }
    where
      in_use : (e : ℕ) → state_in (view r) e ≡ Some Placed → e < r.entry_count
      in_use e q = elim (cases_lt e r.entry_count) [
        | inl h ↦ h
        | inr h ↦ absurd (let k : None ≡ Some Placed = sym (cond-false (ltb e (length (view r).entries)) (of_state (entry_of (view r) e).state) None (le-ltb e (length (view r).entries) (let z = view_count r in omega arith))) ∙ q in let y : ◌≡◌ {A = ℕ} 0 1 = cc in omega arith)
      ]
