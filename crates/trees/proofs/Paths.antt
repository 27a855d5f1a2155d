-- The walk of a unit's tree, over the records.
use Rattle.std.proofs.Common.{◌≡◌, ℕ, zero, suc, ◌<◌, ◌≤◌, Bool, true, false, cond, eqb, ltb, ◌≢◌, List, [], ◌∷◌, length, get_or, sym, refl, ap, ◌∙◌, subst, arith}
use Rattle.std.proofs.lemmas.Bool.{eq-eqb, ne_eqb, lt-ltb, le-ltb, cond-true, cond-false}
use Rattle.trees.specs.declared.records.Records.{Records}
use Rattle.trees.specs.declared.records.EntryRecord.{EntryRecord}
use Rattle.trees.specs.declared.records.UnitId.{UnitId}
use Rattle.trees.specs.declared.records.Event.{Event}
use Rattle.trees.specs.declared.records.Event.TheVariants.{Enter, Leave}
use Rattle.trees.specs.Lists.{nil, kids}
use Rattle.trees.specs.Model.{knows_unit, no_unit}
use Rattle.trees.specs.View.{view, Holds, kin, kind}
use Rattle.trees.specs.declared.walk.Spot.{Spot}
use Rattle.trees.specs.declared.walk.Spot.TheVariants.{Before, After}
use Rattle.trees.specs.Walk.{ends, halt, Once, spot_entry, is_after, rest, Ending, steps, tree_events, unit_events, entered, root_record}
use Rattle.trees.proofs.Segs.{Seg}
use Rattle.trees.proofs.Families.{good_seg}
use Rattle.trees.proofs.Views.{nx, fs, pa, st, kin_of}
use Rattle.trees.proofs.Trees.{small, parentless}
use Rattle.trees.proofs.Edits.{known_unit}
use Rattle.trees.proofs.Machine.{Fit, walk_all, advance, halted}
use Rattle.trees.proofs.Visits.{entered_once, entered_events}

-- where a walk goes from an entry: to its first child, or past it
abbrev pub inward : List EntryRecord → ℕ → Spot
inward es e = cond (eqb (fs es e) nil) (After e) (Before (fs es e))

-- one event of the walk, by cases
module _ (es : List EntryRecord) (n root : ℕ) where
  pub past : (s : Spot) → n ≤ spot_entry s → rest es n root s ≡ []
  past (After e) l = halted (fs es) (nx es) (pa es) n root (steps es n root) e true (cond-false (ltb e n) (eqb e root) true (le-ltb e n l))
  past (Before e) l = halted (fs es) (nx es) (pa es) n root (steps es n root) e false (cond-false (ltb e n) false true (le-ltb e n l))

module _ (es : List EntryRecord) (n root e : ℕ) where
  pub finished : e < n → e ≡ root → rest es n root (After e) ≡ []
  finished l q = halted (fs es) (nx es) (pa es) n root (steps es n root) e true (cond-true (ltb e n) (eqb e root) true (lt-ltb e n l) ∙ eq-eqb e root q)

  -- the choice of a spot, as the walk by links has it
  turned : (b : Bool) (f : ℕ) → (spot_entry (cond b (After e) (Before f)) ≡ cond b e f) × (is_after (cond b (After e) (Before f)) ≡ b)
  turned true f = (refl, refl)
  turned false f = (refl, refl)

  pub entering : e < n → Ending es n root (Before e) → (rest es n root (Before e) ≡ Enter e ∷ rest es n root (inward es e)) × Ending es n root (inward es e)
  entering l h =
      let a = advance (fs es) (nx es) (pa es) n root (steps es n root) e false h (cond-true (ltb e n) false true (lt-ltb e n l)) in
      let t = turned (eqb (fs es e) nil) (fs es e) in
      (rw (t.0, t.1) a.0, rw (t.0, t.1) a.1)

  going : e < n → e ≢ root → halt (fs es) (nx es) (pa es) n root e true ≡ false
  going l q = cond-true (ltb e n) (eqb e root) true (lt-ltb e n l) ∙ ne_eqb e root q

  -- out of the parent after its last child
  pub left_last : e < n → e ≢ root → nx es e ≡ nil → Ending es n root (After e) → (rest es n root (After e) ≡ Leave (pa es e) ∷ rest es n root (After (pa es e))) × Ending es n root (After (pa es e))
  left_last l q z h = let a = advance (fs es) (nx es) (pa es) n root (steps es n root) e true h (going l q) in let b = eq-eqb (nx es e) nil z in (rw b at a.0, rw b at a.1)

  -- on to the next child
  pub over_next : e < n → e ≢ root → nx es e ≢ nil → Ending es n root (After e) → (rest es n root (After e) ≡ rest es n root (Before (nx es e))) × Ending es n root (Before (nx es e))
  over_next l q z h = let a = advance (fs es) (nx es) (pa es) n root (steps es n root) e true h (going l q) in let b = ne_eqb (nx es e) nil z in (rw b at a.0, rw b at a.1)

-- the walk begins with all of the unit's events
module _ (r : Records) (u : UnitId) where
  S : Holds r
  S = r.sound

  abbrev es : List EntryRecord
  es = r.entries.now

  abbrev n : ℕ
  n = r.entry_count

  abbrev pub Begins : ℕ → Type 0
  Begins root = (rest es n root (Before root) ≡ unit_events r u) × Ending es n root (Before root) × Once (entered (unit_events r u))

  no_root : (e : ℕ) → n ≤ e → (k : ℕ) → ends (fs es) (nx es) (pa es) n e k e false ≡ true
  unfolding ends
  no_root e l zero = cond-false (ltb e n) false true (le-ltb e n l)
  no_root e l (suc k) = rw (le-ltb e n l)

  pub begins : Begins (root_record r u)
  begins = go (knows_unit (view r) u) refl
    where
      go : (b : Bool) → knows_unit (view r) u ≡ b → Begins (root_record r u)
      go false q =
          let z : root_record r u ≡ nil = rw q in
          let l : n ≤ root_record r u = (let y = small S in omega arith) in
          (past es n (root_record r u) (Before (root_record r u)) l ∙ sym (rw q), no_root (root_record r u) l (steps es n (root_record r u)), subst (λ (x : List Event). Once (entered x)) (sym (cond-false (knows_unit (view r) u) (tree_events es n (root_record r u)) [] q)) tt)
      go true q =
          let v = known_unit r u q in
          let ro = S.rooted u.unit v in
          let e : root_record r u ≡ (get_or r.units.now u.unit no_unit).root = cond-true (knows_unit (view r) u) _ nil q in
          let root = root_record r u in
          let hr : root < n = rw e ro.0 in
          let kr : kind (st es root) ≡ 0 = rw e ro.1 in
          let pr : pa es root ≡ nil = parentless S root hr (ap (λ (x : ℕ). eqb x 2) kr) in
          let ch : ℕ → List ℕ = kids (kin es n) (length es) in
          let nz : n ≤ nil = small S in
          let w : Fit (fs es) (nx es) (pa es) n root ch = record {
            small = nz;
            segs = λ p h. subst (λ (x : ℕ). Seg (nx es) x (ch p) nil) (cond-true (ltb p n) (fs es p) nil (lt-ltb p n h)) (good_seg (kin es n) (length es) n (kin_of r) p);
            own = λ p c h m. (let o = S.kin_owned (p, c, m) in (o.0, (λ z. (let y : p ≡ nil = sym o.1 ∙ (ap (pa es) z ∙ pr) in omega arith)), o.1));
          } in
          let a = walk_all (fs es) (nx es) (pa es) n root ch w hr pr in
          let o = (entered_once (fs es) (nx es) (pa es) n root ch w hr pr).0 in
          (a.0 ∙ sym (cond-true (knows_unit (view r) u) (tree_events es n root) [] q), a.1, subst (λ (x : List Event). Once (entered x)) (sym (cond-true (knows_unit (view r) u) (tree_events es n root) [] q)) (subst Once (sym (entered_events ch n root)) o))
