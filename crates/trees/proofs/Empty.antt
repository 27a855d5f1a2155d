-- A table in which nothing is in use yet.
use Rattle.std.proofs.Common.{◌≡◌, ℕ, zero, suc, ◌≤◌, min, cond, eqb, ltb, List, [], length, take, sym, refl, ap, ◌∙◌, subst, inl, inr, arith, length-take}
use Rattle.std.proofs.lemmas.List.{take_all}
use Rattle.std.proofs.lemmas.Bool.{cases_eq, cases_lt, eq-eqb, ne_eqb, le-ltb, cond-true, cond-false}
use Rattle.trees.specs.declared.records.UnitRecord.{UnitRecord}
use Rattle.trees.specs.declared.records.EntryRecord.{EntryRecord}
use Rattle.trees.specs.declared.records.AttributeRecord.{AttributeRecord}
use Rattle.trees.specs.Lists.{nil, stop, kids, Mem}
use Rattle.trees.specs.View.{kin, holdings, Sound, entries_in}
use Rattle.trees.proofs.Families.{chain_nil}
use Rattle.trees.proofs.Views.{fs, at, entries_are}

pub stop_nil : (next : ℕ → ℕ) (F a : ℕ) → a ≡ nil → stop next F a ≡ nil
unfolding stop
stop_nil next zero a e = e
stop_nil next (suc F) a e = cond-true _ _ _ (eq-eqb a nil e) ∙ e

module _ (es : List EntryRecord) (ats : List AttributeRecord) where
  no_child : (e : ℕ) → (kin es 0).first e ≡ nil
  no_child e = cond-false (ltb e 0) (fs es e) nil (le-ltb e 0 (omega arith))

  no_attribute : (e : ℕ) → (holdings es 0 ats nil).first e ≡ nil
  no_attribute e = cond-false (ltb e 0) (at es e) (cond (eqb e nil) nil nil) (le-ltb e 0 (omega arith)) ∙ elim (cases_eq e nil)
      [ inl q ↦ cond-true (eqb e nil) nil nil (eq-eqb e nil q) | inr q ↦ cond-false (eqb e nil) nil nil (ne_eqb e nil q) ]

  pub none_held : kids (holdings es 0 ats nil) (length ats) nil ≡ []
  none_held = chain_nil (holdings es 0 ats nil).next (length ats) ((holdings es 0 ats nil).first nil) (no_attribute nil)

  pub no_entries : entries_in es 0 ats nil ≡ []
  no_entries = entries_are es 0 ats nil [] refl (λ y h. absurd (omega arith))

  pub empty_sound : (us : List UnitRecord) (size : ℕ) → length us ≤ 64 → length es ≤ 65535 → length ats ≤ 65535 → size ≤ 1048576 → Sound us 0 es 0 ats 0 nil size
  empty_sound us size a b c d = record {
    units_fit = (omega arith, a);
    entries_fit = (omega arith, b);
    attributes_fit = (omega arith, c);
    pool_fits = d;
    kin_ends = λ h. stop_nil (kin es 0).next (length es) ((kin es 0).first h) (no_child h);
    kin_owned = λ q. absurd (subst (Mem q.1) (chain_nil (kin es 0).next (length es) ((kin es 0).first q.0) (no_child q.0)) q.2);
    lasts = λ e h. absurd (omega arith);
    parented = λ e h. absurd (omega arith);
    listed = λ e h ne. absurd (omega arith);
    akin = λ e h ne. absurd (omega arith);
    housed = λ e h. absurd (omega arith);
    rooted = λ u h. absurd (omega arith);
    held_ends = λ h. stop_nil (holdings es 0 ats nil).next (length ats) ((holdings es 0 ats nil).first h) (no_attribute h);
    held_owned = λ q. absurd (subst (Mem q.1) (chain_nil (holdings es 0 ats nil).next (length ats) ((holdings es 0 ats nil).first q.0) (no_attribute q.0)) q.2);
  }

-- as much of a list as there is, up to a limit
pub take_min : {X : Type 0} (xs : List X) (n k : ℕ) → k ≡ min (length xs) n → take k xs ≡ take n xs
take_min xs n k e = elim (cases_lt n (length xs)) [
  | inl h ↦ ap (λ (v : ℕ). take v xs) (let z : k ≡ n = omega arith in z)
  | inr h ↦ take_all k xs (omega arith) ∙ sym (take_all n xs h)
]

pub length_min : {X : Type 0} (xs : List X) (n k : ℕ) → k ≡ min (length xs) n → length (take k xs) ≡ min (length xs) n
length_min xs n k e = length-take k xs ∙ omega arith

pub length_below : {X : Type 0} (xs : List X) (n k : ℕ) → k ≡ min (length xs) n → length (take k xs) ≤ n
length_below xs n k e = let z = length_min xs n k e in omega arith
