-- A new entry, in a unit of the table or as the root of a new one.
use Rattle.std.proofs.Common.{◌≡◌, ℕ, suc, ◌+◌, ◌-◌, ◌<◌, ◌≤◌, false, cond, not, eqb, ltb, ◌≢◌, List, [], ◌∷◌, ◌++◌, map, length, get_or, set, sym, refl, ap, ◌∙◌, subst, inl, inr, arith, length-set}
use mathlib.Core.Path.{fun_ext}
use Rattle.std.proofs.lemmas.List.{get_or-set_same, get_or-set_other, length_push, get_or_push, get_or_append_left}
use Rattle.std.proofs.lemmas.Bool.{cases_lt, cases_eq, eq-eqb, ne_eqb, lt-ltb, le-ltb, cond-true, cond-false}
use Rattle.trees.specs.declared.records.UnitRecord.{UnitRecord}
use Rattle.trees.specs.declared.records.EntryRecord.{EntryRecord}
use Rattle.trees.specs.declared.records.AttributeRecord.{AttributeRecord}
use Rattle.trees.specs.declared.records.State.{State}
use Rattle.trees.specs.Lists.{nil, Links, kids, has, last_or}
use Rattle.trees.specs.Model.{no_entry, no_unit, new_entry}
use Rattle.trees.specs.Stores.{fresh_record}
use Rattle.trees.specs.View.{blank, no_attribute, kin, holdings, attributes_at, entry_from, entry_at, entries_in, kind, Sound, Sized}
use Rattle.trees.proofs.Families.{Good, framed, chain_nil}
use Rattle.trees.proofs.Views.{fs, ls, pa, un, at, st, length_entries, entries_at, entries_are, kin_good, held_good}
use Rattle.trees.proofs.Trees.{parent_in}

module _ {us : List UnitRecord} {m : ℕ} {es : List EntryRecord} {n : ℕ} {ats : List AttributeRecord} {k free size : ℕ} (S : Sound us m es n ats k free size)
    (u : ℕ) (s : State) (tag : ℕ) (room : n < length es) where
  abbrev pub more : List EntryRecord
  more = set es n (fresh_record u s tag)

  here : get_or more n blank ≡ fresh_record u s tag
  here = get_or-set_same es n (fresh_record u s tag) blank room

  there : (y : ℕ) → y ≢ n → get_or more y blank ≡ get_or es y blank
  there y ne = get_or-set_other es n y (fresh_record u s tag) blank ne

  n_nil : n ≢ nil
  unfolding nil
  n_nil q = let z = S.entries_fit in omega arith

  nz : suc n ≤ nil
  unfolding nil
  nz = let z = S.entries_fit in omega arith

  nil_is : nil ≡ 65535
  unfolding nil
  nil_is = refl

  len : length more ≡ length es
  len = length-set es n (fresh_record u s tag)

  first_same : (y : ℕ) → (kin more (n + 1)).first y ≡ (kin es n).first y
  first_same y = elim (cases_lt y n) [
    | inl h ↦ cond-true (ltb y (n + 1)) (fs more y) nil (lt-ltb y (n + 1) (omega arith)) ∙ (ap (λ (r : EntryRecord). r.first) (there y (λ q. omega arith)) ∙ sym (cond-true (ltb y n) (fs es y) nil (lt-ltb y n h)))
    | inr h ↦ elim (cases_eq y n) [
      | inl q ↦ cond-true (ltb y (n + 1)) (fs more y) nil (lt-ltb y (n + 1) (omega arith)) ∙ (ap (fs more) q ∙ (ap (λ (r : EntryRecord). r.first) here ∙ (sym nil_is ∙ sym (cond-false (ltb y n) (fs es y) nil (le-ltb y n h)))))
      | inr ne ↦ cond-false (ltb y (n + 1)) (fs more y) nil (le-ltb y (n + 1) (omega arith)) ∙ sym (cond-false (ltb y n) (fs es y) nil (le-ltb y n h))
    ]
  ]

  both : Good (kin more (n + 1)) (length es) (n + 1) × ((y : ℕ) → kids (kin more (n + 1)) (length es) y ≡ kids (kin es n) (length es) y)
  both = framed (kin es n) (kin more (n + 1)) (length es) n (n + 1) (omega arith) (let z = nz in omega arith) (omega arith) (kin_good S)
      (λ y h. ap (λ (r : EntryRecord). r.next) (there y (λ q. omega arith))) first_same (λ y h. ap (λ (r : EntryRecord). r.parent) (there y (λ q. omega arith)))

  fr_kids : (y : ℕ) → kids (kin more (n + 1)) (length more) y ≡ kids (kin es n) (length es) y
  fr_kids y = ap (λ (v : ℕ). kids (kin more (n + 1)) v y) len ∙ both.1 y

  good : Good (kin more (n + 1)) (length more) (n + 1)
  good = subst (λ (v : ℕ). Good (kin more (n + 1)) v (n + 1)) (sym len) both.0

  own_first : (y : ℕ) → (holdings more (n + 1) ats free).first y ≡ (holdings es n ats free).first y
  own_first y = elim (cases_lt y n) [
    | inl h ↦ cond-true (ltb y (n + 1)) (at more y) (cond (eqb y nil) free nil) (lt-ltb y (n + 1) (omega arith)) ∙ (ap (λ (r : EntryRecord). r.attribute) (there y (λ q. omega arith)) ∙ sym (cond-true (ltb y n) (at es y) (cond (eqb y nil) free nil) (lt-ltb y n h)))
    | inr h ↦ elim (cases_eq y n) [
      | inl q ↦ cond-true (ltb y (n + 1)) (at more y) (cond (eqb y nil) free nil) (lt-ltb y (n + 1) (omega arith)) ∙ (ap (at more) q ∙ (ap (λ (r : EntryRecord). r.attribute) here ∙ (sym nil_is
          ∙ (sym (cond-false (eqb y nil) free nil (ne_eqb y nil (λ z. n_nil (sym q ∙ z)))) ∙ sym (cond-false (ltb y n) (at es y) (cond (eqb y nil) free nil) (le-ltb y n h))))))
      | inr ne ↦ cond-false (ltb y (n + 1)) (at more y) (cond (eqb y nil) free nil) (le-ltb y (n + 1) (omega arith)) ∙ sym (cond-false (ltb y n) (at es y) (cond (eqb y nil) free nil) (le-ltb y n h))
    ]
  ]

  pub held : holdings more (n + 1) ats free ≡ holdings es n ats free
  held = λ i. record { next = λ y. (get_or ats y no_attribute).next; first = fun_ext own_first i; owner = λ y. (get_or ats y no_attribute).owner }

  no_kids : kids (kin es n) (length es) n ≡ []
  no_kids = chain_nil (kin es n).next (length es) ((kin es n).first n) (cond-false (ltb n n) (fs es n) nil (le-ltb n n (omega arith)))

  no_attrs : kids (holdings es n ats free) (length ats) n ≡ []
  no_attrs = chain_nil (holdings es n ats free).next (length ats) ((holdings es n ats free).first n)
      (cond-false (ltb n n) (at es n) (cond (eqb n nil) free nil) (le-ltb n n (omega arith)) ∙ cond-false (eqb n nil) free nil (ne_eqb n nil n_nil))

  -- the units at the end: those at the start, and perhaps one whose root is the new entry
  pub record Homes (us' : List UnitRecord) (m' : ℕ) : Type 0 where
    pub fits : Sized m' (length us') 64
    pub grown : m ≤ m'
    pub inside : u < m'
    pub old : (v : ℕ) → v < m → (get_or us' v no_unit).root ≡ (get_or us v no_unit).root
    pub new : (v : ℕ) → m ≤ v → v < m' → ((get_or us' v no_unit).root ≡ n) × (kind s ≡ 0) × (u ≡ v)

  pub fresh_sound : (us' : List UnitRecord) (m' : ℕ) → Homes us' m' → eqb (kind s) 2 ≡ false → Sound us' m' more (n + 1) ats k free size
  fresh_sound us' m' w np = record {
    units_fit = w.fits;
    entries_fit = (rw len (omega arith), rw len S.entries_fit.1);
    attributes_fit = S.attributes_fit;
    pool_fits = S.pool_fits;
    kin_ends = good.ends;
    kin_owned = good.owned;
    lasts = λ e h. elim (cases_eq e n) [
      | inl q ↦ ap (ls more) q ∙ (ap (λ (r : EntryRecord). r.last) here ∙ (sym nil_is ∙ sym (ap (last_or nil) (fr_kids e ∙ (ap (kids (kin es n) (length es)) q ∙ no_kids)))))
      | inr ne ↦ ap (λ (r : EntryRecord). r.last) (there e ne) ∙ (S.lasts e (omega arith) ∙ sym (ap (last_or nil) (fr_kids e)))
    ];
    parented = λ e h. elim (cases_eq e n) [
      | inl q ↦ ap (λ (v : ℕ). eqb (kind (st more v)) 2) q ∙ (ap (λ (r : EntryRecord). eqb (kind r.state) 2) here ∙ (np ∙ sym (ap (λ (v : ℕ). not (eqb (pa more v) nil)) q ∙ (ap (λ (r : EntryRecord). not (eqb r.parent nil)) here ∙ ap not (eq-eqb 65535 nil (sym nil_is))))))
      | inr ne ↦ ap (λ (r : EntryRecord). eqb (kind r.state) 2) (there e ne) ∙ (S.parented e (omega arith) ∙ sym (ap (λ (r : EntryRecord). not (eqb r.parent nil)) (there e ne)))
    ];
    listed = λ e h np'. elim (cases_eq e n) [
      | inl q ↦ absurd (np' (ap (pa more) q ∙ (ap (λ (r : EntryRecord). r.parent) here ∙ sym nil_is)))
      | inr ne ↦ (let z : pa more e ≡ pa es e = ap (λ (r : EntryRecord). r.parent) (there e ne) in
          ap (has e) (fr_kids (pa more e) ∙ ap (kids (kin es n) (length es)) z) ∙ S.listed e (omega arith) (λ x. np' (z ∙ x)))
    ];
    akin = λ e h np'. elim (cases_eq e n) [
      | inl q ↦ absurd (np' (ap (pa more) q ∙ (ap (λ (r : EntryRecord). r.parent) here ∙ sym nil_is)))
      | inr ne ↦ (let z : pa more e ≡ pa es e = ap (λ (r : EntryRecord). r.parent) (there e ne) in
          let b : pa es e < n = parent_in S e (omega arith) (λ x. np' (z ∙ x)) in
          ap (λ (r : EntryRecord). r.unit) (there e ne) ∙ (S.akin e (omega arith) (λ x. np' (z ∙ x)) ∙ (sym (ap (λ (r : EntryRecord). r.unit) (there (pa es e) (λ q. omega arith))) ∙ ap (un more) (sym z))))
    ];
    housed = λ e h. elim (cases_eq e n) [
      | inl q ↦ subst (λ (v : ℕ). v < m') (sym (ap (un more) q ∙ ap (λ (r : EntryRecord). r.unit) here)) w.inside
      | inr ne ↦ subst (λ (v : ℕ). v < m') (sym (ap (λ (r : EntryRecord). r.unit) (there e ne))) (let z = S.housed e (omega arith) in let g = w.grown in omega arith)
    ];
    rooted = λ v h. elim (cases_lt v m) [
      | inl l ↦ (let r = S.rooted v l in let ne : (get_or us v no_unit).root ≢ n = (λ q. (let z = r.0 in omega arith)) in
          subst (λ (x : ℕ). (x < n + 1) × (kind (st more x) ≡ 0) × (un more x ≡ v)) (sym (w.old v l))
          ((let z = r.0 in omega arith), ap (λ (x : EntryRecord). kind x.state) (there (get_or us v no_unit).root ne) ∙ r.1, ap (λ (x : EntryRecord). x.unit) (there (get_or us v no_unit).root ne) ∙ r.2))
      | inr l ↦ (let r = w.new v l h in subst (λ (x : ℕ). (x < n + 1) × (kind (st more x) ≡ 0) × (un more x ≡ v)) (sym r.0)
          ((omega arith), ap (λ (x : EntryRecord). kind x.state) here ∙ r.1, ap (λ (x : EntryRecord). x.unit) here ∙ r.2))
    ];
    held_ends = (subst (λ (L : Links). Good L (length ats) k) (sym held) (held_good S)).ends;
    held_owned = (subst (λ (L : Links). Good L (length ats) k) (sym held) (held_good S)).owned;
  }

  entry_is : (y : ℕ) (r : EntryRecord) (A C : List ℕ) → get_or more y blank ≡ r → kids (holdings es n ats free) (length ats) y ≡ A → kids (kin es n) (length es) y ≡ C
      → entry_at more (n + 1) ats free y ≡ entry_from r (map (λ i. (get_or ats i no_attribute).attribute) A) C
  entry_is y r A C p q t = ap (λ (L : Links). entry_from (get_or more y blank) (attributes_at L ats y) (kids (kin more (n + 1)) (length more) y)) held
      ∙ (ap (λ (c : List ℕ). entry_from (get_or more y blank) (attributes_at (holdings es n ats free) ats y) c) (fr_kids y ∙ t)
      ∙ (ap (λ (x : EntryRecord). entry_from x (attributes_at (holdings es n ats free) ats y) C) p
      ∙ ap (λ (a : List ℕ). entry_from r (map (λ i. (get_or ats i no_attribute).attribute) a) C) q))

  pub fresh_view : entries_in more (n + 1) ats free ≡ entries_in es n ats free ++ new_entry u s tag ∷ []
  fresh_view =
      let xs = entries_in es n ats free in
      let ln : length xs ≡ n = length_entries es n ats free in
      entries_are more (n + 1) ats free _ (length_push xs (new_entry u s tag) ∙ ap (λ (v : ℕ). v + 1) ln) (λ y h. elim (cases_eq y n) [
        | inl q ↦ ap (entry_at more (n + 1) ats free) q ∙ (entry_is n (fresh_record u s tag) [] [] here no_attrs no_kids ∙ sym (ap (λ (v : ℕ). get_or (xs ++ new_entry u s tag ∷ []) v no_entry) q ∙ get_or_push xs (new_entry u s tag) no_entry n ln))
        | inr ne ↦ (let b : y < n = omega arith in entry_is y (get_or es y blank) _ _ (there y ne) refl refl ∙ (sym (entries_at es n ats free y b) ∙ sym (get_or_append_left xs (new_entry u s tag ∷ []) no_entry y (rw ln b))))
      ])

  pub fresh_left : length more - (n + 1) ≡ length es - n - 1
  fresh_left = ap (λ (l : ℕ). l - (n + 1)) len ∙ omega arith
