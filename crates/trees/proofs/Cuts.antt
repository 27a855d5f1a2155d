-- An entry is taken out of its parent's list.
use Rattle.std.proofs.Common.{◌≡◌, ℕ, ◌<◌, ◌≤◌, Bool, true, false, cond, not, eqb, ltb, ◌≢◌, List, length, get_or, sym, refl, ap, ◌∙◌, subst, inl, inr, arith, length-set}
use Rattle.std.proofs.lemmas.Bool.{cases_eq, eqb-true, eq-eqb, ne_eqb, lt-ltb, cond-true, cond-false}
use Rattle.trees.specs.declared.records.UnitRecord.{UnitRecord}
use Rattle.trees.specs.declared.records.EntryRecord.{EntryRecord}
use Rattle.trees.specs.declared.records.AttributeRecord.{AttributeRecord}
use Rattle.trees.specs.declared.records.State.{State}
use Rattle.trees.specs.declared.records.Note.{Note}
use Rattle.trees.specs.declared.records.State.TheVariants.{TakenOut}
use Rattle.trees.specs.Lists.{nil, Links, kids, has, last_or, without, Before}
use Rattle.trees.specs.Model.{Entry, no_unit, change, abandon, left}
use Rattle.trees.specs.Stores.{modify, loose_record, with_ends, with_last, with_next, unlinked_first, unlinked_after, last_without}
use Rattle.trees.specs.View.{blank, kin, holdings, attributes_at, entry_at, entries_in, kind, Sound}
use Rattle.trees.proofs.Families.{Good, Removing, remove_good, dropped, last_left, mem_without, has_mem, mem_has, before_not}
use Rattle.trees.proofs.Views.{along, nx, fs, ls, pa, un, at, st, tg, sb, nt, upd, upd_at, upd_off, held_path, length_entries, entries_at, entries_are, change_at, length_change, kin_good, held_good}
use Rattle.trees.proofs.Trees.{Stepped, changes, keeps, at_point, small, root_not}

module _ {us : List UnitRecord} {m : ℕ} {es : List EntryRecord} {n : ℕ} {ats : List AttributeRecord} {k free size : ℕ} (S : Sound us m es n ats k free size) where
  -- c is taken out at p, from after l
  pub record Taking (es' : List EntryRecord) (c p l : ℕ) : Type 0 where
    pub len : length es' ≡ length es
    pub head : l ≡ nil → fs es' p ≡ nx es c
    pub later : l ≢ nil → (nx es' l ≡ nx es c) × (fs es' p ≡ fs es p)
    pub nexts : (y : ℕ) → y ≢ c → y ≢ l → nx es' y ≡ nx es y
    pub firsts : (y : ℕ) → y ≢ p → fs es' y ≡ fs es y
    pub last : ls es' ≡ upd (ls es) p (cond (eqb (nx es c) nil) l (ls es p))
    pub parent : pa es' ≡ upd (pa es) c nil
    pub state : st es' ≡ upd (st es) c TakenOut
    pub tagged : tg es' ≡ tg es
    pub unit : un es' ≡ un es
    pub sibling : sb es' ≡ sb es
    pub note : nt es' ≡ nt es
    pub attribute : at es' ≡ at es

  module _ (es' : List EntryRecord) (c p l : ℕ) (hp : p < n) (b : Before (kin es n) (length es) p c l) (w : Taking es' c p l) where
    nz : n ≤ nil
    nz = small S

    g : Good (kin es n) (length es) n
    g = kin_good S

    pub taken_in : c < n
    taken_in = (S.kin_owned (p, c, b.0)).0

    c_parent : pa es c ≡ p
    c_parent = (S.kin_owned (p, c, b.0)).1

    c_kind : kind (st es c) ≡ 2
    c_kind = eqb-true (kind (st es c)) 2 (S.parented c taken_in ∙ ap not (ne_eqb (pa es c) nil (λ q. (let z : p ≡ nil = sym c_parent ∙ q in let s = nz in omega arith))))

    tk_first : (y : ℕ) → y < n → (kin es' n).first y ≡ fs es' y
    tk_first y h = cond-true _ _ _ (lt-ltb y n h)

    old_first : (y : ℕ) → y < n → fs es y ≡ (kin es n).first y
    old_first y h = sym (cond-true (ltb y n) (fs es y) nil (lt-ltb y n h))

    tk_remove : Removing (kin es n) (kin es' n) (length es) p c l
    tk_remove = record {
      before = b;
      head = λ e. tk_first p hp ∙ w.head e;
      later = λ e. ((w.later e).0, tk_first p hp ∙ ((w.later e).1 ∙ old_first p hp));
      nexts = w.nexts;
      firsts = λ y ne. ap (λ (v : ℕ). cond (ltb y n) v nil) (w.firsts y ne);
      owners = λ y ne. at_point w.parent y ∙ upd_off (pa es) c nil y ne;
    }

    fits : n ≤ length es
    fits = S.entries_fit.0

    tk_both : Good (kin es' n) (length es) n × ((y : ℕ) → kids (kin es' n) (length es) y ≡ dropped p c (kids (kin es n) (length es)) y)
    tk_both = remove_good (kin es n) (kin es' n) (length es) n p c l fits nz g tk_remove

    pub tk_kids : (y : ℕ) → kids (kin es' n) (length es') y ≡ dropped p c (kids (kin es n) (length es)) y
    tk_kids y = ap (λ (v : ℕ). kids (kin es' n) v y) w.len ∙ tk_both.1 y

    tk_good : Good (kin es' n) (length es') n
    tk_good = subst (λ (v : ℕ). Good (kin es' n) v n) (sym w.len) tk_both.0

    tk_held : holdings es' n ats free ≡ holdings es n ats free
    tk_held = held_path es es' n ats free w.attribute

    tk_keeps : (y x : ℕ) → x ≢ c → has x (kids (kin es n) (length es) y) ≡ true → has x (kids (kin es' n) (length es') y) ≡ true
    tk_keeps y x nc e = ap (has x) (tk_kids y) ∙ elim (cases_eq y p) [
      | inl q ↦ ap (has x) (cond-true (eqb y p) (without c (kids (kin es n) (length es) y)) (kids (kin es n) (length es) y) (eq-eqb y p q))
          ∙ mem_has x (without c (kids (kin es n) (length es) y)) (mem_without c x (kids (kin es n) (length es) y) (has_mem x (kids (kin es n) (length es) y) e) nc)
      | inr ne ↦ ap (has x) (cond-false (eqb y p) (without c (kids (kin es n) (length es) y)) (kids (kin es n) (length es) y) (ne_eqb y p ne)) ∙ e
    ]

    last_is : cond (eqb (nx es c) nil) l (ls es p) ≡ last_or nil (without c (kids (kin es n) (length es) p))
    last_is = let r = last_left (kin es n) (length es) n nz g p c l b in elim (cases_eq (nx es c) nil) [
      | inl q ↦ cond-true _ _ _ (eq-eqb (nx es c) nil q) ∙ sym (r.0 q)
      | inr ne ↦ cond-false _ _ _ (ne_eqb (nx es c) nil ne) ∙ (S.lasts p hp ∙ sym (r.1 ne))
    ]

    pub take_sound : Sound us m es' n ats k free size
    take_sound = record {
      units_fit = S.units_fit;
      entries_fit = rw w.len S.entries_fit;
      attributes_fit = S.attributes_fit;
      pool_fits = S.pool_fits;
      kin_ends = tk_good.ends;
      kin_owned = tk_good.owned;
      lasts = λ e h. at_point w.last e ∙ elim (cases_eq e p) [
        | inl q ↦ cond-true _ _ _ (eq-eqb e p q) ∙ (last_is ∙ sym (ap (last_or nil) (tk_kids e ∙ cond-true (eqb e p) (without c (kids (kin es n) (length es) e)) (kids (kin es n) (length es) e) (eq-eqb e p q)) ∙ ap (λ (v : ℕ). last_or nil (without c (kids (kin es n) (length es) v))) q))
        | inr ne ↦ cond-false _ _ _ (ne_eqb e p ne) ∙ (S.lasts e h ∙ sym (ap (last_or nil) (tk_kids e ∙ cond-false (eqb e p) (without c (kids (kin es n) (length es) e)) (kids (kin es n) (length es) e) (ne_eqb e p ne))))
      ];
      parented = λ e h. elim (cases_eq e c) [
        | inl q ↦ ap (λ (s : State). eqb (kind s) 2) (at_point w.state e ∙ cond-true (eqb e c) TakenOut (st es e) (eq-eqb e c q))
            ∙ sym (ap (λ (v : ℕ). not (eqb v nil)) (at_point w.parent e ∙ cond-true (eqb e c) nil (pa es e) (eq-eqb e c q)) ∙ ap not (eq-eqb nil nil refl))
        | inr ne ↦ ap (λ (s : State). eqb (kind s) 2) (at_point w.state e ∙ cond-false (eqb e c) TakenOut (st es e) (ne_eqb e c ne))
            ∙ (S.parented e h ∙ sym (ap (λ (v : ℕ). not (eqb v nil)) (at_point w.parent e ∙ cond-false (eqb e c) nil (pa es e) (ne_eqb e c ne))))
      ];
      listed = λ e h ne. elim (cases_eq e c) [
        | inl q ↦ absurd (ne (at_point w.parent e ∙ cond-true (eqb e c) nil (pa es e) (eq-eqb e c q)))
        | inr nc ↦ (let z : pa es' e ≡ pa es e = at_point w.parent e ∙ cond-false (eqb e c) nil (pa es e) (ne_eqb e c nc) in
            ap (λ (v : ℕ). has e (kids (kin es' n) (length es') v)) z ∙ tk_keeps (pa es e) e nc (S.listed e h (λ x. ne (z ∙ x))))
      ];
      akin = λ e h ne. at_point w.unit e ∙ (elim (cases_eq e c) [
        | inl q ↦ absurd (ne (at_point w.parent e ∙ cond-true (eqb e c) nil (pa es e) (eq-eqb e c q)))
        | inr nc ↦ (let z : pa es' e ≡ pa es e = at_point w.parent e ∙ cond-false (eqb e c) nil (pa es e) (ne_eqb e c nc) in S.akin e h (λ x. ne (z ∙ x)) ∙ ap (un es) (sym z))
      ]
          ∙ sym (at_point w.unit (pa es' e)));
      housed = λ e h. subst (λ (v : ℕ). v < m) (sym (at_point w.unit e)) (S.housed e h);
      rooted = λ u h. let r = S.rooted u h in let rt = (get_or us u no_unit).root in
          (r.0, ap kind (at_point w.state rt ∙ upd_off (st es) c TakenOut rt (root_not S u c h (λ z. (let y = c_kind in omega arith)))) ∙ r.1, at_point w.unit rt ∙ r.2);
      held_ends = (subst (λ (L : Links). Good L (length ats) k) (sym tk_held) (held_good S)).ends;
      held_owned = (subst (λ (L : Links). Good L (length ats) k) (sym tk_held) (held_good S)).owned;
    }

    pub take_held : kids (holdings es' n ats free) (length ats) nil ≡ kids (holdings es n ats free) (length ats) nil
    take_held = ap (λ (L : Links). kids L (length ats) nil) tk_held

    pub take_view : entries_in es' n ats free ≡ change c (left TakenOut) (change p (abandon c) (entries_in es n ats free))
    take_view =
        let xs = entries_in es n ats free in
        let ln : length xs ≡ n = length_entries es n ats free in
        let l1 : length (change p (abandon c) xs) ≡ n = length_change xs p (abandon c) ∙ ln in
        let h1 : p < length xs = rw ln hp in
        let h2 : c < length (change p (abandon c) xs) = rw l1 taken_in in
        entries_are es' n ats free _ (length_change (change p (abandon c) xs) c (left TakenOut) ∙ l1) (λ y h.
        made y ∙ (split y (eqb y c) (eqb y p)
        ∙ sym (change_at (change p (abandon c) xs) c (left TakenOut) h2 y
        ∙ (ap (λ (x : Entry). cond (eqb y c) (left TakenOut x) x) (change_at xs p (abandon c) h1 y)
        ∙ ap (λ (x : Entry). cond (eqb y c) (left TakenOut (cond (eqb y p) (abandon c x) x)) (cond (eqb y p) (abandon c x) x)) (entries_at es n ats free y h)))))
      where
        made : (y : ℕ) → entry_at es' n ats free y ≡ record { unit = un es y; state = cond (eqb y c) TakenOut (st es y); tag = tg es y; sibling = sb es y; note = nt es y; attributes = attributes_at (holdings es n ats free) ats y; children = cond (eqb y p) (without c (kids (kin es n) (length es) y)) (kids (kin es n) (length es) y) }
        made y = λ i. record { unit = w.unit i y; state = w.state i y; tag = w.tagged i y; sibling = w.sibling i y; note = w.note i y; attributes = attributes_at (tk_held i) ats y; children = tk_kids y i }

        split : (y : ℕ) (b d : Bool) → (record { unit = un es y; state = cond b TakenOut (st es y); tag = tg es y; sibling = sb es y; note = nt es y; attributes = attributes_at (holdings es n ats free) ats y; children = cond d (without c (kids (kin es n) (length es) y)) (kids (kin es n) (length es) y) })
            ≡ cond b (left TakenOut (cond d (abandon c (entry_at es n ats free y)) (entry_at es n ats free y))) (cond d (abandon c (entry_at es n ats free y)) (entry_at es n ats free y))
        split y true true = refl
        split y true false = refl
        split y false true = refl
        split y false false = refl

  -- the two ways to take out
  module _ (c p l : ℕ) (hp : p < n) (b : Before (kin es n) (length es) p c l) where
    pub cut_in : c < n
    cut_in = (S.kin_owned (p, c, b.0)).0

    pub prev_in : l ≢ nil → l < n
    prev_in ne = (S.kin_owned (p, l, (b.2 ne).0)).0

    cp_len : (c < length es) × (p < length es)
    cp_len = let s = S.entries_fit in let q = cut_in in (omega arith, omega arith)

    pub first_taking : l ≡ nil → Taking (unlinked_first es c p) c p l
    unfolding nil
    first_taking e =
        let x = nx es c in
        let v = last_without es c p 65535 in
        let e1 = modify es p (with_ends x v) in
        let k1 : length e1 ≡ length es = length-set es p _ in
        let h1 : p < length es = cp_len.1 in
        let h2 : c < length e1 = (let s = cp_len in omega arith) in
        let nx' : nx (unlinked_first es c p) ≡ upd (nx es) c nil = changes (λ (x : EntryRecord). x.next) e1 c loose_record h2 ∙ ap (λ (f : ℕ → ℕ). upd f c nil) (keeps (λ (x : EntryRecord). x.next) es p (with_ends x v) h1 (λ r. refl)) in
        let fs' : fs (unlinked_first es c p) ≡ upd (fs es) p x = keeps (λ (x : EntryRecord). x.first) e1 c loose_record h2 (λ r. refl) ∙ changes (λ (x : EntryRecord). x.first) es p (with_ends x v) h1 in
        let all : (X : Type 0) (f : EntryRecord → X) → ((r : EntryRecord) → f (with_ends x v r) ≡ f r) → ((r : EntryRecord) → f (loose_record r) ≡ f r) → along f (unlinked_first es c p) blank ≡ along f es blank
        = λ X f p1 p2. keeps f e1 c loose_record h2 p2 ∙ keeps f es p (with_ends x v) h1 p1 in
        record {
          len = length-set e1 c _ ∙ k1;
          head = λ _. at_point fs' p ∙ upd_at (fs es) p x;
          later = λ ne. absurd (ne e);
          nexts = λ y nc _. at_point nx' y ∙ upd_off (nx es) c nil y nc;
          firsts = λ y ne. at_point fs' y ∙ upd_off (fs es) p x y ne;
          last = keeps (λ (x : EntryRecord). x.last) e1 c loose_record h2 (λ r. refl) ∙ (changes (λ (x : EntryRecord). x.last) es p (with_ends x v) h1 ∙ ap (λ (u : ℕ). upd (ls es) p (cond (eqb (nx es c) nil) u (ls es p))) (sym e));
          parent = changes (λ (x : EntryRecord). x.parent) e1 c loose_record h2 ∙ ap (λ (f : ℕ → ℕ). upd f c nil) (keeps (λ (x : EntryRecord). x.parent) es p (with_ends x v) h1 (λ r. refl));
          state = changes (λ (x : EntryRecord). x.state) e1 c loose_record h2 ∙ ap (λ (f : ℕ → State). upd f c TakenOut) (keeps (λ (x : EntryRecord). x.state) es p (with_ends x v) h1 (λ r. refl));
          tagged = all ℕ (λ (x : EntryRecord). x.tag) (λ r. refl) (λ r. refl);
          unit = all ℕ (λ (x : EntryRecord). x.unit) (λ r. refl) (λ r. refl);
          sibling = all Bool (λ (x : EntryRecord). x.sibling) (λ r. refl) (λ r. refl);
          note = all Note (λ (x : EntryRecord). x.note) (λ r. refl) (λ r. refl);
          attribute = all ℕ (λ (x : EntryRecord). x.attribute) (λ r. refl) (λ r. refl);
        }

    pub after_taking : l ≢ nil → Taking (unlinked_after es c p l) c p l
    unfolding nil
    after_taking ne =
        let x = nx es c in
        let lc : l ≢ c = before_not (kin es n) (length es) n (small S) (kin_good S) p c l b ne in
        let e1 = modify es l (with_next x) in
        let k1 : length e1 ≡ length es = length-set es l _ in
        let v = last_without e1 c p l in
        let e2 = modify e1 p (with_last v) in
        let k2 : length e2 ≡ length e1 = length-set e1 p _ in
        let h1 : l < length es = (let s = S.entries_fit in let q = prev_in ne in omega arith) in
        let h2 : p < length e1 = (let s = cp_len in omega arith) in
        let h3 : c < length e2 = (let s = cp_len in omega arith) in
        let n1 : nx e1 ≡ upd (nx es) l x = changes (λ (x : EntryRecord). x.next) es l (with_next x) h1 in
        let nx' : nx (unlinked_after es c p l) ≡ upd (upd (nx es) l x) c nil = changes (λ (x : EntryRecord). x.next) e2 c loose_record h3
        ∙ ap (λ (f : ℕ → ℕ). upd f c nil) (keeps (λ (x : EntryRecord). x.next) e1 p (with_last v) h2 (λ r. refl) ∙ n1) in
        let cl : c ≢ l = λ q. lc (sym q) in
        let nc : nx e1 c ≡ x = at_point n1 c ∙ upd_off (nx es) l x c cl in
        let lp : ls e1 p ≡ ls es p = at_point (keeps (λ (x : EntryRecord). x.last) es l (with_next x) h1 (λ r. refl)) p in
        let vv : v ≡ cond (eqb (nx es c) nil) l (ls es p) = ap (λ (u : ℕ). cond (eqb u nil) l (ls e1 p)) nc ∙ ap (λ (u : ℕ). cond (eqb x nil) l u) lp in
        let all : (X : Type 0) (f : EntryRecord → X) → ((r : EntryRecord) → f (with_next x r) ≡ f r) → ((r : EntryRecord) → f (with_last v r) ≡ f r) → ((r : EntryRecord) → f (loose_record r) ≡ f r) → along f (unlinked_after es c p l) blank ≡ along f es blank
        = λ X f p1 p2 p3. keeps f e2 c loose_record h3 p3 ∙ (keeps f e1 p (with_last v) h2 p2 ∙ keeps f es l (with_next x) h1 p1) in
        record {
          len = length-set e2 c _ ∙ (k2 ∙ k1);
          head = λ q. absurd (ne q);
          later = λ _. (at_point nx' l ∙ (upd_off (upd (nx es) l x) c nil l lc ∙ upd_at (nx es) l x), at_point (all ℕ (λ (x : EntryRecord). x.first) (λ r. refl) (λ r. refl) (λ r. refl)) p);
          nexts = λ y nc nl. at_point nx' y ∙ (upd_off (upd (nx es) l x) c nil y nc ∙ upd_off (nx es) l x y nl);
          firsts = λ y _. at_point (all ℕ (λ (x : EntryRecord). x.first) (λ r. refl) (λ r. refl) (λ r. refl)) y;
          last = keeps (λ (x : EntryRecord). x.last) e2 c loose_record h3 (λ r. refl) ∙ (changes (λ (x : EntryRecord). x.last) e1 p (with_last v) h2
              ∙ (ap (λ (f : ℕ → ℕ). upd f p v) (keeps (λ (x : EntryRecord). x.last) es l (with_next x) h1 (λ r. refl)) ∙ ap (upd (ls es) p) vv));
          parent = changes (λ (x : EntryRecord). x.parent) e2 c loose_record h3 ∙ ap (λ (f : ℕ → ℕ). upd f c nil) (keeps (λ (x : EntryRecord). x.parent) e1 p (with_last v) h2 (λ r. refl) ∙ keeps (λ (x : EntryRecord). x.parent) es l (with_next x) h1 (λ r. refl));
          state = changes (λ (x : EntryRecord). x.state) e2 c loose_record h3 ∙ ap (λ (f : ℕ → State). upd f c TakenOut) (keeps (λ (x : EntryRecord). x.state) e1 p (with_last v) h2 (λ r. refl) ∙ keeps (λ (x : EntryRecord). x.state) es l (with_next x) h1 (λ r. refl));
          tagged = all ℕ (λ (x : EntryRecord). x.tag) (λ r. refl) (λ r. refl) (λ r. refl);
          unit = all ℕ (λ (x : EntryRecord). x.unit) (λ r. refl) (λ r. refl) (λ r. refl);
          sibling = all Bool (λ (x : EntryRecord). x.sibling) (λ r. refl) (λ r. refl) (λ r. refl);
          note = all Note (λ (x : EntryRecord). x.note) (λ r. refl) (λ r. refl) (λ r. refl);
          attribute = all ℕ (λ (x : EntryRecord). x.attribute) (λ r. refl) (λ r. refl) (λ r. refl);
        }

  module _ (es' : List EntryRecord) (c p l : ℕ) (hp : p < n) (b : Before (kin es n) (length es) p c l) where
    stepped : Taking es' c p l → Stepped S es' (change c (left TakenOut) (change p (abandon c) (entries_in es n ats free)))
    stepped w = (take_sound es' c p l hp b w, take_view es' c p l hp b w, w.len, take_held es' c p l hp b w)

    pub taken_first : l ≡ nil → es' ≡ unlinked_first es c p → Stepped S es' (change c (left TakenOut) (change p (abandon c) (entries_in es n ats free)))
    taken_first e q = stepped (subst (λ (x : List EntryRecord). Taking x c p l) (sym q) (first_taking c p l hp b e))

    pub taken_after : l ≢ nil → es' ≡ unlinked_after es c p l → Stepped S es' (change c (left TakenOut) (change p (abandon c) (entries_in es n ats free)))
    taken_after e q = stepped (subst (λ (x : List EntryRecord). Taking x c p l) (sym q) (after_taking c p l hp b e))
