-- The steps on entries, over the records: the invariant stays, and the view makes the model's step.
use Rattle.std.proofs.Common.{◌≡◌, ℕ, ◌<◌, ◌≤◌, Bool, true, false, cond, not, eqb, ltb, ◌≢◌, ◌⊎◌, List, [], ◌∷◌, ◌++◌, length, get_or, set, sym, refl, ap, ◌∙◌, subst, inl, inr, arith, length-set}
use Rattle.std.proofs.lemmas.Bool.{cases_lt, cases_eq, eq-eqb, ne_eqb, lt-ltb, le-ltb, cond-true, cond-false, true≢false}
use Rattle.trees.specs.declared.records.Attribute.{Attribute}
use Rattle.trees.specs.declared.records.UnitRecord.{UnitRecord}
use Rattle.trees.specs.declared.records.EntryRecord.{EntryRecord}
use Rattle.trees.specs.declared.records.AttributeRecord.{AttributeRecord}
use Rattle.trees.specs.declared.records.State.{State}
use Rattle.trees.specs.declared.records.Note.{Note}
use Rattle.trees.specs.declared.records.State.TheVariants.{Root, Waiting, Placed, TakenOut, GivenBack}
use Rattle.trees.specs.Lists.{nil, Links, kids, Mem, has, last_or}
use Rattle.trees.specs.Model.{Entry, no_unit, change, placed, adopt}
use Rattle.trees.specs.Stores.{modify, placed_record, with_ends, with_last, with_next, linked_first, linked_after}
use Rattle.trees.specs.View.{blank, kin, holdings, attributes_at, entry_from, entry_at, entries_in, kind, Sound}
use Rattle.trees.proofs.Families.{Good, Appending, append_good, added, last_push, last_in, push_mem, mem_left, has_mem, mem_has, chain_nil}
use Rattle.trees.proofs.Views.{along, nx, fs, ls, pa, un, at, st, tg, sb, nt, upd, upd_at, upd_off, field, kept, kin_path, held_path, length_entries, entries_at, entries_are, change_at, length_change, kin_kept, held_kept, one_changed, kin_good, held_good}

-- a record changed: one field's function changes at one place, or not at all
pub changes : {X : Type 0} (f : EntryRecord → X) (es : List EntryRecord) (i : ℕ) (g : EntryRecord → EntryRecord) → i < length es
    → along f (modify es i g) blank ≡ upd (along f es blank) i (f (g (get_or es i blank)))
changes f es i g h = field f es i (g (get_or es i blank)) blank h

pub keeps : {X : Type 0} (f : EntryRecord → X) (es : List EntryRecord) (i : ℕ) (g : EntryRecord → EntryRecord) → i < length es → ((r : EntryRecord) → f (g r) ≡ f r)
    → along f (modify es i g) blank ≡ along f es blank
keeps f es i g h e = kept f es i (g (get_or es i blank)) blank h (e (get_or es i blank))

pub at_point : {X : Type 0} {f g : ℕ → X} → f ≡ g → (y : ℕ) → f y ≡ g y
at_point p y = λ i. p i y

-- what kind of entry is placed
pub placed_kind : (s : State) → eqb (kind s) 2 ≡ true → s ≡ Placed
placed_kind Root e = absurd (true≢false (sym e))
placed_kind Waiting e = absurd (true≢false (sym e))
placed_kind Placed e = refl
placed_kind TakenOut e = absurd (true≢false (sym e))
placed_kind GivenBack e = absurd (true≢false (sym e))

module _ {us : List UnitRecord} {m : ℕ} {es : List EntryRecord} {n : ℕ} {ats : List AttributeRecord} {k free size : ℕ} (S : Sound us m es n ats k free size) where
  pub small : n ≤ nil
  unfolding nil
  small = let s = S.entries_fit in omega arith

  -- an entry that is not placed has no parent, and stands in no list
  pub parentless : (c : ℕ) → c < n → eqb (kind (st es c)) 2 ≡ false → pa es c ≡ nil
  parentless c h e = go (cases_eq (pa es c) nil)
    where
      go : (pa es c ≡ nil) ⊎ (pa es c ≡ nil → ⊥) → pa es c ≡ nil
      go (inl q) = q
      go (inr ne) = absurd (true≢false (sym (ap not (ne_eqb (pa es c) nil ne)) ∙ (sym (S.parented c h) ∙ e)))

  nil_first : (kin es n).first nil ≡ nil
  nil_first = cond-false _ _ _ (le-ltb nil n small)

  pub unlisted : (c : ℕ) → c < n → eqb (kind (st es c)) 2 ≡ false → (y : ℕ) → Mem c (kids (kin es n) (length es) y) → ⊥
  unlisted c h e y mm =
      let q : nil ≡ y = sym (parentless c h e) ∙ (S.kin_owned (y, c, mm)).1 in
      let z : kids (kin es n) (length es) nil ≡ [] = chain_nil (kin es n).next (length es) ((kin es n).first nil) nil_first in
      subst (Mem c) z (subst (λ (v : ℕ). Mem c (kids (kin es n) (length es) v)) (sym q) mm)

  pub parent_in : (c : ℕ) → c < n → pa es c ≢ nil → pa es c < n
  parent_in c h ne = elim (cases_lt (pa es c) n) [
    | inl l ↦ l
    | inr l ↦ absurd (let z : kids (kin es n) (length es) (pa es c) ≡ [] = chain_nil (kin es n).next (length es) ((kin es n).first (pa es c)) (cond-false _ _ _ (le-ltb (pa es c) n l)) in
        subst (Mem c) z (has_mem c (kids (kin es n) (length es) (pa es c)) (S.listed c h ne)))
  ]

  -- a placed entry is no root, and the other way round
  pub root_not : (u c : ℕ) → u < m → kind (st es c) ≢ 0 → (get_or us u no_unit).root ≢ c
  root_not u c h ne q = ne (sym (ap (λ (v : ℕ). kind (st es v)) q) ∙ (S.rooted u h).1)

  -- where the links stay: the records es' differ from es in the states, tags and flags only
  pub record Calm (es' : List EntryRecord) : Type 0 where
    pub len : length es' ≡ length es
    pub next : nx es' ≡ nx es
    pub first : fs es' ≡ fs es
    pub last : ls es' ≡ ls es
    pub parent : pa es' ≡ pa es
    pub unit : un es' ≡ un es
    pub attribute : at es' ≡ at es

  module _ (es' : List EntryRecord) (w : Calm es') where
    calm_kin : kin es' n ≡ kin es n
    calm_kin = kin_path es es' n w.next w.first w.parent

    calm_held : holdings es' n ats free ≡ holdings es n ats free
    calm_held = held_path es es' n ats free w.attribute

    calm_kids : (y : ℕ) → kids (kin es' n) (length es') y ≡ kids (kin es n) (length es) y
    calm_kids y = ap (λ (L : Links). kids L (length es') y) calm_kin ∙ ap (λ (l : ℕ). kids (kin es n) l y) w.len

    calm_good : Good (kin es' n) (length es') n
    calm_good = subst (λ (L : Links). Good L (length es') n) (sym calm_kin) (subst (λ (l : ℕ). Good (kin es n) l n) (sym w.len) (kin_good S))

    pub calm_sound : ((e : ℕ) → e < n → eqb (kind (st es' e)) 2 ≡ eqb (kind (st es e)) 2) → ((e : ℕ) → e < n → kind (st es e) ≡ 0 → kind (st es' e) ≡ 0) → Sound us m es' n ats k free size
    calm_sound ks rs = record {
      units_fit = S.units_fit;
      entries_fit = rw w.len S.entries_fit;
      attributes_fit = S.attributes_fit;
      pool_fits = S.pool_fits;
      kin_ends = calm_good.ends;
      kin_owned = calm_good.owned;
      lasts = λ e h. at_point w.last e ∙ (S.lasts e h ∙ sym (ap (last_or nil) (calm_kids e)));
      parented = λ e h. ks e h ∙ (S.parented e h ∙ ap (λ (v : ℕ). not (eqb v nil)) (sym (at_point w.parent e)));
      listed = λ e h ne. let q = at_point w.parent e in ap (has e) (calm_kids (pa es' e) ∙ ap (kids (kin es n) (length es)) q) ∙ S.listed e h (λ z. ne (q ∙ z));
      akin = λ e h ne. let q = at_point w.parent e in at_point w.unit e ∙ (S.akin e h (λ z. ne (q ∙ z)) ∙ (ap (un es) (sym q) ∙ sym (at_point w.unit (pa es' e))));
      housed = λ e h. subst (λ (v : ℕ). v < m) (sym (at_point w.unit e)) (S.housed e h);
      rooted = λ u h. let r = S.rooted u h in (r.0, rs (get_or us u no_unit).root r.0 r.1, at_point w.unit (get_or us u no_unit).root ∙ r.2);
      held_ends = (subst (λ (L : Links). Good L (length ats) k) (sym calm_held) (held_good S)).ends;
      held_owned = (subst (λ (L : Links). Good L (length ats) k) (sym calm_held) (held_good S)).owned;
    }

  -- one record written, all links kept
  pub calm_set : (i : ℕ) (r : EntryRecord) → i < length es → r.next ≡ nx es i → r.first ≡ fs es i → r.last ≡ ls es i → r.parent ≡ pa es i → r.unit ≡ un es i → r.attribute ≡ at es i → Calm (set es i r)
  calm_set i r h a b c d e f = record {
    len = length-set es i r;
    next = kept (λ (x : EntryRecord). x.next) es i r blank h a;
    first = kept (λ (x : EntryRecord). x.first) es i r blank h b;
    last = kept (λ (x : EntryRecord). x.last) es i r blank h c;
    parent = kept (λ (x : EntryRecord). x.parent) es i r blank h d;
    unit = kept (λ (x : EntryRecord). x.unit) es i r blank h e;
    attribute = kept (λ (x : EntryRecord). x.attribute) es i r blank h f;
  }

  pub set_sound : (i : ℕ) (r : EntryRecord) → i < n → r.next ≡ nx es i → r.first ≡ fs es i → r.last ≡ ls es i → r.parent ≡ pa es i → r.unit ≡ un es i → r.attribute ≡ at es i
      → eqb (kind r.state) 2 ≡ eqb (kind (st es i)) 2 → (kind (st es i) ≡ 0 → kind r.state ≡ 0) → Sound us m (set es i r) n ats k free size
  set_sound i r h a b c d e f p q =
      let hl : i < length es = (let s = S.entries_fit in omega arith) in
      let sts = field (λ (x : EntryRecord). x.state) es i r blank hl in
      calm_sound (set es i r) (calm_set i r hl a b c d e f)
      (λ y l. ap (λ (s : State). eqb (kind s) 2) (at_point sts y) ∙ elim (cases_eq y i) [
        | inl z ↦ ap (λ (s : State). eqb (kind s) 2) (cond-true (eqb y i) r.state (st es y) (eq-eqb y i z)) ∙ (p ∙ ap (λ (v : ℕ). eqb (kind (st es v)) 2) (sym z))
        | inr ne ↦ ap (λ (s : State). eqb (kind s) 2) (cond-false (eqb y i) r.state (st es y) (ne_eqb y i ne))
      ])
      (λ y l z0. elim (cases_eq y i) [
        | inl z ↦ ap kind (at_point sts y ∙ cond-true (eqb y i) r.state (st es y) (eq-eqb y i z)) ∙ q (ap (λ (v : ℕ). kind (st es v)) (sym z) ∙ z0)
        | inr ne ↦ ap kind (at_point sts y ∙ cond-false (eqb y i) r.state (st es y) (ne_eqb y i ne)) ∙ z0
      ])

  -- c is placed at p, after l
  pub record Placing (es' : List EntryRecord) (c p l tag : ℕ) : Type 0 where
    pub len : length es' ≡ length es
    pub nextc : nx es' c ≡ nil
    pub nexts : (y : ℕ) → y ≢ c → y ≢ l → nx es' y ≡ nx es y
    pub empty : l ≡ nil → fs es' p ≡ c
    pub more : l ≢ nil → (fs es' p ≡ fs es p) × (nx es' l ≡ c)
    pub firsts : (y : ℕ) → y ≢ p → fs es' y ≡ fs es y
    pub last : ls es' ≡ upd (ls es) p c
    pub parent : pa es' ≡ upd (pa es) c p
    pub state : st es' ≡ upd (st es) c Placed
    pub tagged : tg es' ≡ upd (tg es) c tag
    pub unit : un es' ≡ un es
    pub sibling : sb es' ≡ sb es
    pub note : nt es' ≡ nt es
    pub attribute : at es' ≡ at es

  module _ (es' : List EntryRecord) (c p l tag : ℕ) (hc : c < n) (hp : p < n) (wait : st es c ≡ Waiting) (same : un es c ≡ un es p) (hl : l ≡ ls es p) (w : Placing es' c p l tag) where
    pl_first : (y : ℕ) → y < n → (kin es' n).first y ≡ fs es' y
    pl_first y h = cond-true _ _ _ (lt-ltb y n h)

    pl_append : Appending (kin es n) (kin es' n) (length es) n p c l
    pl_append = record {
      small = hc;
      apart = unlisted c hc (ap (λ (s : State). eqb (kind s) 2) wait);
      last = hl ∙ S.lasts p hp;
      nextc = w.nextc;
      nexts = w.nexts;
      empty = λ e. pl_first p hp ∙ w.empty e;
      more = λ e. (pl_first p hp ∙ ((w.more e).0 ∙ sym (cond-true (ltb p n) (fs es p) nil (lt-ltb p n hp))), (w.more e).1);
      firsts = λ y ne. ap (λ (v : ℕ). cond (ltb y n) v nil) (w.firsts y ne);
      ownerc = at_point w.parent c ∙ upd_at (pa es) c p;
      owners = λ y ne. at_point w.parent y ∙ upd_off (pa es) c p y ne;
    }

    pl_both : Good (kin es' n) (length es) n × ((y : ℕ) → kids (kin es' n) (length es) y ≡ added p c (kids (kin es n) (length es)) y)
    pl_both = append_good (kin es n) (kin es' n) (length es) n p c l (let s = S.entries_fit in omega arith) small (kin_good S) pl_append

    pub pl_kids : (y : ℕ) → kids (kin es' n) (length es') y ≡ added p c (kids (kin es n) (length es)) y
    pl_kids y = ap (λ (v : ℕ). kids (kin es' n) v y) w.len ∙ pl_both.1 y

    pl_good : Good (kin es' n) (length es') n
    pl_good = subst (λ (v : ℕ). Good (kin es' n) v n) (sym w.len) pl_both.0

    pl_held : holdings es' n ats free ≡ holdings es n ats free
    pl_held = held_path es es' n ats free w.attribute

    pl_keeps : (y x : ℕ) → has x (kids (kin es n) (length es) y) ≡ true → has x (kids (kin es' n) (length es') y) ≡ true
    pl_keeps y x e = ap (has x) (pl_kids y) ∙ elim (cases_eq y p) [
      | inl q ↦ ap (has x) (cond-true (eqb y p) (kids (kin es n) (length es) y ++ c ∷ []) (kids (kin es n) (length es) y) (eq-eqb y p q))
          ∙ mem_has x (kids (kin es n) (length es) y ++ c ∷ []) (mem_left (kids (kin es n) (length es) y) (c ∷ []) x (has_mem x (kids (kin es n) (length es) y) e))
      | inr ne ↦ ap (has x) (cond-false (eqb y p) (kids (kin es n) (length es) y ++ c ∷ []) (kids (kin es n) (length es) y) (ne_eqb y p ne)) ∙ e
    ]

    p_nil : p ≢ nil
    p_nil q = let s = small in omega arith

    pub place_sound : Sound us m es' n ats k free size
    place_sound = record {
      units_fit = S.units_fit;
      entries_fit = rw w.len S.entries_fit;
      attributes_fit = S.attributes_fit;
      pool_fits = S.pool_fits;
      kin_ends = pl_good.ends;
      kin_owned = pl_good.owned;
      lasts = λ e h. at_point w.last e ∙ elim (cases_eq e p) [
        | inl q ↦ cond-true _ _ _ (eq-eqb e p q) ∙ sym (ap (last_or nil) (pl_kids e ∙ cond-true (eqb e p) (kids (kin es n) (length es) e ++ c ∷ []) (kids (kin es n) (length es) e) (eq-eqb e p q)) ∙ last_push nil c (kids (kin es n) (length es) e))
        | inr ne ↦ cond-false _ _ _ (ne_eqb e p ne) ∙ (S.lasts e h ∙ sym (ap (last_or nil) (pl_kids e ∙ cond-false (eqb e p) (kids (kin es n) (length es) e ++ c ∷ []) (kids (kin es n) (length es) e) (ne_eqb e p ne))))
      ];
      parented = λ e h. elim (cases_eq e c) [
        | inl q ↦ ap (λ (s : State). eqb (kind s) 2) (at_point w.state e ∙ cond-true (eqb e c) Placed (st es e) (eq-eqb e c q))
            ∙ sym (ap (λ (v : ℕ). not (eqb v nil)) (at_point w.parent e ∙ cond-true (eqb e c) p (pa es e) (eq-eqb e c q)) ∙ ap not (ne_eqb p nil p_nil))
        | inr ne ↦ ap (λ (s : State). eqb (kind s) 2) (at_point w.state e ∙ cond-false (eqb e c) Placed (st es e) (ne_eqb e c ne))
            ∙ (S.parented e h ∙ sym (ap (λ (v : ℕ). not (eqb v nil)) (at_point w.parent e ∙ cond-false (eqb e c) p (pa es e) (ne_eqb e c ne))))
      ];
      listed = λ e h ne. elim (cases_eq e c) [
        | inl q ↦ (let z : pa es' e ≡ p = at_point w.parent e ∙ cond-true (eqb e c) p (pa es e) (eq-eqb e c q) in
            ap (λ (v : ℕ). has e (kids (kin es' n) (length es') v)) z
            ∙ (ap (has e) (pl_kids p ∙ cond-true (eqb p p) (kids (kin es n) (length es) p ++ c ∷ []) (kids (kin es n) (length es) p) (eq-eqb p p refl))
            ∙ (ap (λ (v : ℕ). has v (kids (kin es n) (length es) p ++ c ∷ [])) q ∙ mem_has c (kids (kin es n) (length es) p ++ c ∷ []) (push_mem (kids (kin es n) (length es) p) c))))
        | inr nc ↦ (let z : pa es' e ≡ pa es e = at_point w.parent e ∙ cond-false (eqb e c) p (pa es e) (ne_eqb e c nc) in
            ap (λ (v : ℕ). has e (kids (kin es' n) (length es') v)) z ∙ pl_keeps (pa es e) e (S.listed e h (λ x. ne (z ∙ x))))
      ];
      akin = λ e h ne. at_point w.unit e ∙ (elim (cases_eq e c) [
        | inl q ↦ (let z : pa es' e ≡ p = at_point w.parent e ∙ cond-true (eqb e c) p (pa es e) (eq-eqb e c q) in ap (un es) q ∙ (same ∙ ap (un es) (sym z)))
        | inr nc ↦ (let z : pa es' e ≡ pa es e = at_point w.parent e ∙ cond-false (eqb e c) p (pa es e) (ne_eqb e c nc) in S.akin e h (λ x. ne (z ∙ x)) ∙ ap (un es) (sym z))
      ]
          ∙ sym (at_point w.unit (pa es' e)));
      housed = λ e h. subst (λ (v : ℕ). v < m) (sym (at_point w.unit e)) (S.housed e h);
      rooted = λ u h. let r = S.rooted u h in let rt = (get_or us u no_unit).root in
          (r.0, ap kind (at_point w.state rt ∙ upd_off (st es) c Placed rt (root_not u c h (λ z. (let y = ap kind wait in omega arith)))) ∙ r.1, at_point w.unit rt ∙ r.2);
      held_ends = (subst (λ (L : Links). Good L (length ats) k) (sym pl_held) (held_good S)).ends;
      held_owned = (subst (λ (L : Links). Good L (length ats) k) (sym pl_held) (held_good S)).owned;
    }

    pub place_held : kids (holdings es' n ats free) (length ats) nil ≡ kids (holdings es n ats free) (length ats) nil
    place_held = ap (λ (L : Links). kids L (length ats) nil) pl_held

    pub place_view : entries_in es' n ats free ≡ change p (adopt c) (change c (placed tag) (entries_in es n ats free))
    place_view =
        let xs = entries_in es n ats free in
        let ln : length xs ≡ n = length_entries es n ats free in
        let l1 : length (change c (placed tag) xs) ≡ n = length_change xs c (placed tag) ∙ ln in
        let h1 : c < length xs = rw ln hc in
        let h2 : p < length (change c (placed tag) xs) = rw l1 hp in
        entries_are es' n ats free _ (length_change (change c (placed tag) xs) p (adopt c) ∙ l1) (λ y h.
        let E = entry_at es n ats free y in
        entry_after y (eqb y c) (eqb y p) refl refl
        ∙ sym (change_at (change c (placed tag) xs) p (adopt c) h2 y
        ∙ (ap (λ (x : Entry). cond (eqb y p) (adopt c x) x) (change_at xs c (placed tag) h1 y)
        ∙ ap (λ (x : Entry). cond (eqb y p) (adopt c (cond (eqb y c) (placed tag x) x)) (cond (eqb y c) (placed tag x) x)) (entries_at es n ats free y h))))
      where
        made : (y : ℕ) (b d : Bool) → entry_at es' n ats free y ≡ record { unit = un es y; state = cond (eqb y c) Placed (st es y); tag = cond (eqb y c) tag (tg es y); sibling = sb es y; note = nt es y; attributes = attributes_at (holdings es n ats free) ats y; children = cond (eqb y p) (kids (kin es n) (length es) y ++ c ∷ []) (kids (kin es n) (length es) y) }
        made y b d = λ i. record { unit = w.unit i y; state = w.state i y; tag = w.tagged i y; sibling = w.sibling i y; note = w.note i y; attributes = attributes_at (pl_held i) ats y; children = pl_kids y i }

        split : (y : ℕ) (b d : Bool) → (record { unit = un es y; state = cond b Placed (st es y); tag = cond b tag (tg es y); sibling = sb es y; note = nt es y; attributes = attributes_at (holdings es n ats free) ats y; children = cond d (kids (kin es n) (length es) y ++ c ∷ []) (kids (kin es n) (length es) y) })
            ≡ cond d (adopt c (cond b (placed tag (entry_at es n ats free y)) (entry_at es n ats free y))) (cond b (placed tag (entry_at es n ats free y)) (entry_at es n ats free y))
        split y true true = refl
        split y true false = refl
        split y false true = refl
        split y false false = refl

        entry_after : (y : ℕ) (b d : Bool) → eqb y c ≡ b → eqb y p ≡ d → entry_at es' n ats free y
            ≡ cond (eqb y p) (adopt c (cond (eqb y c) (placed tag (entry_at es n ats free y)) (entry_at es n ats free y))) (cond (eqb y c) (placed tag (entry_at es n ats free y)) (entry_at es n ats free y))
        entry_after y b d e q = made y b d ∙ split y (eqb y c) (eqb y p)

  -- the two ways to link in
  module _ (c p tag : ℕ) (hc : c < n) (hp : p < n) where
    c_len : c < length es
    c_len = let s = S.entries_fit in omega arith

    p_len : p < length (modify es c (placed_record p tag))
    p_len = rw (length-set es c (placed_record p tag (get_or es c blank))) (let s = S.entries_fit in omega arith)

    pub first_placing : ls es p ≡ nil → Placing (linked_first es c p tag) c p (ls es p) tag
    unfolding nil
    first_placing e =
        let e1 = modify es c (placed_record p tag) in
        let nx' : nx (linked_first es c p tag) ≡ upd (nx es) c nil = keeps (λ (x : EntryRecord). x.next) e1 p (with_ends c c) p_len (λ r. refl) ∙ changes (λ (x : EntryRecord). x.next) es c (placed_record p tag) c_len in
        let fs' : fs (linked_first es c p tag) ≡ upd (fs es) p c = changes (λ (x : EntryRecord). x.first) e1 p (with_ends c c) p_len ∙ ap (λ (f : ℕ → ℕ). upd f p c) (keeps (λ (x : EntryRecord). x.first) es c (placed_record p tag) c_len (λ r. refl)) in
        record {
          len = length-set e1 p _ ∙ length-set es c _;
          nextc = at_point nx' c ∙ upd_at (nx es) c nil;
          nexts = λ y ne _. at_point nx' y ∙ upd_off (nx es) c nil y ne;
          empty = λ _. at_point fs' p ∙ upd_at (fs es) p c;
          more = λ ne. absurd (ne e);
          firsts = λ y ne. at_point fs' y ∙ upd_off (fs es) p c y ne;
          last = changes (λ (x : EntryRecord). x.last) e1 p (with_ends c c) p_len ∙ ap (λ (f : ℕ → ℕ). upd f p c) (keeps (λ (x : EntryRecord). x.last) es c (placed_record p tag) c_len (λ r. refl));
          parent = keeps (λ (x : EntryRecord). x.parent) e1 p (with_ends c c) p_len (λ r. refl) ∙ changes (λ (x : EntryRecord). x.parent) es c (placed_record p tag) c_len;
          state = keeps (λ (x : EntryRecord). x.state) e1 p (with_ends c c) p_len (λ r. refl) ∙ changes (λ (x : EntryRecord). x.state) es c (placed_record p tag) c_len;
          tagged = keeps (λ (x : EntryRecord). x.tag) e1 p (with_ends c c) p_len (λ r. refl) ∙ changes (λ (x : EntryRecord). x.tag) es c (placed_record p tag) c_len;
          unit = keeps (λ (x : EntryRecord). x.unit) e1 p (with_ends c c) p_len (λ r. refl) ∙ keeps (λ (x : EntryRecord). x.unit) es c (placed_record p tag) c_len (λ r. refl);
          sibling = keeps (λ (x : EntryRecord). x.sibling) e1 p (with_ends c c) p_len (λ r. refl) ∙ keeps (λ (x : EntryRecord). x.sibling) es c (placed_record p tag) c_len (λ r. refl);
          note = keeps (λ (x : EntryRecord). x.note) e1 p (with_ends c c) p_len (λ r. refl) ∙ keeps (λ (x : EntryRecord). x.note) es c (placed_record p tag) c_len (λ r. refl);
          attribute = keeps (λ (x : EntryRecord). x.attribute) e1 p (with_ends c c) p_len (λ r. refl) ∙ keeps (λ (x : EntryRecord). x.attribute) es c (placed_record p tag) c_len (λ r. refl);
        }

    -- the last child of p is in use, and placed
    pub last_placed : ls es p ≢ nil → (ls es p < n) × (pa es (ls es p) ≡ p)
    last_placed ne =
        let la = S.lasts p hp in
        let mm : Mem (ls es p) (kids (kin es n) (length es) p) = rw la (last_in nil (kids (kin es n) (length es) p) (λ q. ne (la ∙ q))) in
        S.kin_owned (p, ls es p, mm)

    pub after_placing : st es c ≡ Waiting → ls es p ≢ nil → Placing (linked_after es c p (ls es p) tag) c p (ls es p) tag
    unfolding nil
    after_placing wait ne =
        let l = ls es p in
        let lp = last_placed ne in
        let lc : c ≢ l = λ q. (let z = parentless c hc (ap (λ (s : State). eqb (kind s) 2) wait) in let y : pa es c ≡ p = ap (pa es) q ∙ lp.1 in let s = small in omega arith) in
        let e1 = modify es c (placed_record p tag) in
        let k1 : length e1 ≡ length es = length-set es c _ in
        let e2 = modify e1 l (with_next c) in
        let k2 : length e2 ≡ length e1 = length-set e1 l _ in
        let h2 : l < length e1 = (let s = S.entries_fit in omega arith) in
        let h3 : p < length e2 = (let s = S.entries_fit in omega arith) in
        let nx' : nx (linked_after es c p l tag) ≡ upd (upd (nx es) c nil) l c = keeps (λ (x : EntryRecord). x.next) e2 p (with_last c) h3 (λ r. refl)
        ∙ (changes (λ (x : EntryRecord). x.next) e1 l (with_next c) h2 ∙ ap (λ (f : ℕ → ℕ). upd f l c) (changes (λ (x : EntryRecord). x.next) es c (placed_record p tag) c_len)) in
        let all : (X : Type 0) (f : EntryRecord → X) → ((r : EntryRecord) → f (placed_record p tag r) ≡ f r) → ((r : EntryRecord) → f (with_next c r) ≡ f r) → ((r : EntryRecord) → f (with_last c r) ≡ f r) → along f (linked_after es c p l tag) blank ≡ along f es blank
        = λ X f p1 p2 p3. keeps f e2 p (with_last c) h3 p3 ∙ (keeps f e1 l (with_next c) h2 p2 ∙ keeps f es c (placed_record p tag) c_len p1) in
        let sets : (X : Type 0) (f : EntryRecord → X) → ((r : EntryRecord) → f (with_next c r) ≡ f r) → ((r : EntryRecord) → f (with_last c r) ≡ f r) → along f (linked_after es c p l tag) blank ≡ upd (along f es blank) c (f (placed_record p tag (get_or es c blank)))
        = λ X f p2 p3. keeps f e2 p (with_last c) h3 p3 ∙ (keeps f e1 l (with_next c) h2 p2 ∙ changes f es c (placed_record p tag) c_len) in
        record {
          len = length-set e2 p _ ∙ (k2 ∙ k1);
          nextc = at_point nx' c ∙ (upd_off (upd (nx es) c nil) l c c lc ∙ upd_at (nx es) c nil);
          nexts = λ y nc nl. at_point nx' y ∙ (upd_off (upd (nx es) c nil) l c y nl ∙ upd_off (nx es) c nil y nc);
          empty = λ q. absurd (ne q);
          more = λ _. (at_point (all ℕ (λ (x : EntryRecord). x.first) (λ r. refl) (λ r. refl) (λ r. refl)) p, at_point nx' l ∙ upd_at (upd (nx es) c nil) l c);
          firsts = λ y _. at_point (all ℕ (λ (x : EntryRecord). x.first) (λ r. refl) (λ r. refl) (λ r. refl)) y;
          last = changes (λ (x : EntryRecord). x.last) e2 p (with_last c) h3 ∙ ap (λ (f : ℕ → ℕ). upd f p c) (keeps (λ (x : EntryRecord). x.last) e1 l (with_next c) h2 (λ r. refl) ∙ keeps (λ (x : EntryRecord). x.last) es c (placed_record p tag) c_len (λ r. refl));
          parent = sets ℕ (λ (x : EntryRecord). x.parent) (λ r. refl) (λ r. refl);
          state = sets State (λ (x : EntryRecord). x.state) (λ r. refl) (λ r. refl);
          tagged = sets ℕ (λ (x : EntryRecord). x.tag) (λ r. refl) (λ r. refl);
          unit = all ℕ (λ (x : EntryRecord). x.unit) (λ r. refl) (λ r. refl) (λ r. refl);
          sibling = all Bool (λ (x : EntryRecord). x.sibling) (λ r. refl) (λ r. refl) (λ r. refl);
          note = all Note (λ (x : EntryRecord). x.note) (λ r. refl) (λ r. refl) (λ r. refl);
          attribute = all ℕ (λ (x : EntryRecord). x.attribute) (λ r. refl) (λ r. refl) (λ r. refl);
        }

  -- what a step on the entries leaves: the invariant, the entries that it makes, the records' number, the free attributes
  abbrev pub Stepped : List EntryRecord → List Entry → Type 0
  Stepped es' xs = Sound us m es' n ats k free size × (entries_in es' n ats free ≡ xs) × (length es' ≡ length es) × (kids (holdings es' n ats free) (length ats) nil ≡ kids (holdings es n ats free) (length ats) nil)

  -- one record changed by g, which keeps its links: f is what becomes of the entry
  pub touched : (es' : List EntryRecord) (i : ℕ) (g : EntryRecord → EntryRecord) (f : Entry → Entry) → i < n → es' ≡ modify es i g
      → ((r : EntryRecord) → ((g r).next ≡ r.next) × ((g r).first ≡ r.first) × ((g r).last ≡ r.last) × ((g r).parent ≡ r.parent) × ((g r).unit ≡ r.unit) × ((g r).attribute ≡ r.attribute))
      → eqb (kind (g (get_or es i blank)).state) 2 ≡ eqb (kind (st es i)) 2 → (kind (st es i) ≡ 0 → kind (g (get_or es i blank)).state ≡ 0)
      → ((r : EntryRecord) (A : List Attribute) (C : List ℕ) → entry_from (g r) A C ≡ f (entry_from r A C))
      → Stepped es' (change i f (entries_in es n ats free))
  touched es' i g f h q links k z v =
      let hl : i < length es = (let s = S.entries_fit in omega arith) in
      let r : EntryRecord = g (get_or es i blank) in
      let l = links (get_or es i blank) in
      let H = held_kept es n ats free i r hl l.5 in
      subst (λ (x : List EntryRecord). Stepped x (change i f (entries_in es n ats free))) (sym q) (
        set_sound i r h l.0 l.1 l.2 l.3 l.4 l.5 k z,
        one_changed es n ats free i r hl f h (kin_kept es n ats free i r hl l.0 l.1 l.3) H (v (get_or es i blank)),
        length-set es i r,
        ap (λ (x : Links). kids x (length ats) nil) H,
      )

  module _ (es' : List EntryRecord) (c p tag : ℕ) (hc : c < n) (hp : p < n) (wait : st es c ≡ Waiting) (same : un es c ≡ un es p) where
    stepped : Placing es' c p (ls es p) tag → Stepped es' (change p (adopt c) (change c (placed tag) (entries_in es n ats free)))
    stepped w = (place_sound es' c p (ls es p) tag hc hp wait same refl w, place_view es' c p (ls es p) tag hc hp wait same refl w, w.len, place_held es' c p (ls es p) tag hc hp wait same refl w)

    pub placed_first : ls es p ≡ nil → es' ≡ linked_first es c p tag → Stepped es' (change p (adopt c) (change c (placed tag) (entries_in es n ats free)))
    placed_first e q = stepped (subst (λ (x : List EntryRecord). Placing x c p (ls es p) tag) (sym q) (first_placing c p tag hc hp e))

    pub placed_after : ls es p ≢ nil → es' ≡ linked_after es c p (ls es p) tag → Stepped es' (change p (adopt c) (change c (placed tag) (entries_in es n ats free)))
    placed_after e q = stepped (subst (λ (x : List EntryRecord). Placing x c p (ls es p) tag) (sym q) (after_placing c p tag hc hp wait e))
