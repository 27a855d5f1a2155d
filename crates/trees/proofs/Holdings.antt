-- The steps on attributes, over the records.
use Rattle.std.proofs.Common.{◌≡◌, ℕ, ◌+◌, ◌<◌, ◌≤◌, Bool, true, false, cond, not, eqb, ltb, ◌≢◌, List, [], ◌∷◌, ◌++◌, map, length, get_or, set, sym, refl, ap, ◌∙◌, subst, inl, inr, arith, length-set}
use Rattle.std.proofs.lemmas.Bool.{cases_eq, eq-eqb, ne_eqb, lt-ltb, le-ltb, cond-true, cond-false, true≢false, or_parts, or_left, or_right}
use Rattle.std.proofs.lemmas.List.{map-append}
use Rattle.trees.specs.declared.records.Attribute.{Attribute}
use Rattle.trees.specs.declared.records.UnitRecord.{UnitRecord}
use Rattle.trees.specs.declared.records.EntryRecord.{EntryRecord}
use Rattle.trees.specs.declared.records.AttributeRecord.{AttributeRecord}
use Rattle.trees.specs.declared.records.State.{State}
use Rattle.trees.specs.Lists.{nil, chain, stop, Links, kids, Mem, has, last_or, without, Before}
use Rattle.trees.specs.Model.{Entry, no_unit, change, amend, named, put, unname}
use Rattle.trees.specs.View.{blank, no_attribute, kin, holdings, attributes_at, entry_at, entries_in, kind, Sound, Sized}
use Rattle.trees.specs.Attributes.{attribute_in}
use Rattle.trees.proofs.Segs.{frame, without_here, without_past}
use Rattle.trees.proofs.Families.{Good, rebuild, good_seg, Appending, append_good, Heading, head_good, Removing, remove_good, removed, wider, added, headed, dropped, chain_step, chain_nil, once}
use Rattle.trees.proofs.Views.{nx, fs, ls, pa, un, at, st, tg, sb, nt, upd, upd_at, upd_off, field, kept, kin_path, length_entries, entries_at, entries_are, change_at, length_change, kin_good, held_good}
use Rattle.trees.proofs.Trees.{at_point}

-- names among attributes
mem_named : (f : ℕ → Attribute) (name a : ℕ) (xs : List ℕ) → (f a).name ≡ name → Mem a xs → named name (map f xs) ≡ true
mem_named f name a [] e m = absurd m
mem_named f name a (x ∷ xs) e (inl q) = or_left (eqb (f x).name name) (named name (map f xs)) (eq-eqb (f x).name name (ap (λ (v : ℕ). (f v).name) (sym q) ∙ e))
mem_named f name a (x ∷ xs) e (inr m) = or_right (eqb (f x).name name) (named name (map f xs)) (mem_named f name a xs e m)

map_frame : (f : ℕ → Attribute) (a : ℕ) (v : Attribute) (xs : List ℕ) → (Mem a xs → ⊥) → map (upd f a v) xs ≡ map f xs
map_frame f a v [] n = refl
map_frame f a v (x ∷ xs) n = ap (λ (y : Attribute). y ∷ map (upd f a v) xs) (upd_off f a v x (λ q. n (inl (sym q)))) ∙ ap (λ (ys : List Attribute). f x ∷ ys) (map_frame f a v xs (λ m. n (inr m)))

without_split : (a : ℕ) (bs as' : List ℕ) → (Mem a bs → ⊥) → without a (bs ++ (a ∷ as')) ≡ bs ++ as'
without_split a [] as' n = without_here a a as' refl
without_split a (b ∷ bs) as' n = without_past a b (bs ++ (a ∷ as')) (λ q. n (inl (sym q))) ∙ ap (λ (l : List ℕ). b ∷ l) (without_split a bs as' (λ m. n (inr m)))

unname_split : (name : ℕ) (bs : List Attribute) (a : Attribute) (as' : List Attribute) → named name bs ≡ false → a.name ≡ name → unname name (bs ++ (a ∷ as')) ≡ bs ++ as'
unname_split name [] a as' e q = cond-true _ _ _ (eq-eqb a.name name q)
unname_split name (b ∷ bs) a as' e q = let p = or_parts (eqb b.name name) (named name bs) e in cond-false _ _ _ p.0 ∙ ap (λ (l : List Attribute). b ∷ l) (unname_split name bs a as' p.1 q)

put_split : (v : Attribute) (bs : List Attribute) (a : Attribute) (as' : List Attribute) → named v.name bs ≡ false → a.name ≡ v.name → put v (bs ++ (a ∷ as')) ≡ bs ++ (v ∷ as')
put_split v [] a as' e q = cond-true _ _ _ (eq-eqb a.name v.name q)
put_split v (b ∷ bs) a as' e q = let p = or_parts (eqb b.name v.name) (named v.name bs) e in cond-false _ _ _ p.0 ∙ ap (λ (l : List Attribute). b ∷ l) (put_split v bs a as' p.1 q)

pub put_new : (v : Attribute) (bs : List Attribute) → named v.name bs ≡ false → put v bs ≡ bs ++ v ∷ []
put_new v [] e = refl
put_new v (b ∷ bs) e = let p = or_parts (eqb b.name v.name) (named v.name bs) e in cond-false _ _ _ p.0 ∙ ap (λ (l : List Attribute). b ∷ l) (put_new v bs p.1)

pub unname_none : (name : ℕ) (bs : List Attribute) → named name bs ≡ false → unname name bs ≡ bs
unname_none name [] e = refl
unname_none name (b ∷ bs) e = let p = or_parts (eqb b.name name) (named name bs) e in cond-false _ _ _ p.0 ∙ ap (λ (l : List Attribute). b ∷ l) (unname_none name bs p.1)

pub named_split : (name : ℕ) (f : ℕ → Attribute) (bs : List ℕ) (a : ℕ) (as' : List ℕ) → (f a).name ≡ name → named name (map f (bs ++ (a ∷ as'))) ≡ true
named_split name f [] a as' e = or_left (eqb (f a).name name) (named name (map f as')) (eq-eqb (f a).name name e)
named_split name f (b ∷ bs) a as' e = or_right (eqb (f b).name name) (named name (map f (bs ++ (a ∷ as')))) (named_split name f bs a as' e)

module _ {us : List UnitRecord} {m : ℕ} {es : List EntryRecord} {n : ℕ} {ats : List AttributeRecord} {k free size : ℕ} (S : Sound us m es n ats k free size) where
  abbrev L : Links
  L = holdings es n ats free

  abbrev f : ℕ → Attribute
  f = attribute_in ats

  g : Good L (length ats) k
  g = held_good S

  kz : k ≤ nil
  unfolding nil
  kz = let z = S.attributes_fit in omega arith

  k_f : k ≤ length ats
  k_f = S.attributes_fit.0

  nz : n ≤ nil
  unfolding nil
  nz = let z = S.entries_fit in omega arith

  -- the entries but for the list of attributes that one begins
  pub record Still (es' : List EntryRecord) : Type 0 where
    pub len : length es' ≡ length es
    pub next : nx es' ≡ nx es
    pub first : fs es' ≡ fs es
    pub last : ls es' ≡ ls es
    pub parent : pa es' ≡ pa es
    pub unit : un es' ≡ un es
    pub state : st es' ≡ st es
    pub tagged : tg es' ≡ tg es
    pub sibling : sb es' ≡ sb es
    pub note : nt es' ≡ nt es

  pub still : Still es
  still = record { len = refl; next = refl; first = refl; last = refl; parent = refl; unit = refl; state = refl; tagged = refl; sibling = refl; note = refl }

  pub still_set : (e : ℕ) (r : EntryRecord) → e < length es → r.next ≡ nx es e → r.first ≡ fs es e → r.last ≡ ls es e → r.parent ≡ pa es e → r.unit ≡ un es e → r.state ≡ st es e → r.tag ≡ tg es e → r.sibling ≡ sb es e → r.note ≡ nt es e → Still (set es e r)
  still_set e r h p1 p2 p3 p4 p5 p6 p7 p8 p9 = record {
    len = length-set es e r;
    next = kept (λ (x : EntryRecord). x.next) es e r blank h p1;
    first = kept (λ (x : EntryRecord). x.first) es e r blank h p2;
    last = kept (λ (x : EntryRecord). x.last) es e r blank h p3;
    parent = kept (λ (x : EntryRecord). x.parent) es e r blank h p4;
    unit = kept (λ (x : EntryRecord). x.unit) es e r blank h p5;
    state = kept (λ (x : EntryRecord). x.state) es e r blank h p6;
    tagged = kept (λ (x : EntryRecord). x.tag) es e r blank h p7;
    sibling = kept (λ (x : EntryRecord). x.sibling) es e r blank h p8;
    note = kept (λ (x : EntryRecord). x.note) es e r blank h p9;
  }

  module _ (es' : List EntryRecord) (ats' : List AttributeRecord) (k' free' : ℕ) (w : Still es') where
    sl_kin : kin es' n ≡ kin es n
    sl_kin = kin_path es es' n w.next w.first w.parent

    sl_kids : (y : ℕ) → kids (kin es' n) (length es') y ≡ kids (kin es n) (length es) y
    sl_kids y = ap (λ (X : Links). kids X (length es') y) sl_kin ∙ ap (λ (l : ℕ). kids (kin es n) l y) w.len

    sl_good : Good (kin es' n) (length es') n
    sl_good = subst (λ (X : Links). Good X (length es') n) (sym sl_kin) (subst (λ (l : ℕ). Good (kin es n) l n) (sym w.len) (kin_good S))

    pub held_sound : Sized k' (length ats') 65535 → Good (holdings es' n ats' free') (length ats') k' → Sound us m es' n ats' k' free' size
    held_sound z G = record {
      units_fit = S.units_fit;
      entries_fit = rw w.len S.entries_fit;
      attributes_fit = z;
      pool_fits = S.pool_fits;
      kin_ends = sl_good.ends;
      kin_owned = sl_good.owned;
      lasts = λ e h. at_point w.last e ∙ (S.lasts e h ∙ sym (ap (last_or nil) (sl_kids e)));
      parented = λ e h. ap (λ (s : State). eqb (kind s) 2) (at_point w.state e) ∙ (S.parented e h ∙ ap (λ (v : ℕ). not (eqb v nil)) (sym (at_point w.parent e)));
      listed = λ e h ne. let q = at_point w.parent e in ap (has e) (sl_kids (pa es' e) ∙ ap (kids (kin es n) (length es)) q) ∙ S.listed e h (λ z. ne (q ∙ z));
      akin = λ e h ne. let q = at_point w.parent e in at_point w.unit e ∙ (S.akin e h (λ z. ne (q ∙ z)) ∙ (ap (un es) (sym q) ∙ sym (at_point w.unit (pa es' e))));
      housed = λ e h. subst (λ (v : ℕ). v < m) (sym (at_point w.unit e)) (S.housed e h);
      rooted = λ u h. let r = S.rooted u h in (r.0, ap kind (at_point w.state (get_or us u no_unit).root) ∙ r.1, at_point w.unit (get_or us u no_unit).root ∙ r.2);
      held_ends = G.ends;
      held_owned = G.owned;
    }

    entry_same : (y : ℕ) (A : List Attribute) → attributes_at (holdings es' n ats' free') ats' y ≡ A
        → entry_at es' n ats' free' y ≡ record { unit = un es y; state = st es y; tag = tg es y; sibling = sb es y; note = nt es y; attributes = A; children = kids (kin es n) (length es) y }
    entry_same y A q = λ i. record { unit = w.unit i y; state = w.state i y; tag = w.tagged i y; sibling = w.sibling i y; note = w.note i y; attributes = q i; children = sl_kids y i }

    -- no entry's attributes change
    pub view_same : ((y : ℕ) → y < n → attributes_at (holdings es' n ats' free') ats' y ≡ attributes_at L ats y) → entries_in es' n ats' free' ≡ entries_in es n ats free
    view_same q = entries_are es' n ats' free' (entries_in es n ats free) (length_entries es n ats free) (λ y h. entry_same y (attributes_at L ats y) (q y h) ∙ sym (entries_at es n ats free y h))

    -- or those of one
    pub view_amended : (e : ℕ) (h : List Attribute → List Attribute) → e < n
        → ((y : ℕ) → y < n → attributes_at (holdings es' n ats' free') ats' y ≡ cond (eqb y e) (h (attributes_at L ats y)) (attributes_at L ats y))
        → entries_in es' n ats' free' ≡ change e (amend h) (entries_in es n ats free)
    view_amended e h l q =
        let xs = entries_in es n ats free in
        let ln : length xs ≡ n = length_entries es n ats free in
        entries_are es' n ats' free' _ (length_change xs e (amend h) ∙ ln) (λ y b.
        entry_same y (cond (eqb y e) (h (attributes_at L ats y)) (attributes_at L ats y)) (q y b) ∙ (split y (eqb y e)
        ∙ (ap (λ (x : Entry). cond (eqb y e) (amend h x) x) (sym (entries_at es n ats free y b)) ∙ sym (change_at xs e (amend h) (rw ln l) y))))
      where
        split : (y : ℕ) (b : Bool) → (record { unit = un es y; state = st es y; tag = tg es y; sibling = sb es y; note = nt es y; attributes = cond b (h (attributes_at L ats y)) (attributes_at L ats y); children = kids (kin es n) (length es) y })
            ≡ cond b (amend h (entry_at es n ats free y)) (entry_at es n ats free y)
        split y true = refl
        split y false = refl

  -- heads of lists
  nobody : (e : ℕ) → e < n → e ≢ nil
  nobody e h q = let z = nz in omega arith

  pub first_free : (v : ℕ) → (holdings es n ats v).first nil ≡ v
  first_free v = cond-false (ltb nil n) (at es nil) (cond (eqb nil nil) v nil) (le-ltb nil n nz) ∙ cond-true (eqb nil nil) v nil (eq-eqb nil nil refl)

  first_other : (ats' : List AttributeRecord) (v y : ℕ) → y ≢ nil → (holdings es n ats' v).first y ≡ L.first y
  first_other ats' v y ne = ap (λ (x : ℕ). cond (ltb y n) (at es y) x) (cond-false (eqb y nil) v nil (ne_eqb y nil ne) ∙ sym (cond-false (eqb y nil) free nil (ne_eqb y nil ne)))

  -- no record is free: one never used is taken
  pub none_free : free ≡ nil → kids L (length ats) nil ≡ []
  none_free e = chain_nil L.next (length ats) (L.first nil) (first_free free ∙ e)

  pub fresh_loose : (e : ℕ) → Mem k (kids L (length ats) e) → ⊥
  fresh_loose e mm = let z = (g.owned (e, k, mm)).0 in omega arith

  pub fresh_taken : k < length ats → Sound us m es n ats (k + 1) free size
  fresh_taken h = held_sound es ats (k + 1) free still (omega arith, S.attributes_fit.1) (wider L (length ats) k (k + 1) (omega arith) g)

  -- a free record is taken
  module _ (ne : free ≢ nil) where
    abbrev L₁ : Links
    L₁ = holdings es n ats (get_or ats free no_attribute).next

    pub free_list : kids L (length ats) nil ≡ free ∷ chain L.next (length ats) (L.next free)
    free_list = ap (chain L.next (length ats)) (first_free free) ∙ (chain_step L.next (length ats) free (subst (λ (v : ℕ). stop L.next (length ats) v ≡ nil) (first_free free) (g.ends nil)) ne).0

    pub free_in : free < k
    free_in = (g.owned (nil, free, rw free_list (inl refl))).0

    taking : Removing L L₁ (length ats) nil free nil
    taking = record {
      before = (rw free_list (inl refl), (λ _. first_free free), (λ x. absurd (x refl)));
      head = λ _. first_free (get_or ats free no_attribute).next;
      later = λ x. absurd (x refl);
      nexts = λ y _ _. refl;
      firsts = λ y q. first_other ats (get_or ats free no_attribute).next y q;
      owners = λ y _. refl;
    }

    both : Good L₁ (length ats) k × ((y : ℕ) → kids L₁ (length ats) y ≡ dropped nil free (kids L (length ats)) y)
    both = remove_good L L₁ (length ats) k nil free nil k_f kz g taking

    pub taken_loose : (e : ℕ) → Mem free (kids L₁ (length ats) e) → ⊥
    taken_loose = removed L L₁ (length ats) k nil free nil k_f kz g taking

    pub taken_sound : Sound us m es n ats k (get_or ats free no_attribute).next size
    taken_sound = held_sound es ats k (get_or ats free no_attribute).next still S.attributes_fit both.0

    pub taken_lists : (e : ℕ) → e < n → kids L₁ (length ats) e ≡ kids L (length ats) e
    taken_lists e h = both.1 e ∙ cond-false _ _ _ (ne_eqb e nil (nobody e h))

    pub taken_view : entries_in es n ats (get_or ats free no_attribute).next ≡ entries_in es n ats free
    taken_view = view_same es ats k (get_or ats free no_attribute).next still (λ y h. ap (map f) (taken_lists y h))

    pub taken_left : length (kids L (length ats) nil) ≡ length (kids L₁ (length ats) nil) + 1
    taken_left =
        let a : kids L₁ (length ats) nil ≡ without free (kids L (length ats) nil) = both.1 nil ∙ cond-true _ _ _ (eq-eqb nil nil refl) in
        let b : without free (kids L (length ats) nil) ≡ chain L.next (length ats) (L.next free) = ap (without free) free_list ∙ without_here free free _ refl in
        let c = ap length free_list in let d = ap length (a ∙ b) in omega arith

  -- a record that stands in no list is written
  pub loose_sound : (a : ℕ) (r : AttributeRecord) → a < k → ((e : ℕ) → Mem a (kids L (length ats) e) → ⊥) → Sound us m es n (set ats a r) k free size
  loose_sound a r small loose =
      let len = length-set ats a r in
      let next = field (λ (x : AttributeRecord). x.next) ats a r no_attribute (let z = k_f in omega arith) in
      let owner = field (λ (x : AttributeRecord). x.owner) ats a r no_attribute (let z = k_f in omega arith) in
      let other : (h y : ℕ) → Mem y (kids L (length ats) h) → y ≢ a = λ h y i q. loose h (subst (λ (v : ℕ). Mem v (kids L (length ats) h)) q i) in
      let both = rebuild (holdings es n (set ats a r) free) (length ats) k k_f kz (kids L (length ats))
      (λ h. frame L.next _ (kids L (length ats) h) (L.first h) nil (good_seg L (length ats) k g h) (λ y i. at_point next y ∙ upd_off L.next a r.next y (other h y i)))
      (λ h y i. let o = g.owned (h, y, i) in (o.0, at_point owner y ∙ (upd_off L.owner a r.owner y (other h y i) ∙ o.1))) in
      held_sound es (set ats a r) k free still (rw len S.attributes_fit) (subst (λ (l : ℕ). Good (holdings es n (set ats a r) free) l k) (sym len) both.0)

  -- a loose record is dropped
  module _ (a : ℕ) (r : AttributeRecord) (small : a < k) (loose : (e : ℕ) → Mem a (kids L (length ats) e) → ⊥) (rn : r.next ≡ free) (ro : r.owner ≡ nil) (ra : r.attribute ≡ f a) where
    abbrev ats₂ : List AttributeRecord
    ats₂ = set ats a r

    a_len : a < length ats
    a_len = let z = k_f in omega arith

    len₂ : length ats₂ ≡ length ats
    len₂ = length-set ats a r

    abbrev L₂ : Links
    L₂ = holdings es n ats₂ a

    next₂ : L₂.next ≡ upd L.next a r.next
    next₂ = field (λ (x : AttributeRecord). x.next) ats a r no_attribute a_len

    owner₂ : L₂.owner ≡ upd L.owner a r.owner
    owner₂ = field (λ (x : AttributeRecord). x.owner) ats a r no_attribute a_len

    dropping : Heading L L₂ (length ats) k nil a
    dropping = record {
      small = small;
      apart = loose;
      nextc = at_point next₂ a ∙ (upd_at L.next a r.next ∙ (rn ∙ sym (first_free free)));
      nexts = λ y q. at_point next₂ y ∙ upd_off L.next a r.next y q;
      first = first_free a;
      firsts = λ y q. first_other ats₂ a y q;
      ownerc = at_point owner₂ a ∙ (upd_at L.owner a r.owner ∙ ro);
      owners = λ y q. at_point owner₂ y ∙ upd_off L.owner a r.owner y q;
    }

    both₂ : Good L₂ (length ats) k × ((y : ℕ) → kids L₂ (length ats) y ≡ headed nil a (kids L (length ats)) y)
    both₂ = head_good L L₂ (length ats) k nil a k_f kz g dropping

    kids₂ : (y : ℕ) → kids L₂ (length ats₂) y ≡ headed nil a (kids L (length ats)) y
    kids₂ y = ap (λ (l : ℕ). kids L₂ l y) len₂ ∙ both₂.1 y

    pub drop_sound : Sound us m es n ats₂ k a size
    drop_sound = held_sound es ats₂ k a still (rw len₂ S.attributes_fit) (subst (λ (l : ℕ). Good L₂ l k) (sym len₂) both₂.0)

    pub drop_view : entries_in es n ats₂ a ≡ entries_in es n ats free
    drop_view = view_same es ats₂ k a still (λ y h. ap (map (attribute_in ats₂)) (kids₂ y ∙ cond-false _ _ _ (ne_eqb y nil (nobody y h)))
        ∙ ap (λ (h : ℕ → Attribute). map h (kids L (length ats) y)) (kept (λ (x : AttributeRecord). x.attribute) ats a r no_attribute a_len ra))

    pub drop_left : length (kids L₂ (length ats₂) nil) ≡ length (kids L (length ats) nil) + 1
    drop_left = ap length (kids₂ nil ∙ cond-true _ _ _ (eq-eqb nil nil refl)) ∙ omega arith

  -- a loose record becomes the last of e, after l
  module _ (es' : List EntryRecord) (ats' : List AttributeRecord) (e a l : ℕ) (v : Attribute) (w : Still es') (he : e < n) (small : a < k) (loose : (y : ℕ) → Mem a (kids L (length ats) y) → ⊥) (hl : l ≡ last_or nil (kids L (length ats) e))
      (len : length ats' ≡ length ats) (values : attribute_in ats' ≡ upd f a v) (owners : (holdings es' n ats' free).owner ≡ upd L.owner a e)
      (nextc : (holdings es' n ats' free).next a ≡ nil) (nexts : (y : ℕ) → y ≢ a → y ≢ l → (holdings es' n ats' free).next y ≡ L.next y)
      (empty : l ≡ nil → at es' e ≡ a) (more : l ≢ nil → (at es' e ≡ at es e) × ((holdings es' n ats' free).next l ≡ a)) (others : (y : ℕ) → y ≢ e → at es' y ≡ at es y) where
    abbrev L₃ : Links
    L₃ = holdings es' n ats' free

    linking : Appending L L₃ (length ats) k e a l
    linking = record {
      small = small;
      apart = loose;
      last = hl;
      nextc = nextc;
      nexts = nexts;
      empty = λ q. cond-true (ltb e n) (at es' e) _ (lt-ltb e n he) ∙ empty q;
      more = λ q. (ap (λ (x : ℕ). cond (ltb e n) x (cond (eqb e nil) free nil)) (more q).0, (more q).1);
      firsts = λ y q. ap (λ (x : ℕ). cond (ltb y n) x (cond (eqb y nil) free nil)) (others y q);
      ownerc = at_point owners a ∙ upd_at L.owner a e;
      owners = λ y q. at_point owners y ∙ upd_off L.owner a e y q;
    }

    both₃ : Good L₃ (length ats) k × ((y : ℕ) → kids L₃ (length ats) y ≡ added e a (kids L (length ats)) y)
    both₃ = append_good L L₃ (length ats) k e a l k_f kz g linking

    kids₃ : (y : ℕ) → kids L₃ (length ats') y ≡ added e a (kids L (length ats)) y
    kids₃ y = ap (λ (x : ℕ). kids L₃ x y) len ∙ both₃.1 y

    pub link_sound : Sound us m es' n ats' k free size
    link_sound = held_sound es' ats' k free w (rw len S.attributes_fit) (subst (λ (x : ℕ). Good L₃ x k) (sym len) both₃.0)

    values_kept : (y : ℕ) → map (attribute_in ats') (kids L (length ats) y) ≡ map f (kids L (length ats) y)
    values_kept y = ap (λ (h : ℕ → Attribute). map h (kids L (length ats) y)) values ∙ map_frame f a v (kids L (length ats) y) (loose y)

    pub link_view : entries_in es' n ats' free ≡ change e (amend (λ xs. xs ++ v ∷ [])) (entries_in es n ats free)
    link_view = view_amended es' ats' k free w e (λ xs. xs ++ v ∷ []) he (λ y h. ap (map (attribute_in ats')) (kids₃ y) ∙ elim (cases_eq y e) [
      | inl q ↦ ap (map (attribute_in ats')) (cond-true (eqb y e) (kids L (length ats) y ++ a ∷ []) (kids L (length ats) y) (eq-eqb y e q))
          ∙ (map-append (attribute_in ats') (kids L (length ats) y) (a ∷ [])
          ∙ (ap (λ (xs : List Attribute). xs ++ attribute_in ats' a ∷ []) (values_kept y)
          ∙ (ap (λ (x : Attribute). map f (kids L (length ats) y) ++ x ∷ []) (at_point values a ∙ upd_at f a v)
          ∙ sym (cond-true (eqb y e) (map f (kids L (length ats) y) ++ v ∷ []) (map f (kids L (length ats) y)) (eq-eqb y e q)))))
      | inr q ↦ ap (map (attribute_in ats')) (cond-false (eqb y e) (kids L (length ats) y ++ a ∷ []) (kids L (length ats) y) (ne_eqb y e q))
          ∙ (values_kept y ∙ sym (cond-false (eqb y e) (map f (kids L (length ats) y) ++ v ∷ []) (map f (kids L (length ats) y)) (ne_eqb y e q)))
    ])

    pub link_left : kids L₃ (length ats') nil ≡ kids L (length ats) nil
    link_left = kids₃ nil ∙ cond-false _ _ _ (ne_eqb nil e (λ q. nobody e he (sym q)))

  -- the record a leaves the list of e, from after l
  module _ (es' : List EntryRecord) (ats' : List AttributeRecord) (e a l : ℕ) (w : Still es') (he : e < n) (order : Before L (length ats) e a l)
      (len : length ats' ≡ length ats) (values : attribute_in ats' ≡ f) (owners : (holdings es' n ats' free).owner ≡ L.owner)
      (head : l ≡ nil → at es' e ≡ L.next a) (later : l ≢ nil → ((holdings es' n ats' free).next l ≡ L.next a) × (at es' e ≡ at es e))
      (nexts : (y : ℕ) → y ≢ a → y ≢ l → (holdings es' n ats' free).next y ≡ L.next y) (others : (y : ℕ) → y ≢ e → at es' y ≡ at es y) where
    abbrev L₄ : Links
    L₄ = holdings es' n ats' free

    unlinking : Removing L L₄ (length ats) e a l
    unlinking = record {
      before = order;
      head = λ q. cond-true (ltb e n) (at es' e) _ (lt-ltb e n he) ∙ head q;
      later = λ q. ((later q).0, ap (λ (x : ℕ). cond (ltb e n) x (cond (eqb e nil) free nil)) (later q).1);
      nexts = nexts;
      firsts = λ y q. ap (λ (x : ℕ). cond (ltb y n) x (cond (eqb y nil) free nil)) (others y q);
      owners = λ y _. at_point owners y;
    }

    both₄ : Good L₄ (length ats) k × ((y : ℕ) → kids L₄ (length ats) y ≡ dropped e a (kids L (length ats)) y)
    both₄ = remove_good L L₄ (length ats) k e a l k_f kz g unlinking

    kids₄ : (y : ℕ) → kids L₄ (length ats') y ≡ dropped e a (kids L (length ats)) y
    kids₄ y = ap (λ (x : ℕ). kids L₄ x y) len ∙ both₄.1 y

    pub unlink_sound : Sound us m es' n ats' k free size
    unlink_sound = held_sound es' ats' k free w (rw len S.attributes_fit) (subst (λ (x : ℕ). Good L₄ x k) (sym len) both₄.0)

    pub unlink_loose : (y : ℕ) → Mem a (kids L₄ (length ats') y) → ⊥
    unlink_loose y mm = removed L L₄ (length ats) k e a l k_f kz g unlinking y (subst (λ (x : ℕ). Mem a (kids L₄ x y)) len mm)

    pub unlink_view : (name : ℕ) (bs as' : List ℕ) → kids L (length ats) e ≡ bs ++ (a ∷ as') → named name (map f bs) ≡ false → (f a).name ≡ name
        → entries_in es' n ats' free ≡ change e (amend (unname name)) (entries_in es n ats free)
    unlink_view name bs as' list first same = view_amended es' ats' k free w e (unname name) he (λ y h.
        ap (λ (h : ℕ → Attribute). map h (kids L₄ (length ats') y)) values ∙ (ap (map f) (kids₄ y) ∙ elim (cases_eq y e) [
          | inl q ↦ ap (map f) (cond-true (eqb y e) (without a (kids L (length ats) y)) (kids L (length ats) y) (eq-eqb y e q) ∙ (ap (λ (x : ℕ). without a (kids L (length ats) x)) q ∙ (ap (without a) list ∙ without_split a bs as' not_behind)))
              ∙ (map-append f bs as' ∙ (sym (unname_split name (map f bs) (f a) (map f as') first same)
              ∙ (sym (ap (unname name) (ap (map f) list ∙ map-append f bs (a ∷ as'))) ∙ (ap (λ (x : ℕ). unname name (map f (kids L (length ats) x))) (sym q)
              ∙ sym (cond-true (eqb y e) (unname name (map f (kids L (length ats) y))) (map f (kids L (length ats) y)) (eq-eqb y e q))))))
          | inr q ↦ ap (map f) (cond-false (eqb y e) (without a (kids L (length ats) y)) (kids L (length ats) y) (ne_eqb y e q)) ∙ sym (cond-false (eqb y e) (unname name (map f (kids L (length ats) y))) (map f (kids L (length ats) y)) (ne_eqb y e q))
        ]))
      where
        not_behind : Mem a bs → ⊥
        not_behind mm = true≢false (sym (mem_named f name a bs same mm) ∙ first)

    pub unlink_left : kids L₄ (length ats') nil ≡ kids L (length ats) nil
    unlink_left = kids₄ nil ∙ cond-false _ _ _ (ne_eqb nil e (λ q. nobody e he (sym q)))

  -- the attribute of a record of e is replaced
  module _ (e a : ℕ) (r : AttributeRecord) (he : e < n) (hn : r.next ≡ L.next a) (ho : r.owner ≡ L.owner a) (bs as' : List ℕ) (list : kids L (length ats) e ≡ bs ++ (a ∷ as'))
      (first : named r.attribute.name (map f bs) ≡ false) (same : (f a).name ≡ r.attribute.name) where
    abbrev ats₅ : List AttributeRecord
    ats₅ = set ats a r

    in_list : Mem a (kids L (length ats) e)
    in_list = rw list (at_split bs)
      where
        at_split : (xs : List ℕ) → Mem a (xs ++ (a ∷ as'))
        at_split [] = inl refl
        at_split (x ∷ xs) = inr (at_split xs)

    pub here_in : a < k
    here_in = (g.owned (e, a, in_list)).0

    r_len : a < length ats
    r_len = let z = here_in in let y = k_f in omega arith

    len₅ : length ats₅ ≡ length ats
    len₅ = length-set ats a r

    L₅ : holdings es n ats₅ free ≡ L
    L₅ = λ i. record { next = kept (λ (x : AttributeRecord). x.next) ats a r no_attribute r_len hn i; first = L.first; owner = kept (λ (x : AttributeRecord). x.owner) ats a r no_attribute r_len ho i }

    kids₅ : (y : ℕ) → kids (holdings es n ats₅ free) (length ats₅) y ≡ kids L (length ats) y
    kids₅ y = ap (λ (X : Links). kids X (length ats₅) y) L₅ ∙ ap (λ (x : ℕ). kids L x y) len₅

    pub replace_sound : Sound us m es n ats₅ k free size
    replace_sound = held_sound es ats₅ k free still (rw len₅ S.attributes_fit) (subst (λ (X : Links). Good X (length ats₅) k) (sym L₅) (subst (λ (x : ℕ). Good L x k) (sym len₅) g))

    behind : Mem a bs → ⊥
    behind mm = true≢false (sym (mem_named f r.attribute.name a bs same mm) ∙ first)

    ahead : Mem a as' → ⊥
    ahead mm = once L (length ats) k kz g e a (rw (ap (without a) list ∙ without_split a bs as' behind) (right bs))
      where
        right : (xs : List ℕ) → Mem a (xs ++ as')
        right [] = mm
        right (x ∷ xs) = inr (right xs)

    values₅ : attribute_in ats₅ ≡ upd f a r.attribute
    values₅ = field (λ (x : AttributeRecord). x.attribute) ats a r no_attribute r_len

    at_e : map (attribute_in ats₅) (kids L (length ats) e) ≡ put r.attribute (map f (kids L (length ats) e))
    at_e = ap (λ (h : ℕ → Attribute). map h (kids L (length ats) e)) values₅ ∙ (ap (map (upd f a r.attribute)) list ∙ (map-append (upd f a r.attribute) bs (a ∷ as')
        ∙ (ap (λ (xs : List Attribute). xs ++ (upd f a r.attribute a ∷ map (upd f a r.attribute) as')) (map_frame f a r.attribute bs behind)
        ∙ (ap (λ (x : Attribute). map f bs ++ (x ∷ map (upd f a r.attribute) as')) (upd_at f a r.attribute)
        ∙ (ap (λ (xs : List Attribute). map f bs ++ (r.attribute ∷ xs)) (map_frame f a r.attribute as' ahead)
        ∙ (sym (put_split r.attribute (map f bs) (f a) (map f as') first same) ∙ sym (ap (put r.attribute) (ap (map f) list ∙ map-append f bs (a ∷ as')))))))))

    off_e : (y : ℕ) → y ≢ e → map (attribute_in ats₅) (kids L (length ats) y) ≡ map f (kids L (length ats) y)
    off_e y ne = ap (λ (h : ℕ → Attribute). map h (kids L (length ats) y)) values₅ ∙ map_frame f a r.attribute (kids L (length ats) y) (λ mm. ne (sym (g.owned (y, a, mm)).1 ∙ (g.owned (e, a, in_list)).1))

    pub replace_view : entries_in es n ats₅ free ≡ change e (amend (put r.attribute)) (entries_in es n ats free)
    replace_view = view_amended es ats₅ k free still e (put r.attribute) he (λ y h. ap (map (attribute_in ats₅)) (kids₅ y) ∙ elim (cases_eq y e) [
      | inl q ↦ ap (λ (x : ℕ). map (attribute_in ats₅) (kids L (length ats) x)) q ∙ (at_e ∙ (ap (λ (x : ℕ). put r.attribute (map f (kids L (length ats) x))) (sym q) ∙ sym (cond-true (eqb y e) (put r.attribute (map f (kids L (length ats) y))) (map f (kids L (length ats) y)) (eq-eqb y e q))))
      | inr q ↦ off_e y q ∙ sym (cond-false (eqb y e) (put r.attribute (map f (kids L (length ats) y))) (map f (kids L (length ats) y)) (ne_eqb y e q))
    ])

    pub replace_left : kids (holdings es n ats₅ free) (length ats₅) nil ≡ kids L (length ats) nil
    replace_left = kids₅ nil
