-- A child moves to the end of its parent's list.
use Rattle.std.proofs.Common.{◌≡◌, ℕ, ◌<◌, ◌≤◌, Bool, true, false, cond, not, eqb, ltb, ◌≢◌, ◌⊎◌, List, [], ◌∷◌, ◌++◌, length, get_or, sym, refl, ap, ◌∙◌, subst, inl, inr, arith, length-set}
use Rattle.std.proofs.lemmas.Bool.{cases_eq, eq-eqb, ne_eqb, lt-ltb, cond-true, cond-false}
use Rattle.trees.specs.declared.records.UnitRecord.{UnitRecord}
use Rattle.trees.specs.declared.records.EntryRecord.{EntryRecord}
use Rattle.trees.specs.declared.records.AttributeRecord.{AttributeRecord}
use Rattle.trees.specs.declared.records.State.{State}
use Rattle.trees.specs.Lists.{nil, Links, kids, Mem, has, last_or, without, Before}
use Rattle.trees.specs.Model.{Entry, no_entry, no_unit, change, with_children}
use Rattle.trees.specs.Stores.{modify, with_last, with_next}
use Rattle.trees.specs.Moves.{moved_last, with_first, detached, attached}
use Rattle.trees.specs.View.{blank, kin, holdings, attributes_at, entry_at, entries_in, kind, Sound}
use Rattle.trees.proofs.Segs.{Seg, last_mem, without_here, without_past}
use Rattle.trees.proofs.Families.{Good, Removing, remove_good, removed, dropped, Appending, append_good, added, last_left, last_push, push_mem, mem_left, mem_without, has_mem, mem_has, good_seg, below, once}
use Rattle.trees.proofs.Views.{along, nx, fs, ls, pa, un, at, st, tg, sb, nt, upd, upd_at, upd_off, held_path, length_entries, entries_at, entries_are, change_at, length_change, kin_good, held_good}
use Rattle.trees.proofs.Trees.{Stepped, changes, keeps, at_point, small}

-- who has no next is the last
pub end_last : (nx : ℕ → ℕ) (z c d : ℕ) (xs : List ℕ) (a : ℕ) → nx c ≡ z → (Mem z xs → ⊥) → Seg nx a xs z → Mem c xs → last_or d xs ≡ c
end_last nx z c d [] a e b s m = absurd m
end_last nx z c d (x ∷ []) a e b s (inl q) = sym q
end_last nx z c d (x ∷ []) a e b s (inr m) = absurd m
end_last nx z c d (x ∷ (y ∷ ys)) a e b s (inl q) = absurd (b (inr (inl (sym e ∙ (ap nx q ∙ s.1.0)))))
end_last nx z c d (x ∷ (y ∷ ys)) a e b s (inr m) = end_last nx z c x (y ∷ ys) (nx x) e (λ k. b (inr k)) s.1 m

-- a list that is not empty holds its last
last_some : (c d : ℕ) (xs : List ℕ) → Mem c xs → Mem (last_or d xs) xs
last_some c d [] m = absurd m
last_some c d (x ∷ xs) m = last_mem x xs

-- the last moved to the end
pub still_last : (c d : ℕ) (xs : List ℕ) → last_or d xs ≡ c → Mem c xs → (Mem c (without c xs) → ⊥) → moved_last c xs ≡ xs
still_last c d [] e m n = absurd m
still_last c d (x ∷ xs) e m n = go (cases_eq x c) (λ k. still_last c x xs e k) m
  where
    alone : (ys : List ℕ) → last_or x ys ≡ c → (Mem c ys → ⊥) → ys ≡ []
    alone [] q k = refl
    alone (y ∷ ys) q k = absurd (k (subst (λ (v : ℕ). Mem v (y ∷ ys)) q (last_mem y ys)))

    go : (x ≡ c) ⊎ (x ≡ c → ⊥) → (Mem c xs → (Mem c (without c xs) → ⊥) → moved_last c xs ≡ xs) → Mem c (x ∷ xs) → moved_last c (x ∷ xs) ≡ x ∷ xs
    go (inl q) ih mm =
        let z : xs ≡ [] = alone xs e (λ k. n (rw (without_here c x xs q) k)) in
        ap (λ (l : List ℕ). l ++ c ∷ []) (without_here c x xs q ∙ z) ∙ (ap (λ (v : ℕ). v ∷ []) (sym q) ∙ ap (λ (l : List ℕ). x ∷ l) (sym z))
    go (inr d) ih (inl q) = absurd (d (sym q))
    go (inr d) ih (inr k) = ap (λ (l : List ℕ). l ++ c ∷ []) (without_past c x xs d) ∙ ap (λ (l : List ℕ). x ∷ l) (ih k (λ h. n (rw (without_past c x xs d) (inr h))))

has_moved : (c x : ℕ) (xs : List ℕ) → has x xs ≡ true → has x (moved_last c xs) ≡ true
has_moved c x xs e = elim (cases_eq x c) [
  | inl q ↦ mem_has x (moved_last c xs) (subst (λ (v : ℕ). Mem v (moved_last c xs)) (sym q) (push_mem (without c xs) c))
  | inr ne ↦ mem_has x (moved_last c xs) (mem_left (without c xs) (c ∷ []) x (mem_without c x xs (has_mem x xs e) ne))
]

-- what the stores change
module _ (es : List EntryRecord) (p c l : ℕ) (hp : p < length es) (hl : l ≢ nil → l < length es) where
  pub cut_length : length (detached es p c l) ≡ length es
  unfolding nil
  cut_length = elim (cases_eq l nil) [
    | inl q ↦ ap length (cond-true _ _ _ (eq-eqb l nil q)) ∙ length-set es p _
    | inr ne ↦ ap length (cond-false _ _ _ (ne_eqb l nil ne)) ∙ length-set es l _
  ]

  cut_keeps : {X : Type 0} (f : EntryRecord → X) → ((x : ℕ) (r : EntryRecord) → f (with_next x r) ≡ f r) → ((x : ℕ) (r : EntryRecord) → f (with_first x r) ≡ f r) → along f (detached es p c l) blank ≡ along f es blank
  unfolding nil
  cut_keeps f a b = elim (cases_eq l nil) [
    | inl q ↦ ap (λ (x : List EntryRecord). along f x blank) (cond-true _ _ _ (eq-eqb l nil q)) ∙ keeps f es p (with_first (nx es c)) hp (b (nx es c))
    | inr ne ↦ ap (λ (x : List EntryRecord). along f x blank) (cond-false _ _ _ (ne_eqb l nil ne)) ∙ keeps f es l (with_next (nx es c)) (hl ne) (a (nx es c))
  ]

  cut_next_head : l ≡ nil → nx (detached es p c l) ≡ nx es
  unfolding nil
  cut_next_head q = ap nx (cond-true _ _ _ (eq-eqb l nil q)) ∙ keeps (λ (x : EntryRecord). x.next) es p (with_first (nx es c)) hp (λ r. refl)

  cut_first_head : l ≡ nil → fs (detached es p c l) ≡ upd (fs es) p (nx es c)
  unfolding nil
  cut_first_head q = ap fs (cond-true _ _ _ (eq-eqb l nil q)) ∙ changes (λ (x : EntryRecord). x.first) es p (with_first (nx es c)) hp

  cut_next_later : l ≢ nil → nx (detached es p c l) ≡ upd (nx es) l (nx es c)
  unfolding nil
  cut_next_later ne = ap nx (cond-false _ _ _ (ne_eqb l nil ne)) ∙ changes (λ (x : EntryRecord). x.next) es l (with_next (nx es c)) (hl ne)

  cut_first_later : l ≢ nil → fs (detached es p c l) ≡ fs es
  unfolding nil
  cut_first_later ne = ap fs (cond-false _ _ _ (ne_eqb l nil ne)) ∙ keeps (λ (x : EntryRecord). x.first) es l (with_next (nx es c)) (hl ne) (λ r. refl)

module _ (es : List EntryRecord) (p c e : ℕ) (hp : p < length es) (hc : c < length es) (he : e < length es) where
  abbrev e1 : List EntryRecord
  e1 = modify es c (with_next 65535)

  abbrev e2 : List EntryRecord
  e2 = modify e1 e (with_next c)

  l1 : length e1 ≡ length es
  l1 = length-set es c _

  l2 : length e2 ≡ length es
  l2 = length-set e1 e _ ∙ l1

  h2 : e < length e1
  h2 = let z = l1 in omega arith

  h3 : p < length e2
  h3 = let z = l2 in omega arith

  join_length : length (attached es p c e) ≡ length es
  join_length = length-set e2 p _ ∙ l2

  join_keeps : {X : Type 0} (f : EntryRecord → X) → ((x : ℕ) (r : EntryRecord) → f (with_next x r) ≡ f r) → ((x : ℕ) (r : EntryRecord) → f (with_last x r) ≡ f r) → along f (attached es p c e) blank ≡ along f es blank
  join_keeps f a b = keeps f e2 p (with_last c) h3 (b c) ∙ (keeps f e1 e (with_next c) h2 (a c) ∙ keeps f es c (with_next 65535) hc (a 65535))

  join_next : nx (attached es p c e) ≡ upd (upd (nx es) c nil) e c
  unfolding nil
  join_next = keeps (λ (x : EntryRecord). x.next) e2 p (with_last c) h3 (λ r. refl)
      ∙ (changes (λ (x : EntryRecord). x.next) e1 e (with_next c) h2 ∙ ap (λ (f : ℕ → ℕ). upd f e c) (changes (λ (x : EntryRecord). x.next) es c (with_next 65535) hc))

  join_last : ls (attached es p c e) ≡ upd (ls es) p c
  join_last = changes (λ (x : EntryRecord). x.last) e2 p (with_last c) h3
      ∙ ap (λ (f : ℕ → ℕ). upd f p c) (keeps (λ (x : EntryRecord). x.last) e1 e (with_next c) h2 (λ r. refl) ∙ keeps (λ (x : EntryRecord). x.last) es c (with_next 65535) hc (λ r. refl))

module _ {us : List UnitRecord} {m : ℕ} {es : List EntryRecord} {n : ℕ} {ats : List AttributeRecord} {k free size : ℕ} (S : Sound us m es n ats k free size)
    (c p l : ℕ) (hp : p < n) (b : Before (kin es n) (length es) p c l) where
  abbrev ks : ℕ → List ℕ
  ks = kids (kin es n) (length es)

  nz : n ≤ nil
  nz = small S

  g : Good (kin es n) (length es) n
  g = kin_good S

  fits : n ≤ length es
  fits = S.entries_fit.0

  pub moved_in : c < n
  moved_in = (S.kin_owned (p, c, b.0)).0

  pub prev_len : l ≢ nil → l < length es
  prev_len ne = let q = (S.kin_owned (p, l, (b.2 ne).0)).0 in let f = fits in omega arith

  last_in_use : ls es p < n
  last_in_use = (S.kin_owned (p, ls es p, rw (S.lasts p hp) (last_some c nil (ks p) b.0))).0

  pub lens : (p < length es) × (c < length es) × (ls es p < length es)
  lens = let f = fits in let x = moved_in in let y = last_in_use in (omega arith, omega arith, omega arith)

  -- c is the last already
  pub stays : c ≡ ls es p → moved_last c (ks p) ≡ ks p
  stays q = still_last c nil (ks p) (sym (q ∙ S.lasts p hp)) b.0 (once (kin es n) (length es) n nz g p c)

  pub cut_fits : length (detached es p c l) ≡ length es
  cut_fits = cut_length es p c l lens.0 prev_len

  -- and where it is not
  module _ (ne : c ≢ ls es p) where
    abbrev cut : List EntryRecord
    cut = detached es p c l

    abbrev new : List EntryRecord
    new = attached cut p c (ls es p)

    cl : length cut ≡ length es
    cl = cut_fits

    hpc : p < length cut
    hpc = let z = cl in let y = lens.0 in omega arith

    hcc : c < length cut
    hcc = let z = cl in let y = lens.1 in omega arith

    hec : ls es p < length cut
    hec = let z = cl in let y = lens.2 in omega arith

    new_length : length new ≡ length es
    new_length = join_length cut p c (ls es p) hpc hcc hec ∙ cl

    new_keeps : {X : Type 0} (f : EntryRecord → X) → ((x : ℕ) (r : EntryRecord) → f (with_next x r) ≡ f r) → ((x : ℕ) (r : EntryRecord) → f (with_first x r) ≡ f r) → ((x : ℕ) (r : EntryRecord) → f (with_last x r) ≡ f r) → along f new blank ≡ along f es blank
    new_keeps f a1 a2 a3 = join_keeps cut p c (ls es p) hpc hcc hec f a1 a3 ∙ cut_keeps es p c l lens.0 prev_len f a1 a2

    new_parent : pa new ≡ pa es
    new_parent = new_keeps (λ (x : EntryRecord). x.parent) (λ x r. refl) (λ x r. refl) (λ x r. refl)

    new_state : st new ≡ st es
    new_state = new_keeps (λ (x : EntryRecord). x.state) (λ x r. refl) (λ x r. refl) (λ x r. refl)

    new_unit : un new ≡ un es
    new_unit = new_keeps (λ (x : EntryRecord). x.unit) (λ x r. refl) (λ x r. refl) (λ x r. refl)

    new_tag : tg new ≡ tg es
    new_tag = new_keeps (λ (x : EntryRecord). x.tag) (λ x r. refl) (λ x r. refl) (λ x r. refl)

    new_sibling : sb new ≡ sb es
    new_sibling = new_keeps (λ (x : EntryRecord). x.sibling) (λ x r. refl) (λ x r. refl) (λ x r. refl)

    new_note : nt new ≡ nt es
    new_note = new_keeps (λ (x : EntryRecord). x.note) (λ x r. refl) (λ x r. refl) (λ x r. refl)

    new_attribute : at new ≡ at es
    new_attribute = new_keeps (λ (x : EntryRecord). x.attribute) (λ x r. refl) (λ x r. refl) (λ x r. refl)

    new_last : ls new ≡ upd (ls es) p c
    new_last = join_last cut p c (ls es p) hpc hcc hec ∙ ap (λ (f : ℕ → ℕ). upd f p c) (cut_keeps es p c l lens.0 prev_len (λ (x : EntryRecord). x.last) (λ x r. refl) (λ x r. refl))

    first_at : (xs : List EntryRecord) → (kin xs n).first p ≡ fs xs p
    first_at xs = cond-true _ _ _ (lt-ltb p n hp)

    -- out of the list, then to its end
    out : Removing (kin es n) (kin cut n) (length es) p c l
    out = record {
      before = b;
      head = λ q. first_at cut ∙ (at_point (cut_first_head es p c l lens.0 prev_len q) p ∙ upd_at (fs es) p (nx es c));
      later = λ d. (
        at_point (cut_next_later es p c l lens.0 prev_len d) l ∙ upd_at (nx es) l (nx es c),
        first_at cut ∙ (at_point (cut_first_later es p c l lens.0 prev_len d) p ∙ sym (first_at es)),
      );
      nexts = λ y _ d. elim (cases_eq l nil) [
        | inl q ↦ at_point (cut_next_head es p c l lens.0 prev_len q) y
        | inr z ↦ at_point (cut_next_later es p c l lens.0 prev_len z) y ∙ upd_off (nx es) l (nx es c) y d
      ];
      firsts = λ y d. ap (λ (v : ℕ). cond (ltb y n) v nil) (elim (cases_eq l nil) [
        | inl q ↦ at_point (cut_first_head es p c l lens.0 prev_len q) y ∙ upd_off (fs es) p (nx es c) y d
        | inr z ↦ at_point (cut_first_later es p c l lens.0 prev_len z) y
      ]);
      owners = λ y _. at_point (cut_keeps es p c l lens.0 prev_len (λ (x : EntryRecord). x.parent) (λ x r. refl) (λ x r. refl)) y;
    }

    out_both : Good (kin cut n) (length es) n × ((y : ℕ) → kids (kin cut n) (length es) y ≡ dropped p c ks y)
    out_both = remove_good (kin es n) (kin cut n) (length es) n p c l fits nz g out

    out_at : kids (kin cut n) (length es) p ≡ without c (ks p)
    out_at = out_both.1 p ∙ cond-true _ _ _ (eq-eqb p p refl)

    goes_on : nx es c ≢ nil
    goes_on q = ne (sym (S.lasts p hp ∙ end_last (nx es) nil c nil (ks p) ((kin es n).first p) q (λ z. (let h = below (kin es n) (length es) n nz g p nil z in let f = nz in omega arith)) (good_seg (kin es n) (length es) n g p) b.0))

    back : Appending (kin cut n) (kin new n) (length es) n p c (ls es p)
    back = record {
      small = moved_in;
      apart = removed (kin es n) (kin cut n) (length es) n p c l fits nz g out;
      last = S.lasts p hp ∙ (sym ((last_left (kin es n) (length es) n nz g p c l b).1 goes_on) ∙ sym (ap (last_or nil) out_at));
      nextc = at_point next c ∙ (upd_off (upd (nx cut) c nil) (ls es p) c c ne ∙ upd_at (nx cut) c nil);
      nexts = λ y yc ye. at_point next y ∙ (upd_off (upd (nx cut) c nil) (ls es p) c y ye ∙ upd_off (nx cut) c nil y yc);
      empty = λ q. absurd (let h = last_in_use in let f = nz in omega arith);
      more = λ _. (ap (λ (v : ℕ). cond (ltb p n) v nil) (at_point first p), at_point next (ls es p) ∙ upd_at (upd (nx cut) c nil) (ls es p) c);
      firsts = λ y _. ap (λ (v : ℕ). cond (ltb y n) v nil) (at_point first y);
      ownerc = at_point new_parent c ∙ (S.kin_owned (p, c, b.0)).1;
      owners = λ y _. at_point (join_keeps cut p c (ls es p) hpc hcc hec (λ (x : EntryRecord). x.parent) (λ x r. refl) (λ x r. refl)) y;
    }
      where
        next : nx new ≡ upd (upd (nx cut) c nil) (ls es p) c
        next = join_next cut p c (ls es p) hpc hcc hec

        first : fs new ≡ fs cut
        first = join_keeps cut p c (ls es p) hpc hcc hec (λ (x : EntryRecord). x.first) (λ x r. refl) (λ x r. refl)

    back_both : Good (kin new n) (length es) n × ((y : ℕ) → kids (kin new n) (length es) y ≡ added p c (kids (kin cut n) (length es)) y)
    back_both = append_good (kin cut n) (kin new n) (length es) n p c (ls es p) fits nz out_both.0 back

    new_good : Good (kin new n) (length new) n
    new_good = subst (λ (v : ℕ). Good (kin new n) v n) (sym new_length) back_both.0

    new_kids : (y : ℕ) → kids (kin new n) (length new) y ≡ cond (eqb y p) (moved_last c (ks p)) (ks y)
    new_kids y = ap (λ (v : ℕ). kids (kin new n) v y) new_length ∙ (back_both.1 y ∙ elim (cases_eq y p) [
      | inl q ↦ cond-true _ _ _ (eq-eqb y p q) ∙ (ap (λ (v : ℕ). kids (kin cut n) (length es) v ++ c ∷ []) q ∙ (ap (λ (x : List ℕ). x ++ c ∷ []) out_at ∙ sym (cond-true (eqb y p) (moved_last c (ks p)) (ks y) (eq-eqb y p q))))
      | inr d ↦ cond-false _ _ _ (ne_eqb y p d) ∙ (out_both.1 y ∙ (cond-false _ _ _ (ne_eqb y p d) ∙ sym (cond-false (eqb y p) (moved_last c (ks p)) (ks y) (ne_eqb y p d))))
    ])

    new_has : (y x : ℕ) → has x (ks y) ≡ true → has x (kids (kin new n) (length new) y) ≡ true
    new_has y x e = ap (has x) (new_kids y) ∙ elim (cases_eq y p) [
      | inl q ↦ ap (has x) (cond-true (eqb y p) (moved_last c (ks p)) (ks y) (eq-eqb y p q)) ∙ has_moved c x (ks p) (ap (λ (v : ℕ). has x (ks v)) (sym q) ∙ e)
      | inr d ↦ ap (has x) (cond-false (eqb y p) (moved_last c (ks p)) (ks y) (ne_eqb y p d)) ∙ e
    ]

    new_held : holdings new n ats free ≡ holdings es n ats free
    new_held = held_path es new n ats free new_attribute

    new_sound : Sound us m new n ats k free size
    new_sound = record {
      units_fit = S.units_fit;
      entries_fit = rw new_length S.entries_fit;
      attributes_fit = S.attributes_fit;
      pool_fits = S.pool_fits;
      kin_ends = new_good.ends;
      kin_owned = new_good.owned;
      lasts = λ e h. at_point new_last e ∙ elim (cases_eq e p) [
        | inl q ↦ cond-true _ _ _ (eq-eqb e p q) ∙ sym (ap (last_or nil) (new_kids e ∙ cond-true (eqb e p) (moved_last c (ks p)) (ks e) (eq-eqb e p q)) ∙ last_push nil c (without c (ks p)))
        | inr d ↦ cond-false _ _ _ (ne_eqb e p d) ∙ (S.lasts e h ∙ sym (ap (last_or nil) (new_kids e ∙ cond-false (eqb e p) (moved_last c (ks p)) (ks e) (ne_eqb e p d))))
      ];
      parented = λ e h. ap (λ (s : State). eqb (kind s) 2) (at_point new_state e) ∙ (S.parented e h ∙ ap (λ (v : ℕ). not (eqb v nil)) (sym (at_point new_parent e)));
      listed = λ e h d. let q = at_point new_parent e in ap (λ (v : ℕ). has e (kids (kin new n) (length new) v)) q ∙ new_has (pa es e) e (S.listed e h (λ z. d (q ∙ z)));
      akin = λ e h d. let q = at_point new_parent e in at_point new_unit e ∙ (S.akin e h (λ z. d (q ∙ z)) ∙ (ap (un es) (sym q) ∙ sym (at_point new_unit (pa new e))));
      housed = λ e h. subst (λ (v : ℕ). v < m) (sym (at_point new_unit e)) (S.housed e h);
      rooted = λ u h. let r = S.rooted u h in let rt = (get_or us u no_unit).root in (r.0, ap kind (at_point new_state rt) ∙ r.1, at_point new_unit rt ∙ r.2);
      held_ends = (subst (λ (L : Links). Good L (length ats) k) (sym new_held) (held_good S)).ends;
      held_owned = (subst (λ (L : Links). Good L (length ats) k) (sym new_held) (held_good S)).owned;
    }

    new_view : entries_in new n ats free ≡ change p (with_children (moved_last c (ks p))) (entries_in es n ats free)
    new_view =
        let xs = entries_in es n ats free in
        let ln : length xs ≡ n = length_entries es n ats free in
        let h1 : p < length xs = rw ln hp in
        entries_are new n ats free _ (length_change xs p (with_children (moved_last c (ks p))) ∙ ln) (λ y h.
        made y ∙ (split y (eqb y p) ∙ sym (change_at xs p (with_children (moved_last c (ks p))) h1 y
        ∙ ap (λ (x : Entry). cond (eqb y p) (with_children (moved_last c (ks p)) x) x) (entries_at es n ats free y h))))
      where
        made : (y : ℕ) → entry_at new n ats free y ≡ record { unit = un es y; state = st es y; tag = tg es y; sibling = sb es y; note = nt es y; attributes = attributes_at (holdings es n ats free) ats y; children = cond (eqb y p) (moved_last c (ks p)) (ks y) }
        made y = λ i. record { unit = new_unit i y; state = new_state i y; tag = new_tag i y; sibling = new_sibling i y; note = new_note i y; attributes = attributes_at (new_held i) ats y; children = new_kids y i }

        split : (y : ℕ) (d : Bool) → (record { unit = un es y; state = st es y; tag = tg es y; sibling = sb es y; note = nt es y; attributes = attributes_at (holdings es n ats free) ats y; children = cond d (moved_last c (ks p)) (ks y) })
            ≡ cond d (with_children (moved_last c (ks p)) (entry_at es n ats free y)) (entry_at es n ats free y)
        split y true = refl
        split y false = refl

    pub moved : (es' : List EntryRecord) → es' ≡ attached (detached es p c l) p c (ls es p) → Stepped S es' (change p (with_children (moved_last c (get_or (entries_in es n ats free) p no_entry).children)) (entries_in es n ats free))
    moved es' q = subst (λ (x : List EntryRecord). Stepped S x (change p (with_children (moved_last c (get_or (entries_in es n ats free) p no_entry).children)) (entries_in es n ats free))) (sym q)
        (new_sound, new_view ∙ ap (λ (x : Entry). change p (with_children (moved_last c x.children)) (entries_in es n ats free)) (sym (entries_at es n ats free p hp)), new_length, ap (λ (L : Links). kids L (length ats) nil) new_held)
