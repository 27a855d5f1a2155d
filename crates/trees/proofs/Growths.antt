-- The law of the trees by histories, for each call of the model.
use Rattle.std.proofs.Common.{◌≡◌, ℕ, ◌+◌, ◌<◌, ◌≤◌, Bool, true, false, cond, not, ◌&&◌, ◌||◌, eqb, List, [], ◌∷◌, ◌++◌, length, get_or, Some, None, Ok, Err, Option, Result, sym, refl, ap, ◌∙◌, subst, inl, inr, arith}
use mathlib.Core.Path.{fun_ext}
use Rattle.std.proofs.lemmas.List.{get_or_push, get_or_past, get_or_append_left, length_push}
use Rattle.std.proofs.lemmas.Bool.{cases_lt, cases_eq, eq-eqb, ne_eqb, and_parts}
use Rattle.trees.specs.declared.records.State.TheVariants.{Root, Waiting, TakenOut, GivenBack}
use Rattle.trees.specs.declared.records.Refusal.{Refusal}
use Rattle.trees.specs.declared.records.EditFault.{EditFault}
use Rattle.trees.specs.declared.records.UnitId.{UnitId}
use Rattle.trees.specs.declared.records.UnitEntryId.{UnitEntryId}
use Rattle.trees.specs.declared.records.Reservation.{Reservation}
use Rattle.trees.specs.declared.records.Encoding.{Encoding}
use Rattle.trees.specs.declared.records.LineProgram.{LineProgram}
use Rattle.trees.specs.declared.records.EditFault.TheVariants.{SessionClosed, TableFull, NotWaiting}
use Rattle.trees.specs.Lists.{has}
use Rattle.trees.specs.Model.{Entry, Table, Check, no_entry, entry_of, change, new_entry, unless, as_is, is_waiting, first_fault, edit_checks, knows, knows_unit, knows_both, entry_id, place, placed, adopt, abandon, left, with_entries, take_out, grant, new_table, add_unit, reserve, add_reserved, add, give_back, delete_child}
use Rattle.trees.specs.Growth.{Deed, Deed.unit_added, Deed.reserved, Deed.reserved_added, Deed.entry_added, Deed.gave_back, Deed.child_deleted, Deeds, Contents, contents_of, contents_in, nothing, tagged, gains, loses, at, grown, makes_entries, entries_by, Grows}
use Rattle.trees.proofs.Steps.{unit_done, reserve_done, place_done, back_done, back_as, delete_done, edit_done, add_done}
use Rattle.trees.proofs.Views.{change_at, length_change}
use Rattle.trees.proofs.Laws.{cleared, known_used}

-- what a call makes of the trees
pub record Grew (t t' : Table) (a : Deed) : Type 0 where
  pub count : length t'.entries ≡ makes_entries a + length t.entries
  pub trees : (e : ℕ) → contents_in t' e ≡ grown (length t.entries) a (contents_in t) e

-- one that was declined
pub same : (t : Table) (a : Deed) → makes_entries a ≡ 0 → grown (length t.entries) a (contents_in t) ≡ contents_in t → Grew t t a
same t a z q = record { count = sym (rw z (omega arith)); trees = λ e. sym (λ i. q i e) }

-- one entry changed
pub contents_set : (t t' : Table) (i : ℕ) (f : Entry → Entry) (g : Contents → Contents) → i < length t.entries → t'.entries ≡ change i f t.entries → contents_of (f (entry_of t i)) ≡ g (contents_in t i)
    → (e : ℕ) → contents_in t' e ≡ at i g (contents_in t) e
contents_set t t' i f g h q z e = ap (λ (xs : List Entry). contents_of (get_or xs e no_entry)) q ∙ (ap contents_of (change_at t.entries i f h e) ∙ elim (cases_eq e i) [
  | inl p ↦ rw (eq-eqb e i p) (ap (λ (n : ℕ). contents_of (f (entry_of t n))) p ∙ (z ∙ ap (λ (n : ℕ). g (contents_in t n)) (sym p)))
  | inr p ↦ rw (ne_eqb e i p)
])

pub contents_change : (t t' : Table) (i : ℕ) (f : Entry → Entry) (g : Contents → Contents) → i < length t.entries → t'.entries ≡ change i f t.entries → ((x : Entry) → contents_of (f x) ≡ g (contents_of x))
    → (e : ℕ) → contents_in t' e ≡ at i g (contents_in t) e
contents_change t t' i f g h q z e = contents_set t t' i f g h q (z (entry_of t i)) e

-- one entry more
pub contents_push : (t t' : Table) (x : Entry) → t'.entries ≡ t.entries ++ x ∷ [] → (e : ℕ) → contents_in t' e ≡ cond (eqb e (length t.entries)) (contents_of x) (contents_in t e)
contents_push t t' x q e =
    let n = length t.entries in
    ap (λ (xs : List Entry). contents_of (get_or xs e no_entry)) q ∙ elim (cases_lt e n) [
      | inl h ↦ rw (ne_eqb e n (λ p. omega arith)) (ap contents_of (get_or_append_left t.entries (x ∷ []) no_entry e h))
      | inr h ↦ elim (cases_eq e n) [
        | inl p ↦ rw (eq-eqb e n p) (ap contents_of (get_or_push t.entries x no_entry e (sym p)))
        | inr p ↦ rw (ne_eqb e n p) (ap contents_of (get_or_past (t.entries ++ x ∷ []) e no_entry (let l = length_push t.entries x in omega arith) ∙ sym (get_or_past t.entries e no_entry h)))
      ]
    ]

-- one entry changed, in nothing that it holds
pub contents_kept : (t t' : Table) (i : ℕ) (f : Entry → Entry) → i < length t.entries → t'.entries ≡ change i f t.entries → ((x : Entry) → contents_of (f x) ≡ contents_of x) → (e : ℕ) → contents_in t' e ≡ contents_in t e
contents_kept t t' i f h q w e = contents_change t t' i f (λ c. c) h q w e ∙ both (eqb e i) (contents_in t e)
  where
    both : (b : Bool) (c : Contents) → cond b c c ≡ c
    both true c = refl
    both false c = refl

-- what no entry stands for holds nothing
pub none_yet : (t : Table) (e : ℕ) → length t.entries ≤ e → contents_in t e ≡ nothing
none_yet t e h = ap contents_of (get_or_past t.entries e no_entry h)

-- and so of what a history tells of them
pub grows : (t t' : Table) (a : Deed) → Grew t t' a → (h : Deeds) → Grows h t → Grows (a ∷ h) t'
grows t t' a w h S = record {
  entries = w.count ∙ ap (λ (n : ℕ). makes_entries a + n) S.entries;
  trees = λ e. w.trees e ∙ (ap (λ (n : ℕ). grown n a (contents_in t) e) S.entries ∙ ap (λ (f : ℕ → Contents). grown (entries_by h) a f e) (fun_ext S.trees));
}

-- a step of the writer that changes one entry, in nothing that it holds, and is no call of a history
pub kept_entry : (t t' : Table) (i : ℕ) (f : Entry → Entry) → i < length t.entries → t'.entries ≡ change i f t.entries → ((x : Entry) → contents_of (f x) ≡ contents_of x) → (h : Deeds) → Grows h t → Grows h t'
kept_entry t t' i f l q w h S = record { entries = ap length q ∙ (length_change t.entries i f ∙ S.entries); trees = λ e. contents_kept t t' i f l q w e ∙ S.trees e }

-- an edit of one entry that makes no entry
pub record Edits (act : Result Unit EditFault → Deed) (i : UnitEntryId) (g : Contents → Contents) : Type 0 where
  pub none : (r : Result Unit EditFault) → makes_entries (act r) ≡ 0
  pub done : (n : ℕ) (f : ℕ → Contents) → grown n (act (Ok tt)) f ≡ at i.entry g f
  pub refused : (n : ℕ) (f : ℕ → Contents) (x : EditFault) → grown n (act (Err x)) f ≡ f

module _ (t : Table) where
  place_grew : (c p tag : ℕ) → c < length t.entries → p < length t.entries → (e : ℕ) → contents_in (place t c p tag) e ≡ at p (gains c) (at c (tagged tag) (contents_in t)) e
  place_grew c p tag hc hp e =
      let t1 = with_entries t (change c (placed tag) t.entries) in
      contents_change t1 (place t c p tag) p (adopt c) (gains c) (rw (length_change t.entries c (placed tag)) hp) refl (λ x. refl) e
      ∙ ap (λ (f : ℕ → Contents). at p (gains c) f e) (fun_ext (contents_change t t1 c (placed tag) (tagged tag) hc refl (λ x. refl)))

  place_length : (c p tag : ℕ) → length (place t c p tag).entries ≡ length t.entries
  place_length c p tag = length_change (change c (placed tag) t.entries) p (adopt c) ∙ length_change t.entries c (placed tag)

  -- a new entry holds nothing
  grant_grew : (u e : ℕ) → contents_in (grant t u) e ≡ contents_in t e
  grant_grew u e = contents_push t (grant t u) (new_entry u Waiting 0) refl e ∙ elim (cases_eq e (length t.entries))
      [ inl p ↦ rw (eq-eqb e (length t.entries) p) (sym (none_yet t e (omega arith))) | inr p ↦ rw (ne_eqb e (length t.entries) p) ]

  pub unit_grew : (encoding : Encoding) (line : Option LineProgram) (x : Table × Result UnitId EditFault) → x ≡ add_unit t encoding line → Grew t x.0 (unit_added encoding line x.1)
  unit_grew encoding line x q = subst (λ (x : Table × Result UnitId EditFault). Grew t x.0 (unit_added encoding line x.1)) (sym q) (go (first_fault ((t.closed, SessionClosed) ∷ ((eqb t.units_left 0 || eqb t.entries_left 0, TableFull) ∷ []))))
    where
      go : (o : Option EditFault) → Grew t (unless o as_is t (unit_done t encoding line)).0 (unit_added encoding line (unless o as_is t (unit_done t encoding line)).1)
      go None = record {
        count = length_push t.entries (new_entry (length t.units) Root 17) ∙ omega arith;
        trees = λ e. contents_push t (unit_done t encoding line).0 (new_entry (length t.units) Root 17) refl e ∙ elim (cases_eq e (length t.entries))
            [ inl p ↦ rw (eq-eqb e (length t.entries) p) (sym (ap (tagged 17) (none_yet t e (omega arith)))) | inr p ↦ rw (ne_eqb e (length t.entries) p) ];
      }
      go (Some f) = same t (unit_added encoding line (Err f)) refl refl

  pub reserve_grew : (u : UnitId) (x : Table × Result (UnitEntryId × Reservation) EditFault) → x ≡ reserve t u → Grew t x.0 (reserved u x.1)
  reserve_grew u x q = subst (λ (x : Table × Result (UnitEntryId × Reservation) EditFault). Grew t x.0 (reserved u x.1)) (sym q) (go (first_fault (edit_checks t (knows_unit t u) u.unit ((eqb t.entries_left 0, TableFull) ∷ []))))
    where
      go : (o : Option EditFault) → Grew t (unless o as_is t (reserve_done t u)).0 (reserved u (unless o as_is t (reserve_done t u)).1)
      go None = record { count = length_push t.entries (new_entry u.unit Waiting 0) ∙ omega arith; trees = grant_grew u.unit }
      go (Some f) = same t (reserved u (Err f)) refl refl

  pub reserved_grew : (r : Reservation) (p : UnitEntryId) (tag : ℕ) (x : Table × Result Unit Refusal) → x ≡ add_reserved t r p tag → Grew t x.0 (reserved_added r p tag x.1)
  reserved_grew r p tag x q = subst (λ (x : Table × Result Unit Refusal). Grew t x.0 (reserved_added r p tag x.1)) (sym q)
      (go (first_fault (edit_checks t (knows_both t (entry_id r) p) r.id.unit ((not (is_waiting (entry_of t r.id.entry).state), NotWaiting) ∷ []))) refl)
    where
      go : (o : Option EditFault) → first_fault (edit_checks t (knows_both t (entry_id r) p) r.id.unit ((not (is_waiting (entry_of t r.id.entry).state), NotWaiting) ∷ [])) ≡ o
          → Grew t (unless o (λ f. record { fault = f; reservation = r }) t (place_done t r p tag)).0 (reserved_added r p tag (unless o (λ f. record { fault = f; reservation = r }) t (place_done t r p tag)).1)
      go None e =
          let c = cleared t (knows_both t (entry_id r) p) r.id.unit ((not (is_waiting (entry_of t r.id.entry).state), NotWaiting) ∷ []) e in
          let b = and_parts (knows t (entry_id r)) _ c.0 in
          let hp = known_used t p (and_parts (knows t p) _ b.1).0 in
          record { count = place_length r.id.entry p.entry tag ∙ omega arith; trees = place_grew r.id.entry p.entry tag (known_used t (entry_id r) b.0) hp }
      go (Some f) e = same t (reserved_added r p tag (Err (record { fault = f; reservation = r }))) refl refl

  pub back_grew : (r : Reservation) (x : Table × Bool) → x ≡ give_back t r → Grew t x.0 (gave_back r x.1)
  back_grew r x q = subst (λ (x : Table × Bool). Grew t x.0 (gave_back r x.1)) (sym q) (go (knows t (entry_id r) && is_waiting (entry_of t r.id.entry).state) refl)
    where
      go : (b : Bool) → (knows t (entry_id r) && is_waiting (entry_of t r.id.entry).state) ≡ b → Grew t (back_as t r b).0 (gave_back r (back_as t r b).1)
      go true e =
          let b = and_parts (knows t (entry_id r)) _ e in
          record { count = length_change t.entries r.id.entry (left GivenBack) ∙ omega arith; trees = contents_kept t (back_done t r) r.id.entry (left GivenBack) (known_used t (entry_id r) b.0) refl (λ x. refl) }
      go false e = same t (gave_back r false) refl refl

  pub delete_grew : (p c : UnitEntryId) (x : Table × Result Bool EditFault) → x ≡ delete_child t p c → Grew t x.0 (child_deleted p c x.1)
  delete_grew p c x q = subst (λ (x : Table × Result Bool EditFault). Grew t x.0 (child_deleted p c x.1)) (sym q) (go (first_fault (edit_checks t (knows_both t p c) p.unit [])) refl (has c.entry (entry_of t p.entry).children))
    where
      go : (o : Option EditFault) → first_fault (edit_checks t (knows_both t p c) p.unit []) ≡ o → (b : Bool)
          → Grew t (unless o as_is t (delete_done t p c b)).0 (child_deleted p c (unless o as_is t (delete_done t p c b)).1)
      go None e true =
          let k = and_parts (knows t p) _ (cleared t (knows_both t p c) p.unit [] e).0 in
          let hp = known_used t p k.0 in
          let hc = known_used t c (and_parts (knows t c) _ k.1).0 in
          let t1 = with_entries t (change p.entry (abandon c.entry) t.entries) in
          let t2 = take_out t p.entry c.entry in
          let hc1 : c.entry < length t1.entries = rw (length_change t.entries p.entry (abandon c.entry)) hc in
          record {
            count = length_change t1.entries c.entry (left TakenOut) ∙ (length_change t.entries p.entry (abandon c.entry) ∙ omega arith);
            trees = λ e. contents_kept t1 t2 c.entry (left TakenOut) hc1 refl (λ x. refl) e ∙ contents_change t t1 p.entry (abandon c.entry) (loses c.entry) hp refl (λ x. refl) e;
          }
      go None e false = same t (child_deleted p c (Ok false)) refl refl
      go (Some f) e b = same t (child_deleted p c (Err f)) refl refl

  -- where `act` is the call with its answer, and g what it makes of what the entry holds
  pub edit_grew : (act : Result Unit EditFault → Deed) (k : Bool) (u : ℕ) (more : List Check) (i : UnitEntryId) (f : Entry → Entry) (g : Contents → Contents) (d : Table) → (k ≡ true → knows t i ≡ true) → d.entries ≡ change i.entry f t.entries
      → Edits act i g → ((x : Entry) → contents_of (f x) ≡ g (contents_of x))
      → (x : Table × Result Unit EditFault) → x ≡ unless (first_fault (edit_checks t k u more)) as_is t (d, Ok tt) → Grew t x.0 (act x.1)
  edit_grew act k u more i f g d kn q w y x e = subst (λ (x : Table × Result Unit EditFault). Grew t x.0 (act x.1)) (sym e) (go (first_fault (edit_checks t k u more)) refl)
    where
      go : (o : Option EditFault) → first_fault (edit_checks t k u more) ≡ o → Grew t (edit_done t d o).0 (act (edit_done t d o).1)
      go None p = record {
        count = ap length q ∙ (length_change t.entries i.entry f ∙ sym (rw (w.none (Ok tt)) (omega arith)));
        trees = λ e. contents_change t d i.entry f g (known_used t i (kn (cleared t k u more p).0)) q y e ∙ sym (λ j. w.done (length t.entries) (contents_in t) j e);
      }
      go (Some x) p = same t (act (Err x)) (w.none (Err x)) (w.refused (length t.entries) (contents_in t) x)

  pub add_grew : (p : UnitEntryId) (tag : ℕ) (x : Table × Result UnitEntryId EditFault) → x ≡ add t p tag → Grew t x.0 (entry_added p tag x.1)
  add_grew p tag x q = subst (λ (x : Table × Result UnitEntryId EditFault). Grew t x.0 (entry_added p tag x.1)) (sym q) (go (first_fault (edit_checks t (knows t p) p.unit ((eqb t.entries_left 0, TableFull) ∷ []))) refl)
    where
      go : (o : Option EditFault) → first_fault (edit_checks t (knows t p) p.unit ((eqb t.entries_left 0, TableFull) ∷ [])) ≡ o → Grew t (unless o as_is t (add_done t p tag)).0 (entry_added p tag (unless o as_is t (add_done t p tag)).1)
      go None e =
          let n = length t.entries in
          let t1 = grant t p.unit in
          let l1 : length t1.entries ≡ n + 1 = length_push t.entries (new_entry p.unit Waiting 0) in
          let hp = known_used t p (cleared t (knows t p) p.unit ((eqb t.entries_left 0, TableFull) ∷ []) e).0 in
          let t2 = with_entries t1 (change n (placed tag) t1.entries) in
          let hn : n < length t1.entries = omega arith in
          record {
            count = length_change t2.entries p.entry (adopt n) ∙ (length_change t1.entries n (placed tag) ∙ (l1 ∙ omega arith));
            trees = λ e. contents_change t2 (add_done t p tag).0 p.entry (adopt n) (gains n) (rw (length_change t1.entries n (placed tag)) (omega arith)) refl (λ x. refl) e
                ∙ ap (λ (f : ℕ → Contents). at p.entry (gains n) f e) (fun_ext (λ v. contents_change t1 t2 n (placed tag) (tagged tag) hn refl (λ x. refl) v ∙ ap (λ (f : ℕ → Contents). at n (tagged tag) f v) (fun_ext (grant_grew p.unit))));
          }
      go (Some f) e = same t (entry_added p tag (Err f)) refl refl

-- a new table has no entry
pub new_grows : (t : Table) (number us es ats : ℕ) (pool : List ℕ) → t ≡ new_table number us es ats pool → Grows [] t
new_grows t number us es ats pool q = subst (Grows []) (sym q) (record { entries = refl; trees = λ e. ap contents_of (get_or_past {X = Entry} [] e no_entry (omega arith)) })
