-- The law of histories, for each call of the model.
use Rattle.std.proofs.Common.{◌≡◌, ℕ, zero, suc, ◌+◌, ◌<◌, Bool, true, false, cond, not, ◌&&◌, ◌||◌, eqb, ltb, ◌⊎◌, List, [], ◌∷◌, ◌++◌, length, get_or, set, Some, None, Ok, Err, Option, Result, sym, refl, ap, ◌∙◌, subst, inl, inr, arith}
use Rattle.std.proofs.lemmas.List.{get_or_push, get_or_append_left, length_push}
use Rattle.std.proofs.lemmas.Bool.{cases_lt, cases_eq, eq-eqb, ne_eqb, lt-ltb, le-ltb, ltb-true, cond-true, cond-false, true≢false, and_parts, cases_Bool}
use Rattle.trees.specs.declared.records.UnitId.{UnitId}
use Rattle.trees.specs.declared.records.UnitEntryId.{UnitEntryId}
use Rattle.trees.specs.declared.records.Reservation.{Reservation}
use Rattle.trees.specs.declared.records.Refusal.{Refusal}
use Rattle.trees.specs.declared.records.EditFault.{EditFault}
use Rattle.trees.specs.declared.records.State.{State}
use Rattle.trees.specs.declared.records.State.TheVariants.{Root, Waiting, Placed, TakenOut, GivenBack}
use Rattle.trees.specs.declared.records.Encoding.{Encoding}
use Rattle.trees.specs.declared.records.LineProgram.{LineProgram}
use Rattle.trees.specs.declared.records.EditFault.TheVariants.{SessionClosed, TableFull, NotWaiting}
use Rattle.trees.specs.Lists.{has}
use Rattle.trees.specs.Model.{Entry, Table, Check, no_entry, entry_of, unit_of, change, new_entry, unless, as_is, is_waiting, first_fault, edit_checks, knows, knows_unit, knows_both, entry_id, place, placed, adopt, abandon, left, with_entries, take_out, grant, new_table, add_unit, reserve, add_reserved, add, give_back, delete_child}
use Rattle.trees.specs.History.{Act, Act.unit_added, Act.reserved, Act.reserved_added, Act.entry_added, Act.gave_back, Act.child_deleted, Act.edited, History, times, makes, remade, state_by, grants, of_state, state_in, is_state, in_state, Listed, Stands}
use Rattle.trees.proofs.Steps.{unit_done, reserve_done, place_done, back_done, back_as, delete_done, edit_done, add_done}
use Rattle.trees.proofs.Views.{change_at, length_change}

-- the four states together
abbrev pub all : List Entry → ℕ
all es = in_state Waiting es + in_state Placed es + in_state TakenOut es + in_state GivenBack es

-- how many states of the four an entry has: one, or none for a root
abbrev one : State → ℕ
one s = is_state Waiting s + is_state Placed s + is_state TakenOut s + is_state GivenBack s

all_more : (e : Entry) (es : List Entry) → all (e ∷ es) ≡ one e.state + all es
all_more e es = omega arith

pub all_push : (es : List Entry) (e : Entry) → all (es ++ e ∷ []) ≡ all es + one e.state
all_push [] e = omega arith
all_push (x ∷ es) e = let k = all_push es e in omega arith

all_set : (es : List Entry) (i : ℕ) (e : Entry) → one e.state ≡ one (get_or es i no_entry).state → all (set es i e) ≡ all es
all_set [] i e q = refl
all_set (x ∷ es) zero e q = omega arith
all_set (x ∷ es) (suc i) e q = let k = all_set es i e q in omega arith

pub all_change : (es : List Entry) (i : ℕ) (f : Entry → Entry) → one (f (get_or es i no_entry)).state ≡ one (get_or es i no_entry).state → all (change i f es) ≡ all es
all_change es i f q = all_set es i (f (get_or es i no_entry)) q

-- the state of an entry after one entry has changed
pub state_change : (t t' : Table) (i : ℕ) (f : Entry → Entry) (s : State) → i < length t.entries → t'.entries ≡ change i f t.entries → (f (entry_of t i)).state ≡ s
    → (e : ℕ) → state_in t' e ≡ cond (eqb e i) (of_state s) (state_in t e)
state_change t t' i f s h q z e =
    let l : length t'.entries ≡ length t.entries = ap length q ∙ length_change t.entries i f in
    let v : entry_of t' e ≡ cond (eqb e i) (f (entry_of t e)) (entry_of t e) = ap (λ (xs : List Entry). get_or xs e no_entry) q ∙ change_at t.entries i f h e in
    ap (λ (n : ℕ). cond (ltb e n) (of_state (entry_of t' e).state) None) l ∙ (ap (λ (x : Entry). cond (ltb e (length t.entries)) (of_state x.state) None) v ∙ elim (cases_eq e i) [
      | inl p ↦ rw (eq-eqb e i p) (rw (lt-ltb e (length t.entries) (omega arith)) (ap of_state (ap (λ (n : ℕ). (f (entry_of t n)).state) p ∙ z)))
      | inr p ↦ rw (ne_eqb e i p)
    ])

-- and after one was added
pub state_push : (t t' : Table) (x : Entry) → t'.entries ≡ t.entries ++ x ∷ [] → (e : ℕ) → state_in t' e ≡ cond (eqb e (length t.entries)) (of_state x.state) (state_in t e)
state_push t t' x q e =
    let n = length t.entries in
    let l : length t'.entries ≡ n + 1 = ap length q ∙ length_push t.entries x in
    ap (λ (k : ℕ). cond (ltb e k) (of_state (entry_of t' e).state) None) l ∙ elim (cases_lt e n) [
      | inl h ↦ rw (lt-ltb e (n + 1) (omega arith), ne_eqb e n (λ p. omega arith), lt-ltb e n h) (ap (λ (y : Entry). of_state y.state) (ap (λ (xs : List Entry). get_or xs e no_entry) q ∙ get_or_append_left t.entries (x ∷ []) no_entry e h))
      | inr h ↦ elim (cases_eq e n) [
        | inl p ↦ rw (lt-ltb e (n + 1) (omega arith), eq-eqb e n p) (ap (λ (y : Entry). of_state y.state) (ap (λ (xs : List Entry). get_or xs e no_entry) q ∙ get_or_push t.entries x no_entry e (sym p)))
        | inr p ↦ rw (le-ltb e (n + 1) (omega arith), ne_eqb e n p, le-ltb e n h)
      ]
    ]

-- a call that makes no state and grants nothing, on a table whose states stay
pub quiet : (t t' : Table) (a : Act) → makes a ≡ None → grants a ≡ 0 → ((e : ℕ) → state_in t' e ≡ state_in t e) → all t'.entries ≡ all t.entries → Listed t'
    → (h : History) → Stands h t → Stands (a ∷ h) t'
quiet t t' a m g s c l h S = record {
  states = λ e. s e ∙ (S.states e ∙ sym (ap (λ (o : Option (ℕ × State)). remade o e (state_by h e)) m));
  counts = let k = S.counts in omega arith;
  lists = l;
}

-- a call that makes a state
pub moved : (t t' : Table) (a : Act) (i : ℕ) (s : State) (k : ℕ) → makes a ≡ Some (i, s) → grants a ≡ k → ((e : ℕ) → state_in t' e ≡ cond (eqb e i) (Some s) (state_in t e)) → all t'.entries ≡ all t.entries + k → Listed t'
    → (h : History) → Stands h t → Stands (a ∷ h) t'
moved t t' a i s k m g st c l h S = record {
  states = λ e. st e ∙ (ap (λ (o : Option State). cond (eqb e i) (Some s) o) (S.states e) ∙ sym (ap (λ (o : Option (ℕ × State)). remade o e (state_by h e)) m));
  counts = let z = S.counts in omega arith;
  lists = l;
}

-- an entry changed in all but its state
pub state_kept : (t t' : Table) (i : ℕ) (f : Entry → Entry) → i < length t.entries → t'.entries ≡ change i f t.entries → (f (entry_of t i)).state ≡ (entry_of t i).state → (e : ℕ) → state_in t' e ≡ state_in t e
state_kept t t' i f h q z e = state_change t t' i f (entry_of t i).state h q z e ∙ elim (cases_eq e i) [
  | inl p ↦ rw (eq-eqb e i p) (sym (rw (lt-ltb e (length t.entries) (omega arith)) (ap (λ (n : ℕ). of_state (entry_of t n).state) p)))
  | inr p ↦ rw (ne_eqb e i p)
]

-- a step of the writer that keeps states, and is no call of a history
pub still : (t t' : Table) → ((e : ℕ) → state_in t' e ≡ state_in t e) → all t'.entries ≡ all t.entries → Listed t' → (h : History) → Stands h t → Stands h t'
still t t' s c l h S = record { states = λ e. s e ∙ S.states e; counts = S.counts ∙ sym c; lists = l }

-- one entry changed, in all but its state
pub still_entry : (t t' : Table) (i : ℕ) (f : Entry → Entry) → i < length t.entries → t'.entries ≡ change i f t.entries → (f (entry_of t i)).state ≡ (entry_of t i).state → Listed t' → (h : History) → Stands h t → Stands h t'
still_entry t t' i f l q z = still t t' (state_kept t t' i f l q z) (ap all q ∙ all_change t.entries i f (ap one z))

-- the checks of an edit all passed
pub cleared : (t : Table) (k : Bool) (u : ℕ) (more : List Check) → first_fault (edit_checks t k u more) ≡ None → (k ≡ true) × (first_fault more ≡ None)
cleared t k u more e = go t.closed k (unit_of t u).written refl refl refl
  where
    no : {f : EditFault} → ◌≡◌ {A = Option EditFault} (Some f) None → ⊥
    no q = let z : ◌≡◌ {A = ℕ} 0 1 = cc in omega arith

    go : (a b c : Bool) → t.closed ≡ a → k ≡ b → (unit_of t u).written ≡ c → (k ≡ true) × (first_fault more ≡ None)
    go true b c p q s = absurd (no (rw p at e))
    go false false c p q s = absurd (no (rw (p, q) at e))
    go false true true p q s = absurd (no (rw (p, q, s) at e))
    go false true false p q s = (q, rw (p, q, s) at e)

pub known_used : (t : Table) (i : UnitEntryId) → knows t i ≡ true → i.entry < length t.entries
known_used t i e = ltb-true i.entry (length t.entries) (and_parts (ltb i.entry (length t.entries)) _ (and_parts (eqb i.table t.number) _ e).1).0

waits : (t : Table) (e : ℕ) → first_fault ((not (is_waiting (entry_of t e).state), NotWaiting) ∷ []) ≡ None → is_waiting (entry_of t e).state ≡ true
waits t e q = go (is_waiting (entry_of t e).state) refl
  where
    no : {f : EditFault} → ◌≡◌ {A = Option EditFault} (Some f) None → ⊥
    no q = let z : ◌≡◌ {A = ℕ} 0 1 = cc in omega arith

    go : (b : Bool) → is_waiting (entry_of t e).state ≡ b → is_waiting (entry_of t e).state ≡ true
    go true p = p
    go false p = absurd (no (rw p at q))

one_waiting : (s : State) → is_waiting s ≡ true → one s ≡ 1
one_waiting Root e = absurd (true≢false (sym e))
one_waiting Waiting e = refl
one_waiting Placed e = absurd (true≢false (sym e))
one_waiting TakenOut e = absurd (true≢false (sym e))
one_waiting GivenBack e = absurd (true≢false (sym e))

module _ (t : Table) (h : History) (S : Stands h t) where
  -- c is placed at p, in a table that has both, and where c was waiting
  place_states : (c p tag : ℕ) → c < length t.entries → p < length t.entries → (e : ℕ) → state_in (place t c p tag) e ≡ cond (eqb e c) (Some Placed) (state_in t e)
  place_states c p tag hc hp e =
      let t1 = with_entries t (change c (placed tag) t.entries) in
      state_kept t1 (place t c p tag) p (adopt c) (rw (length_change t.entries c (placed tag)) hp) refl refl e ∙ state_change t t1 c (placed tag) Placed hc refl refl e

  place_count : (c p tag : ℕ) → is_waiting (entry_of t c).state ≡ true → all (place t c p tag).entries ≡ all t.entries
  place_count c p tag w =
      let xs = change c (placed tag) t.entries in
      all_change xs p (adopt c) refl ∙ all_change t.entries c (placed tag) (sym (one_waiting (entry_of t c).state w))

  pub unit_law : (encoding : Encoding) (line : Option LineProgram) (x : Table × Result UnitId EditFault) → x ≡ add_unit t encoding line → Listed x.0 → Stands (unit_added x.1 ∷ h) x.0
  unit_law encoding line x q = subst (λ (x : Table × Result UnitId EditFault). Listed x.0 → Stands (unit_added x.1 ∷ h) x.0) (sym q) (go (first_fault ((t.closed, SessionClosed) ∷ ((eqb t.units_left 0 || eqb t.entries_left 0, TableFull) ∷ []))))
    where
      go : (o : Option EditFault) → Listed (unless o as_is t (unit_done t encoding line)).0 → Stands (unit_added (unless o as_is t (unit_done t encoding line)).1 ∷ h) (unless o as_is t (unit_done t encoding line)).0
      go None l = quiet t (unit_done t encoding line).0 (unit_added (unit_done t encoding line).1) refl refl
          (λ e. state_push t (unit_done t encoding line).0 (new_entry (length t.units) Root 17) refl e ∙ elim (cases_eq e (length t.entries))
          [ inl p ↦ rw (eq-eqb e (length t.entries) p) (sym (rw (le-ltb e (length t.entries) (omega arith)))) | inr p ↦ rw (ne_eqb e (length t.entries) p) ])
          (all_push t.entries (new_entry (length t.units) Root 17) ∙ omega arith) l h S
      go (Some f) l = quiet t t (unit_added (Err f)) refl refl (λ e. refl) refl l h S

  pub reserve_law : (u : UnitId) (x : Table × Result (UnitEntryId × Reservation) EditFault) → x ≡ reserve t u → Listed x.0 → Stands (reserved u x.1 ∷ h) x.0
  reserve_law u x q = subst (λ (x : Table × Result (UnitEntryId × Reservation) EditFault). Listed x.0 → Stands (reserved u x.1 ∷ h) x.0) (sym q) (go (first_fault (edit_checks t (knows_unit t u) u.unit ((eqb t.entries_left 0, TableFull) ∷ []))))
    where
      go : (o : Option EditFault) → Listed (unless o as_is t (reserve_done t u)).0 → Stands (reserved u (unless o as_is t (reserve_done t u)).1 ∷ h) (unless o as_is t (reserve_done t u)).0
      go None l = moved t (reserve_done t u).0 (reserved u (reserve_done t u).1) (length t.entries) Waiting 1 refl refl (state_push t (reserve_done t u).0 (new_entry u.unit Waiting 0) refl) (all_push t.entries (new_entry u.unit Waiting 0)) l h S
      go (Some f) l = quiet t t (reserved u (Err f)) refl refl (λ e. refl) refl l h S

  pub reserved_law : (r : Reservation) (p : UnitEntryId) (tag : ℕ) (x : Table × Result Unit Refusal) → x ≡ add_reserved t r p tag → Listed x.0 → Stands (reserved_added r p x.1 ∷ h) x.0
  reserved_law r p tag x q = subst (λ (x : Table × Result Unit Refusal). Listed x.0 → Stands (reserved_added r p x.1 ∷ h) x.0) (sym q)
      (go (first_fault (edit_checks t (knows_both t (entry_id r) p) r.id.unit ((not (is_waiting (entry_of t r.id.entry).state), NotWaiting) ∷ []))) refl)
    where
      go : (o : Option EditFault) → first_fault (edit_checks t (knows_both t (entry_id r) p) r.id.unit ((not (is_waiting (entry_of t r.id.entry).state), NotWaiting) ∷ [])) ≡ o
          → Listed (unless o (λ f. record { fault = f; reservation = r }) t (place_done t r p tag)).0 → Stands (reserved_added r p (unless o (λ f. record { fault = f; reservation = r }) t (place_done t r p tag)).1 ∷ h) (unless o (λ f. record { fault = f; reservation = r }) t (place_done t r p tag)).0
      go None e l =
          let c = cleared t (knows_both t (entry_id r) p) r.id.unit ((not (is_waiting (entry_of t r.id.entry).state), NotWaiting) ∷ []) e in
          let b = and_parts (knows t (entry_id r)) _ c.0 in
          let hp = known_used t p (and_parts (knows t p) _ b.1).0 in
          let w = waits t r.id.entry c.1 in
          moved t (place_done t r p tag).0 (reserved_added r p (Ok tt)) r.id.entry Placed 0 refl refl (place_states r.id.entry p.entry tag (known_used t (entry_id r) b.0) hp) (place_count r.id.entry p.entry tag w ∙ omega arith) l h S
      go (Some f) e l = quiet t t (reserved_added r p (Err (record { fault = f; reservation = r }))) refl refl (λ e. refl) refl l h S

  pub back_law : (r : Reservation) (x : Table × Bool) → x ≡ give_back t r → Listed x.0 → Stands (gave_back r x.1 ∷ h) x.0
  back_law r x q = subst (λ (x : Table × Bool). Listed x.0 → Stands (gave_back r x.1 ∷ h) x.0) (sym q) (go (knows t (entry_id r) && is_waiting (entry_of t r.id.entry).state) refl)
    where
      go : (b : Bool) → (knows t (entry_id r) && is_waiting (entry_of t r.id.entry).state) ≡ b → Listed (back_as t r b).0 → Stands (gave_back r (back_as t r b).1 ∷ h) (back_as t r b).0
      go true e l =
          let b = and_parts (knows t (entry_id r)) _ e in
          moved t (back_done t r) (gave_back r true) r.id.entry GivenBack 0 refl refl (state_change t (back_done t r) r.id.entry (left GivenBack) GivenBack (known_used t (entry_id r) b.0) refl refl)
          (all_change t.entries r.id.entry (left GivenBack) (sym (one_waiting (entry_of t r.id.entry).state b.1)) ∙ omega arith) l h S
      go false e l = quiet t t (gave_back r false) refl refl (λ e. refl) refl l h S

  -- who stands in a list is placed
  times_has : (c : ℕ) (xs : List ℕ) → has c xs ≡ true → times c xs ≡ 0 → ⊥
  times_has c [] e z = true≢false (sym e)
  times_has c (x ∷ xs) e z = go (cases_Bool (eqb c x)) (times_has c xs)
    where
      go : (eqb c x ≡ true) ⊎ (eqb c x ≡ false) → (has c xs ≡ true → times c xs ≡ 0 → ⊥) → ⊥
      go (inl p) ih = let k : 1 + times c xs ≡ 0 = rw p at z in omega arith
      go (inr p) ih = ih (rw p at e) (let k : 0 + times c xs ≡ 0 = rw p at z in omega arith)

  child_one : (p c : ℕ) → p < length t.entries → c < length t.entries → has c (entry_of t p).children ≡ true → one (entry_of t c).state ≡ 1
  child_one p c hp hc e = go (entry_of t c).state refl
    where
      no : (s : State) → (entry_of t c).state ≡ s → (of_state s ≡ Some Placed → ⊥) → ⊥
      no s q n = times_has c (entry_of t p).children e (S.lists.others c (λ z. n (sym (ap of_state q) ∙ (sym (cond-true (ltb c (length t.entries)) (of_state (entry_of t c).state) None (lt-ltb c (length t.entries) hc)) ∙ z))) p hp)

      go : (s : State) → (entry_of t c).state ≡ s → one (entry_of t c).state ≡ 1
      go Root q = absurd (no Root q (λ z. let y : ◌≡◌ {A = ℕ} 0 1 = cc in omega arith))
      go Waiting q = ap one q
      go Placed q = ap one q
      go TakenOut q = ap one q
      go GivenBack q = ap one q

  pub delete_law : (p c : UnitEntryId) (x : Table × Result Bool EditFault) → x ≡ delete_child t p c → Listed x.0 → Stands (child_deleted p c x.1 ∷ h) x.0
  delete_law p c x q = subst (λ (x : Table × Result Bool EditFault). Listed x.0 → Stands (child_deleted p c x.1 ∷ h) x.0) (sym q) (go (first_fault (edit_checks t (knows_both t p c) p.unit [])) refl (has c.entry (entry_of t p.entry).children) refl)
    where
      go : (o : Option EditFault) → first_fault (edit_checks t (knows_both t p c) p.unit []) ≡ o → (b : Bool) → has c.entry (entry_of t p.entry).children ≡ b
          → Listed (unless o as_is t (delete_done t p c b)).0 → Stands (child_deleted p c (unless o as_is t (delete_done t p c b)).1 ∷ h) (unless o as_is t (delete_done t p c b)).0
      go None e true z l =
          let k = and_parts (knows t p) _ (cleared t (knows_both t p c) p.unit [] e).0 in
          let hp = known_used t p k.0 in
          let hc = known_used t c (and_parts (knows t c) _ k.1).0 in
          let t1 = with_entries t (change p.entry (abandon c.entry) t.entries) in
          let t2 = take_out t p.entry c.entry in
          let hc1 : c.entry < length t1.entries = rw (length_change t.entries p.entry (abandon c.entry)) hc in
          let st1 : (e : ℕ) → state_in t1 e ≡ state_in t e = state_kept t t1 p.entry (abandon c.entry) hp refl refl in
          let same : (entry_of t1 c.entry).state ≡ (entry_of t c.entry).state = ap (λ (x : Entry). x.state) (change_at t.entries p.entry (abandon c.entry) hp c.entry) ∙ both (eqb c.entry p.entry) (entry_of t c.entry) in
          moved t t2 (child_deleted p c (Ok true)) c.entry TakenOut 0 refl refl
          (λ e. state_change t1 t2 c.entry (left TakenOut) TakenOut hc1 refl refl e ∙ ap (λ (o : Option State). cond (eqb e c.entry) (Some TakenOut) o) (st1 e))
          (all_change t1.entries c.entry (left TakenOut) (sym (ap one same ∙ child_one p.entry c.entry hp hc z)) ∙ (all_change t.entries p.entry (abandon c.entry) refl ∙ omega arith)) l h S
        where
          both : (b : Bool) (x : Entry) → (cond b (abandon c.entry x) x).state ≡ x.state
          both true x = refl
          both false x = refl
      go None e false z l = quiet t t (child_deleted p c (Ok false)) refl refl (λ e. refl) refl l h S
      go (Some f) e b z l = quiet t t (child_deleted p c (Err f)) refl refl (λ e. refl) refl l h S

  pub edit_law : (k : Bool) (u : ℕ) (more : List Check) (i : UnitEntryId) (f : Entry → Entry) (d : Table) → (k ≡ true → knows t i ≡ true) → d.entries ≡ change i.entry f t.entries → (f (entry_of t i.entry)).state ≡ (entry_of t i.entry).state
      → (x : Table × Result Unit EditFault) → x ≡ unless (first_fault (edit_checks t k u more)) as_is t (d, Ok tt) → Listed x.0 → Stands (edited x.1 ∷ h) x.0
  edit_law k u more i f d kn q z x e = subst (λ (x : Table × Result Unit EditFault). Listed x.0 → Stands (edited x.1 ∷ h) x.0) (sym e) (go (first_fault (edit_checks t k u more)) refl)
    where
      go : (o : Option EditFault) → first_fault (edit_checks t k u more) ≡ o → Listed (edit_done t d o).0 → Stands (edited (edit_done t d o).1 ∷ h) (edit_done t d o).0
      go None p l = quiet t d (edited (Ok tt)) refl refl (state_kept t d i.entry f (known_used t i (kn (cleared t k u more p).0)) q z) (ap all q ∙ all_change t.entries i.entry f (ap one z)) l h S
      go (Some g) p l = quiet t t (edited (Err g)) refl refl (λ e. refl) refl l h S

  pub add_law : (p : UnitEntryId) (tag : ℕ) (x : Table × Result UnitEntryId EditFault) → x ≡ add t p tag → Listed x.0 → Stands (entry_added p x.1 ∷ h) x.0
  add_law p tag x q = subst (λ (x : Table × Result UnitEntryId EditFault). Listed x.0 → Stands (entry_added p x.1 ∷ h) x.0) (sym q) (go (first_fault (edit_checks t (knows t p) p.unit ((eqb t.entries_left 0, TableFull) ∷ []))) refl)
    where
      go : (o : Option EditFault) → first_fault (edit_checks t (knows t p) p.unit ((eqb t.entries_left 0, TableFull) ∷ [])) ≡ o → Listed (unless o as_is t (add_done t p tag)).0 → Stands (entry_added p (unless o as_is t (add_done t p tag)).1 ∷ h) (unless o as_is t (add_done t p tag)).0
      go None e l =
          let n = length t.entries in
          let t1 = grant t p.unit in
          let x1 = new_entry p.unit Waiting 0 in
          let l1 : length t1.entries ≡ n + 1 = length_push t.entries x1 in
          let hp = known_used t p (cleared t (knows t p) p.unit ((eqb t.entries_left 0, TableFull) ∷ []) e).0 in
          let t2 = with_entries t1 (change n (placed tag) t1.entries) in
          let hn : n < length t1.entries = omega arith in
          let new : entry_of t1 n ≡ x1 = get_or_push t.entries x1 no_entry n refl in
          moved t (add_done t p tag).0 (entry_added p (add_done t p tag).1) n Placed 1 refl refl
          (λ e. state_kept t2 (add_done t p tag).0 p.entry (adopt n) (rw (length_change t1.entries n (placed tag)) (omega arith)) refl refl e
          ∙ (state_change t1 t2 n (placed tag) Placed hn refl refl e ∙ (ap (λ (o : Option State). cond (eqb e n) (Some Placed) o) (state_push t t1 x1 refl e) ∙ twice (eqb e n) (state_in t e))))
          (all_change t2.entries p.entry (adopt n) refl ∙ (all_change t1.entries n (placed tag) (sym (ap (λ (y : Entry). one y.state) new)) ∙ all_push t.entries x1)) l h S
        where
          twice : (b : Bool) (o : Option State) → cond b (Some Placed) (cond b (Some Waiting) o) ≡ cond b (Some Placed) o
          twice true o = refl
          twice false o = refl
      go (Some f) e l = quiet t t (entry_added p (Err f)) refl refl (λ e. refl) refl l h S

-- a new table has no entry
pub new_law : (t : Table) (number us es ats : ℕ) (pool : List ℕ) → t ≡ new_table number us es ats pool → Stands [] t
new_law t number us es ats pool q = subst (Stands []) (sym q) (record {
  states = λ e. cond-false (ltb e 0) _ None (le-ltb e 0 (omega arith));
  counts = refl;
  lists = record { placed = λ e z. absurd (let k : None ≡ Some Placed = sym (cond-false (ltb e 0) _ None (le-ltb e 0 (omega arith))) ∙ z in let y : ◌≡◌ {A = ℕ} 0 1 = cc in omega arith); others = λ e n x l. absurd (omega arith) };
})
