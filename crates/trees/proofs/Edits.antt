-- What the checks of an edit tell, over the records.
use Rattle.std.proofs.Common.{◌≡◌, ℕ, ◌+◌, ◌-◌, ◌<◌, ◌≤◌, Bool, true, false, not, ◌&&◌, eqb, ltb, List, [], ◌∷◌, length, get_or, Some, None, Ok, Err, Option, Result, sym, refl, ap, ◌∙◌, arith}
use Rattle.std.proofs.lemmas.Bool.{and_parts, ltb-true, eqb-true, lt-ltb, le-ltb, eq-eqb, ne_eqb, not-true, true≢false, and_left}
use Rattle.std.proofs.lemmas.List.{get_or-take, length-take-le, get_or_push, get_or_append_left}
use Rattle.trees.specs.declared.records.UnitEntryId.{UnitEntryId}
use Rattle.trees.specs.declared.records.UnitId.{UnitId}
use Rattle.trees.specs.declared.records.Records.{Records}
use Rattle.trees.specs.declared.records.State.{State}
use Rattle.trees.specs.declared.records.State.TheVariants.{Root, Waiting, Placed, TakenOut, GivenBack}
use Rattle.trees.specs.declared.records.EditFault.{EditFault}
use Rattle.trees.specs.declared.records.EditFault.TheVariants.{UnitWritten, TableFull}
use Rattle.trees.specs.Model.{Entry, Table, Check, entry_of, unit_of, no_entry, no_unit, is_waiting, is_given_back, knows, knows_unit, knows_both, first_fault, edit_checks, passes, unless, grant, new_entry}
use Rattle.trees.specs.View.{view, entry_at}
use Rattle.trees.proofs.Views.{un, st, length_entries, entries_at}

pub waiting_is : (s : State) → is_waiting s ≡ true → s ≡ Waiting
waiting_is Root e = absurd (true≢false (sym e))
waiting_is Waiting e = refl
waiting_is Placed e = absurd (true≢false (sym e))
waiting_is TakenOut e = absurd (true≢false (sym e))
waiting_is GivenBack e = absurd (true≢false (sym e))

-- an entry and a unit of the view
pub view_count : (r : Records) → length (view r).entries ≡ r.entry_count
view_count r = length_entries r.entries.now r.entry_count r.attributes.now r.free

pub view_entry : (r : Records) (e : ℕ) → e < r.entry_count → entry_of (view r) e ≡ entry_at r.entries.now r.entry_count r.attributes.now r.free e
view_entry r e h = entries_at r.entries.now r.entry_count r.attributes.now r.free e h

pub view_state : (r : Records) (e : ℕ) → e < r.entry_count → (entry_of (view r) e).state ≡ st r.entries.now e
view_state r e h = ap (λ (x : Entry). x.state) (view_entry r e h)

pub view_units : (r : Records) → length (view r).units ≡ r.unit_count
view_units r = length-take-le r.unit_count r.units.now r.sound.units_fit.0

pub view_unit : (r : Records) (u : ℕ) → u < r.unit_count → unit_of (view r) u ≡ get_or r.units.now u no_unit
view_unit r u h = get_or-take r.unit_count r.units.now u no_unit h

-- the table knows an entry: it is in use, of that unit, and not given back
pub record Known (r : Records) (id : UnitEntryId) : Type 0 where
  pub used : id.entry < r.entry_count
  pub unit : un r.entries.now id.entry ≡ id.unit
  pub there : is_given_back (st r.entries.now id.entry) ≡ false
  pub housed : id.unit < r.unit_count

pub known : (r : Records) → (id : UnitEntryId) → knows (view r) id ≡ true → Known r id
known r id e =
    let p = and_parts (eqb id.table r.number) _ e in
    let q = and_parts (ltb id.entry (length (view r).entries)) _ p.1 in
    let s = and_parts (eqb (entry_of (view r) id.entry).unit id.unit) _ q.1 in
    let h : id.entry < r.entry_count = (let z = view_count r in let y = ltb-true id.entry (length (view r).entries) q.0 in omega arith) in
    let v = view_entry r id.entry h in
    let u : un r.entries.now id.entry ≡ id.unit = sym (ap (λ (x : Entry). x.unit) v) ∙ eqb-true _ _ s.0 in
    record { used = h; unit = u; there = sym (ap (λ (x : Entry). is_given_back x.state) v) ∙ not-true _ s.1; housed = (let z = r.sound.housed id.entry h in omega arith) }

pub known_both : (r : Records) → (i j : UnitEntryId) → knows_both (view r) i j ≡ true → Known r i × Known r j × (i.unit ≡ j.unit)
known_both r i j e =
    let p = and_parts (knows (view r) i) _ e in
    let q = and_parts (knows (view r) j) _ p.1 in
    (known r i p.0, known r j q.0, eqb-true i.unit j.unit q.1)

pub known_unit : (r : Records) → (id : UnitId) → knows_unit (view r) id ≡ true → id.unit < r.unit_count
known_unit r id e = let p = and_parts (eqb id.table r.number) _ e in let z = view_units r in let y = ltb-true id.unit (length (view r).units) p.1 in omega arith

-- what `knows` reads off the records
pub knows_past : (r : Records) (id : UnitEntryId) → r.entry_count ≤ id.entry → false ≡ knows (view r) id
knows_past r id h = sym (go (eqb id.table r.number))
  where
    go : (b : Bool) → (b && (ltb id.entry (length (view r).entries) && (eqb (entry_of (view r) id.entry).unit id.unit && not (is_given_back (entry_of (view r) id.entry).state)))) ≡ false
    go true = and_left (ltb id.entry (length (view r).entries)) _ (le-ltb id.entry (length (view r).entries) (let z = view_count r in omega arith))
    go false = refl

pub knows_is : (r : Records) (id : UnitEntryId) → id.table ≡ r.number → id.entry < r.entry_count
    → (eqb (un r.entries.now id.entry) id.unit && not (is_given_back (st r.entries.now id.entry))) ≡ knows (view r) id
knows_is r id e h =
    let v = view_entry r id.entry h in
    sym (rw (eq-eqb id.table r.number e, lt-ltb id.entry (length (view r).entries) (let z = view_count r in omega arith))
    (ap (λ (x : Entry). eqb x.unit id.unit && not (is_given_back x.state)) v))

-- an edit's first checks, passed
abbrev pub Passed : Table → Bool → ℕ → Type 0
Passed t k u = (t.closed ≡ false) × (k ≡ true) × ((unit_of t u).written ≡ false)

pub passed : (t : Table) (k : Bool) (u : ℕ) → Ok tt ≡ passes (first_fault (edit_checks t k u [])) → Passed t k u
passed t k u e = go t.closed k (unit_of t u).written refl refl refl
  where
    no : {f : EditFault} → ◌≡◌ {A = Result Unit EditFault} (Ok tt) (Err f) → ⊥
    no q = let z : ◌≡◌ {A = ℕ} 0 1 = cc in omega arith

    go : (a b c : Bool) → t.closed ≡ a → k ≡ b → (unit_of t u).written ≡ c → Passed t k u
    go true b c p q s = absurd (no (rw p at e))
    go false false c p q s = absurd (no (rw (p, q) at e))
    go false true true p q s = absurd (no (rw (p, q, s) at e))
    go false true false p q s = (p, q, s)

pub after : (t : Table) (k : Bool) (u : ℕ) → Passed t k u → (more : List Check) → first_fault (edit_checks t k u more) ≡ first_fault more
after t k u p more = rw (p.0, p.1, p.2)

pub is_written : (t : Table) (k : Bool) (u : ℕ) → t.closed ≡ false → k ≡ true → (unit_of t u).written ≡ true → Err UnitWritten ≡ passes (first_fault (edit_checks t k u []))
is_written t k u p q s = rw (p, q, s)

pub is_passed : (t : Table) (k : Bool) (u : ℕ) → t.closed ≡ false → k ≡ true → (unit_of t u).written ≡ false → Ok tt ≡ passes (first_fault (edit_checks t k u []))
is_passed t k u p q s = rw (p, q, s)

-- a call whose checks all pass, and one that a later check declines
pub done : {X E : Type 0} (t : Table) (k : Bool) (u : ℕ) (more : List Check) (err : EditFault → E) (d : Table × Result X E) → Passed t k u → first_fault more ≡ None → d ≡ unless (first_fault (edit_checks t k u more)) err t d
done t k u more err d p e = sym (ap (λ (o : Option EditFault). unless o err t d) (after t k u p more ∙ e))

pub fault : {X E : Type 0} (t : Table) (k : Bool) (u : ℕ) (more : List Check) (err : EditFault → E) (d : Table × Result X E) (f : EditFault) → Passed t k u → first_fault more ≡ Some f → (t, Err (err f)) ≡ unless (first_fault (edit_checks t k u more)) err t d
fault t k u more err d f p e = sym (ap (λ (o : Option EditFault). unless o err t d) (after t k u p more ∙ e))

-- passed with what the test of the ids was
pub passed_as : (t : Table) (k k' : Bool) (u : ℕ) → k ≡ k' → Passed t k u → Passed t k' u
passed_as t k k' u e p = (p.0, sym e ∙ p.1, p.2)

-- room for an entry
pub room : (r : Records) → r.entry_count < length r.entries.now → first_fault ((eqb (view r).entries_left 0, TableFull) ∷ []) ≡ None
room r h = rw (ne_eqb (length r.entries.now - r.entry_count) 0 (λ q. omega arith))

-- after a grant: the new entry waits in its unit, and the others are as they were
pub granted : (r r' : Records) (u : ℕ) → view r' ≡ grant (view r) u → r'.entry_count ≡ r.entry_count + 1
    → (st r'.entries.now r.entry_count ≡ Waiting) × (un r'.entries.now r.entry_count ≡ u) × ((e : ℕ) → e < r.entry_count → un r'.entries.now e ≡ un r.entries.now e)
granted r r' u v c =
    let n = r.entry_count in
    let h : n < r'.entry_count = omega arith in
    let e : entry_of (view r') n ≡ new_entry u Waiting 0 = ap (λ (t : Table). entry_of t n) v ∙ get_or_push (view r).entries (new_entry u Waiting 0) no_entry n (view_count r) in (
      sym (view_state r' n h) ∙ ap (λ (x : Entry). x.state) e,
      sym (ap (λ (x : Entry). x.unit) (view_entry r' n h)) ∙ ap (λ (x : Entry). x.unit) e,
      λ y l. sym (ap (λ (x : Entry). x.unit) (view_entry r' y (omega arith))) ∙ (ap (λ (t : Table). (entry_of t y).unit) v
          ∙ (ap (λ (x : Entry). x.unit) (get_or_append_left (view r).entries (new_entry u Waiting 0 ∷ []) no_entry y (let z = view_count r in omega arith)) ∙ ap (λ (x : Entry). x.unit) (view_entry r y l))),
    )
