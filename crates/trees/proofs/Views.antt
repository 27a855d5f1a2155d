-- Records written, and what the table's view and invariant become.
use Rattle.std.proofs.Common.{◌≡◌, ℕ, ◌<◌, Bool, true, false, cond, eqb, ltb, ◌≢◌, List, length, get_or, set, sym, refl, ap, ◌∙◌, inl, inr, arith, length-set}
use mathlib.Core.Path.{fun_ext}
use Rattle.std.proofs.lemmas.List.{get_or-set_same, get_or-set_other}
use Rattle.std.proofs.lemmas.List.FromFn.{length-map-range_with_len, get_or-map-range_with_len, fill_by_all}
use Rattle.std.proofs.lemmas.Bool.{cases_eq, eq-eqb, ne_eqb, cond-true, cond-false}
use Rattle.trees.specs.declared.records.Attribute.{Attribute}
use Rattle.trees.specs.declared.records.UnitRecord.{UnitRecord}
use Rattle.trees.specs.declared.records.EntryRecord.{EntryRecord}
use Rattle.trees.specs.declared.records.AttributeRecord.{AttributeRecord}
use Rattle.trees.specs.declared.records.Records.{Records}
use Rattle.trees.specs.declared.records.State.{State}
use Rattle.trees.specs.declared.records.Note.{Note}
use Rattle.trees.specs.Lists.{nil, Links, kids}
use Rattle.trees.specs.Model.{Entry, no_entry, change}
use Rattle.trees.specs.View.{blank, no_attribute, kin, holdings, attributes_at, entry_from, entry_at, entries_in, Sound}
use Rattle.trees.proofs.Families.{Good}

-- f with v at i
abbrev pub upd : {X : Type 0} → (ℕ → X) → ℕ → X → ℕ → X
upd f i v y = cond (eqb y i) v (f y)

pub upd_at : {X : Type 0} (f : ℕ → X) (i : ℕ) (v : X) → upd f i v i ≡ v
upd_at f i v = cond-true _ _ _ (eq-eqb i i refl)

pub upd_off : {X : Type 0} (f : ℕ → X) (i : ℕ) (v : X) (y : ℕ) → y ≢ i → upd f i v y ≡ f y
upd_off f i v y ne = cond-false _ _ _ (ne_eqb y i ne)

pub upd_same : {X : Type 0} (f : ℕ → X) (i : ℕ) → upd f i (f i) ≡ f
upd_same f i = fun_ext (λ y. elim (cases_eq y i)
    [ inl e ↦ cond-true _ _ _ (eq-eqb y i e) ∙ ap f (sym e) | inr ne ↦ cond-false _ _ _ (ne_eqb y i ne) ])

-- a field of the records, as a function of the number
abbrev pub along : {R X : Type 0} → (R → X) → List R → R → ℕ → X
along f rs d y = f (get_or rs y d)

abbrev pub nx : List EntryRecord → ℕ → ℕ
nx es y = (get_or es y blank).next

abbrev pub fs : List EntryRecord → ℕ → ℕ
fs es y = (get_or es y blank).first

abbrev pub ls : List EntryRecord → ℕ → ℕ
ls es y = (get_or es y blank).last

abbrev pub pa : List EntryRecord → ℕ → ℕ
pa es y = (get_or es y blank).parent

abbrev pub un : List EntryRecord → ℕ → ℕ
un es y = (get_or es y blank).unit

abbrev pub at : List EntryRecord → ℕ → ℕ
at es y = (get_or es y blank).attribute

abbrev pub st : List EntryRecord → ℕ → State
st es y = (get_or es y blank).state

abbrev pub tg : List EntryRecord → ℕ → ℕ
tg es y = (get_or es y blank).tag

abbrev pub nt : List EntryRecord → ℕ → Note
nt es y = (get_or es y blank).note

abbrev pub sb : List EntryRecord → ℕ → Bool
sb es y = (get_or es y blank).sibling

-- one record is written
pub at_set : {R : Type 0} (rs : List R) (i : ℕ) (r d : R) → i < length rs → (y : ℕ) → get_or (set rs i r) y d ≡ upd (λ y. get_or rs y d) i r y
at_set rs i r d h y = elim (cases_eq y i) [
  | inl e ↦ rw (cond-true (eqb y i) r (get_or rs y d) (eq-eqb y i e)) (rw e (get_or-set_same rs i r d h))
  | inr ne ↦ rw (cond-false (eqb y i) r (get_or rs y d) (ne_eqb y i ne)) (get_or-set_other rs i y r d ne)
]

out : {R X : Type 0} (f : R → X) (t : Bool) (r s : R) → f (cond t r s) ≡ cond t (f r) (f s)
out f true r s = refl
out f false r s = refl

pub field : {R X : Type 0} (f : R → X) (rs : List R) (i : ℕ) (r d : R) → i < length rs → along f (set rs i r) d ≡ upd (along f rs d) i (f r)
field f rs i r d h = fun_ext (λ y. ap f (at_set rs i r d h y) ∙ out f (eqb y i) r (get_or rs y d))

-- a field that the write keeps
pub kept : {R X : Type 0} (f : R → X) (rs : List R) (i : ℕ) (r d : R) → i < length rs → f r ≡ f (get_or rs i d) → along f (set rs i r) d ≡ along f rs d
kept f rs i r d h e = field f rs i r d h ∙ (ap (upd (along f rs d) i) e ∙ upd_same (along f rs d) i)

-- the links from their functions
pub kin_path : (es es' : List EntryRecord) (n : ℕ) → nx es' ≡ nx es → fs es' ≡ fs es
    → pa es' ≡ pa es → kin es' n ≡ kin es n
kin_path es es' n p q r = λ i. record { next = p i; first = λ e. cond (ltb e n) (q i e) nil; owner = r i }

pub held_path : (es es' : List EntryRecord) (n : ℕ) (ats : List AttributeRecord) (free : ℕ) → at es' ≡ at es
    → holdings es' n ats free ≡ holdings es n ats free
held_path es es' n ats free p = λ i. record { next = λ y. (get_or ats y no_attribute).next; first = λ e. cond (ltb e n) (p i e) (cond (eqb e nil) free nil); owner = λ y. (get_or ats y no_attribute).owner }

-- the entries of a table, one by one
pub length_entries : (es : List EntryRecord) (n : ℕ) (ats : List AttributeRecord) (free : ℕ) → length (entries_in es n ats free) ≡ n
unfolding entries_in
length_entries es n ats free = length-map-range_with_len (entry_at es n ats free) 0 n

pub entries_at : (es : List EntryRecord) (n : ℕ) (ats : List AttributeRecord) (free y : ℕ) → y < n → get_or (entries_in es n ats free) y no_entry ≡ entry_at es n ats free y
unfolding entries_in
entries_at es n ats free y h = get_or-map-range_with_len (entry_at es n ats free) 0 n y y no_entry h (omega arith)

pub entries_are : (es : List EntryRecord) (n : ℕ) (ats : List AttributeRecord) (free : ℕ) (xs : List Entry) → length xs ≡ n
    → ((y : ℕ) → y < n → entry_at es n ats free y ≡ get_or xs y no_entry) → entries_in es n ats free ≡ xs
unfolding entries_in
entries_are es n ats free xs e f = sym (fill_by_all (entry_at es n ats free) xs n no_entry e (λ y h. sym (f y h)))

-- one entry of a list changed
pub change_at : (xs : List Entry) (i : ℕ) (f : Entry → Entry) → i < length xs → (y : ℕ) → get_or (change i f xs) y no_entry ≡ cond (eqb y i) (f (get_or xs y no_entry)) (get_or xs y no_entry)
change_at xs i f h y = at_set xs i (f (get_or xs i no_entry)) no_entry h y ∙ elim (cases_eq y i) [
  | inl e ↦ ap (λ (v : ℕ). cond (eqb y i) (f (get_or xs v no_entry)) (get_or xs y no_entry)) (sym e)
  | inr ne ↦ cond-false _ _ _ (ne_eqb y i ne) ∙ sym (cond-false (eqb y i) (f (get_or xs y no_entry)) (get_or xs y no_entry) (ne_eqb y i ne))
]

pub length_change : (xs : List Entry) (i : ℕ) (f : Entry → Entry) → length (change i f xs) ≡ length xs
length_change xs i f = length-set xs i (f (get_or xs i no_entry))

from_cond : (b : Bool) (r s : EntryRecord) (A : List Attribute) (C : List ℕ) → entry_from (cond b r s) A C ≡ cond b (entry_from r A C) (entry_from s A C)
from_cond true r s A C = refl
from_cond false r s A C = refl

module _ (es : List EntryRecord) (n : ℕ) (ats : List AttributeRecord) (free i : ℕ) (r : EntryRecord) (hi : i < length es) where
  -- a write that keeps all links
  pub kin_kept : r.next ≡ (get_or es i blank).next → r.first ≡ (get_or es i blank).first → r.parent ≡ (get_or es i blank).parent → kin (set es i r) n ≡ kin es n
  kin_kept p q s = kin_path es (set es i r) n (kept (λ (x : EntryRecord). x.next) es i r blank hi p) (kept (λ (x : EntryRecord). x.first) es i r blank hi q) (kept (λ (x : EntryRecord). x.parent) es i r blank hi s)

  pub held_kept : r.attribute ≡ (get_or es i blank).attribute → holdings (set es i r) n ats free ≡ holdings es n ats free
  held_kept p = held_path es (set es i r) n ats free (kept (λ (x : EntryRecord). x.attribute) es i r blank hi p)

  -- and so changes one entry by f
  pub one_changed : (f : Entry → Entry) → i < n → kin (set es i r) n ≡ kin es n → holdings (set es i r) n ats free ≡ holdings es n ats free
      → ((A : List Attribute) (C : List ℕ) → entry_from r A C ≡ f (entry_from (get_or es i blank) A C))
      → entries_in (set es i r) n ats free ≡ change i f (entries_in es n ats free)
  one_changed f h K H e = entries_are (set es i r) n ats free _ (length_change (entries_in es n ats free) i f ∙ length_entries es n ats free) (λ y k.
      let A = attributes_at (holdings es n ats free) ats y in
      let C = kids (kin es n) (length es) y in
      let hl : i < length (entries_in es n ats free) = rw (length_entries es n ats free) h in
      ap (λ (L : Links). entry_from (get_or (set es i r) y blank) (attributes_at L ats y) (kids (kin (set es i r) n) (length (set es i r)) y)) H
      ∙ (ap (λ (L : Links). entry_from (get_or (set es i r) y blank) A (kids L (length (set es i r)) y)) K
      ∙ (ap (λ (l : ℕ). entry_from (get_or (set es i r) y blank) A (kids (kin es n) l y)) (length-set es i r)
      ∙ (ap (λ (x : EntryRecord). entry_from x A C) (at_set es i r blank hi y)
      ∙ (from_cond (eqb y i) r (get_or es y blank) A C
      ∙ (elim (cases_eq y i) [
        | inl q ↦ ap (λ (x : Entry). cond (eqb y i) x (entry_from (get_or es y blank) A C)) (e A C ∙ ap (λ (v : ℕ). f (entry_from (get_or es v blank) A C)) (sym q))
        | inr ne ↦ cond-false _ _ _ (ne_eqb y i ne) ∙ sym (cond-false (eqb y i) (f (entry_at es n ats free y)) (entry_at es n ats free y) (ne_eqb y i ne))
      ]
      ∙ (ap (λ (x : Entry). cond (eqb y i) (f x) x) (sym (entries_at es n ats free y k))
      ∙ sym (change_at (entries_in es n ats free) i f hl y))))))))

-- the family of children, and that of attributes
pub kin_good : {us : List UnitRecord} {m : ℕ} {es : List EntryRecord} {n : ℕ} {ats : List AttributeRecord} {k free size : ℕ} → Sound us m es n ats k free size → Good (kin es n) (length es) n
kin_good S = record { ends = S.kin_ends; owned = S.kin_owned }

pub held_good : {us : List UnitRecord} {m : ℕ} {es : List EntryRecord} {n : ℕ} {ats : List AttributeRecord} {k free size : ℕ} → Sound us m es n ats k free size → Good (holdings es n ats free) (length ats) k
held_good S = record { ends = S.held_ends; owned = S.held_owned }

-- the same, of a struct
pub kin_of : (r : Records) → Good (kin r.entries.now r.entry_count) (length r.entries.now) r.entry_count
kin_of r = record { ends = r.sound.kin_ends; owned = r.sound.kin_owned }

pub held_of : (r : Records) → Good (holdings r.entries.now r.entry_count r.attributes.now r.free) (length r.attributes.now) r.attribute_count
held_of r = record { ends = r.sound.held_ends; owned = r.sound.held_owned }
