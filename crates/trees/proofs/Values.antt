-- The calls on attributes: what a search tells of the model, and which checks pass.
use Rattle.std.proofs.Common.{◌≡◌, ℕ, ◌<◌, true, false, not, ◌&&◌, eqb, List, [], ◌∷◌, map, length, set, Some, None, ap, ◌∙◌}
use Rattle.std.proofs.lemmas.List.{set-get_or}
use Rattle.trees.specs.declared.records.Attribute.{Attribute}
use Rattle.trees.specs.declared.records.AttributeValue.{AttributeValue}
use Rattle.trees.specs.declared.records.Records.{Records}
use Rattle.trees.specs.declared.attributes.Place.{Place}
use Rattle.trees.specs.declared.records.EditFault.TheVariants.{SiblingName, SpanOutOfBounds, TableFull}
use Rattle.trees.specs.Model.{Entry, Table, Check, entry_of, no_entry, amended, named, fits, first_fault}
use Rattle.trees.specs.View.{view}
use Rattle.trees.specs.Attributes.{attribute_in, records_of, FoundAt, NotFound}
use Rattle.trees.proofs.Edits.{view_entry}
use Rattle.trees.proofs.Holdings.{named_split}

-- the attributes of an entry, from the records
pub view_attributes : (r : Records) (e : ℕ) → e < r.entry_count → (entry_of (view r) e).attributes ≡ map (attribute_in r.attributes.now) (records_of r e)
view_attributes r e h = ap (λ (x : Entry). x.attributes) (view_entry r e h)

pub is_named : (r : Records) (e name : ℕ) (place : Place) → e < r.entry_count → FoundAt r e name place → named name (entry_of (view r) e).attributes ≡ true
is_named r e name place h w = ap (named name) (view_attributes r e h ∙ ap (map (attribute_in r.attributes.now)) w.list) ∙ named_split name (attribute_in r.attributes.now) w.behind place.at w.ahead w.same

pub not_named : (r : Records) (e name last : ℕ) → e < r.entry_count → NotFound r e name last → named name (entry_of (view r) e).attributes ≡ false
not_named r e name last h w = ap (named name) (view_attributes r e h) ∙ w.none

pub found_in : (r : Records) (e name : ℕ) (place : Place) → FoundAt r e name place → place.at < r.attribute_count
found_in r e name place w = (r.sound.held_owned (e, place.at, w.order.0)).0

-- two ways to amend that agree on the attributes at hand
pub amend_same : (t : Table) (e : ℕ) (g h : List Attribute → List Attribute) (s : ℕ) → g (entry_of t e).attributes ≡ h (entry_of t e).attributes → amended t e g s ≡ amended t e h s
amend_same t e g h s q = λ i. record { number = t.number; closed = t.closed; units = t.units; entries = set t.entries e (record { unit = (entry_of t e).unit; state = (entry_of t e).state; tag = (entry_of t e).tag; sibling = (entry_of t e).sibling; note = (entry_of t e).note; attributes = q i; children = (entry_of t e).children }); pool = t.pool; units_left = t.units_left; entries_left = t.entries_left; attributes_left = s }

pub amend_none : (t : Table) (e : ℕ) (g : List Attribute → List Attribute) → g (entry_of t e).attributes ≡ (entry_of t e).attributes → amended t e g t.attributes_left ≡ t
amend_none t e g q = amend_same t e g (λ xs. xs) t.attributes_left q ∙ (λ i. record { number = t.number; closed = t.closed; units = t.units; entries = set-get_or t.entries e no_entry i; pool = t.pool; units_left = t.units_left; entries_left = t.entries_left; attributes_left = t.attributes_left })

-- the checks of `set`, after the first three
abbrev pub set_checks : Table → ℕ → ℕ → AttributeValue → List Check
set_checks t e name value = (eqb name 1, SiblingName) ∷ ((not (fits (length t.pool) value), SpanOutOfBounds) ∷ ((not (named name (entry_of t e).attributes) && eqb t.attributes_left 0, TableFull) ∷ []))

pub set_named : (t : Table) (e name : ℕ) (value : AttributeValue) → eqb name 1 ≡ false → fits (length t.pool) value ≡ true → named name (entry_of t e).attributes ≡ true → first_fault (set_checks t e name value) ≡ None
set_named t e name value a b c = rw (a, b, c)

pub set_room : (t : Table) (e name : ℕ) (value : AttributeValue) → eqb name 1 ≡ false → fits (length t.pool) value ≡ true → named name (entry_of t e).attributes ≡ false → eqb t.attributes_left 0 ≡ false → first_fault (set_checks t e name value) ≡ None
set_room t e name value a b c d = rw (a, b, c, d)

pub set_full : (t : Table) (e name : ℕ) (value : AttributeValue) → eqb name 1 ≡ false → fits (length t.pool) value ≡ true → named name (entry_of t e).attributes ≡ false → eqb t.attributes_left 0 ≡ true → first_fault (set_checks t e name value) ≡ Some TableFull
set_full t e name value a b c d = rw (a, b, c, d)

pub set_sibling : (t : Table) (e name : ℕ) (value : AttributeValue) → eqb name 1 ≡ true → first_fault (set_checks t e name value) ≡ Some SiblingName
set_sibling t e name value a = rw a

pub set_span : (t : Table) (e name : ℕ) (value : AttributeValue) → eqb name 1 ≡ false → fits (length t.pool) value ≡ false → first_fault (set_checks t e name value) ≡ Some SpanOutOfBounds
set_span t e name value a b = rw (a, b)
