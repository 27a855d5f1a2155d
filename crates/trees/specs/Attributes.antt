-- A search for a name among the attributes of an entry, and what the private functions on attributes write.
use Rattle.std.specs.Prelude.{◌≡◌, ℕ, false, List, ◌∷◌, ◌++◌, map, length, Result, Ok, Err, slice_index_or}
use Rattle.trees.specs.declared.records.Attribute.{Attribute}
use Rattle.trees.specs.declared.records.AttributeRecord.{AttributeRecord}
use Rattle.trees.specs.declared.records.Records.{Records}
use Rattle.trees.specs.declared.attributes.Place.{Place}
use Rattle.trees.specs.Lists.{nil, Links, kids, last_or, Mem, Before}
use Rattle.trees.specs.Model.{named}
use Rattle.trees.specs.View.{no_attribute, holdings}

-- the lists of attributes of a table, and the attribute in a record
abbrev pub lists : Records → Links
lists r = holdings r.entries.now r.entry_count r.attributes.now r.free

abbrev pub records_of : Records → ℕ → List ℕ
records_of r e = kids (lists r) (length r.attributes.now) e

abbrev pub attribute_in : List AttributeRecord → ℕ → Attribute
attribute_in ats i = (slice_index_or ats i no_attribute).attribute

-- a record that stands in no list
abbrev pub Loose : Records → ℕ → Type 0
Loose r a = (e : ℕ) → Mem a (records_of r e) → ⊥

-- the record at a place has the name, the first of its list, and follows the one before
pub record FoundAt (r : Records) (e name : ℕ) (place : Place) : Type 0 where
  pub behind : List ℕ
  pub ahead : List ℕ
  pub list : records_of r e ≡ behind ++ (place.at ∷ ahead)
  pub first : named name (map (attribute_in r.attributes.now) behind) ≡ false
  pub same : (attribute_in r.attributes.now place.at).name ≡ name
  pub order : Before (lists r) (length r.attributes.now) e place.at place.before

-- no record has the name, and `before` is the last
pub record NotFound (r : Records) (e name before : ℕ) : Type 0 where
  pub none : named name (map (attribute_in r.attributes.now) (records_of r e)) ≡ false
  pub last : before ≡ last_or nil (records_of r e)

-- what a search answers
abbrev pub Sought : Records → ℕ → ℕ → Result Place ℕ → Type 0
Sought r e name (Ok place) = FoundAt r e name place
Sought r e name (Err last) = NotFound r e name last
