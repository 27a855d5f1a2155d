-- How a table lies in its records.
use Rattle.std.specs.Prelude.{ℕ, ◌+◌, ◌-◌, List, map, length, get_or, take, slice_index_or}
use Rattle.std.specs.List.{range_with_len}
use Rattle.trees.specs.declared.records.Attribute.{Attribute}
use Rattle.trees.specs.declared.records.EntryRecord.{EntryRecord}
use Rattle.trees.specs.declared.records.AttributeRecord.{AttributeRecord}
use Rattle.trees.specs.declared.records.Records.{Records}
use Rattle.trees.specs.Lists.{nil, Links, kids}
use Rattle.trees.specs.Model.{Entry, Table}
pub use Rattle.trees.specs.Sound.{blank, no_attribute, kin, holdings, Sized, kind, Lasts, Parented, Listed, Akin, Housed, Rooted, Sound}

abbrev pub attributes_at : Links → List AttributeRecord → ℕ → List Attribute
attributes_at L ats e = map (λ i. (get_or ats i no_attribute).attribute) (kids L (length ats) e)

-- an entry from its record, its attributes and its children
abbrev pub entry_from : EntryRecord → List Attribute → List ℕ → Entry
entry_from r attributes children = record { unit = r.unit; state = r.state; tag = r.tag; sibling = r.sibling; note = r.note; attributes = attributes; children = children }

abbrev pub entry_at : List EntryRecord → ℕ → List AttributeRecord → ℕ → ℕ → Entry
entry_at es n ats free e = entry_from (slice_index_or es e blank) (attributes_at (holdings es n ats free) ats e) (kids (kin es n) (length es) e)

unfoldable pub entries_in : List EntryRecord → ℕ → List AttributeRecord → ℕ → List Entry
entries_in es n ats free = map (entry_at es n ats free) (range_with_len 0 n)

abbrev pub view : Records → Table
view r = record {
  number = r.number;
  closed = r.closed;
  units = take r.unit_count r.units.now;
  entries = entries_in r.entries.now r.entry_count r.attributes.now r.free;
  pool = r.pool.now;
  units_left = length r.units.now - r.unit_count;
  entries_left = length r.entries.now - r.entry_count;
  attributes_left = (length r.attributes.now - r.attribute_count) + length (kids (holdings r.entries.now r.entry_count r.attributes.now r.free) (length r.attributes.now) nil);
}

-- what each table's records keep, as their ghost field says
abbrev pub Holds : Records → Type 0
Holds r = Sound r.units.now r.unit_count r.entries.now r.entry_count r.attributes.now r.attribute_count r.free (length r.pool.now)
