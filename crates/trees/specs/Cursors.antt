-- What a cursor has yet to give.
use Rattle.std.specs.Prelude.{◌≡◌, ℕ, true, false, cond, List, map, Some, None, Option, slice_index_or}
use Rattle.trees.specs.declared.records.UnitEntryId.{UnitEntryId}
use Rattle.trees.specs.declared.records.Records.{Records}
use Rattle.trees.specs.declared.records.EntryRecord.{EntryRecord}
use Rattle.trees.specs.declared.records.Attribute.{Attribute}
use Rattle.trees.specs.declared.records.AttributeRecord.{AttributeRecord}
use Rattle.trees.specs.Chains.{chain_from}
use Rattle.trees.specs.Lists.{nil}
use Rattle.trees.specs.Model.{Table, knows, entry_of}
use Rattle.trees.specs.View.{view, blank, no_attribute}

-- an entry's record, if the table knows the entry
abbrev pub RecordOf : Table → UnitEntryId → Option EntryRecord → Type 0
RecordOf t i None = knows t i ≡ false
RecordOf t i (Some e) = (knows t i ≡ true) × (e.tag ≡ (entry_of t i.entry).tag) × (e.sibling ≡ (entry_of t i.entry).sibling) × (e.note ≡ (entry_of t i.entry).note)

-- the entries from a on
abbrev pub siblings_from : List EntryRecord → ℕ → List ℕ
siblings_from = chain_from blank (λ r. r.next)

-- a begins the children of an entry, or is the end where the entry is not known
abbrev pub FirstOf : Records → UnitEntryId → ℕ → Type 0
FirstOf r i a = a ≡ cond (knows (view r) i) (slice_index_or r.entries.now i.entry blank).first nil

-- the attributes from the record a on
abbrev pub records_from : List AttributeRecord → ℕ → List ℕ
records_from = chain_from no_attribute (λ r. r.next)

abbrev pub attributes_from : List AttributeRecord → ℕ → List Attribute
attributes_from ats a = map (λ i. (slice_index_or ats i no_attribute).attribute) (records_from ats a)

-- a begins the attributes of an entry, or is the end where the entry is not known
abbrev pub FirstAttributeOf : Records → UnitEntryId → ℕ → Type 0
FirstAttributeOf r i a = a ≡ cond (knows (view r) i) (slice_index_or r.entries.now i.entry blank).attribute nil
