-- What a table tells of itself: entries by state, records left, and whether a unit names a file.
use Rattle.std.specs.Prelude.{ℕ, ◌+◌, ◌≤◌, Bool, true, false, ◌&&◌, List, Some, None, ◌==◌}
use Rattle.std.specs.List.{list_any}
use Rattle.trees.specs.declared.records.Counts.{Counts}
use Rattle.trees.specs.declared.records.Left.{Left}
use Rattle.trees.specs.declared.records.UnitId.{UnitId}
use Rattle.trees.specs.declared.records.Attribute.{Attribute}
use Rattle.trees.specs.declared.records.AttributeValue.{AttributeValue}
use Rattle.trees.specs.declared.records.AttributeValue.TheVariants.{Address, Block, Data1, Data2, Data4, Data8, Data16, Sdata, Udata, ImplicitConst, Exprloc, Flag, FlagPresent, UnitRef, DebugInfoRef, DebugInfoRefSup, LineProgramRef, LocationListRef, DebugMacinfoRef, DebugMacroRef, RangeListRef, DebugTypesRef, StringRef, DebugStrRefSup, LineStringRef, String, Encoding as EncodingOf, DecimalSign, Endianity, Accessibility, Visibility, Virtuality, Language, AddressClass, IdentifierCase, CallingConvention, Inline, Ordering, FileIndex}
use Rattle.trees.specs.declared.records.State.{State}
use Rattle.trees.specs.declared.records.State.TheVariants.{Root, Waiting, Placed, TakenOut, GivenBack}
use Rattle.trees.specs.History.{in_state}
use Rattle.trees.specs.Model.{Entry, Table, knows_unit}

-- how many of some entries are in each state
abbrev pub counts_in : List Entry → Counts
counts_in es = record { waiting = in_state Waiting es; placed = in_state Placed es; taken_out = in_state TakenOut es; given_back = in_state GivenBack es }

abbrev pub counts_of : Table → Counts
counts_of t = counts_in t.entries

-- with one more entry, in a state
abbrev pub tallied : Counts → State → Counts
tallied c Root = c
tallied c Waiting = record { waiting = c.waiting + 1; placed = c.placed; taken_out = c.taken_out; given_back = c.given_back }
tallied c Placed = record { waiting = c.waiting; placed = c.placed + 1; taken_out = c.taken_out; given_back = c.given_back }
tallied c TakenOut = record { waiting = c.waiting; placed = c.placed; taken_out = c.taken_out + 1; given_back = c.given_back }
tallied c GivenBack = record { waiting = c.waiting; placed = c.placed; taken_out = c.taken_out; given_back = c.given_back + 1 }

-- none of them past the largest table
abbrev pub Countable : Counts → Type 0
Countable c = (c.waiting ≤ 65535) × (c.placed ≤ 65535) × (c.taken_out ≤ 65535) × (c.given_back ≤ 65535)

-- how many records of each kind are left
abbrev pub left_of : Table → Left
left_of t = record { units = t.units_left; entries = t.entries_left; attributes = t.attributes_left }

-- a file index that names a file
abbrev pub names_file : AttributeValue → Bool
names_file (Address x) = false
names_file (Block s) = false
names_file (Data1 x) = false
names_file (Data2 x) = false
names_file (Data4 x) = false
names_file (Data8 x) = false
names_file (Data16 h l) = false
names_file (Sdata x) = false
names_file (Udata x) = false
names_file (ImplicitConst x) = false
names_file (Exprloc s) = false
names_file (Flag x) = false
names_file FlagPresent = false
names_file (UnitRef x) = false
names_file (DebugInfoRef x) = false
names_file (DebugInfoRefSup x) = false
names_file LineProgramRef = false
names_file (LocationListRef x) = false
names_file (DebugMacinfoRef x) = false
names_file (DebugMacroRef x) = false
names_file (RangeListRef x) = false
names_file (DebugTypesRef x) = false
names_file (StringRef x) = false
names_file (DebugStrRefSup x) = false
names_file (LineStringRef x) = false
names_file (String s) = false
names_file (EncodingOf x) = false
names_file (DecimalSign x) = false
names_file (Endianity x) = false
names_file (Accessibility x) = false
names_file (Visibility x) = false
names_file (Virtuality x) = false
names_file (Language x) = false
names_file (AddressClass x) = false
names_file (IdentifierCase x) = false
names_file (CallingConvention x) = false
names_file (Inline x) = false
names_file (Ordering x) = false
names_file (FileIndex None) = false
names_file (FileIndex (Some n)) = true

-- some attribute names a file
abbrev pub any_file : List Attribute → Bool
any_file = list_any (λ a. names_file a.value)

-- some entry of a unit, whatever its state, has one that does
abbrev pub file_in : ℕ → List Entry → Bool
file_in u = list_any (λ e. e.unit == u && any_file e.attributes)

abbrev pub uses_files : Table → UnitId → Bool
uses_files t u = knows_unit t u && file_in u.unit t.entries
