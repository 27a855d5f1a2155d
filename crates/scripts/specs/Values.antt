-- The values that words say.
use Rattle.std.specs.Prelude.{◌≡◌, ℕ, Bool, true, false, List, [], ◌∷◌, take, drop, Some, None, Option, slice_index_or}
use Rattle.std.specs.Borrow.{Bor}
use Rattle.numbers.specs.declared.common.Address.{Address}
use Rattle.numbers.specs.declared.common.Address.TheVariants.{Constant, Symbol}
use Rattle.trees.specs.declared.records.DebugInfoRef.{DebugInfoRef}
use Rattle.trees.specs.declared.records.DebugInfoRef.TheVariants as info
use Rattle.trees.specs.declared.records.Span.{Span}
use Rattle.trees.specs.declared.records.AttributeValue.{AttributeValue}
use Rattle.trees.specs.declared.records.AttributeValue.TheVariants as value
use Rattle.texts.specs.Texts.{number_of, signed_of, bytes_named}
use Rattle.scripts.specs.declared.kind.Kind.{Kind}
use Rattle.scripts.specs.declared.kind.Kind.TheVariants as kind
use Rattle.scripts.specs.declared.value.EntryName.{EntryName}
use Rattle.scripts.specs.declared.value.Value.{Value}
use Rattle.scripts.specs.declared.value.Value.TheVariants.{Plain, UnitRef, InfoRef}
use Rattle.scripts.specs.Kinds.{kind_of}

-- the i-th word is a number
abbrev pub IsNumber : List (List ℕ) → ℕ → ℕ → Type 0
IsNumber ws i n = number_of (slice_index_or ws i []) ≡ Some n

-- the words from the i-th on are a unit and the number of an entry
abbrev pub IsEntry : List (List ℕ) → ℕ → ℕ → EntryName → Type 0
IsEntry ws u e x = IsNumber ws u x.unit × IsNumber ws e x.entry

-- 0 or 1
abbrev pub bit : Bool → ℕ
bit false = 0
bit true = 1

-- the bytes of a part of the pool
abbrev pub bytes_at : List ℕ → Span → List ℕ
bytes_at pool s = take s.len (drop s.start pool)

-- a word is the bytes of a part of the pool
abbrev pub IsBytes : List (List ℕ) → List ℕ → Span → Type 0
IsBytes ws pool s = bytes_named (slice_index_or ws 0 []) ≡ Some (bytes_at pool s)

abbrev pub AddressFrom : Address → List (List ℕ) → Type 0
AddressFrom (Constant n) ws = IsNumber ws 0 n
AddressFrom (Symbol x a) ws = IsNumber ws 0 x × (signed_of (slice_index_or ws 1 []) ≡ Some a)

-- an entry of the table is no value that a script gives
abbrev pub InfoFrom : DebugInfoRef → List (List ℕ) → Type 0
InfoFrom (info.Symbol x) ws = IsNumber ws 0 x
InfoFrom (info.Entry i) ws = ⊥

abbrev pub FileFrom : Option ℕ → List (List ℕ) → Type 0
FileFrom None ws = Unit {0}
FileFrom (Some n) ws = IsNumber ws 0 n

-- the arguments of each value, as they are written; bytes stand in the pool
abbrev pub PlainFrom : AttributeValue → List (List ℕ) → List ℕ → Type 0
PlainFrom (value.Address x) ws pool = AddressFrom x ws
PlainFrom (value.DebugInfoRef x) ws pool = InfoFrom x ws
PlainFrom (value.FileIndex x) ws pool = FileFrom x ws
PlainFrom (value.Block s) ws pool = IsBytes ws pool s
PlainFrom (value.Data1 n) ws pool = IsNumber ws 0 n
PlainFrom (value.Data2 n) ws pool = IsNumber ws 0 n
PlainFrom (value.Data4 n) ws pool = IsNumber ws 0 n
PlainFrom (value.Data8 n) ws pool = IsNumber ws 0 n
PlainFrom (value.Data16 h l) ws pool = IsNumber ws 0 h × IsNumber ws 1 l
PlainFrom (value.Sdata z) ws pool = signed_of (slice_index_or ws 0 []) ≡ Some z
PlainFrom (value.Udata n) ws pool = IsNumber ws 0 n
PlainFrom (value.ImplicitConst z) ws pool = signed_of (slice_index_or ws 0 []) ≡ Some z
PlainFrom (value.Exprloc s) ws pool = IsBytes ws pool s
PlainFrom (value.Flag b) ws pool = IsNumber ws 0 (bit b)
PlainFrom value.FlagPresent ws pool = Unit {0}
PlainFrom (value.UnitRef i) ws pool = ⊥
PlainFrom (value.DebugInfoRefSup n) ws pool = IsNumber ws 0 n
PlainFrom value.LineProgramRef ws pool = Unit {0}
PlainFrom (value.LocationListRef n) ws pool = IsNumber ws 0 n
PlainFrom (value.DebugMacinfoRef n) ws pool = IsNumber ws 0 n
PlainFrom (value.DebugMacroRef n) ws pool = IsNumber ws 0 n
PlainFrom (value.RangeListRef n) ws pool = IsNumber ws 0 n
PlainFrom (value.DebugTypesRef n) ws pool = IsNumber ws 0 n
PlainFrom (value.StringRef n) ws pool = IsNumber ws 0 n
PlainFrom (value.DebugStrRefSup n) ws pool = IsNumber ws 0 n
PlainFrom (value.LineStringRef n) ws pool = IsNumber ws 0 n
PlainFrom (value.String s) ws pool = IsBytes ws pool s
PlainFrom (value.Encoding n) ws pool = IsNumber ws 0 n
PlainFrom (value.DecimalSign n) ws pool = IsNumber ws 0 n
PlainFrom (value.Endianity n) ws pool = IsNumber ws 0 n
PlainFrom (value.Accessibility n) ws pool = IsNumber ws 0 n
PlainFrom (value.Visibility n) ws pool = IsNumber ws 0 n
PlainFrom (value.Virtuality n) ws pool = IsNumber ws 0 n
PlainFrom (value.Language n) ws pool = IsNumber ws 0 n
PlainFrom (value.AddressClass n) ws pool = IsNumber ws 0 n
PlainFrom (value.IdentifierCase n) ws pool = IsNumber ws 0 n
PlainFrom (value.CallingConvention n) ws pool = IsNumber ws 0 n
PlainFrom (value.Inline n) ws pool = IsNumber ws 0 n
PlainFrom (value.Ordering n) ws pool = IsNumber ws 0 n

-- the kind of a script's value, and its arguments
abbrev pub value_kind : Value → Kind
value_kind (Plain v) = kind_of v
value_kind (UnitRef x) = kind.UnitRef
value_kind (InfoRef x) = kind.InfoRef

abbrev pub ValueFrom : Value → List (List ℕ) → List ℕ → Type 0
ValueFrom (Plain v) ws pool = PlainFrom v ws pool
ValueFrom (UnitRef x) ws pool = IsEntry ws 0 1 x
ValueFrom (InfoRef x) ws pool = IsEntry ws 0 1 x

-- what words hold
abbrev pub texts_of : List (Bor (List ℕ)) → List (List ℕ)
texts_of [] = []
texts_of (w ∷ ws) = w.now ∷ texts_of ws
