use Rattle.std.specs.Prelude.{ℕ, Bool, true, false, ◌≢◌, List, Contains, refl, Some, None, codes, Option}
use Rattle.std.proofs.Common.{lit<}
use Rattle.scripts.specs.declared.kind.Kind.{Kind}
use Rattle.scripts.specs.declared.kind.Kind.TheVariants as kind
use Rattle.numbers.specs.declared.common.Address.{Address}
use Rattle.numbers.specs.declared.common.Address.TheVariants.{Constant, Symbol}
use Rattle.trees.specs.declared.records.DebugInfoRef.{DebugInfoRef}
use Rattle.trees.specs.declared.records.DebugInfoRef.TheVariants as info
use Rattle.trees.specs.declared.records.AttributeValue.{AttributeValue}
use Rattle.trees.specs.declared.records.AttributeValue.TheVariants as value
use Rattle.scripts.specs.declared.kind.TheConstants.{KINDS}

-- how each is written
abbrev pub word_of : Kind → List ℕ
word_of kind.Address = codes "address"
word_of kind.AddressSymbol = codes "address_symbol"
word_of kind.Block = codes "block"
word_of kind.Data1 = codes "data1"
word_of kind.Data2 = codes "data2"
word_of kind.Data4 = codes "data4"
word_of kind.Data8 = codes "data8"
word_of kind.Data16 = codes "data16"
word_of kind.Sdata = codes "sdata"
word_of kind.Udata = codes "udata"
word_of kind.ImplicitConst = codes "implicit_const"
word_of kind.Exprloc = codes "exprloc"
word_of kind.Flag = codes "flag"
word_of kind.FlagPresent = codes "flag_present"
word_of kind.UnitRef = codes "unit_ref"
word_of kind.InfoRefSymbol = codes "info_ref_symbol"
word_of kind.InfoRef = codes "info_ref"
word_of kind.InfoRefSup = codes "info_ref_sup"
word_of kind.LineProgramRef = codes "line_program_ref"
word_of kind.LocListRef = codes "loc_list_ref"
word_of kind.MacinfoRef = codes "macinfo_ref"
word_of kind.MacroRef = codes "macro_ref"
word_of kind.RangeListRef = codes "range_list_ref"
word_of kind.TypesRef = codes "types_ref"
word_of kind.StringRef = codes "string_ref"
word_of kind.StrRefSup = codes "str_ref_sup"
word_of kind.LineStringRef = codes "line_string_ref"
word_of kind.String = codes "string"
word_of kind.Encoding = codes "encoding"
word_of kind.DecimalSign = codes "decimal_sign"
word_of kind.Endianity = codes "endianity"
word_of kind.Accessibility = codes "accessibility"
word_of kind.Visibility = codes "visibility"
word_of kind.Virtuality = codes "virtuality"
word_of kind.Language = codes "language"
word_of kind.AddressClass = codes "address_class"
word_of kind.IdentifierCase = codes "identifier_case"
word_of kind.CallingConvention = codes "calling_convention"
word_of kind.Inline = codes "inline"
word_of kind.Ordering = codes "ordering"
word_of kind.FileIndexNone = codes "file_index_none"
word_of kind.FileIndex = codes "file_index"

-- each stands in the list of all
pub in_all : (v : Kind) → Contains KINDS v
in_all kind.Address = (0, lit< tt, refl)
in_all kind.AddressSymbol = (1, lit< tt, refl)
in_all kind.Block = (2, lit< tt, refl)
in_all kind.Data1 = (3, lit< tt, refl)
in_all kind.Data2 = (4, lit< tt, refl)
in_all kind.Data4 = (5, lit< tt, refl)
in_all kind.Data8 = (6, lit< tt, refl)
in_all kind.Data16 = (7, lit< tt, refl)
in_all kind.Sdata = (8, lit< tt, refl)
in_all kind.Udata = (9, lit< tt, refl)
in_all kind.ImplicitConst = (10, lit< tt, refl)
in_all kind.Exprloc = (11, lit< tt, refl)
in_all kind.Flag = (12, lit< tt, refl)
in_all kind.FlagPresent = (13, lit< tt, refl)
in_all kind.UnitRef = (14, lit< tt, refl)
in_all kind.InfoRefSymbol = (15, lit< tt, refl)
in_all kind.InfoRef = (16, lit< tt, refl)
in_all kind.InfoRefSup = (17, lit< tt, refl)
in_all kind.LineProgramRef = (18, lit< tt, refl)
in_all kind.LocListRef = (19, lit< tt, refl)
in_all kind.MacinfoRef = (20, lit< tt, refl)
in_all kind.MacroRef = (21, lit< tt, refl)
in_all kind.RangeListRef = (22, lit< tt, refl)
in_all kind.TypesRef = (23, lit< tt, refl)
in_all kind.StringRef = (24, lit< tt, refl)
in_all kind.StrRefSup = (25, lit< tt, refl)
in_all kind.LineStringRef = (26, lit< tt, refl)
in_all kind.String = (27, lit< tt, refl)
in_all kind.Encoding = (28, lit< tt, refl)
in_all kind.DecimalSign = (29, lit< tt, refl)
in_all kind.Endianity = (30, lit< tt, refl)
in_all kind.Accessibility = (31, lit< tt, refl)
in_all kind.Visibility = (32, lit< tt, refl)
in_all kind.Virtuality = (33, lit< tt, refl)
in_all kind.Language = (34, lit< tt, refl)
in_all kind.AddressClass = (35, lit< tt, refl)
in_all kind.IdentifierCase = (36, lit< tt, refl)
in_all kind.CallingConvention = (37, lit< tt, refl)
in_all kind.Inline = (38, lit< tt, refl)
in_all kind.Ordering = (39, lit< tt, refl)
in_all kind.FileIndexNone = (40, lit< tt, refl)
in_all kind.FileIndex = (41, lit< tt, refl)

-- a word that is no kind's
abbrev pub NoKind : List ℕ → Type 0
NoKind w = (v : Kind) → word_of v ≢ w

-- how many words say a value of a kind
abbrev pub word_count : Kind → ℕ
word_count kind.FlagPresent = 0
word_count kind.LineProgramRef = 0
word_count kind.FileIndexNone = 0
word_count kind.AddressSymbol = 2
word_count kind.Data16 = 2
word_count kind.UnitRef = 2
word_count kind.InfoRef = 2
word_count _ = 1

-- a value that is bytes
abbrev pub is_bytes : Kind → Bool
is_bytes kind.Block = true
is_bytes kind.Exprloc = true
is_bytes kind.String = true
is_bytes _ = false

abbrev pub address_kind : Address → Kind
address_kind (Constant n) = kind.Address
address_kind (Symbol x a) = kind.AddressSymbol

abbrev pub info_kind : DebugInfoRef → Kind
info_kind (info.Symbol x) = kind.InfoRefSymbol
info_kind (info.Entry i) = kind.InfoRef

abbrev pub file_kind : Option ℕ → Kind
file_kind None = kind.FileIndexNone
file_kind (Some n) = kind.FileIndex

-- the kind of each value
abbrev pub kind_of : AttributeValue → Kind
kind_of (value.Address x) = address_kind x
kind_of (value.DebugInfoRef x) = info_kind x
kind_of (value.FileIndex x) = file_kind x
kind_of (value.Block s) = kind.Block
kind_of (value.Data1 n) = kind.Data1
kind_of (value.Data2 n) = kind.Data2
kind_of (value.Data4 n) = kind.Data4
kind_of (value.Data8 n) = kind.Data8
kind_of (value.Data16 h l) = kind.Data16
kind_of (value.Sdata z) = kind.Sdata
kind_of (value.Udata n) = kind.Udata
kind_of (value.ImplicitConst z) = kind.ImplicitConst
kind_of (value.Exprloc s) = kind.Exprloc
kind_of (value.Flag b) = kind.Flag
kind_of value.FlagPresent = kind.FlagPresent
kind_of (value.UnitRef i) = kind.UnitRef
kind_of (value.DebugInfoRefSup n) = kind.InfoRefSup
kind_of value.LineProgramRef = kind.LineProgramRef
kind_of (value.LocationListRef n) = kind.LocListRef
kind_of (value.DebugMacinfoRef n) = kind.MacinfoRef
kind_of (value.DebugMacroRef n) = kind.MacroRef
kind_of (value.RangeListRef n) = kind.RangeListRef
kind_of (value.DebugTypesRef n) = kind.TypesRef
kind_of (value.StringRef n) = kind.StringRef
kind_of (value.DebugStrRefSup n) = kind.StrRefSup
kind_of (value.LineStringRef n) = kind.LineStringRef
kind_of (value.String s) = kind.String
kind_of (value.Encoding n) = kind.Encoding
kind_of (value.DecimalSign n) = kind.DecimalSign
kind_of (value.Endianity n) = kind.Endianity
kind_of (value.Accessibility n) = kind.Accessibility
kind_of (value.Visibility n) = kind.Visibility
kind_of (value.Virtuality n) = kind.Virtuality
kind_of (value.Language n) = kind.Language
kind_of (value.AddressClass n) = kind.AddressClass
kind_of (value.IdentifierCase n) = kind.IdentifierCase
kind_of (value.CallingConvention n) = kind.CallingConvention
kind_of (value.Inline n) = kind.Inline
kind_of (value.Ordering n) = kind.Ordering
