-- What a value holds, its kind apart.
use Rattle.std.specs.Prelude.{ℕ, Some, None, Option}
use Rattle.numbers.specs.declared.common.Address.{Address}
use Rattle.numbers.specs.declared.common.Address.TheVariants as address
use Rattle.trees.specs.declared.records.DebugInfoRef.{DebugInfoRef}
use Rattle.trees.specs.declared.records.DebugInfoRef.TheVariants as info
use Rattle.trees.specs.declared.records.AttributeValue.{AttributeValue}
use Rattle.trees.specs.declared.records.AttributeValue.TheVariants as value
use Rattle.scripts.specs.declared.payload.Payload.{Payload}
use Rattle.scripts.specs.declared.payload.Payload.TheVariants.{Nothing, Number, Signed, Pair, Symbol, Bytes, Entry}
use Rattle.scripts.specs.Values.{bit}

abbrev pub address_payload : Address → Payload
address_payload (address.Constant n) = Number n
address_payload (address.Symbol x a) = Symbol x a

abbrev pub info_payload : DebugInfoRef → Payload
info_payload (info.Symbol x) = Number x
info_payload (info.Entry i) = Entry i

abbrev pub file_payload : Option ℕ → Payload
file_payload None = Nothing
file_payload (Some n) = Number n

abbrev pub payload_of : AttributeValue → Payload
payload_of (value.Address x) = address_payload x
payload_of (value.DebugInfoRef x) = info_payload x
payload_of (value.FileIndex x) = file_payload x
payload_of (value.Data16 h l) = Pair h l
payload_of (value.Flag b) = Number (bit b)
payload_of (value.Block span) = Bytes span
payload_of (value.Data1 n) = Number n
payload_of (value.Data2 n) = Number n
payload_of (value.Data4 n) = Number n
payload_of (value.Data8 n) = Number n
payload_of (value.Sdata n) = Signed n
payload_of (value.Udata n) = Number n
payload_of (value.ImplicitConst n) = Signed n
payload_of (value.Exprloc span) = Bytes span
payload_of value.FlagPresent = Nothing
payload_of (value.UnitRef id) = Entry id
payload_of (value.DebugInfoRefSup n) = Number n
payload_of value.LineProgramRef = Nothing
payload_of (value.LocationListRef n) = Number n
payload_of (value.DebugMacinfoRef n) = Number n
payload_of (value.DebugMacroRef n) = Number n
payload_of (value.RangeListRef n) = Number n
payload_of (value.DebugTypesRef n) = Number n
payload_of (value.StringRef n) = Number n
payload_of (value.DebugStrRefSup n) = Number n
payload_of (value.LineStringRef n) = Number n
payload_of (value.String span) = Bytes span
payload_of (value.Encoding n) = Number n
payload_of (value.DecimalSign n) = Number n
payload_of (value.Endianity n) = Number n
payload_of (value.Accessibility n) = Number n
payload_of (value.Visibility n) = Number n
payload_of (value.Virtuality n) = Number n
payload_of (value.Language n) = Number n
payload_of (value.AddressClass n) = Number n
payload_of (value.IdentifierCase n) = Number n
payload_of (value.CallingConvention n) = Number n
payload_of (value.Inline n) = Number n
payload_of (value.Ordering n) = Number n
