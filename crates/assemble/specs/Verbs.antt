use Rattle.std.specs.Prelude.{◌≡◌, ℕ, List, [], Contains, Some, vec_items, codes, slice_index_or, refl}
use Rattle.std.proofs.Common.{lit<}
use Rattle.numbers.specs.Common.{section_name}
use Rattle.numbers.specs.declared.common.Address.{Address}
use Rattle.numbers.specs.declared.common.Address.TheVariants.{Constant, Symbol}
use Rattle.assemble.specs.declared.call.Call.{Call}
use Rattle.assemble.specs.declared.call.Call.TheVariants as call
use Rattle.assemble.specs.declared.call.Order.{Order}
use Rattle.assemble.specs.declared.call.Order.TheVariants as order
use Rattle.assemble.specs.declared.verb.TheConstants.{VERBS}
use Rattle.assemble.specs.declared.verb.Verb.{Verb}
use Rattle.assemble.specs.declared.verb.Verb.TheVariants as verb
use Rattle.texts.specs.Texts.{number_of, signed_of, joined_of, bytes_named}

-- how each verb is written
abbrev pub word_of : Verb → List ℕ
word_of verb.Bytes = codes "bytes"
word_of verb.BytesAt = codes "bytes_at"
word_of verb.U8 = codes "u8"
word_of verb.U16 = codes "u16"
word_of verb.U32 = codes "u32"
word_of verb.U64 = codes "u64"
word_of verb.U128 = codes "u128"
word_of verb.U8At = codes "u8_at"
word_of verb.U16At = codes "u16_at"
word_of verb.U32At = codes "u32_at"
word_of verb.U64At = codes "u64_at"
word_of verb.U128At = codes "u128_at"
word_of verb.Udata = codes "udata"
word_of verb.UdataAt = codes "udata_at"
word_of verb.Uleb128 = codes "uleb128"
word_of verb.Sleb128 = codes "sleb128"
word_of verb.Address = codes "address"
word_of verb.AddressSymbol = codes "address_symbol"
word_of verb.Offset = codes "offset"
word_of verb.OffsetAt = codes "offset_at"
word_of verb.Reference = codes "reference"
word_of verb.OpenLength = codes "open_length"
word_of verb.FillLength = codes "fill_length"
word_of verb.GiveUp = codes "give_up"

-- each verb stands in the table
pub each_verb_stands : (v : Verb) → Contains VERBS v
each_verb_stands verb.Bytes = (0, lit< tt, refl)
each_verb_stands verb.BytesAt = (1, lit< tt, refl)
each_verb_stands verb.U8 = (2, lit< tt, refl)
each_verb_stands verb.U16 = (3, lit< tt, refl)
each_verb_stands verb.U32 = (4, lit< tt, refl)
each_verb_stands verb.U64 = (5, lit< tt, refl)
each_verb_stands verb.U128 = (6, lit< tt, refl)
each_verb_stands verb.U8At = (7, lit< tt, refl)
each_verb_stands verb.U16At = (8, lit< tt, refl)
each_verb_stands verb.U32At = (9, lit< tt, refl)
each_verb_stands verb.U64At = (10, lit< tt, refl)
each_verb_stands verb.U128At = (11, lit< tt, refl)
each_verb_stands verb.Udata = (12, lit< tt, refl)
each_verb_stands verb.UdataAt = (13, lit< tt, refl)
each_verb_stands verb.Uleb128 = (14, lit< tt, refl)
each_verb_stands verb.Sleb128 = (15, lit< tt, refl)
each_verb_stands verb.Address = (16, lit< tt, refl)
each_verb_stands verb.AddressSymbol = (17, lit< tt, refl)
each_verb_stands verb.Offset = (18, lit< tt, refl)
each_verb_stands verb.OffsetAt = (19, lit< tt, refl)
each_verb_stands verb.Reference = (20, lit< tt, refl)
each_verb_stands verb.OpenLength = (21, lit< tt, refl)
each_verb_stands verb.FillLength = (22, lit< tt, refl)
each_verb_stands verb.GiveUp = (23, lit< tt, refl)

abbrev pub address_verb : Address → Verb
address_verb (Constant n) = verb.Address
address_verb (Symbol x a) = verb.AddressSymbol

-- the verb of each call
abbrev pub call_verb : Call → Verb
call_verb (call.Bytes xs) = verb.Bytes
call_verb (call.BytesAt at xs) = verb.BytesAt
call_verb (call.U8 n) = verb.U8
call_verb (call.U16 n) = verb.U16
call_verb (call.U32 n) = verb.U32
call_verb (call.U64 n) = verb.U64
call_verb (call.U128 n) = verb.U128
call_verb (call.U8At at n) = verb.U8At
call_verb (call.U16At at n) = verb.U16At
call_verb (call.U32At at n) = verb.U32At
call_verb (call.U64At at n) = verb.U64At
call_verb (call.U128At at n) = verb.U128At
call_verb (call.Udata n size) = verb.Udata
call_verb (call.UdataAt at n size) = verb.UdataAt
call_verb (call.Uleb128 n) = verb.Uleb128
call_verb (call.Sleb128 z) = verb.Sleb128
call_verb (call.Address a size) = address_verb a
call_verb (call.Offset n x size) = verb.Offset
call_verb (call.OffsetAt at n x size) = verb.OffsetAt
call_verb (call.Reference x size) = verb.Reference

abbrev pub order_verb : Order → Verb
order_verb (order.Run c) = call_verb c
order_verb (order.OpenLength format) = verb.OpenLength
order_verb (order.FillLength i n) = verb.FillLength
order_verb (order.GiveUp i) = verb.GiveUp

-- the i-th argument is a number
abbrev pub IsNumber : List (List ℕ) → ℕ → ℕ → Type 0
IsNumber ws i n = number_of (slice_index_or ws i []) ≡ Some n

abbrev pub AddressFrom : Address → ℕ → List (List ℕ) → Type 0
AddressFrom (Constant n) size ws = IsNumber ws 0 n × IsNumber ws 1 size
AddressFrom (Symbol x a) size ws = IsNumber ws 0 x × (signed_of (slice_index_or ws 1 []) ≡ Some a) × IsNumber ws 2 size

-- the arguments of each call, as they are written
abbrev pub CallFrom : Call → List (List ℕ) → Type 0
CallFrom (call.Bytes xs) ws = bytes_named (slice_index_or ws 0 []) ≡ Some (vec_items xs)
CallFrom (call.BytesAt at xs) ws = IsNumber ws 0 at × (bytes_named (slice_index_or ws 1 []) ≡ Some (vec_items xs))
CallFrom (call.U8 n) ws = IsNumber ws 0 n
CallFrom (call.U16 n) ws = IsNumber ws 0 n
CallFrom (call.U32 n) ws = IsNumber ws 0 n
CallFrom (call.U64 n) ws = IsNumber ws 0 n
CallFrom (call.U128 n) ws = joined_of (slice_index_or ws 0 []) (slice_index_or ws 1 []) ≡ Some n
CallFrom (call.U8At at n) ws = IsNumber ws 0 at × IsNumber ws 1 n
CallFrom (call.U16At at n) ws = IsNumber ws 0 at × IsNumber ws 1 n
CallFrom (call.U32At at n) ws = IsNumber ws 0 at × IsNumber ws 1 n
CallFrom (call.U64At at n) ws = IsNumber ws 0 at × IsNumber ws 1 n
CallFrom (call.U128At at n) ws = IsNumber ws 0 at × (joined_of (slice_index_or ws 1 []) (slice_index_or ws 2 []) ≡ Some n)
CallFrom (call.Udata n size) ws = IsNumber ws 0 n × IsNumber ws 1 size
CallFrom (call.UdataAt at n size) ws = IsNumber ws 0 at × IsNumber ws 1 n × IsNumber ws 2 size
CallFrom (call.Uleb128 n) ws = IsNumber ws 0 n
CallFrom (call.Sleb128 z) ws = signed_of (slice_index_or ws 0 []) ≡ Some z
CallFrom (call.Address a size) ws = AddressFrom a size ws
CallFrom (call.Offset n x size) ws = IsNumber ws 0 n × (section_name x ≡ slice_index_or ws 1 []) × IsNumber ws 2 size
CallFrom (call.OffsetAt at n x size) ws = IsNumber ws 0 at × IsNumber ws 1 n × (section_name x ≡ slice_index_or ws 2 []) × IsNumber ws 3 size
CallFrom (call.Reference x size) ws = IsNumber ws 0 x × IsNumber ws 1 size
