use Rattle.std.specs.Prelude.{Bool, vec_items}
use Rattle.numbers.specs.Leb.{uleb, sleb}
use Rattle.sections.specs.Section.{Act, append, place, number, number_into, udata, udata_at, address, offset, offset_at, reference}
use Rattle.assemble.specs.declared.call.Call.{Call}
use Rattle.assemble.specs.declared.call.Call.TheVariants as call

-- what each call does to a section
abbrev pub act_of : Bool → Call → Act Unit
act_of relocates (call.Bytes xs) = append (vec_items xs)
act_of relocates (call.BytesAt at xs) = place at (vec_items xs)
act_of relocates (call.U8 n) = number 1 n
act_of relocates (call.U16 n) = number 2 n
act_of relocates (call.U32 n) = number 4 n
act_of relocates (call.U64 n) = number 8 n
act_of relocates (call.U128 n) = number 16 n
act_of relocates (call.U8At at n) = number_into at 1 n
act_of relocates (call.U16At at n) = number_into at 2 n
act_of relocates (call.U32At at n) = number_into at 4 n
act_of relocates (call.U64At at n) = number_into at 8 n
act_of relocates (call.U128At at n) = number_into at 16 n
act_of relocates (call.Udata n size) = udata n size
act_of relocates (call.UdataAt at n size) = udata_at at n size
act_of relocates (call.Uleb128 n) = append (uleb n)
act_of relocates (call.Sleb128 z) = append (sleb z)
act_of relocates (call.Address a size) = address relocates a size
act_of relocates (call.Offset n x size) = offset relocates n x size
act_of relocates (call.OffsetAt at n x size) = offset_at relocates at n x size
act_of relocates (call.Reference x size) = reference relocates x size
