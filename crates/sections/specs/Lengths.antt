use Rattle.std.specs.Prelude.{ℕ, Bool, false, [], ◌∷◌, length, Ok, nat_le}
use Rattle.numbers.specs.Common.{word_size}
use Rattle.numbers.specs.declared.common.Format.{Format}
use Rattle.numbers.specs.declared.common.Format.TheVariants.{Dwarf32, Dwarf64}
use Rattle.sections.specs.declared.fault.Fault.TheVariants.{ValueTooLarge}
use Rattle.sections.specs.declared.token.InitialLengthOffset.{InitialLengthOffset}
use Rattle.sections.specs.Section.{Act, declining, number, udata, udata_at, onward, ◌⨟◌}

-- a 64-bit length stands after four bytes of ff
unfoldable pub escape : Format → Act Unit
escape Dwarf32 s = (s, Ok tt)
escape Dwarf64 s = number 4 4294967295 s

-- a length word of zeros, and the token of its place
unfoldable pub opens_word : Format → Act InitialLengthOffset
opens_word format s = onward (λ _ t. (t, Ok (record { offset = length s.bytes; format = format }))) (udata 0 (word_size format) s)

unfoldable pub opened : Format → Act InitialLengthOffset
opened format = escape format ⨟ opens_word format

-- the lengths from 0xfffffff0 up are reserved in the 32-bit format
abbrev pub reserved_length : Format → ℕ → Bool
reserved_length Dwarf32 n = nat_le 4294967280 n
reserved_length Dwarf64 n = false

-- the length of a word that was opened
unfoldable pub length_at : InitialLengthOffset → ℕ → Act Unit
length_at o n = declining ((reserved_length o.format n, ValueTooLarge) ∷ []) (udata_at o.offset n (word_size o.format))
