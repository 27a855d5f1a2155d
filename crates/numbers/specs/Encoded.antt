use Rattle.std.specs.Prelude.{ℕ, List, take}
use Rattle.numbers.specs.declared.leb128.Leb128.{Leb128}

-- the bytes of an encoded number
abbrev pub encoded : Leb128 → List ℕ
encoded l = take l.len l.bytes
