use Rattle.std.specs.Prelude.{◌≡◌, ℕ, List, [], ◌∷◌, pos, negsuc}
use Rattle.numbers.specs.Leb.{uleb, sleb}

-- the bytes that a definition gives, and the bytes that are right
pub record Case : Type 0 where
  pub gives : List ℕ
  pub right : List ℕ

-- each case comes out right
abbrev pub Right : List Case → Type 0
Right [] = Unit {0}
Right (c ∷ cs) = (c.gives ≡ c.right) × Right cs

-- numbers in LEB128: unsigned, then signed, at the ends of one byte and of 64 bits
abbrev pub cases : List Case
cases =
    record { gives = uleb 0; right = 0x00 ∷ [] }
    ∷ record { gives = uleb 127; right = 0x7f ∷ [] }
    ∷ record { gives = uleb 128; right = 0x80 ∷ 0x01 ∷ [] }
    ∷ record { gives = uleb 0xffff_ffff_ffff_ffff; right = 0xff ∷ 0xff ∷ 0xff ∷ 0xff ∷ 0xff ∷ 0xff ∷ 0xff ∷ 0xff ∷ 0xff ∷ 0x01 ∷ [] }
    ∷ record { gives = sleb (negsuc 0); right = 0x7f ∷ [] }
    ∷ record { gives = sleb (pos 63); right = 0x3f ∷ [] }
    ∷ record { gives = sleb (pos 64); right = 0xc0 ∷ 0x00 ∷ [] }
    ∷ record { gives = sleb (negsuc 63); right = 0x40 ∷ [] }
    ∷ record { gives = sleb (negsuc 64); right = 0xbf ∷ 0x7f ∷ [] }
    ∷ record { gives = sleb (negsuc 0x7fff_ffff_ffff_ffff); right = 0x80 ∷ 0x80 ∷ 0x80 ∷ 0x80 ∷ 0x80 ∷ 0x80 ∷ 0x80 ∷ 0x80 ∷ 0x80 ∷ 0x7f ∷ [] }
    ∷ []
