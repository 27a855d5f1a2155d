-- LEB128, as the DWARF standard has it: version 5, section 7.6
use Rattle.std.specs.Prelude.{◌≡◌, ℕ, zero, suc, ◌+◌, ◌-◌, ◌*◌, ◌/◌, ◌%◌, ◌≤◌, Bool, cond, List, [], ◌∷◌, ◌++◌, length, ℤ, pos, negsuc, ◌+ℤ◌, ◌-ℤ◌, ◌*ℤ◌, Some, None, Option, nat_lt}
use lib.Signed.{mag}

-- how numbers of a kind are taken apart into groups of seven bits, and put together
pub record Grouping (N : Type 0) : Type 0 where
  -- the low seven bits
  pub low : N → ℕ
  -- what they leave
  pub rest : N → N
  -- whether they show the whole number
  pub is_last : N → Bool
  -- what a last byte shows
  pub last : ℕ → N
  -- seven bits below a number
  pub joined : ℕ → N → N
  -- how far a number reaches: seven bits show those below 64
  pub reach : N → ℕ

-- at most `room` bytes of seven bits each, low first, with bit 7 set where more follow
abbrev pub leb_in : {N : Type 0} → Grouping N → ℕ → N → List ℕ
leb_in g zero n = []
leb_in g (suc room) n = cond (g.is_last n) (g.low n ∷ []) ((g.low n + 128) ∷ leb_in g room (g.rest n))

-- the LEB128 of a 64-bit number
unfoldable pub leb : {N : Type 0} → Grouping N → N → List ℕ
leb g n = leb_in g 10 n

-- a byte before others: its low seven bits below the number that those say
abbrev pub above : {N : Type 0} → Grouping N → ℕ → Option (N × List ℕ) → Option (N × List ℕ)
above g b None = None
above g b (Some p) = Some (g.joined (b % 128) p.0, p.1)

-- the number at the front of the bytes, and what follows it
unfoldable pub read_leb : {N : Type 0} → Grouping N → List ℕ → Option (N × List ℕ)
read_leb g [] = None
read_leb g (b ∷ bs) = cond (nat_lt b 128) (Some (g.last b, bs)) (above g b (read_leb g bs))

-- unsigned numbers
abbrev pub unsigned : Grouping ℕ
unsigned = record {
  low = λ n. n % 128;
  rest = λ n. n / 128;
  is_last = λ n. nat_lt n 128;
  last = λ b. b;
  joined = λ d n. d + 128 * n;
  reach = λ n. n / 2;
}

-- the low seven bits of a number in two's complement
abbrev pub low7 : ℤ → ℕ
low7 (pos n) = n % 128
low7 (negsuc n) = 127 - n % 128

-- what the arithmetic shift by seven leaves: the number divided by 128, rounded down
abbrev pub rest7 : ℤ → ℤ
rest7 (pos n) = pos (n / 128)
rest7 (negsuc n) = negsuc (n / 128)

-- whether all above bit 6 is the sign that bit 6 shows: the number is from -64 to 63
abbrev pub is_short_number : ℤ → Bool
is_short_number (pos n) = nat_lt n 64
is_short_number (negsuc n) = nat_lt n 64

-- the last byte: bit 6 is the sign, and stands for all bits above
abbrev pub sign_extended : ℕ → ℤ
sign_extended b = cond (nat_lt b 64) (pos b) (pos b -ℤ pos 128)

-- signed numbers
abbrev pub signed : Grouping ℤ
signed = record {
  low = low7;
  rest = rest7;
  is_last = is_short_number;
  last = sign_extended;
  joined = λ d z. pos d +ℤ pos 128 *ℤ z;
  reach = mag;
}

-- the unsigned LEB128 of a 64-bit number, and the signed one
abbrev pub uleb : ℕ → List ℕ
uleb n = leb unsigned n

abbrev pub sleb : ℤ → List ℕ
sleb z = leb signed z

-- bytes read as a number, whatever follows them
abbrev pub Reads : {N : Type 0} → (List ℕ → Option (N × List ℕ)) → N → List ℕ → Type 0
Reads read n bytes = (rest : List ℕ) → read (bytes ++ rest) ≡ Some (n, rest)

-- no bytes that read as the number are fewer
abbrev pub Shortest : {N : Type 0} → (List ℕ → Option (N × List ℕ)) → N → List ℕ → Type 0
Shortest read n bytes = (xs rest : List ℕ) → read xs ≡ Some (n, rest) → length bytes + length rest ≤ length xs
