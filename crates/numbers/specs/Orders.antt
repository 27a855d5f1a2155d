use Rattle.std.specs.Prelude.{ℕ, zero, suc, ◌+◌, ◌*◌, ◌/◌, ◌%◌, ◌^◌, Bool, true, false, cond, List, [], ◌∷◌, ◌++◌, reverse, codes}
use Rattle.numbers.specs.declared.endianity.RunTimeEndian.{RunTimeEndian}
use Rattle.numbers.specs.declared.endianity.RunTimeEndian.TheVariants.{Little, Big}

-- the lowest `size` base-256 digits of a number, low first
abbrev pub digits : ℕ → ℕ → List ℕ
digits zero n = []
digits (suc size) n = (n % 256) ∷ digits size (n / 256)

-- the number with these base-256 digits, low first
abbrev pub number : List ℕ → ℕ
number [] = 0
number (d ∷ ds) = d + 256 * number ds

-- low first turned into an order, and back
abbrev pub ordered : Bool → List ℕ → List ℕ
ordered big ds = cond big (reverse ds) ds

-- the bytes of a number of a size: high first if big-endian, else low first
unfoldable pub bytes_of : Bool → ℕ → ℕ → List ℕ
bytes_of big size n = ordered big (digits size n)

-- sixteen bytes as two halves of eight: the high half first if big-endian, else the low half
abbrev pub halves_of : Bool → ℕ → List ℕ
halves_of big n =
    cond big
    (bytes_of big 8 (n / 2 ^ 64) ++ bytes_of big 8 (n % 2 ^ 64))
    (bytes_of big 8 (n % 2 ^ 64) ++ bytes_of big 8 (n / 2 ^ 64))

-- the number that bytes say in an order
unfoldable pub value_of : Bool → List ℕ → ℕ
value_of big bytes = number (ordered big bytes)

-- whether a byte order chosen at run time is big-endian
abbrev pub is_big : RunTimeEndian → Bool
is_big Little = false
is_big Big = true

-- its name
abbrev pub order_name : RunTimeEndian → List ℕ
order_name Little = codes "little"
order_name Big = codes "big"
