-- How a session begins.
use Rattle.std.specs.Prelude.{◌≡◌, ℕ, min, List, [], ◌∷◌, length, drop, ◌⊎◌, Some, codes, slice_index, slice_index_or, string_bytes}
use Rattle.numbers.specs.Orders.{order_name}
use Rattle.texts.specs.Texts.{number_of}
use Rattle.scripts.specs.declared.line.Opening.{Opening}
use Rattle.scripts.specs.declared.line.Line.{Line}
use Rattle.scripts.specs.declared.line.Line.TheVariants as line
use Rattle.scripts.specs.Calls.{call_verb, CallFrom}
use Rattle.scripts.specs.Verbs.{word_of}

-- the number that a text says, cut to the most
abbrev pub Records : List ℕ → ℕ → ℕ → Type 0
Records text most n = (m : ℕ) × (number_of text ≡ Some m) × (n ≡ min m most)

-- no numbers of records are written: the most
abbrev pub HasMost : Opening → List (List ℕ) → Type 0
HasMost x ws = (length ws ≡ 2) × (x.units ≡ 64) × (x.entries ≡ 65535) × (x.attributes ≡ 65535)

-- the words of a session's beginning
abbrev pub OpeningFrom : Opening → List (List ℕ) → Type 0
OpeningFrom x ws = (string_bytes x.name ≡ slice_index_or ws 0 []) × (order_name x.endian ≡ slice_index_or ws 1 []) × (HasMost x ws ⊎ (Records (slice_index_or ws 2 []) 64 x.units × Records (slice_index_or ws 3 []) 65535 x.entries × Records (slice_index_or ws 4 []) 65535 x.attributes))

-- a line without words, or one that begins with a `#`
abbrev pub SaysNothing : List (List ℕ) → Type 0
SaysNothing [] = Unit {0}
SaysNothing (w ∷ ws) = slice_index w 0 ≡ 35

-- the words of a line
abbrev pub LineSays : Line → List (List ℕ) → List ℕ → Type 0
LineSays line.Empty ws pool = SaysNothing ws
LineSays (line.Session x) ws pool = (slice_index_or ws 0 [] ≡ codes "session") × OpeningFrom x (drop 1 ws)
LineSays line.End ws pool = ws ≡ codes "end" ∷ []
LineSays (line.Call x) ws pool = (slice_index_or ws 0 [] ≡ word_of (call_verb x)) × CallFrom x (drop 1 ws) pool
