-- A list of records from one on, along what a record says is after it; `past` is what stands past the end of the memory.
use Rattle.std.specs.Prelude.{◌≡◌, ℕ, ◌<◌, List, length, slice_index_or}
use Rattle.trees.specs.Lists.{nil, chain, stop, Mem}

module _ {R : Type 0} (past : R) (after : R → ℕ) where
  -- the record after another, by their numbers
  abbrev pub after_in : List R → ℕ → ℕ
  after_in rs i = after (slice_index_or rs i past)

  -- the records from a on
  abbrev pub chain_from : List R → ℕ → List ℕ
  chain_from rs a = chain (after_in rs) (length rs) a

  -- they end, and lie in the memory
  abbrev pub ChainEnds : List R → ℕ → Type 0
  ChainEnds rs a = stop (after_in rs) (length rs) a ≡ nil

  abbrev pub ChainLies : List R → ℕ → Type 0
  ChainLies rs a = (c : ℕ) → Mem c (chain_from rs a) → c < length rs
