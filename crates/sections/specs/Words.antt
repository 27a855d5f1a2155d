use Rattle.std.specs.Prelude.{ℕ, ◌-◌, Bool, cond, List, take, drop}

-- the bytes of a word out of the eight bytes of its number
abbrev pub significant : Bool → ℕ → List ℕ → List ℕ
significant big size eight = cond big (drop (8 - size) eight) (take size eight)
