use Rattle.std.specs.Prelude.{ℕ, List, Option, ◌==◌, find, option_map}
use Rattle.scripts.specs.declared.row.Row.{Row}

-- the name of a code: that of the first row with the code
abbrev pub name_in_rows : List Row → ℕ → Option (List ℕ)
name_in_rows rows code = option_map (λ row. row.name.now) (find (λ row. row.code == code) rows)
