-- What a session says of its table.
use Rattle.std.specs.Prelude.{ℕ, List, [], ◌∷◌, ◌++◌}
use Rattle.trees.specs.declared.records.Reservation.{Reservation}
use Rattle.trees.specs.Growth.{Deeds, Tells}
use Rattle.trees.specs.Model.{Entry, Table, give_back}

-- the unit of each entry of a table
abbrev pub units_in : List Entry → List ℕ
units_in [] = []
units_in (e ∷ es) = e.unit ∷ units_in es

-- what calls and answers tell of one table they tell, with more of them, of another
abbrev pub Leads : Table → Table → Type 0
Leads t t' = (h : Deeds) → Tells h t → (more : Deeds) × Tells (more ++ h) t'

-- what a table holds is what some calls and their answers tell
abbrev pub IsTold : Table → Type 0
IsTold t = (h : Deeds) × Tells h t

-- a table after reservations are given back, the last first
abbrev pub after_giving_back : List Reservation → Table → Table
after_giving_back [] t = t
after_giving_back (r ∷ rs) t = (give_back (after_giving_back rs t) r).0
