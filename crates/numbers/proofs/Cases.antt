use Rattle.std.proofs.Common.{List, [], ◌∷◌, ◌++◌}
use Rattle.numbers.specs.Cases.{Case, Right}

-- one table after another
pub right-++ : (xs ys : List Case) → Right xs → Right ys → Right (xs ++ ys)
right-++ [] ys p q = q
right-++ (x ∷ xs) ys p q = (p.0, right-++ xs ys p.1 q)
