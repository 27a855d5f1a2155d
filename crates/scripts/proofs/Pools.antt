use Rattle.std.proofs.Common.{◌≡◌, ℕ, ◌≤◌, List, ◌++◌, length, take, drop, sym, ap, ◌∙◌, arith}
use Rattle.std.proofs.lemmas.List.{drop_at, take_all}

-- what was put at the end of a pool is there
pub put_last : (pool xs pool' : List ℕ) (start size : ℕ) → pool' ≡ pool ++ xs → start ≡ length pool → size ≡ length xs → take size (drop start pool') ≡ xs
put_last pool xs pool' start size p s n =
    let k : length xs ≤ size = omega arith in
    ap (λ l. take size (drop start l)) p ∙ ap (take size) (drop_at pool xs start (sym s)) ∙ take_all size xs k
