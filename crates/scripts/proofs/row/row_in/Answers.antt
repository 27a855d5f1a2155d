use Rattle.std.proofs.Common.{◌==◌, rules, tests}
use Rattle.std.proofs.lemmas.Iterator.{YieldsList-from_slice}
use Rattle.std.proofs.lemmas.Iterator.Search.{find_from_yields_List}
use Rattle.scripts.specs.declared.row.Row.{Row}
use Rattle.scripts.proofs.row.row_in.Goals as goal

pub returns : goal.returns
returns c = find_from_yields_List (λ (row : Row). row.code == c.args.code) _ _ c.find.result c.find.ensures.ran (YieldsList-from_slice c.args.rows.now cc) (λ x b q k. search (rules, tests))
