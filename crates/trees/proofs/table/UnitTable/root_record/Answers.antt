use Rattle.std.proofs.Common.{sym, ◌∙◌}
use Rattle.std.proofs.lemmas.Bool.{cond-false}
use Rattle.trees.specs.Lists.{nil}
use Rattle.trees.proofs.table.UnitTable.root_record.Goals as goal

pub returns-then-not-knows_unit : goal.returns-then-not-knows_unit
unfolding nil
returns-then-not-knows_unit c = sym (cond-false _ _ _ (sym c.knows_unit.ensures ∙ c.if-not-knows_unit.true))
