use Rattle.std.proofs.Common.{sym, ◌∙◌, arith}
use Rattle.std.proofs.lemmas.Bool.{cond-false}
use Rattle.trees.specs.Lists.{nil}
use Rattle.trees.proofs.Edits.{known}
use Rattle.trees.proofs.table.UnitTable.first_attribute.Goals as goal

pub returns-then-not-knows : goal.returns-then-not-knows
unfolding nil
returns-then-not-knows c = sym (cond-false _ _ _ (sym c.knows.ensures ∙ c.if-not-knows.true))

pub bounds-self-id : goal.bounds-self-id
bounds-self-id c = let t = c.args.self.now in let k = (known t.records c.args.id (sym c.knows.ensures ∙ c.if-not-knows.false)).used in let z = t.records.sound.entries_fit in omega arith
