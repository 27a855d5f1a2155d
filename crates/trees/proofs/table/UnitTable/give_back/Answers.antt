use Rattle.trees.specs.Growth.{Deed.gave_back}
use Rattle.trees.specs.View.{view}
use Rattle.trees.proofs.Places.{lists_of}
use Rattle.trees.proofs.Growths.{grows, back_grew}
use Rattle.trees.proofs.Laws.{back_law}
use Rattle.trees.proofs.table.UnitTable.give_back.Goals as goal

pub returns : goal.returns
returns c = record {
  outcome = c.try_give_back.ensures.outcome;
  declined = c.try_give_back.ensures.declined;
  law = λ h S. back_law (view c.args.self.now.records) h S c.args.reservation (view c.try_give_back.new.self.records, c.try_give_back.result) c.try_give_back.ensures.outcome (lists_of c.try_give_back.new.self.records);
  growth = grows (view c.args.self.now.records) (view c.try_give_back.new.self.records) (gave_back c.args.reservation c.try_give_back.result) (back_grew (view c.args.self.now.records) c.args.reservation (view c.try_give_back.new.self.records, c.try_give_back.result) c.try_give_back.ensures.outcome);
}
