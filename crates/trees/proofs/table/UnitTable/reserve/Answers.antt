use Rattle.trees.specs.Growth.{Deed.reserved}
use Rattle.trees.specs.View.{view}
use Rattle.trees.proofs.Places.{lists_of}
use Rattle.trees.proofs.Growths.{grows, reserve_grew}
use Rattle.trees.proofs.Laws.{reserve_law}
use Rattle.trees.proofs.table.UnitTable.reserve.Goals as goal

pub returns : goal.returns
returns c = record {
  outcome = c.try_reserve.ensures.outcome;
  declined = c.try_reserve.ensures.declined;
  law = λ h S. reserve_law (view c.args.self.now.records) h S c.args.unit (view c.try_reserve.new.self.records, c.try_reserve.result) c.try_reserve.ensures.outcome (lists_of c.try_reserve.new.self.records);
  growth = grows (view c.args.self.now.records) (view c.try_reserve.new.self.records) (reserved c.args.unit c.try_reserve.result) (reserve_grew (view c.args.self.now.records) c.args.unit (view c.try_reserve.new.self.records, c.try_reserve.result) c.try_reserve.ensures.outcome);
}
