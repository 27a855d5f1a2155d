use Rattle.trees.specs.Growth.{Deed.unit_added}
use Rattle.trees.specs.View.{view}
use Rattle.trees.proofs.Places.{lists_of}
use Rattle.trees.proofs.Growths.{grows, unit_grew}
use Rattle.trees.proofs.Laws.{unit_law}
use Rattle.trees.proofs.table.UnitTable.add.Goals as goal

pub returns : goal.returns
returns c = record {
  outcome = c.try_add.ensures.outcome;
  declined = c.try_add.ensures.declined;
  law = λ h S. unit_law (view c.args.self.now.records) h S c.args.encoding c.args.line (view c.try_add.new.self.records, c.try_add.result) c.try_add.ensures.outcome (lists_of c.try_add.new.self.records);
  growth = grows (view c.args.self.now.records) (view c.try_add.new.self.records) (unit_added c.args.encoding c.args.line c.try_add.result) (unit_grew (view c.args.self.now.records) c.args.encoding c.args.line (view c.try_add.new.self.records, c.try_add.result) c.try_add.ensures.outcome);
}
