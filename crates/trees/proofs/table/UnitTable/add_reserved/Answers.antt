use Rattle.trees.specs.Growth.{Deed.reserved_added}
use Rattle.trees.specs.View.{view}
use Rattle.trees.proofs.Places.{lists_of}
use Rattle.trees.proofs.Growths.{grows, reserved_grew}
use Rattle.trees.proofs.Laws.{reserved_law}
use Rattle.trees.proofs.table.UnitTable.add_reserved.Goals as goal

pub returns : goal.returns
returns c = record {
  outcome = c.try_add_reserved.ensures.outcome;
  declined = c.try_add_reserved.ensures.declined;
  law = λ h S. reserved_law (view c.args.self.now.records) h S c.args.reservation c.args.parent c.args.tag (view c.try_add_reserved.new.self.records, c.try_add_reserved.result) c.try_add_reserved.ensures.outcome (lists_of c.try_add_reserved.new.self.records);
  growth = grows (view c.args.self.now.records) (view c.try_add_reserved.new.self.records) (reserved_added c.args.reservation c.args.parent c.args.tag c.try_add_reserved.result) (reserved_grew (view c.args.self.now.records) c.args.reservation c.args.parent c.args.tag (view c.try_add_reserved.new.self.records, c.try_add_reserved.result) c.try_add_reserved.ensures.outcome);
}
