use Rattle.trees.specs.Growth.{Deed.child_deleted}
use Rattle.trees.specs.View.{view}
use Rattle.trees.proofs.Places.{lists_of}
use Rattle.trees.proofs.Growths.{grows, delete_grew}
use Rattle.trees.proofs.Laws.{delete_law}
use Rattle.trees.proofs.table.UnitTable.delete_child.Goals as goal

pub returns : goal.returns
returns c = record {
  outcome = c.try_delete_child.ensures.outcome;
  declined = c.try_delete_child.ensures.declined;
  absent = c.try_delete_child.ensures.absent;
  law = λ h S. delete_law (view c.args.self.now.records) h S c.args.parent c.args.child (view c.try_delete_child.new.self.records, c.try_delete_child.result) c.try_delete_child.ensures.outcome (lists_of c.try_delete_child.new.self.records);
  growth = grows (view c.args.self.now.records) (view c.try_delete_child.new.self.records) (child_deleted c.args.parent c.args.child c.try_delete_child.result) (delete_grew (view c.args.self.now.records) c.args.parent c.args.child (view c.try_delete_child.new.self.records, c.try_delete_child.result) c.try_delete_child.ensures.outcome);
}
