use Rattle.trees.specs.Growth.{Deed.entry_added}
use Rattle.trees.specs.View.{view}
use Rattle.trees.proofs.Places.{lists_of}
use Rattle.trees.proofs.Growths.{grows, add_grew}
use Rattle.trees.proofs.Laws.{add_law}
use Rattle.trees.proofs.table.UnitTable.add_entry.Goals as goal

pub returns : goal.returns
returns c = record {
  outcome = c.try_add_entry.ensures.outcome;
  declined = c.try_add_entry.ensures.declined;
  law = λ h S. add_law (view c.args.self.now.records) h S c.args.parent c.args.tag (view c.try_add_entry.new.self.records, c.try_add_entry.result) c.try_add_entry.ensures.outcome (lists_of c.try_add_entry.new.self.records);
  growth = grows (view c.args.self.now.records) (view c.try_add_entry.new.self.records) (entry_added c.args.parent c.args.tag c.try_add_entry.result) (add_grew (view c.args.self.now.records) c.args.parent c.args.tag (view c.try_add_entry.new.self.records, c.try_add_entry.result) c.try_add_entry.ensures.outcome);
}
