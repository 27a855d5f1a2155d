use Rattle.std.proofs.Common.{[], refl}
use Rattle.trees.specs.Model.{knows, flagged, with_entries, change}
use Rattle.trees.specs.Growth.{Deed.sibling_set, flags}
use Rattle.trees.specs.View.{view}
use Rattle.trees.proofs.Places.{lists_of}
use Rattle.trees.proofs.Growths.{grows, edit_grew}
use Rattle.trees.proofs.Laws.{edit_law}
use Rattle.trees.proofs.table.UnitTable.set_sibling.Goals as goal

pub returns : goal.returns
returns c = record {
  outcome = c.try_set_sibling.ensures.outcome;
  declined = c.try_set_sibling.ensures.declined;
  law = λ h S. edit_law (view c.args.self.now.records) h S (knows (view c.args.self.now.records) c.args.id) c.args.id.unit [] c.args.id (flagged c.args.sibling) (with_entries (view c.args.self.now.records) (change c.args.id.entry (flagged c.args.sibling) (view c.args.self.now.records).entries)) (λ k. k) refl refl (view c.try_set_sibling.new.self.records, c.try_set_sibling.result) c.try_set_sibling.ensures.outcome (lists_of c.try_set_sibling.new.self.records);
  growth = grows (view c.args.self.now.records) (view c.try_set_sibling.new.self.records) (sibling_set c.args.id c.args.sibling c.try_set_sibling.result) (edit_grew (view c.args.self.now.records) (sibling_set c.args.id c.args.sibling) (knows (view c.args.self.now.records) c.args.id) c.args.id.unit [] c.args.id (flagged c.args.sibling) (flags c.args.sibling) (with_entries (view c.args.self.now.records) (change c.args.id.entry (flagged c.args.sibling) (view c.args.self.now.records).entries)) (λ k. k) refl (record { none = λ r. refl; done = λ n f. refl; refused = λ n f x. refl }) (λ x. refl) (view c.try_set_sibling.new.self.records, c.try_set_sibling.result) c.try_set_sibling.ensures.outcome);
}
