use Rattle.std.proofs.Common.{◌+◌, cond, [], refl}
use Rattle.trees.specs.Model.{knows, entry_of, named, unname, amend, amended}
use Rattle.trees.specs.Growth.{Deed.attribute_deleted, amends}
use Rattle.trees.specs.View.{view}
use Rattle.trees.proofs.Places.{lists_of}
use Rattle.trees.proofs.Growths.{grows, edit_grew}
use Rattle.trees.proofs.Laws.{edit_law}
use Rattle.trees.proofs.table.UnitTable.delete.Goals as goal

pub returns : goal.returns
returns c = record {
  outcome = c.try_delete.ensures.outcome;
  declined = c.try_delete.ensures.declined;
  law = λ h S. edit_law (view c.args.self.now.records) h S (knows (view c.args.self.now.records) c.args.id) c.args.id.unit [] c.args.id (amend (unname c.args.name)) (amended (view c.args.self.now.records) c.args.id.entry (unname c.args.name) (cond (named c.args.name (entry_of (view c.args.self.now.records) c.args.id.entry).attributes) ((view c.args.self.now.records).attributes_left + 1) (view c.args.self.now.records).attributes_left)) (λ k. k) refl refl (view c.try_delete.new.self.records, c.try_delete.result) c.try_delete.ensures.outcome (lists_of c.try_delete.new.self.records);
  growth = grows (view c.args.self.now.records) (view c.try_delete.new.self.records) (attribute_deleted c.args.id c.args.name c.try_delete.result) (edit_grew (view c.args.self.now.records) (attribute_deleted c.args.id c.args.name) (knows (view c.args.self.now.records) c.args.id) c.args.id.unit [] c.args.id (amend (unname c.args.name)) (amends (unname c.args.name)) (amended (view c.args.self.now.records) c.args.id.entry (unname c.args.name) (cond (named c.args.name (entry_of (view c.args.self.now.records) c.args.id.entry).attributes) ((view c.args.self.now.records).attributes_left + 1) (view c.args.self.now.records).attributes_left)) (λ k. k) refl (record { none = λ r. refl; done = λ n f. refl; refused = λ n f x. refl }) (λ x. refl) (view c.try_delete.new.self.records, c.try_delete.result) c.try_delete.ensures.outcome);
}
