use Rattle.std.proofs.Common.{◌-◌, cond, refl}
use Rattle.trees.specs.Model.{knows, entry_of, named, put, amend, amended}
use Rattle.trees.specs.Growth.{Deed.attribute_set, amends}
use Rattle.trees.specs.View.{view}
use Rattle.trees.proofs.Places.{lists_of}
use Rattle.trees.proofs.Growths.{grows, edit_grew}
use Rattle.trees.proofs.Laws.{edit_law}
use Rattle.trees.proofs.Values.{set_checks}
use Rattle.trees.proofs.table.UnitTable.set.Goals as goal

pub returns : goal.returns
returns c = record {
  outcome = c.try_set.ensures.outcome;
  declined = c.try_set.ensures.declined;
  law = λ h S. edit_law (view c.args.self.now.records) h S (knows (view c.args.self.now.records) c.args.id) c.args.id.unit (set_checks (view c.args.self.now.records) c.args.id.entry c.args.name c.args.value) c.args.id (amend (put (record { name = c.args.name; value = c.args.value }))) (amended (view c.args.self.now.records) c.args.id.entry (put (record { name = c.args.name; value = c.args.value })) (cond (named c.args.name (entry_of (view c.args.self.now.records) c.args.id.entry).attributes) (view c.args.self.now.records).attributes_left ((view c.args.self.now.records).attributes_left - 1))) (λ k. k) refl refl (view c.try_set.new.self.records, c.try_set.result) c.try_set.ensures.outcome (lists_of c.try_set.new.self.records);
  growth = grows (view c.args.self.now.records) (view c.try_set.new.self.records) (attribute_set c.args.id c.args.name c.args.value c.try_set.result) (edit_grew (view c.args.self.now.records) (attribute_set c.args.id c.args.name c.args.value) (knows (view c.args.self.now.records) c.args.id) c.args.id.unit (set_checks (view c.args.self.now.records) c.args.id.entry c.args.name c.args.value) c.args.id (amend (put (record { name = c.args.name; value = c.args.value }))) (amends (put (record { name = c.args.name; value = c.args.value }))) (amended (view c.args.self.now.records) c.args.id.entry (put (record { name = c.args.name; value = c.args.value })) (cond (named c.args.name (entry_of (view c.args.self.now.records) c.args.id.entry).attributes) (view c.args.self.now.records).attributes_left ((view c.args.self.now.records).attributes_left - 1))) (λ k. k) refl (record { none = λ r. refl; done = λ n f. refl; refused = λ n f x. refl }) (λ x. refl) (view c.try_set.new.self.records, c.try_set.result) c.try_set.ensures.outcome);
}
