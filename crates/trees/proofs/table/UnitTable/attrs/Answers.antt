use Rattle.std.proofs.Common.{rules}
use Rattle.trees.proofs.Runs.{attributes_in_order}
use Rattle.trees.proofs.Walks.{begun_attributes}
use Rattle.trees.proofs.table.UnitTable.attrs.Goals as goal

pub new-requires : goal.new-requires
new-requires c = let b = begun_attributes c.args.self.now.records c.args.id c.first_attribute.result c.first_attribute.ensures in record { ends = b.0; lies = b.1 }

pub returns-clause-list : goal.returns-clause-list
returns-clause-list c = let b = begun_attributes c.args.self.now.records c.args.id c.first_attribute.result c.first_attribute.ensures in search rules

pub returns-clause-runs : goal.returns-clause-runs
returns-clause-runs c = attributes_in_order
