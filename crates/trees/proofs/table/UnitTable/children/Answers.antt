use Rattle.std.proofs.Common.{rules}
use Rattle.trees.proofs.Runs.{children_in_order}
use Rattle.trees.proofs.Walks.{begun}
use Rattle.trees.proofs.table.UnitTable.children.Goals as goal

pub new-requires : goal.new-requires
new-requires c = let b = begun c.args.self.now.records c.args.id c.first_child.result c.first_child.ensures in record { ends = b.0; lies = b.1 }

pub returns-clause-list : goal.returns-clause-list
returns-clause-list c = let b = begun c.args.self.now.records c.args.id c.first_child.result c.first_child.ensures in search rules

pub returns-clause-runs : goal.returns-clause-runs
returns-clause-runs c = children_in_order
