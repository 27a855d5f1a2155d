use Rattle.trees.proofs.Runs.{records_in_order}
use Rattle.trees.proofs.chain.Chain.new.Goals as goal

pub returns-clause-runs : goal.returns-clause-runs
returns-clause-runs g c = records_in_order g.R.Linked
