use Rattle.std.proofs.Common.{length, ap, ◌∙◌, inl, arith}
use Rattle.trees.specs.Attributes.{lists}
use Rattle.trees.specs.Lists.{nil}
use Rattle.trees.proofs.Families.{chain_short}
use Rattle.trees.proofs.Holdings.{first_free}
use Rattle.trees.proofs.Runs.{counted}
use Rattle.trees.proofs.Walks.{from}
use Rattle.trees.proofs.records.Records.count_free.Goals as goal

pub new-requires : goal.new-requires
new-requires c =
    let s = c.args.self.now in
    let f = from s nil s.free (first_free s.sound s.free) in
    record { ends = f.0; lies = f.1 }

pub count-requires-clause-fits : goal.count-requires-clause-fits
count-requires-clause-fits c =
    let s = c.args.self.now in
    let z = chain_short (lists s).next (length s.attributes.now) s.free in
    let e = ap length c.new.ensures.list in
    let y = c.args.self.now.sound.attributes_fit in
    inl (omega arith)

pub returns : goal.returns
returns c =
    let s = c.args.self.now in
    let f = from s nil s.free (first_free s.sound s.free) in
    counted _ c.new.result c.count.result c.count.ensures.runs ∙ (ap length c.new.ensures.list ∙ ap length f.2)
