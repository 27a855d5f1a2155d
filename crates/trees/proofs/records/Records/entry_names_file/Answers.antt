use Rattle.std.proofs.Common.{ℕ, List, map, sym, ap, ◌∙◌, of_calls}
use Rattle.std.proofs.lemmas.Bool.{lt-ltb, cond-true}
use Rattle.std.specs.List.{list_any}
use Rattle.trees.specs.declared.chain.Chain.{Chain}
use Rattle.trees.specs.declared.records.AttributeRecord.{AttributeRecord}
use Rattle.trees.specs.Attributes.{attribute_in}
use Rattle.trees.specs.Counts.{names_file, any_file}
use Rattle.trees.specs.Left.{numbers_left, records_left}
use Rattle.trees.proofs.Counting.{files_in}
use Rattle.trees.proofs.Runs.{answered}
use Rattle.trees.proofs.Values.{view_attributes}
use Rattle.trees.proofs.Walks.{from}
use Rattle.trees.proofs.records.Records.entry_names_file.Goals as goal

pub new-requires : goal.new-requires
new-requires c =
    let s = c.args.self.now in
    let f = from s c.args.e _ (cond-true _ _ _ (lt-ltb c.args.e s.entry_count c.requires.used)) in
    record { ends = f.0; lies = f.1 }

pub returns : goal.returns
returns c =
    let s = c.args.self.now in
    let f = from s c.args.e _ (cond-true _ _ _ (lt-ltb c.args.e s.entry_count c.requires.used)) in
    let v = view_attributes s c.args.e c.requires.used in
    let r = c.any.ensures.runs in
    let n = c.new.result in
    let z = answered _ _ (λ x. names_file x.1.attribute.value) r.0 (records_left r.0.from) (c.new.ensures.runs r.0 r.0.seen) (search of_calls) c.any.result r.2 in
    z ∙ (ap (λ (x : Chain AttributeRecord _). list_any (λ (y : ℕ × AttributeRecord). names_file y.1.attribute.value) (records_left x)) r.1
    ∙ (files_in n.records.now (numbers_left n)
    ∙ (ap (λ (ats : List AttributeRecord). any_file (map (attribute_in ats) (numbers_left n))) c.new.ensures.records
    ∙ (ap (λ (ns : List ℕ). any_file (map (attribute_in s.attributes.now) ns)) (c.new.ensures.list ∙ f.2)
    ∙ sym (ap any_file v)))))
