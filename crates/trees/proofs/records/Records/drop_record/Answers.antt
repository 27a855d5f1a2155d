use Rattle.std.proofs.Common.{get_or, refl, arith, length-set}
use Rattle.trees.specs.declared.records.AttributeRecord.{AttributeRecord}
use Rattle.trees.specs.Lists.{nil}
use Rattle.trees.specs.View.{no_attribute}
use Rattle.trees.proofs.Tables.{same_table}
use Rattle.trees.proofs.Holdings.{drop_sound, drop_view, drop_left}
use Rattle.trees.proofs.records.Records.drop_record.Goals as goal

pub invariant_of-self : goal.invariant_of-self
unfolding nil
invariant_of-self c =
    let s = c.args.self.now in
    record { sound = drop_sound s.sound c.args.a _ c.requires.small c.requires.loose refl refl refl }

pub returns : goal.returns
unfolding nil
returns c =
    let s = c.args.self.now in
    let old = get_or s.attributes.now c.args.a no_attribute in
    let r : AttributeRecord = record { attribute = old.attribute; owner = 65535; next = s.free } in
    let z = drop_left s.sound c.args.a r c.requires.small c.requires.loose refl refl refl in
    record {
      view = same_table (drop_view s.sound c.args.a r c.requires.small c.requires.loose refl refl refl) refl (let y = length-set s.attributes.now c.args.a r in omega arith);
    }
