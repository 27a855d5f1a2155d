use Rattle.std.proofs.Common.{length, get_or, refl, ap, arith, length-set}
use Rattle.trees.specs.declared.records.AttributeRecord.{AttributeRecord}
use Rattle.trees.specs.View.{no_attribute}
use Rattle.trees.proofs.Tables.{same_table}
use Rattle.trees.proofs.Holdings.{replace_sound, replace_view, replace_left}
use Rattle.trees.proofs.Values.{found_in}
use Rattle.trees.proofs.records.Records.replace.Goals as goal

pub bounds-self-place : goal.bounds-self-place
bounds-self-place c =
    let s = c.args.self.now in
    let k = found_in s c.args.e c.args.attribute.name c.args.place c.requires.found in
    let z = s.sound.attributes_fit in omega arith

pub invariant_of-self : goal.invariant_of-self
invariant_of-self c =
    let s = c.args.self.now in
    let w = c.requires.found in
    record { sound = replace_sound s.sound c.args.e c.args.place.at _ c.requires.used refl refl w.behind w.ahead w.list w.first w.same }

pub returns : goal.returns
returns c =
    let s = c.args.self.now in
    let old = get_or s.attributes.now c.args.place.at no_attribute in
    let r : AttributeRecord = record { attribute = c.args.attribute; owner = old.owner; next = old.next } in
    let w = c.requires.found in
    record {
      view = same_table (replace_view s.sound c.args.e c.args.place.at r c.requires.used refl refl w.behind w.ahead w.list w.first w.same) refl
          (let z = ap length (replace_left s.sound c.args.e c.args.place.at r c.requires.used refl refl w.behind w.ahead w.list w.first w.same) in let y = length-set s.attributes.now c.args.place.at r in omega arith);
    }
