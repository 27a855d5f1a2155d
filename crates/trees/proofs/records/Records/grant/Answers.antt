use Rattle.std.proofs.Common.{◌+◌, ◌-◌, length, set, refl, ap, ◌∙◌, arith}
use Rattle.trees.specs.Lists.{nil, Links, kids}
use Rattle.trees.specs.View.{entries_in, holdings}
use Rattle.trees.specs.declared.records.State.TheVariants.{Waiting}
use Rattle.trees.specs.declared.records.EntryRecord.{EntryRecord}
use Rattle.trees.proofs.Fresh.{Homes, held, fresh_sound, fresh_view, fresh_left}
use Rattle.trees.proofs.Tables.{same_table}
use Rattle.trees.proofs.records.Records.grant.Goals as goal

pub invariant_of-self : goal.invariant_of-self
invariant_of-self c =
    let s = c.args.self.now in
    let u = c.args.unit in
    let homes : Homes s.sound u Waiting 0 c.requires.room s.units.now s.unit_count = record { fits = s.sound.units_fit; grown = omega arith; inside = c.requires.unit; old = λ v h. refl; new = λ v h l. absurd (omega arith) } in
    record { sound = rw c.fresh.ensures (fresh_sound s.sound u Waiting 0 c.requires.room s.units.now s.unit_count homes refl) }

pub returns : goal.returns
returns c =
    let s = c.args.self.now in
    let n = s.entry_count in
    let ats = s.attributes.now in
    let u = c.args.unit in
    let room = c.requires.room in
    record {
      view = same_table
          (ap (λ (r : EntryRecord). entries_in (set s.entries.now n r) (n + 1) ats s.free) c.fresh.ensures ∙ fresh_view s.sound u Waiting 0 room)
          (ap (λ (r : EntryRecord). length (set s.entries.now n r) - (n + 1)) c.fresh.ensures ∙ fresh_left s.sound u Waiting 0 room)
          (ap (λ (r : EntryRecord). (length ats - s.attribute_count) + length (kids (holdings (set s.entries.now n r) (n + 1) ats s.free) (length ats) nil)) c.fresh.ensures
          ∙ ap (λ (L : Links). (length ats - s.attribute_count) + length (kids L (length ats) nil)) (held s.sound u Waiting 0 room));
      count = refl;
    }
