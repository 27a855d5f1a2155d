use Rattle.std.proofs.Common.{◌≡◌, ℕ, ◌+◌, ◌-◌, false, List, [], ◌∷◌, ◌++◌, length, get_or, take, set, sym, refl, ap, ◌∙◌, arith, length-set}
use Rattle.std.proofs.lemmas.List.{get_or-set_same, get_or-set_other, take_more_set}
use Rattle.trees.specs.Lists.{nil, Links, kids}
use Rattle.trees.specs.Model.{new_entry, no_unit}
use Rattle.trees.specs.View.{entries_in, holdings}
use Rattle.trees.specs.declared.records.State.TheVariants.{Root}
use Rattle.trees.specs.declared.records.EntryRecord.{EntryRecord}
use Rattle.trees.specs.declared.records.UnitRecord.{UnitRecord}
use Rattle.trees.proofs.Fresh.{Homes, held, fresh_sound, fresh_view, fresh_left}
use Rattle.trees.proofs.Edits.{view_count, view_units}
use Rattle.trees.proofs.Tables.{same_all}
use Rattle.trees.proofs.records.Records.open_unit.Goals as goal

pub invariant_of-self-2 : goal.invariant_of-self-2
invariant_of-self-2 c =
    let s = c.args.self.now in
    let us = s.units.now in
    let m = s.unit_count in
    let n = s.entry_count in
    let new : UnitRecord = record { encoding = c.args.encoding; line = c.args.line; root = n; written = false } in
    let us' : List UnitRecord = set us m new in
    let at-m : get_or us' m no_unit ≡ new = get_or-set_same us m new no_unit c.requires.units in
    let homes : Homes s.sound m Root 17 c.requires.room us' (m + 1) = record {
      fits = (let z = length-set us m new in let y = s.sound.units_fit in let x = c.requires.units in (omega arith, omega arith));
      grown = omega arith;
      inside = omega arith;
      old = λ v h. ap (λ (x : UnitRecord). x.root) (get_or-set_other us m v new no_unit (λ q. omega arith));
      new = λ v h l. (let q : v ≡ m = omega arith in (ap (λ (x : ℕ). (get_or us' x no_unit).root) q ∙ ap (λ (x : UnitRecord). x.root) at-m, refl, sym q));
    } in
    record { sound = rw c.fresh.ensures (fresh_sound s.sound m Root 17 c.requires.room us' (m + 1) homes refl) }

pub returns : goal.returns
returns c =
    let s = c.args.self.now in
    let us = s.units.now in
    let m = s.unit_count in
    let es = s.entries.now in
    let n = s.entry_count in
    let ats = s.attributes.now in
    let room = c.requires.room in
    let new : UnitRecord = record { encoding = c.args.encoding; line = c.args.line; root = n; written = false } in
    record {
      view = same_all
          (take_more_set us m new c.requires.units ∙ ap (λ (x : ℕ). take m us ++ record { encoding = c.args.encoding; line = c.args.line; root = x; written = false } ∷ []) (sym (view_count s)))
          (ap (λ (r : EntryRecord). entries_in (set es n r) (n + 1) ats s.free) c.fresh.ensures ∙ (fresh_view s.sound m Root 17 room
          ∙ ap (λ (x : ℕ). entries_in es n ats s.free ++ new_entry x Root 17 ∷ []) (sym (view_units s))))
          (let z = length-set us m new in omega arith)
          (ap (λ (r : EntryRecord). length (set es n r) - (n + 1)) c.fresh.ensures ∙ fresh_left s.sound m Root 17 room)
          (ap (λ (r : EntryRecord). (length ats - s.attribute_count) + length (kids (holdings (set es n r) (n + 1) ats s.free) (length ats) nil)) c.fresh.ensures
          ∙ ap (λ (L : Links). (length ats - s.attribute_count) + length (kids L (length ats) nil)) (held s.sound m Root 17 room));
    }
