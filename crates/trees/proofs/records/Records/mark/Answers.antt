use Rattle.std.proofs.Common.{ℕ, ◌-◌, ◌<◌, List, length, get_or, take, set, sym, refl, ap, ◌∙◌, arith, length-set}
use Rattle.trees.specs.declared.records.UnitRecord.{UnitRecord}
use Rattle.trees.specs.Model.{no_unit, as_written}
use Rattle.trees.proofs.Edits.{view_unit}
use Rattle.trees.proofs.Marks.{take_set_in, mark_sound}
use Rattle.trees.proofs.Tables.{same_all}
use Rattle.trees.proofs.records.Records.mark.Goals as goal

pub invariant_of-self : goal.invariant_of-self
invariant_of-self c =
    let s = c.args.self.now in
    let us = s.units.now in
    let h : c.args.u < length us = (let z = s.sound.units_fit in let y = c.requires.used in omega arith) in
    record { sound = rw c.store_written.ensures (mark_sound s.sound c.args.u (as_written (get_or us c.args.u no_unit)) h refl) }

pub returns : goal.returns
returns c =
    let s = c.args.self.now in
    let us = s.units.now in
    let u = c.args.u in
    let x = as_written (get_or us u no_unit) in
    let h : u < length us = (let z = s.sound.units_fit in let y = c.requires.used in omega arith) in
    let q = c.store_written.ensures in
    record {
      view = same_all (ap (take s.unit_count) q ∙ (take_set_in us s.unit_count u x c.requires.used s.sound.units_fit.0 ∙ ap (λ (v : UnitRecord). set (take s.unit_count us) u (as_written v)) (sym (view_unit s u c.requires.used)))) refl (ap (λ (v : List UnitRecord). length v - s.unit_count) q ∙ ap (λ (l : ℕ). l - s.unit_count) (length-set us u x)) refl refl;
    }
