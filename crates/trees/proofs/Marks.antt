-- A unit is marked: its root stays, and so does everything else.
use Rattle.std.proofs.Common.{◌≡◌, ℕ, ◌<◌, ◌≤◌, List, length, get_or, take, set, sym, ap, ◌∙◌, subst, arith, length-set}
use Rattle.std.proofs.lemmas.List.{ext_get_or, get_or-take, length-take-le}
use Rattle.trees.specs.declared.records.UnitRecord.{UnitRecord}
use Rattle.trees.specs.declared.records.EntryRecord.{EntryRecord}
use Rattle.trees.specs.declared.records.AttributeRecord.{AttributeRecord}
use Rattle.trees.specs.Model.{no_unit}
use Rattle.trees.specs.View.{Sound, kind}
use Rattle.trees.proofs.Views.{upd, at_set, kept, st, un}

-- a front of a list with one element changed
pub take_set_in : (us : List UnitRecord) (m i : ℕ) (x : UnitRecord) → i < m → m ≤ length us → take m (set us i x) ≡ set (take m us) i x
take_set_in us m i x h l =
    let a : length (take m (set us i x)) ≡ m = length-take-le m (set us i x) (let z = length-set us i x in omega arith) in
    let b : length (take m us) ≡ m = length-take-le m us l in
    ext_get_or no_unit (take m (set us i x)) (set (take m us) i x) (a ∙ sym (length-set (take m us) i x ∙ b)) (λ y k.
    let hy : y < m = omega arith in
    get_or-take m (set us i x) y no_unit hy ∙ (at_set us i x no_unit (omega arith) y
    ∙ (ap (λ (v : UnitRecord). upd (λ _. v) i x y) (sym (get_or-take m us y no_unit hy)) ∙ sym (at_set (take m us) i x no_unit (omega arith) y))))

pub mark_sound : {us : List UnitRecord} {m : ℕ} {es : List EntryRecord} {n : ℕ} {ats : List AttributeRecord} {k free size : ℕ} → Sound us m es n ats k free size → (i : ℕ) (x : UnitRecord) → i < length us → x.root ≡ (get_or us i no_unit).root → Sound (set us i x) m es n ats k free size
mark_sound {us = us} {es = es} {n = n} S i x h q = record {
  units_fit = (let z = length-set us i x in let y = S.units_fit in (omega arith, omega arith));
  entries_fit = S.entries_fit;
  attributes_fit = S.attributes_fit;
  pool_fits = S.pool_fits;
  kin_ends = S.kin_ends;
  kin_owned = S.kin_owned;
  lasts = S.lasts;
  parented = S.parented;
  listed = S.listed;
  akin = S.akin;
  housed = S.housed;
  rooted = λ u l. let e : (get_or (set us i x) u no_unit).root ≡ (get_or us u no_unit).root = (λ j. kept (λ (v : UnitRecord). v.root) us i x no_unit h q j u) in
      subst (λ (r : ℕ). (r < n) × (kind (st es r) ≡ 0) × (un es r ≡ u)) (sym e) (S.rooted u l);
  held_ends = S.held_ends;
  held_owned = S.held_owned;
}
