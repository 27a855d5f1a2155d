use Rattle.std.proofs.Common.{◌<◌, length, refl, ap, arith}
use Rattle.trees.specs.Lists.{nil}
use Rattle.trees.proofs.Tables.{same_table}
use Rattle.trees.proofs.Holdings.{none_free, fresh_loose, fresh_taken, free_in, taken_loose, taken_sound, taken_lists, taken_view, taken_left}
use Rattle.trees.proofs.records.Records.take.Goals as goal

pub invariant_of-self : goal.invariant_of-self
unfolding nil
invariant_of-self c =
    let s = c.args.self.now in
    let e = ap length (none_free s.sound c.if-a.true) in
    record { sound = fresh_taken s.sound (let z = c.requires.room in omega arith) }

pub invariant_of-self-2 : goal.invariant_of-self-2
unfolding nil
invariant_of-self-2 c =
    let s = c.args.self.now in
    record { sound = taken_sound s.sound c.if-a.false }

pub returns-then-a : goal.returns-then-a
unfolding nil
returns-then-a c =
    let s = c.args.self.now in
    let e = ap length (none_free s.sound c.if-a.true) in
    let room : s.attribute_count < length s.attributes.now = (let z = c.requires.room in omega arith) in
    record { view = same_table refl refl (omega arith); loose = fresh_loose s.sound; small = omega arith; lists = λ e h. refl; count = refl }

pub bounds-self-a : goal.bounds-self-a
unfolding nil
bounds-self-a c =
    let s = c.args.self.now in
    let k = free_in s.sound c.if-a.false in let z = s.sound.attributes_fit in omega arith

pub returns : goal.returns
unfolding nil
returns c =
    let s = c.args.self.now in
    let z = taken_left s.sound c.if-a.false in
    record { view = same_table (taken_view s.sound c.if-a.false) refl (omega arith); loose = taken_loose s.sound c.if-a.false; small = free_in s.sound c.if-a.false; lists = taken_lists s.sound c.if-a.false; count = refl }
