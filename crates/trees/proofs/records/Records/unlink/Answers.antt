use Rattle.std.proofs.Common.{ℕ, ◌-◌, length, ap, arith}
use Rattle.trees.specs.Lists.{nil}
use Rattle.trees.proofs.Tables.{same_table}
use Rattle.trees.proofs.Joins.{unlink_first, unlink_after, prev_in_use}
use Rattle.trees.proofs.Values.{found_in}
use Rattle.trees.proofs.records.Records.unlink.Goals as goal

pub bounds-self-place : goal.bounds-self-place
bounds-self-place c =
    let s = c.args.self.now in
    let k = found_in s c.args.e c.requires.found.0 c.args.place c.requires.found.1 in
    let z = s.sound.attributes_fit in omega arith

pub bounds-self-place-else-place-eq-NIL : goal.bounds-self-place-else-place-eq-NIL
unfolding nil
bounds-self-place-else-place-eq-NIL c =
    let s = c.args.self.now in
    let o = prev_in_use s.sound c.args.e c.args.place.at c.args.place.before c.requires.used c.requires.found.1.order c.if-place-eq-NIL.false in
    let z = s.sound.attributes_fit in omega arith

pub invariant_of-self : goal.invariant_of-self
unfolding nil
invariant_of-self c =
    let s = c.args.self.now in
    let w = unlink_first s.sound c.args.e c.args.place.at c.args.place.before c.requires.used c.requires.found.1.order c.if-place-eq-NIL.true in
    record { sound = w.0 }

pub returns-then-place-eq-NIL : goal.returns-then-place-eq-NIL
unfolding nil
returns-then-place-eq-NIL c =
    let s = c.args.self.now in
    let w = unlink_first s.sound c.args.e c.args.place.at c.args.place.before c.requires.used c.requires.found.1.order c.if-place-eq-NIL.true in
    let x = w.2 in let y = w.3 in let z = ap length w.4 in
    record { view = λ name q. same_table (w.5 name q.behind q.ahead q.list q.first q.same) (ap (λ (v : ℕ). v - s.entry_count) x) (omega arith); loose = w.1; small = found_in s c.args.e c.requires.found.0 c.args.place c.requires.found.1 }

pub invariant_of-self-else-place-eq-NIL : goal.invariant_of-self-else-place-eq-NIL
unfolding nil
invariant_of-self-else-place-eq-NIL c =
    let s = c.args.self.now in
    let w = unlink_after s.sound c.args.e c.args.place.at c.args.place.before c.requires.used c.requires.found.1.order c.if-place-eq-NIL.false in
    record { sound = w.0 }

pub returns-else-place-eq-NIL : goal.returns-else-place-eq-NIL
unfolding nil
returns-else-place-eq-NIL c =
    let s = c.args.self.now in
    let w = unlink_after s.sound c.args.e c.args.place.at c.args.place.before c.requires.used c.requires.found.1.order c.if-place-eq-NIL.false in
    let x = w.2 in let y = w.3 in let z = ap length w.4 in
    record { view = λ name q. same_table (w.5 name q.behind q.ahead q.list q.first q.same) (ap (λ (v : ℕ). v - s.entry_count) x) (omega arith); loose = w.1; small = found_in s c.args.e c.requires.found.0 c.args.place c.requires.found.1 }
