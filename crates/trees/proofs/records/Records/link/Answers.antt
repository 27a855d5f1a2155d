use Rattle.std.proofs.Common.{ℕ, ◌-◌, length, ap, arith, length-set}
use Rattle.trees.specs.Lists.{nil}
use Rattle.trees.proofs.Tables.{same_table}
use Rattle.trees.proofs.Holdings.{loose_sound}
use Rattle.trees.proofs.Joins.{link_first, link_after, last_in_use}
use Rattle.trees.proofs.records.Records.link.Goals as goal

pub invariant_of-self : goal.invariant_of-self
unfolding nil
invariant_of-self c =
    let s = c.args.self.now in
    record { sound = loose_sound s.sound c.args.a _ c.requires.small c.requires.loose }

pub bounds-self-before : goal.bounds-self-before
unfolding nil
bounds-self-before c =
    let s = c.args.self.now in
    let o = last_in_use s.sound c.args.e c.args.a c.args.before c.args.attribute c.requires.used c.requires.small c.requires.loose c.requires.last c.if-before-eq-NIL.false in
    let z = s.sound.attributes_fit in simp length-set (omega arith)

pub invariant_of-self-then-before-eq-NIL : goal.invariant_of-self-then-before-eq-NIL
unfolding nil
invariant_of-self-then-before-eq-NIL c =
    let s = c.args.self.now in
    let w = link_first s.sound c.args.e c.args.a c.args.before c.args.attribute c.requires.used c.requires.small c.requires.loose c.requires.last c.if-before-eq-NIL.true in
    record { sound = w.0 }

pub returns-then-before-eq-NIL : goal.returns-then-before-eq-NIL
unfolding nil
returns-then-before-eq-NIL c =
    let s = c.args.self.now in
    let w = link_first s.sound c.args.e c.args.a c.args.before c.args.attribute c.requires.used c.requires.small c.requires.loose c.requires.last c.if-before-eq-NIL.true in
    let x = w.2 in let y = w.3 in let z = ap length w.4 in
    record { view = same_table w.1 (ap (λ (v : ℕ). v - s.entry_count) x) (omega arith) }

pub invariant_of-self-else-before-eq-NIL : goal.invariant_of-self-else-before-eq-NIL
unfolding nil
invariant_of-self-else-before-eq-NIL c =
    let s = c.args.self.now in
    let w = link_after s.sound c.args.e c.args.a c.args.before c.args.attribute c.requires.used c.requires.small c.requires.loose c.requires.last c.if-before-eq-NIL.false in
    record { sound = w.0 }

pub returns-else-before-eq-NIL : goal.returns-else-before-eq-NIL
unfolding nil
returns-else-before-eq-NIL c =
    let s = c.args.self.now in
    let w = link_after s.sound c.args.e c.args.a c.args.before c.args.attribute c.requires.used c.requires.small c.requires.loose c.requires.last c.if-before-eq-NIL.false in
    let x = w.2 in let y = w.3 in let z = ap length w.4 in
    record { view = same_table w.1 (ap (λ (v : ℕ). v - s.entry_count) x) (omega arith) }
