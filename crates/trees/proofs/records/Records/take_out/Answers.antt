use Rattle.std.proofs.Common.{ℕ, ◌+◌, ◌-◌, List, length, ap, arith}
use Rattle.trees.specs.Lists.{nil}
use Rattle.trees.proofs.Cuts.{cut_in, prev_in, taken_first, taken_after}
use Rattle.trees.proofs.Tables.{same_table}
use Rattle.trees.proofs.records.Records.take_out.Goals as goal

pub unlink_first-requires : goal.unlink_first-requires
unfolding nil
unlink_first-requires c =
    let s = c.args.self.now in
    let k = cut_in s.sound c.args.c c.args.p c.args.before c.requires.parent c.requires.before in
    let z = s.sound.entries_fit in
    omega arith

pub unlink_after-requires : goal.unlink_after-requires
unfolding nil
unlink_after-requires c =
    let s = c.args.self.now in
    let k = cut_in s.sound c.args.c c.args.p c.args.before c.requires.parent c.requires.before in
    let j = prev_in s.sound c.args.c c.args.p c.args.before c.requires.parent c.requires.before c.if-before-eq-NIL.false in
    let z = s.sound.entries_fit in
    omega arith

pub invariant_of-self : goal.invariant_of-self
unfolding nil
invariant_of-self c =
    let s = c.args.self.now in
    let r = taken_first s.sound
    c.unlink_first.new.entries c.args.c c.args.p c.args.before c.requires.parent c.requires.before c.if-before-eq-NIL.true c.unlink_first.ensures in
    record { sound = r.0 }

pub returns-then-before-eq-NIL : goal.returns-then-before-eq-NIL
unfolding nil
returns-then-before-eq-NIL c =
    let s = c.args.self.now in
    let r = taken_first s.sound
    c.unlink_first.new.entries c.args.c c.args.p c.args.before c.requires.parent c.requires.before c.if-before-eq-NIL.true c.unlink_first.ensures in
    record { view = same_table r.1 (ap (λ (l : ℕ). l - s.entry_count) r.2) (ap (λ (x : List ℕ). (length s.attributes.now - s.attribute_count) + length x) r.3) }

pub invariant_of-self-else-before-eq-NIL : goal.invariant_of-self-else-before-eq-NIL
unfolding nil
invariant_of-self-else-before-eq-NIL c =
    let s = c.args.self.now in
    let r = taken_after s.sound
    c.unlink_after.new.entries c.args.c c.args.p c.args.before c.requires.parent c.requires.before c.if-before-eq-NIL.false c.unlink_after.ensures in
    record { sound = r.0 }

pub returns-else-before-eq-NIL : goal.returns-else-before-eq-NIL
unfolding nil
returns-else-before-eq-NIL c =
    let s = c.args.self.now in
    let r = taken_after s.sound
    c.unlink_after.new.entries c.args.c c.args.p c.args.before c.requires.parent c.requires.before c.if-before-eq-NIL.false c.unlink_after.ensures in
    record { view = same_table r.1 (ap (λ (l : ℕ). l - s.entry_count) r.2) (ap (λ (x : List ℕ). (length s.attributes.now - s.attribute_count) + length x) r.3) }
