use Rattle.std.proofs.Common.{ℕ, ◌+◌, ◌-◌, List, length, ap, arith}
use Rattle.trees.specs.Lists.{nil}
use Rattle.trees.proofs.Trees.{last_placed, placed_first, placed_after}
use Rattle.trees.proofs.Tables.{same_table}
use Rattle.trees.proofs.records.Records.place.Goals as goal

pub link_after-requires : goal.link_after-requires
unfolding nil
link_after-requires c =
    let s = c.args.self.now in
    let l = last_placed s.sound c.args.c c.args.p c.args.tag c.requires.child c.requires.parent c.if-last.false in
    let z = s.sound.entries_fit in
    omega arith

pub invariant_of-self : goal.invariant_of-self
unfolding nil
invariant_of-self c =
    let s = c.args.self.now in
    let r = placed_first s.sound
    c.link_first.new.entries c.args.c c.args.p c.args.tag c.requires.child c.requires.parent c.requires.waits c.requires.same c.if-last.true c.link_first.ensures in
    record { sound = r.0 }

pub returns-then-last : goal.returns-then-last
unfolding nil
returns-then-last c =
    let s = c.args.self.now in
    let r = placed_first s.sound
    c.link_first.new.entries c.args.c c.args.p c.args.tag c.requires.child c.requires.parent c.requires.waits c.requires.same c.if-last.true c.link_first.ensures in
    record { view = same_table r.1 (ap (λ (l : ℕ). l - s.entry_count) r.2) (ap (λ (x : List ℕ). (length s.attributes.now - s.attribute_count) + length x) r.3) }

pub invariant_of-self-else-last : goal.invariant_of-self-else-last
unfolding nil
invariant_of-self-else-last c =
    let s = c.args.self.now in
    let r = placed_after s.sound
    c.link_after.new.entries c.args.c c.args.p c.args.tag c.requires.child c.requires.parent c.requires.waits c.requires.same c.if-last.false c.link_after.ensures in
    record { sound = r.0 }

pub returns-else-last : goal.returns-else-last
unfolding nil
returns-else-last c =
    let s = c.args.self.now in
    let r = placed_after s.sound
    c.link_after.new.entries c.args.c c.args.p c.args.tag c.requires.child c.requires.parent c.requires.waits c.requires.same c.if-last.false c.link_after.ensures in
    record { view = same_table r.1 (ap (λ (l : ℕ). l - s.entry_count) r.2) (ap (λ (x : List ℕ). (length s.attributes.now - s.attribute_count) + length x) r.3) }
