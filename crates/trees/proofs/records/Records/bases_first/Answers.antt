use Rattle.std.proofs.Common.{arith}
use Rattle.trees.specs.Lists.{nil}
use Rattle.trees.proofs.Turns.{no_turn, first_turn, turn_parent, turn_before, turn_in, turn_ends, turn_less, turn_next}
use Rattle.trees.proofs.records.Records.bases_first.Goals as goal

pub returns-then-cur : goal.returns-then-cur
unfolding nil
returns-then-cur c = record { view = no_turn c.args.self.now c.args.p c.requires.parent c.if-cur.true }

pub loop-cur-init : goal.loop-cur-init
unfolding nil
loop-cur-init c = first_turn c.args.self.now c.args.p c.requires.parent c.if-cur.false

pub bounds-self-cur : goal.bounds-self-cur
bounds-self-cur c =
    let k = turn_in c.args.self.now c.args.p c.requires.parent c.loop-cur.self c.loop-cur.prev c.loop-cur.cur c.loop-cur.invariant in
    let z = c.loop-cur.self.sound.entries_fit in omega arith

pub settle-prev-requires : goal.settle-prev-requires
settle-prev-requires c = record {
  parent = turn_parent c.args.self.now c.args.p c.requires.parent c.loop-cur.self c.loop-cur.prev c.loop-cur.cur c.loop-cur.invariant;
  before = turn_before c.args.self.now c.args.p c.requires.parent c.loop-cur.self c.loop-cur.prev c.loop-cur.cur c.loop-cur.invariant;
}

pub returns-then-cur-end : goal.returns-then-cur-end
returns-then-cur-end c = record {
  view = turn_ends c.args.self.now c.args.p c.requires.parent c.loop-cur.self c.loop-cur.prev c.loop-cur.cur c.loop-cur.invariant c.settle-prev.new.self c.settle-prev.ensures.view c.if-cur-end.true;
}

pub loop-cur-smaller : goal.loop-cur-smaller
loop-cur-smaller c = turn_less c.args.self.now c.args.p c.requires.parent c.loop-cur.self c.loop-cur.prev c.loop-cur.cur c.loop-cur.invariant c.if-cur-end.false

pub loop-cur-preserved : goal.loop-cur-preserved
loop-cur-preserved c = turn_next c.args.self.now c.args.p c.requires.parent c.loop-cur.self c.loop-cur.prev c.loop-cur.cur c.loop-cur.invariant c.if-cur-end.false
    c.settle-prev.new.self c.settle-prev.result c.settle-prev.ensures.view c.settle-prev.ensures.kept

pub overflow_cast-next : goal.overflow_cast-next
overflow_cast-next c =
    let k = turn_in c.args.self.now c.args.p c.requires.parent c.loop-cur.self c.loop-cur.prev c.loop-cur.cur c.loop-cur.invariant in
    let z = c.loop-cur.self.sound.entries_fit in omega arith

pub offset_bounds-self-cur : goal.offset_bounds-self-cur
offset_bounds-self-cur c =
    let k = turn_in c.args.self.now c.args.p c.requires.parent c.loop-cur.self c.loop-cur.prev c.loop-cur.cur c.loop-cur.invariant in
    let z = c.loop-cur.self.sound.entries_fit in omega arith
