use Rattle.std.proofs.Common.{◌≡◌, ℕ, [], ◌∷◌, ◌++◌, length, get_or, refl, ap, ◌∙◌, subst, arith}
use Rattle.std.proofs.lemmas.List.{append-nil}
use Rattle.std.proofs.lemmas.Bool.{lt-ltb, cond-true}
use Rattle.trees.specs.Lists.{nil, has, Before}
use Rattle.trees.specs.View.{kin, blank}
use Rattle.trees.proofs.Views.{kin_of}
use Rattle.trees.proofs.Seeks.{Seeking, seek_start, seek_end, seek_found, seek_in, seek_step, not_pushed}
use Rattle.trees.proofs.records.Records.before.Goals as goal

pub loop-cur-init : goal.loop-cur-init
unfolding nil
loop-cur-init c =
    let s = c.args.self.now in
    let L = kin s.entries.now s.entry_count in
    let e : L.first c.args.p ≡ (get_or s.entries.now c.args.p blank).first = cond-true _ _ _ (lt-ltb c.args.p s.entry_count c.requires.parent) in
    ([], subst (λ (x : ℕ). Seeking L (length s.entries.now) c.args.p [] nil x) e (seek_start L (length s.entries.now) s.entry_count c.args.p (kin_of s)), refl)

pub returns-then-cur : goal.returns-then-cur
unfolding nil
returns-then-cur c =
    let s = c.args.self.now in
    let i = c.loop-cur.invariant in
    ap (has c.args.c) (seek_end (kin s.entries.now s.entry_count) (length s.entries.now) s.entry_count c.args.p (kin_of s) i.0 c.loop-cur.prev c.loop-cur.cur i.1 c.if-cur.true ∙ append-nil i.0) ∙ i.2

pub returns-then-cur-c : goal.returns-then-cur-c
unfolding nil
returns-then-cur-c c =
    let s = c.args.self.now in
    let i = c.loop-cur.invariant in
    let L = kin s.entries.now s.entry_count in
    subst (λ (x : ℕ). Before L (length s.entries.now) c.args.p x c.loop-cur.prev) c.if-cur-c.true
    (seek_found L (length s.entries.now) s.entry_count c.args.p (kin_of s) i.0 c.loop-cur.prev c.loop-cur.cur i.1 c.if-cur.false)

pub bounds-self-cur : goal.bounds-self-cur
unfolding nil
bounds-self-cur c =
    let s = c.args.self.now in
    let i = c.loop-cur.invariant in
    let k = seek_in (kin s.entries.now s.entry_count) (length s.entries.now) s.entry_count c.args.p (kin_of s) i.0 c.loop-cur.prev c.loop-cur.cur i.1 c.if-cur.false in
    let z = c.args.self.now.sound.entries_fit in omega arith

pub loop-cur-smaller : goal.loop-cur-smaller
unfolding nil
loop-cur-smaller c =
    let s = c.args.self.now in
    let i = c.loop-cur.invariant in
    (seek_step (kin s.entries.now s.entry_count) (length s.entries.now) s.entry_count c.args.p (kin_of s) i.0 c.loop-cur.prev c.loop-cur.cur i.1 c.if-cur.false).1

pub loop-cur-preserved : goal.loop-cur-preserved
unfolding nil
loop-cur-preserved c =
    let s = c.args.self.now in
    let i = c.loop-cur.invariant in (
      i.0 ++ c.loop-cur.cur ∷ [],
      (seek_step (kin s.entries.now s.entry_count) (length s.entries.now) s.entry_count c.args.p (kin_of s) i.0 c.loop-cur.prev c.loop-cur.cur i.1 c.if-cur.false).0,
      not_pushed c.args.c i.0 c.loop-cur.cur i.2 c.if-cur-c.false,
    )
