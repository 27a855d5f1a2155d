use Rattle.std.proofs.Common.{◌≡◌, ℕ, List, [], ◌∷◌, ◌++◌, map, length, get_or, sym, refl, ap, ◌∙◌, subst, arith}
use Rattle.std.proofs.lemmas.List.{append-nil}
use Rattle.std.proofs.lemmas.Bool.{lt-ltb, cond-true}
use Rattle.trees.specs.Lists.{nil, last_or, chain}
use Rattle.trees.specs.Model.{named}
use Rattle.trees.specs.View.{blank}
use Rattle.trees.specs.Attributes.{lists, attribute_in}
use Rattle.trees.proofs.Families.{last_push}
use Rattle.trees.proofs.Views.{held_of}
use Rattle.trees.proofs.Seeks.{Seeking, seek_start, seek_end, seek_found, seek_in, seek_step, seek_split, not_named}
use Rattle.trees.proofs.records.Records.find.Goals as goal

pub loop-at-init : goal.loop-at-init
unfolding nil
loop-at-init c =
    let s = c.args.self.now in
    let e : (lists s).first c.args.e ≡ (get_or s.entries.now c.args.e blank).attribute = cond-true _ _ _ (lt-ltb c.args.e s.entry_count c.requires.used) in
    ([], subst (λ (x : ℕ). Seeking (lists s) (length s.attributes.now) c.args.e [] nil x) e (seek_start (lists s) (length s.attributes.now) s.attribute_count c.args.e (held_of s)), refl, refl)

pub returns-then-at : goal.returns-then-at
unfolding nil
returns-then-at c =
    let s = c.args.self.now in
    let i = c.loop-at.invariant in
    let e = seek_end (lists s) (length s.attributes.now) s.attribute_count c.args.e (held_of s) i.0 c.loop-at.before c.loop-at.at i.1 c.if-at.true ∙ append-nil i.0 in
    record { none = ap (λ (xs : List ℕ). named c.args.name (map (attribute_in s.attributes.now) xs)) e ∙ i.2; last = i.3 ∙ ap (last_or nil) (sym e) }

pub bounds-self-at : goal.bounds-self-at
unfolding nil
bounds-self-at c =
    let s = c.args.self.now in
    let i = c.loop-at.invariant in
    let k = seek_in (lists s) (length s.attributes.now) s.attribute_count c.args.e (held_of s) i.0 c.loop-at.before c.loop-at.at i.1 c.if-at.false in
    let z = c.args.self.now.sound.attributes_fit in omega arith

pub returns-then-self-at : goal.returns-then-self-at
unfolding nil
returns-then-self-at c =
    let s = c.args.self.now in
    let i = c.loop-at.invariant in
    record {
      behind = i.0;
      ahead = chain (lists s).next (length s.attributes.now) ((lists s).next c.loop-at.at);
      list = seek_split (lists s) (length s.attributes.now) c.args.e i.0 c.loop-at.before c.loop-at.at i.1 c.if-at.false;
      first = i.2;
      same = c.if-self-at.true;
      order = seek_found (lists s) (length s.attributes.now) s.attribute_count c.args.e (held_of s) i.0 c.loop-at.before c.loop-at.at i.1 c.if-at.false;
    }

pub bounds-self-at-in-loop-at : goal.bounds-self-at-in-loop-at
unfolding nil
bounds-self-at-in-loop-at c =
    let s = c.args.self.now in
    let i = c.loop-at.invariant in
    let k = seek_in (lists s) (length s.attributes.now) s.attribute_count c.args.e (held_of s) i.0 c.loop-at.before c.loop-at.at i.1 c.if-at.false in
    let z = c.args.self.now.sound.attributes_fit in omega arith

pub loop-at-smaller : goal.loop-at-smaller
unfolding nil
loop-at-smaller c =
    let s = c.args.self.now in
    let i = c.loop-at.invariant in
    (seek_step (lists s) (length s.attributes.now) s.attribute_count c.args.e (held_of s) i.0 c.loop-at.before c.loop-at.at i.1 c.if-at.false).1

pub loop-at-preserved : goal.loop-at-preserved
unfolding nil
loop-at-preserved c =
    let s = c.args.self.now in
    let i = c.loop-at.invariant in (
      i.0 ++ c.loop-at.at ∷ [],
      (seek_step (lists s) (length s.attributes.now) s.attribute_count c.args.e (held_of s) i.0 c.loop-at.before c.loop-at.at i.1 c.if-at.false).0,
      not_named (attribute_in s.attributes.now) c.args.name i.0 c.loop-at.at i.2 c.if-self-at.false,
      sym (last_push nil c.loop-at.at i.0),
    )
