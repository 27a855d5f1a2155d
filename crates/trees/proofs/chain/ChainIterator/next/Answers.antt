use Rattle.std.proofs.Common.{◌≡◌, ◌∷◌, length, ap, ◌∙◌, sym, refl, rules}
use Rattle.std.proofs.lemmas.List.{get_or_default}
use Rattle.trees.specs.Chains.{after_in, chain_from}
use Rattle.trees.specs.Left.{numbers_left}
use Rattle.trees.specs.Lists.{nil}
use Rattle.trees.proofs.Families.{chain_nil}
use Rattle.trees.proofs.Runs.{less}
use Rattle.trees.proofs.Walks.{walk_step}
use Rattle.trees.proofs.chain.ChainIterator.next.Goals as goal

pub returns-then-at-clause-steps : goal.returns-then-at-clause-steps
unfolding nil
returns-then-at-clause-steps g c = let s = c.args.self.now in record { given = chain_nil (after_in g.R.Linked.past g.R.Linked.after s.records.now) (length s.records.now) s.at c.if-at.true; stays = refl; kept = refl }

pub offset_bounds-self-at : goal.offset_bounds-self-at
unfolding nil
offset_bounds-self-at g c =
    let s = c.args.self.now in
    let l = (walk_step (after_in g.R.Linked.past g.R.Linked.after s.records.now) (length s.records.now) s.at s.ends s.lies c.if-at.false).1 in
    search rules

pub bounds-self-at : goal.bounds-self-at
unfolding nil
bounds-self-at g c = let s = c.args.self.now in (walk_step (after_in g.R.Linked.past g.R.Linked.after s.records.now) (length s.records.now) s.at s.ends s.lies c.if-at.false).1

pub invariant_of-self : goal.invariant_of-self
unfolding nil
invariant_of-self g c =
    let s = c.args.self.now in
    let w = walk_step (after_in g.R.Linked.past g.R.Linked.after s.records.now) (length s.records.now) s.at s.ends s.lies c.if-at.false in
    let a : c.after-self.result ≡ after_in g.R.Linked.past g.R.Linked.after s.records.now s.at = c.after-self.ensures ∙ ap g.R.Linked.after (get_or_default s.records.now s.at _ g.R.Linked.past w.1) in
    rw a (record { ends = w.2; lies = w.3 })

pub returns : goal.returns
unfolding nil
returns g c =
    let s = c.args.self.now in
    let w = walk_step (after_in g.R.Linked.past g.R.Linked.after s.records.now) (length s.records.now) s.at s.ends s.lies c.if-at.false in
    let d = get_or_default s.records.now s.at c.index-self-at.result g.R.Linked.past w.1 in
    let e = w.0 ∙ ap (λ a. s.at ∷ chain_from g.R.Linked.past g.R.Linked.after s.records.now a) (sym (c.after-self.ensures ∙ ap g.R.Linked.after d)) in
    record { steps = record { given = (e, d); stays = tt; kept = refl }; goes = less numbers_left s _ _ _ e }
