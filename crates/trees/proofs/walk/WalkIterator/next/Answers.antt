use Rattle.std.proofs.Common.{◌≡◌, [], ◌∷◌, List, MatchOption, sym, refl, ap, ◌∙◌, subst}
use Rattle.trees.specs.declared.records.Event.{Event}
use Rattle.trees.specs.declared.walk.Spot.TheVariants.{After}
use Rattle.trees.specs.Left.{events_left}
use Rattle.trees.specs.Lists.{nil}
use Rattle.trees.specs.Walk.{rest, Ending}
use Rattle.trees.proofs.Paths.{past, finished, left_last, over_next}
use Rattle.trees.proofs.Runs.{less, goes_on}
use Rattle.trees.proofs.walk.WalkIterator.next.Goals as goal
use Rattle.trees.proofs.walk.WalkIterator.next.Goals.{then-e-self-via-then-e-self, then-e-self-via-else-e-self+then-e-self-2}

pub returns-then-e-self-clause-steps : goal.returns-then-e-self-clause-steps
returns-then-e-self-clause-steps c =
    let s = c.args.self.now in
    let e = c.in-After.e in
    let z : rest s.entries.now s.count s.root (After e) ≡ [] = elim c.then-e-self.branch [
      | then-e-self-via-then-e-self w ↦ past s.entries.now s.count s.root (After e) w.if-e-self.true
      | then-e-self-via-else-e-self+then-e-self-2 w ↦ finished s.entries.now s.count s.root e w.if-e-self.false w.if-e-self-2.true
    ] in
    record { given = ap (rest s.entries.now s.count s.root) c.in-After.is ∙ z; stays = refl; kept = refl }

pub enter-requires-then-record : goal.enter-requires-then-record
unfolding nil
enter-requires-then-record c =
    let s = c.args.self.now in
    (over_next s.entries.now s.count s.root c.in-After.e c.if-e-self.false c.if-e-self-2.false c.if-record.true (subst (Ending s.entries.now s.count s.root) c.in-After.is s.ending)).1

pub returns-then-record : goal.returns-then-record
unfolding nil
returns-then-record c =
    let s = c.args.self.now in
    let t = c.enter-then-record.new.self in
    let r = c.enter-then-record.result in
    let e = ap (rest s.entries.now s.count s.root) c.in-After.is ∙ (over_next s.entries.now s.count s.root c.in-After.e c.if-e-self.false c.if-e-self-2.false c.if-record.true (subst (Ending s.entries.now s.count s.root) c.in-After.is s.ending)).0 in
    let g = subst (λ (xs : List Event). MatchOption r (xs ≡ []) (λ v. xs ≡ v ∷ events_left t)) (sym e) c.enter-then-record.ensures.given in
    record { steps = record { given = g; stays = c.enter-then-record.ensures.stays; kept = c.enter-then-record.ensures.kept }; goes = goes_on events_left s r t g }

pub invariant_of-self : goal.invariant_of-self
unfolding nil
invariant_of-self c =
    let s = c.args.self.now in
    record { inside = s.inside; ending = (left_last s.entries.now s.count s.root c.in-After.e c.if-e-self.false c.if-e-self-2.false c.if-record.false (subst (Ending s.entries.now s.count s.root) c.in-After.is s.ending)).1 }

pub returns-else-record : goal.returns-else-record
unfolding nil
returns-else-record c =
    let s = c.args.self.now in
    let e = ap (rest s.entries.now s.count s.root) c.in-After.is ∙ (left_last s.entries.now s.count s.root c.in-After.e c.if-e-self.false c.if-e-self-2.false c.if-record.false (subst (Ending s.entries.now s.count s.root) c.in-After.is s.ending)).0 in
    record { steps = record { given = e; stays = tt; kept = refl }; goes = less events_left s _ _ _ e }
