use Rattle.std.proofs.Common.{◌∷◌, sym, ap, ◌∙◌, subst}
use Rattle.trees.specs.declared.records.Event.TheVariants.{Enter}
use Rattle.trees.specs.declared.walk.Spot.{Spot}
use Rattle.trees.specs.declared.walk.Spot.TheVariants.{Before}
use Rattle.trees.specs.Lists.{nil}
use Rattle.trees.specs.Walk.{rest, Ending}
use Rattle.trees.proofs.Paths.{past, entering}
use Rattle.trees.proofs.walk.Walk.enter.Goals as goal

pub returns-then-e-self-clause-given : goal.returns-then-e-self-clause-given
returns-then-e-self-clause-given c = let s = c.args.self.now in past s.entries.now s.count s.root (Before c.args.e) c.if-e-self.true

pub invariant_of-self : goal.invariant_of-self
unfolding nil
invariant_of-self c =
    let s = c.args.self.now in
    record { inside = s.inside; ending = subst (Ending s.entries.now s.count s.root) (sym c.pick-self.ensures) (entering s.entries.now s.count s.root c.args.e c.if-e-self.false c.requires).1 }

pub returns-clause-given : goal.returns-clause-given
unfolding nil
returns-clause-given c =
    let s = c.args.self.now in
    (entering s.entries.now s.count s.root c.args.e c.if-e-self.false c.requires).0 ∙ ap (λ (x : Spot). Enter c.args.e ∷ rest s.entries.now s.count s.root x) (sym c.pick-self.ensures)
