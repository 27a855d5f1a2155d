use Rattle.std.proofs.Common.{ap, ◌∙◌, arith}
use Rattle.std.proofs.lemmas.List.{take_all}
use Rattle.trees.specs.History.{times}
use Rattle.sessions.proofs.Times.{times_same, times_other}
use Rattle.sessions.proofs.roll.Roll.count.Goals as goal
use Rattle.sessions.proofs.roll.Roll.count.Goals.{then-home-unit, else-home-unit}

pub loop-home-preserved : goal.loop-home-preserved
loop-home-preserved c =
    elim c.if-home-unit.branch [
      | then-home-unit w ↦ let k = times_same c.args.unit c.args.self.homes.now c.loop-home.home-index c.loop-home-test.true w.if-home-unit.true in (omega (arith, k), omega arith)
      | else-home-unit w ↦ let k = times_other c.args.unit c.args.self.homes.now c.loop-home.home-index c.loop-home-test.true w.if-home-unit.false in (omega (arith, k), omega arith)
    ]

pub returns : goal.returns
returns c = c.loop-home.invariant.0 ∙ ap (times c.args.unit) (take_all c.loop-home.home-index c.args.self.homes.now c.loop-home-test.false)
