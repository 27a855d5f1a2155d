use Rattle.std.proofs.Common.{arith}
use Rattle.sessions.proofs.Times.{times_same, times_other}
use Rattle.sessions.proofs.roll.Roll.entry_named.Goals as goal
use Rattle.sessions.proofs.roll.Roll.entry_named.Goals.{then-home-name+else-left-eq0, else-home-name}

pub loop-e-preserved : goal.loop-e-preserved
loop-e-preserved c =
    elim c.if-home-name.branch [
      | then-home-name+else-left-eq0 w ↦ let k = times_same c.args.name.unit c.args.self.homes.now c.loop-e.e c.loop-e-test.true w.if-home-name.true in omega (arith, k)
      | else-home-name w ↦ let k = times_other c.args.name.unit c.args.self.homes.now c.loop-e.e c.loop-e-test.true w.if-home-name.false in omega (arith, k)
    ]
