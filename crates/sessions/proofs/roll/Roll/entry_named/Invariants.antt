use Rattle.std.proofs.Common.{◌≡◌, ◌+◌, take}
use Rattle.trees.specs.History.{times}
use Rattle.sessions.proofs.roll.Roll.entry_named.Given as goal

abbrev pub invariant-loop-e : goal.invariant-loop-e
invariant-loop-e l = times l.name.unit (take l.e l.self.homes.now) + l.left ≡ l.name.entry
