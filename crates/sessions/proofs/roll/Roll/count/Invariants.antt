use Rattle.std.proofs.Common.{◌≡◌, ◌≤◌, take}
use Rattle.trees.specs.History.{times}
use Rattle.sessions.proofs.roll.Roll.count.Given as goal

abbrev pub invariant-loop-home : goal.invariant-loop-home
invariant-loop-home l = (l.n ≡ times l.unit (take l.home-index l.self.homes.now)) × (l.n ≤ l.home-index)
