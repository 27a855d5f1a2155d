use Rattle.std.proofs.Common.{◌≡◌, ℕ, false, List, map, length}
use Rattle.trees.specs.Lists.{nil, chain, last_or}
use Rattle.trees.specs.Model.{named}
use Rattle.trees.specs.Attributes.{lists, attribute_in}
use Rattle.trees.proofs.Seeks.{Seeking}
use Rattle.trees.proofs.records.Records.find.Given as goal

-- the name is none of those that came before
abbrev pub invariant-loop-at : goal.invariant-loop-at
invariant-loop-at l = (behind : List ℕ) × Seeking (lists l.self) (length l.self.attributes.now) l.e behind l.before l.at
    × (named l.name (map (attribute_in l.self.attributes.now) behind) ≡ false) × (l.before ≡ last_or nil behind)

abbrev pub decreases-loop-at : goal.decreases-loop-at
decreases-loop-at l = length (chain (lists l.self).next (length l.self.attributes.now) l.at)
