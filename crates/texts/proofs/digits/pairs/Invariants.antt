use Rattle.std.proofs.Common.{◌≡◌, drop, vec_items}
use Rattle.texts.specs.Texts.{bytes_from}
use Rattle.texts.proofs.Texts.{after_pairs}
use Rattle.texts.proofs.digits.pairs.Given as goal

abbrev pub invariant-loop-high : goal.invariant-loop-high
invariant-loop-high l = after_pairs (vec_items l.bytes) (drop l.high-index l.pairs) ≡ bytes_from l.text
