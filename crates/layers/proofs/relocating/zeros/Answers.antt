use native.Mathlib.Nat.{sub-zero}
use Rattle.std.proofs.lemmas.List.{take-replicate}
use Rattle.layers.proofs.relocating.zeros.Goals as goal

pub returns : goal.returns
returns c = rw sub-zero (take-replicate c.args.size 8 0 c.requires)
