use Rattle.std.proofs.Common.{arith}
use Rattle.numbers.proofs.tests.comes_back.Goals as goal

pub encode-requires : goal.encode-requires
encode-requires g c = omega (arith, g.met.T.Number.few)

pub decode-requires : goal.decode-requires
decode-requires g c = omega (arith, g.met.T.Number.few)
