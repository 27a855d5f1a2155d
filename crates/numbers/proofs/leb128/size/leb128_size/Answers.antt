use Rattle.std.proofs.Common.{sym, arith}
use Rattle.numbers.proofs.Turns.{none_counted, one_counted, all_counted}
use Rattle.numbers.proofs.leb128.size.leb128_size.Goals as goal

pub loop-val-init : goal.loop-val-init
loop-val-init g c = (omega arith, none_counted g.met.S.Septets.laws c.args.val)

pub loop-val-preserved : goal.loop-val-preserved
loop-val-preserved g c =
    let more = one_counted g.met.S.Septets.laws _ _ _ c.loop-val.invariant.1 c.is_last.ensures.fits (sym c.loop-val-test.ensures.last) in
    rw (c.rest-val.ensures) more

pub returns : goal.returns
returns g c = all_counted g.met.S.Septets.laws _ _ _ c.loop-val.invariant.1 (sym c.loop-val-test.ensures.last)
