use Rattle.std.proofs.Common.{◌+◌, refl, sym, ap, ◌∙◌, arith}
use Rattle.std.proofs.lemmas.List.{length-set}
use Rattle.numbers.proofs.Leb.{leb_right}
use Rattle.numbers.proofs.Turns.{begun, placed, last_placed, bounded}
use Rattle.numbers.proofs.leb128.Leb128.new.Goals as goal

pub loop-bytes-init : goal.loop-bytes-init
loop-bytes-init g c = (omega arith, refl, begun g.met.S.Septets.laws c.args.val)

pub loop-bytes-preserved : goal.loop-bytes-preserved
loop-bytes-preserved g c =
    let l = c.loop-bytes in
    let p = placed g.met.S.Septets.laws _ _ _ _ _ l.invariant.0 l.invariant.1 (c.continued.ensures ∙ ap (λ d. d + 128) c.low.ensures) l.invariant.2 c.is_last.ensures.fits (sym c.loop-bytes-test.ensures.last) in
    (p.0, length-set l.bytes _ _ ∙ l.invariant.1, rw (c.rest-val.ensures) p.1)

pub returns : goal.returns
returns g c =
    let laws = g.met.S.Septets.laws in
    let l = c.loop-bytes in
    let turn = l.invariant.2 in
    let e = last_placed laws _ _ _ _ _ l.invariant.0 l.invariant.1 c.low-2.ensures turn (sym c.loop-bytes-test.ensures.last) in
    let r = leb_right laws c.args.val _ (bounded laws _ _ _ turn c.is_last.ensures.fits).0 e in
    record { bytes = e; reads = r.0; shortest = r.1 }
