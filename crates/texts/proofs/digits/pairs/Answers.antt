use Rattle.std.proofs.Common.{arith, [], length, ◌≡◌, ◌*◌, ◌/◌, ◌∙◌, sym, ap}
use Rattle.texts.proofs.Texts.{after_pairs, in_pairs, odd_fails}
use Rattle.texts.proofs.digits.pairs.Goals as goal

pub returns-in_default : goal.returns-in_default
returns-in_default c = odd_fails [] c.args.text.now (omega arith)

pub loop-high-init : goal.loop-high-init
loop-high-init c =
    let even : length c.args.text.now ≡ length c.args.text.now / 2 * 2 = omega arith in
    ap (λ xs. after_pairs xs c.as_chunks.result.0.now) c.new-bytes.ensures.items ∙ ap (after_pairs []) c.as_chunks.ensures.front ∙ sym (in_pairs [] _ c.args.text.now even)
