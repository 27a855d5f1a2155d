use Rattle.std.proofs.lemmas.Result.{err_from_is_err_and}
use Rattle.layers.proofs.Relocates.{offset_at_refused}
use Rattle.layers.proofs.relocating.RelocatingLinkWriter.write_offset_at.Goals as goal

pub returns-in_err-check_word : goal.returns-in_err-check_word
returns-in_err-check_word g c =
    let p = err_from_is_err_and c.from_residual.result c.from_residual.ensures.1 in
    rw (p.1, p.2) (offset_at_refused c.args.at c.args.val c.args.section c.args.size _ _ c.in_err-check_word.ensures)
