use Rattle.std.proofs.lemmas.Result.{err_from_is_err_and}
use Rattle.sections.specs.Section.{offset, word_checks}
use Rattle.layers.proofs.Caps.{word_refused, word_full, offset_word}
use Rattle.layers.proofs.quota.QuotaLinkWriter.write_offset.Goals as goal

pub returns-in_err-check_word : goal.returns-in_err-check_word
unfolding offset
returns-in_err-check_word g c =
    let p = err_from_is_err_and c.from_residual.result c.from_residual.ensures.1 in
    rw (p.1, p.2) (word_refused (word_checks c.args.val c.args.size) (offset_word g.L.LinkWriter.relocates c.args.val c.args.section c.args.size) _ _ c.in_err-check_word.ensures)

pub returns-in_err-check_room : goal.returns-in_err-check_room
unfolding offset
returns-in_err-check_room g c =
    let p = err_from_is_err_and c.from_residual-in_err-check_room.result c.from_residual-in_err-check_room.ensures.1 in
    rw (p.1, p.2) (word_full (word_checks c.args.val c.args.size) (offset_word g.L.LinkWriter.relocates c.args.val c.args.section c.args.size) _ _ c.in_ok-check_word.ensures c.in_err-check_room.ensures)
