use Rattle.std.proofs.lemmas.Result.{err_from_is_err_and}
use Rattle.sections.specs.Section.{address, address_checks}
use Rattle.layers.proofs.Caps.{word_refused, word_full, address_word}
use Rattle.layers.proofs.quota.QuotaLinkWriter.write_address.Goals as goal

pub returns-in_err-check_address : goal.returns-in_err-check_address
unfolding address
returns-in_err-check_address g c =
    let p = err_from_is_err_and c.from_residual.result c.from_residual.ensures.1 in
    rw (p.1, p.2) (word_refused (address_checks g.L.LinkWriter.relocates c.args.addr c.args.size) (address_word c.args.addr c.args.size) _ _ c.in_err-check_address.ensures)

pub returns-in_err-check_room : goal.returns-in_err-check_room
unfolding address
returns-in_err-check_room g c =
    let p = err_from_is_err_and c.from_residual-in_err-check_room.result c.from_residual-in_err-check_room.ensures.1 in
    rw (p.1, p.2) (word_full (address_checks g.L.LinkWriter.relocates c.args.addr c.args.size) (address_word c.args.addr c.args.size) _ _ c.in_ok-check_address.ensures c.in_err-check_room.ensures)
