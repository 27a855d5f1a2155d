use Rattle.std.proofs.lemmas.Result.{err_from_is_err_and}
use Rattle.sections.specs.declared.fault.Fault.TheVariants.{InvalidReference}
use Rattle.sections.specs.Section.{reference, symbol_checks}
use Rattle.layers.proofs.Caps.{word_refused, word_full, reference_word}
use Rattle.layers.proofs.quota.QuotaLinkWriter.write_reference.Goals as goal

pub returns-in_err-check_symbol : goal.returns-in_err-check_symbol
unfolding reference
returns-in_err-check_symbol g c =
    let p = err_from_is_err_and c.from_residual.result c.from_residual.ensures.1 in
    rw (p.1, p.2) (word_refused (symbol_checks g.L.LinkWriter.relocates InvalidReference c.args.size) (reference_word c.args.symbol c.args.size) _ _ c.in_err-check_symbol.ensures)

pub returns-in_err-check_room : goal.returns-in_err-check_room
unfolding reference
returns-in_err-check_room g c =
    let p = err_from_is_err_and c.from_residual-in_err-check_room.result c.from_residual-in_err-check_room.ensures.1 in
    rw (p.1, p.2) (word_full (symbol_checks g.L.LinkWriter.relocates InvalidReference c.args.size) (reference_word c.args.symbol c.args.size) _ _ c.in_ok-check_symbol.ensures c.in_err-check_room.ensures)
