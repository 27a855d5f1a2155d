use Rattle.std.proofs.Common.{not, sym, ap, ◌∙◌}
use mir.Syntax.{w128}
use Rattle.std.proofs.lemmas.Int.{to_z-of_z}
use Rattle.std.proofs.lemmas.Result.{err_from_is_err_and}
use Rattle.layers.proofs.Relocates.{end_refused, end_full, end_none, relocated_end, zeros_append}
use Rattle.layers.proofs.relocating.Relocating.append_note.Goals as goal

pub returns-in_err-check_size : goal.returns-in_err-check_size
returns-in_err-check_size g c =
    let p = err_from_is_err_and c.from_residual.result c.from_residual.ensures.1 in
    rw (p.1, p.2) (end_refused c.args.size c.args.target c.args.addend _ _ c.in_err-check_size.ensures)

pub returns-in_err-check_room : goal.returns-in_err-check_room
returns-in_err-check_room g c =
    let p = err_from_is_err_and c.from_residual-in_err-check_room.result c.from_residual-in_err-check_room.ensures.1 in
    rw (p.1, p.2) (end_full c.args.size c.args.target c.args.addend _ _ c.in_ok-check_size.ensures c.in_err-check_room.ensures)

pub returns-then-not-has_room : goal.returns-then-not-has_room
returns-then-not-has_room g c =
    end_none c.args.size c.len-place.result c.args.target c.args.addend _ c.in_ok-check_size.ensures c.in_ok-check_room.ensures c.len-place.ensures
    (ap not (sym c.has_room.ensures ∙ c.if-not-has_room.true))

pub returns-in_err-write : goal.returns-in_err-write
returns-in_err-write g c =
    absurd (zeros_append c.args.size c.zeros.result.now (g.W.Writer.meaning c.args.self.now.inner) _ _ c.in_ok-check_room.ensures c.zeros.ensures c.in_err-write.ensures)

pub returns : goal.returns
returns g c =
    relocated_end c.args.self.now.notes c.put.new.self (g.W.Writer.meaning c.args.self.now.inner) (g.W.Writer.meaning c.write.new.self) c.args.size c.len-place.result c.args.target c.args.addend _ c.zeros.result.now
    c.in_ok-check_size.ensures c.in_ok-check_room.ensures c.len-place.ensures (ap not (sym c.has_room.ensures ∙ c.if-not-has_room.false))
    c.zeros.ensures c.in_ok-write.ensures (to_z-of_z w128 c.args.addend c.ranges.addend) c.put.ensures.list
