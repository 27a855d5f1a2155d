use Rattle.std.proofs.Common.{not, sym, ap, ◌∙◌, arith}
use mir.Syntax.{w128}
use Rattle.std.proofs.lemmas.Int.{to_z-of_z}
use Rattle.std.proofs.lemmas.Result.{err_from_is_err_and}
use Rattle.layers.proofs.Relocates.{into_refused, into_past, into_over, into_none, relocated_into, zeros_place}
use Rattle.layers.proofs.relocating.Relocating.place_note.Goals as goal

pub returns-in_err-check_size : goal.returns-in_err-check_size
returns-in_err-check_size g c =
    let p = err_from_is_err_and c.from_residual.result c.from_residual.ensures.1 in
    rw (p.1, p.2) (into_refused c.args.at c.args.size c.args.target c.args.addend _ _ c.in_err-check_size.ensures)

pub returns-then-at-n : goal.returns-then-at-n
returns-then-at-n g c = into_past c.args.at c.args.size c.args.target c.args.addend _ c.in_ok-check_size.ensures (omega arith)

pub returns-then-size-n : goal.returns-then-size-n
returns-then-size-n g c =
    into_over c.args.at c.args.size c.args.target c.args.addend _ c.in_ok-check_size.ensures (omega arith) (omega arith)

pub returns-then-not-has_room : goal.returns-then-not-has_room
returns-then-not-has_room g c =
    into_none c.args.at c.args.size c.args.target c.args.addend _ c.in_ok-check_size.ensures (omega arith) (ap not (sym c.has_room.ensures ∙ c.if-not-has_room.true))

pub returns-in_err-write_at : goal.returns-in_err-write_at
returns-in_err-write_at g c =
    absurd (zeros_place c.args.at c.args.size c.zeros.result.now (g.W.Writer.meaning c.args.self.now.inner) _ _ (omega arith) c.zeros.ensures c.in_err-write_at.ensures)

pub returns : goal.returns
returns g c =
    relocated_into c.args.self.now.notes c.put.new.self (g.W.Writer.meaning c.args.self.now.inner) (g.W.Writer.meaning c.write_at.new.self) c.args.size c.args.at c.args.target c.args.addend _ c.zeros.result.now
    c.in_ok-check_size.ensures (omega arith) (ap not (sym c.has_room.ensures ∙ c.if-not-has_room.false))
    c.zeros.ensures c.in_ok-write_at.ensures (to_z-of_z w128 c.args.addend c.ranges.addend) c.put.ensures.list
