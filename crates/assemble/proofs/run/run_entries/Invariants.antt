use Rattle.std.proofs.Common.{◌≡◌, drop}
use Rattle.assemble.specs.Orders.{state_of, lines_done}
use Rattle.assemble.proofs.run.run_entries.Given as goal

abbrev pub invariant-loop-entry : goal.invariant-loop-entry
invariant-loop-entry g l =
    lines_done g.L.LinkWriter.relocates (drop l.entry-index l.entries) (state_of g.L.Writer.meaning l.bench)
    ≡ lines_done g.L.LinkWriter.relocates l.entries (state_of g.L.Writer.meaning l.initial.bench)
