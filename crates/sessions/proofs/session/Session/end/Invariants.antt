use Rattle.std.proofs.Common.{◌≡◌, vec_items, vec_len}
use Rattle.trees.specs.View.{view}
use Rattle.sessions.specs.Tables.{Leads, after_giving_back}
use Rattle.sessions.proofs.session.Session.end.Given as goal

abbrev pub invariant-loop-reservation : goal.invariant-loop-reservation
invariant-loop-reservation l = record {
  tells : Leads (view l.initial.table.records) (view l.table.records);
  outcome : after_giving_back (vec_items l.held) (view l.table.records) ≡ after_giving_back (vec_items l.initial.held) (view l.initial.table.records);
}

abbrev pub decreases-loop-reservation : goal.decreases-loop-reservation
decreases-loop-reservation l = vec_len l.held
