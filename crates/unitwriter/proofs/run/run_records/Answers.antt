use Rattle.std.proofs.Common.{[]}
use Rattle.trees.specs.View.{view}
use Rattle.sessions.proofs.Sessions.{told_on}
use Rattle.unitwriter.proofs.run.run_records.Goals as goal

pub returns : goal.returns
returns c =
    told_on (view c.run_and_report-done.new.session.table.records) (view c.end-table.result.records) c.end-table.ensures.tells
    (told_on (view c.new-session.result.table.records) (view c.run_and_report-done.new.session.table.records) c.run_and_report-done.ensures.tells ([], c.new-session.ensures.tells))
