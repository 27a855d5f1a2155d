use Rattle.sessions.specs.Sessions.{stage, Led}
use Rattle.unitwriter.proofs.run.run_entries.Given as goal

abbrev pub invariant-loop-entry : goal.invariant-loop-entry
invariant-loop-entry l = Led (stage l.initial.session) (stage l.session)
