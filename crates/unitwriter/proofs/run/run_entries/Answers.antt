use Rattle.sessions.specs.Sessions.{stage}
use Rattle.sessions.proofs.Sessions.{led_more}
use Rattle.unitwriter.proofs.run.run_entries.Goals as goal

pub returns-in_err-run_entry : goal.returns-in_err-run_entry
returns-in_err-run_entry c =
    led_more (stage c.args.session.now) (stage c.loop-entry.session) (stage c.run_entry.new.session) c.loop-entry.invariant c.run_entry.ensures

pub loop-entry-preserved : goal.loop-entry-preserved
loop-entry-preserved c =
    led_more (stage c.args.session.now) (stage c.loop-entry.session) (stage c.run_entry.new.session) c.loop-entry.invariant c.run_entry.ensures
