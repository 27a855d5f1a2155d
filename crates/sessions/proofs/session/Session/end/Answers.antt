use Rattle.std.proofs.Common.{vec_items, ◌∙◌, rules}
use Rattle.trees.specs.View.{view}
use Rattle.sessions.proofs.GivingBack.{one_back, back_leads}
use Rattle.sessions.proofs.Sessions.{leads_more}
use Rattle.sessions.proofs.session.Session.end.Goals as goal

pub loop-reservation-preserved : goal.loop-reservation-preserved
loop-reservation-preserved c = record {
  tells = leads_more (view c.args.self.table.records) (view c.loop-reservation.table.records) (view c.give_back.new.self.records) c.loop-reservation.invariant.tells
      (back_leads c.in-Some.reservation c.give_back.result (view c.loop-reservation.table.records) (view c.give_back.new.self.records) c.give_back.ensures.law c.give_back.ensures.growth);
  outcome = one_back (vec_items c.loop-reservation.held) (vec_items c.pop.new.self) c.in-Some.reservation (view c.loop-reservation.table.records) (view c.give_back.new.self.records) c.give_back.result
      (search rules) c.give_back.ensures.outcome ∙ c.loop-reservation.invariant.outcome;
}
