use Rattle.std.proofs.Common.{vec_items, ap, ◌∙◌, rules}
use Rattle.trees.specs.View.{view}
use Rattle.sessions.proofs.Sessions.{units_kept, order_leads}
use Rattle.sessions.proofs.ledger.Ledger.perform.Goals as goal

pub returns-clause-led : goal.returns-clause-led
returns-clause-led c = record {
  tells = order_leads (view c.args.table.now.records) (view c.apply-answer.new.table.records) c.in_ok-order.order c.apply-answer.ensures.law c.apply-answer.ensures.growth;
  units = λ h. units_kept (view c.args.table.now.records) (view c.apply-answer.new.table.records) c.in_ok-order.order c.apply-answer.result
      (vec_items c.order.new.self.homes) (vec_items c.settle.new.self.homes)
      (ap (λ l. vec_items l.homes) c.in_ok-order.ensures.rest ∙ c.make_room.ensures.homes ∙ h)
      c.apply-answer.ensures.outcome c.settle.ensures.homes;
}

pub returns-clause-performed : goal.returns-clause-performed
returns-clause-performed c = record {
  order = c.in_ok-order.order;
  unspent = vec_items c.order.new.self.held;
  number = search rules;
  means = search rules;
  table = search rules;
  replies = search rules;
  grants = search rules;
  holds = search rules;
  law = search rules;
  growth = search rules;
  units = (returns-clause-led c).units;
}
