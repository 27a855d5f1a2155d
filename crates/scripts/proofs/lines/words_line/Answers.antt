use Rattle.std.proofs.Common.{arith, subst}
use Rattle.std.proofs.lemmas.Grind.{common_steps}
use Rattle.scripts.specs.Lines.{OpeningFrom}
use Rattle.scripts.proofs.Words.{text_at, texts_from}
use Rattle.scripts.proofs.lines.words_line.Goals as goal

pub returns-in_ok-opening-in-session-clause-says : goal.returns-in_ok-opening-in-session-clause-says
returns-in_ok-opening-in-session-clause-says c = (
  grind (arith, common_steps, text_at),
  subst (λ ws. OpeningFrom c.in_ok-opening-in-session.field-0 ws) (texts_from c.args.words.now 1) c.in_ok-opening-in-session.ensures,
)
