use Rattle.std.proofs.Common.{◌≡◌, [], get_or, arith, subst}
use Rattle.std.proofs.lemmas.Grind.{common_steps}
use Rattle.std.proofs.lemmas.Result.{err_from_is_err_and}
use Rattle.scripts.specs.Complaints.{NoValue}
use Rattle.scripts.specs.Kinds.{word_of}
use Rattle.scripts.specs.Values.{texts_of}
use Rattle.scripts.proofs.Sets.{set_refused}
use Rattle.scripts.proofs.Words.{length_texts, text_at, texts_from}
use Rattle.scripts.proofs.calls.set_call.Goals as goal

pub returns-in_err-value-clause-refuses : goal.returns-in_err-value-clause-refuses
returns-in_err-value-clause-refuses c =
    let p = err_from_is_err_and c.from_residual-in_err-value.result c.from_residual-in_err-value.ensures.1 in
    let k : get_or (texts_of c.args.words.now) 3 [] ≡ word_of c.in_ok-kind.kind = grind (arith, common_steps, text_at) in
    rw (p.1, p.2) (set_refused c.in_ok-kind.kind (texts_of c.args.words.now) _ (omega (arith, length_texts c.args.words.now)) k (subst (λ ws. NoValue c.in_ok-kind.kind ws c.in_err-value.field-0.0) (texts_from c.args.words.now 4) c.in_err-value.ensures.refuses))
