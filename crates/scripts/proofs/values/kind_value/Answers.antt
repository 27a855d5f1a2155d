use Rattle.std.proofs.Common.{IfErr, sym, subst, arith}
use Rattle.scripts.specs.Complaints.{NoValue}
use Rattle.scripts.proofs.Words.{one_word, two_words}
use Rattle.scripts.proofs.values.kind_value.Goals as goal

pub returns-in-len1-clause-refuses : goal.returns-in-len1-clause-refuses
returns-in-len1-clause-refuses c = subst (λ ws. IfErr c.word_value.result (λ e. NoValue c.args.kind ws e)) (sym (one_word c.args.words.now (omega arith))) c.word_value.ensures.refuses

pub returns-in-len2-clause-refuses : goal.returns-in-len2-clause-refuses
returns-in-len2-clause-refuses c = subst (λ ws. IfErr c.pair_value.result (λ e. NoValue c.args.kind ws e)) (sym (two_words c.args.words.now (omega arith))) c.pair_value.ensures.refuses
