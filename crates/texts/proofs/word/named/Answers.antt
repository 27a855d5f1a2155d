use Rattle.std.proofs.Common.{◌≡◌, ◌≢◌, List, All, Contains, Option, Some, None, MatchOption, subst, sym}
use Rattle.std.proofs.lemmas.List.Elements.{All-contains}
use Rattle.texts.proofs.word.named.Goals as goal

-- what no value of a whole list has, no value has
nowhere : {X : Type 0} (P Q : X → Type 0) (xs : List X) (o : Option X) → ((x : X) → Contains xs x) → MatchOption o (All P xs) Q → MatchOption o ((x : X) → P x) Q
nowhere P Q xs None every h = λ x. All-contains P xs x h (every x)
nowhere P Q xs (Some x) every h = h

pub returns : goal.returns
returns g c =
    nowhere (λ x. g.T.Word.text x ≢ c.args.word.now) (λ x. g.T.Word.text x ≡ c.args.word.now) c.all.result.now c.first_named.result
    (λ x. subst (λ xs. Contains xs x) (sym c.all.ensures) (g.met.T.Word.complete x)) c.first_named.ensures
