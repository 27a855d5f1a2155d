use Rattle.std.proofs.Common.{◌≡◌, ℕ, zero, suc, ◌≤◌, List, [], ◌∷◌, ◌-◌, length, get_or, take, drop, refl, ap, ◌∙◌, rules, arith, Bor}
use Rattle.std.proofs.lemmas.List.{take_rest}
use Rattle.scripts.specs.declared.kind.Kind.{Kind}
use Rattle.scripts.specs.Kinds.{word_count}
use Rattle.scripts.specs.Values.{texts_of}

-- what stands past the last word
abbrev pub no_word : Bor (List ℕ)
no_word = record { ref_ptr = (0, 0); now = [] }

-- so many words
no_words : (ws : List (Bor (List ℕ))) → length ws ≡ 0 → texts_of ws ≡ []
no_words [] h = refl
no_words (w ∷ ws) h = absurd (omega (arith, h))

pub one_word : (ws : List (Bor (List ℕ))) → length ws ≡ 1 → texts_of ws ≡ (get_or ws 0 no_word).now ∷ []
one_word [] h = absurd (omega (arith, h))
one_word (w ∷ ws) h = let k : length ws ≡ 0 = omega (arith, h) in ap (λ l. w.now ∷ l) (no_words ws k)

pub two_words : (ws : List (Bor (List ℕ))) → length ws ≡ 2 → texts_of ws ≡ (get_or ws 0 no_word).now ∷ (get_or ws 1 no_word).now ∷ []
two_words [] h = absurd (omega (arith, h))
two_words (w ∷ ws) h = let k : length ws ≡ 1 = omega (arith, h) in ap (λ l. w.now ∷ l) (one_word ws k)

-- as many texts as words
pub length_texts : (ws : List (Bor (List ℕ))) → length (texts_of ws) ≡ length ws
length_texts [] = refl
length_texts (w ∷ ws) = ap suc (length_texts ws)

-- a text in its place
pub text_at : (ws : List (Bor (List ℕ))) (i : ℕ) → get_or (texts_of ws) i [] ≡ (get_or ws i no_word).now
text_at [] zero = refl
text_at [] (suc i) = refl
text_at (w ∷ ws) zero = refl
text_at (w ∷ ws) (suc i) = text_at ws i

texts_drop : (ws : List (Bor (List ℕ))) (i : ℕ) → texts_of (drop i ws) ≡ drop i (texts_of ws)
texts_drop ws zero = refl
texts_drop [] (suc i) = refl
texts_drop (w ∷ ws) (suc i) = texts_drop ws i

-- the texts from a place on
pub texts_from : (ws : List (Bor (List ℕ))) (i : ℕ) → texts_of (take (length ws - i) (drop i ws)) ≡ drop i (texts_of ws)
texts_from ws i = ap texts_of (take_rest ws i) ∙ texts_drop ws i

-- no value has more than two words
pub few : (kind : Kind) → word_count kind ≤ 2
few kind = search rules
