use Rattle.std.proofs.Common.{◌≡◌, ℕ, ◌+◌, ◌-◌, ◌<◌, ◌≤◌, true, cond, ◌||◌, ltb, List, [], ◌∷◌, ◌++◌, length, position, Some, None, take, set, sym, ap, ◌∙◌, refl, arith, ◌==◌}
use Rattle.std.specs.List.{position_or_len}
use Rattle.std.specs.Option.{is_some}
use Rattle.std.proofs.lemmas.List.{length-take-le, take_more_set}
use lib.Seq.{take-set-lt}
use Rattle.std.proofs.lemmas.Bool.Decides.{nat_tests}
use Rattle.std.proofs.lemmas.Grind.{common_steps}
use Rattle.sections.specs.Notes.{noted, has, distinct}
use Rattle.sections.specs.declared.note.Note.{Note}

-- where the note of a place stands, or how many notes there are
abbrev found : ℕ → List Note → ℕ
found p ns = position_or_len (λ n. n.place == p) ns

has_found : (p : ℕ) (ns : List Note) → has p ns ≡ ltb (found p ns) (length ns)
has_found p [] = refl
has_found p (n ∷ ns) = let k = has_found p ns in grind (arith, nat_tests)

noted_found : (n : Note) (ns : List Note) → found n.place ns < length ns → noted n ns ≡ set ns (found n.place ns) n
noted_found n [] e = grind arith
noted_found n (m ∷ ms) e = let k = noted_found n ms in grind (arith, nat_tests)

noted_last : (n : Note) (ns : List Note) → length ns ≤ found n.place ns → noted n ns ≡ ns ++ n ∷ []
noted_last n [] e = refl
noted_last n (m ∷ ms) e = let k = noted_last n ms in grind (arith, nat_tests)

-- the same, as a search answers it
pub has_is_some : (p : ℕ) (ns : List Note) → has p ns ≡ is_some (position (λ n. n.place == p) ns)
has_is_some p ns = let k = has_found p ns in grind (arith, common_steps)

noted_over : (n : Note) (ns : List Note) (i : ℕ) → position (λ m. m.place == n.place) ns ≡ Some i → (i < length ns) × (noted n ns ≡ set ns i n)
noted_over n ns i e = let k = noted_found n ns in (grind (arith, common_steps), grind (arith, common_steps))

noted_new : (n : Note) (ns : List Note) → position (λ m. m.place == n.place) ns ≡ None → noted n ns ≡ ns ++ n ∷ []
noted_new n ns e = let k = noted_last n ns in grind (arith, common_steps)

-- a note in the place of another, and one past those in use
pub put_over : (n : Note) (u : ℕ) (list : List Note) (i : ℕ) → u ≤ length list → position (λ m. m.place == n.place) (take u list) ≡ Some i → take u (set list i n) ≡ noted n (take u list)
put_over n u list i h e =
    let k = noted_over n (take u list) i e in
    take-set-lt u list i n (omega (arith, k.0, length-take-le u list h)) ∙ sym k.1

pub put_new : (n : Note) (u : ℕ) (list : List Note) → u < length list → position (λ m. m.place == n.place) (take u list) ≡ None → take (u + 1) (set list u n) ≡ noted n (take u list)
put_new n u list h e = take_more_set list u n h ∙ sym (noted_new n (take u list) e)

-- where a place has no note, and yet there is room
pub free : (p u : ℕ) (list : List Note) → u ≤ length list → position (λ n. n.place == p) (take u list) ≡ None → (has p (take u list) || ltb 0 (512 - length (take u list))) ≡ true → u < 512
free p u list h e r = let k = has_is_some p (take u list) in let l = length-take-le u list h in grind (arith, nat_tests)

has_noted : (p : ℕ) (n : Note) (ns : List Note) → (n.place ≡ p → ⊥) → has p (noted n ns) ≡ has p ns
has_noted p n [] e = grind (arith, nat_tests)
has_noted p n (m ∷ ms) e = let k = has_noted p n ms e in grind (arith, nat_tests)

distinct_noted : (n : Note) (ns : List Note) → distinct ns ≡ true → distinct (noted n ns) ≡ true
distinct_noted n [] e = refl
distinct_noted n (m ∷ ms) e = let k = distinct_noted n ms in let j = has_noted m.place n ms in grind (arith, nat_tests)

pub apart_noted : (n : Note) (ns ms : List Note) → ms ≡ noted n ns → distinct ns ≡ true → distinct ms ≡ true
apart_noted n ns ms e h = ap distinct e ∙ distinct_noted n ns h

-- how many notes there are after one more
pub length_noted : (n : Note) (ns : List Note) → length (noted n ns) ≡ cond (has n.place ns) (length ns) (length ns + 1)
length_noted n [] = refl
length_noted n (m ∷ ms) = let k = length_noted n ms in grind (arith, nat_tests)
