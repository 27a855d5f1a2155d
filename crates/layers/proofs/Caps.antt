use Rattle.std.proofs.Common.{◌≡◌, ℕ, ◌+◌, ◌-◌, ◌<◌, ◌≤◌, min, Bool, true, false, List, [], ◌∷◌, length, replicate, ℤ, pos, Ok, Err, Result, sym, ap, ◌∙◌, arith, length-append, le-ltb}
use Rattle.std.proofs.lemmas.List.{length-replicate}
use Rattle.std.proofs.lemmas.Bool.Decides.{nat_tests}
use Rattle.numbers.specs.Orders.{bytes_of}
use Rattle.numbers.proofs.Orders.{length_bytes_of}
use Rattle.numbers.specs.declared.common.SectionId.{SectionId}
use Rattle.numbers.specs.declared.common.Address.{Address}
use Rattle.numbers.specs.declared.common.Address.TheVariants.{Constant, Symbol}
use Rattle.sections.specs.declared.fault.Fault.{Fault}
use Rattle.sections.specs.declared.fault.Fault.TheVariants.{SectionFull, InvalidReference}
use Rattle.sections.specs.declared.note.Target.{Target}
use Rattle.sections.specs.declared.note.Target.TheVariants as target
use Rattle.sections.specs.Section.{Section, Act, Check, declining, becomes, verdict, append, place, number, number_into, note_end, note_into, note_of, with_note, grown, mended, full, past_end, over_end, no_note, offset_at, offset_body, offset_into_body, offset, reference, address, word_checks, symbol_checks, address_checks, address_body, capped}
use Rattle.sections.proofs.Acts.{through, out, append_fits, append_full, end_full, refused, checked, length_over}

-- the same section with other bytes left
with_left : ℕ → Section → Section
with_left n s = record { big = s.big; bytes = s.bytes; notes = s.notes; left = n; spare = s.spare }

less : (n l c k : ℕ) → n ≤ min l (c - k) → min (l - n) (c - (k + n)) ≡ min l (c - k) - n
less n l c k h = omega arith

pub capped_grown : (limit : ℕ) (xs : List ℕ) (s : Section) → length xs ≤ (capped limit s).left → grown xs (capped limit s) ≡ capped limit (grown xs s)
unfolding with_left
capped_grown limit xs s h =
    sym (ap (λ n. with_left n (grown xs s)) (ap (λ k. min (s.left - length xs) (limit - k)) (length-append s.bytes xs) ∙ less (length xs) s.left limit (length s.bytes) h))

pub capped_mended : (limit at : ℕ) (xs : List ℕ) (s : Section) → at + length xs ≤ length s.bytes → mended at xs (capped limit s) ≡ capped limit (mended at xs s)
unfolding with_left
capped_mended limit at xs s h = ap (λ k. with_left (min s.left (limit - k)) (mended at xs s)) (sym (length_over at xs s.bytes h))

-- where the limit has the room, an append under it is the append below
pub capped_append : (limit : ℕ) (xs : List ℕ) (s : Section) → length xs ≤ (capped limit s).left → append xs (capped limit s) ≡ out (capped limit) (append xs s)
capped_append limit xs s h =
    append_fits xs (capped limit s) h ∙ ap (λ (t : Section). (t, Ok tt)) (capped_grown limit xs s h) ∙ ap (out (capped limit)) (sym (append_fits xs s (omega arith)))

pub capped_place : (limit at : ℕ) (xs : List ℕ) (s : Section) → place at xs (capped limit s) ≡ out (capped limit) (place at xs s)
unfolding place
capped_place limit at xs s =
    through (capped limit) (past_end at s ∷ over_end at (length xs) s ∷ []) (becomes (mended at xs (capped limit s))) (becomes (mended at xs s)) s
    (λ ok. let fits : at + length xs ≤ length s.bytes = grind (arith, nat_tests) in
    ap (λ t. (t, Ok tt)) (capped_mended limit at xs s fits))

pub capped_into : (limit at size : ℕ) (x : Target) (a : ℤ) (s : Section) → note_into at size x a (capped limit s) ≡ out (capped limit) (note_into at size x a s)
unfolding note_into
capped_into limit at size x a s =
    through (capped limit) (past_end at s ∷ over_end at size s ∷ no_note at s ∷ []) (becomes (with_note (note_of at size x a) (mended at (replicate size 0) (capped limit s)))) (becomes (with_note (note_of at size x a) (mended at (replicate size 0) s))) s
    (λ ok. let fits : at + size ≤ length s.bytes = grind (arith, nat_tests) in
    ap (λ t. (with_note (note_of at size x a) t, Ok tt)) (capped_mended limit at (replicate size 0) s (simp length-replicate fits)))

pub capped_end : (limit size : ℕ) (x : Target) (a : ℤ) (s : Section) → size ≤ (capped limit s).left → note_end size x a (capped limit s) ≡ out (capped limit) (note_end size x a s)
unfolding note_end
capped_end limit size x a s h =
    let p = becomes (with_note (note_of (length s.bytes) size x a) (grown (replicate size 0) (capped limit s))) in
    let same : full size (capped limit s) ≡ full size s = ap (λ b. (b, SectionFull)) (le-ltb _ _ h ∙ sym (le-ltb s.left size (omega arith))) in
    ap (λ c. declining (c ∷ no_note (length s.bytes) s ∷ []) p (capped limit s)) same
    ∙ through (capped limit) (full size s ∷ no_note (length s.bytes) s ∷ []) p (becomes (with_note (note_of (length s.bytes) size x a) (grown (replicate size 0) s))) s
    (λ _. ap (λ t. (with_note (note_of (length s.bytes) size x a) t, Ok tt)) (capped_grown limit (replicate size 0) s (simp length-replicate h)))

pub capped_number : (limit size n : ℕ) (s : Section) → size ≤ (capped limit s).left → number size n (capped limit s) ≡ out (capped limit) (number size n s)
capped_number limit size n s h = capped_append limit (bytes_of s.big size n) s (rw (length_bytes_of s.big size n) h)

pub capped_number_into : (limit at size n : ℕ) (s : Section) → number_into at size n (capped limit s) ≡ out (capped limit) (number_into at size n s)
capped_number_into limit at size n s = capped_place limit at (bytes_of s.big size n) s

-- no room for a number
pub number_full : (size n : ℕ) (s : Section) → s.left < size → number size n s ≡ (s, Err SectionFull)
number_full size n s h = append_full (bytes_of s.big size n) s (rw (length_bytes_of s.big size n) h)

-- room for a word, as a check answers it
pub room_for : (k : ℕ) (s : Section) → Ok tt ≡ verdict (full k s ∷ []) → k ≤ s.left
room_for k s h = grind (arith, nat_tests)

-- a body of a linking call that appends a word of `size` bytes
pub record Word (size : ℕ) (p : Act Unit) : Type 0 where
  pub declined : (s : Section) → s.left < size → p s ≡ (s, Err SectionFull)
  pub kept : (limit : ℕ) (s : Section) → size ≤ (capped limit s).left → p (capped limit s) ≡ out (capped limit) (p s)

number_word : (size n : ℕ) → Word size (number size n)
number_word size n = record { declined = number_full size n; kept = λ limit s h. capped_number limit size n s h }

pub note_word : (size : ℕ) (x : Target) (a : ℤ) → Word size (note_end size x a)
note_word size x a = record { declined = end_full size x a; kept = λ limit s h. capped_end limit size x a s h }

pub address_word : (y : Address) (size : ℕ) → Word size (address_body y size)
address_word (Constant n) size = number_word size n
address_word (Symbol x a) size = note_word size (target.Symbol x) a

pub reference_word : (x size : ℕ) → Word size (note_end size (target.Symbol x) (pos 0))
reference_word x size = note_word size (target.Symbol x) (pos 0)

pub offset_word : (r : Bool) (n : ℕ) (x : SectionId) (size : ℕ) → Word size (offset_body r n x size)
offset_word true n x size = note_word size (target.Section x) (pos n)
offset_word false n x size = number_word size n

-- such a call after its checks: refused by them, declined for want of room, or as below
pub word_refused : {size : ℕ} {p : Act Unit} (cs : List Check) → Word size p → (s : Section) (e : Fault) → Err e ≡ verdict cs → declining cs p s ≡ (s, Err e)
word_refused {p} cs w s e h = refused cs p s e (sym h)

pub word_full : {size : ℕ} {p : Act Unit} (cs : List Check) → Word size p → (s : Section) (e : Fault) → Ok tt ≡ verdict cs → Err e ≡ verdict (full size s ∷ []) → declining cs p s ≡ (s, Err e)
word_full {size} {p} cs w s e h k =
    let lt : s.left < size = grind (arith, nat_tests) in
    let same : SectionFull ≡ e = grind (arith, nat_tests) in
    checked cs p s (sym h) ∙ w.declined s lt ∙ ap (λ (f : Fault). (s, Err f)) same

pub word_kept : {size : ℕ} {p : Act Unit} (cs : List Check) → Word size p → (limit : ℕ) (s : Section) → Ok tt ≡ verdict (full size (capped limit s) ∷ []) → declining cs p (capped limit s) ≡ out (capped limit) (declining cs p s)
word_kept {size} {p} cs w limit s k = through (capped limit) cs p p s (λ _. w.kept limit s (room_for size (capped limit s) k))

offset_into : (r : Bool) (limit at n : ℕ) (x : SectionId) (size : ℕ) (s : Section) → offset_into_body r at n x size (capped limit s) ≡ out (capped limit) (offset_into_body r at n x size s)
offset_into true limit at n x size s = capped_into limit at size (target.Section x) (pos n) s
offset_into false limit at n x size s = capped_number_into limit at size n s

pub capped_offset_at : (limit : ℕ) (r : Bool) (at n : ℕ) (x : SectionId) (size : ℕ) (s : Section) → offset_at r at n x size (capped limit s) ≡ out (capped limit) (offset_at r at n x size s)
unfolding offset_at
capped_offset_at limit r at n x size s = through (capped limit) (word_checks n size) (offset_into_body r at n x size) (offset_into_body r at n x size) s (λ _. offset_into r limit at n x size s)

-- the calls under a limit that has the room, as the calls below answer
pub ran_append : (limit : ℕ) (xs : List ℕ) (s : Section) (o : Section × Result Unit Fault) → length xs ≤ (capped limit s).left → append xs s ≡ o → append xs (capped limit s) ≡ out (capped limit) o
ran_append limit xs s o h e = capped_append limit xs s h ∙ ap (out (capped limit)) e

pub ran_address : (limit : ℕ) (r : Bool) (y : Address) (size : ℕ) (s : Section) (o : Section × Result Unit Fault) → Ok tt ≡ verdict (full size (capped limit s) ∷ []) → address r y size s ≡ o → address r y size (capped limit s) ≡ out (capped limit) o
unfolding address
ran_address limit r y size s o k e = word_kept (address_checks r y size) (address_word y size) limit s k ∙ ap (out (capped limit)) e

pub ran_offset : (limit : ℕ) (r : Bool) (n : ℕ) (x : SectionId) (size : ℕ) (s : Section) (o : Section × Result Unit Fault) → Ok tt ≡ verdict (full size (capped limit s) ∷ []) → offset r n x size s ≡ o → offset r n x size (capped limit s) ≡ out (capped limit) o
unfolding offset
ran_offset limit r n x size s o k e = word_kept (word_checks n size) (offset_word r n x size) limit s k ∙ ap (out (capped limit)) e

pub ran_reference : (limit : ℕ) (r : Bool) (x size : ℕ) (s : Section) (o : Section × Result Unit Fault) → Ok tt ≡ verdict (full size (capped limit s) ∷ []) → reference r x size s ≡ o → reference r x size (capped limit s) ≡ out (capped limit) o
unfolding reference
ran_reference limit r x size s o k e = word_kept (symbol_checks r InvalidReference size) (reference_word x size) limit s k ∙ ap (out (capped limit)) e
