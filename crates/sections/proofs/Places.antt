use Rattle.std.proofs.Common.{◌≡◌, ℕ, ◌+◌, ◌^◌, ◌<◌, ◌≤◌, Bool, true, false, ◌⊎◌, List, [], ◌∷◌, ◌++◌, length, take, drop, replicate, ℤ, pos, Some, None, Ok, Option, Result, sym, refl, ap, ◌∙◌, inl, inr, ⊎_elim, arith, length-append, length-drop, length-take, ltb-false, ne_eqb, leb-false}
use Rattle.std.proofs.lemmas.List.{take-append-le, drop-append-le, length-replicate, ext_get_or, places, take_at, drop_at, length-take-le}
use Rattle.std.proofs.lemmas.Bool.Decides.{nat_tests}
use Rattle.numbers.specs.Orders.{bytes_of, value_of}
use Rattle.numbers.proofs.Orders.{length_bytes_of}
use Rattle.numbers.specs.Reading.{value_bytes_of}
use Rattle.numbers.specs.declared.common.Address.{Address}
use Rattle.numbers.specs.declared.common.Address.TheVariants.{Constant, Symbol}
use Rattle.numbers.specs.declared.common.SectionId.{SectionId}
use Rattle.sections.specs.declared.fault.Fault.{Fault}
use Rattle.sections.specs.declared.note.Note.{Note}
use Rattle.sections.specs.declared.note.Target.{Target}
use Rattle.sections.specs.declared.note.Target.TheVariants as target
use Rattle.sections.specs.Notes.{note_at, noted}
use Rattle.sections.specs.Section.{Section, Act, Check, declining, becomes, append, place, number, number_into, note_end, note_into, note_of, with_note, grown, mended, over, full, past_end, over_end, no_note, address, address_checks, address_body, offset, offset_at, offset_body, offset_into_body, reference, symbol_checks, udata_at, word_checks, odd_size, too_large}
use Rattle.sections.specs.Places.{number_at, these_bytes, an_address, an_offset, a_symbol, bytes_at, an_offset_at, AppendKeeps, OverwriteKeeps, WordSays, OffsetSays, NumbersStand}
use Rattle.sections.proofs.Acts.{passed}

-- what a call that declines for reasons leaves: the section as it was, or what its body leaves where no reason holds
kept : (P : Section → Type 0) (cs : List Check) (p : Act Unit) (s : Section) → P s → (passed cs ≡ true → P (p s).0) → P (declining cs p s).0
kept P [] p s h k = k refl
kept P ((true, e) ∷ cs) p s h k = h
kept P ((false, e) ∷ cs) p s h k = kept P cs p s h k

-- notes at other places
other_note : (p : ℕ) (n : Note) (ns : List Note) → (p ≡ n.place → ⊥) → note_at p (noted n ns) ≡ note_at p ns
other_note p n [] h = let e = ne_eqb n.place p (λ q. h (sym q)) in grind (arith, nat_tests)
other_note p n (m ∷ ms) h = let k = other_note p n ms h in grind (arith, nat_tests)

own_note : (n : Note) (ns : List Note) → note_at n.place (noted n ns) ≡ Some n
own_note n [] = grind (arith, nat_tests)
own_note n (m ∷ ms) = let k = own_note n ms in grind (arith, nat_tests)

-- the number at a place, from its note and its bytes
same_number : (s t : Section) (p size : ℕ) → t.big ≡ s.big → note_at p t.notes ≡ note_at p s.notes → take size (drop p t.bytes) ≡ take size (drop p s.bytes) → number_at t p size ≡ number_at s p size
unfolding number_at
same_number s t p size o n b =
    ap (λ (m : Option Note). elim m [ Some x ↦ x.addend | None ↦ pos (value_of t.big (take size (drop p t.bytes))) ]) n
    ∙ ap (λ c. elim (note_at p s.notes) [ Some x ↦ x.addend | None ↦ pos (value_of c (take size (drop p t.bytes))) ]) o
    ∙ ap (λ xs. elim (note_at p s.notes) [ Some x ↦ x.addend | None ↦ pos (value_of s.big xs) ]) b

front_bytes : (b xs : List ℕ) (p size : ℕ) → p + size ≤ length b → take size (drop p (b ++ xs)) ≡ take size (drop p b)
front_bytes b xs p size h =
    ap (take size) (drop-append-le p b xs (omega arith)) ∙ take-append-le size (drop p b) xs (simp length-drop (omega arith))

grown_keeps : (xs : List ℕ) (s : Section) (p size : ℕ) → p + size ≤ length s.bytes → number_at (grown xs s) p size ≡ number_at s p size
grown_keeps xs s p size h = same_number s (grown xs s) p size refl refl (front_bytes s.bytes xs p size h)

-- the bodies of appends
append_keeps : (xs : List ℕ) (s : Section) (p size : ℕ) → p + size ≤ length s.bytes → number_at (append xs s).0 p size ≡ number_at s p size
unfolding append
append_keeps xs s p size h = kept (λ t. number_at t p size ≡ number_at s p size) (full (length xs) s ∷ []) (becomes (grown xs s)) s refl (λ _. grown_keeps xs s p size h)

end_keeps : (k : ℕ) (x : Target) (a : ℤ) (s : Section) (p size : ℕ) → p < length s.bytes → p + size ≤ length s.bytes → number_at (note_end k x a s).0 p size ≡ number_at s p size
unfolding note_end
end_keeps k x a s p size l h =
    let n = note_of (length s.bytes) k x a in
    kept (λ t. number_at t p size ≡ number_at s p size) (full k s ∷ no_note (length s.bytes) s ∷ []) (becomes (with_note n (grown (replicate k 0) s))) s refl
    (λ _. same_number s (with_note n (grown (replicate k 0) s)) p size refl (other_note p n s.notes (λ e. omega arith)) (front_bytes s.bytes (replicate k 0) p size h))

number_keeps : (k n : ℕ) (s : Section) (p size : ℕ) → p + size ≤ length s.bytes → number_at (number k n s).0 p size ≡ number_at s p size
number_keeps k n s p size h = append_keeps (bytes_of s.big k n) s p size h

body_keeps : (a : Address) (k : ℕ) (s : Section) (p size : ℕ) → p < length s.bytes → p + size ≤ length s.bytes → number_at (address_body a k s).0 p size ≡ number_at s p size
body_keeps (Constant n) k s p size l h = number_keeps k n s p size h
body_keeps (Symbol x a) k s p size l h = end_keeps k (target.Symbol x) a s p size l h

offset_keeps : (r : Bool) (n : ℕ) (x : SectionId) (k : ℕ) (s : Section) (p size : ℕ) → p < length s.bytes → p + size ≤ length s.bytes → number_at (offset_body r n x k s).0 p size ≡ number_at s p size
offset_keeps true n x k s p size l h = end_keeps k (target.Section x) (pos n) s p size l h
offset_keeps false n x k s p size l h = number_keeps k n s p size h

pub appends_keep : AppendKeeps
unfolding address offset reference
appends_keep r (these_bytes xs) s p size l h = append_keeps xs s p size h
appends_keep r (an_address a k) s p size l h =
    kept (λ t. number_at t p size ≡ number_at s p size) (address_checks r a k) (address_body a k) s refl (λ _. body_keeps a k s p size l h)
appends_keep r (an_offset n x k) s p size l h =
    kept (λ t. number_at t p size ≡ number_at s p size) (word_checks n k) (offset_body r n x k) s refl (λ _. offset_keeps r n x k s p size l h)
appends_keep r (a_symbol x k) s p size l h =
    kept (λ t. number_at t p size ≡ number_at s p size) (symbol_checks r _ k) (note_end k (target.Symbol x) (pos 0)) s refl (λ _. end_keeps k (target.Symbol x) (pos 0) s p size l h)

-- bytes beside an overwrite, and in it
beside_over : (at : ℕ) (xs b : List ℕ) (p size : ℕ) → at + length xs ≤ length b → (p + size ≤ at) ⊎ (at + length xs ≤ p) → take size (drop p (over at xs b)) ≡ take size (drop p b)
beside_over at xs b p size h c =
    ext_get_or 0 _ _ (simp (length-append, length-take, length-drop) (omega arith))
    (λ i lt. ⊎_elim (λ d. grind (arith, places)) (λ d. grind (arith, places)) c)

within_over : (at : ℕ) (xs b : List ℕ) → at + length xs ≤ length b → take (length xs) (drop at (over at xs b)) ≡ xs
within_over at xs b h =
    ap (take (length xs)) (drop_at (take at b) (xs ++ drop (at + length xs) b) at (length-take-le at b (omega arith))) ∙ take_at xs (drop (at + length xs) b) (length xs) refl

-- the last of several checks
held : (cs : List Check) (c : Check) → passed (c ∷ cs) ≡ true → (c.0 ≡ false) × (passed cs ≡ true)
held cs (true, e) h = let z : ◌≡◌ {A = ℕ} 0 1 = cc in absurd (omega arith)
held cs (false, e) h = (refl, h)

place_keeps : (at : ℕ) (xs : List ℕ) (s : Section) (p size : ℕ) → (p + size ≤ at) ⊎ (at + length xs ≤ p) → number_at (place at xs s).0 p size ≡ number_at s p size
unfolding place
place_keeps at xs s p size c =
    kept (λ t. number_at t p size ≡ number_at s p size) (past_end at s ∷ over_end at (length xs) s ∷ []) (becomes (mended at xs s)) s refl
    (λ ok. let q = held (over_end at (length xs) s ∷ []) (past_end at s) ok in
    let fits : at + length xs ≤ length s.bytes = ltb-false _ _ (held [] (over_end at (length xs) s) q.1).0 in
    same_number s (mended at xs s) p size refl refl (beside_over at xs s.bytes p size fits c))

into_keeps : (at k : ℕ) (x : Target) (a : ℤ) (s : Section) (p size : ℕ) → (p ≡ at → ⊥) → (p + size ≤ at) ⊎ (at + k ≤ p) → number_at (note_into at k x a s).0 p size ≡ number_at s p size
unfolding note_into
into_keeps at k x a s p size e c =
    kept (λ t. number_at t p size ≡ number_at s p size) (past_end at s ∷ over_end at k s ∷ no_note at s ∷ []) (becomes (with_note (note_of at k x a) (mended at (replicate k 0) s))) s refl
    (λ ok. let q = held (over_end at k s ∷ no_note at s ∷ []) (past_end at s) ok in
    let fits : at + k ≤ length s.bytes = ltb-false _ _ (held (no_note at s ∷ []) (over_end at k s) q.1).0 in
    let long : length (replicate {A = ℕ} k 0) ≡ k = length-replicate {A = ℕ} k 0 in
    same_number s (with_note (note_of at k x a) (mended at (replicate k 0) s)) p size refl (other_note p (note_of at k x a) s.notes e)
    (beside_over at (replicate k 0) s.bytes p size (omega arith) (⊎_elim inl (λ d. inr (omega arith)) c)))

offset_into_keeps : (r : Bool) (at n : ℕ) (x : SectionId) (k : ℕ) (s : Section) (p size : ℕ) → (p ≡ at → ⊥) → (p + size ≤ at) ⊎ (at + k ≤ p) → number_at (offset_into_body r at n x k s).0 p size ≡ number_at s p size
offset_into_keeps true at n x k s p size e c = into_keeps at k (target.Section x) (pos n) s p size e c
offset_into_keeps false at n x k s p size e c =
    place_keeps at (bytes_of s.big k n) s p size (⊎_elim inl (λ d. inr (omega (arith, length_bytes_of s.big k n))) c)

pub overwrites_keep : OverwriteKeeps
unfolding offset_at
overwrites_keep r (bytes_at at xs) s p size c = place_keeps at xs s p size c.beside
overwrites_keep r (an_offset_at at n x k) s p size c =
    kept (λ t. number_at t p size ≡ number_at s p size) (word_checks n k) (offset_into_body r at n x k) s refl (λ _. offset_into_keeps r at n x k s p size c.elsewhere c.beside)

-- an accepted call passed its checks, and its body answered
accepted : (cs : List Check) (p : Act Unit) (s t : Section) → declining cs p s ≡ (t, Ok tt) → (passed cs ≡ true) × (p s ≡ (t, Ok tt))
accepted [] p s t h = (refl, h)
accepted ((true, e) ∷ cs) p s t h = let r = ap (λ (o : Section × Result Unit Fault). o.1) h in let z : ◌≡◌ {A = ℕ} 0 1 = cc in absurd (omega arith)
accepted ((false, e) ∷ cs) p s t h = accepted cs p s t h

-- a word that passed its checks holds its number
fits_word : (n size : ℕ) → passed (word_checks n size) ≡ true → n < 256 ^ size
fits_word n size h = let q = held (too_large n size ∷ []) (odd_size size) h in leb-false _ _ (held [] (too_large n size) q.1).0

placed_says : (at n size : ℕ) (s t : Section) → n < 256 ^ size → number_into at size n s ≡ (t, Ok tt) → note_at at s.notes ≡ None → number_at t at size ≡ pos n
unfolding place number_at
placed_says at n size s t f h e =
    let xs = bytes_of s.big size n in
    let long : length xs ≡ size = length_bytes_of s.big size n in
    let q = accepted (past_end at s ∷ over_end at (length xs) s ∷ []) (becomes (mended at xs s)) s t h in
    let c = (held [] (over_end at (length xs) s) (held (over_end at (length xs) s ∷ []) (past_end at s) q.0).1).0 in
    let fits : at + length xs ≤ length s.bytes = ltb-false _ _ c in
    let is : mended at xs s ≡ t = ap (λ (o : Section × Result Unit Fault). o.0) q.1 in
    let bytes : take size (drop at (over at xs s.bytes)) ≡ xs = ap (λ k. take k (drop at (over at xs s.bytes))) (sym long) ∙ within_over at xs s.bytes fits in
    ap (λ u. number_at u at size) (sym is)
    ∙ ap (λ (m : Option Note). elim m [ Some x ↦ x.addend | None ↦ pos (value_of s.big (take size (drop at (over at xs s.bytes)))) ]) e
    ∙ ap (λ ys. pos (value_of s.big ys)) bytes ∙ ap pos (value_bytes_of s.big size n f)

noted_says : (at size : ℕ) (x : Target) (a : ℤ) (s t : Section) → note_into at size x a s ≡ (t, Ok tt) → number_at t at size ≡ a
unfolding note_into number_at
noted_says at size x a s t h =
    let u = with_note (note_of at size x a) (mended at (replicate size 0) s) in
    let q = accepted (past_end at s ∷ over_end at size s ∷ no_note at s ∷ []) (becomes u) s t h in
    let is : u ≡ t = ap (λ (o : Section × Result Unit Fault). o.0) q.1 in
    ap (λ v. number_at v at size) (sym is)
    ∙ ap (λ (m : Option Note). elim m [ Some y ↦ y.addend | None ↦ pos (value_of s.big (take size (drop at u.bytes))) ]) (own_note (note_of at size x a) s.notes)

pub word_says : WordSays
unfolding udata_at
word_says at n size s t h e =
    let q = accepted (word_checks n size) (number_into at size n) s t h in placed_says at n size s t (fits_word n size q.0) q.1 e

pub offset_says : OffsetSays
unfolding offset_at
offset_says true at n x size s t h e =
    noted_says at size (target.Section x) (pos n) s t (accepted (word_checks n size) (offset_into_body true at n x size) s t h).1
offset_says false at n x size s t h e =
    let q = accepted (word_checks n size) (offset_into_body false at n x size) s t h in placed_says at n size s t (fits_word n size q.0) q.1 (e refl)

pub numbers_stand : NumbersStand
numbers_stand = record { appended = appends_keep; overwritten = overwrites_keep; word = word_says; offset_word = offset_says }
