use Rattle.std.proofs.Common.{◌≡◌, ℕ, ◌+◌, ◌-◌, ◌<◌, ◌≤◌, Bool, true, false, cond, List, [], ◌∷◌, length, replicate, ℤ, pos, Ok, Err, Result, sym, refl, ap, ◌∙◌, arith, w64, SFits, to_z, of_z}
use mir.Syntax.{w128}
use Rattle.std.proofs.lemmas.Int.{to_z-of_z}
use Rattle.std.proofs.lemmas.Bool.Decides.{nat_tests}
use Rattle.std.proofs.lemmas.List.{length-replicate}
use Rattle.sections.specs.declared.fault.Fault.{Fault}
use Rattle.sections.specs.declared.note.Note.{Note}
use Rattle.sections.specs.declared.note.Target.{Target}
use Rattle.sections.specs.declared.note.Target.TheVariants as target
use Rattle.numbers.specs.declared.common.SectionId.{SectionId}
use Rattle.numbers.specs.declared.common.Address.{Address}
use Rattle.numbers.specs.declared.common.Address.TheVariants.{Constant, Symbol}
use Rattle.sections.specs.Notes.{has, noted}
use Rattle.sections.specs.declared.fault.Fault.TheVariants.{OffsetOutOfBounds, LengthOutOfBounds, NotesFull}
use Rattle.layers.specs.Layers.{relocated, word_end, word_into}
use Rattle.layers.proofs.Positions.{length_noted}
use Rattle.sections.specs.Section.{Section, becomes, append, place, note_end, note_into, note_of, with_note, grown, mended, full, past_end, over_end, no_note, udata, offset, offset_at, offset_body, offset_into_body, address, verdict, word_checks, odd_size}
use Rattle.sections.proofs.Acts.{checked, refused, through, out, append_fits, append_never, place_fits, place_never, end_fits, into_fits, end_none as note_end_none, into_past as note_into_past, into_over as note_into_over, into_none as note_into_none}
use Rattle.sections.proofs.Words.{address_constant}
use Rattle.layers.proofs.Caps.{word_refused, word_full, note_word, room_for}

-- a call that sees no note is the call below
pub relocated_append : (ns : List Note) (xs : List ℕ) (s : Section) → append xs (relocated ns s) ≡ out (relocated ns) (append xs s)
unfolding append
relocated_append ns xs s = through (relocated ns) (full (length xs) s ∷ []) (becomes (grown xs (relocated ns s))) (becomes (grown xs s)) s (λ _. refl)

pub relocated_place : (ns : List Note) (at : ℕ) (xs : List ℕ) (s : Section) → place at xs (relocated ns s) ≡ out (relocated ns) (place at xs s)
unfolding place
relocated_place ns at xs s = through (relocated ns) (past_end at s ∷ over_end at (length xs) s ∷ []) (becomes (mended at xs (relocated ns s))) (becomes (mended at xs s)) s (λ _. refl)

-- how many notes are left after one more
spared : (b : Bool) (u u' : ℕ) → u' ≡ cond b u (u + 1) → cond b (512 - u) (512 - u - 1) ≡ 512 - u'
spared true u u' e = omega arith
spared false u u' e = omega arith

-- a section below, with a list of notes and a number of those left
abbrev layer : Section → List Note → ℕ → Section
layer b ns k = record { big = b.big; bytes = b.bytes; notes = ns; left = b.left; spare = k }

noted_layer : (ns ms : List Note) (n : Note) (b : Section) → ms ≡ noted n ns → with_note n (relocated ns b) ≡ relocated ms b
noted_layer ns ms n b e =
    ap (λ k. layer b (noted n ns) k) (spared (has n.place ns) (length ns) (length (noted n ns)) (length_noted n ns)) ∙ ap (λ l. relocated l b) (sym e)

-- a noted word, after its size was checked
end_noted : (size : ℕ) (x : Target) (a : ℤ) (s : Section) → Ok tt ≡ verdict (odd_size size ∷ []) → word_end size x a s ≡ note_end size x a s
unfolding word_end
end_noted size x a s h = checked (odd_size size ∷ []) (note_end size x a) s (sym h)

into_noted : (at size : ℕ) (x : Target) (a : ℤ) (s : Section) → Ok tt ≡ verdict (odd_size size ∷ []) → word_into at size x a s ≡ note_into at size x a s
unfolding word_into
into_noted at size x a s h = checked (odd_size size ∷ []) (note_into at size x a) s (sym h)

pub end_refused : (size : ℕ) (x : Target) (a : ℤ) (s : Section) (e : Fault) → Err e ≡ verdict (odd_size size ∷ []) → word_end size x a s ≡ (s, Err e)
unfolding word_end
end_refused size x a s e h = word_refused (odd_size size ∷ []) (note_word size x a) s e h

pub end_full : (size : ℕ) (x : Target) (a : ℤ) (s : Section) (e : Fault) → Ok tt ≡ verdict (odd_size size ∷ []) → Err e ≡ verdict (full size s ∷ []) → word_end size x a s ≡ (s, Err e)
unfolding word_end
end_full size x a s e h k = word_full (odd_size size ∷ []) (note_word size x a) s e h k

pub end_none : (size p : ℕ) (x : Target) (a : ℤ) (s : Section) → Ok tt ≡ verdict (odd_size size ∷ []) → Ok tt ≡ verdict (full size s ∷ []) → p ≡ length s.bytes → (no_note p s).0 ≡ true → word_end size x a s ≡ (s, Err NotesFull)
end_none size p x a s h k at r =
    end_noted size x a s h ∙ note_end_none size x a s (room_for size s k) (ap (λ j. (no_note j s).0) (sym at) ∙ r)

pub into_refused : (at size : ℕ) (x : Target) (a : ℤ) (s : Section) (e : Fault) → Err e ≡ verdict (odd_size size ∷ []) → word_into at size x a s ≡ (s, Err e)
unfolding word_into
into_refused at size x a s e h = refused (odd_size size ∷ []) (note_into at size x a) s e (sym h)

pub into_past : (at size : ℕ) (x : Target) (a : ℤ) (s : Section) → Ok tt ≡ verdict (odd_size size ∷ []) → length s.bytes < at → word_into at size x a s ≡ (s, Err OffsetOutOfBounds)
into_past at size x a s h k = into_noted at size x a s h ∙ note_into_past at size x a s k

pub into_over : (at size : ℕ) (x : Target) (a : ℤ) (s : Section) → Ok tt ≡ verdict (odd_size size ∷ []) → at ≤ length s.bytes → length s.bytes < at + size → word_into at size x a s ≡ (s, Err LengthOutOfBounds)
into_over at size x a s h k l = into_noted at size x a s h ∙ note_into_over at size x a s k l

pub into_none : (at size : ℕ) (x : Target) (a : ℤ) (s : Section) → Ok tt ≡ verdict (odd_size size ∷ []) → at + size ≤ length s.bytes → (no_note at s).0 ≡ true → word_into at size x a s ≡ (s, Err NotesFull)
into_none at size x a s h k r = into_noted at size x a s h ∙ note_into_none at size x a s k r

-- the note that was put, of the addend as the machine holds it
pub relocated_end : (ns ms : List Note) (b b' : Section) (size p : ℕ) (x : Target) (a z : ℤ) (xs : List ℕ) → Ok tt ≡ verdict (odd_size size ∷ []) → Ok tt ≡ verdict (full size b ∷ []) → p ≡ length b.bytes → (no_note p (relocated ns b)).0 ≡ false
    → xs ≡ replicate size 0 → append xs b ≡ (b', Ok tt) → z ≡ a → ms ≡ noted (note_of p size x z) ns → word_end size x a (relocated ns b) ≡ (relocated ms b', Ok tt)
relocated_end ns ms b b' size p x a z xs h k at r o ran same l =
    let room : size ≤ b.left = room_for size b k in
    let q : append (replicate size 0) b ≡ (grown (replicate size 0) b, Ok tt) = append_fits (replicate size 0) b (simp length-replicate room) in
    let m : grown (replicate size 0) b ≡ b' = ap (λ (o : Section × Result Unit Fault). o.0) (sym q ∙ ap (λ ys. append ys b) (sym o) ∙ ran) in
    end_noted size x a (relocated ns b) h
    ∙ end_fits size x a (relocated ns b) room (ap (λ j. (no_note j (relocated ns b)).0) (sym at) ∙ r)
    ∙ ap (λ j. (with_note (note_of j size x a) (relocated ns (grown (replicate size 0) b)), Ok tt)) (sym at)
    ∙ ap (λ t. (with_note (note_of p size x a) (relocated ns t), Ok tt)) m
    ∙ ap (λ t. (t, Ok tt)) (noted_layer ns ms (note_of p size x a) b' (l ∙ ap (λ y. noted (note_of p size x y) ns) same))

pub relocated_into : (ns ms : List Note) (b b' : Section) (size at : ℕ) (x : Target) (a z : ℤ) (xs : List ℕ) → Ok tt ≡ verdict (odd_size size ∷ []) → at + size ≤ length b.bytes → (no_note at (relocated ns b)).0 ≡ false
    → xs ≡ replicate size 0 → place at xs b ≡ (b', Ok tt) → z ≡ a → ms ≡ noted (note_of at size x z) ns → word_into at size x a (relocated ns b) ≡ (relocated ms b', Ok tt)
relocated_into ns ms b b' size at x a z xs h k r o ran same l =
    let q : place at (replicate size 0) b ≡ (mended at (replicate size 0) b, Ok tt) = place_fits at (replicate size 0) b (simp length-replicate k) in
    let m : mended at (replicate size 0) b ≡ b' = ap (λ (o : Section × Result Unit Fault). o.0) (sym q ∙ ap (λ ys. place at ys b) (sym o) ∙ ran) in
    into_noted at size x a (relocated ns b) h
    ∙ into_fits at size x a (relocated ns b) k r
    ∙ ap (λ t. (with_note (note_of at size x a) (relocated ns t), Ok tt)) m
    ∙ ap (λ t. (t, Ok tt)) (noted_layer ns ms (note_of at size x a) b' (l ∙ ap (λ y. noted (note_of at size x y) ns) same))

-- a layer's own word of zeros has room below
pub zeros_append : (size : ℕ) (xs : List ℕ) (b b' : Section) (e : Fault) → Ok tt ≡ verdict (full size b ∷ []) → xs ≡ replicate size 0 → append xs b ≡ (b', Err e) → ⊥
zeros_append size xs b b' e k o ran =
    let room = room_for size b k in
    append_never xs b b' e (omega (arith, ap length o, length-replicate {A = ℕ} size 0)) ran

pub zeros_place : (at size : ℕ) (xs : List ℕ) (b b' : Section) (e : Fault) → at + size ≤ length b.bytes → xs ≡ replicate size 0 → place at xs b ≡ (b', Err e) → ⊥
zeros_place at size xs b b' e k o ran =
    place_never at xs b b' e (omega (arith, ap length o, length-replicate {A = ℕ} size 0)) ran

-- the linking calls of a relocating writer
sized : (n size : ℕ) → Ok tt ≡ verdict (word_checks n size) → Ok tt ≡ verdict (odd_size size ∷ [])
sized n size h = grind (arith, nat_tests)

pub offset_refused : (n : ℕ) (x : SectionId) (size : ℕ) (s : Section) (e : Fault) → Err e ≡ verdict (word_checks n size) → offset true n x size s ≡ (s, Err e)
unfolding offset
offset_refused n x size s e h = refused (word_checks n size) (offset_body true n x size) s e (sym h)

pub offset_noted : (n : ℕ) (x : SectionId) (size : ℕ) (a : ℤ) (s : Section) (o : Section × Result Unit Fault) → Ok tt ≡ verdict (word_checks n size) → a ≡ pos n → word_end size (target.Section x) a s ≡ o → offset true n x size s ≡ o
unfolding offset
offset_noted n x size a s o h e ran =
    checked (word_checks n size) (offset_body true n x size) s (sym h)
    ∙ sym (end_noted size (target.Section x) (pos n) s (sized n size h))
    ∙ ap (λ b. word_end size (target.Section x) b s) (sym e)
    ∙ ran

pub offset_at_refused : (at n : ℕ) (x : SectionId) (size : ℕ) (s : Section) (e : Fault) → Err e ≡ verdict (word_checks n size) → offset_at true at n x size s ≡ (s, Err e)
unfolding offset_at
offset_at_refused at n x size s e h = refused (word_checks n size) (offset_into_body true at n x size) s e (sym h)

pub offset_at_noted : (at n : ℕ) (x : SectionId) (size : ℕ) (a : ℤ) (s : Section) (o : Section × Result Unit Fault) → Ok tt ≡ verdict (word_checks n size) → a ≡ pos n → word_into at size (target.Section x) a s ≡ o → offset_at true at n x size s ≡ o
unfolding offset_at
offset_at_noted at n x size a s o h e ran =
    checked (word_checks n size) (offset_into_body true at n x size) s (sym h)
    ∙ sym (into_noted at size (target.Section x) (pos n) s (sized n size h))
    ∙ ap (λ b. word_into at size (target.Section x) b s) (sym e)
    ∙ ran

address_symbol : (y : Address) (x : ℕ) (a b : ℤ) (size : ℕ) (s : Section) (o : Section × Result Unit Fault) → y ≡ Symbol x a → b ≡ a → word_end size (target.Symbol x) b s ≡ o → address true y size s ≡ o
unfolding address word_end
address_symbol y x a b size s o i e ran = ap (λ z. address true z size s) i ∙ ap (λ c. word_end size (target.Symbol x) c s) (sym e) ∙ ran

-- a signed addend, widened
pub widened : (z : ℤ) → SFits w64 z → to_z w128 (of_z w128 (to_z w64 (of_z w64 z))) ≡ z
widened z f =
    let wide : SFits w128 z = record { sfits = omega (arith, f.sfits) } in
    ap (λ y. to_z w128 (of_z w128 y)) (to_z-of_z w64 z f) ∙ to_z-of_z w128 z wide

pub symbol_noted : (y : Address) (x : ℕ) (a : ℤ) (size : ℕ) (s : Section) (o : Section × Result Unit Fault) → y ≡ Symbol x a → SFits w64 a → word_end size (target.Symbol x) (to_z w128 (of_z w128 (to_z w64 (of_z w64 a)))) s ≡ o → address true y size s ≡ o
symbol_noted y x a size s o e f ran = address_symbol y x a _ size s o e (widened a f) ran

pub constant_noted : (y : Address) (n size : ℕ) (s : Section) (o : Section × Result Unit Fault) → y ≡ Constant n → udata n size s ≡ o → address true y size s ≡ o
constant_noted y n size s o e ran = address_constant true y n size s o.0 o.1 e ran
