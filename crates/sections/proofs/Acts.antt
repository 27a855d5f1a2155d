use Rattle.std.proofs.Common.{◌≡◌, ℕ, ◌+◌, ◌<◌, ◌≤◌, Bool, true, false, cond, List, [], ◌∷◌, length, replicate, ℤ, Ok, Err, Result, sym, refl, ap, ◌∙◌, arith, length-append, length-drop, length-take, le-ltb, lt-ltb}
use Rattle.std.proofs.lemmas.Bool.{cond-true, cond-false}
use Rattle.sections.specs.declared.fault.Fault.{Fault}
use Rattle.sections.specs.declared.fault.Fault.TheVariants.{SectionFull, OffsetOutOfBounds, LengthOutOfBounds, NotesFull}
use Rattle.sections.specs.declared.note.Target.{Target}
use Rattle.sections.specs.Section.{Section, Act, Check, declining, verdict, becomes, append, place, note_end, note_into, note_of, with_note, grown, mended, over, full, past_end, over_end, no_note}

-- the first reason holds
pub declines : {X : Type 0} (c : Check) (cs : List Check) (p : Act X) (s : Section) → c.0 ≡ true → declining (c ∷ cs) p s ≡ (s, Err c.1)
declines c cs p s h = cond-true c.0 (s, Err c.1) (declining cs p s) h

-- it does not hold
pub passes : {X : Type 0} (c : Check) (cs : List Check) (p : Act X) (s : Section) → c.0 ≡ false → declining (c ∷ cs) p s ≡ declining cs p s
passes c cs p s h = cond-false c.0 (s, Err c.1) (declining cs p s) h

by_bool : (P : Bool → Type 0) (b : Bool) → (b ≡ true → P true) → (b ≡ false → P false) → P b
by_bool P true p q = p refl
by_bool P false p q = q refl

-- a check that was made before the call
pub checked : {X : Type 0} (cs : List Check) (p : Act X) (s : Section) → verdict cs ≡ Ok tt → declining cs p s ≡ p s
checked [] p s h = refl
checked (c ∷ cs) p s h =
    by_bool (λ b. cond b (Err c.1) (verdict cs) ≡ Ok tt → cond b (s, Err c.1) (declining cs p s) ≡ p s) c.0
    (λ _ k. let z : ◌≡◌ {A = ℕ} 0 1 = cc in absurd (omega arith)) (λ _ k. checked cs p s k) h

pub refused : {X : Type 0} (cs : List Check) (p : Act X) (s : Section) (e : Fault) → verdict cs ≡ Err e → declining cs p s ≡ (s, Err e)
refused [] p s e h = let z : ◌≡◌ {A = ℕ} 0 1 = cc in absurd (omega arith)
refused (c ∷ cs) p s e h =
    by_bool (λ b. cond b (Err c.1) (verdict cs) ≡ Err e → cond b (s, Err c.1) (declining cs p s) ≡ (s, Err e)) c.0
    (λ _ k. let q : c.1 ≡ e = cc in ap (λ (f : Fault). (s, Err f)) q) (λ _ k. refused cs p s e k) h

-- no reason holds
abbrev pub passed : List Check → Bool
passed [] = true
passed (c ∷ cs) = cond c.0 false (passed cs)

-- an outcome, seen through a layer
abbrev pub out : {X : Type 0} → (Section → Section) → Section × Result X Fault → Section × Result X Fault
out f o = (f o.0, o.1)

-- a layer that keeps the reasons and the effect keeps the call
pub through : {X : Type 0} (f : Section → Section) (cs : List Check) (p q : Act X) (s : Section) → (passed cs ≡ true → p (f s) ≡ out f (q s)) → declining cs p (f s) ≡ out f (declining cs q s)
through f [] p q s h = h refl
through f (c ∷ cs) p q s h =
    by_bool (λ b. (cond b false (passed cs) ≡ true → p (f s) ≡ out f (q s)) → cond b (f s, Err c.1) (declining cs p (f s)) ≡ out f (cond b (s, Err c.1) (declining cs q s))) c.0
    (λ _ k. refl) (λ _ k. through f cs p q s k) h

pub append_fits : (xs : List ℕ) (s : Section) → length xs ≤ s.left → append xs s ≡ (grown xs s, Ok tt)
unfolding append
append_fits xs s h = passes (full (length xs) s) [] (becomes (grown xs s)) s (le-ltb _ _ h)

pub append_full : (xs : List ℕ) (s : Section) → s.left < length xs → append xs s ≡ (s, Err SectionFull)
unfolding append
append_full xs s h = declines (full (length xs) s) [] (becomes (grown xs s)) s (lt-ltb _ _ h)

pub place_fits : (at : ℕ) (xs : List ℕ) (s : Section) → at + length xs ≤ length s.bytes → place at xs s ≡ (mended at xs s, Ok tt)
unfolding place
place_fits at xs s h =
    passes (past_end at s) (over_end at (length xs) s ∷ []) (becomes (mended at xs s)) s (le-ltb _ _ (omega arith))
    ∙ passes (over_end at (length xs) s) [] (becomes (mended at xs s)) s (le-ltb _ _ h)

pub place_past : (at : ℕ) (xs : List ℕ) (s : Section) → length s.bytes < at → place at xs s ≡ (s, Err OffsetOutOfBounds)
unfolding place
place_past at xs s h = declines (past_end at s) (over_end at (length xs) s ∷ []) (becomes (mended at xs s)) s (lt-ltb _ _ h)

pub place_over : (at : ℕ) (xs : List ℕ) (s : Section) → at ≤ length s.bytes → length s.bytes < at + length xs → place at xs s ≡ (s, Err LengthOutOfBounds)
unfolding place
place_over at xs s k h =
    passes (past_end at s) (over_end at (length xs) s ∷ []) (becomes (mended at xs s)) s (le-ltb _ _ k)
    ∙ declines (over_end at (length xs) s) [] (becomes (mended at xs s)) s (lt-ltb _ _ h)

-- a call that has the room does not decline
pub append_never : (xs : List ℕ) (s t : Section) (e : Fault) → length xs ≤ s.left → append xs s ≡ (t, Err e) → ⊥
append_never xs s t e h p =
    let r = ap (λ (o : Section × Result Unit Fault). o.1) (sym (append_fits xs s h) ∙ p) in
    let z : ◌≡◌ {A = ℕ} 0 1 = cc in omega arith

pub place_never : (at : ℕ) (xs : List ℕ) (s t : Section) (e : Fault) → at + length xs ≤ length s.bytes → place at xs s ≡ (t, Err e) → ⊥
place_never at xs s t e h p =
    let r = ap (λ (o : Section × Result Unit Fault). o.1) (sym (place_fits at xs s h) ∙ p) in
    let z : ◌≡◌ {A = ℕ} 0 1 = cc in omega arith

-- a word of zeros with a note, step by step
pub end_full : (size : ℕ) (x : Target) (a : ℤ) (s : Section) → s.left < size → note_end size x a s ≡ (s, Err SectionFull)
unfolding note_end
end_full size x a s h = declines (full size s) (no_note (length s.bytes) s ∷ []) (becomes (with_note (note_of (length s.bytes) size x a) (grown (replicate size 0) s))) s (lt-ltb _ _ h)

pub end_none : (size : ℕ) (x : Target) (a : ℤ) (s : Section) → size ≤ s.left → (no_note (length s.bytes) s).0 ≡ true → note_end size x a s ≡ (s, Err NotesFull)
unfolding note_end
end_none size x a s h r =
    let p = becomes (with_note (note_of (length s.bytes) size x a) (grown (replicate size 0) s)) in
    passes (full size s) (no_note (length s.bytes) s ∷ []) p s (le-ltb _ _ h) ∙ declines (no_note (length s.bytes) s) [] p s r

pub end_fits : (size : ℕ) (x : Target) (a : ℤ) (s : Section) → size ≤ s.left → (no_note (length s.bytes) s).0 ≡ false → note_end size x a s ≡ (with_note (note_of (length s.bytes) size x a) (grown (replicate size 0) s), Ok tt)
unfolding note_end
end_fits size x a s h r =
    let p = becomes (with_note (note_of (length s.bytes) size x a) (grown (replicate size 0) s)) in
    passes (full size s) (no_note (length s.bytes) s ∷ []) p s (le-ltb _ _ h) ∙ passes (no_note (length s.bytes) s) [] p s r

pub into_past : (at size : ℕ) (x : Target) (a : ℤ) (s : Section) → length s.bytes < at → note_into at size x a s ≡ (s, Err OffsetOutOfBounds)
unfolding note_into
into_past at size x a s h = declines (past_end at s) (over_end at size s ∷ no_note at s ∷ []) (becomes (with_note (note_of at size x a) (mended at (replicate size 0) s))) s (lt-ltb _ _ h)

pub into_over : (at size : ℕ) (x : Target) (a : ℤ) (s : Section) → at ≤ length s.bytes → length s.bytes < at + size → note_into at size x a s ≡ (s, Err LengthOutOfBounds)
unfolding note_into
into_over at size x a s k h =
    let p = becomes (with_note (note_of at size x a) (mended at (replicate size 0) s)) in
    passes (past_end at s) (over_end at size s ∷ no_note at s ∷ []) p s (le-ltb _ _ k) ∙ declines (over_end at size s) (no_note at s ∷ []) p s (lt-ltb _ _ h)

pub into_none : (at size : ℕ) (x : Target) (a : ℤ) (s : Section) → at + size ≤ length s.bytes → (no_note at s).0 ≡ true → note_into at size x a s ≡ (s, Err NotesFull)
unfolding note_into
into_none at size x a s h r =
    let p = becomes (with_note (note_of at size x a) (mended at (replicate size 0) s)) in
    passes (past_end at s) (over_end at size s ∷ no_note at s ∷ []) p s (le-ltb _ _ (omega arith)) ∙ passes (over_end at size s) (no_note at s ∷ []) p s (le-ltb _ _ h) ∙ declines (no_note at s) [] p s r

pub into_fits : (at size : ℕ) (x : Target) (a : ℤ) (s : Section) → at + size ≤ length s.bytes → (no_note at s).0 ≡ false → note_into at size x a s ≡ (with_note (note_of at size x a) (mended at (replicate size 0) s), Ok tt)
unfolding note_into
into_fits at size x a s h r =
    let p = becomes (with_note (note_of at size x a) (mended at (replicate size 0) s)) in
    passes (past_end at s) (over_end at size s ∷ no_note at s ∷ []) p s (le-ltb _ _ (omega arith)) ∙ passes (over_end at size s) (no_note at s ∷ []) p s (le-ltb _ _ h) ∙ passes (no_note at s) [] p s r

-- an overwrite keeps the length
pub length_over : (at : ℕ) (xs b : List ℕ) → at + length xs ≤ length b → length (over at xs b) ≡ length b
length_over at xs b h = simp (length-append, length-take, length-drop) (omega arith)
