-- Counts over entries and records, and the search for a file.
use Rattle.std.proofs.Common.{◌≡◌, ℕ, ◌+◌, ◌<◌, ◌≤◌, Bool, true, false, ◌&&◌, ◌||◌, eqb, List, [], ◌∷◌, ◌++◌, map, length, get_or, take, drop, sym, refl, ap, ◌∙◌, arith}
use Rattle.std.proofs.lemmas.List.{take_more, drop_more, length-take-le}
use Rattle.trees.specs.declared.records.AttributeRecord.{AttributeRecord}
use Rattle.trees.specs.declared.records.Counts.{Counts}
use Rattle.trees.specs.declared.records.State.{State}
use Rattle.trees.specs.declared.records.State.TheVariants.{Root, Waiting, Placed, TakenOut, GivenBack}
use Rattle.std.specs.List.{list_any}
use Rattle.trees.specs.Attributes.{attribute_in}
use Rattle.trees.specs.Counts.{counts_in, tallied, Countable, names_file, any_file, file_in}
use Rattle.trees.specs.History.{is_state, in_state}
use Rattle.trees.specs.Model.{Entry, no_entry}
use Rattle.trees.specs.View.{no_attribute}

-- one more entry
in_push : (s : State) (es : List Entry) (e : Entry) → in_state s (es ++ e ∷ []) ≡ in_state s es + is_state s e.state
in_push s [] e = omega arith
in_push s (x ∷ es) e = let k = in_push s es e in omega arith

one_more : (c : Counts) (s : State) → record { waiting = c.waiting + is_state Waiting s; placed = c.placed + is_state Placed s; taken_out = c.taken_out + is_state TakenOut s; given_back = c.given_back + is_state GivenBack s } ≡ tallied c s
one_more c Root = let a : c.waiting + 0 ≡ c.waiting = omega arith in let b : c.placed + 0 ≡ c.placed = omega arith in let d : c.taken_out + 0 ≡ c.taken_out = omega arith in let e : c.given_back + 0 ≡ c.given_back = omega arith in
    λ i. record { waiting = a i; placed = b i; taken_out = d i; given_back = e i }
one_more c Waiting = let b : c.placed + 0 ≡ c.placed = omega arith in let d : c.taken_out + 0 ≡ c.taken_out = omega arith in let e : c.given_back + 0 ≡ c.given_back = omega arith in
    λ i. record { waiting = c.waiting + 1; placed = b i; taken_out = d i; given_back = e i }
one_more c Placed = let a : c.waiting + 0 ≡ c.waiting = omega arith in let d : c.taken_out + 0 ≡ c.taken_out = omega arith in let e : c.given_back + 0 ≡ c.given_back = omega arith in
    λ i. record { waiting = a i; placed = c.placed + 1; taken_out = d i; given_back = e i }
one_more c TakenOut = let a : c.waiting + 0 ≡ c.waiting = omega arith in let b : c.placed + 0 ≡ c.placed = omega arith in let e : c.given_back + 0 ≡ c.given_back = omega arith in
    λ i. record { waiting = a i; placed = b i; taken_out = c.taken_out + 1; given_back = e i }
one_more c GivenBack = let a : c.waiting + 0 ≡ c.waiting = omega arith in let b : c.placed + 0 ≡ c.placed = omega arith in let d : c.taken_out + 0 ≡ c.taken_out = omega arith in
    λ i. record { waiting = a i; placed = b i; taken_out = d i; given_back = c.given_back + 1 }

pub counts_more : (es : List Entry) (i : ℕ) → i < length es → counts_in (take (i + 1) es) ≡ tallied (counts_in (take i es)) (get_or es i no_entry).state
counts_more es i h =
    let x = get_or es i no_entry in
    let xs = take i es in
    ap counts_in (take_more es i no_entry h)
    ∙ ((λ j. record { waiting = in_push Waiting xs x j; placed = in_push Placed xs x j; taken_out = in_push TakenOut xs x j; given_back = in_push GivenBack xs x j })
    ∙ one_more (counts_in xs) x.state)

one_at_most : (s t : State) → is_state s t ≤ 1
one_at_most Root Root = omega arith
one_at_most Root Waiting = omega arith
one_at_most Root Placed = omega arith
one_at_most Root TakenOut = omega arith
one_at_most Root GivenBack = omega arith
one_at_most Waiting Root = omega arith
one_at_most Waiting Waiting = omega arith
one_at_most Waiting Placed = omega arith
one_at_most Waiting TakenOut = omega arith
one_at_most Waiting GivenBack = omega arith
one_at_most Placed Root = omega arith
one_at_most Placed Waiting = omega arith
one_at_most Placed Placed = omega arith
one_at_most Placed TakenOut = omega arith
one_at_most Placed GivenBack = omega arith
one_at_most TakenOut Root = omega arith
one_at_most TakenOut Waiting = omega arith
one_at_most TakenOut Placed = omega arith
one_at_most TakenOut TakenOut = omega arith
one_at_most TakenOut GivenBack = omega arith
one_at_most GivenBack Root = omega arith
one_at_most GivenBack Waiting = omega arith
one_at_most GivenBack Placed = omega arith
one_at_most GivenBack TakenOut = omega arith
one_at_most GivenBack GivenBack = omega arith

in_most : (s : State) (es : List Entry) → in_state s es ≤ length es
in_most s [] = omega arith
in_most s (e ∷ es) = let k = in_most s es in let o = one_at_most s e.state in omega arith

pub countable : (es : List Entry) (i : ℕ) → i ≤ length es → i ≤ 65535 → Countable (counts_in (take i es))
countable es i h l =
    let z = length-take-le i es h in
    let xs = take i es in
    let a = in_most Waiting xs in
    let b = in_most Placed xs in
    let c = in_most TakenOut xs in
    let d = in_most GivenBack xs in
    (omega arith, omega arith, omega arith, omega arith)

-- the files of the attributes in some records
pub files_in : (ats : List AttributeRecord) (ns : List ℕ) → list_any (λ (x : ℕ × AttributeRecord). names_file x.1.attribute.value) (map (λ i. (i, get_or ats i no_attribute)) ns) ≡ any_file (map (attribute_in ats) ns)
files_in ats [] = refl
files_in ats (n ∷ ns) = ap (λ (b : Bool). names_file (get_or ats n no_attribute).attribute.value || b) (files_in ats ns)

-- the files of the entries to come
or_true : (a b : Bool) → a ≡ true → (a || b) ≡ true
or_true a b e = rw e

or_false : (a b : Bool) → a ≡ false → (a || b) ≡ b
or_false a b e = rw e

pub unit_file_here : (u : ℕ) (es : List Entry) (i : ℕ) → i < length es → (eqb (get_or es i no_entry).unit u && any_file (get_or es i no_entry).attributes) ≡ true → file_in u (drop i es) ≡ true
unit_file_here u es i h e = ap (file_in u) (drop_more es i no_entry h) ∙ or_true _ _ e

pub unit_file_later : (u : ℕ) (es : List Entry) (i : ℕ) → i < length es → (eqb (get_or es i no_entry).unit u && any_file (get_or es i no_entry).attributes) ≡ false → file_in u (drop (i + 1) es) ≡ file_in u (drop i es)
unit_file_later u es i h e = sym (ap (file_in u) (drop_more es i no_entry h) ∙ or_false _ _ e)
