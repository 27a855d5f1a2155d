use Rattle.std.proofs.Common.{◌≡◌, ℕ, zero, suc, Bool, true, false, cond, ◌&&◌, List, [], ◌∷◌, ◌++◌, length, get_or, set, Some, None, Ok, Err, Option, Result, sym, refl, ap, ◌∙◌, subst, append_assoc, append-nil}
use Rattle.trees.specs.declared.records.EditFault.{EditFault}
use Rattle.trees.specs.declared.records.State.TheVariants.{GivenBack, TakenOut}
use Rattle.trees.specs.Model.{Entry, Table, no_entry, unless, change, grant, place, take_out, with_entries, left, placed, adopt, abandon, flagged, amend, put, unname, entry_of, entry_id, knows, knows_both, is_waiting, first_fault, edit_checks, as_is}
use Rattle.trees.specs.Lists.{has}
use Rattle.trees.specs.History.{History, Stands}
use Rattle.trees.specs.Growth.{Deeds, Grows, Tells, acts_in}
use Rattle.sessions.specs.declared.order.Order.{Order}
use Rattle.sessions.specs.declared.order.Order.TheVariants as order
use Rattle.sessions.specs.declared.order.Answer.{Answer}
use Rattle.sessions.specs.declared.order.Answer.TheVariants as answer
use Rattle.sessions.specs.Orders.{carried, act_of, deed_of}
use Rattle.sessions.specs.Tables.{units_in, Leads, IsTold}
use Rattle.sessions.specs.Sessions.{Stage, Led, unit_granted}

-- one entry changed, but not its unit
units_set : (es : List Entry) (e : ℕ) (x : Entry) → x.unit ≡ (get_or es e no_entry).unit → units_in (set es e x) ≡ units_in es
units_set [] zero x h = refl
units_set [] (suc e) x h = refl
units_set (y ∷ ys) zero x h = ap (λ u. u ∷ units_in ys) h
units_set (y ∷ ys) (suc e) x h = ap (λ us. y.unit ∷ us) (units_set ys e x h)

units_change : (es : List Entry) (e : ℕ) (f : Entry → Entry) → ((y : Entry) → (f y).unit ≡ y.unit) → units_in (change e f es) ≡ units_in es
units_change es e f h = units_set es e (f (get_or es e no_entry)) (h (get_or es e no_entry))

units_more : (es : List Entry) (x : Entry) → units_in (es ++ x ∷ []) ≡ units_in es ++ x.unit ∷ []
units_more [] x = refl
units_more (y ∷ ys) x = ap (λ us. y.unit ∷ us) (units_more ys x)

units_place : (t : Table) (c p tag : ℕ) → units_in (place t c p tag).entries ≡ units_in t.entries
units_place t c p tag =
    units_change (change c (placed tag) t.entries) p (adopt c) (λ y. refl) ∙ units_change t.entries c (placed tag) (λ y. refl)

units_out : (t : Table) (p c : ℕ) → units_in (take_out t p c).entries ≡ units_in t.entries
units_out t p c =
    units_change (change p (abandon c) t.entries) c (left TakenOut) (λ y. refl) ∙ units_change t.entries p (abandon c) (λ y. refl)

-- nothing granted
same : (us vs : List ℕ) → us ≡ vs → us ≡ vs ++ []
same us vs h = h ∙ sym (append-nil vs)

-- a declined call grants nothing
through : {X E : Type 0} (f : Option EditFault) (err : EditFault → E) (t : Table) (done : Table × Result X E) (ans : Result X E → Answer)
    → units_in done.0.entries ≡ units_in t.entries ++ unit_granted (ans done.1)
    → ((e : E) → unit_granted (ans (Err e)) ≡ [])
    → units_in (unless f err t done).0.entries ≡ units_in t.entries ++ unit_granted (ans (unless f err t done).1)
through None err t done ans h n = h
through (Some g) err t done ans h n = same (units_in t.entries) (units_in t.entries) refl ∙ ap (λ us. units_in t.entries ++ us) (sym (n (err g)))

abbrev out : Bool → Table → ℕ → ℕ → Table × Result Bool EditFault
out b t p c = cond b (take_out t p c, Ok true) (t, Ok false)

deleted : (b : Bool) (t : Table) (p c : ℕ) → units_in (out b t p c).0.entries ≡ units_in t.entries ++ unit_granted (answer.ChildDeleted (out b t p c).1)
deleted true t p c = same (units_in (take_out t p c).entries) (units_in t.entries) (units_out t p c)
deleted false t p c = same (units_in t.entries) (units_in t.entries) refl

abbrev back : Bool → Table → ℕ → Table × Bool
back b t e = cond b (with_entries t (change e (left GivenBack) t.entries), true) (t, false)

gave : (b : Bool) (t : Table) (e : ℕ) → units_in (back b t e).0.entries ≡ units_in t.entries ++ []
gave true t e = same (units_in (change e (left GivenBack) t.entries)) (units_in t.entries) (units_change t.entries e (left GivenBack) (λ y. refl))
gave false t e = same (units_in t.entries) (units_in t.entries) refl

-- an order grants an entry of the unit that its answer says, or none
units_carried : (t : Table) (o : Order) → units_in (carried t o).0.entries ≡ units_in t.entries ++ unit_granted (carried t o).1
units_carried t (order.Unit encoding line) = through _ _ t _ answer.Unit (units_more t.entries _) (λ e. refl)
units_carried t (order.Reserve u) = through _ _ t _ answer.Reserved (units_more t.entries _) (λ e. refl)
units_carried t (order.AddReserved r p tag) = through _ _ t _ answer.ReservedAdded (same _ (units_in t.entries) (units_place t r.id.entry p.entry tag)) (λ e. refl)
units_carried t (order.Add p tag) = through _ _ t _ answer.Added (units_place (grant t p.unit) (length t.entries) p.entry tag ∙ units_more t.entries _) (λ e. refl)
units_carried t (order.Set i name v) = through _ _ t _ answer.Edited (same _ (units_in t.entries) (units_change t.entries i.entry (amend (put (record { name = name; value = v }))) (λ y. refl))) (λ e. refl)
units_carried t (order.Delete i name) = through _ _ t _ answer.Edited (same _ (units_in t.entries) (units_change t.entries i.entry (amend (unname name)) (λ y. refl))) (λ e. refl)
units_carried t (order.SetSibling i b) = through _ _ t _ answer.Edited (same _ (units_in t.entries) (units_change t.entries i.entry (flagged b) (λ y. refl))) (λ e. refl)
units_carried t (order.DeleteChild p c) =
    let b : Bool = has c.entry (entry_of t p.entry).children in
    through (first_fault (edit_checks t (knows_both t p c) p.unit [])) as_is t (out b t p.entry c.entry) answer.ChildDeleted (deleted b t p.entry c.entry) (λ e. refl)
units_carried t (order.GiveBack r) = gave (knows t (entry_id r) && is_waiting (entry_of t r.id.entry).state) t r.id.entry

-- the units that are kept, after an order and its answer
pub units_kept : (t t' : Table) (o : Order) (a : Answer) (hs hs' : List ℕ) → hs ≡ units_in t.entries → (t', a) ≡ carried t o → hs' ≡ hs ++ unit_granted a → hs' ≡ units_in t'.entries
units_kept t t' o a hs hs' kept out more =
    more ∙ ap (λ l. l ++ unit_granted a) kept ∙ ap (λ p. units_in t.entries ++ unit_granted p.1) out ∙ sym (units_carried t o) ∙ ap (λ p. units_in p.0.entries) (sym out)

pub leads_more : (t₀ t₁ t₂ : Table) → Leads t₀ t₁ → Leads t₁ t₂ → Leads t₀ t₂
leads_more t₀ t₁ t₂ p q h s =
    let one = p h s in
    let two = q (one.0 ++ h) one.1 in
    (two.0 ++ one.0, subst (λ l. Tells l t₂) (sym (append_assoc two.0 one.0 h)) two.1)

pub led_more : (s₀ s₁ s₂ : Stage) → Led s₀ s₁ → Led s₁ s₂ → Led s₀ s₂
led_more s₀ s₁ s₂ p q = record { tells = leads_more s₀.table s₁.table s₂.table p.tells q.tells; units = λ h. q.units (p.units h) }

-- an order is one call in both histories
acts_more : (t : Table) (o : Order) (h : Deeds) → acts_in (deed_of t o ∷ h) ≡ act_of t o ∷ acts_in h
acts_more t (order.Unit encoding line) h = refl
acts_more t (order.Reserve u) h = refl
acts_more t (order.AddReserved r p tag) h = refl
acts_more t (order.Add p tag) h = refl
acts_more t (order.Set i name v) h = refl
acts_more t (order.Delete i name) h = refl
acts_more t (order.SetSibling i b) h = refl
acts_more t (order.DeleteChild p c) h = refl
acts_more t (order.GiveBack r) h = refl

-- an order leads from a table to the table after it
pub order_leads : (t t' : Table) (o : Order)
    → ((h : History) → Stands h t → Stands (act_of t o ∷ h) t')
    → ((h : Deeds) → Grows h t → Grows (deed_of t o ∷ h) t')
    → Leads t t'
order_leads t t' o law growth h told = (deed_of t o ∷ [], (subst (λ l. Stands l t') (sym (acts_more t o h)) (law (acts_in h) told.0), growth h told.1))

pub told_on : (t t' : Table) → Leads t t' → IsTold t → IsTold t'
told_on t t' leads p = let q = leads p.0 p.1 in (q.0 ++ p.0, q.1)
