use Rattle.std.proofs.Common.{◌≡◌, Bool, List, [], ◌∷◌, ◌++◌, refl, sym, ap, ◌∙◌}
use Rattle.trees.specs.declared.records.Reservation.{Reservation}
use Rattle.trees.specs.History.{Act as act, History, Stands}
use Rattle.trees.specs.Growth.{Deed as deed, Deeds, Grows, acts_in}
use Rattle.trees.specs.Model.{Table, give_back}
use Rattle.sessions.specs.Tables.{Leads, after_giving_back}

-- the last of them
back_last : (rs : List Reservation) (r : Reservation) (t : Table) → after_giving_back (rs ++ r ∷ []) t ≡ after_giving_back rs (give_back t r).0
back_last [] r t = refl
back_last (q ∷ rs) r t = ap (λ u. (give_back u q).0) (back_last rs r t)

-- one more is given back
pub one_back : (rs rs' : List Reservation) (r : Reservation) (t t' : Table) (b : Bool) → rs ≡ rs' ++ r ∷ [] → (t', b) ≡ give_back t r → after_giving_back rs' t' ≡ after_giving_back rs t
one_back rs rs' r t t' b e out = ap (λ p. after_giving_back rs' p.0) out ∙ sym (back_last rs' r t) ∙ ap (λ l. after_giving_back l t) (sym e)

pub back_leads : (r : Reservation) (b : Bool) (t t' : Table)
    → ((h : History) → Stands h t → Stands (act.gave_back r b ∷ h) t')
    → ((h : Deeds) → Grows h t → Grows (deed.gave_back r b ∷ h) t')
    → Leads t t'
back_leads r b t t' law growth h told = (deed.gave_back r b ∷ [], (law (acts_in h) told.0, growth h told.1))
