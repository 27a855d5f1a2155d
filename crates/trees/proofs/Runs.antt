-- What runs of a cursor give.
use Rattle.std.proofs.Common.{◌≡◌, ℕ, ◌<◌, Bool, true, false, List, [], ◌∷◌, map, length, get_or, Option, None, Some, sym, ap, ◌∙◌, subst, arith, IfSome, MatchOption, IsSomeAnd, IsTrue}
use Rattle.std.proofs.lemmas.List.{length-map}
use denote.Param.Members.{Mut, Called}
use Rattle.std.proofs.lemmas.List.Folds.{list_any_at, list_any_none}
use Rattle.std.specs.Bool.{MatchBool}
use Rattle.std.specs.List.{list_any}
use Rattle.std.specs.Option.{option_map}
use Rattle.std.specs.Iterator.Runs.{Run, WholeRun, ItemsAre, CallKeepsClosure, AnyItemGives, AllItemsGive}
use Rattle.std.proofs.iter.runs.Sources.{from_front, as_is}
use Rattle.std.specs.Iterator.{item_count, ActsAs, MakesProgress}
use Rattle.trees.specs.declared.chain.Chain.{Chain}
use Rattle.trees.specs.declared.chain.Linked as linked
use Rattle.trees.specs.Left.{numbers_left, records_left, ChainSteps, RecordsInOrder, siblings_left, ChildSteps, ChildrenInOrder, attributes_left, AttributeSteps, AttributesInOrder, events_left, EventSteps, EventsInOrder}

-- a call that gave an item left one less
pub less : {S A B : Type 0} (shown : S → List B) (s t : S) (x : A) (y : B) → shown s ≡ y ∷ shown t → MakesProgress (λ _. Unit {0}) (item_count shown) s (Some x) t
less shown s t x y e = let z = ap length e in record { on = λ f. (tt, tt, omega arith); keeps = tt; rests = λ f. tt }

pub goes_on : {S A : Type 0} (shown : S → List A) (s : S) (r : Option A) (t : S) → MatchOption r (shown s ≡ []) (λ x. shown s ≡ x ∷ shown t) → MakesProgress (λ _. Unit {0}) (item_count shown) s r t
goes_on shown s None t e = record { on = λ f. tt; keeps = tt; rests = λ f. tt }
goes_on shown s (Some x) t e = less shown s t x x e

module _ {R : Type 0} (g : linked.Ghosts R) where
  pub records_in_order : RecordsInOrder g
  records_in_order p s = as_is p (records_left p.from) (from_front (ChainSteps {R = R} {g = g}) (λ x. x) records_left
      (λ s t h. ap (λ (xs : List ℕ). length {A = ℕ × R} (map (λ i. (i, get_or s.records.now i g.past)) xs)) h.given)
      (λ s x t h. ap (map (λ i. (i, get_or s.records.now i g.past))) h.given.0
      ∙ ap (λ (y : R). (x.0, y) ∷ map (λ i. (i, get_or s.records.now i g.past)) (numbers_left t)) (sym h.given.1)
      ∙ ap (λ (rs : List R). x ∷ map (λ i. (i, get_or rs i g.past)) (numbers_left t)) (sym h.kept)) p s)

pub children_in_order : ChildrenInOrder
children_in_order = from_front ChildSteps (λ i. i.entry) siblings_left (λ s t h. ap length h.given) (λ s x t h. h.given.0)

pub attributes_in_order : AttributesInOrder
attributes_in_order p s = as_is p (attributes_left p.from) (from_front AttributeSteps (λ x. x) attributes_left (λ s t h. ap length h.given) (λ s x t h. h.given) p s)

pub events_in_order : EventsInOrder
events_in_order p s = as_is p (events_left p.from) (from_front EventSteps (λ x. x) events_left (λ s t h. ap length h.given) (λ s x t h. h.given) p s)

-- a count of a whole run of a chain
pub counted : {R : Type 0} (g : linked.Ghosts R) (c : Chain R g) (n : ℕ) → WholeRun (ChainSteps {R = R} {g = g}) c (λ p. n ≡ p.len) → n ≡ length (numbers_left c)
counted {R} g c n w =
    w.3 ∙ ((records_in_order g w.0 w.0.seen).1 w.2 ∙ (length-map (numbers_left w.0.from) _ ∙ ap (λ (x : Chain R g). length (numbers_left x)) w.1))

-- what `any` answered with a test
module _ {S A F : Type 0} {steps : S → Option A → S → Type 0} (g : Mut F (A × Unit {0}) Bool) (f : F) (t : A → Bool) (p : Run steps) (xs : List A) (h : ItemsAre p xs) (acts : ActsAs g f t) where
  keeps : CallKeepsClosure g f
  keeps a r f' c = (acts a.0 r f' c).0

  hit : (k : ℕ) → k < p.len → (o : Option A) → IfSome o (λ x. (d : A) → x ≡ get_or xs k d) → IsSomeAnd o (λ x. Called g f (x, tt) true f) → list_any t xs ≡ true
  hit k l None e c = elim c [ ]
  hit k l (Some x) e c = list_any_at t xs k x (let z = h.0 in omega arith) (ap t (sym (e x)) ∙ sym (acts x true f c).1)

  same : {x y : A} → Some x ≡ Some y → x ≡ y
  same {x} e = ap (λ (o : Option A). elim o [ Some z ↦ z | None ↦ x ]) e

  miss : (k : ℕ) (d : A) (o : Option A) → option_map (λ y. y) o ≡ Some (get_or xs k d) → IfSome o (λ x. Called g f (x, tt) false f) → t (get_or xs k d) ≡ false
  miss k d None e c = absurd (subst (λ (o : Option A). IsSomeAnd o (λ y. Unit {0})) (sym e) tt)
  miss k d (Some x) e c = ap t (sym (same e)) ∙ sym (acts x false f c).1

  pub answered : (b : Bool) → MatchBool b (AnyItemGives p g f true) (IsTrue p.whole × AllItemsGive p g f false) → b ≡ list_any t xs
  answered true m = let k = m keeps in sym (hit k.0 k.1 (p.at k.0) (h.3 k.0) k.2)
  answered false m = let n = h.1 m.0 in sym (list_any_none t xs (λ k d l. miss k d (p.at k) (h.2 k d (omega arith)) (m.1 keeps k)))
