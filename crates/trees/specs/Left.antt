-- What a cursor or a walk has yet to give, and what a call of `next` makes of that.
use Rattle.std.specs.Prelude.{◌≡◌, ℕ, List, [], ◌∷◌, map, Option, IfNone, MatchOption, slice_index_or}
use Rattle.std.specs.Iterator.Runs.{EveryRun, ItemsMapTo, YieldsInOrder}
use Rattle.trees.specs.declared.records.Attribute.{Attribute}
use Rattle.trees.specs.declared.records.Event.{Event}
use Rattle.trees.specs.declared.records.UnitEntryId.{UnitEntryId}
use Rattle.trees.specs.declared.chain.Chain.{Chain}
use Rattle.trees.specs.declared.chain.Linked as linked
use Rattle.trees.specs.declared.cursors.Attrs.{Attrs}
use Rattle.trees.specs.declared.cursors.Children.{Children}
use Rattle.trees.specs.declared.walk.Walk.{Walk}
use Rattle.trees.specs.Chains.{chain_from}
use Rattle.trees.specs.Cursors.{siblings_from, attributes_from}
use Rattle.trees.specs.Walk.{rest}

module _ {R : Type 0} {g : linked.Ghosts R} where
  -- the records to come, by their numbers
  abbrev pub numbers_left : Chain R g → List ℕ
  numbers_left c = chain_from g.past g.after c.records.now c.at

  -- the next record is given with its number, or none where none is left; then the chain stays
  pub record ChainSteps (s : Chain R g) (r : Option (ℕ × R)) (t : Chain R g) : Type 0 where
    pub given : MatchOption r (numbers_left s ≡ []) (λ p. (numbers_left s ≡ p.0 ∷ numbers_left t) × (p.1 ≡ slice_index_or s.records.now p.0 g.past))
    pub stays : IfNone r (t ≡ s)
    pub kept : t.records.now ≡ s.records.now

  -- the records to come, each with its number
  abbrev pub records_left : Chain R g → List (ℕ × R)
  records_left c = map (λ i. (i, slice_index_or c.records.now i g.past)) (numbers_left c)

-- those that come are those that were left, in their order
abbrev pub RecordsInOrder : {R : Type 0} → linked.Ghosts R → Type 0
RecordsInOrder {R} g = YieldsInOrder (ChainSteps {R = R} {g = g}) records_left

-- the children to come, by their entries
abbrev pub siblings_left : Children → List ℕ
siblings_left c = siblings_from c.chain.records.now c.chain.at

-- the attributes to come
abbrev pub attributes_left : Attrs → List Attribute
attributes_left c = attributes_from c.chain.records.now c.chain.at

-- the events to come
abbrev pub events_left : Walk → List Event
events_left w = rest w.entries.now w.count w.root w.spot

-- the next child is given, or none where none is left; then the cursor stays
pub record ChildSteps (s : Children) (r : Option UnitEntryId) (t : Children) : Type 0 where
  pub given : MatchOption r (siblings_left s ≡ []) (λ i. (siblings_left s ≡ i.entry ∷ siblings_left t) × (i.table ≡ s.table) × (i.unit ≡ s.unit))
  pub stays : IfNone r (t ≡ s)
  pub kept : (t.table ≡ s.table) × (t.unit ≡ s.unit) × (t.chain.records.now ≡ s.chain.records.now)

-- the next attribute is given, or none where none is left; then the cursor stays
pub record AttributeSteps (s : Attrs) (r : Option Attribute) (t : Attrs) : Type 0 where
  pub given : MatchOption r (attributes_left s ≡ []) (λ a. attributes_left s ≡ a ∷ attributes_left t)
  pub stays : IfNone r (t ≡ s)
  pub kept : t.chain.records.now ≡ s.chain.records.now

-- the next event is given, or none at the end; then the walk stays
pub record EventSteps (s : Walk) (r : Option Event) (t : Walk) : Type 0 where
  pub given : MatchOption r (events_left s ≡ []) (λ v. events_left s ≡ v ∷ events_left t)
  pub stays : IfNone r (t ≡ s)
  pub kept : t.entries.now ≡ s.entries.now

-- the items that come are those that were left, in their order
abbrev pub ChildrenInOrder : Type 0
ChildrenInOrder = EveryRun ChildSteps (λ p. ItemsMapTo p (λ i. i.entry) (siblings_left p.from))

abbrev pub AttributesInOrder : Type 0
AttributesInOrder = YieldsInOrder AttributeSteps attributes_left

abbrev pub EventsInOrder : Type 0
EventsInOrder = YieldsInOrder EventSteps events_left
