-- The walk through the tree of a unit: each entry is entered, and left after its children if it has any.
use Rattle.std.specs.Prelude.{◌≡◌, ℕ, zero, suc, ◌+◌, Bool, true, false, cond, List, [], ◌∷◌, ◌++◌, length, ◌==◌, nat_lt, slice_index_or}
use Rattle.std.specs.List.{flat_map}
use Rattle.trees.specs.declared.records.EntryRecord.{EntryRecord}
use Rattle.trees.specs.declared.records.Event.{Event}
use Rattle.trees.specs.declared.records.Event.TheVariants.{Enter, Leave}
use Rattle.trees.specs.declared.walk.Spot.{Spot}
use Rattle.trees.specs.declared.walk.Spot.TheVariants.{Before, After}
use Rattle.trees.specs.Lists.{nil, kids, Mem}
use Rattle.trees.specs.declared.records.Records.{Records}
use Rattle.trees.specs.declared.records.UnitId.{UnitId}
use Rattle.trees.specs.Model.{knows_unit, no_unit}
use Rattle.trees.specs.View.{blank, kin, view}

abbrev pub closing : List ℕ → ℕ → List Event
closing [] e = []
closing (x ∷ xs) e = Leave e ∷ []

-- the events of the tree at e, of f levels at most, where `ch` has each entry's children
unfoldable pub events : (ℕ → List ℕ) → ℕ → ℕ → List Event
events ch zero e = []
events ch (suc f) e = Enter e ∷ (flat_map (events ch f) (ch e) ++ closing (ch e) e)

-- the entries of the tree at e, each before its children
unfoldable pub entries : (ℕ → List ℕ) → ℕ → ℕ → List ℕ
entries ch zero e = []
entries ch (suc f) e = e ∷ flat_map (entries ch f) (ch e)

-- none twice
abbrev pub Once : List ℕ → Type 0
Once [] = Unit {0}
Once (x ∷ xs) = (Mem x xs → ⊥) × Once xs

-- the events of the tree of a table's entry, which has no more levels than the table has entries
abbrev pub tree_events : List EntryRecord → ℕ → ℕ → List Event
tree_events es n e = events (kids (kin es n) (length es)) n e

-- the entries that events enter, in their order
abbrev pub entered : List Event → List ℕ
entered [] = []
entered (Enter e ∷ vs) = e ∷ entered vs
entered (Leave e ∷ vs) = entered vs

-- the root of a unit, or no record where the unit is not known; the events of its tree
abbrev pub root_record : Records → UnitId → ℕ
root_record r u = cond (knows_unit (view r) u) (slice_index_or r.units.now u.unit no_unit).root nil

abbrev pub unit_events : Records → UnitId → List Event
unit_events r u = cond (knows_unit (view r) u) (tree_events r.entries.now r.entry_count (root_record r u)) []

-- The walk by links: it stands at e, with the subtree of e before it, or (up) behind it.
module _ (fs nx pa : ℕ → ℕ) (n root : ℕ) where
  abbrev pub halt : ℕ → Bool → Bool
  halt e false = cond (nat_lt e n) false true
  halt e true = cond (nat_lt e n) (e == root) true

  abbrev pub to_e : ℕ → Bool → ℕ
  to_e e false = cond (fs e == nil) e (fs e)
  to_e e true = cond (nx e == nil) (pa e) (nx e)

  abbrev pub to_u : ℕ → Bool → Bool
  to_u e false = fs e == nil
  to_u e true = nx e == nil

  abbrev pub emit : ℕ → Bool → List Event
  emit e false = Enter e ∷ []
  emit e true = cond (nx e == nil) (Leave (pa e) ∷ []) []

  -- the events of so many steps at most, and whether these bring the walk to its end
  unfoldable pub run : ℕ → ℕ → Bool → List Event
  run zero e u = []
  run (suc k) e u = cond (halt e u) [] (emit e u ++ run k (to_e e u) (to_u e u))

  unfoldable pub ends : ℕ → ℕ → Bool → Bool
  ends zero e u = halt e u
  ends (suc k) e u = cond (halt e u) true (ends k (to_e e u) (to_u e u))

-- how many steps the walk of a subtree takes
abbrev pub weigh : (ℕ → ℕ) → List ℕ → ℕ
weigh g [] = 0
weigh g (c ∷ cs) = g c + suc (weigh g cs)

unfoldable pub cost : (ℕ → List ℕ) → ℕ → ℕ → ℕ
cost ch zero e = 0
cost ch (suc f) e = suc (weigh (cost ch f) (ch e))

abbrev pub steps : List EntryRecord → ℕ → ℕ → ℕ
steps es n root = cost (kids (kin es n) (length es)) n root + 0

-- where a walk stands, as the walk by links has it
abbrev pub spot_entry : Spot → ℕ
spot_entry (Before e) = e
spot_entry (After e) = e

abbrev pub is_after : Spot → Bool
is_after (Before e) = false
is_after (After e) = true

-- what a walk has yet to give, and that it comes to its end
abbrev pub rest : List EntryRecord → ℕ → ℕ → Spot → List Event
rest es n root s = run (λ i. (slice_index_or es i blank).first) (λ i. (slice_index_or es i blank).next) (λ i. (slice_index_or es i blank).parent) n root (steps es n root) (spot_entry s) (is_after s)

abbrev pub Ending : List EntryRecord → ℕ → ℕ → Spot → Type 0
Ending es n root s = ends (λ i. (slice_index_or es i blank).first) (λ i. (slice_index_or es i blank).next) (λ i. (slice_index_or es i blank).parent) n root (steps es n root) (spot_entry s) (is_after s) ≡ true
