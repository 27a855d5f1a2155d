-- What is true of a table's records at all times.
use Rattle.std.specs.Prelude.{◌≡◌, ℕ, ◌<◌, ◌≤◌, true, false, cond, not, ◌≢◌, List, length, get_or, ◌==◌, nat_lt}
use Rattle.numbers.specs.declared.common.Address.TheVariants.{Constant}
use Rattle.trees.specs.declared.records.AttributeValue.TheVariants.{Address}
use Rattle.trees.specs.declared.records.UnitRecord.{UnitRecord}
use Rattle.trees.specs.declared.records.EntryRecord.{EntryRecord}
use Rattle.trees.specs.declared.records.AttributeRecord.{AttributeRecord}
use Rattle.trees.specs.declared.records.State.{State}
use Rattle.trees.specs.declared.records.State.TheVariants.{Root, Waiting, Placed, TakenOut, GivenBack}
use Rattle.trees.specs.Lists.{nil, Links, kids, Ends, Owned, has, last_or}
use Rattle.trees.specs.Model.{no_unit, no_note}

-- what stands past the end of the memory
abbrev pub blank : EntryRecord
blank = record { unit = 0; state = Root; tag = 0; sibling = false; parent = 0; first = 0; last = 0; next = 0; attribute = 0; note = no_note }

abbrev pub no_attribute : AttributeRecord
no_attribute = record { attribute = record { name = 0; value = Address (Constant 0) }; owner = 0; next = 0 }

-- the lists of children: of the n entries in use, each by the record of its parent
abbrev pub kin : List EntryRecord → ℕ → Links
kin es n = record { next = λ i. (get_or es i blank).next; first = λ e. cond (nat_lt e n) (get_or es e blank).first nil; owner = λ i. (get_or es i blank).parent }

-- the lists of attributes: of the n entries in use, and of nobody, which is the list of free records
abbrev pub holdings : List EntryRecord → ℕ → List AttributeRecord → ℕ → Links
holdings es n ats free = record { next = λ i. (get_or ats i no_attribute).next; first = λ e. cond (nat_lt e n) (get_or es e blank).attribute (cond (e == nil) free nil); owner = λ i. (get_or ats i no_attribute).owner }

-- at most `most` records of a kind, and as many in use as there are at most
abbrev pub Sized : ℕ → ℕ → ℕ → Type 0
Sized used size most = (used ≤ size) × (size ≤ most)

-- the number of a state: an equation between numbers is seen to be a proposition
abbrev pub kind : State → ℕ
kind Root = 0
kind Waiting = 1
kind Placed = 2
kind TakenOut = 3
kind GivenBack = 4

-- the last child is noted
abbrev pub Lasts : List EntryRecord → ℕ → Type 0
Lasts es n = (e : ℕ) → e < n → (get_or es e blank).last ≡ last_or nil (kids (kin es n) (length es) e)

-- just the placed entries have a parent
abbrev pub Parented : List EntryRecord → ℕ → Type 0
Parented es n = (e : ℕ) → e < n → (kind (get_or es e blank).state == 2) ≡ not ((get_or es e blank).parent == nil)

-- an entry with a parent stands in its list
abbrev pub Listed : List EntryRecord → ℕ → Type 0
Listed es n = (e : ℕ) → e < n → (get_or es e blank).parent ≢ nil → has e (kids (kin es n) (length es) (get_or es e blank).parent) ≡ true

-- and is of its unit
abbrev pub Akin : List EntryRecord → ℕ → Type 0
Akin es n = (e : ℕ) → e < n → (get_or es e blank).parent ≢ nil → (get_or es e blank).unit ≡ (get_or es (get_or es e blank).parent blank).unit

-- each entry is of a unit in use
abbrev pub Housed : List EntryRecord → ℕ → ℕ → Type 0
Housed es n m = (e : ℕ) → e < n → (get_or es e blank).unit < m

-- each unit has its root
abbrev pub Rooted : List UnitRecord → ℕ → List EntryRecord → ℕ → Type 0
Rooted us m es n = (u : ℕ) → u < m → ((get_or us u no_unit).root < n) × (kind (get_or es (get_or us u no_unit).root blank).state ≡ 0) × ((get_or es (get_or us u no_unit).root blank).unit ≡ u)

-- all of it, of units us of which m are in use, entries es, n, attributes ats, k, with the free ones from `free` on, and a pool of a size
pub record Sound (us : List UnitRecord) (m : ℕ) (es : List EntryRecord) (n : ℕ) (ats : List AttributeRecord) (k free size : ℕ) : Type 0 where
  pub units_fit : Sized m (length us) 64
  pub entries_fit : Sized n (length es) 65535
  pub attributes_fit : Sized k (length ats) 65535
  pub pool_fits : size ≤ 1048576
  pub kin_ends : Ends (kin es n) (length es)
  pub kin_owned : Owned (kin es n) (length es) n
  pub lasts : Lasts es n
  pub parented : Parented es n
  pub listed : Listed es n
  pub akin : Akin es n
  pub housed : Housed es n m
  pub rooted : Rooted us m es n
  pub held_ends : Ends (holdings es n ats free) (length ats)
  pub held_owned : Owned (holdings es n ats free) (length ats) k
