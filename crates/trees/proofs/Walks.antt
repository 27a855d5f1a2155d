-- Cursors along a list.
use Rattle.std.proofs.Common.{◌≡◌, ℕ, ◌<◌, Bool, true, false, ltb, ◌≢◌, [], ◌∷◌, map, length, get_or, sym, refl, ap, ◌∙◌, subst, inl, inr, arith}
use Rattle.std.proofs.lemmas.Bool.{lt-ltb, cond-true}
use Rattle.trees.specs.Lists.{nil, chain, stop, Mem}
use Rattle.trees.specs.View.{view, kin, blank, no_attribute}
use Rattle.trees.specs.Attributes.{lists, records_of}
use Rattle.trees.specs.Model.{knows, children_of, attributes_of, Entry}
use Rattle.trees.specs.Cursors.{FirstOf, siblings_from, FirstAttributeOf, records_from, attributes_from}
use Rattle.trees.specs.Chains.{ChainEnds, ChainLies}
use Rattle.trees.specs.declared.records.Records.{Records}
use Rattle.trees.specs.declared.records.UnitEntryId.{UnitEntryId}
use Rattle.trees.proofs.Families.{chain_step, chain_nil}
use Rattle.trees.proofs.Views.{fs, at}
use Rattle.trees.proofs.Edits.{known, view_entry}
use Rattle.trees.proofs.Empty.{stop_nil}

-- a cursor at a that is not at the end: a comes, lies below the bound, and the rest is as well made
pub walk_step : (nx : ℕ → ℕ) (F a : ℕ) → stop nx F a ≡ nil → ((c : ℕ) → Mem c (chain nx F a) → c < F) → a ≢ nil
    → (chain nx F a ≡ a ∷ chain nx F (nx a)) × (a < F) × (stop nx F (nx a) ≡ nil) × ((c : ℕ) → Mem c (chain nx F (nx a)) → c < F)
walk_step nx F a e l ne = let k = chain_step nx F a e ne in
    (k.0, l a (rw k.0 (inl refl)), k.1, λ c m. l c (rw k.0 (inr m)))

-- where the cursor of an entry's children begins
abbrev pub Begun : Records → UnitEntryId → ℕ → Type 0
Begun r i a = ChainEnds blank (λ r. r.next) r.entries.now a × ChainLies blank (λ r. r.next) r.entries.now a × (siblings_from r.entries.now a ≡ children_of (view r) i)

pub begun : (r : Records) → (i : UnitEntryId) (a : ℕ) → FirstOf r i a → Begun r i a
begun r i a e = go (knows (view r) i) refl
  where
    go : (b : Bool) → knows (view r) i ≡ b → Begun r i a
    go true q =
        let h = (known r i q).used in
        let f : (kin r.entries.now r.entry_count).first i.entry ≡ a = cond-true (ltb i.entry r.entry_count) (fs r.entries.now i.entry) nil (lt-ltb i.entry r.entry_count h) ∙ sym (e ∙ cond-true (knows (view r) i) (fs r.entries.now i.entry) nil q) in
        subst (Begun r i) f (
          r.sound.kin_ends i.entry,
          (λ c m. let o = (r.sound.kin_owned (i.entry, c, m)).0 in let z = r.sound.entries_fit in omega arith),
          sym (cond-true (knows (view r) i) _ [] q ∙ ap (λ (x : Entry). x.children) (view_entry r i.entry h)),
        )
    go false q =
        let f : a ≡ nil = e ∙ rw q in
        let z = chain_nil (kin r.entries.now r.entry_count).next (length r.entries.now) a f in
        (stop_nil (kin r.entries.now r.entry_count).next (length r.entries.now) a f, (λ c m. absurd (subst (Mem c) z m)), z ∙ sym (rw q))

-- the records of a list, from its first on
abbrev pub From : Records → ℕ → ℕ → Type 0
From r e a = ChainEnds no_attribute (λ r. r.next) r.attributes.now a × ChainLies no_attribute (λ r. r.next) r.attributes.now a × (records_from r.attributes.now a ≡ records_of r e)

pub from : (r : Records) → (e a : ℕ) → (lists r).first e ≡ a → From r e a
from r e a f = subst (From r e) f (r.sound.held_ends e, (λ c m. let o = (r.sound.held_owned (e, c, m)).0 in let z = r.sound.attributes_fit in omega arith), refl)

-- where the cursor of an entry's attributes begins
abbrev pub BegunAttributes : Records → UnitEntryId → ℕ → Type 0
BegunAttributes r i a = ChainEnds no_attribute (λ r. r.next) r.attributes.now a × ChainLies no_attribute (λ r. r.next) r.attributes.now a × (attributes_from r.attributes.now a ≡ attributes_of (view r) i)

pub begun_attributes : (r : Records) → (i : UnitEntryId) (a : ℕ) → FirstAttributeOf r i a → BegunAttributes r i a
begun_attributes r i a e = go (knows (view r) i) refl
  where
    go : (b : Bool) → knows (view r) i ≡ b → BegunAttributes r i a
    go true q =
        let h = (known r i q).used in
        let f : (lists r).first i.entry ≡ a = cond-true (ltb i.entry r.entry_count) (at r.entries.now i.entry) _ (lt-ltb i.entry r.entry_count h) ∙ sym (e ∙ cond-true (knows (view r) i) (at r.entries.now i.entry) nil q) in
        let b = from r i.entry a f in
        (b.0, b.1, ap (map (λ i. (get_or r.attributes.now i no_attribute).attribute)) b.2 ∙ sym (cond-true (knows (view r) i) _ [] q ∙ ap (λ (x : Entry). x.attributes) (view_entry r i.entry h)))
    go false q =
        let f : a ≡ nil = e ∙ rw q in
        let z = chain_nil (lists r).next (length r.attributes.now) a f in
        (stop_nil (lists r).next (length r.attributes.now) a f, (λ c m. absurd (subst (Mem c) z m)), ap (map (λ i. (get_or r.attributes.now i no_attribute).attribute)) z ∙ sym (rw q))
