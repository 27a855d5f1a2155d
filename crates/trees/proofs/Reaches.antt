-- The tree of a unit in the table as plain lists is the one over the records, and its walk enters just what is reached.
use Rattle.std.proofs.Common.{◌≡◌, ℕ, ◌<◌, ◌≤◌, true, false, eqb, ltb, List, [], length, get_or, sym, ap, ◌∙◌, subst, inl, inr, arith}
use mathlib.Core.Path.{fun_ext}
use Rattle.std.proofs.lemmas.List.{get_or_past}
use Rattle.std.proofs.lemmas.Bool.{cases_lt, cases_Bool, lt-ltb, le-ltb, cond-true, cond-false, true≢false}
use Rattle.trees.specs.declared.records.Records.{Records}
use Rattle.trees.specs.declared.records.EntryRecord.{EntryRecord}
use Rattle.trees.specs.declared.records.UnitId.{UnitId}
use Rattle.trees.specs.declared.records.UnitRecord.{UnitRecord}
use Rattle.trees.specs.declared.records.Event.{Event}
use Rattle.trees.specs.Lists.{nil, kids, Mem}
use Rattle.trees.specs.Model.{Entry, knows_unit, no_unit, no_entry}
use Rattle.trees.specs.View.{view, Holds, kin, kind}
use Rattle.trees.specs.Walk.{events, entries, tree_events, unit_events, entered, root_record}
use Rattle.trees.specs.Reach.{children_in, root_in, events_from, events_in, Reached, Reached.top, Reached.below, EntersReached}
use Rattle.trees.proofs.Segs.{Seg}
use Rattle.trees.proofs.Families.{good_seg, chain_nil}
use Rattle.trees.proofs.Views.{nx, fs, pa, st, kin_of}
use Rattle.trees.proofs.Trees.{small, parentless}
use Rattle.trees.proofs.Edits.{known_unit, view_count, view_entry, view_unit}
use Rattle.trees.proofs.Machine.{Fit, deep_root}
use Rattle.trees.proofs.Visits.{entered_events, all_below, entered_root, entered_child}

-- the children of each entry, from the records
pub children_all : (r : Records) → children_in (view r) ≡ kids (kin r.entries.now r.entry_count) (length r.entries.now)
children_all r = fun_ext (λ e. elim (cases_lt e r.entry_count) [
  | inl h ↦ ap (λ (x : Entry). x.children) (view_entry r e h)
  | inr h ↦ ap (λ (x : Entry). x.children) (get_or_past (view r).entries e no_entry (let z = view_count r in omega arith))
      ∙ sym (chain_nil (kin r.entries.now r.entry_count).next (length r.entries.now) ((kin r.entries.now r.entry_count).first e) (cond-false (ltb e r.entry_count) _ nil (le-ltb e r.entry_count h)))
])

-- the events of a unit's tree are those over the records, and enter what is reached
module _ (r : Records) (u : UnitId) where
  S : Holds r
  S = r.sound

  abbrev es : List EntryRecord
  es = r.entries.now

  abbrev n : ℕ
  n = r.entry_count

  abbrev ch : ℕ → List ℕ
  ch = kids (kin es n) (length es)

  abbrev root : ℕ
  root = root_in (view r) u

  abbrev pub Matches : Type 0
  Matches = (unit_events r u ≡ events_in (view r) u) × EntersReached (view r) u

  nz : n ≤ nil
  nz = small S

  tree_is : (e : ℕ) → events_from (view r) e ≡ events ch n e
  tree_is e = ap (λ (c : ℕ → List ℕ). events c (length (view r).entries) e) (children_all r) ∙ ap (λ (m : ℕ). events ch m e) (view_count r)

  unknown : knows_unit (view r) u ≡ false → Matches
  unknown q =
      let none : events_in (view r) u ≡ [] = cond-false (knows_unit (view r) u) (events_from (view r) root) [] q in
      (cond-false (knows_unit (view r) u) _ [] q ∙ sym none, (λ e. ((λ m. absurd (subst (λ (x : List Event). Mem e (entered x)) none m)), (λ w. absurd (unreached e w)))))
    where
      unreached : (e : ℕ) → Reached (view r) u e → ⊥
      unreached _ (top k) = true≢false (sym k ∙ q)
      unreached _ (below w m) = unreached _ w

  module _ (q : knows_unit (view r) u ≡ true) where
    root_is : root ≡ (get_or r.units.now u.unit no_unit).root
    root_is = cond-true (knows_unit (view r) u) _ nil q ∙ ap (λ (x : UnitRecord). x.root) (view_unit r u.unit (known_unit r u q))

    root_used : root < n
    root_used = rw root_is (S.rooted u.unit (known_unit r u q)).0

    root_top : pa es root ≡ nil
    root_top =
        let k : kind (st es root) ≡ 0 = rw root_is (S.rooted u.unit (known_unit r u q)).1 in
        parentless S root root_used (ap (λ (x : ℕ). eqb x 2) k)

    fit : Fit (fs es) (nx es) (pa es) n root ch
    fit = record {
      small = nz;
      segs = λ p h. subst (λ (x : ℕ). Seg (nx es) x (ch p) nil) (cond-true (ltb p n) (fs es p) nil (lt-ltb p n h)) (good_seg (kin es n) (length es) n (kin_of r) p);
      own = λ p c h m. (let o = S.kin_owned (p, c, m) in (o.0, (λ z. (let y : p ≡ nil = sym o.1 ∙ (ap (pa es) z ∙ root_top) in let k = nz in omega arith)), o.1));
    }

    known_events : events_in (view r) u ≡ events ch n root
    known_events = cond-true (knows_unit (view r) u) (events_from (view r) root) [] q ∙ tree_is root

    enters : entered (events_in (view r) u) ≡ entries ch n root
    enters = ap entered known_events ∙ entered_events ch n root

    reaches : (e : ℕ) → Mem e (entries ch n root) → Reached (view r) u e
    reaches e m = all_below ch (Reached (view r) u) (λ p c w k. below w (subst (λ (f : ℕ → List ℕ). Mem c (f p)) (sym (children_all r)) k)) n root e (top q) m

    reached : (e : ℕ) → Reached (view r) u e → Mem e (entries ch n root)
    reached _ (top k) = entered_root ch n root (deep_root (fs es) (nx es) (pa es) n root ch fit root_used root_top)
    reached _ (below {p} {c} w m) = entered_child ch n root p c (deep_root (fs es) (nx es) (pa es) n root ch fit root_used root_top) (reached p w) (subst (λ (f : ℕ → List ℕ). Mem c (f p)) (children_all r) m)

    same_root : root_record r u ≡ root
    same_root = cond-true (knows_unit (view r) u) _ nil q ∙ sym root_is

    matched : Matches
    matched = (cond-true (knows_unit (view r) u) _ [] q ∙ (ap (λ (e : ℕ). tree_events es n e) same_root ∙ sym known_events), (λ e. ((λ m. reaches e (subst (Mem e) enters m)), (λ w. subst (Mem e) (sym enters) (reached e w)))))

  pub matches : Matches
  matches = elim (cases_Bool (knows_unit (view r) u)) [ inl q ↦ matched q | inr q ↦ unknown q ]
