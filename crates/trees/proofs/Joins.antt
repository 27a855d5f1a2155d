-- The stores that link an attribute's record in or out, at the front of an entry's list or further on.
use Rattle.std.proofs.Common.{◌≡◌, ℕ, ◌<◌, false, ◌≢◌, List, [], ◌∷◌, ◌++◌, map, length, get_or, set, sym, refl, ap, ◌∙◌, subst, arith, length-set}
use Rattle.trees.specs.declared.records.Attribute.{Attribute}
use Rattle.trees.specs.declared.records.UnitRecord.{UnitRecord}
use Rattle.trees.specs.declared.records.EntryRecord.{EntryRecord}
use Rattle.trees.specs.declared.records.AttributeRecord.{AttributeRecord}
use Rattle.trees.specs.Lists.{nil, Links, kids, Mem, last_or, Before}
use Rattle.trees.specs.Model.{Entry, change, amend, named, unname}
use Rattle.trees.specs.View.{blank, no_attribute, holdings, entries_in, Sound}
use Rattle.trees.specs.Attributes.{attribute_in}
use Rattle.trees.proofs.Families.{last_in}
use Rattle.trees.proofs.Views.{at, upd, upd_at, upd_off, field, kept}
use Rattle.trees.proofs.Trees.{at_point}
use Rattle.trees.proofs.Holdings.{still, still_set, link_sound, link_view, link_left, unlink_sound, unlink_loose, unlink_view, unlink_left}

-- an entry's record, with another first attribute; an attribute's, with another next
abbrev pub begins : ℕ → EntryRecord → EntryRecord
begins a r = record { unit = r.unit; state = r.state; tag = r.tag; sibling = r.sibling; parent = r.parent; first = r.first; last = r.last; next = r.next; attribute = a; note = r.note }

abbrev pub on_to : ℕ → AttributeRecord → AttributeRecord
on_to x r = record { attribute = r.attribute; owner = r.owner; next = x }

abbrev pub ended : Attribute → ℕ → AttributeRecord
ended v e = record { attribute = v; owner = e; next = 65535 }

abbrev nxt : List AttributeRecord → ℕ → ℕ
nxt ats y = (get_or ats y no_attribute).next

module _ {us : List UnitRecord} {m : ℕ} {es : List EntryRecord} {n : ℕ} {ats : List AttributeRecord} {k free size : ℕ} (S : Sound us m es n ats k free size) where
  abbrev L : Links
  L = holdings es n ats free

  -- the step's result
  abbrev pub Held : List EntryRecord → List AttributeRecord → List Entry → Type 0
  Held es' ats' xs = Sound us m es' n ats' k free size × (entries_in es' n ats' free ≡ xs) × (length es' ≡ length es) × (length ats' ≡ length ats) × (kids (holdings es' n ats' free) (length ats') nil ≡ kids L (length ats) nil)

  module _ (e a l : ℕ) (v : Attribute) (he : e < n) (small : a < k) (loose : (y : ℕ) → Mem a (kids L (length ats) y) → ⊥) (hl : l ≡ last_or nil (kids L (length ats) e)) where
    a_len : a < length ats
    a_len = let z = S.attributes_fit in omega arith

    e_len : e < length es
    e_len = let z = S.entries_fit in omega arith

    pub link_first : l ≡ nil → Held (set es e (begins a (get_or es e blank))) (set ats a (ended v e)) (change e (amend (λ xs. xs ++ v ∷ [])) (entries_in es n ats free))
    unfolding nil
    link_first q =
        let r = ended v e in
        let er = begins a (get_or es e blank) in
        let es' = set es e er in
        let ats' = set ats a r in
        let w = still_set S e er e_len refl refl refl refl refl refl refl refl refl in
        let fa : at es' ≡ upd (at es) e a = field (λ (x : EntryRecord). x.attribute) es e er blank e_len in
        let va = field (λ (x : AttributeRecord). x.attribute) ats a r no_attribute a_len in
        let oa = field (λ (x : AttributeRecord). x.owner) ats a r no_attribute a_len in
        let na : nxt ats' ≡ upd (nxt ats) a nil = field (λ (x : AttributeRecord). x.next) ats a r no_attribute a_len in
        let len = length-set ats a r in
        let n1 = at_point na a ∙ upd_at (nxt ats) a nil in
        let n2 : (y : ℕ) → y ≢ a → y ≢ l → nxt ats' y ≡ nxt ats y = λ y p _. at_point na y ∙ upd_off (nxt ats) a nil y p in
        let f1 : l ≡ nil → at es' e ≡ a = λ _. at_point fa e ∙ upd_at (at es) e a in
        let f2 : l ≢ nil → (at es' e ≡ at es e) × (nxt ats' l ≡ a) = λ p. absurd (p q) in
        let f3 : (y : ℕ) → y ≢ e → at es' y ≡ at es y = λ y p. at_point fa y ∙ upd_off (at es) e a y p in (
          link_sound S es' ats' e a l v w he small loose hl len va oa n1 n2 f1 f2 f3,
          link_view S es' ats' e a l v w he small loose hl len va oa n1 n2 f1 f2 f3,
          length-set es e er,
          len,
          link_left S es' ats' e a l v w he small loose hl len va oa n1 n2 f1 f2 f3,
        )

    last_mem : l ≢ nil → Mem l (kids L (length ats) e)
    last_mem ne = subst (λ (x : ℕ). Mem x (kids L (length ats) e)) (sym hl) (last_in nil (kids L (length ats) e) (λ q. ne (hl ∙ q)))

    pub last_in_use : l ≢ nil → l < k
    last_in_use ne = (S.held_owned (e, l, last_mem ne)).0

    pub link_after : l ≢ nil → Held es (set (set ats a (ended v e)) l (on_to a (get_or (set ats a (ended v e)) l no_attribute))) (change e (amend (λ xs. xs ++ v ∷ [])) (entries_in es n ats free))
    unfolding nil
    link_after ne =
        let r = ended v e in
        let t1 = set ats a r in
        let r2 = on_to a (get_or t1 l no_attribute) in
        let ats' = set t1 l r2 in
        let w = still S in
        let la : l ≢ a = λ q. loose e (subst (λ (x : ℕ). Mem x (kids L (length ats) e)) q (last_mem ne)) in
        let ll : l < length t1 = (let z = S.attributes_fit in let y = last_in_use ne in let x = length-set ats a r in omega arith) in
        let va = kept (λ (x : AttributeRecord). x.attribute) t1 l r2 no_attribute ll refl ∙ field (λ (x : AttributeRecord). x.attribute) ats a r no_attribute a_len in
        let oa = kept (λ (x : AttributeRecord). x.owner) t1 l r2 no_attribute ll refl ∙ field (λ (x : AttributeRecord). x.owner) ats a r no_attribute a_len in
        let na : nxt ats' ≡ upd (upd (nxt ats) a nil) l a = field (λ (x : AttributeRecord). x.next) t1 l r2 no_attribute ll ∙ ap (λ (h : ℕ → ℕ). upd h l a) (field (λ (x : AttributeRecord). x.next) ats a r no_attribute a_len) in
        let len = length-set t1 l r2 ∙ length-set ats a r in
        let n1 = at_point na a ∙ (upd_off (upd (nxt ats) a nil) l a a (λ q. la (sym q)) ∙ upd_at (nxt ats) a nil) in
        let n2 : (y : ℕ) → y ≢ a → y ≢ l → nxt ats' y ≡ nxt ats y = λ y p q. at_point na y ∙ (upd_off (upd (nxt ats) a nil) l a y q ∙ upd_off (nxt ats) a nil y p) in
        let f1 : l ≡ nil → at es e ≡ a = λ q. absurd (ne q) in
        let f2 : l ≢ nil → (at es e ≡ at es e) × (nxt ats' l ≡ a) = λ _. (refl, at_point na l ∙ upd_at (upd (nxt ats) a nil) l a) in
        let f3 : (y : ℕ) → y ≢ e → at es y ≡ at es y = λ y p. refl in (
          link_sound S es ats' e a l v w he small loose hl len va oa n1 n2 f1 f2 f3,
          link_view S es ats' e a l v w he small loose hl len va oa n1 n2 f1 f2 f3,
          refl,
          len,
          link_left S es ats' e a l v w he small loose hl len va oa n1 n2 f1 f2 f3,
        )

  module _ (e a l : ℕ) (he : e < n) (b : Before L (length ats) e a l) where
    abbrev Out : List EntryRecord → List AttributeRecord → Type 0
    Out es' ats' = Sound us m es' n ats' k free size × ((y : ℕ) → Mem a (kids (holdings es' n ats' free) (length ats') y) → ⊥) × (length es' ≡ length es) × (length ats' ≡ length ats) × (kids (holdings es' n ats' free) (length ats') nil ≡ kids L (length ats) nil)
        × ((name : ℕ) (bs as' : List ℕ) → kids L (length ats) e ≡ bs ++ (a ∷ as') → named name (map (attribute_in ats) bs) ≡ false → (attribute_in ats a).name ≡ name → entries_in es' n ats' free ≡ change e (amend (unname name)) (entries_in es n ats free))

    pub prev_in_use : l ≢ nil → l < k
    prev_in_use ne = (S.held_owned (e, l, (b.2 ne).0)).0

    pub unlink_first : l ≡ nil → Out (set es e (begins (nxt ats a) (get_or es e blank))) ats
    unlink_first q =
        let h : e < length es = (let z = S.entries_fit in omega arith) in
        let er = begins (nxt ats a) (get_or es e blank) in
        let es' = set es e er in
        let w = still_set S e er h refl refl refl refl refl refl refl refl refl in
        let fa : at es' ≡ upd (at es) e (nxt ats a) = field (λ (x : EntryRecord). x.attribute) es e er blank h in
        let h1 : l ≡ nil → at es' e ≡ nxt ats a = λ _. at_point fa e ∙ upd_at (at es) e (nxt ats a) in
        let h2 : l ≢ nil → (nxt ats l ≡ nxt ats a) × (at es' e ≡ at es e) = λ p. absurd (p q) in
        let h3 : (y : ℕ) → y ≢ a → y ≢ l → nxt ats y ≡ nxt ats y = λ y _ _. refl in
        let h4 : (y : ℕ) → y ≢ e → at es' y ≡ at es y = λ y p. at_point fa y ∙ upd_off (at es) e (nxt ats a) y p in (
          unlink_sound S es' ats e a l w he b refl refl refl h1 h2 h3 h4,
          unlink_loose S es' ats e a l w he b refl refl refl h1 h2 h3 h4,
          length-set es e er,
          refl,
          unlink_left S es' ats e a l w he b refl refl refl h1 h2 h3 h4,
          unlink_view S es' ats e a l w he b refl refl refl h1 h2 h3 h4,
        )

    pub unlink_after : l ≢ nil → Out es (set ats l (on_to (nxt ats a) (get_or ats l no_attribute)))
    unlink_after ne =
        let h : l < length ats = (let z = S.attributes_fit in let y = prev_in_use ne in omega arith) in
        let r = on_to (nxt ats a) (get_or ats l no_attribute) in
        let ats' = set ats l r in
        let w = still S in
        let va = kept (λ (x : AttributeRecord). x.attribute) ats l r no_attribute h refl in
        let oa = kept (λ (x : AttributeRecord). x.owner) ats l r no_attribute h refl in
        let na : nxt ats' ≡ upd (nxt ats) l (nxt ats a) = field (λ (x : AttributeRecord). x.next) ats l r no_attribute h in
        let len = length-set ats l r in
        let h1 : l ≡ nil → at es e ≡ nxt ats a = λ q. absurd (ne q) in
        let h2 : l ≢ nil → (nxt ats' l ≡ nxt ats a) × (at es e ≡ at es e) = λ _. (at_point na l ∙ upd_at (nxt ats) l (nxt ats a), refl) in
        let h3 : (y : ℕ) → y ≢ a → y ≢ l → nxt ats' y ≡ nxt ats y = λ y _ q. at_point na y ∙ upd_off (nxt ats) l (nxt ats a) y q in
        let h4 : (y : ℕ) → y ≢ e → at es y ≡ at es y = λ y p. refl in (
          unlink_sound S es ats' e a l w he b len va oa h1 h2 h3 h4,
          unlink_loose S es ats' e a l w he b len va oa h1 h2 h3 h4,
          refl,
          len,
          unlink_left S es ats' e a l w he b len va oa h1 h2 h3 h4,
          unlink_view S es ats' e a l w he b len va oa h1 h2 h3 h4,
        )
