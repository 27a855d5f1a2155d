-- each section is among them all, and what is found by its name is it
use Rattle.std.proofs.Common.{◌≡◌, ℕ, zero, suc, Bool, true, false, cond, List, [], ◌∷◌, Some, None, Option, refl, sym, ap, ◌∙◌, ⊎_elim, find}
use Rattle.std.specs.List.{slice_get}
use Rattle.std.specs.Str.{bytes_eq}
use Rattle.std.specs.Option.{ok_or}
use Rattle.std.proofs.lemmas.Bool.{cases_Bool}
use Rattle.std.proofs.lemmas.Slice.Eq.{bytes_eq-Decides}
use Rattle.numbers.specs.declared.common.SectionId.{SectionId}
use Rattle.numbers.specs.declared.common.SectionId.TheVariants.{DebugAbbrev, DebugAddr, DebugAranges, DebugCuIndex, DebugFrame, EhFrame, EhFrameHdr, DebugGnuPubNames, DebugGnuPubTypes, DebugInfo, DebugLine, DebugLineStr, DebugLoc, DebugLocLists, DebugMacinfo, DebugMacro, DebugNames, DebugPubNames, DebugPubTypes, DebugRanges, DebugRngLists, DebugStr, DebugStrOffsets, DebugTuIndex, DebugTypes}
use Rattle.numbers.specs.Common.{IsNamed, section_name, all_sections}

listed : (x : SectionId) → (i : ℕ) × (slice_get all_sections i ≡ Some x)
listed DebugAbbrev = (0, refl)
listed DebugAddr = (1, refl)
listed DebugAranges = (2, refl)
listed DebugCuIndex = (3, refl)
listed DebugFrame = (4, refl)
listed EhFrame = (5, refl)
listed EhFrameHdr = (6, refl)
listed DebugGnuPubNames = (7, refl)
listed DebugGnuPubTypes = (8, refl)
listed DebugInfo = (9, refl)
listed DebugLine = (10, refl)
listed DebugLineStr = (11, refl)
listed DebugLoc = (12, refl)
listed DebugLocLists = (13, refl)
listed DebugMacinfo = (14, refl)
listed DebugMacro = (15, refl)
listed DebugNames = (16, refl)
listed DebugPubNames = (17, refl)
listed DebugPubTypes = (18, refl)
listed DebugRanges = (19, refl)
listed DebugRngLists = (20, refl)
listed DebugStr = (21, refl)
listed DebugStrOffsets = (22, refl)
listed DebugTuIndex = (23, refl)
listed DebugTypes = (24, refl)

module _ {A : Type 0} (test : A → Bool) where
  -- one element of a search that finds nothing, and of one that finds x
  past : (y : A) (r : Option A) → cond (test y) (Some y) r ≡ None → (test y ≡ false) × (r ≡ None)
  past y r e =
      ⊎_elim (λ t. let n : Some y ≡ None = ap (λ b. cond b (Some y) r) (sym t) ∙ e in cc)
      (λ f. (f, ap (λ b. cond b (Some y) r) (sym f) ∙ e))
      (cases_Bool (test y))

  here : (y x : A) (r : Option A) → cond (test y) (Some y) r ≡ Some x → (r ≡ Some x → test x ≡ true) → test x ≡ true
  here y x r e k =
      ⊎_elim (λ t. let n : Some y ≡ Some x = ap (λ b. cond b (Some y) r) (sym t) ∙ e in cc)
      (λ f. k (ap (λ b. cond b (Some y) r) (sym f) ∙ e))
      (cases_Bool (test y))

  passed_over : (xs : List A) (i : ℕ) (x : A) → find test xs ≡ None → slice_get xs i ≡ Some x → test x ≡ false
  passed_over [] i x e h = let n : None ≡ Some x = h in cc
  passed_over (y ∷ ys) zero x e h = let n : Some y ≡ Some x = h in let p = past y (find test ys) e in cc p.0
  passed_over (y ∷ ys) (suc i) x e h = passed_over ys i x (past y (find test ys) e).1 h

  found_passes : (xs : List A) (x : A) → find test xs ≡ Some x → test x ≡ true
  found_passes [] x e = let n : None ≡ Some x = e in cc
  found_passes (y ∷ ys) x e = here y x (find test ys) e (found_passes ys x)

pub section_is_named : {E : Type 0} (text : List ℕ) (r : Option SectionId) (e : E) → r ≡ find (λ id. bytes_eq (section_name id) text) all_sections → IsNamed section_name text (ok_or r e)
section_is_named text None e q =
    λ x h. let l = listed x in
    let f = passed_over (λ id. bytes_eq (section_name id) text) all_sections l.0 x (sym q) l.1 in
    let t = (bytes_eq-Decides (section_name x) text).1 h in
    let n : true ≡ false = sym t ∙ f in cc
section_is_named text (Some x) e q =
    (bytes_eq-Decides (section_name x) text).0 (found_passes (λ id. bytes_eq (section_name id) text) all_sections x (sym q))
