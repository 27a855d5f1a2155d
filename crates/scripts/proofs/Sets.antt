use Rattle.std.proofs.Common.{◌≡◌, ℕ, ◌≤◌, List, [], ◌∷◌, length, get_or, drop, refl, arith, inr}
use Rattle.scripts.specs.declared.kind.Kind.{Kind}
use Rattle.scripts.specs.declared.verb.Verb.TheVariants.{Set}
use Rattle.scripts.specs.declared.complaint.Complaint.{Complaint}
use Rattle.scripts.specs.declared.complaint.Complaint.TheVariants.{UnknownWord, WordCount, Word, UnknownValue, BadFormat, BadLineProgram, BadFlag, BadSession, NoSession, UnknownReference, NotHeld, NoMemory}
use Rattle.scripts.specs.Kinds.{word_of}
use Rattle.scripts.specs.Complaints.{NoValue, NoCall}

-- what is no value of a kind is no value for an attribute
refused : (kind : Kind) (a b c d : List ℕ) (ws : List (List ℕ)) (e : Complaint) → d ≡ word_of kind → NoValue kind ws e → NoCall Set (a ∷ b ∷ c ∷ d ∷ ws) e
refused kind a b c d ws WordCount k n = inr (kind, k, λ h. n (omega arith))
refused kind a b c d ws (Word w) k n = inr (inr (inr (inr n)))
refused kind a b c d ws BadFlag k n = (n.0, n.2, inr n.1)
refused kind a b c d ws NoMemory k n = refl
refused kind a b c d ws UnknownWord k n = absurd n
refused kind a b c d ws UnknownValue k n = absurd n
refused kind a b c d ws BadFormat k n = absurd n
refused kind a b c d ws BadLineProgram k n = absurd n
refused kind a b c d ws BadSession k n = absurd n
refused kind a b c d ws NoSession k n = absurd n
refused kind a b c d ws UnknownReference k n = absurd n
refused kind a b c d ws NotHeld k n = absurd n

pub set_refused : (kind : Kind) (ws : List (List ℕ)) (e : Complaint) → 4 ≤ length ws → get_or ws 3 [] ≡ word_of kind → NoValue kind (drop 4 ws) e → NoCall Set ws e
set_refused kind [] e h k n = absurd (omega (arith, h))
set_refused kind (a ∷ []) e h k n = absurd (omega (arith, h))
set_refused kind (a ∷ b ∷ []) e h k n = absurd (omega (arith, h))
set_refused kind (a ∷ b ∷ c ∷ []) e h k n = absurd (omega (arith, h))
set_refused kind (a ∷ b ∷ c ∷ d ∷ ws) e h k n = refused kind a b c d ws e k n
