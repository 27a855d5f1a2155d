-- When a word is refused, and what is said of it.
use Rattle.std.specs.Prelude.{◌≡◌, ℕ, ◌≤◌, List, Some, None, Option, codes}
use Rattle.texts.specs.declared.bad_word.BadWord.{BadWord}
use Rattle.texts.specs.declared.bad_word.BadWord.TheVariants.{NotANumber, OutOfRange, NotBytes, NoMemory}

-- what the text says is no number
abbrev pub SaysNone : {X : Type 0} → Option X → BadWord → Type 0
SaysNone o e = (o ≡ None) × (e ≡ NotANumber)

-- a number below a limit: what the text says is no number, or is past the limit
abbrev pub NoNumber : ℕ → Option ℕ → BadWord → Type 0
NoNumber limit o NotANumber = o ≡ None
NoNumber limit o OutOfRange = (n : ℕ) × (o ≡ Some n) × (limit ≤ n)
NoNumber limit o NotBytes = ⊥
NoNumber limit o NoMemory = ⊥

-- bytes: the text is not pairs of digits, or no memory is left for them
abbrev pub NoBytes : Option (List ℕ) → BadWord → Type 0
NoBytes o NotANumber = ⊥
NoBytes o OutOfRange = ⊥
NoBytes o NotBytes = o ≡ None
NoBytes o NoMemory = Unit {0}

-- what each refusal says
abbrev pub text_of : BadWord → List ℕ
text_of NotANumber = codes "not a number of at most 64 bits"
text_of OutOfRange = codes "number out of range"
text_of NotBytes = codes "not pairs of lower-case hex digits"
text_of NoMemory = codes "no memory"
