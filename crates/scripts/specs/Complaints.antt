-- What is said of a line that cannot be read, and when.
use Rattle.std.specs.Prelude.{◌≡◌, ◌≢◌, ℕ, ◌+◌, ◌<◌, ◌≤◌, ◌⊎◌, List, [], ◌∷◌, length, Option, Some, None, codes, slice_index_or}
use Rattle.texts.specs.declared.bad_word.BadWord.{BadWord}
use Rattle.texts.specs.declared.bad_word.BadWord.TheVariants.{NotANumber, OutOfRange, NotBytes, NoMemory as NoRoom}
use Rattle.texts.specs.Texts.{number_of, signed_of, bytes_named}
use Rattle.texts.specs.Words.{NoNumber, text_of as word_text}
use Rattle.scripts.specs.declared.kind.Kind.{Kind}
use Rattle.scripts.specs.declared.verb.Verb.{Verb}
use Rattle.scripts.specs.declared.verb.Verb.TheVariants as verb
use Rattle.numbers.specs.Common.{format_name}
use Rattle.numbers.specs.declared.common.Format.{Format}
use Rattle.scripts.specs.Kinds.{word_count, word_of, NoKind}
use Rattle.scripts.specs.Verbs.{word_of as verb_word, NoVerb}
use Rattle.scripts.specs.Values.{IsNumber}
use Rattle.scripts.specs.declared.complaint.Complaint.{Complaint}
use Rattle.scripts.specs.declared.complaint.Complaint.TheVariants.{UnknownWord, WordCount, Word, UnknownValue, BadFormat, BadLineProgram, BadFlag, BadSession, NoSession, UnknownReference, NotHeld, NoMemory}

abbrev pub text_of : Complaint → List ℕ
text_of UnknownWord = codes "unknown word"
text_of WordCount = codes "a missing or an extra word"
text_of (Word w) = word_text w
text_of UnknownValue = codes "unknown kind of value"
text_of BadFormat = codes "the format is neither 32 nor 64"
text_of BadLineProgram = codes "unknown line program"
text_of BadFlag = codes "a flag is neither 0 nor 1"
text_of BadSession = codes "the byte order is neither little nor big"
text_of NoSession = codes "no session is open"
text_of UnknownReference = codes "a value refers to an entry that is not made"
text_of NotHeld = codes "no reservation of that entry is held"
text_of NoMemory = codes "no memory"

-- no flag: the text says no number, or one that is neither 0 nor 1
abbrev pub NoFlag : Option ℕ → Complaint → Type 0
NoFlag o c = ((o ≡ None) × (c ≡ Word NotANumber)) ⊎ ((n : ℕ) × (o ≡ Some n) × (1 < n) × (c ≡ BadFlag))

-- no name of an entry: the unit is no number of 32 bits, or the entry's number is none
abbrev pub NoEntryName : Option ℕ → Option ℕ → Complaint → Type 0
NoEntryName unit entry c = (w : BadWord) × (c ≡ Word w) × (NoNumber 4294967296 unit w ⊎ ((entry ≡ None) × (w ≡ NotANumber)))

-- a word that is no number, none of the size that is asked for, or no bytes
abbrev pub IsBad : BadWord → List ℕ → Type 0
IsBad NotANumber text = (number_of text ≡ None) ⊎ (signed_of text ≡ None)
IsBad OutOfRange text = (n : ℕ) × (number_of text ≡ Some n) × (256 ≤ n)
IsBad NotBytes text = bytes_named text ≡ None
IsBad NoRoom text = Unit {0}

-- one of some words is bad
abbrev pub HasBad : BadWord → List (List ℕ) → Type 0
HasBad w [] = ⊥
HasBad w (text ∷ texts) = IsBad w text ⊎ HasBad w texts

-- no value of a kind: too few or too many words, a bad one, or no flag
abbrev pub NoValue : Kind → List (List ℕ) → Complaint → Type 0
NoValue kind ws WordCount = length ws ≢ word_count kind
NoValue kind ws (Word w) = HasBad w ws
NoValue kind ws BadFlag = (n : ℕ) × IsNumber ws 0 n × (1 < n)
NoValue kind ws NoMemory = Unit {0}
NoValue kind ws _ = ⊥

-- fewer or more words than a verb has after it, or a value after its kind
abbrev pub WrongCount : Verb → List (List ℕ) → Type 0
WrongCount verb.Unit ws = (length ws ≢ 4) × (length ws ≢ 5)
WrongCount verb.Reserve ws = length ws ≢ 1
WrongCount verb.AddReserved ws = length ws ≢ 4
WrongCount verb.Add ws = length ws ≢ 3
WrongCount verb.Set ws = (length ws < 4) ⊎ ((kind : Kind) × (slice_index_or ws 3 [] ≡ word_of kind) × (length ws ≢ 4 + word_count kind))
WrongCount verb.Delete ws = length ws ≢ 3
WrongCount verb.SetSibling ws = length ws ≢ 3
WrongCount verb.DeleteChild ws = length ws ≢ 3
WrongCount verb.GiveBack ws = length ws ≢ 2
WrongCount verb.Attrs ws = length ws ≢ 2
WrongCount verb.Children ws = length ws ≢ 2
WrongCount verb.Entry ws = length ws ≢ 2

-- no encoding: a bad number, or a format that is neither
abbrev pub NoEncoding : List (List ℕ) → Complaint → Type 0
NoEncoding ws (Word w) = HasBad w ws
NoEncoding ws BadFormat = (x : Format) → format_name x ≢ slice_index_or ws 1 []
NoEncoding ws _ = ⊥

-- no line program that is there: neither empty nor full, or a bad offset
abbrev pub NoOffset : List ℕ → List ℕ → Complaint → Type 0
NoOffset how offset (Word w) = IsBad w offset
NoOffset how offset BadLineProgram = (how ≢ codes "empty") × (how ≢ codes "full")
NoOffset how offset _ = ⊥

-- no line program: neither none where nothing is after it, nor an empty or a full one
abbrev pub NoLine : List (List ℕ) → Type 0
NoLine ws = ((length ws ≡ 4) × (slice_index_or ws 3 [] ≢ codes "none")) ⊎ ((length ws ≡ 5) × (slice_index_or ws 3 [] ≢ codes "empty") × (slice_index_or ws 3 [] ≢ codes "full"))

-- no call of a verb
abbrev pub NoCall : Verb → List (List ℕ) → Complaint → Type 0
NoCall v ws WordCount = WrongCount v ws
NoCall v ws (Word w) = HasBad w ws
NoCall v ws UnknownValue = (v ≡ verb.Set) × NoKind (slice_index_or ws 3 [])
NoCall v ws BadFormat = (v ≡ verb.Unit) × ((x : Format) → format_name x ≢ slice_index_or ws 1 [])
NoCall v ws BadLineProgram = (v ≡ verb.Unit) × NoLine ws
NoCall v ws BadFlag = (n : ℕ) × (1 < n) × (IsNumber ws 2 n ⊎ IsNumber ws 4 n)
NoCall v ws NoMemory = v ≡ verb.Set
NoCall v ws _ = ⊥

-- no call: an unknown verb, or what is no call of it
abbrev pub NotRead : List ℕ → List (List ℕ) → Complaint → Type 0
NotRead name ws UnknownWord = NoVerb name
NotRead name ws e = (v : Verb) × (verb_word v ≡ name) × NoCall v ws e
