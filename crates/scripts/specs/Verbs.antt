use Rattle.std.specs.Prelude.{ℕ, ◌≢◌, List, Contains, refl, codes}
use Rattle.std.proofs.Common.{lit<}
use Rattle.scripts.specs.declared.verb.Verb.{Verb}
use Rattle.scripts.specs.declared.verb.Verb.TheVariants as verb
use Rattle.scripts.specs.declared.verb.TheConstants.{VERBS}

-- how each is written
abbrev pub word_of : Verb → List ℕ
word_of verb.Unit = codes "unit"
word_of verb.Reserve = codes "reserve"
word_of verb.AddReserved = codes "add_reserved"
word_of verb.Add = codes "add"
word_of verb.Set = codes "set"
word_of verb.Delete = codes "delete"
word_of verb.SetSibling = codes "set_sibling"
word_of verb.DeleteChild = codes "delete_child"
word_of verb.GiveBack = codes "give_back"
word_of verb.Attrs = codes "attrs"
word_of verb.Children = codes "children"
word_of verb.Entry = codes "entry"

-- each stands in the list of all
pub in_all : (v : Verb) → Contains VERBS v
in_all verb.Unit = (0, lit< tt, refl)
in_all verb.Reserve = (1, lit< tt, refl)
in_all verb.AddReserved = (2, lit< tt, refl)
in_all verb.Add = (3, lit< tt, refl)
in_all verb.Set = (4, lit< tt, refl)
in_all verb.Delete = (5, lit< tt, refl)
in_all verb.SetSibling = (6, lit< tt, refl)
in_all verb.DeleteChild = (7, lit< tt, refl)
in_all verb.GiveBack = (8, lit< tt, refl)
in_all verb.Attrs = (9, lit< tt, refl)
in_all verb.Children = (10, lit< tt, refl)
in_all verb.Entry = (11, lit< tt, refl)

-- a word that is no verb's
abbrev pub NoVerb : List ℕ → Type 0
NoVerb w = (v : Verb) → word_of v ≢ w
