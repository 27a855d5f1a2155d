-- The calls that lines say.
use Rattle.std.specs.Prelude.{◌≡◌, ℕ, cond, Some, None, Option, List, [], drop, codes, slice_index_or}
use Rattle.numbers.specs.Common.{format_name}
use Rattle.trees.specs.declared.records.Encoding.{Encoding}
use Rattle.trees.specs.declared.records.LineProgram.{LineProgram}
use Rattle.scripts.specs.declared.call.Edit.{Edit}
use Rattle.scripts.specs.declared.call.Edit.TheVariants as edit
use Rattle.scripts.specs.declared.call.Look.{Look}
use Rattle.scripts.specs.declared.call.Look.TheVariants as look
use Rattle.scripts.specs.declared.call.Call.{Call}
use Rattle.scripts.specs.declared.call.Call.TheVariants as call
use Rattle.scripts.specs.declared.verb.Verb.{Verb}
use Rattle.scripts.specs.declared.verb.Verb.TheVariants as verb
use Rattle.scripts.specs.Kinds.{word_of}
use Rattle.scripts.specs.Values.{IsNumber, IsEntry, bit, value_kind, ValueFrom}

-- the verb of each call
abbrev pub edit_verb : Edit → Verb
edit_verb (edit.Unit x l) = verb.Unit
edit_verb (edit.Reserve u) = verb.Reserve
edit_verb (edit.AddReserved e p tag) = verb.AddReserved
edit_verb (edit.Add p tag) = verb.Add
edit_verb (edit.Set e name v) = verb.Set
edit_verb (edit.Delete e name) = verb.Delete
edit_verb (edit.SetSibling e b) = verb.SetSibling
edit_verb (edit.DeleteChild p c) = verb.DeleteChild
edit_verb (edit.GiveBack e) = verb.GiveBack

abbrev pub look_verb : Look → Verb
look_verb (look.Attrs e) = verb.Attrs
look_verb (look.Children e) = verb.Children
look_verb (look.Entry e) = verb.Entry

abbrev pub call_verb : Call → Verb
call_verb (call.Edit x) = edit_verb x
call_verb (call.Look x) = look_verb x

-- how encodings and line programs are written
abbrev pub EncodingFrom : Encoding → List (List ℕ) → Type 0
EncodingFrom x ws = IsNumber ws 0 x.version × (slice_index_or ws 1 [] ≡ format_name x.format) × IsNumber ws 2 x.address_size

abbrev pub LineFrom : Option LineProgram → List (List ℕ) → Type 0
LineFrom None ws = slice_index_or ws 0 [] ≡ codes "none"
LineFrom (Some x) ws = (slice_index_or ws 0 [] ≡ cond x.empty (codes "empty") (codes "full")) × IsNumber ws 1 x.offset

-- the arguments of each call, as they are written after its verb
abbrev pub EditFrom : Edit → List (List ℕ) → List ℕ → Type 0
EditFrom (edit.Unit x l) ws pool = EncodingFrom x ws × LineFrom l (drop 3 ws)
EditFrom (edit.Reserve u) ws pool = IsNumber ws 0 u
EditFrom (edit.AddReserved e p tag) ws pool = IsEntry ws 0 1 e × IsEntry ws 0 2 p × IsNumber ws 3 tag
EditFrom (edit.Add p tag) ws pool = IsEntry ws 0 1 p × IsNumber ws 2 tag
EditFrom (edit.Set e name v) ws pool = IsEntry ws 0 1 e × IsNumber ws 2 name × (slice_index_or ws 3 [] ≡ word_of (value_kind v)) × ValueFrom v (drop 4 ws) pool
EditFrom (edit.Delete e name) ws pool = IsEntry ws 0 1 e × IsNumber ws 2 name
EditFrom (edit.SetSibling e b) ws pool = IsEntry ws 0 1 e × IsNumber ws 2 (bit b)
EditFrom (edit.DeleteChild p c) ws pool = IsEntry ws 0 1 p × IsEntry ws 0 2 c
EditFrom (edit.GiveBack e) ws pool = IsEntry ws 0 1 e

abbrev pub LookFrom : Look → List (List ℕ) → Type 0
LookFrom (look.Attrs e) ws = IsEntry ws 0 1 e
LookFrom (look.Children e) ws = IsEntry ws 0 1 e
LookFrom (look.Entry e) ws = IsEntry ws 0 1 e

abbrev pub CallFrom : Call → List (List ℕ) → List ℕ → Type 0
CallFrom (call.Edit x) ws pool = EditFrom x ws pool
CallFrom (call.Look x) ws pool = LookFrom x ws
