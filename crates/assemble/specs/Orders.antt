use Rattle.std.specs.Prelude.{ℕ, Bool, List, [], ◌∷◌, ◌++◌, length, Some, None, Option, Ok, Err, Result, slice_index_or, slice_set, vec_items}
use Rattle.numbers.specs.declared.common.Format.{Format}
use Rattle.sections.specs.declared.fault.Fault.{Fault}
use Rattle.sections.specs.declared.token.InitialLengthOffset.{InitialLengthOffset}
use Rattle.sections.specs.Section.{Section}
use Rattle.sections.specs.Lengths.{opened, length_at}
use Rattle.assemble.specs.declared.answer.Answer.{Answer}
use Rattle.assemble.specs.declared.answer.Answer.TheVariants.{Done, Opened, GivenUp}
use Rattle.assemble.specs.declared.answer.Refusal.{Refusal}
use Rattle.assemble.specs.declared.answer.Refusal.TheVariants as refusal
use Rattle.assemble.specs.declared.bench.Bench.{Bench}
use Rattle.assemble.specs.declared.call.Order.{Order}
use Rattle.assemble.specs.declared.call.Order.TheVariants.{Run, OpenLength, FillLength, GiveUp}
use Rattle.assemble.specs.declared.complaint.Complaint.{Complaint}
use Rattle.assemble.specs.declared.line.Entry.{Entry}
use Rattle.assemble.specs.declared.line.Line.{Line}
use Rattle.assemble.specs.declared.line.Line.TheVariants as line
use Rattle.assemble.specs.Acts.{act_of}

-- an opened length, until it is filled or given up
abbrev pub Length : Type 0
Length = Option InitialLengthOffset

-- a section and its opened lengths
abbrev pub State : Type 0
State = Section × List Length

-- what stands on a bench whose writer means a section
abbrev pub state_of : {L : Type 0} → (L → Section) → Bench L → State
state_of meaning bench = (meaning bench.writer, vec_items bench.lengths)

-- what an order leaves, and the answer
abbrev pub Outcome : Type 0
Outcome = State × Result Answer Refusal

abbrev pub answer_of : Result Unit Fault → Result Answer Refusal
answer_of (Ok u) = Ok Done
answer_of (Err e) = Err (refusal.Fault e)

-- a call leaves the opened lengths as they are
abbrev pub answered : List Length → Section × Result Unit Fault → Outcome
answered xs o = ((o.0, xs), answer_of o.1)

-- an opened length comes last; a refused one does not come
abbrev pub kept : List Length → Section × Result InitialLengthOffset Fault → Outcome
kept xs o = elim o.1 [ Ok x ↦ ((o.0, xs ++ Some x ∷ []), Ok (Opened (length xs) x.offset)) | Err e ↦ ((o.0, xs), Err (refusal.Fault e)) ]

abbrev pub opening : Format → State → Outcome
opening format p = kept p.1 (opened format p.0)

-- an open length is filled, and is none from then on; else nothing changes
abbrev pub filled : Length → ℕ → ℕ → State → Outcome
filled (Some x) i n p = answered (slice_set p.1 i None) (length_at x n p.0)
filled None i n p = (p, Err refusal.NotOpen)

abbrev pub filling : ℕ → ℕ → State → Outcome
filling i n p = filled (slice_index_or p.1 i None) i n p

-- the same without a write
abbrev pub left : Length → ℕ → State → Outcome
left (Some x) i p = ((p.0, slice_set p.1 i None), Ok (GivenUp x.offset))
left None i p = (p, Err refusal.NotOpen)

abbrev pub giving_up : ℕ → State → Outcome
giving_up i p = left (slice_index_or p.1 i None) i p

-- what an order does
abbrev pub performing : Bool → Order → State → Outcome
performing relocates (Run c) p = answered p.1 (act_of relocates c p.0)
performing relocates (OpenLength format) p = opening format p
performing relocates (FillLength i n) p = filling i n p
performing relocates (GiveUp i) p = giving_up i p

-- what a line does: an order is carried out, and any other line changes nothing
abbrev pub line_done : Bool → Result Line Complaint → State → State
line_done relocates (Ok line.Empty) p = p
line_done relocates (Ok (line.Pile x)) p = p
line_done relocates (Ok (line.Order o)) p = (performing relocates o p).0
line_done relocates (Err x) p = p

-- what lines do, one after the other
abbrev pub lines_done : Bool → List Entry → State → State
lines_done relocates [] p = p
lines_done relocates (e ∷ es) p = lines_done relocates es (line_done relocates e.line p)
