use Rattle.std.specs.Prelude.{ℕ, List, codes}
use Rattle.sections.specs.declared.fault.Fault.{Fault}
use Rattle.sections.specs.declared.fault.Fault.TheVariants.{UnsupportedWordSize, ValueTooLarge, InvalidReference, InvalidAddress, OffsetOutOfBounds, LengthOutOfBounds, SectionFull, NotesFull}

-- the number of each fault
abbrev pub number_of : Fault → ℕ
number_of (UnsupportedWordSize size) = 2
number_of ValueTooLarge = 3
number_of InvalidReference = 5
number_of InvalidAddress = 6
number_of OffsetOutOfBounds = 7
number_of LengthOutOfBounds = 8
number_of SectionFull = 17
number_of NotesFull = 18

-- what each fault says
abbrev pub text_of : Fault → List ℕ
text_of (UnsupportedWordSize size) = codes "a word of this size is not supported"
text_of ValueTooLarge = codes "the value is too large for its size"
text_of InvalidReference = codes "the reference is not valid"
text_of InvalidAddress = codes "the address is not valid"
text_of OffsetOutOfBounds = codes "the offset is past the end of the section"
text_of LengthOutOfBounds = codes "the bytes would pass the end of the section"
text_of SectionFull = codes "the section is full"
text_of NotesFull = codes "no note is left"
