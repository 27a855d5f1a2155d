use Rattle.std.proofs.Common.{refl}
use Rattle.sections.specs.Section.{reference}
use Rattle.writers.proofs.slice.SliceWriterLinkWriter.write_reference.Goals as goal

pub returns : goal.returns
unfolding reference
returns c = refl
