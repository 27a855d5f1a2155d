use Rattle.std.proofs.Common.{refl}
use Rattle.sections.specs.Section.{reference}
use Rattle.writers.proofs.page.PageWriterLinkWriter.write_reference.Goals as goal

pub returns : goal.returns
unfolding reference
returns g c = refl
