use Rattle.sections.specs.Section.{offset, udata}
use Rattle.writers.proofs.plain.plain_offset.Goals as goal

pub returns : goal.returns
unfolding offset udata
returns g c = c.write_udata.ensures
