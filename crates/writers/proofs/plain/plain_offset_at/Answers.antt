use Rattle.sections.specs.Section.{offset_at, udata_at}
use Rattle.writers.proofs.plain.plain_offset_at.Goals as goal

pub returns : goal.returns
unfolding offset_at udata_at
returns g c = c.write_udata_at.ensures
