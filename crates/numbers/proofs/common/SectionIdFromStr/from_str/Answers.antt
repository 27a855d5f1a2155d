use Rattle.std.proofs.Common.{sym, subst}
use Rattle.numbers.specs.Common.{IsNamed, section_name}
use Rattle.numbers.proofs.Names.{section_is_named}
use Rattle.numbers.proofs.common.SectionIdFromStr.from_str.Goals as goal

pub returns : goal.returns
returns c =
    subst (IsNamed section_name c.args.name.now) (sym c.ok_or.ensures.value) (section_is_named c.args.name.now c.section_named.result _ c.section_named.ensures)
