use Rattle.std.proofs.Common.{ap, ◌∙◌}
use Rattle.sections.specs.Section.{capped}
use Rattle.sections.proofs.Acts.{out}
use Rattle.layers.proofs.Caps.{capped_offset_at}
use Rattle.layers.proofs.quota.QuotaLinkWriter.write_offset_at.Goals as goal

pub returns : goal.returns
returns g c =
    capped_offset_at c.args.self.now.limit g.L.LinkWriter.relocates c.args.at c.args.val c.args.section c.args.size _
    ∙ ap (out (capped c.args.self.now.limit)) c.write_offset_at.ensures
