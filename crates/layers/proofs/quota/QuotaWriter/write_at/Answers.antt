use Rattle.std.proofs.Common.{ap, ◌∙◌}
use Rattle.sections.specs.Section.{capped}
use Rattle.sections.proofs.Acts.{out}
use Rattle.layers.proofs.Caps.{capped_place}
use Rattle.layers.proofs.quota.QuotaWriter.write_at.Goals as goal

pub returns : goal.returns
returns g c =
    capped_place c.args.self.now.limit c.args.offset c.args.bytes.now _ ∙ ap (out (capped c.args.self.now.limit)) c.write_at.ensures
