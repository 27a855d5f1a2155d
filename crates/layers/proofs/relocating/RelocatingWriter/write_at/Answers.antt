use Rattle.std.proofs.Common.{ap, ◌∙◌}
use Rattle.layers.specs.Layers.{relocated}
use Rattle.sections.proofs.Acts.{out}
use Rattle.layers.proofs.Relocates.{relocated_place}
use Rattle.layers.proofs.relocating.RelocatingWriter.write_at.Goals as goal

pub returns : goal.returns
returns g c =
    relocated_place c.args.self.now.notes c.args.offset c.args.bytes.now _
    ∙ ap (out (relocated c.args.self.now.notes)) c.write_at.ensures
