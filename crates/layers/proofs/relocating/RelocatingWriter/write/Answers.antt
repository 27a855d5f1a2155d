use Rattle.std.proofs.Common.{ap, ◌∙◌}
use Rattle.layers.specs.Layers.{relocated}
use Rattle.sections.proofs.Acts.{out}
use Rattle.layers.proofs.Relocates.{relocated_append}
use Rattle.layers.proofs.relocating.RelocatingWriter.write.Goals as goal

pub returns : goal.returns
returns g c = relocated_append c.args.self.now.notes c.args.bytes.now _ ∙ ap (out (relocated c.args.self.now.notes)) c.write.ensures
