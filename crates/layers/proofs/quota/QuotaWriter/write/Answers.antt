use Rattle.std.proofs.Common.{arith}
use Rattle.sections.proofs.Acts.{append_full}
use Rattle.layers.proofs.quota.QuotaWriter.write.Goals as goal

pub returns-then-left-bytes : goal.returns-then-left-bytes
returns-then-left-bytes g c = append_full c.args.bytes.now _ (omega arith)
