use Rattle.std.proofs.Common.{false}
use Rattle.sections.proofs.Words.{address_constant, address_refused}
use Rattle.writers.proofs.plain.plain_address.Goals as goal

pub returns-in-Constant : goal.returns-in-Constant
returns-in-Constant g c = address_constant false c.args.addr c.in-Constant.val c.args.size _ _ _ c.in-Constant.is c.write_udata.ensures

pub returns-in-Symbol : goal.returns-in-Symbol
returns-in-Symbol g c = address_refused c.args.addr c.in-Symbol.symbol c.in-Symbol.addend c.args.size _ c.in-Symbol.is
