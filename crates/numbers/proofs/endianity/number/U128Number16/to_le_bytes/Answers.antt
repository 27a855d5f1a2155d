use Rattle.numbers.proofs.Orders.{writes_little}
use Rattle.numbers.proofs.endianity.number.U128Number16.to_le_bytes.Goals as goal

pub returns-clause-bytes : goal.returns-clause-bytes
returns-clause-bytes c = writes_little 16 _ _ c.to_le_bytes.ensures
