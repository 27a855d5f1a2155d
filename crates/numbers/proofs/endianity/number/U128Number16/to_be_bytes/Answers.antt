use Rattle.numbers.proofs.Orders.{writes_big}
use Rattle.numbers.proofs.endianity.number.U128Number16.to_be_bytes.Goals as goal

pub returns-clause-bytes : goal.returns-clause-bytes
returns-clause-bytes c = writes_big 16 _ _ c.to_be_bytes.ensures
