-- What an order makes of a table.
use Rattle.trees.specs.Model.{Table, add_unit, reserve, add_reserved, add, give_back, delete_child, set_sibling, set_attribute, delete_attribute}
use Rattle.trees.specs.History.{Act, Act as act}
use Rattle.trees.specs.Growth.{Deed, Deed.unit_added, Deed.reserved, Deed.reserved_added, Deed.entry_added, Deed.gave_back, Deed.child_deleted, Deed.sibling_set, Deed.attribute_set, Deed.attribute_deleted}
use Rattle.sessions.specs.declared.order.Order.{Order}
use Rattle.sessions.specs.declared.order.Order.TheVariants as order
use Rattle.sessions.specs.declared.order.Answer.{Answer}
use Rattle.sessions.specs.declared.order.Answer.TheVariants as answer

-- an answer of the table, as an answer to an order
abbrev pub told : {X : Type 0} → (X → Answer) → Table × X → Table × Answer
told f o = (o.0, f o.1)

-- the table after an order, and the answer
abbrev pub carried : Table → Order → Table × Answer
carried t (order.Unit encoding line) = told answer.Unit (add_unit t encoding line)
carried t (order.Reserve u) = told answer.Reserved (reserve t u)
carried t (order.AddReserved r p tag) = told answer.ReservedAdded (add_reserved t r p tag)
carried t (order.Add p tag) = told answer.Added (add t p tag)
carried t (order.Set i name v) = told answer.Edited (set_attribute t i name v)
carried t (order.Delete i name) = told answer.Edited (delete_attribute t i name)
carried t (order.SetSibling i b) = told answer.Edited (set_sibling t i b)
carried t (order.DeleteChild p c) = told answer.ChildDeleted (delete_child t p c)
carried t (order.GiveBack r) = told answer.GaveBack (give_back t r)

-- the order with its answer, as a step of the history of states
abbrev pub act_of : Table → Order → Act
act_of t (order.Unit encoding line) = act.unit_added (add_unit t encoding line).1
act_of t (order.Reserve u) = act.reserved u (reserve t u).1
act_of t (order.AddReserved r p tag) = act.reserved_added r p (add_reserved t r p tag).1
act_of t (order.Add p tag) = act.entry_added p (add t p tag).1
act_of t (order.Set i name v) = act.edited (set_attribute t i name v).1
act_of t (order.Delete i name) = act.edited (delete_attribute t i name).1
act_of t (order.SetSibling i b) = act.edited (set_sibling t i b).1
act_of t (order.DeleteChild p c) = act.child_deleted p c (delete_child t p c).1
act_of t (order.GiveBack r) = act.gave_back r (give_back t r).1

-- the same with all its arguments, as a step of the history of the trees
abbrev pub deed_of : Table → Order → Deed
deed_of t (order.Unit encoding line) = unit_added encoding line (add_unit t encoding line).1
deed_of t (order.Reserve u) = reserved u (reserve t u).1
deed_of t (order.AddReserved r p tag) = reserved_added r p tag (add_reserved t r p tag).1
deed_of t (order.Add p tag) = entry_added p tag (add t p tag).1
deed_of t (order.Set i name v) = attribute_set i name v (set_attribute t i name v).1
deed_of t (order.Delete i name) = attribute_deleted i name (delete_attribute t i name).1
deed_of t (order.SetSibling i b) = sibling_set i b (set_sibling t i b).1
deed_of t (order.DeleteChild p c) = child_deleted p c (delete_child t p c).1
deed_of t (order.GiveBack r) = gave_back r (give_back t r).1
