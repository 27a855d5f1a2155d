use Rattle.std.proofs.Common.{◌≡◌, ℕ, ◌+◌, ◌-◌, min, false, List, [], length, take, ap, arith}
use Rattle.trees.specs.Lists.{nil}
use Rattle.trees.specs.Model.{Table, new_table}
use Rattle.trees.proofs.Growths.{new_grows}
use Rattle.trees.proofs.Laws.{new_law}
use Rattle.trees.proofs.Empty.{empty_sound, none_held, no_entries, take_min, length_min, length_below}
use Rattle.trees.proofs.table.UnitTable.new.Goals as goal

pub invariant_of-result : goal.invariant_of-result
unfolding nil
invariant_of-result c = record {
  sound = empty_sound (take c.min-n.result c.args.entries.now) (take c.min-k.result c.args.attributes.now) (take c.min-m.result c.args.units.now) (length (take c.min-l.result c.args.pool.now))
      (length_below c.args.units.now 64 c.min-m.result c.min-m.ensures) (length_below c.args.entries.now 65535 c.min-n.result c.min-n.ensures)
      (length_below c.args.attributes.now 65535 c.min-k.result c.min-k.ensures) (length_below c.args.pool.now 1048576 c.min-l.result c.min-l.ensures);
}

pub returns : goal.returns
unfolding nil
returns c =
    let us = c.args.units.now in
    let es = c.args.entries.now in
    let ats = c.args.attributes.now in
    let xs = take c.min-n.result es in
    let as' = take c.min-k.result ats in
    let a = length_min us 64 c.min-m.result c.min-m.ensures in
    let b = length_min es 65535 c.min-n.result c.min-n.ensures in
    let d = length_min ats 65535 c.min-k.result c.min-k.ensures in
    let e = ap length (none_held xs as') in
    let x : length (take c.min-m.result us) - 0 ≡ min (length us) 64 = omega arith in
    let y : length xs - 0 ≡ min (length es) 65535 = omega arith in
    let path : ◌≡◌ {A = Table} _ (new_table c.args.number (length us) (length es) (length ats) c.args.pool.now) = λ i. record {
      number = c.args.number;
      closed = false;
      units = [];
      entries = no_entries xs as' i;
      pool = take_min c.args.pool.now 1048576 c.min-l.result c.min-l.ensures i;
      units_left = x i;
      entries_left = y i;
      attributes_left = left as' (min (length ats) 65535) _ d e i;
    } in
    record { law = new_law _ c.args.number (length us) (length es) (length ats) c.args.pool.now path; growth = new_grows _ c.args.number (length us) (length es) (length ats) c.args.pool.now path; empty = path }
  where
    left : {X : Type 0} (xs : List X) (n k : ℕ) → length xs ≡ n → k ≡ 0 → (length xs - 0) + k ≡ n
    left xs n k p q = omega arith
