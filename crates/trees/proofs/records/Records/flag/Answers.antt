use Rattle.std.proofs.Common.{ℕ, ◌+◌, ◌-◌, List, length, refl, ap}
use Rattle.trees.specs.Model.{flagged}
use Rattle.trees.specs.Stores.{with_sibling}
use Rattle.trees.proofs.Trees.{touched}
use Rattle.trees.proofs.Tables.{same_table}
use Rattle.trees.proofs.records.Records.flag.Goals as goal

pub invariant_of-self : goal.invariant_of-self
invariant_of-self c =
    let s = c.args.self.now in
    record {
      sound = (touched s.sound
          c.store_flag.new.entries c.args.e (with_sibling c.args.sibling) (flagged c.args.sibling) c.requires.used c.store_flag.ensures (λ r. (refl, refl, refl, refl, refl, refl)) refl (λ z. z) (λ r A C. refl)).0;
    }

pub returns : goal.returns
returns c =
    let s = c.args.self.now in
    let r = touched s.sound
    c.store_flag.new.entries c.args.e (with_sibling c.args.sibling) (flagged c.args.sibling) c.requires.used c.store_flag.ensures (λ r. (refl, refl, refl, refl, refl, refl)) refl (λ z. z) (λ r A C. refl) in
    record { view = same_table r.1 (ap (λ (l : ℕ). l - s.entry_count) r.2) (ap (λ (x : List ℕ). (length s.attributes.now - s.attribute_count) + length x) r.3) }
