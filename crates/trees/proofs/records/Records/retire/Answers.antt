use Rattle.std.proofs.Common.{ℕ, ◌+◌, ◌-◌, eqb, List, length, sym, refl, ap, arith}
use Rattle.trees.specs.declared.records.State.{State}
use Rattle.trees.specs.declared.records.State.TheVariants.{GivenBack}
use Rattle.trees.specs.Model.{left}
use Rattle.trees.specs.Stores.{with_state}
use Rattle.trees.specs.View.{kind}
use Rattle.trees.proofs.Trees.{touched}
use Rattle.trees.proofs.Tables.{same_table}
use Rattle.trees.proofs.records.Records.retire.Goals as goal

pub invariant_of-self : goal.invariant_of-self
invariant_of-self c =
    let s = c.args.self.now in
    let r = touched s.sound
    c.store_state.new.entries c.args.e (with_state GivenBack) (left GivenBack) c.requires.used c.store_state.ensures (λ r. (refl, refl, refl, refl, refl, refl)) (sym (ap (λ (x : State). eqb (kind x) 2) c.requires.waits)) (λ z. absurd (let y = ap kind c.requires.waits in omega arith)) (λ r A C. refl) in
    record { sound = r.0 }

pub returns : goal.returns
returns c =
    let s = c.args.self.now in
    let r = touched s.sound
    c.store_state.new.entries c.args.e (with_state GivenBack) (left GivenBack) c.requires.used c.store_state.ensures (λ r. (refl, refl, refl, refl, refl, refl)) (sym (ap (λ (x : State). eqb (kind x) 2) c.requires.waits)) (λ z. absurd (let y = ap kind c.requires.waits in omega arith)) (λ r A C. refl) in
    record { view = same_table r.1 (ap (λ (l : ℕ). l - s.entry_count) r.2) (ap (λ (x : List ℕ). (length s.attributes.now - s.attribute_count) + length x) r.3) }
