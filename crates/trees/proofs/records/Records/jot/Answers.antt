use Rattle.std.proofs.Common.{ℕ, ◌+◌, ◌-◌, List, length, refl, ap}
use Rattle.trees.specs.Model.{noted}
use Rattle.trees.specs.Stores.{jotted}
use Rattle.trees.proofs.Trees.{touched}
use Rattle.trees.proofs.Tables.{same_table}
use Rattle.trees.proofs.records.Records.jot.Goals as goal

pub invariant_of-self : goal.invariant_of-self
invariant_of-self c =
    let s = c.args.self.now in
    let r = touched s.sound
    c.store_note.new.entries c.args.e (jotted c.args.note) (noted c.args.note) c.requires.used c.store_note.ensures (λ r. (refl, refl, refl, refl, refl, refl)) refl (λ z. z) (λ r A C. refl) in
    record { sound = r.0 }

pub returns : goal.returns
returns c =
    let s = c.args.self.now in
    let r = touched s.sound
    c.store_note.new.entries c.args.e (jotted c.args.note) (noted c.args.note) c.requires.used c.store_note.ensures (λ r. (refl, refl, refl, refl, refl, refl)) refl (λ z. z) (λ r A C. refl) in
    record { view = same_table r.1 (ap (λ (l : ℕ). l - s.entry_count) r.2) (ap (λ (x : List ℕ). (length s.attributes.now - s.attribute_count) + length x) r.3) }
