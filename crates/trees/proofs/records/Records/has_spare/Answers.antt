use Rattle.std.proofs.Common.{◌≡◌, ℕ, ◌+◌, ◌-◌, not, eqb, ltb, length, sym, ap, ◌∙◌, inl, inr, arith}
use Rattle.trees.specs.Lists.{nil, kids}
use Rattle.trees.specs.View.{holdings}
use Rattle.std.proofs.lemmas.Bool.{cases_lt, ne_eqb, eq-eqb, lt-ltb, le-ltb}
use Rattle.trees.proofs.Holdings.{free_list, none_free}
use Rattle.trees.proofs.records.Records.has_spare.Goals as goal

pub returns-then-self : goal.returns-then-self
unfolding nil
returns-then-self c =
    let s = c.args.self.now in
    let z = ap length (free_list s.sound c.if-self.true) in
    ap not (ne_eqb s.free 65535 c.if-self.true ∙ sym (ne_eqb _ 0 (λ q. omega arith)))

pub returns-else-self : goal.returns-else-self
unfolding nil
returns-else-self c =
    let s = c.args.self.now in
    let z = ap length (none_free s.sound c.if-self.false) in
    room (length s.attributes.now) s.attribute_count (length (kids (holdings s.entries.now s.entry_count s.attributes.now s.free) (length s.attributes.now) nil)) z
  where
    room : (a k l : ℕ) → l ≡ 0 → ltb k a ≡ not (eqb ((a - k) + l) 0)
    room a k l e = elim (cases_lt k a) [
      | inl h ↦ lt-ltb k a h ∙ sym (ap not (ne_eqb ((a - k) + l) 0 (λ q. omega arith)))
      | inr h ↦ le-ltb k a h ∙ sym (ap not (eq-eqb ((a - k) + l) 0 (omega arith)))
    ]
