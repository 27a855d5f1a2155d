use Rattle.std.proofs.Common.{ℕ, ◌+◌, ◌-◌, List, length, sym, ap, ◌∙◌}
use Rattle.trees.specs.Lists.{nil}
use Rattle.trees.specs.Model.{Entry}
use Rattle.trees.specs.Moves.{moved_last}
use Rattle.trees.specs.Reorder.{recast}
use Rattle.trees.specs.View.{view}
use Rattle.trees.proofs.Edits.{view_entry}
use Rattle.trees.proofs.Turns.{recast_same}
use Rattle.trees.proofs.Reorders.{lens, prev_len, stays, moved}
use Rattle.trees.proofs.Tables.{same_table}
use Rattle.trees.proofs.records.Records.move_last.Goals as goal

pub returns-then-c-last : goal.returns-then-c-last
unfolding nil
returns-then-c-last c =
    let s = c.args.self.now in
    let q = stays s.sound c.args.c c.args.p c.args.before c.requires.parent c.requires.before c.if-c-last.true in
    let v = view_entry s c.args.p c.requires.parent in
    record { view = sym (ap (recast (view s) c.args.p) (ap (λ (e : Entry). moved_last c.args.c e.children) v ∙ (q ∙ sym (ap (λ (e : Entry). e.children) v))) ∙ recast_same (view s) c.args.p) }

pub put_last-requires : goal.put_last-requires
unfolding nil
put_last-requires c =
    let s = c.args.self.now in
    let k = lens s.sound c.args.c c.args.p c.args.before c.requires.parent c.requires.before in
    let j = prev_len s.sound c.args.c c.args.p c.args.before c.requires.parent c.requires.before in
    record { small = (k.1, (k.0, (k.2, s.sound.entries_fit.1))); before = j }

pub invariant_of-self : goal.invariant_of-self
unfolding nil
invariant_of-self c =
    let s = c.args.self.now in
    record { sound = (moved s.sound c.args.c c.args.p c.args.before c.requires.parent c.requires.before c.if-c-last.false c.put_last.new.entries c.put_last.ensures).0 }

pub returns : goal.returns
unfolding nil
returns c =
    let s = c.args.self.now in
    let r = moved s.sound c.args.c c.args.p c.args.before c.requires.parent c.requires.before c.if-c-last.false c.put_last.new.entries c.put_last.ensures in
    record { view = same_table r.1 (ap (λ (l : ℕ). l - s.entry_count) r.2) (ap (λ (x : List ℕ). (length s.attributes.now - s.attribute_count) + length x) r.3) }
