use Rattle.std.proofs.Common.{◌≡◌, true, false, eqb, ap, ◌∙◌, arith}
use Rattle.std.proofs.lemmas.Bool.{eq-eqb, ne_eqb}
use Rattle.trees.specs.Model.{Entry}
use Rattle.trees.specs.Reorder.{is_base}
use Rattle.trees.specs.View.{view}
use Rattle.trees.proofs.Edits.{view_entry}
use Rattle.trees.proofs.Turns.{stays_base, moves_other}
use Rattle.trees.proofs.records.Records.settle.Goals as goal

pub bounds-self-c : goal.bounds-self-c
bounds-self-c c = let k = (c.args.self.now.sound.kin_owned (c.args.p, c.args.c, c.requires.before.0)).0 in let z = c.args.self.now.sound.entries_fit in omega arith

pub returns-then-self-c-eq-DW_TAG_BASE_TYPE : goal.returns-then-self-c-eq-DW_TAG_BASE_TYPE
returns-then-self-c-eq-DW_TAG_BASE_TYPE c =
    let s = c.args.self.now in
    let k = (s.sound.kin_owned (c.args.p, c.args.c, c.requires.before.0)).0 in
    let b : is_base (view s) c.args.c ≡ true = ap (λ (x : Entry). eqb x.tag 36) (view_entry s c.args.c k) ∙ eq-eqb _ 36 c.if-self-c-eq-DW_TAG_BASE_TYPE.true in
    let r = stays_base (view s) c.args.p c.args.c c.args.before b in
    record { view = r.0; kept = r.1 }

pub returns : goal.returns
returns c =
    let s = c.args.self.now in
    let k = (s.sound.kin_owned (c.args.p, c.args.c, c.requires.before.0)).0 in
    let b : is_base (view s) c.args.c ≡ false = ap (λ (x : Entry). eqb x.tag 36) (view_entry s c.args.c k) ∙ ne_eqb _ 36 c.if-self-c-eq-DW_TAG_BASE_TYPE.false in
    let r = moves_other (view s) (view c.move_last.new.self) c.args.p c.args.c c.args.before b c.move_last.ensures.view in
    record { view = r.0; kept = r.1 }
