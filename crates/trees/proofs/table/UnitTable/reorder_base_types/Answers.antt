use Rattle.std.proofs.Common.{◌≡◌, ℕ, ◌<◌, true, false, length, get_or, sym, refl, ap, ◌∙◌, subst, arith}
use Rattle.std.proofs.lemmas.Bool.{cond-true, cond-false, true≢false}
use Rattle.trees.specs.declared.records.UnitRecord.{UnitRecord}
use Rattle.trees.specs.Model.{no_unit}
use Rattle.trees.specs.Growth.{Deed.bases_moved}
use Rattle.trees.specs.View.{view}
use Rattle.trees.specs.Reach.{root_in}
use Rattle.trees.proofs.Edits.{known_unit, view_unit, view_count}
use Rattle.trees.proofs.Places.{lists_of}
use Rattle.trees.proofs.Growths.{Grew, grows, same}
use Rattle.trees.proofs.Turns.{bases_law, bases_grew, reordered_as}
use Rattle.trees.proofs.table.UnitTable.reorder_base_types.Goals as goal

pub returns-then-not-knows_unit : goal.returns-then-not-knows_unit
returns-then-not-knows_unit c = record { outcome = sym (cond-false _ _ _ (sym c.knows_unit.ensures ∙ c.if-not-knows_unit.true)); declined = λ _. refl; law = λ h S. S; growth = grows (view c.args.self.now.records) (view c.args.self.now.records) (bases_moved (root_in (view c.args.self.now.records) c.args.unit) false) (same (view c.args.self.now.records) (bases_moved _ false) refl refl) }

pub bases_first-requires : goal.bases_first-requires
bases_first-requires c =
    let t = c.args.self.now in
    record { parent = (t.records.sound.rooted c.args.unit.unit (known_unit t.records c.args.unit (sym c.knows_unit.ensures ∙ c.if-not-knows_unit.false))).0 }

pub returns : goal.returns
returns c =
    let t = c.args.self.now in
    let v = view t.records in
    let q = sym c.knows_unit.ensures ∙ c.if-not-knows_unit.false in
    let h = known_unit t.records c.args.unit q in
    let root = (get_or t.records.units.now c.args.unit.unit no_unit).root in
    let used : root < length v.entries = (let a = (t.records.sound.rooted c.args.unit.unit h).0 in let z = view_count t.records in omega arith) in
    let top : root_in v c.args.unit ≡ root = cond-true _ _ _ q ∙ ap (λ (u : UnitRecord). u.root) (view_unit t.records c.args.unit.unit h) in
    record {
      outcome = reordered_as v (view c.bases_first.new.self) c.args.unit (get_or t.records.units.now c.args.unit.unit no_unit) q (view_unit t.records c.args.unit.unit h) c.bases_first.ensures.view;
      declined = λ e. absurd (true≢false e);
      law = bases_law v (view c.bases_first.new.self) root used c.bases_first.ensures.view (lists_of c.bases_first.new.self);
      growth = grows v (view c.bases_first.new.self) (bases_moved (root_in v c.args.unit) true) (subst (λ (e : ℕ). Grew v (view c.bases_first.new.self) (bases_moved e true)) (sym top) (bases_grew v (view c.bases_first.new.self) root used c.bases_first.ensures.view));
    }
