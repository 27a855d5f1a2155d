use Rattle.std.proofs.Common.{◌<◌, true, length, sym, refl, ap, ◌∙◌, arith}
use Rattle.std.proofs.lemmas.Bool.{cond-true, cond-false, true≢false}
use Rattle.trees.specs.Model.{Table, noted}
use Rattle.trees.specs.View.{view}
use Rattle.trees.proofs.Edits.{known, view_count}
use Rattle.trees.proofs.Growths.{kept_entry}
use Rattle.trees.proofs.Laws.{still_entry}
use Rattle.trees.proofs.Places.{lists_of}
use Rattle.trees.proofs.table.UnitTable.set_note.Goals as goal

pub returns-then-not-knows : goal.returns-then-not-knows
returns-then-not-knows c = record { outcome = sym (cond-false _ _ _ (sym c.knows.ensures ∙ c.if-not-knows.true)); declined = λ _. refl; law = λ h S. S; growth = λ h S. S }

pub jot-requires : goal.jot-requires
jot-requires c = let t = c.args.self.now in record { used = (known t.records c.args.id (sym c.knows.ensures ∙ c.if-not-knows.false)).used }

pub returns : goal.returns
returns c =
    let t = c.args.self.now in
    let q = sym c.knows.ensures ∙ c.if-not-knows.false in
    let k = (known t.records c.args.id q).used in
    let l : c.args.id.entry < length (view t.records).entries = (let z = view_count t.records in omega arith) in
    record {
      outcome = ap (λ (v : Table). (v, true)) c.jot.ensures.view ∙ sym (cond-true _ _ _ q);
      declined = λ e. absurd (true≢false e);
      law = still_entry (view t.records) (view c.jot.new.self) c.args.id.entry (noted c.args.note) l (ap (λ (v : Table). v.entries) c.jot.ensures.view) refl (lists_of c.jot.new.self);
      growth = kept_entry (view t.records) (view c.jot.new.self) c.args.id.entry (noted c.args.note) l (ap (λ (v : Table). v.entries) c.jot.ensures.view) (λ x. refl);
    }
