use Rattle.std.proofs.Common.{sym, ap, ◌∙◌, arith}
use Rattle.trees.specs.Model.{Entry}
use Rattle.trees.proofs.Edits.{known, view_entry}
use Rattle.trees.proofs.table.UnitTable.entry_record.Goals as goal

pub bounds-self-id : goal.bounds-self-id
bounds-self-id c = let t = c.args.self.now in let k = (known t.records c.args.id (sym c.knows.ensures ∙ c.if-not-knows.false)).used in let z = t.records.sound.entries_fit in omega arith

pub returns : goal.returns
returns c =
    let t = c.args.self.now in
    let q = sym c.knows.ensures ∙ c.if-not-knows.false in
    let v = sym (view_entry t.records c.args.id.entry (known t.records c.args.id q).used) in
    (q, ap (λ (x : Entry). x.tag) v, ap (λ (x : Entry). x.sibling) v, ap (λ (x : Entry). x.note) v)
