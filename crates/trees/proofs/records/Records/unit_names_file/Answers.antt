use Rattle.std.proofs.Common.{◌≡◌, ◌<◌, eqb, length, sym, ap, ◌∙◌, arith}
use Rattle.std.proofs.lemmas.List.{drop_all, get_or-take, length-take-le}
use Rattle.std.proofs.lemmas.Bool.{eq-eqb, ne_eqb, and_from, and_left, and_right}
use Rattle.trees.specs.declared.records.EntryRecord.{EntryRecord}
use Rattle.trees.specs.Counts.{file_in}
use Rattle.trees.specs.Model.{Entry, entry_of}
use Rattle.trees.specs.View.{view, blank}
use Rattle.trees.proofs.Edits.{view_count, view_entry}
use Rattle.trees.proofs.Counting.{unit_file_here, unit_file_later}
use Rattle.trees.proofs.records.Records.unit_names_file.Goals as goal
use Rattle.trees.proofs.records.Records.unit_names_file.Goals.{else-entry-unit-via-then-entry-unit+else-entry_names_file, else-entry-unit-via-else-entry-unit}

pub returns-then-entry_names_file : goal.returns-then-entry_names_file
returns-then-entry_names_file c =
    let s = c.args.self.now in
    let n = view_count s in
    let t = length-take-le s.entry_count s.entries.now c.args.self.now.sound.entries_fit.0 in
    let e = c.loop-e.e in
    let l : e < length (view s).entries = omega arith in
    let u : (entry_of (view s) e).unit ≡ c.args.unit = ap (λ (x : Entry). x.unit) (view_entry s e (omega arith)) ∙ (sym (ap (λ (r : EntryRecord). r.unit) (get_or-take s.entry_count s.entries.now e blank (omega arith))) ∙ c.if-entry-unit.true) in
    sym (unit_file_here c.args.unit (view s).entries e l (and_from _ _ (eq-eqb (entry_of (view s) e).unit c.args.unit u) (sym c.if-entry_names_file.ensures))) ∙ c.loop-e.invariant

pub loop-e-preserved : goal.loop-e-preserved
loop-e-preserved c =
    let s = c.args.self.now in
    let n = view_count s in
    let t = length-take-le s.entry_count s.entries.now c.args.self.now.sound.entries_fit.0 in
    let e = c.loop-e.e in
    let l : e < length (view s).entries = omega arith in
    let v = view_entry s e (omega arith) in
    elim c.else-entry-unit.branch [
      | else-entry-unit-via-then-entry-unit+else-entry_names_file w ↦ unit_file_later c.args.unit (view s).entries e l (and_right (eqb (entry_of (view s) e).unit c.args.unit) _ (sym w.entry_names_file.ensures ∙ w.if-entry_names_file.false)) ∙ c.loop-e.invariant
      | else-entry-unit-via-else-entry-unit w ↦ unit_file_later c.args.unit (view s).entries e l (and_left _ _ (ne_eqb (entry_of (view s) e).unit c.args.unit (λ q. w.if-entry-unit.false (ap (λ (r : EntryRecord). r.unit) (get_or-take s.entry_count s.entries.now e blank (omega arith)) ∙ (sym (ap (λ (x : Entry). x.unit) v) ∙ q))))) ∙ c.loop-e.invariant
    ]

pub returns : goal.returns
returns c =
    let s = c.args.self.now in
    let n = view_count s in
    let t = length-take-le s.entry_count s.entries.now c.args.self.now.sound.entries_fit.0 in
    sym (ap (file_in c.args.unit) (drop_all _ (view s).entries (omega arith))) ∙ c.loop-e.invariant
