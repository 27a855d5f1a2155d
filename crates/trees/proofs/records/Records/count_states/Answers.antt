use Rattle.std.proofs.Common.{take, sym, ap, ◌∙◌, subst, arith}
use Rattle.std.proofs.lemmas.List.{take_all, get_or-take, length-take-le}
use Rattle.trees.specs.declared.records.EntryRecord.{EntryRecord}
use Rattle.trees.specs.declared.records.Counts.{Counts}
use Rattle.trees.specs.Counts.{counts_in, tallied, Countable}
use Rattle.trees.specs.View.{view, blank}
use Rattle.trees.proofs.Edits.{view_count, view_state}
use Rattle.trees.proofs.Views.{st}
use Rattle.trees.proofs.Counting.{counts_more, countable}
use Rattle.trees.proofs.records.Records.count_states.Goals as goal

pub tally-counts-requires : goal.tally-counts-requires
tally-counts-requires c =
    let s = c.args.self.now in
    let n = view_count s in
    let y = c.args.self.now.sound.entries_fit in
    let t = length-take-le s.entry_count s.entries.now y.0 in
    subst Countable (sym c.loop-entry.invariant) (countable (view s).entries c.loop-entry.entry-index (omega arith) (omega arith))

pub loop-entry-preserved : goal.loop-entry-preserved
loop-entry-preserved c =
    let s = c.args.self.now in
    let n = view_count s in
    let t = length-take-le s.entry_count s.entries.now c.args.self.now.sound.entries_fit.0 in
    let e = c.loop-entry.entry-index in
    c.tally-counts.ensures ∙ (ap (λ (r : EntryRecord). tallied c.loop-entry.counts r.state) (get_or-take s.entry_count s.entries.now e blank (omega arith)) ∙ (ap (λ (x : Counts). tallied x (st s.entries.now e)) c.loop-entry.invariant ∙ (ap (tallied (counts_in (take e (view s).entries))) (sym (view_state s e (omega arith))) ∙ sym (counts_more (view s).entries e (omega arith)))))

pub returns : goal.returns
returns c =
    let s = c.args.self.now in
    let n = view_count s in
    let t = length-take-le s.entry_count s.entries.now c.args.self.now.sound.entries_fit.0 in
    c.loop-entry.invariant ∙ ap counts_in (take_all _ (view s).entries (omega arith))
