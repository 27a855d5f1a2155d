use Rattle.std.proofs.Common.{ap, sym, ◌∙◌, arith}
use Rattle.std.proofs.lemmas.List.{length-set}
use Rattle.sections.specs.Notes.{noted}
use Rattle.layers.proofs.Positions.{put_over, put_new, free, apart_noted}
use Rattle.layers.proofs.notes.Notes.put.Goals as goal

pub invariant_of-self : goal.invariant_of-self
invariant_of-self c =
    let t = c.self.inside in
    let put = put_over c.args.note t.used t.list c.in-Some.i (omega arith) (rw c.self.view_is (sym c.position.ensures ∙ c.in-Some.is)) in
    (c.self.invariant.0, length-set t.list _ _ ∙ c.self.invariant.1, apart_noted c.args.note _ _ put c.self.invariant.2)

pub returns-in-Some : goal.returns-in-Some
returns-in-Some c =
    let t = c.self.inside in
    let put = put_over c.args.note t.used t.list c.in-Some.i (omega arith) (rw c.self.view_is (sym c.position.ensures ∙ c.in-Some.is)) in
    record { list = put ∙ ap (noted c.args.note) c.self.view_is; apart = apart_noted c.args.note _ _ put c.self.invariant.2 }

pub bounds-self-inside-self-inside : goal.bounds-self-inside-self-inside
bounds-self-inside-self-inside c =
    let t = c.self.inside in
    free c.args.note.place t.used t.list (omega arith) (rw c.self.view_is (sym c.position.ensures ∙ c.in-None.is)) (rw c.self.view_is c.requires)

pub invariant_of-self-in-None : goal.invariant_of-self-in-None
invariant_of-self-in-None c =
    let t = c.self.inside in
    let none = rw (← c.self.view_is) at (sym c.position.ensures ∙ c.in-None.is) in
    let room = free c.args.note.place t.used t.list (omega arith) none (rw c.self.view_is c.requires) in
    (omega arith, length-set t.list _ _ ∙ c.self.invariant.1, apart_noted c.args.note _ _ (put_new c.args.note t.used t.list (omega arith) none) c.self.invariant.2)

pub returns-in-None : goal.returns-in-None
returns-in-None c =
    let t = c.self.inside in
    let none = rw (← c.self.view_is) at (sym c.position.ensures ∙ c.in-None.is) in
    let room = free c.args.note.place t.used t.list (omega arith) none (rw c.self.view_is c.requires) in
    let put = put_new c.args.note t.used t.list (omega arith) none in
    record { list = put ∙ ap (noted c.args.note) c.self.view_is; apart = apart_noted c.args.note _ _ put c.self.invariant.2 }
