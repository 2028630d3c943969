use Rattle.std.proofs.Common.{◌≡◌, ℕ, Result, Ok, sym, ap, subst, ◌∙◌}
use Rattle.loaded_texts.specs.Changing.{ChangesTo, IsMetIn, edit_met}
use Rattle.loaded_texts.specs.declared.changing.Changed.{Changed}
use Rattle.walked_edits.specs.declared.fault.WalkFault.{WalkFault}
use Rattle.walked_texts.specs.Making.{Answers}
use Rattle.live_journal.proofs.Placing.{change_reach, changed_comes}
use Rattle.live_journal.proofs.Trying.{cause_here, walk_asks, walk_tried}
use Rattle.live_journal.proofs.changing.walk_inside.Goals as goal

pub walked_change-requires-clause-loaded : goal.walked_change-requires-clause-loaded
walked_change-requires-clause-loaded g c = rw (c.inside_of-inside.ensures.year, c.inside_of-inside.ensures.text) c.requires.loaded

pub walked_change-requires-clause-met : goal.walked_change-requires-clause-met
walked_change-requires-clause-met g c =
    rw (c.inside_of-inside.ensures.year, c.inside_of-inside.ensures.text, c.inside_of-inside.ensures.bytes, c.inside_of-inside.ensures.new, c.inside_of-inside.ensures.number) c.requires.met

pub loaded_after-requires-clause-editing : goal.loaded_after-requires-clause-editing
loaded_after-requires-clause-editing g c = c.requires.editing

pub loaded_after-requires-clause-unclosed : goal.loaded_after-requires-clause-unclosed
loaded_after-requires-clause-unclosed g c = c.requires.unclosed

pub loaded_after-requires-clause-cause : goal.loaded_after-requires-clause-cause
loaded_after-requires-clause-cause g c =
    let e = c.args.editing.now in
    let l = c.args.loaded.now in
    let i = c.inside_of-inside.result in
    let answers = subst (λ (r : Result Changed WalkFault). Answers (edit_met l.items i.number c.args.met) (ChangesTo i.year i.text.now i.bytes.now i.new.now) r c.args.steps.now c.walked_change.new.steps) c.in-Err.is c.walked_change.ensures.answers in
    cause_here e (edit_met l.items c.args.number c.args.met) (change_reach e c.args.number l c.args.met c.requires.editing c.requires.change c.requires.loaded c.requires.met) c.in-Err.fault
    (rw (← c.inside_of-inside.ensures.number) answers.load)

pub returns-in-Ok-clause-comes : goal.returns-in-Ok-clause-comes
returns-in-Ok-clause-comes g c = λ before read.
    let e = c.args.editing.now in
    let l = c.args.loaded.now in
    let i = c.inside_of-inside.result in
    let inside = c.inside_of-inside.ensures in
    let reach = change_reach e c.args.number l c.args.met c.requires.editing c.requires.change c.requires.loaded c.requires.met in
    let answers = subst (λ (r : Result Changed WalkFault). Answers (edit_met l.items i.number c.args.met) (ChangesTo i.year i.text.now i.bytes.now i.new.now) r c.args.steps.now c.walked_change.new.steps) c.in-Ok.is c.walked_change.ensures.answers in
    let ok : Result Changed WalkFault = Ok c.in-Ok.changed in
    let numbered =
    subst (λ (k : ℕ). Answers (edit_met l.items k c.args.met) (ChangesTo i.year i.text.now i.bytes.now i.new.now) ok c.args.steps.now c.walked_change.new.steps) inside.number answers in
    changed_comes e c.args.number l c.args.met c.in-Ok.changed before c.walked_change.new.steps c.requires.editing c.requires.unclosed c.requires.loaded
    (rw (← inside.year, ← inside.text, ← inside.bytes, ← inside.new) answers.made)
    (walk_tried e (edit_met l.items c.args.number c.args.met) reach before c.args.steps.now c.walked_change.new.steps read numbered)
    (walk_asks e (edit_met l.items c.args.number c.args.met) reach before c.args.steps.now c.walked_change.new.steps read numbered.nodes)

pub returns-in-Err-clause-comes : goal.returns-in-Err-clause-comes
returns-in-Err-clause-comes g c = λ before read.
    let e = c.args.editing.now in
    let l = c.args.loaded.now in
    let i = c.inside_of-inside.result in
    let reach = change_reach e c.args.number l c.args.met c.requires.editing c.requires.change c.requires.loaded c.requires.met in
    c.loaded_after.ensures before
    (walk_tried e (edit_met l.items c.args.number c.args.met) reach before c.args.steps.now c.walked_change.new.steps read
    (subst (λ (k : ℕ). Answers (edit_met l.items k c.args.met) (ChangesTo i.year i.text.now i.bytes.now i.new.now) c.walked_change.result c.args.steps.now c.walked_change.new.steps) c.inside_of-inside.ensures.number c.walked_change.ensures.answers))
