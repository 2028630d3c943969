use Rattle.std.proofs.Common.{◌≡◌, Result, Ok, Err, None, refl, sym, ap, subst, ◌∙◌}
use Rattle.book_laws.specs.Reaching.{HasNoPlainReach}
use Rattle.loaded_texts.specs.Ways.{AddsTo}
use Rattle.loaded_texts.specs.declared.adding.Addition.{Addition}
use Rattle.loaded_texts.specs.declared.loaded.Loaded.{Loaded}
use Rattle.walked_edits.specs.Causes.{IsCause}
use Rattle.walked_edits.specs.declared.fault.WalkFault.{WalkFault}
use Rattle.walked_texts.specs.Making.{Answers, edit_behind}
use Rattle.live_journal.proofs.Trying.{cause_here, is_open, walk_asks, walk_comes, walk_tried}
use Rattle.live_journal.proofs.adding.walk.Goals as goal

pub walked_addition-requires-clause-loaded : goal.walked_addition-requires-clause-loaded
walked_addition-requires-clause-loaded g c = rw (c.behind_of-behind.ensures.year, c.behind_of-behind.ensures.text) c.requires.loaded

pub walked_addition-requires-clause-grown : goal.walked_addition-requires-clause-grown
walked_addition-requires-clause-grown g c = rw (c.behind_of-behind.ensures.year, c.behind_of-behind.ensures.text, c.behind_of-behind.ensures.bytes) c.requires.coming.grown

pub walked_addition-requires-clause-some : goal.walked_addition-requires-clause-some
walked_addition-requires-clause-some g c = c.requires.coming.some refl

pub loaded_after-requires-clause-editing : goal.loaded_after-requires-clause-editing
loaded_after-requires-clause-editing g c = c.requires.editing

pub loaded_after-requires-clause-unclosed : goal.loaded_after-requires-clause-unclosed
loaded_after-requires-clause-unclosed g c = is_open c.args.editing.now c.args.loaded.now c.args.grown None c.requires.editing c.requires.loaded c.requires.coming refl

pub loaded_after-requires-clause-cause : goal.loaded_after-requires-clause-cause
loaded_after-requires-clause-cause g c =
    let e = c.args.editing.now in
    let answers = subst (λ (r : Result Addition WalkFault). Answers (edit_behind c.args.loaded.now.items c.args.grown) (AddsTo c.behind_of-behind.result.year c.behind_of-behind.result.text.now c.behind_of-behind.result.bytes.now) r c.args.steps.now c.walked_addition.new.steps) c.in-Err.is c.walked_addition.ensures.answers in
    cause_here e (edit_behind c.args.loaded.now.items c.args.grown) c.requires.coming.reach c.in-Err.fault answers.load

pub returns-in-Ok-clause-comes : goal.returns-in-Ok-clause-comes
returns-in-Ok-clause-comes g c = λ before read.
    let e = c.args.editing.now in
    let l = c.args.loaded.now in
    let answers = subst (λ (r : Result Addition WalkFault). Answers (edit_behind l.items c.args.grown) (AddsTo c.behind_of-behind.result.year c.behind_of-behind.result.text.now c.behind_of-behind.result.bytes.now) r c.args.steps.now c.walked_addition.new.steps) c.in-Ok.is c.walked_addition.ensures.answers in
    let adds : AddsTo e.year e.text.now e.bytes.now c.in-Ok.addition = rw (← c.behind_of-behind.ensures.year, ← c.behind_of-behind.ensures.text, ← c.behind_of-behind.ensures.bytes) answers.made in
    walk_comes e l c.args.grown None c.requires.editing c.requires.loaded c.requires.coming c.in-Ok.addition adds refl before c.args.steps.now c.walked_addition.new.steps read
    (walk_tried e (edit_behind l.items c.args.grown) c.requires.coming.reach before c.args.steps.now c.walked_addition.new.steps read answers)
    (walk_asks e (edit_behind l.items c.args.grown) c.requires.coming.reach before c.args.steps.now c.walked_addition.new.steps read answers.nodes)

pub returns-in-Err-clause-comes : goal.returns-in-Err-clause-comes
returns-in-Err-clause-comes g c = λ before read.
    let e = c.args.editing.now in
    let l = c.args.loaded.now in
    c.loaded_after.ensures before
    (walk_tried e (edit_behind l.items c.args.grown) c.requires.coming.reach before c.args.steps.now c.walked_addition.new.steps read c.walked_addition.ensures.answers)
