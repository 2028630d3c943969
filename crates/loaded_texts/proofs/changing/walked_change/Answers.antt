use Rattle.std.proofs.Common.{◌≡◌, Ok, refl, sym, ap, subst, ◌∙◌}
use Rattle.std.proofs.lemmas.Result.{err_from_is_err_and}
use Rattle.walked_texts.specs.Making.{AreParts, edit_at}
use Rattle.loaded_texts.specs.Changing.{AreMetParts, edit_met}
use Rattle.loaded_texts.specs.declared.loaded.Loaded.{Loaded}
use Rattle.loaded_texts.proofs.Answered.{answered_as, answered_so, wants_memory}
use Rattle.loaded_texts.proofs.Loads.{loaded_has, loaded_solves}
use Rattle.loaded_texts.proofs.Places.{changes_to, entry_is, entry_there, met_answers, number_there}
use Rattle.loaded_texts.proofs.changing.walked_change.Goals as goal

pub changed_parts-requires-clause-text : goal.changed_parts-requires-clause-text
changed_parts-requires-clause-text g c = loaded_has c.args.inside.now.year c.args.inside.now.text.now c.args.loaded.now c.requires.loaded

pub changed_parts-requires-clause-kept : goal.changed_parts-requires-clause-kept
changed_parts-requires-clause-kept g c = c.requires.loaded.of_book

pub changed_parts-requires-clause-solves : goal.changed_parts-requires-clause-solves
changed_parts-requires-clause-solves g c = loaded_solves c.args.inside.now.year c.args.inside.now.text.now c.args.loaded.now c.requires.loaded

pub changed_parts-requires-clause-there : goal.changed_parts-requires-clause-there
changed_parts-requires-clause-there g c =
    let i = c.args.inside.now in
    entry_there i.year i.text.now i.bytes.now i.new.now i.number c.args.loaded.now.items c.args.met c.requires.met

pub changed_parts-requires-clause-txn : goal.changed_parts-requires-clause-txn
changed_parts-requires-clause-txn g c =
    let i = c.args.inside.now in
    entry_is i.year i.text.now i.bytes.now i.new.now i.number c.args.loaded.now.items c.args.met c.requires.met

pub changed_with-requires-clause-number : goal.changed_with-requires-clause-number
changed_with-requires-clause-number g c =
    let i = c.args.inside.now in
    rw c.in_ok-walked.ensures.stays (number_there i.year i.text.now i.bytes.now i.new.now i.number c.args.loaded.now.items c.args.met c.requires.met)

pub changed_with-requires-clause-met : goal.changed_with-requires-clause-met
changed_with-requires-clause-met g c = rw c.in_ok-walked.ensures.stays c.requires.met.fits_there

pub changed_with-requires-clause-parts : goal.changed_with-requires-clause-parts
changed_with-requires-clause-parts g c = rw c.in_ok-walked.ensures.stays c.in_ok-walked.ensures.answers.made

pub returns-in_err-walked-clause-answers : goal.returns-in_err-walked-clause-answers
returns-in_err-walked-clause-answers g c =
    let p = err_from_is_err_and c.from_residual.result c.from_residual.ensures.1 in
    let i = c.args.inside.now in
    rw (p.1, p.2)
    (met_answers i.year i.text.now i.bytes.now i.new.now i.number c.args.loaded.now c.args.met c.requires.loaded c.requires.met
    (answered_as (edit_at c.args.loaded.now.items i.number c.args.met.placed) c.in_err-walked.field-0.0 c.in_err-walked.ensures.answers))

pub returns-in_err-changed-clause-answers : goal.returns-in_err-changed-clause-answers
returns-in_err-changed-clause-answers g c =
    let p = err_from_is_err_and c.from_residual-in_err-changed.result c.from_residual-in_err-changed.ensures.1 in
    let i = c.args.inside.now in
    rw (p.1, p.2)
    (met_answers i.year i.text.now i.bytes.now i.new.now i.number c.args.loaded.now c.args.met c.requires.loaded c.requires.met
    (wants_memory (edit_at c.args.loaded.now.items i.number c.args.met.placed) c.in_ok-walked.walked c.in_ok-walked.ensures.answers))

pub returns-clause-answers : goal.returns-clause-answers
returns-clause-answers g c =
    let i = c.args.inside.now in
    let l = c.args.loaded.now in
    let stays = c.in_ok-walked.ensures.stays in
    met_answers i.year i.text.now i.bytes.now i.new.now i.number l c.args.met c.requires.loaded c.requires.met
    (answered_so (edit_at l.items i.number c.args.met.placed) c.in_ok-walked.walked c.in_ok-changed.changed c.in_ok-walked.ensures.answers
    (changes_to i.year i.text.now i.bytes.now i.new.now i.number l c.args.met c.requires.loaded c.requires.met c.in_ok-changed.changed.parts c.in_ok-changed.changed
    (subst (λ (x : Loaded). AreMetParts x.items x.book.txns i.number c.args.met c.in_ok-changed.changed.parts) stays c.in_ok-changed.ensures.parts)
    c.in_ok-changed.ensures.number c.in_ok-changed.ensures.met (rw (← stays) c.in_ok-changed.ensures.first) refl))

pub returns-clause-stays : goal.returns-clause-stays
returns-clause-stays g c = c.in_ok-walked.ensures.stays
