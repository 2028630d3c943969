use Rattle.std.proofs.Common.{◌≡◌, ap, sym, subst, ◌∙◌}
use Rattle.std.proofs.lemmas.Result.{err_from_is_err_and}
use Rattle.walked_texts.specs.Making.{edit_behind}
use Rattle.loaded_texts.proofs.Answered.{answered_as, answered_so, wants_memory}
use Rattle.loaded_texts.proofs.Loads.{loaded_has, loaded_solves, made_adds, parts_make}
use Rattle.loaded_texts.specs.declared.loaded.Loaded.{Loaded}
use Rattle.loaded_texts.specs.Ways.{HasRoom}
use Rattle.loaded_texts.proofs.adding.walked_addition.Goals as goal

pub walked_parts-requires-clause-text : goal.walked_parts-requires-clause-text
walked_parts-requires-clause-text g c = loaded_has c.args.behind.now.year c.args.behind.now.text.now c.args.loaded.now c.requires.loaded

pub walked_parts-requires-clause-kept : goal.walked_parts-requires-clause-kept
walked_parts-requires-clause-kept g c = c.requires.loaded.of_book

pub walked_parts-requires-clause-solves : goal.walked_parts-requires-clause-solves
walked_parts-requires-clause-solves g c = loaded_solves c.args.behind.now.year c.args.behind.now.text.now c.args.loaded.now c.requires.loaded

pub walked_parts-requires-clause-some : goal.walked_parts-requires-clause-some
walked_parts-requires-clause-some g c = c.requires.some

pub returns-in_err-parts-clause-answers : goal.returns-in_err-parts-clause-answers
returns-in_err-parts-clause-answers g c =
    let p = err_from_is_err_and c.from_residual.result c.from_residual.ensures.1 in
    rw (p.1, p.2) (answered_as (edit_behind c.args.loaded.now.items c.args.grown) c.in_err-parts.field-0.0 c.in_err-parts.ensures.answers)

pub returns-in_err-addition-clause-answers : goal.returns-in_err-addition-clause-answers
returns-in_err-addition-clause-answers g c =
    let p = err_from_is_err_and c.from_residual-in_err-addition.result c.from_residual-in_err-addition.ensures.1 in
    rw (p.1, p.2) (wants_memory (edit_behind c.args.loaded.now.items c.args.grown) c.in_ok-parts.parts c.in_ok-parts.ensures.answers)

pub returns-clause-answers : goal.returns-clause-answers
returns-clause-answers g c =
    let answers = c.in_ok-parts.ensures.answers in
    answered_so (edit_behind c.args.loaded.now.items c.args.grown) c.in_ok-parts.parts c.in_ok-addition.addition answers
    (made_adds c.args.behind.now.year c.args.behind.now.text.now c.args.behind.now.bytes.now c.args.loaded.now c.args.grown c.in_ok-parts.parts c.in_ok-addition.addition
    c.requires.loaded c.requires.grown (parts_make _ _ c.in_ok-parts.parts answers.made) c.in_ok-addition.ensures.grown c.in_ok-addition.ensures.parts
    (subst (λ (l : Loaded). HasRoom l.items l.book.txns c.in_ok-addition.addition) c.in_ok-parts.ensures.stays c.in_ok-addition.ensures.room))
