use Rattle.std.proofs.Common.{◌≤◌, List, length, sym, ap, subst, ◌∙◌, arith}
use Rattle.book.specs.declared.item.Placed.{Placed}
use Rattle.walked_texts.specs.Making.{number_at}
use Rattle.walked_texts.proofs.Numbered.{inside_items, stands_at}
use Rattle.walked_texts.proofs.Telling.{answers_at, at_inside}
use Rattle.walked_texts.proofs.walking.walk_at.Goals as goal

pub number_at-number-requires : goal.number_at-number-requires
number_at-number-requires g c =
    let items = c.args.open.now.items.items in
    let at = stands_at items c.args.at.now.number c.requires.there in
    let less = inside_items items c.args.at.now.number at.was at.got in
    subst (λ (ps : List Placed). c.args.at.now.number ≤ length ps) (sym c.as_slice.ensures.value) (omega (arith, less))

pub walked_by-requires-clause-may : goal.walked_by-requires-clause-may
walked_by-requires-clause-may g c =
    at_inside c.args.open.now.items.items c.args.at.now.number c.number_at-number.result c.requires.there
    (c.number_at-number.ensures ∙ ap (λ (ps : List Placed). number_at ps c.args.at.now.number) c.as_slice.ensures.value)

pub returns-clause-answers : goal.returns-clause-answers
returns-clause-answers g c =
    answers_at c.args.open.now.items.items c.args.at.now.number c.args.at.now.placed.now c.args.open.now.book.items c.number_at-number.result c.txn_of-txn.result.now c.walked_by.result c.args.steps.now c.walked_by.new.steps
    c.requires.there c.txn_of-txn.ensures (c.number_at-number.ensures ∙ ap (λ (ps : List Placed). number_at ps c.args.at.now.number) c.as_slice.ensures.value) c.walked_by.ensures.answers
