use Rattle.std.proofs.Common.{◌<◌, List, length, sym, subst}
use Rattle.book.specs.Postings.{txns_of}
use Rattle.book.specs.declared.item.Placed.{Placed}
use Rattle.walked_texts.proofs.Telling.{answers_behind}
use Rattle.walked_texts.proofs.walking.walk_behind.Goals as goal

pub walked_by-requires-clause-may : goal.walked_by-requires-clause-may
walked_by-requires-clause-may g c = subst (λ (ps : List Placed). 0 < length (txns_of ps)) (sym c.as_slice.ensures) c.requires.some

pub returns-clause-answers : goal.returns-clause-answers
returns-clause-answers g c =
    answers_behind c.args.open.now.items.items c.args.grown.now c.args.open.now.book.items c.as_slice.result.now c.walked_by.result c.args.steps.now c.walked_by.new.steps c.as_slice.ensures c.walked_by.ensures.answers
