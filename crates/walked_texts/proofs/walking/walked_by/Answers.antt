use Rattle.std.proofs.Common.{List, sym, subst}
use Rattle.balancing.specs.Solves.{Solves}
use Rattle.book.specs.Postings.{txns_of}
use Rattle.book.specs.declared.item.Placed.{Placed}
use Rattle.kept_books.specs.Keeping.{AreWalks}
use Rattle.kept_books.specs.Rewriting.{MayRewrite, meant}
use Rattle.walked_texts.proofs.Telling.{answers_of}
use Rattle.walked_texts.proofs.walking.walked_by.Goals as goal

pub walk_rewritten-requires-clause-walks : goal.walk_rewritten-requires-clause-walks
walk_rewritten-requires-clause-walks g c = subst (λ (ps : List Placed). AreWalks (txns_of ps) c.args.open.now.book.items c.args.walks.now) (sym c.as_slice.ensures.value) c.requires.walks

pub walk_rewritten-requires-clause-solves : goal.walk_rewritten-requires-clause-solves
walk_rewritten-requires-clause-solves g c = subst (λ (ps : List Placed). Solves (txns_of ps) c.args.open.now.book.items) (sym c.as_slice.ensures.value) c.requires.solves

pub walk_rewritten-requires-clause-may : goal.walk_rewritten-requires-clause-may
walk_rewritten-requires-clause-may g c = subst (λ (ps : List Placed). MayRewrite (txns_of ps) (meant c.args.rewriting.now)) (sym c.as_slice.ensures.value) c.requires.may

pub returns-clause-answers : goal.returns-clause-answers
returns-clause-answers g c =
    let told = c.walk_rewritten.ensures in
    answers_of c.args.open.now.items.items c.as_slice.result.now c.args.open.now.book.items (meant c.args.rewriting.now) c.walk_rewritten.result c.args.steps.now c.walk_rewritten.new.steps
    c.as_slice.ensures.value told.walk told.few told.read told.nodes told.load
