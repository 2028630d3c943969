use Rattle.std.proofs.Common.{◌≡◌, List, sym, ap, subst, ◌∙◌}
use Rattle.book.specs.Postings.{txns_of}
use Rattle.kept_books.specs.Keeping.{IsOf}
use Rattle.loaded_texts.proofs.adding.walked_parts.Goals as goal

pub parts_behind-parts-requires-clause-kept : goal.parts_behind-parts-requires-clause-kept
parts_behind-parts-requires-clause-kept g c = rw (c.taken-open.ensures.rest, c.taken-open.ensures.items, c.taken-open.ensures.book) c.requires.kept

pub parts_behind-parts-requires-clause-text : goal.parts_behind-parts-requires-clause-text
parts_behind-parts-requires-clause-text g c = rw (c.taken-open.ensures.rest, c.taken-open.ensures.items, c.taken-open.ensures.book) c.requires.text

pub parts_behind-parts-requires-clause-solves : goal.parts_behind-parts-requires-clause-solves
parts_behind-parts-requires-clause-solves g c = rw (c.taken-open.ensures.items, c.taken-open.ensures.book) c.requires.solves

pub parts_behind-parts-requires-clause-some : goal.parts_behind-parts-requires-clause-some
parts_behind-parts-requires-clause-some g c = c.requires.some

pub returns-clause-answers : goal.returns-clause-answers
returns-clause-answers g c = rw (← c.taken-open.ensures.items, ← c.taken-open.ensures.book) c.parts_behind-parts.ensures.answers

pub returns-clause-stays : goal.returns-clause-stays
returns-clause-stays g c =
    c.given_back.ensures
    ∙ (λ i. record (c.taken-open.ensures.rest i) { items = (c.parts_behind-parts.ensures.items ∙ c.taken-open.ensures.items) i; book = record { txns = (c.parts_behind-parts.ensures.book ∙ c.taken-open.ensures.book) i } })
