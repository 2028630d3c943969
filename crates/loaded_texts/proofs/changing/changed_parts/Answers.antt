use Rattle.std.proofs.Common.{◌≡◌, sym, ap, subst, ◌∙◌}
use Rattle.loaded_texts.proofs.changing.changed_parts.Goals as goal

pub parts_at-parts-requires-clause-kept : goal.parts_at-parts-requires-clause-kept
parts_at-parts-requires-clause-kept g c = rw (c.taken-open.ensures.rest, c.taken-open.ensures.items, c.taken-open.ensures.book) c.requires.kept

pub parts_at-parts-requires-clause-text : goal.parts_at-parts-requires-clause-text
parts_at-parts-requires-clause-text g c = rw (c.taken-open.ensures.rest, c.taken-open.ensures.items, c.taken-open.ensures.book) c.requires.text

pub parts_at-parts-requires-clause-solves : goal.parts_at-parts-requires-clause-solves
parts_at-parts-requires-clause-solves g c = rw (c.taken-open.ensures.items, c.taken-open.ensures.book) c.requires.solves

pub parts_at-parts-requires-clause-there : goal.parts_at-parts-requires-clause-there
parts_at-parts-requires-clause-there g c = rw (c.taken-open.ensures.items) c.requires.there

pub parts_at-parts-requires-clause-txn : goal.parts_at-parts-requires-clause-txn
parts_at-parts-requires-clause-txn g c = c.requires.txn

pub returns-clause-answers : goal.returns-clause-answers
returns-clause-answers g c = rw (← c.taken-open.ensures.items, ← c.taken-open.ensures.book) c.parts_at-parts.ensures.answers

pub returns-clause-stays : goal.returns-clause-stays
returns-clause-stays g c =
    c.given_back.ensures
    ∙ (λ i. record (c.taken-open.ensures.rest i) { items = (c.parts_at-parts.ensures.items ∙ c.taken-open.ensures.items) i; book = record { txns = (c.parts_at-parts.ensures.book ∙ c.taken-open.ensures.book) i } })
