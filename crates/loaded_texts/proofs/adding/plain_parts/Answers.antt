use Rattle.std.proofs.Common.{◌≡◌, ◌++◌, List, refl, sym, ap, subst, ◌∙◌}
use Rattle.book.specs.Bounds.{TurnoverFits}
use Rattle.book.specs.Postings.{postings_of, txns_of}
use Rattle.book.specs.declared.transaction.Txn.{Txn}
use Rattle.balancing.specs.Solves.{Solves}
use Rattle.kept_books.specs.Keeping.{IsOf}
use Rattle.kept_texts.specs.Keeping.{IsWith}
use Rattle.text_ends.specs.Going.{items_behind}
use Rattle.loaded_texts.proofs.Loads.{plain_makes}
use Rattle.loaded_texts.proofs.adding.plain_parts.Goals as goal

pub kept_behind-requires-clause-kept : goal.kept_behind-requires-clause-kept
kept_behind-requires-clause-kept c = c.requires.kept

pub kept_behind-requires-clause-solves : goal.kept_behind-requires-clause-solves
kept_behind-requires-clause-solves c = c.requires.solves

pub kept_behind-requires-clause-whole : goal.kept_behind-requires-clause-whole
kept_behind-requires-clause-whole c =
    let l = c.args.loaded.now in
    subst (λ (ts : List Txn). Solves (txns_of l.items ++ txns_of c.args.grown.now.items) (l.book.txns ++ ts)) (sym c.as_slice-2.ensures) c.requires.whole

pub kept_behind-requires-clause-fits : goal.kept_behind-requires-clause-fits
kept_behind-requires-clause-fits c =
    subst (λ (ts : List Txn). TurnoverFits (postings_of (c.args.loaded.now.book.txns ++ ts))) (sym c.as_slice-2.ensures) c.requires.adds.fits

pub returns : goal.returns
returns c =
    let l = c.args.loaded.now in
    let g = c.args.grown.now in
    let items = items_behind l.items g in
    let edited : IsWith items (l.book.txns ++ c.args.plain.txns) c.in_ok-edited.edited =
    subst (λ (ts : List Txn). IsWith items (l.book.txns ++ ts) c.in_ok-edited.edited) c.as_slice.ensures (c.in_ok-edited.ensures l.items l.book.txns c.requires.text) in
    let behind : IsOf (txns_of l.items ++ txns_of g.items) (l.book.txns ++ c.args.plain.txns) c.in_ok-kept.kept =
    subst (λ (ts : List Txn). IsOf (txns_of l.items ++ txns_of g.items) (l.book.txns ++ ts) c.in_ok-kept.kept) c.as_slice-2.ensures c.in_ok-kept.ensures in
    let kept : IsOf (txns_of items) (l.book.txns ++ c.args.plain.txns) c.in_ok-kept.kept =
    subst (λ (ws : List Txn). IsOf ws (l.book.txns ++ c.args.plain.txns) c.in_ok-kept.kept) (sym c.requires.written) behind in
    plain_makes l.items l.book.txns g c.args.plain _ c.new.ensures.items c.into_vec.ensures refl c.requires.adds edited kept
