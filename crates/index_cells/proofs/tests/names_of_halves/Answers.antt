use Rattle.std.proofs.Common.{◌++◌, List, [], refl, sym, subst, ◌∙◌, take-append-drop}
use Rattle.book.specs.declared.transaction.Txn.{Txn}
use Rattle.index_cells.specs.Exchange.{IsExchange}
use Rattle.index_cells.specs.Posted.{posted_in}
use Rattle.index_cells.proofs.Replacing.{taken_behind}
use Rattle.index_cells.proofs.tests.names_of_halves.Goals as goal

pub names_stay-requires : goal.names_stay-requires
names_stay-requires c = (c.as_slice-all.result.now, ((λ weight. refl), c.in_ok-check_book-2.ensures.fits))

pub names_stay-requires-2 : goal.names_stay-requires-2
names_stay-requires-2 c =
    let front = c.split_at.result.0.now in
    let half = c.split_at.result.1.now in
    let whole = sym ((λ i. c.split_at.ensures.front i ++ c.split_at.ensures.back i) ∙ take-append-drop _ c.as_slice-all.result.now) in
    (front, (subst (λ (before : List Txn). IsExchange (posted_in before) (posted_in half) (posted_in []) (posted_in front)) (sym whole) (taken_behind front half), c.in_ok-check_book.ensures.fits))
