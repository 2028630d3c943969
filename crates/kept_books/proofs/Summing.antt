-- The sums of a book with transactions behind it.
use Rattle.std.proofs.Common.{◌≡◌, List, [], ◌++◌, refl, sym, subst}
use Rattle.book.specs.Bounds.{TurnoverFits}
use Rattle.book.specs.Postings.{postings_of}
use Rattle.book.specs.declared.transaction.Txn.{Txn}
use Rattle.index_cells.specs.Books.{KeepsBook}
use Rattle.index_cells.specs.Exchange.{CanChange}
use Rattle.index_cells.specs.Keeps.{Keeps}
use Rattle.index_cells.specs.Names.{NamesOf}
use Rattle.index_cells.specs.Posted.{AreDated, posted_in}
use Rattle.index_cells.specs.declared.kept.Kept.{Kept}
use Rattle.index_cells.proofs.Dating.{dated_after}
use Rattle.index_cells.proofs.Fitting.{posted_fit}
use Rattle.index_cells.proofs.Replacing.{can_put, put_behind}

pub kept_after : (kept : Kept) (book more gone : List Txn) (after : Kept) → gone ≡ [] → KeepsBook book kept → AreDated more → TurnoverFits (postings_of (book ++ more))
    → ((before now : List Txn) → CanChange kept before gone more now → Keeps (posted_in now) after)
    → ((before now : List Txn) → CanChange kept before gone more now → gone ≡ [] → NamesOf (posted_in before) kept → NamesOf (posted_in now) after)
    → KeepsBook (book ++ more) after
kept_after kept book more gone after none sums dated fits keeps names =
    let can : CanChange kept book gone more (book ++ more) =
    subst (λ (g : List Txn). CanChange kept book g more (book ++ more)) (sym none) (can_put kept book more (book ++ more) refl sums.keeps (posted_fit (book ++ more) fits)) in
    record {
      keeps = keeps book (book ++ more) can;
      dated = dated_after (posted_in book) (posted_in []) (posted_in more) (posted_in (book ++ more)) (put_behind book more) sums.dated dated;
      names = names book (book ++ more) can none sums.names;
    }
