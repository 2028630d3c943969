-- How many nodes a report asks, by its book.
use Rattle.std.proofs.Common.{◌≡◌, ℕ, ◌*◌, Bool, true, false, List, length, refl, subst}
use Rattle.book.specs.declared.item.Book.{Book}
use Rattle.hl_base.specs.Counts.{Counts}
use Rattle.hl_time.specs.declared.spans.Span.{Span}
use Rattle.index_cells.specs.Asks.{nodes_shown}
use Rattle.index_cells.specs.Books.{KeepsBook}
use Rattle.index_cells.specs.declared.kept.Kept.{Kept}
use Rattle.index_cells.proofs.Asking.{asks_none}
use Rattle.kept_reports.specs.Nodes.{AsksWhere, nodes_in}

-- where nothing is asked
pub none_asked : (served : Bool) (most : ℕ) (counts : Counts) → AsksWhere served most counts counts
none_asked true most counts = asks_none most counts
none_asked false most counts = refl

-- what is kept has the names of the book
nodes_same : (book : Book) (kept : Kept) (columns : List Span) → KeepsBook book.txns kept → nodes_shown kept columns ≡ nodes_in book columns
nodes_same book kept columns keeps = λ i. 44 * length (keeps.names.symbols i) * length columns * length (keeps.names.accounts i)

pub asked_of : (served : Bool) (book : Book) (kept : Kept) (columns : List Span) (before after : Counts) → KeepsBook book.txns kept → AsksWhere served (nodes_shown kept columns) before after → AsksWhere served (nodes_in book columns) before after
asked_of served book kept columns before after keeps asked =
    subst (λ (most : ℕ). AsksWhere served most before after) (nodes_same book kept columns keeps) asked
