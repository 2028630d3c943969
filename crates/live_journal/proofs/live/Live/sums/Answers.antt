use Rattle.std.proofs.Common.{◌≡◌, Option, IfSome, Result, Ok, IfOk, sym, ap, subst, ◌∙◌}
use Rattle.book.specs.declared.fault.Fault.{Fault}
use Rattle.book.specs.declared.item.Book.{Book}
use Rattle.index_cells.specs.Books.{KeepsBook}
use Rattle.index_cells.specs.declared.kept.Kept.{Kept}
use Rattle.live_journal.specs.Loading.{book_from, book_of}
use Rattle.live_journal.proofs.live.Live.sums.Goals as goal

pub returns-in-Some : goal.returns-in-Some
returns-in-Some c =
    let loaded = c.self.inside.loaded in
    let book : book_of c.self.inside.year c.self.inside.text ≡ Ok loaded.book = ap book_from c.self.invariant.read ∙ c.self.invariant.loads in
    let kept : KeepsBook loaded.book.txns c.in-Some.kept = subst (λ (o : Option Kept). IfSome o (KeepsBook loaded.book.txns)) c.in-Some.is c.self.invariant.of_book.sums in
    rw (← c.self.view_is) (subst (λ (r : Result Book Fault). IfOk r (λ b. KeepsBook b.txns c.in-Some.kept)) (sym book) kept)
