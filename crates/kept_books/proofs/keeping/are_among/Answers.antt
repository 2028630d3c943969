use Rattle.std.proofs.Common.{◌++◌, ◌∷◌, [], sym, ◌∙◌}
use Rattle.std.specs.Cmp.Lexicographic.{slice_cmp}
use Rattle.std.specs.Ordering.{nat_cmp}
use Rattle.book.specs.Order.{each_once}
use Rattle.book_laws.specs.Writing.{symbols_at}
use Rattle.kept_books.proofs.Renewing.{lent_of}
use Rattle.kept_books.proofs.Sets.{within_same}
use Rattle.kept_books.proofs.keeping.are_among.Goals as goal

pub returns : goal.returns
returns c = λ yes.
    within_same (c.args.txn.now ∷ []) (lent_of c.args.forms.now) c.in_ok-own.own c.in_ok-both.both c.in_ok-own.ensures
    (c.in_ok-both.ensures ∙ (λ i. each_once (slice_cmp nat_cmp) (symbols_at (lent_of (c.from_ref.ensures.value i)) ++ c.as_slice.ensures i)))
    (sym c.as_slice-2.ensures ∙ c.are_same.ensures yes ∙ c.as_slice-3.ensures)
