use Rattle.std.proofs.Common.{◌++◌, List, refl, sym, subst, ◌∙◌}
use Rattle.book.specs.declared.transaction.Txn.{Txn}
use Rattle.index_cells.specs.Exchange.{CanChange}
use Rattle.index_cells.proofs.Fitting.{posted_fit}
use Rattle.index_cells.proofs.Replacing.{can_put}
use Rattle.kept_books.proofs.Summing.{kept_after}
use Rattle.kept_books.proofs.sums.sums_behind.Goals as goal

pub exchanged_sums-requires : goal.exchanged_sums-requires
exchanged_sums-requires c =
    let all = c.args.book.now ++ c.args.more.now in (
      c.args.book.now,
      (
        all,
        subst (λ (gone : List Txn). CanChange c.args.kept.now c.args.book.now gone c.args.more.now all) (sym (c.as_slice.ensures.value ∙ c.new-gone.ensures.items))
            (can_put c.args.kept.now c.args.book.now c.args.more.now all refl c.requires.sums.keeps (posted_fit all c.requires.fits)),
      ),
    )

pub returns : goal.returns
returns c =
    let none = c.as_slice.ensures.value ∙ c.new-gone.ensures.items in
    kept_after c.args.kept.now c.args.book.now c.args.more.now c.as_slice.result.now c.in_ok-sums.sums none c.requires.sums (c.are_dated-dated.ensures.0 c.if-not-dated.false) c.requires.fits
    c.in_ok-sums.ensures.keeps c.in_ok-sums.ensures.names
