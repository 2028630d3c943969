use Rattle.std.proofs.Common.{sym, subst, ◌∙◌, ◌++◌}
use Rattle.index_cells.specs.Posted.{AreDated}
use Rattle.walked_edits.specs.Forms.{put_forms}
use Rattle.kept_books.proofs.Exchanges.{can_walk, walked_keeps_in}
use Rattle.kept_books.proofs.sums.sums_with_forms.Goals as goal

pub renamed_sums-requires : goal.renamed_sums-requires
renamed_sums-requires c = (
  c.args.book.now,
  (
    put_forms (c.args.book.now ++ c.args.vacants.now) c.args.forms.now,
    can_walk c.args.kept.now c.args.book.now c.args.vacants.now c.args.forms.now _ _ (c.as_slice-2.ensures.value ∙ c.in_ok-gone.ensures) (c.as_slice-3.ensures.value ∙ c.in_ok-more.ensures)
        c.requires.sums c.requires.vacants c.requires.inside c.requires.once c.requires.fits,
  ),
)

pub returns : goal.returns
returns c =
    walked_keeps_in c.renamed_sums.result c.args.kept.now c.args.book.now c.args.vacants.now c.args.forms.now _ _ (c.as_slice-2.ensures.value ∙ c.in_ok-gone.ensures) (c.as_slice-3.ensures.value ∙ c.in_ok-more.ensures)
    c.requires.sums c.requires.vacants c.requires.inside c.requires.once c.requires.fits
    (subst AreDated (c.as_slice.ensures.value ∙ sym c.as_slice-3.ensures.value) (c.are_dated-dated.ensures.0 c.if-not-dated.false)) c.renamed_sums.ensures
