use Rattle.std.proofs.Common.{◌≡◌, List, ap, sym, subst, ◌∙◌}
use Rattle.report_cells.specs.Taken.{Taken}
use Rattle.report_takings.specs.Asking.{question_of}
use Rattle.report_takings.specs.Takings.{takings_of}
use Rattle.index_cells.specs.Posted.{days_in, posted_in}
use Rattle.index_cells.specs.Shown.{ShowSumsOf}
use Rattle.index_cells.specs.Tells.{taken_on}
use Rattle.index_cells.proofs.Keeping.{keeps_tell}
use Rattle.index_cells.proofs.Plainly.{days_early, takings_are}
use Rattle.index_cells.proofs.plain.plain_cells.Goals as goal

pub shown_cells-requires-clause-told : goal.shown_cells-requires-clause-told
shown_cells-requires-clause-told g c = (posted_in c.args.scope.now.book.now.txns, keeps_tell (posted_in c.args.scope.now.book.now.txns) c.args.kept.now c.requires.keeps.keeps)

pub shown_cells-requires-clause-early : goal.shown_cells-requires-clause-early
shown_cells-requires-clause-early g c = days_early c.args.scope.now.options.now.start c.as_slice.result.now c.days_in-days.result c.days_in-days.ensures

pub returns-clause-made : goal.returns-clause-made
returns-clause-made g c =
    let txns = c.args.scope.now.book.now.txns in
    let days = c.days_in-days.ensures ∙ ap (days_in c.args.scope.now.options.now.start) c.as_slice.ensures in
    let takings : taken_on c.days_in-days.result (posted_in txns) ≡ takings_of (question_of c.args.scope.now) c.args.columns =
    ap (λ (days : _). taken_on days (posted_in txns)) days ∙ sym (takings_are c.args.scope.now c.requires.plain c.requires.keeps.dated c.args.columns) in
    subst (λ (ts : List Taken). ShowSumsOf c.args.columns c.args.reach ts c.in_ok-cells.cells) takings
    (c.in_ok-cells.ensures.made (posted_in txns) (keeps_tell (posted_in txns) c.args.kept.now c.requires.keeps.keeps))
