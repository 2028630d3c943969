use Rattle.std.proofs.Common.{◌∙◌, ap, subst}
use Rattle.std.specs.Ordering.{nat_cmp}
use Rattle.std.specs.Cmp.Lexicographic.{slice_cmp}
use Rattle.book.specs.Places.{IsPlace, IsGap}
use Rattle.book.specs.Standing.{Table, kept_of, last_kept}
use Rattle.book.proofs.Tables.{kept-at, kept-gap}
use Rattle.book.proofs.table.Table.last.Goals as goal

pub returns-in-Ok-clause-value : goal.returns-in-Ok-clause-value
returns-in-Ok-clause-value c =
    c.last.ensures.value
    ∙ ap last_kept (kept-at c.self.inside.entries.items c.args.symbol.now c.in-Ok.at c.index.result.now c.self.invariant (subst (λ (es : Table). IsPlace es c.args.symbol.now c.in-Ok.at) c.deref.ensures.value c.in-Ok.ensures.found) c.index.ensures)
    ∙ ap (λ (es : Table). last_kept (kept_of es c.args.symbol.now)) c.self.view_is

pub returns-in-Err-clause-value : goal.returns-in-Err-clause-value
returns-in-Err-clause-value c =
    ap last_kept (kept-gap c.self.inside.entries.items c.args.symbol.now c.in-Err.field-0 (subst (λ (es : Table). IsGap (slice_cmp nat_cmp) es c.args.symbol.now c.in-Err.field-0) c.deref.ensures.value c.in-Err.ensures.absent))
    ∙ ap (λ (es : Table). last_kept (kept_of es c.args.symbol.now)) c.self.view_is
