use Rattle.std.proofs.Common.{ℕ, List, not, ap, ◌∙◌}
use Rattle.report_cells.specs.Taken.{Shared}
use Rattle.report_values.specs.Known.{kept_at}
use Rattle.report_values.specs.Totals.{is_full}
use Rattle.report_values.proofs.Summing.{full-is}
use Rattle.report_values.proofs.fitting.fits_share.Goals as goal

pub returns : goal.returns
returns c = λ ts h.
    ap not (c.is_full.ensures
    ∙ ap (λ (s : Shared). is_full (kept_at c.args.totals.now.entries 0 s.0)) c.share.view_is
    ∙ full-is c.args.totals.now.entries ts c.args.share.now.0 h)
