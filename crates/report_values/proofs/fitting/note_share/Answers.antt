use Rattle.std.proofs.Common.{◌≡◌, ◌+◌, max, ℕ, List, unsigned_abs, cond, Option, Some, sym, ap, subst, ◌∙◌}
use Rattle.std.specs.Prelude.{unwrap_or}
use Rattle.std.specs.Ordering.{is_eq}
use Rattle.hl_num.specs.Decimal.{Decimal, units_of}
use Rattle.report_cells.specs.Bounds.{turnover_in, places_in}
use Rattle.report_cells.specs.Taken.{Shared}
use Rattle.report_values.specs.DayKeys.{day_cmp}
use Rattle.report_values.specs.Known.{kept_at}
use Rattle.report_values.specs.Totals.{no_total, IsTotal}
use Rattle.report_values.proofs.Summing.{totals_more, total_more}
use Rattle.report_values.proofs.fitting.note_share.Goals as goal

pub returns : goal.returns
returns c = λ ts t h some.
    let old = c.args.totals.now.entries in
    let share = c.args.share.now in
    let kept : c.total_of.result ≡ unwrap_or (kept_at c.args.totals.now.entries 0 c.args.share.now.0) no_total =
    c.total_of.ensures ∙ ap (λ (s : Shared). unwrap_or (kept_at c.args.totals.now.entries 0 s.0) no_total) c.share.view_is in
    let before = subst (λ (o : Option Decimal). IsTotal o (turnover_in c.args.share.now.0 ts) (places_in c.args.share.now.0 ts)) (sym kept)
    (total_more (kept_at c.args.totals.now.entries 0 c.args.share.now.0) (turnover_in c.args.share.now.0 ts) (places_in c.args.share.now.0 ts) (h c.args.share.now.0)) in
    let after = c.with_value-total.ensures (turnover_in c.args.share.now.0 ts) (places_in c.args.share.now.0 ts) before in
    let value : c.share.inside.value ≡ c.args.share.now.1 = ap (λ (s : Shared). s.1) c.share.view_is in
    let is = subst (λ (d : Decimal). IsTotal c.with_value-total.result (turnover_in c.args.share.now.0 ts + unsigned_abs (units_of d)) (max (places_in c.args.share.now.0 ts) d.places)) value after in
    totals_more old c.insert.new.self.entries ts t h share c.with_value-total.result some is
    (λ q. c.in_ok-insert.ensures.updates.0 (0, q)
    ∙ ap (λ (k : ℕ × List ℕ). cond (is_eq (day_cmp k (0, q))) (Some c.with_value-total.result) (kept_at c.args.totals.now.entries 0 q)) c.new.ensures
    ∙ ap (λ (s : Shared). cond (is_eq (day_cmp (0, s.0) (0, q))) (Some c.with_value-total.result) (kept_at c.args.totals.now.entries 0 q)) c.share.view_is)
