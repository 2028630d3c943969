use Rattle.std.proofs.Common.{◌≡◌, ℕ, List, cond, Option, Some, ap, ◌∙◌}
use Rattle.std.specs.Ordering.{is_eq}
use Rattle.report_values.specs.DayKeys.{day_cmp}
use Rattle.report_values.specs.Known.{kept_at}
use Rattle.report_values.proofs.known.keep.Goals as goal

pub returns : goal.returns
returns c = λ d s.
    c.in_ok-insert.ensures.updates.0 (d, s)
    ∙ ap (λ (k : ℕ × List ℕ). cond (is_eq (day_cmp k (d, s))) (Some c.args.exchange) (kept_at c.args.exchanges.now.entries d s)) c.new.ensures
