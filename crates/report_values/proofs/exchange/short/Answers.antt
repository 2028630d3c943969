use Rattle.std.proofs.Common.{ap, ◌∙◌}
use Rattle.hl_num.specs.Decimal.{Decimal}
use Rattle.report_cells.specs.Taken.{Shared}
use Rattle.report_values.specs.Worth.{shortest}
use Rattle.report_values.proofs.exchange.short.Goals as goal

pub returns : goal.returns
returns c =
    ap {A = Decimal} {B = Shared} (λ (d : Decimal). (c.share.inside.symbol.now, d)) c.trimmed.ensures.shortest
    ∙ ap (λ (s : Shared). (s.0, shortest s.1)) c.share.view_is
