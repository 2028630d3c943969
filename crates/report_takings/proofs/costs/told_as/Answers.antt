use Rattle.std.proofs.Common.{Bool, sym, ap, ◌∙◌}
use Rattle.hl_num.specs.Decimal.{Decimal, units_of}
use Rattle.entry_balance.specs.Values.{Value, trimmed}
use Rattle.report_takings.specs.Costs.{told_as}
use Rattle.report_takings.proofs.costs.told_as.Goals as goal

pub returns-then-found : goal.returns-then-found
returns-then-found c =
    ap {A = Decimal} {B = Value} (λ (d : Decimal). (c.share.inside.symbol.now, d)) c.trimmed.ensures.shortest
    ∙ ap (λ (v : Value). (v.0, trimmed (units_of v.1) 36)) c.share.view_is
    ∙ ap (λ (found : Bool). told_as found c.args.share) (sym c.if-found.true)
