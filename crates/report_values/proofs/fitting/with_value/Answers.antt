use Rattle.std.proofs.Common.{Option, unsigned_abs, subst}
use Rattle.hl_num.specs.Decimal.{Decimal, units_of}
use Rattle.report_values.specs.Totals.{IsTotal}
use Rattle.report_values.proofs.Summing.{full_still}
use Rattle.report_values.proofs.fitting.with_value.Goals as goal

pub returns-in-None : goal.returns-in-None
returns-in-None c = λ turnover places h.
    full_still turnover places (unsigned_abs (units_of c.args.value)) c.args.value.places (subst (λ (o : Option Decimal). IsTotal o turnover places) c.in-None.is h)
