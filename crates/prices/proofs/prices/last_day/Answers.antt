use Rattle.std.proofs.Common.{◌+◌, sym, subst}
use Rattle.prices.proofs.Days.{IsGreatest, greatest_more}
use Rattle.prices.proofs.prices.last_day.Goals as goal

pub loop-quote-preserved : goal.loop-quote-preserved
loop-quote-preserved c =
    subst (IsGreatest c.args.quotes.now (c.loop-quote.quote-index + 1)) (sym c.max-greatest.ensures)
    (greatest_more c.args.quotes.now c.loop-quote.quote-index c.loop-quote.greatest c.quote-item.result c.loop-quote-test.true c.quote-item.is c.loop-quote.invariant)
