use Rattle.book.specs.Styles.{style_in}
use Rattle.report_sums.proofs.market.market_of.Goals as goal

pub returns : goal.returns
returns c = λ i. record {
  quotes = c.args.job.now.prices.now;
  style = style_in c.args.job.now.styles.now;
  target = c.target_in.ensures i;
}
