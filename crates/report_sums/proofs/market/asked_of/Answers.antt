use Rattle.report_sums.proofs.market.asked_of.Goals as goal

pub returns : goal.returns
returns c = λ i. record {
  is_bounded = c.is_bounded.ensures i;
  txns = c.as_slice.ensures i;
  quotes = c.args.job.now.prices.now;
  day = c.args.job.now.scope.day.0;
}
