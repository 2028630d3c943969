use Rattle.std.proofs.Common.{◌∙◌}
use Rattle.walked_texts.proofs.exchanging.exchange_one.Goals as goal

pub returns : goal.returns
returns c = λ items book h same. c.in_ok-exchange.ensures.ok items book c.args.form.now.spot.number h (same ∙ c.txn_at-old.ensures)
