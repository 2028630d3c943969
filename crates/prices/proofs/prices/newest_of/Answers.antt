use Rattle.std.proofs.Common.{◌∙◌, arith}
use Rattle.std.specs.Option.{option_copied}
use Rattle.prices.proofs.Days.{newest_more}
use Rattle.prices.proofs.prices.newest_of.Goals as goal

pub loop-i-preserved : goal.loop-i-preserved
loop-i-preserved c =
    let within = c.loop-i.invariant.within in
    record {
      within = omega arith;
      best = c.better-best.ensures
          ∙ newest_more c.args.symbol.now c.args.day.0 c.args.quotes.now c.loop-i.i c.index-quotes-i.result (option_copied c.loop-i.best) c.loop-i-test.true within c.index-quotes-i.is c.loop-i.invariant.best;
    }
