use Rattle.std.proofs.Common.{◌≡◌, ℕ, List, Option, Some, ap, ◌∙◌}
use Rattle.report_values.specs.Known.{kept_at}
use Rattle.report_values.specs.Worth.{exchange_on, priced_of}
use Rattle.report_values.specs.declared.exchange.Exchange.{Exchange}
use Rattle.report_values.specs.declared.exchange.Exchange.TheVariants.{Stays}
use Rattle.report_values.proofs.Keeping.{kept_more, kept_new, stays_is}
use Rattle.report_values.proofs.known.prepare_none.Goals as goal

pub returns-clause-right : goal.returns-clause-right
returns-clause-right c =
    let old : ℕ → List ℕ → Option Exchange = λ d s. kept_at c.args.known.now.exchanges.entries d s in
    let new : ℕ → List ℕ → Option Exchange = λ d s. kept_at c.keep.new.exchanges.entries d s in
    let is = stays_is (priced_of c.args.market.now) c.args.day.0 c.args.symbol.now c.requires.target in
    record {
      tables = c.requires.right.tables;
      exchanges = kept_more old new c.args.day.0 c.args.symbol.now Stays c.in_ok-keep.ensures
          (λ d s e. e ≡ exchange_on (priced_of c.args.market.now) d s) is c.requires.right.exchanges;
    }

pub returns-clause-there : goal.returns-clause-there
returns-clause-there c =
    let old : ℕ → List ℕ → Option Exchange = λ d s. kept_at c.args.known.now.exchanges.entries d s in
    let new : ℕ → List ℕ → Option Exchange = λ d s. kept_at c.keep.new.exchanges.entries d s in
    kept_new old new c.args.day.0 c.args.symbol.now Stays c.in_ok-keep.ensures
    ∙ ap (λ (e : Exchange). Some e) (stays_is (priced_of c.args.market.now) c.args.day.0 c.args.symbol.now c.requires.target)
