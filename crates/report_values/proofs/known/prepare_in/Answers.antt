use Rattle.std.proofs.Common.{◌≡◌, ℕ, List, Option, Some, sym, ap, subst, ◌∙◌}
use Rattle.report_values.specs.Known.{kept_at}
use Rattle.report_values.specs.Worth.{exchange_on, priced_of}
use Rattle.report_values.specs.declared.exchange.Exchange.{Exchange}
use Rattle.report_values.proofs.Keeping.{kept_more, kept_new, table_rate, exchange_is}
use Rattle.report_values.proofs.known.prepare_in.Goals as goal

pub returns-clause-right : goal.returns-clause-right
returns-clause-right c =
    let market = (priced_of c.args.market.now) in
    let day = c.args.day.0 in
    let old : ℕ → List ℕ → Option Exchange = λ d s. kept_at c.args.known.now.exchanges.entries d s in
    let new : ℕ → List ℕ → Option Exchange = λ d s. kept_at c.keep.new.exchanges.entries d s in
    let rate = c.rate_by-rate.ensures ∙ table_rate c.args.market.now.prices.now c.args.day.0 c.args.target.now c.args.symbol.now (kept_at c.prepare_table.new.tables.entries c.args.day.0 c.args.target.now) (c.in_ok-prepare_table.ensures.right c.args.day.0 c.args.target.now) c.in_ok-prepare_table.ensures.there in
    let is = c.exchange_at-exchange.ensures ∙ exchange_is (priced_of c.args.market.now) c.args.day.0 c.args.symbol.now c.args.target.now c.places_of.result c.rate_by-rate.result c.requires.target c.places_of.ensures.value rate in
    record {
      tables = c.in_ok-prepare_table.ensures.right;
      exchanges = kept_more old new c.args.day.0 c.args.symbol.now c.exchange_at-exchange.result c.in_ok-keep.ensures
          (λ d s e. e ≡ exchange_on (priced_of c.args.market.now) d s) is c.requires.right.exchanges;
    }

pub returns-clause-there : goal.returns-clause-there
returns-clause-there c =
    let old : ℕ → List ℕ → Option Exchange = λ d s. kept_at c.args.known.now.exchanges.entries d s in
    let new : ℕ → List ℕ → Option Exchange = λ d s. kept_at c.keep.new.exchanges.entries d s in
    let rate = c.rate_by-rate.ensures ∙ table_rate c.args.market.now.prices.now c.args.day.0 c.args.target.now c.args.symbol.now (kept_at c.prepare_table.new.tables.entries c.args.day.0 c.args.target.now) (c.in_ok-prepare_table.ensures.right c.args.day.0 c.args.target.now) c.in_ok-prepare_table.ensures.there in
    let is = c.exchange_at-exchange.ensures ∙ exchange_is (priced_of c.args.market.now) c.args.day.0 c.args.symbol.now c.args.target.now c.places_of.result c.rate_by-rate.result c.requires.target c.places_of.ensures.value rate in
    kept_new old new c.args.day.0 c.args.symbol.now c.exchange_at-exchange.result c.in_ok-keep.ensures ∙ ap (λ (e : Exchange). Some e) is
