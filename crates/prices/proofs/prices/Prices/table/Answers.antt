use Rattle.std.proofs.Common.{◌≡◌, ℕ, List, ap, subst, ◌∙◌}
use Rattle.std.specs.Prelude.{IfOk}
use Rattle.prices.specs.declared.quote.Quote.{Quote}
use Rattle.prices.specs.Chains.{Pricing, priced_on, IsRate}
use Rattle.prices.specs.Tables.{rate_in}
use Rattle.prices.proofs.Stable.{same_prices}
use Rattle.prices.proofs.prices.Prices.table.Goals as goal

pub returns : goal.returns
returns c =
    let day : ℕ = c.args.day.0 in
    let same : priced_on c.deref.result.now day ≡ priced_on c.args.self.now day =
    ap (λ (quotes : List Quote). priced_on quotes day) c.deref.ensures.value
    ∙ same_prices c.self.inside.quotes.items c.self.inside.sorted.items c.self.invariant.stable day
    ∙ ap (λ (quotes : List Quote). priced_on quotes day) c.self.view_is in
    subst (λ (price : Pricing). IfOk c.make_table.result (λ table. (from : List ℕ) → IsRate price c.args.target.now from (rate_in table from))) same c.make_table.ensures
