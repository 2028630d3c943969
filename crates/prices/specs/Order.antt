-- The order of prices.
use Rattle.std.specs.Cmp.{IsTotalOrder}
use Rattle.std.proofs.lemmas.Cmp.{on_total, then_total, nat_list_cmp_total, nat_cmp_total}
use Rattle.prices.specs.declared.quote.Quote.{Quote}
use Rattle.prices.specs.Index.{quote_cmp}

pub quote_total : IsTotalOrder quote_cmp
quote_total =
    then_total (on_total (λ (q : Quote). q.symbol) nat_list_cmp_total)
    (then_total (on_total (λ (q : Quote). q.target) nat_list_cmp_total) (on_total (λ (q : Quote). q.day.0) nat_cmp_total))
