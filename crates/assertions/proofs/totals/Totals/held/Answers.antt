use Rattle.std.proofs.Common.{List, ap, ◌∙◌}
use Rattle.book.specs.Entries.{held}
use Rattle.entry_balance.specs.Values.{Value}
use Rattle.assertions.proofs.Texts.{held-values}
use Rattle.assertions.proofs.totals.Totals.held.Goals as goal

pub returns : goal.returns
returns c =
    c.copied.ensures ∙ c.get.ensures.value ∙ held-values c.self.inside.sums.entries c.args.symbol.now
    ∙ ap (λ (vs : List Value). held c.args.symbol.now vs) c.self.view_is
