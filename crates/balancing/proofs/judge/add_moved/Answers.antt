use Rattle.std.proofs.Common.{List, ◌∷◌, [], ◌++◌, Option, sym, ap, ◌∙◌}
use Rattle.book.specs.declared.amount.Amount.{Amount}
use Rattle.entry_balance.specs.Values.{value_of, cost_values}
use Rattle.entry_balance.specs.Tally.{turnover_fits}
use Rattle.entry_balance.specs.Entry.{from_amount}
use Rattle.entry_balance.proofs.Adding.{more_range}
use Rattle.balancing.proofs.judge.add_moved.Goals as goal

pub returns-in-Err-clause-range : goal.returns-in-Err-clause-range
returns-in-Err-clause-range c = λ is before h.
    let a = c.in-Some.amount in
    let cost = c.args.posting.now.cost in
    ap (λ (o : Option Amount). turnover_fits (before ++ from_amount (λ a. value_of a ∷ cost_values a cost) o)) c.in-Some.is
    ∙ more_range before ((a.symbol, a.value) ∷ []) (cost_values a cost)
    (ap (λ (s : List _). turnover_fits (before ++ (s, a.value) ∷ [])) (sym c.as_str.ensures) ∙ c.in-Err.ensures.range is before h)
