use Rattle.std.proofs.Common.{◌≡◌, ◌∷◌, [], ◌==◌, ◌&&◌, ℕ, List, Option, Some, None, Vec, Global, unsigned_abs, string_bytes, sym, ap, subst, ◌∙◌, arith, rules}
use Rattle.book.specs.declared.amount.Cost.{Cost}
use Rattle.entry_balance.proofs.Adding.{on_ok}
use Rattle.entry_balance.specs.Values.{Value, cost_of, cost_values}
use Rattle.kept_turnover.specs.Keeping.{Gains}
use Rattle.kept_turnover.proofs.Holding.{gains_none}
use Rattle.kept_turnover.proofs.postings.add_cost.Goals as goal

pub returns-in-Some : goal.returns-in-Some
returns-in-Some c =
    let old = c.args.symbols.now in
    let new = c.add_value.new.symbols in
    let a = c.args.amount.now in
    let value : (c.cost_of-number.result.0.now, c.cost_of-number.result.1) ≡ cost_of a.value c.get.result.now =
    λ i. (c.cost_of-number.ensures.symbol i, c.cost_of-number.ensures.number i) in
    let values = ap (λ (v : Value). v ∷ []) (value ∙ ap (cost_of a.value) c.get.ensures) ∙ ap (cost_values a) (sym c.in-Some.is) in
    on_ok c.add_value.result (subst (Gains old new) values) c.add_value.ensures

pub returns-in-None : goal.returns-in-None
returns-in-None c = subst (λ (o : Option Cost). Gains c.args.symbols.now c.args.symbols.now (cost_values c.args.amount.now o)) (sym c.in-None.is) (gains_none c.args.symbols.now)
