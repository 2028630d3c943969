use Rattle.std.proofs.Common.{◌≡◌, ◌∷◌, [], ◌==◌, ◌&&◌, ℕ, List, Option, Some, None, Vec, Global, unsigned_abs, string_bytes, sym, ap, subst, ◌∙◌, arith, rules}
use Rattle.entry_balance.proofs.Adding.{on_ok}
use Rattle.entry_balance.specs.Values.{Value, cost_values, value_of}
use Rattle.kept_turnover.specs.Keeping.{Gains}
use Rattle.kept_turnover.proofs.Holding.{gains_both}
use Rattle.kept_turnover.proofs.postings.add_amount.Goals as goal

pub returns : goal.returns
returns c =
    let old = c.args.symbols.now in
    let mid = c.add_value.new.symbols in
    let new = c.add_cost.new.symbols in
    let a = c.args.amount.now in
    let one : Gains old mid (value_of a ∷ []) = subst (λ (s : List ℕ). Gains old mid ((s, a.value) ∷ [])) c.as_str.ensures c.in_ok-add_value.ensures in
    on_ok c.add_cost.result (λ two. gains_both old mid new (value_of a ∷ []) (cost_values a c.args.cost.now) one two) c.add_cost.ensures
