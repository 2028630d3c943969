use Rattle.std.proofs.Common.{◌≡◌, ◌∷◌, [], ◌==◌, ◌&&◌, ℕ, List, Option, Some, None, Vec, Global, unsigned_abs, string_bytes, sym, ap, subst, ◌∙◌, arith, rules}
use Rattle.entry_balance.specs.Values.{Value, cost_values, value_of}
use Rattle.kept_turnover.specs.Keeping.{Loses}
use Rattle.kept_turnover.proofs.Holding.{loses_both}
use Rattle.kept_turnover.proofs.postings.take_amount.Goals as goal

pub returns : goal.returns
returns c =
    let old = c.args.symbols.now in
    let mid = c.take_value.new.symbols in
    let new = c.take_cost.new.symbols in
    let a = c.args.amount.now in
    let one : Loses old mid (value_of a ∷ []) = subst (λ (s : List ℕ). Loses old mid ((s, a.value) ∷ [])) c.as_str.ensures c.take_value.ensures in
    loses_both old mid new (value_of a ∷ []) (cost_values a c.args.cost.now) one c.take_cost.ensures
