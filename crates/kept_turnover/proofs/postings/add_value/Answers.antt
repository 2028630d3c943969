use Rattle.std.proofs.Common.{◌≡◌, ◌∷◌, [], ◌==◌, ◌&&◌, ℕ, List, Option, Some, None, Vec, Global, unsigned_abs, string_bytes, sym, ap, subst, ◌∙◌, arith, rules}
use Rattle.entry_balance.proofs.Adding.{on_ok}
use Rattle.kept_turnover.proofs.Holding.{gains_one}
use Rattle.kept_turnover.proofs.postings.add_value.Goals as goal

pub returns : goal.returns
returns c =
    on_ok c.add_number.result
    (λ more. gains_one c.args.symbols.now c.add_number.new.symbols c.args.symbol.now c.args.number (omega (arith, c.decimals-decimals.ensures.value, c.decimals-decimals.ensures.bound)) more)
    c.add_number.ensures
