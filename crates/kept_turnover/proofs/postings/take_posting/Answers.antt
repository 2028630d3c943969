use Rattle.std.proofs.Common.{◌≡◌, ◌∷◌, [], ◌==◌, ◌&&◌, ℕ, List, Option, Some, None, Vec, Global, unsigned_abs, string_bytes, sym, ap, subst, ◌∙◌, arith, rules}
use Rattle.book.specs.declared.amount.Amount.{Amount}
use Rattle.entry_balance.specs.Entry.{amount_cost_fits, from_amount}
use Rattle.entry_balance.specs.Values.{cost_values, value_of}
use Rattle.kept_turnover.specs.Keeping.{Loses}
use Rattle.kept_turnover.proofs.Holding.{loses_none}
use Rattle.kept_turnover.proofs.postings.take_posting.Goals as goal

pub take_amount-requires : goal.take_amount-requires
take_amount-requires c = ap (λ (o : Option Amount). amount_cost_fits o c.args.posting.now.cost) (sym c.in-Some.is) ∙ c.requires

pub returns-in-Some : goal.returns-in-Some
returns-in-Some c =
    let old = c.args.symbols.now in
    let new = c.take_amount.new.symbols in
    let cost = c.args.posting.now.cost in
    subst (λ (o : Option Amount). Loses old new (from_amount (λ x. value_of x ∷ cost_values x cost) o)) (sym c.in-Some.is) c.take_amount.ensures

pub returns-in-None : goal.returns-in-None
returns-in-None c =
    subst (λ (o : Option Amount). Loses c.args.symbols.now c.args.symbols.now (from_amount (λ x. value_of x ∷ cost_values x c.args.posting.now.cost) o)) (sym c.in-None.is) (loses_none c.args.symbols.now)
