use Rattle.std.proofs.Common.{Bool, Some, sym, ap, ◌∙◌}
use Rattle.std.specs.Prelude.{if◌then◌else◌}
use Rattle.std.specs.Option.{option_map}
use Rattle.book.specs.declared.amount.Amount.{Amount}
use Rattle.entry_balance.specs.Values.{Value, value_of, at_cost}
use Rattle.report_takings.specs.Costs.{is_found, told_as}
use Rattle.report_takings.proofs.costs.moved.Goals as goal

pub returns-in-Some : goal.returns-in-Some
returns-in-Some c =
    let posting = c.args.posting.now in
    let found = is_found c.args.costs posting in
    ap (λ (v : Value). Some v)
    (c.told_as.ensures
    ∙ ap (λ (b : Bool). told_as b c.taken-share.result) c.is_found.ensures
    ∙ ap (told_as found) c.taken-share.ensures)
    ∙ ap (option_map (λ (amount : Amount). told_as found (if c.args.costs then at_cost amount posting.cost else value_of amount))) (sym c.in-Some.is)
