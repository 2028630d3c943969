-- What postings of rules say of amounts.
use Rattle.std.specs.Prelude.{ℕ, Bool, false, List, Option, Some, None, if◌then◌else◌}
use Rattle.hl_num.specs.Decimal.{Decimal, mul_fits, units_of}
use Rattle.hl_num.specs.Shortest.{trimmed}
use Rattle.book.specs.declared.amount.Amount.{Amount}
use Rattle.book.specs.declared.amount.Cost.{Cost}
use Rattle.book.specs.declared.amount.Cost.TheVariants as costs
use Rattle.book.specs.declared.rules.Factor.{Factor}
use Rattle.book.specs.declared.rules.RulePosting.{RulePosting}
use Rattle.book.specs.declared.transaction.Posting.{Posting}
use Rattle.entry_balance.specs.Values.{absolute, product}
use Rattle.rule_entries.specs.declared.amounts.Worth.{Worth}

-- a number without zeros at the end of its decimals
abbrev pub shortened : Decimal → Decimal
shortened number = trimmed (units_of number) 36

-- a number so many times, where the product of the mantissas is in range and the places are at most 36
unfoldable pub times : Decimal → Decimal → Option Decimal
times by number = if mul_fits (shortened number) by then Some (product (shortened number) by) else None

abbrev pub with_value : Amount → Decimal → Amount
with_value amount value = record { symbol = amount.symbol; value = value; shape = amount.shape }

abbrev pub worth : Option Amount → Option Cost → Bool → Worth
worth amount cost costed = record { amount = amount; cost = cost; costed = costed }

-- A product that is out of range stands as the cost of so many units, which is out of range for the same reason.
abbrev pub beyond : Decimal → Amount → Worth
beyond by amount =
    worth (Some (with_value amount (shortened amount.value))) (Some (costs.Unit (with_value amount by))) false

-- an amount that becomes so many times, with a cost
abbrev pub worth_times : Decimal → Amount → Option Decimal → Option Cost → Bool → Worth
worth_times by amount None cost costed = beyond by amount
worth_times by amount (Some value) cost costed = worth (Some (with_value amount value)) cost costed

-- the cost of all of an amount becomes so many times what it was
abbrev pub worth_with_total : Decimal → Amount → Amount → Option Decimal → Bool → Worth
worth_with_total by amount total None costed = beyond (absolute by) total
worth_with_total by amount total (Some value) costed =
    worth_times by amount (times by amount.value) (Some (costs.Total (with_value total value))) costed

-- An amount so many times, at its cost: that of a unit stays, and that of all of it is multiplied too.
abbrev pub multiplied : Decimal → Amount → Option Cost → Bool → Worth
multiplied by amount None costed = worth_times by amount (times by amount.value) None costed
multiplied by amount (Some (costs.Unit unit)) costed =
    worth_times by amount (times by amount.value) (Some (costs.Unit unit)) costed
multiplied by amount (Some (costs.Total total)) costed =
    worth_with_total by amount total (times (absolute by) total.value) costed

-- a matched amount so many times: with another symbol at the cost that the rule writes, else at its own
abbrev pub factored : Decimal → Option (List ℕ) → Amount → Option Cost → Posting → Worth
factored by None amount written matched = multiplied by amount matched.cost matched.costed
factored by (Some symbol) amount written matched =
    worth_times by (record { symbol = symbol; value = amount.value; shape = amount.shape })
    (times by amount.value) written false

abbrev pub factored_if : Factor → Option Amount → Option Cost → Posting → Worth
factored_if factor None written matched = worth None None false
factored_if factor (Some amount) written matched = factored factor.by factor.symbol amount written matched

abbrev pub worth_by : Option Factor → Posting → Posting → Worth
worth_by None posting matched = worth posting.amount posting.cost false
worth_by (Some factor) posting matched = factored_if factor matched.amount posting.cost matched

-- what a rule's posting comes to beside a matched one: the amount that it writes, or so many times the matched one
abbrev pub worth_of : RulePosting → Posting → Worth
worth_of rule matched = worth_by rule.factor rule.posting matched
