-- Transactions that are alike but for line numbers and the shapes of their amounts.
use Rattle.std.specs.Prelude.{false, None}
use Rattle.std.specs.Option.{option_map}
use Rattle.book.specs.declared.amount.Amount.{Amount}
use Rattle.book.specs.declared.amount.Assertion.{Assertion}
use Rattle.book.specs.declared.amount.Cost.{Cost}
use Rattle.book.specs.declared.amount.Cost.TheVariants as cost
use Rattle.book.specs.declared.amount.Written.{Written}
use Rattle.book.specs.declared.transaction.Posting.{Posting}
use Rattle.journal_printer.specs.Texts.{Shaping}
use Rattle.printed_entries.specs.Shapes.{IsShape}

-- one shape for all
abbrev pub no_shape : Written
no_shape = record { left = false; spaced = false; mark = None; group = None; first = 3; rest = 3 }

-- an amount, a cost and an assertion without their shapes
abbrev pub unshaped_amount : Amount → Amount
unshaped_amount a = record { symbol = a.symbol; value = a.value; shape = no_shape }

abbrev pub unshaped_cost : Cost → Cost
unshaped_cost (cost.Unit a) = cost.Unit (unshaped_amount a)
unshaped_cost (cost.Total a) = cost.Total (unshaped_amount a)

abbrev pub unshaped_claim : Assertion → Assertion
unshaped_claim w = record { amount = unshaped_amount w.amount; only = w.only; below = w.below }

-- a posting without its line and the shapes of its amounts
abbrev pub unshaped_posting : Posting → Posting
unshaped_posting p = record p {
  line = 0;
  amount = option_map unshaped_amount p.amount;
  cost = option_map unshaped_cost p.cost;
  wanted = option_map unshaped_claim p.wanted;
}

-- each amount is shown in a shape in which its number reads as it is, where no decimal mark is decided
abbrev pub AreShapes : Shaping → Type 0
AreShapes shape = (a : Amount) → IsShape None (shape a)
