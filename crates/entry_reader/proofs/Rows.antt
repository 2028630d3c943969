-- Worked rows: what some pieces read as, computed by the definitions.
use Rattle.std.proofs.Common.{◌≡◌, ℕ, pos, negsuc, true, false, List, [], ◌∷◌, ◌++◌, Some, None, Ok, Err, refl, codes}
use Rattle.hl_num.specs.Reading.{number_with}
use Rattle.hl_time.specs.Date.{date_of, full_date, month_day, calendar_day, part_length, part_value, year_digits, year_value}
use Rattle.hl_time.specs.Calendar.{day_number, days_of_years, days_of_months}
use Rattle.book.specs.declared.fault.Cause.TheVariants as cause
use Rattle.entry_reader.specs.Causes.{fault_at}
use Rattle.entry_reader.specs.Accounts.{account_alone}
use Rattle.entry_reader.specs.Contexts.{Context, context_of, account_named, decided_mark, symbol_of}
use Rattle.entry_reader.specs.Amounts.{left_at, right_at, amount_at, amount_alone, cost_at, factor_at, assertion_at}
use Rattle.entry_reader.specs.Postings.{numbers_at, quantity_at, claim_at, posting_line}
use Rattle.entry_reader.specs.declared.quantity.Holder.TheVariants as holder
use Rattle.book.specs.declared.amount.Amount.{Amount}
use Rattle.book.specs.declared.directive.Directive.TheVariants as directive
use Rattle.book.specs.declared.item.Item.{Item}
use Rattle.book.specs.declared.item.Item.TheVariants as item
use Rattle.book.specs.declared.transaction.Side.TheVariants as side
use Rattle.entry_reader.specs.Heads.{head_of, day_at, mark_at}
use Rattle.book.specs.declared.transaction.Mark.TheVariants as mark
use Rattle.entry_reader.specs.Tags.{tags_of, tags_within}

thousand : amount_alone (context_of None []) (codes " 1,000 EUR ") ≡ Ok (record {
  symbol = codes "EUR";
  value = record { mantissa = pos 1000; places = 3 };
  shape = record { left = false; spaced = true; mark = Some 44; group = None; first = 3; rest = 3 };
})
unfolding amount_alone amount_at left_at right_at number_with
thousand = refl

left_dollars : amount_alone (context_of None []) (codes "-$1,234.5") ≡ Ok (record {
  symbol = codes "$";
  value = record { mantissa = negsuc 12344; places = 1 };
  shape = record { left = true; spaced = false; mark = Some 46; group = Some 44; first = 3; rest = 3 };
})
unfolding amount_alone amount_at left_at right_at number_with
left_dollars = refl

two_signs : amount_alone (context_of None []) (codes "-$-1") ≡ Err (fault_at 1 cause.Number)
unfolding amount_alone amount_at left_at right_at number_with
two_signs = refl

digit_in_symbol : amount_alone (context_of None []) (codes "1 E2R") ≡ Err (fault_at 1 cause.Quote)
unfolding amount_alone amount_at left_at right_at number_with
digit_in_symbol = refl

two_tags : tags_of (codes "a b: c:d , e:f") ≡ record { name = codes "b"; value = codes "c:d" } ∷ record { name = codes "e"; value = codes "f" } ∷ []
unfolding tags_within
two_tags = refl

coded : head_of (context_of (Some 2024) []) 7 (codes "1/5 * (12;) pay | note ; c:1") ≡ Ok (record {
  day = 738890;
  mark = mark.Cleared;
  code = codes "12;";
  description = codes "pay | note";
  comment = codes "c:1";
})
unfolding head_of day_at mark_at date_of full_date month_day calendar_day part_length part_value year_digits year_value day_number days_of_years days_of_months
coded = refl

-- a line end after the amount, and an empty part before two blanks: the first place decides
signs_and_line : amount_alone (context_of None []) (codes "--5" ++ 10 ∷ []) ≡ Err (fault_at 1 cause.Number)
unfolding amount_alone amount_at left_at right_at number_with
signs_and_line = refl

line_end : amount_alone (context_of None []) (codes "5" ++ 10 ∷ []) ≡ Err (fault_at 1 cause.Form)
unfolding amount_alone amount_at left_at right_at number_with
line_end = refl

empty_part : account_alone (codes "a::b  c") ≡ Err (fault_at 1 cause.Account)
unfolding account_alone
empty_part = refl

past_account : account_alone (codes "a:b  c") ≡ Err (fault_at 1 cause.Form)
unfolding account_alone
past_account = refl

-- names that are applied, the first outermost; and the newer of two aliases first
said : List Item
said = item.Directive (directive.Apply (codes "own")) ∷ item.Directive (directive.Apply (codes "cash")) ∷ item.Directive (directive.Alias (codes "own:cash") (codes "assets"))
    ∷ item.Directive (directive.Alias (codes "own:cash:bank") (codes "own:cash")) ∷ []

named : account_named (context_of None said) (codes "bank:x") ≡ codes "assets:x"
unfolding said
named = refl

not_named : account_named (context_of None said) (codes "banks") ≡ codes "assets:banks"
unfolding said
not_named = refl

ended : account_named (context_of None (said ++ item.Directive directive.EndApply ∷ item.Directive directive.EndAliases ∷ [])) (codes "bank") ≡ codes "own:bank"
unfolding said
ended = refl

-- an amount of a symbol with a decimal mark or with none
given : List ℕ → List ℕ → Amount
given symbol [] = record { symbol = symbol; value = record { mantissa = pos 1000; places = 0 }; shape = record { left = false; spaced = true; mark = None; group = None; first = 3; rest = 3 } }
given symbol (m ∷ ms) = record { symbol = symbol; value = record { mantissa = pos 1000; places = 0 }; shape = record { left = false; spaced = true; mark = Some m; group = None; first = 3; rest = 3 } }

marked : List Item
marked = item.Directive (directive.Commodity (codes "EUR") (Some (given (codes "EUR") (codes ",")))) ∷ item.Directive (directive.Commodity (codes "USD") (Some (given (codes "USD") (codes ","))))
    ∷ item.Directive (directive.Commodity (codes "USD") (Some (given (codes "USD") []))) ∷ item.Directive (directive.Default (given (codes "USD") (codes "."))) ∷ []

by_commodity : decided_mark (context_of None marked) (codes "EUR") ≡ Some 44
unfolding marked given
by_commodity = refl

by_latest : decided_mark (context_of None marked) (codes "USD") ≡ None
unfolding marked given
by_latest = refl

by_default : decided_mark (context_of None marked) [] ≡ Some 46
unfolding marked given
by_default = refl

default_symbol : symbol_of (context_of None marked) [] ≡ codes "USD"
unfolding marked given
default_symbol = refl

in_force : decided_mark (context_of None (marked ++ item.Directive (directive.DecimalMark 46) ∷ [])) (codes "EUR") ≡ Some 46
unfolding marked given
in_force = refl

-- the numbers of postings
plainly : ℕ → Amount
plainly n = record { symbol = codes "E"; value = record { mantissa = pos n; places = 0 }; shape = record { left = false; spaced = false; mark = None; group = None; first = 3; rest = 3 } }

claimed : numbers_at (holder.Entry 2024) (context_of None []) 7 (codes "5E==*7E@3E") ≡ Ok (
  record {
    amount = Some (plainly 5);
    factor = None;
    cost = None;
    wanted = Some (record { amount = plainly 7; only = true; below = true });
  },
  [],
)
unfolding numbers_at quantity_at claim_at amount_at cost_at assertion_at left_at right_at number_with plainly
claimed = refl

assigned : numbers_at (holder.Entry 2024) (context_of None []) 7 (codes "=7E@3E") ≡ Ok (
  record {
    amount = None;
    factor = None;
    cost = None;
    wanted = Some (record { amount = plainly 7; only = false; below = false });
  },
  codes "@3E",
)
unfolding numbers_at quantity_at claim_at amount_at cost_at assertion_at left_at right_at number_with plainly
assigned = refl

multiplied : numbers_at holder.Auto (context_of None []) 7 (codes "*-1=5") ≡ Ok (
  record {
    amount = None;
    factor = Some (record { by = record { mantissa = negsuc 0; places = 0 }; symbol = None });
    cost = None;
    wanted = None;
  },
  codes "=5",
)
unfolding numbers_at quantity_at claim_at cost_at factor_at right_at number_with
multiplied = refl
