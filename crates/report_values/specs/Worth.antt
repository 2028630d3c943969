-- What amounts are worth on a day.
use Rattle.std.specs.Prelude.{ℕ, min, List, Option, Some, None, Result, Ok, Err, option_and_then}
use Rattle.std.specs.Option.{option_copied, option_or}
use Rattle.hl_num.specs.Decimal.{Decimal, units_of}
use Rattle.hl_num.specs.declared.arithmetic.DivRange.{DivRange}
use Rattle.book.specs.Styles.{style_in}
use Rattle.book.specs.declared.style.Style.{Style}
use Rattle.entry_balance.specs.Values.{trimmed}
use Rattle.prices.specs.declared.rate.RateRange.{RateRange}
use Rattle.prices.specs.Fraction.{Fraction}
use Rattle.prices.specs.Quotes.{target_on}
use Rattle.prices.specs.declared.quote.Quote.{Quote}
use Rattle.prices.specs.Values as prices
use Rattle.report_cells.specs.Taken.{Shared, Taken}
use Rattle.report_values.specs.Rates.{rate_on}
use Rattle.report_values.specs.Sale.{Sale}
use Rattle.report_values.specs.declared.exchange.Exchange.{Exchange}
use Rattle.report_values.specs.declared.exchange.Exchange.TheVariants.{Stays, Into, Out}
use Rattle.report_values.specs.declared.market.Market.{Market}

-- By what amounts are valued: the prices of a journal in the order of its text, the styles of symbols, and the symbol of
-- all values, where one is asked for.
pub record Priced : Type 0 where
  pub quotes : List Quote
  pub style : List ℕ → Style
  pub target : Option (List ℕ)

abbrev pub priced_of : Market → Priced
priced_of market = record {
  quotes = market.prices.now;
  style = style_in market.styles.now;
  target = option_copied market.target;
}

-- the symbol in which a symbol is valued: the one that is asked for, else that of its latest price
abbrev pub target_of : Priced → ℕ → List ℕ → Option (List ℕ)
target_of market day symbol = option_or market.target (target_on market.quotes symbol day)

-- how many decimals values in a symbol have: those of its style, at most 18
abbrev pub places_of : Priced → List ℕ → ℕ
places_of market target = min 18 (market.style target).places

-- a symbol with that rate in a target stays where there is no rate
abbrev pub exchange_at : List ℕ → ℕ → Result (Option Fraction) RateRange → Exchange
exchange_at target places (Ok None) = Stays
exchange_at target places (Ok (Some rate)) = Into (record { target = target; rate = rate; places = places })
exchange_at target places (Err range) = Out

abbrev pub exchange_in : Priced → ℕ → List ℕ → Option (List ℕ) → Exchange
exchange_in market day symbol None = Stays
exchange_in market day symbol (Some target) =
    exchange_at target (places_of market target) (rate_on market.quotes day target symbol)

-- what a symbol is exchanged for on a day
abbrev pub exchange_on : Priced → ℕ → List ℕ → Exchange
exchange_on market day symbol = exchange_in market day symbol (target_of market day symbol)

-- a number with as few decimals as it needs
abbrev pub shortest : Decimal → Decimal
shortest number = trimmed (units_of number) 36

-- a value in a symbol, if it can be told; where it is summed it has as few decimals as it needs
abbrev pub told_in : List ℕ → Result Decimal DivRange → Option Shared
told_in target (Ok value) = Some (target, shortest value)
told_in target (Err range) = None

-- what an amount is exchanged for: the amount times the rate, rounded half to even once; itself where it stays; nothing
-- where that is out of range
abbrev pub exchanged : Exchange → Shared → Option Shared
exchanged Stays share = Some (share.0, shortest share.1)
exchanged (Into sale) share = told_in sale.target (prices.valued share.1 sale.rate sale.places)
exchanged Out share = None

-- what an amount is worth on a day
abbrev pub worth : Priced → ℕ → Shared → Option Shared
worth market day share = exchanged (exchange_on market day share.0) share

-- a taking with what its amount is worth on the day that is told for it, without an amount where that is out of range
abbrev pub valued : Priced → (ℕ → ℕ) → Taken → Taken
valued market when t = record {
  account = t.account;
  day = t.day;
  amount = option_and_then (worth market (when t.day)) t.amount;
}
