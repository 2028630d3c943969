-- What is known of rates and exchanges while amounts are valued.
use Rattle.std.specs.Prelude.{◌≡◌, ℕ, List, Option, Some, None, IfSome, is_some, Result, Ok, true}
use Rattle.std.specs.BTreeMap.{is_at}
use Rattle.std.specs.Map.{lookup}
use Rattle.prices.specs.Chains.{priced_on}
use Rattle.prices.specs.Fraction.{Fraction}
use Rattle.prices.specs.Tables.{AreRates, rate_in}
use Rattle.prices.specs.declared.quote.Quote.{Quote}
use Rattle.prices.specs.declared.rate.RateRange.{RateRange}
use Rattle.prices.specs.declared.table.Table.{Table}
use Rattle.report_cells.specs.Taken.{Shared}
use Rattle.report_values.specs.DayKeys.{day_cmp}
use Rattle.report_values.specs.Worth.{Priced, exchange_on, exchanged}
use Rattle.report_values.specs.declared.exchange.Exchange.{Exchange}
use Rattle.report_values.specs.declared.known.Known.{Known}

-- what is kept under a day and a symbol
abbrev pub kept_at : {V : Type 0} → List ((ℕ × List ℕ) × V) → ℕ → List ℕ → Option V
kept_at kept day symbol = lookup (is_at (day_cmp (day, symbol))) kept

-- each table that is kept tells the rates of its day in its target
abbrev pub AreTables : List Quote → List ((ℕ × List ℕ) × Table) → Type 0
AreTables quotes kept = (day : ℕ) → (target : List ℕ) → IfSome (kept_at kept day target) (AreRates (priced_on quotes day) target)

-- each exchange that is kept is that of its symbol on its day
abbrev pub AreExchanges : Priced → List ((ℕ × List ℕ) × Exchange) → Type 0
AreExchanges market kept = (day : ℕ) → (symbol : List ℕ) → IfSome (kept_at kept day symbol) (λ exchange. exchange ≡ exchange_on market day symbol)

pub record IsRight (market : Priced) (known : Known) : Type 0 where
  pub tables : AreTables market.quotes known.tables.entries
  pub exchanges : AreExchanges market known.exchanges.entries

-- a rate by a table, if there is one
abbrev pub rate_by : Option Table → List ℕ → Result (Option Fraction) RateRange
rate_by None symbol = Ok None
rate_by (Some table) symbol = rate_in table symbol

-- the exchange of a symbol on a day is kept
abbrev pub IsKnown : Priced → Known → ℕ → List ℕ → Type 0
IsKnown market known day symbol = kept_at known.exchanges.entries day symbol ≡ Some (exchange_on market day symbol)

-- that of an amount, if it is there
abbrev pub IsPrepared : Priced → Known → ℕ → Option Shared → Type 0
IsPrepared market known day None = Unit {0}
IsPrepared market known day (Some share) = IsKnown market known day share.0

-- an amount by an exchange, if there is one
abbrev pub exchanged_by : Option Exchange → Shared → Option Shared
exchanged_by None share = None
exchanged_by (Some exchange) share = exchanged exchange share
