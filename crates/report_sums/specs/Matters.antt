-- What the sums of a report are made of.
use Rattle.std.specs.Prelude.{ℕ, Bool, ◌||◌, is_some, List}
use Rattle.book.specs.Styles.{style_in}
use Rattle.book.specs.declared.style.Style.{Style}
use Rattle.prices.specs.declared.quote.Quote.{Quote}
use Rattle.report_takings.specs.Asking.{Question, question_of}
use Rattle.report_takings.specs.Spans.{given_end}
use Rattle.report_values.specs.Days.{Dated}
use Rattle.report_values.specs.Worth.{Priced}
use Rattle.report_sums.specs.Ways.{target_in}
use Rattle.report_sums.specs.declared.job.Job.{Job}

-- what is asked, the styles of symbols, and the prices of the text
pub record Matter : Type 0 where
  pub asked : Question
  pub style : List ℕ → Style
  pub quotes : List Quote

abbrev pub matter_of : Job → Matter
matter_of job = record {
  asked = question_of job.scope;
  style = style_in job.styles.now;
  quotes = job.prices.now;
}

-- by what its amounts are valued
abbrev pub market_in : Matter → Priced
market_in m = record { quotes = m.quotes; style = m.style; target = target_in m.asked.options.value }

-- the report has an interval, or an end that is given
abbrev pub is_bounded : Question → Bool
is_bounded asked = is_some asked.options.bounds.interval || is_some (given_end asked)

-- what decides on which days it is valued
abbrev pub dated_in : Matter → Dated
dated_in m = record { is_bounded = is_bounded m.asked; txns = m.asked.txns; quotes = m.quotes; day = m.asked.day }
