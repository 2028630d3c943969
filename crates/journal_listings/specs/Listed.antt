-- Which accounts are listed.
use Rattle.std.specs.Prelude.{◌≡◌, ℕ, Bool, false, ◌&&◌, List, [], ◌∷◌, ◌++◌, map, filter, None}
use Rattle.std.specs.List.{flat_map}
use Rattle.hl_base.specs.Ascii.{line_feed}
use Rattle.book.specs.Accounts.{account_cmp}
use Rattle.book.specs.Order.{each_once}
use Rattle.report_cells.specs.Taken.{Taken}
use Rattle.report_options.specs.declared.options.Options.{Options}
use Rattle.report_takings.specs.Asking.{Question, entries}
use Rattle.report_takings.specs.Costs.{is_at_cost}
use Rattle.report_takings.specs.Cuts.{cut_to}
use Rattle.report_takings.specs.Entries.{Entry, day_in}
use Rattle.report_takings.specs.Spans.{span_of}
use Rattle.report_takings.specs.Takings.{holds, is_historical}

-- its day lies in the report's span, and the query means it
abbrev pub is_listed : Question → Entry → Bool
is_listed asked entry = holds (span_of asked) (day_in entry) && asked.means entry

-- the account of a posting, cut to the query's depth
abbrev pub account_shown : Question → Entry → List ℕ
account_shown asked entry = cut_to asked.depth entry.0.account

-- the accounts of the postings that are listed, one for each
abbrev pub accounts_shown : Question → List (List ℕ)
accounts_shown asked = map (account_shown asked) (filter (is_listed asked) (entries asked))

-- some accounts, a line for each
abbrev pub account_lines : List (List ℕ) → List ℕ
account_lines accounts = flat_map (λ account. account ++ line_feed ∷ []) accounts

-- the line of each of these accounts, in the order of accounts, each once
abbrev pub accounts_text : Question → List ℕ
accounts_text asked = account_lines (each_once account_cmp (accounts_shown asked))

-- options that say nothing but bounds: no interval, sums that begin nowhere else and count no costs, and no earlier accounts
pub record AreBounds (options : Options) : Type 0 where
  pub whole : options.bounds.interval ≡ None
  pub change : is_historical options.start ≡ false
  pub amounts : is_at_cost options ≡ false
  pub few : options.empty ≡ false

-- the accounts of what is taken
abbrev pub named : List Taken → List (List ℕ)
named takings = map (λ (taking : Taken). taking.account) takings

-- what is taken of a posting, without its amount
abbrev pub without_amount : Taken → Taken
without_amount taken = record { account = taken.account; day = taken.day; amount = None }
