-- What is kept tells the sums of some takings.
use Rattle.std.specs.Prelude.{◌≡◌, ℕ, ◌-◌, ◌*◌, ◌^◌, ◌<◌, max, Bool, false, ◌&&◌, List, filter}
use Rattle.std.specs.List.{list_any}
use Rattle.std.specs.Str.{bytes_eq}
use Rattle.hl_time.specs.declared.spans.Span.{Span}
use Rattle.live_index.specs.Rows.{TurnoverFits, places_of}
use Rattle.live_index.specs.Standing.{standing}
use Rattle.report_cells.specs.Bounds.{places_in, turnover_in}
use Rattle.report_cells.specs.Taken.{Taken, sum_in}
use Rattle.index_cells.specs.Days.{holds}
use Rattle.index_cells.specs.Keys.{AreInOrder, EachOnce, is_in}
use Rattle.index_cells.specs.Over.{sum_over}
use Rattle.index_cells.specs.declared.kept.Kept.{Kept}

-- a taking of an account
abbrev pub is_of : List ℕ → Taken → Bool
is_of account t = bytes_eq t.account account

-- on one of the days
abbrev pub is_on : List ℕ → Span → Taken → Bool
is_on account days t = is_of account t && holds days t.day

-- the takings on the days of a span
abbrev pub taken_on : Span → List Taken → List Taken
taken_on days ts = filter (λ t. holds days t.day) ts

-- the rows that stand keep the bound on turnovers, and no account or symbol stands twice
pub record IsReady (kept : Kept) : Type 0 where
  pub sums_fit : TurnoverFits (standing kept.sums)
  pub ordered : AreInOrder kept.accounts
  pub once : EachOnce kept.symbols

-- The rows have the sums of the takings, over any days. All accounts are named, and all symbols in which
-- an amount isn't zero. In each symbol the absolute amounts, in units of the greatest number of decimals of the takings
-- and the rows, sum to less than 2^127.
pub record Tells (ts : List Taken) (kept : Kept) : Type 0 where
  pub ready : IsReady kept
  pub sums : (account symbol : List ℕ) (days : Span)
      → sum_over (standing kept.sums) account symbol days ≡ sum_in symbol (filter (is_on account days) ts)
  pub accounts : (account : List ℕ) → is_in account kept.accounts ≡ false → list_any (is_of account) ts ≡ false
  pub symbols : (symbol : List ℕ) → is_in symbol kept.symbols ≡ false → turnover_in symbol ts ≡ 0
  pub fits : (symbol : List ℕ)
      → turnover_in symbol ts < 2 ^ 127 * 10 ^ (36 - max (places_in symbol ts) (places_of symbol (standing kept.sums)))
