-- The sums of a report by account and column.
use Rattle.std.specs.Prelude.{ℕ, ℤ, Bool, ◌&&◌, nat_lt, nat_le, List, map, filter}
use Rattle.std.specs.Str.{bytes_eq}
use Rattle.hl_num.specs.Decimal.{Decimal, units_of}
use Rattle.hl_time.specs.declared.spans.Span.{Span}
use Rattle.book.specs.Accounts.{account_cmp}
use Rattle.book.specs.Order.{each_once}
use Rattle.report_cells.specs.Taken.{Taken, mixed_in}
use Rattle.report_cells.specs.declared.cells.CellRow.{CellRow}
use Rattle.report_cells.specs.declared.reach.Reach.{Reach}
use Rattle.report_cells.specs.declared.reach.Reach.TheVariants.{Within, UpTo}

-- sums of several symbols: each symbol with its exact value, in units of 10^-36
abbrev pub Sums : Type 0
Sums = List (List ℕ × ℤ)

-- a column counts the takings of its days, or all before its end
abbrev pub counts : Reach → Span → Taken → Bool
counts Within column t = nat_le column.from t.day && nat_lt t.day column.end
counts UpTo column t = nat_lt t.day column.end

-- the sums of an account in a column
abbrev pub cell : Reach → List Taken → Span → List ℕ → Sums
cell reach ts column account = mixed_in (filter (λ t. bytes_eq t.account account && counts reach column t) ts)

-- the accounts, in their order, each once
abbrev pub accounts_in : List Taken → List (List ℕ)
accounts_in ts = each_once account_cmp (map (λ t. t.account) ts)

-- a row for each account, with a cell for each column
abbrev pub rows_in : Reach → List Span → List Taken → List (List ℕ × List Sums)
rows_in reach columns ts =
    map (λ account. (account, map (λ column. cell reach ts column account) columns)) (accounts_in ts)

-- the sums of all accounts in each column
abbrev pub totals_in : Reach → List Span → List Taken → List Sums
totals_in reach columns ts = map (λ column. mixed_in (filter (counts reach column) ts)) columns

-- what kept sums say: each symbol with its exact value
abbrev pub seen : List (List ℕ × Decimal) → Sums
seen entries = map (λ entry. (entry.0, units_of entry.1)) entries

-- what a row says
abbrev pub row_seen : CellRow → List ℕ × List Sums
row_seen row = (row.account, map seen row.cells)
