-- Which goals an account counts for, and what counts for them.
use Rattle.std.specs.Prelude.{ℕ, Bool, false, is_none, List, [], ◌∷◌, map, filter, codes, Option, Some, None, if◌then◌else◌}
use Rattle.std.specs.List.{list_any}
use Rattle.std.specs.Option.{option_or}
use Rattle.std.specs.Str.{bytes_eq}
use Rattle.balance_rows.specs.declared.layout.Basis.{Basis}
use Rattle.balance_rows.specs.declared.layout.Order.{Order}
use Rattle.balance_rows.specs.declared.layout.Order.TheVariants.{Accounts, Amounts, Tree}
use Rattle.balance_rows.specs.Layouts.{by_amounts}
use Rattle.balance_rows.specs.Rows.{Row, shown_rows}
use Rattle.balance_rows.specs.Trees.{column_sums, lineage}

-- an account has goals
abbrev pub has_goals : List Row → List ℕ → Bool
has_goals goals account = list_any (λ goal. bytes_eq account goal.0) goals

-- the last of some accounts that has goals
abbrev pub last_with : List Row → List (List ℕ) → Option (List ℕ)
last_with goals [] = None
last_with goals (account ∷ accounts) =
    option_or (last_with goals accounts) (if has_goals goals account then Some account else None)

-- the account that another one counts for: itself, or else the nearest above it, of those that have goals
abbrev pub counts_for : List Row → List ℕ → Option (List ℕ)
counts_for goals account = last_with goals (lineage account)

-- it is that account
abbrev pub is_for : List ℕ → Option (List ℕ) → Bool
is_for name None = false
is_for name (Some account) = bytes_eq account name

-- the rows that count for an account with goals
abbrev pub counted : List Row → List ℕ → List Row → List Row
counted goals name rows = filter (λ row. is_for name (counts_for goals row.0)) rows

-- those that count for none
abbrev pub uncounted : List Row → List Row → List Row
uncounted goals rows = filter (λ row. is_none (counts_for goals row.0)) rows

-- a row for each account with goals: the sums of what counts for it
abbrev pub goal_rows : ℕ → List Row → List Row → List Row
goal_rows columns goals rows = map (λ goal. (goal.0, column_sums columns (counted goals goal.0 rows))) goals

-- the row of what counts for none, unless it is zero
abbrev pub rest_rows : ℕ → List Row → List Row → List Row
rest_rows columns goals rows =
    shown_rows false ((codes "<unbudgeted>", column_sums columns (uncounted goals rows)) ∷ [])

-- by their amounts where that is asked for, else by their accounts; a budget has no tree
abbrev pub ordered : Order → Basis → List Row → List Row
ordered Accounts basis rows = rows
ordered Amounts basis rows = by_amounts basis rows
ordered Tree basis rows = rows
