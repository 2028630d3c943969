-- The two statements, and what each of their sections shows.
use Rattle.std.specs.Prelude.{ℕ, Bool, ◌||◌, ◌==◌, true, false, List, codes, Option, Some, None}
use Rattle.statements.specs.declared.statement.Part.{Part}
use Rattle.statements.specs.declared.statement.Part.TheVariants.{Revenues, Expenses, Assets, Liabilities}
use Rattle.statements.specs.declared.statement.Statement.{Statement}
use Rattle.statements.specs.declared.statement.Statement.TheVariants.{Income, Sheet}
use Rattle.query.specs.Letters.{asset, cash, expense, liability, revenue}

-- what stands before the days in its title
abbrev pub title_of : Statement → List ℕ
title_of Income = codes "Income Statement "
title_of Sheet = codes "Balance Sheet "

-- its sections
abbrev pub first_of : Statement → Part
first_of Income = Revenues
first_of Sheet = Assets

abbrev pub second_of : Statement → Part
second_of Income = Expenses
second_of Sheet = Liabilities

abbrev pub name_of : Part → List ℕ
name_of Revenues = codes "Revenues"
name_of Expenses = codes "Expenses"
name_of Assets = codes "Assets"
name_of Liabilities = codes "Liabilities"

-- the letters of a section's accounts: R, X, A and C, or L
abbrev pub has_letter : Part → ℕ → Bool
has_letter Revenues letter = letter == revenue
has_letter Expenses letter = letter == expense
has_letter Assets letter = letter == asset || letter == cash
has_letter Liabilities letter = letter == liability

-- an account without a letter is in none
abbrev pub has_account : Part → Option ℕ → Bool
has_account part None = false
has_account part (Some letter) = has_letter part letter

-- its amounts are shown with the other sign
abbrev pub is_turned : Part → Bool
is_turned Revenues = true
is_turned Expenses = false
is_turned Assets = false
is_turned Liabilities = true
