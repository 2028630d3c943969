-- A journal that is made of a row of numbers.
use Rattle.std.specs.Prelude.{ℕ, zero, suc, ◌+◌, ◌*◌, ◌/◌, ◌%◌, Bool, false, ◌||◌, ◌==◌, if◌then◌else◌, List, [], ◌∷◌, ◌++◌, codes}
use Rattle.std.specs.Fmt.{decimal}
use Rattle.hl_time.specs.Shown.{day_text}

-- the number behind another one
unfoldable pub next_number : ℕ → ℕ
next_number number = (number * 1103515245 + 12345) % 2147483648

-- the row begins with the count of the entries
abbrev pub number_at : ℕ → ℕ → ℕ
number_at count zero = count
number_at count (suc i) = next_number (number_at count i)

-- the number of an entry, the kind of its expense, and what it spends, in cents
abbrev pub number_of : ℕ → ℕ → ℕ
number_of count i = number_at count (suc i)

unfoldable pub kind_of : ℕ → ℕ
kind_of number = number % 10

unfoldable pub cents_of : ℕ → ℕ
cents_of number = 1 + (number / 10) % 100000

-- what the first entries spend
abbrev pub spent_by : ℕ → ℕ → ℕ
spent_by count zero = 0
spent_by count (suc i) = spent_by count i + cents_of (number_of count i)

-- cents, in euros
abbrev pub two_digits : ℕ → List ℕ
two_digits n = (48 + n / 10) ∷ (48 + n % 10) ∷ []

unfoldable pub money : ℕ → List ℕ
money cents = decimal (cents / 100) ++ codes "." ++ two_digits (cents % 100) ++ codes " EUR"

-- fifty entries a day, from 2024-01-01 on
unfoldable pub head_line : ℕ → List ℕ
head_line i = day_text (738886 + i / 50) ++ codes " sample " ++ decimal i ++ codes "\n"

unfoldable pub spending_line : ℕ → List ℕ
spending_line number = codes "    expenses:e" ++ decimal (kind_of number) ++ codes "  " ++ money (cents_of number) ++ codes "\n"

-- each hundredth entry says what the bank holds
unfoldable pub asserting_line : ℕ → ℕ → List ℕ
asserting_line cents spent = (codes "    assets:bank  -" ++ money cents) ++ (codes " = -" ++ money spent) ++ codes "\n"

unfoldable pub paying_line : ℕ → ℕ → ℕ → List ℕ
paying_line i cents spent = if i % 100 == 99 then asserting_line cents spent else codes "    assets:bank\n"

unfoldable pub entry : ℕ → ℕ → ℕ → List ℕ
entry i number spent = head_line i ++ spending_line number ++ paying_line i (cents_of number) spent

abbrev pub entry_of : ℕ → ℕ → List ℕ
entry_of count i = entry i (number_of count i) (spent_by count (suc i))

-- the first entries, and all of them
abbrev pub entries : ℕ → ℕ → List ℕ
entries count zero = []
entries count (suc i) = entries count i ++ entry_of count i

abbrev pub sample_text : ℕ → List ℕ
sample_text count = entries count count

-- a kind of expense stands in one of the first entries
abbrev pub is_used : ℕ → ℕ → ℕ → Bool
is_used count kind zero = false
is_used count kind (suc i) = is_used count kind i || (kind_of (number_of count i) == kind)

abbrev pub one_if : Bool → ℕ
one_if used = if used then 1 else 0

-- how many of the first kinds stand in the sample
abbrev pub kinds_used : ℕ → ℕ → ℕ
kinds_used count zero = 0
kinds_used count (suc kind) = kinds_used count kind + one_if (is_used count kind count)

-- what is said of a sample and its length: its accounts are those of the kinds and the bank's
unfoldable pub sample_line : ℕ → ℕ → List ℕ
sample_line count bytes =
    (codes "transactions " ++ decimal count) ++ (codes ", bytes " ++ decimal bytes) ++ (codes ", accounts " ++ decimal (1 + kinds_used count 10))
    ++ (codes ", bank -" ++ money (spent_by count count)) ++ codes "\n"
