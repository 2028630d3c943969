-- The order of rows by their amounts, the greater first.
use Rattle.std.specs.Prelude.{ℕ, ℤ, not, List, [], ◌∷◌, ◌++◌, filter, if◌then◌else◌}
use Rattle.std.specs.declared.cmp.Ordering.{Ordering}
use Rattle.std.specs.declared.cmp.Ordering.TheVariants.{Equal}
use Rattle.std.specs.Ordering.{int_cmp, int_eq, is_lt, ordering_then}
use Rattle.book.specs.Accounts.{account_cmp}
use Rattle.report_cells.specs.Report.{Sums}
use Rattle.balance_rows.specs.Rows.{Row}
use Rattle.balance_rows.specs.Sums.{sum_of, symbols_of}

-- the symbols in which two cells differ, a symbol that is absent being zero
abbrev pub differing : Sums → Sums → List (List ℕ)
differing a b = filter (λ symbol. not (int_eq (sum_of symbol a) (sum_of symbol b))) (symbols_of (a ++ b))

-- the least of these decides, and the greater stands first
abbrev pub by_first : Sums → Sums → List (List ℕ) → Ordering
by_first a b [] = Equal
by_first a b (symbol ∷ symbols) = int_cmp (sum_of symbol b) (sum_of symbol a)

abbrev pub amount_cmp : Sums → Sums → Ordering
amount_cmp a b = by_first a b (differing a b)

-- rows by an amount of each, and then by their accounts
abbrev pub row_cmp : (Row → Sums) → Row → Row → Ordering
row_cmp amount a b = ordering_then (amount_cmp (amount a) (amount b)) (account_cmp a.0 b.0)

-- an item among items that are in order: before the first that doesn't stand before it
abbrev pub placed : {X : Type 0} → (X → X → Ordering) → X → List X → List X
placed cmp item [] = item ∷ []
placed cmp item (other ∷ others) =
    if is_lt (cmp other item) then other ∷ placed cmp item others else item ∷ other ∷ others

-- items in an order
abbrev pub sorted : {X : Type 0} → (X → X → Ordering) → List X → List X
sorted cmp [] = []
sorted cmp (item ∷ items) = placed cmp item (sorted cmp items)
