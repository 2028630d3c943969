-- Transactions in the order of their days.
use Rattle.std.specs.Prelude.{ℕ, nat_le, Bool, true, ◌&&◌, ◌==◌, List, [], ◌∷◌, if◌then◌else◌}
use Rattle.std.specs.List.{filter, list_all}
use Rattle.book.specs.declared.transaction.Txn.{Txn}

-- each transaction is of the same day as those before it, or of a later one
abbrev pub is_ordered : List Txn → Bool
is_ordered [] = true
is_ordered (t ∷ ts) = list_all (λ u. nat_le t.day.0 u.day.0) ts && is_ordered ts

-- the transactions of a day
abbrev pub on_day : ℕ → List Txn → List Txn
on_day day ts = filter (λ t. t.day.0 == day) ts

-- a transaction before those of its day and of later ones
abbrev pub insert_by_day : Txn → List Txn → List Txn
insert_by_day t [] = t ∷ []
insert_by_day t (u ∷ us) = if nat_le t.day.0 u.day.0 then t ∷ u ∷ us else u ∷ insert_by_day t us

-- sorted by day, and on one day in the order in which they stand
abbrev pub by_day : List Txn → List Txn
by_day [] = []
by_day (t ∷ ts) = insert_by_day t (by_day ts)
