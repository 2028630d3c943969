-- What an import adds to a journal, and what it remembers.
use Rattle.std.specs.Prelude.{ℕ, ◌==◌, nat_lt, nat_le, max, Bool, true, ◌&&◌, List, [], ◌∷◌, ◌++◌, filter, length, drop, Option, Some, None}
use Rattle.std.specs.List.{fold, list_all}
use Rattle.hl_base.specs.declared.change.Latest.{Latest}
pub use Rattle.book.specs.ByDay.{is_ordered, on_day}
use Rattle.book.specs.declared.transaction.Txn.{Txn}

-- the entries before a day
abbrev pub before_day : ℕ → List Txn → List Txn
before_day day ts = filter (λ t. nat_lt t.day.0 day) ts

-- the entries after a day
abbrev pub after_day : ℕ → List Txn → List Txn
after_day day ts = filter (λ t. nat_lt day t.day.0) ts

-- the greatest day of some entries
abbrev pub greatest_day : List Txn → ℕ
greatest_day ts = fold (λ day t. max day t.day.0) 0 ts

-- The entries that are new after an import state: of its day all but the first so many, and those after it.
abbrev pub new_after : Option Latest → List Txn → List Txn
new_after None ts = ts
new_after (Some state) ts = drop state.count (on_day state.day ts) ++ after_day state.day ts

-- The state after an import of a file: the greatest new day, and how many entries of it the file has. With nothing new
-- it stays.
abbrev pub state_by : List ℕ → Option Latest → List Txn → List Txn → Option Latest
state_by name state ts [] = state
state_by name state ts (n ∷ new) =
    Some (record { name = name; day = greatest_day (n ∷ new); count = length (on_day (greatest_day (n ∷ new)) ts) })

abbrev pub state_after : List ℕ → Option Latest → List Txn → Option Latest
state_after name state ts = state_by name state ts (new_after state ts)
