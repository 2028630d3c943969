-- The order of the entries of a file.
use Rattle.std.specs.Prelude.{Bool, false, ◌||◌, ◌==◌, nat_lt, nat_le, List, [], ◌∷◌, reverse, Option, Some, None, if◌then◌else◌}
use Rattle.std.specs.List.{flat_map}
use Rattle.book.specs.ByDay.{by_day}
use Rattle.book.specs.declared.transaction.Txn.{Txn}
use Rattle.csv_rules.specs.declared.kinds.Settings.{Settings}

abbrev pub is_later : Option Txn → Option Txn → Bool
is_later (Some a) (Some b) = nat_lt b.day.0 a.day.0
is_later _ _ = false

abbrev pub first_of : List Txn → Option Txn
first_of [] = None
first_of (t ∷ ts) = Some t

-- the first day is later than the last
abbrev pub is_falling : List Txn → Bool
is_falling ts = is_later (first_of ts) (first_of (reverse ts))

-- an entry before the runs of those behind it
abbrev pub into_runs : Txn → List (List Txn) → List (List Txn)
into_runs t [] = (t ∷ []) ∷ []
into_runs t ([] ∷ rs) = (t ∷ []) ∷ rs
into_runs t ((u ∷ r) ∷ rs) = if t.day.0 == u.day.0 then (t ∷ u ∷ r) ∷ rs else (t ∷ []) ∷ (u ∷ r) ∷ rs

-- the runs of entries of one day
abbrev pub runs_of : List Txn → List (List Txn)
runs_of [] = []
runs_of (t ∷ ts) = into_runs t (runs_of ts)

abbrev pub turned : Bool → List Txn → List Txn
turned turns ts = if turns then reverse ts else ts

-- each run of entries of one day turned
abbrev pub turned_runs : List Txn → List Txn
turned_runs ts = flat_map reverse (runs_of ts)

abbrev pub days_turned : Bool → List Txn → List Txn
days_turned turns ts = if turns then turned_runs ts else ts

-- The entries of a file in order: turned where the newest stand first, or where the first day is later than the last; then
-- each run of one day turned where the rules say so; then by day.
abbrev pub in_order : Settings → List Txn → List Txn
in_order settings ts = by_day (days_turned settings.reversed_days (turned (settings.newest_first || is_falling ts) ts))
