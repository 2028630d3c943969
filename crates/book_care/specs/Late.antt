-- The first posting after a day.
use Rattle.std.specs.Prelude.{ℕ, nat_lt, Bool, List, [], ◌∷◌, filter, Option, Some, None, unwrap_or, if◌then◌else◌}
use Rattle.book.specs.SumsBefore.{Place, is_before, number_in, placed_from}
use Rattle.book.specs.declared.transaction.Posting.{Posting}
use Rattle.book.specs.declared.transaction.Txn.{Txn}

-- a posting at its place
abbrev pub At : Type 0
At = Place × Posting

abbrev pub is_late : ℕ → At → Bool
is_late on at = nat_lt on at.0.day

-- the postings whose days are after a day
abbrev pub late_postings : ℕ → List Txn → List At
late_postings on txns = filter (is_late on) (placed_from 0 txns)

-- of a posting and another, if there is one, the first by place
abbrev pub sooner : At → Option At → At
sooner at None = at
sooner at (Some other) = if is_before other.0 at.0 then other else at

-- the first by place
abbrev pub first_placed : List At → Option At
first_placed [] = None
first_placed (at ∷ more) = Some (sooner at (first_placed more))

abbrev pub first_late : ℕ → List Txn → Option At
first_late on txns = first_placed (late_postings on txns)

-- ---- gathered from the last posting on

-- a posting at its place in its transaction
abbrev pub at_place : ℕ → Txn → ℕ → Posting → At
at_place number txn n p = (record { day = (unwrap_or p.day txn.day).0; txn = number; posting = number_in txn n p }, p)

abbrev pub with_late : ℕ → At → Option At → Option At
with_late on at least = if is_late on at then Some (sooner at least) else least

abbrev pub gathered : ℕ → List At → Option At → Option At
gathered on [] least = least
gathered on (at ∷ more) least = with_late on at (gathered on more least)
