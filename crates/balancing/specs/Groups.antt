-- Groups: the postings of one transaction on one day, in the order of days and transactions.
use Rattle.std.specs.Prelude.{ℕ, ◌+◌, Bool, true, ◌&&◌, List, [], ◌∷◌, ◌++◌, map, unwrap_or}
use Rattle.std.specs.declared.cmp.Ordering.{Ordering}
use Rattle.std.specs.Ordering.{nat_cmp, is_lt, ordering_then}
use Rattle.book.specs.declared.transaction.Posting.{Posting}
use Rattle.book.specs.declared.transaction.Txn.{Txn}
use Rattle.book.specs.Order.{each_once}

-- the day of a posting: its own, else that of its transaction
abbrev pub day_of : Txn → Posting → ℕ
day_of t p = (unwrap_or p.day t.day).0

-- a group is named by its day and its transaction's number
abbrev pub Group : Type 0
Group = ℕ × ℕ

abbrev pub group_cmp : Group → Group → Ordering
group_cmp g h = ordering_then (nat_cmp g.0 h.0) (nat_cmp g.1 h.1)

-- the groups of a transaction's postings, and an empty one on its own day where it has none
abbrev pub groups_by : ℕ → Txn → List Posting → List Group
groups_by n t [] = (t.day.0, n) ∷ []
groups_by n t (p ∷ ps) = map (λ q. (day_of t q, n)) (p ∷ ps)

abbrev pub groups_from : ℕ → List Txn → List Group
groups_from n [] = []
groups_from n (t ∷ ts) = groups_by n t t.postings ++ groups_from (n + 1) ts

-- the groups of some transactions, by day and then by the transaction's number
abbrev pub groups_of : List Txn → List Group
groups_of txns = each_once group_cmp (groups_from 0 txns)

abbrev pub rises_from : Group → List Group → Bool
rises_from g [] = true
rises_from g (h ∷ gs) = is_lt (group_cmp g h) && rises_from h gs

-- each group stands before the next one
abbrev pub is_rising : List Group → Bool
is_rising [] = true
is_rising (g ∷ gs) = rises_from g gs
