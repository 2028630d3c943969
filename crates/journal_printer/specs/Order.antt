-- Transactions in the order of their days, and on one day of their numbers.
use Rattle.std.specs.Prelude.{ℕ, ◌+◌, Bool, true, false, ◌&&◌, List, [], ◌∷◌, unwrap_or}
use Rattle.std.specs.List.{slice_get}
use Rattle.std.specs.declared.cmp.Ordering.{Ordering}
use Rattle.std.specs.Ordering.{nat_cmp, is_lt, ordering_then}
use Rattle.book.specs.declared.transaction.Txn.{Txn}
use Rattle.book.specs.Order.{each_once}

-- a transaction is named by its day and its number
abbrev pub Name : Type 0
Name = ℕ × ℕ

abbrev pub name_cmp : Name → Name → Ordering
name_cmp a b = ordering_then (nat_cmp a.0 b.0) (nat_cmp a.1 b.1)

-- the names of some transactions, numbered from n
abbrev pub names_from : ℕ → List Txn → List Name
names_from n [] = []
names_from n (t ∷ ts) = (t.day.0, n) ∷ names_from (n + 1) ts

-- the names of some transactions, by day and then by number
abbrev pub names_in_order : List Txn → List Name
names_in_order txns = each_once name_cmp (names_from 0 txns)

abbrev pub rises_from : Name → List Name → Bool
rises_from a [] = true
rises_from a (b ∷ bs) = is_lt (name_cmp a b) && rises_from b bs

-- each name stands before the next one
abbrev pub is_rising : List Name → Bool
is_rising [] = true
is_rising (a ∷ bs) = rises_from a bs

-- a transaction is chosen by the item of its number; without one it isn't
abbrev pub is_chosen : List Bool → Name → Bool
is_chosen chosen name = unwrap_or (slice_get chosen name.1) false
