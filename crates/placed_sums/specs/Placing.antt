-- Places by day and number: how they are put in, and where they are found.
use Rattle.std.specs.Prelude.{ℕ, suc, ◌==◌, Bool, false, ◌&&◌, not, List, [], ◌∷◌, ◌++◌, filter, Option, None, Some, unwrap_or, if◌then◌else◌}
use Rattle.book.specs.declared.transaction.Posting.{Posting}
use Rattle.book.specs.declared.transaction.Txn.{Txn}
use Rattle.placed_sums.specs.Days.{is_below}
use Rattle.placed_sums.specs.declared.on_day.OnDay.{OnDay}

abbrev pub is_same : OnDay → OnDay → Bool
is_same a b = (a.day.0 == b.day.0) && (a.number == b.number)

-- a place among others in their order, once
abbrev pub with_place : OnDay → List OnDay → List OnDay
with_place place [] = place ∷ []
with_place place (other ∷ others) =
    if is_below other place then other ∷ with_place place others
    else (if is_same other place then other ∷ others else place ∷ other ∷ others)

-- how many stand before the first that isn't below a place
abbrev pub below_count : OnDay → List OnDay → ℕ
below_count place [] = 0
below_count place (other ∷ others) = if is_below other place then suc (below_count place others) else 0

-- a place is there, and is the same
abbrev pub is_found : OnDay → Option OnDay → Bool
is_found place None = false
is_found place (Some other) = is_same other place

abbrev pub place_on : ℕ → Txn → Posting → OnDay
place_on number t p = record { day = unwrap_or p.day t.day; number = number }

-- with those of a transaction's postings
abbrev pub with_postings : ℕ → Txn → List OnDay → List Posting → List OnDay
with_postings number t places [] = places
with_postings number t places (p ∷ ps) = with_postings number t (with_place (place_on number t p) places) ps

abbrev pub with_txn : ℕ → Txn → List OnDay → List OnDay
with_txn number t places = with_postings number t places t.postings

-- without those of the transaction with a number
abbrev pub without_number : ℕ → List OnDay → List OnDay
without_number number places = filter (λ place. not (place.number == number)) places

-- the places of some transactions, counted from a number, one transaction after the other
abbrev pub text_places : ℕ → List Txn → List OnDay
text_places number [] = []
text_places number (t ∷ ts) = with_txn number t [] ++ text_places (suc number) ts
