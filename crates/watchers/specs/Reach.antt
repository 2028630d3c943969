-- Which watches a change of an account's balance reaches.
use Rattle.std.specs.Prelude.{◌≡◌, ℕ, ◌==◌, nat_eq, Bool, true, false, ◌&&◌, ◌||◌, List, [], ◌∷◌, ◌++◌, length, filter, Option, Some, None, if◌then◌else◌}
use Rattle.std.specs.List.{list_any, starts_with}
use Rattle.std.specs.Str.{bytes_eq}
use Rattle.std.specs.Ordering.{is_eq, is_lt}
use Rattle.hl_base.specs.Ascii.{colon}
use Rattle.book.specs.declared.transaction.Txn.{Txn}
use Rattle.book.specs.Standing.{Numbered}
use Rattle.book.specs.SumsBefore as sums
use Rattle.watchers.specs.declared.watch.Place.{Place}
use Rattle.watchers.specs.declared.watch.Watch.{Watch}
use Rattle.watchers.specs.Order.{kind_cmp, place_cmp}
use Rattle.watchers.specs.Watches.{watches_of}

-- a place, as one of a book's postings
abbrev pub place_of : Place → sums.Place
place_of p = record { day = p.day.0; txn = p.txn; posting = p.posting }

abbrev pub is_before : Place → Place → Bool
is_before a b = sums.is_before (place_of a) (place_of b)

abbrev pub is_at : Place → Place → Bool
is_at a b = is_eq (place_cmp a b)

-- a change of an account at a place is asked for by a watch after it, on this account, or on one above it whose
-- subaccounts count
abbrev pub is_reached : List ℕ → Place → Watch → Bool
is_reached account place w = is_before place w.place && sums.is_of w.account w.below account

-- the watches that it reaches
abbrev pub reached : Numbered Txn → List ℕ → Place → List Watch
reached standing account place = filter (is_reached account place) (watches_of standing)

-- It is the place of one of some watches, none of which comes before it; there is none where there are no watches.
abbrev pub IsNextOf : List Watch → Option Place → Type 0
IsNextOf watches None = watches ≡ []
IsNextOf watches (Some place) =
    (list_any (λ w. is_at place w.place) watches ≡ true) × (list_any (λ w. is_before w.place place) watches ≡ false)

-- ---- as they are looked for

-- It is the first place of a watch that passes a test.
abbrev pub IsFirst : (Watch → Bool) → List Watch → Option Place → Type 0
IsFirst test watches None = list_any test watches ≡ false
IsFirst test watches (Some place) =
    (list_any (λ w. test w && is_at place w.place) watches ≡ true)
    × (list_any (λ w. test w && is_lt (place_cmp w.place place)) watches ≡ false)

abbrev pub earlier_of : Place → Place → Place
earlier_of a b = if is_lt (place_cmp b a) then b else a

-- the earlier of two places, where there are two
abbrev pub earlier : Option Place → Option Place → Option Place
earlier None b = b
earlier (Some a) None = Some a
earlier (Some a) (Some b) = Some (earlier_of a b)

-- a watch of an account, alone or with the accounts below it, after a place
abbrev pub is_kind : List ℕ → Bool → Place → Watch → Bool
is_kind account below after w = is_eq (kind_cmp account below w) && is_lt (place_cmp after w.place)

-- its place, if it is of the account
abbrev pub place_if : List ℕ → Bool → Watch → Option Place
place_if account below w = if is_eq (kind_cmp account below w) then Some w.place else None

-- a watch of an account above an account that counts the accounts below it, after a place
abbrev pub is_over : List ℕ → Place → Watch → Bool
is_over account after w =
    (w.below && starts_with nat_eq account (w.account ++ colon ∷ [])) && is_lt (place_cmp after w.place)

-- the same, of the account above whose name is so long
abbrev pub is_over_at : List ℕ → ℕ → Place → Watch → Bool
is_over_at account end after w = is_over account after w && (length w.account == end)

-- a watch of the account itself, or of one above it
abbrev pub reaches : List ℕ → Place → Watch → Bool
reaches account after w = (is_kind account false after w || is_kind account true after w) || is_over account after w
