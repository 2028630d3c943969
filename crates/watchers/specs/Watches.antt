-- The watches of transactions: the places at which their assertions and assignments ask for a balance.
use Rattle.std.specs.Prelude.{◌≡◌, ℕ, suc, ◌==◌, Bool, List, [], ◌∷◌, filter, Option, Some, None}
use Rattle.std.specs.List.{flat_map, list_any}
use Rattle.std.specs.Ordering.{eq_by_cmp}
use Rattle.book.specs.declared.amount.Assertion.{Assertion}
use Rattle.book.specs.declared.transaction.Posting.{Posting}
use Rattle.book.specs.declared.transaction.Txn.{Txn}
use Rattle.book.specs.Standing.{Numbered}
use Rattle.book.specs.SumsBefore as sums
use Rattle.watchers.specs.declared.watch.Place.{Place}
use Rattle.watchers.specs.declared.watch.Watch.{Watch}
use Rattle.watchers.specs.Order.{watch_cmp}

-- a place of a posting
abbrev pub placed_at : sums.Place → Place
placed_at p = record { day = record { 0 = p.day }; txn = p.txn; posting = p.posting }

-- the watch of a posting at a place, if it has an assertion, as an assignment has too
abbrev pub watch_if : Place → Posting → Option Assertion → List Watch
watch_if place p None = []
watch_if place p (Some w) = record { account = p.account; below = w.below; place = place } ∷ []

abbrev pub watch_at : sums.Place × Posting → List Watch
watch_at e = watch_if (placed_at e.0) e.1 e.1.wanted

-- the watches of a transaction under a number
abbrev pub watches_in : ℕ → Txn → List Watch
watches_in number txn = flat_map watch_at (sums.placed_in txn number 0 txn.postings)

-- the watches of the transactions that stand under some numbers
abbrev pub watches_of : Numbered Txn → List Watch
watches_of standing = flat_map (λ e. watches_in e.0 e.1) standing

-- transactions under their places in a list, counted from a number
abbrev pub numbered_from : ℕ → List Txn → Numbered Txn
numbered_from n [] = []
numbered_from n (txn ∷ txns) = (n, txn) ∷ numbered_from (suc n) txns

-- a transaction stands under a number, and no other does
abbrev pub Stands : ℕ → Txn → Numbered Txn → Type 0
Stands n txn standing = filter (λ e. e.0 == n) standing ≡ (n, txn) ∷ []

abbrev pub is_among : Watch → List Watch → Bool
is_among w watches = list_any (eq_by_cmp watch_cmp w) watches

-- The watches are those of the transactions that stand under some numbers.
pub record AreOf (standing : Numbered Txn) (watches : List Watch) : Type 0 where
  pub same : (w : Watch) → is_among w watches ≡ is_among w (watches_of standing)
