-- Sums that are kept for the accounts that assertions ask for.
use Rattle.std.specs.Prelude.{◌≡◌, ℕ, ◌<◌, Bool, true, false, ◌&&◌, nat_lt, List, [], ◌∷◌, ◌++◌, map, length, slice_index_or, Option, Some, None, is_some, if◌then◌else◌}
use Rattle.std.specs.List.{list_all}
use Rattle.std.specs.Str.{bytes_eq}
use Rattle.book.specs.Entries.{held}
use Rattle.book.specs.declared.amount.Assertion.{Assertion}
use Rattle.book.specs.declared.transaction.Posting.{Posting}
use Rattle.book.specs.declared.transaction.Txn.{Txn}
use Rattle.entry_balance.specs.Values.{Value}
use Rattle.entry_balance.specs.Tally.{sums_of}
use Rattle.assertions.specs.Assertions.{held_in, lies_under}

-- names of accounts, the place of each among them, and the sums that are kept for each
abbrev pub Keeping : Type 0
Keeping = List (List ℕ) × List (List ℕ × ℕ) × List (List Value)

-- sums are kept for an account
abbrev pub keeps : List ℕ → Keeping → Bool
keeps name k = is_some (held name k.1)

-- The sums that are kept for each account are those of its values.
pub record IsKept (values : List ℕ → List Value) (k : Keeping) : Type 0 where
  pub found : (j : ℕ) (d : List ℕ) → j < length k.0 → held (slice_index_or k.0 j d) k.1 ≡ Some j
  pub within : (a : List ℕ) (j : ℕ) → held a k.1 ≡ Some j → j < length k.0
  pub named : (a : List ℕ) (j : ℕ) (d : List ℕ) → held a k.1 ≡ Some j → slice_index_or k.0 j d ≡ a
  pub sums : k.2 ≡ map (λ name. sums_of (values name)) k.0

abbrev pub no_values : List ℕ → List Value
no_values name = []

-- values of an account after one more of a name
abbrev pub and_at : (List ℕ → List Value) → List ℕ → Value → List ℕ → List Value
and_at values name v a = values a ++ (if bytes_eq a name then v ∷ [] else [])

-- values of an account after one more of an account that is it, or lies under it
abbrev pub and_under : (List ℕ → List Value) → List ℕ → Value → List ℕ → List Value
and_under values account v root = values root ++ (if lies_under account root then v ∷ [] else [])

-- the same as far as the names of the accounts are shorter than so much
abbrev pub and_above : ℕ → (List ℕ → List Value) → List ℕ → Value → List ℕ → List Value
and_above n values account v root = values root ++ (if lies_under account root && nat_lt (length root) n then v ∷ [] else [])

-- The sums that are kept are those of some postings: of accounts alone, and of accounts with those under them.
pub record IsBalance (seen : List Posting) (own below : Keeping) : Type 0 where
  pub alone : IsKept (λ a. held_in false a seen) own
  pub under : IsKept (λ a. held_in true a seen) below

-- sums are kept for an account, with or without those under it
abbrev pub is_kept_for : Keeping → Keeping → List ℕ → Bool → Bool
is_kept_for own below account under = if under then keeps account below else keeps account own

-- sums are kept for what an assertion of an account asks
abbrev pub is_asked_by : Keeping → Keeping → List ℕ → Option Assertion → Bool
is_asked_by own below account None = true
is_asked_by own below account (Some w) = is_kept_for own below account w.below

abbrev pub is_asked : Keeping → Keeping → Posting → Bool
is_asked own below p = is_asked_by own below p.account p.wanted

abbrev pub are_asked : Keeping → Keeping → List Txn → Bool
are_asked own below txns = list_all (λ t. list_all (is_asked own below) t.postings) txns

-- What is kept stays kept.
pub record Stays (own below own' below' : Keeping) : Type 0 where
  pub asked : (p : Posting) → is_asked own below p ≡ true → is_asked own' below' p ≡ true
