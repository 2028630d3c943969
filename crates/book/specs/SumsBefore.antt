-- Sums of an account over the postings of a book before a place.
use Rattle.std.specs.Prelude.{◌≡◌, ◌≤◌, ℕ, suc, ◌+◌, ℤ, nat_eq, nat_lt, ◌==◌, Bool, ◌&&◌, ◌||◌, not, List, [], ◌∷◌, ◌++◌, length, map, filter, find, Option, unwrap_or, is_some, if◌then◌else◌}
use Rattle.std.specs.List.{starts_with, list_any}
use Rattle.std.specs.Option.{option_map}
use Rattle.std.specs.Str.{bytes_eq}
use Rattle.hl_base.specs.Ascii.{colon}
use Rattle.hl_base.specs.Counts.{Counts}
use Rattle.hl_time.specs.declared.day.Day.{Day}
use Rattle.book.specs.declared.transaction.Posting.{Posting}
use Rattle.book.specs.declared.transaction.Txn.{Txn}
use Rattle.book.specs.Sums.{sum_of, mixed_of}

-- The place of a posting: its day, the number of its transaction in the text, and its own number in the transaction.
-- Both numbers count from 0.
pub record Place : Type 0 where
  pub day : ℕ
  pub txn : ℕ
  pub posting : ℕ

-- by day, then by transaction, then by posting
abbrev pub is_before : Place → Place → Bool
is_before a b =
    nat_lt a.day b.day
    || ((a.day == b.day) && (nat_lt a.txn b.txn || ((a.txn == b.txn) && nat_lt a.posting b.posting)))

-- before all postings of a day
abbrev pub start_of : Day → Place
start_of day = record { day = day.0; txn = 0; posting = 0 }

-- balancing found its amount by an assertion
abbrev pub is_assigned : Posting → Bool
is_assigned p = p.filled && is_some p.wanted

-- The number of the n-th posting: in a transaction with assigned amounts, one whose amount was missing comes after
-- all others.
abbrev pub number_in : Txn → ℕ → Posting → ℕ
number_in txn n p =
    if list_any is_assigned txn.postings && p.filled && not (is_some p.wanted) then length txn.postings + n else n

-- the postings of a transaction from the n-th on, each with its place
abbrev pub placed_in : Txn → ℕ → ℕ → List Posting → List (Place × Posting)
placed_in txn number n [] = []
placed_in txn number n (p ∷ ps) =
    (record { day = (unwrap_or p.day txn.day).0; txn = number; posting = number_in txn n p }, p) ∷ placed_in txn number (suc n) ps

-- the postings of transactions that are counted from a number, each with its place
abbrev pub placed_from : ℕ → List Txn → List (Place × Posting)
placed_from number [] = []
placed_from number (txn ∷ txns) = placed_in txn number 0 txn.postings ++ placed_from (suc number) txns

-- the name is that of the account or, with below, of one of its subaccounts
abbrev pub is_of : List ℕ → Bool → List ℕ → Bool
is_of account below name = bytes_eq name account || (below && starts_with nat_eq name (account ++ colon ∷ []))

-- the postings of an account before a place
abbrev pub postings_before : List Txn → List ℕ → Bool → Place → List Posting
postings_before txns account below place =
    map (λ e. e.1) (filter (λ e. is_before e.0 place && is_of account below e.1.account) (placed_from 0 txns))

-- the plain sum of their amounts in a symbol, in units of 10^-36
abbrev pub sum_before : List Txn → List ℕ → List ℕ → Bool → Place → ℤ
sum_before txns account symbol below place = sum_of symbol (postings_before txns account below place)

-- the least other symbol whose sum isn't zero
abbrev pub other_before : List Txn → List ℕ → List ℕ → Bool → Place → Option (List ℕ)
other_before txns account symbol below place =
    option_map (λ sum. sum.0) (find (λ sum. not (bytes_eq sum.0 symbol)) (mixed_of (postings_before txns account below place)))

-- nothing was read or checked; nodes of the index of sums may have been asked
pub record OnlyAsked (before after : Counts) : Type 0 where
  pub bytes_read : after.bytes_read ≡ before.bytes_read
  pub checked : after.checked ≡ before.checked
  pub nodes : before.nodes ≤ after.nodes
