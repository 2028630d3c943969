-- Sums that are asked for once.
use Rattle.std.specs.Prelude.{◌≡◌, ℕ, ℤ, Bool, ◌&&◌, List, [], ◌∷◌, map, Option, Some, None, if◌then◌else◌}
use Rattle.std.specs.Bool.{beq}
use Rattle.std.specs.List.{AllByRecursion, flat_map, list_any}
use Rattle.std.specs.Str.{bytes_eq}
use Rattle.hl_num.specs.Decimal.{Decimal, units_of}
pub use Rattle.book.specs.Keys.{Key}
use Rattle.book.specs.SumsBefore.{Place, sum_before}
use Rattle.book.specs.declared.amount.Assertion.{Assertion}
use Rattle.book.specs.declared.transaction.Posting.{Posting}
use Rattle.book.specs.declared.transaction.Txn.{Txn}
use Rattle.entry_balance.specs.Entry.{is_assignment}
use Rattle.entry_check.specs.Asking.{Asks}
use Rattle.entry_check.specs.declared.asked_once.Answer.{Answer}

abbrev pub is_key : List ℕ → List ℕ → Bool → Key → Bool
is_key account symbol below k = beq k.below below && (bytes_eq k.symbol symbol && bytes_eq k.account account)

abbrev pub is_kept : List ℕ → List ℕ → Bool → List Key → Bool
is_kept account symbol below keys = list_any (is_key account symbol below) keys

-- what an assertion or assignment of an account wants
abbrev pub key_to : List ℕ → Assertion → Key
key_to account w = record { account = account; symbol = w.amount.symbol; below = w.below }

abbrev pub wanted_of : List ℕ → Option Assertion → List Key
wanted_of account None = []
wanted_of account (Some w) = key_to account w ∷ []

-- what a posting wants that is an assignment
abbrev pub assigned_of : Posting → List Key
assigned_of p = if is_assignment p then wanted_of p.account p.wanted else []

-- what the assignments of some postings want
abbrev pub assigned_by : List Posting → List Key
assigned_by ps = flat_map assigned_of ps

-- ---- answers

abbrev pub key_of : Answer → Key
key_of a = record { account = a.account; symbol = a.symbol; below = a.below }

abbrev pub keys_of : List Answer → List Key
keys_of answers = map key_of answers

-- the sum of each account in each symbol, in units of 10^-36
abbrev pub Sums : Type 0
Sums = List ℕ → List ℕ → Bool → ℤ

abbrev pub sums_told : List Txn → Place → Sums
sums_told txns place account symbol below = sum_before txns account symbol below place

-- an answer tells the sum that is asked for
abbrev pub IsAnswer : Sums → Answer → Type 0
IsAnswer sums a = units_of a.sum ≡ sums a.account a.symbol a.below

abbrev pub AreTold : Sums → List Answer → Type 0
AreTold sums answers = AllByRecursion (IsAnswer sums) answers

-- an answer is to what is asked
abbrev pub is_to : List ℕ → List ℕ → Bool → Answer → Bool
is_to account symbol below a = is_key account symbol below (key_of a)

-- the first answer that is
abbrev pub answered : List ℕ → List ℕ → Bool → List Answer → Option Decimal
answered account symbol below [] = None
answered account symbol below (a ∷ answers) =
    if is_to account symbol below a then Some a.sum else answered account symbol below answers

-- ---- what is asked on

-- what is kept asks no node
abbrev pub asks_on : Asks → List Key → Asks
asks_on asks kept account symbol below = if is_kept account symbol below kept then 0 else asks account symbol below
