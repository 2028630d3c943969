-- What bytes come to behind a text and its book.
use Rattle.std.specs.Prelude.{ℕ, Bool, not, ◌&&◌, List, ◌++◌, nat_lt, map, find, Option, Some, None, is_none, is_some, Result, Ok, Err, if◌then◌else◌}
use Rattle.std.specs.List.{list_all, slice_get}
use Rattle.book.specs.Postings.{postings_of, txns_of}
use Rattle.book.specs.declared.fault.Fault.{Fault}
use Rattle.book.specs.declared.transaction.Posting.{Posting}
use Rattle.book.specs.declared.transaction.Txn.{Txn}
use Rattle.entry_balance.specs.Entry.{cause_alone, moved, settled}
use Rattle.entry_balance.specs.Settled.{lacks_sums}
use Rattle.entry_balance.specs.Tally.{turnover_fits}
use Rattle.entry_balance.specs.Values.{Value}
use Rattle.entry_reader.specs.Causes.{◌>>=◌}
use Rattle.balancing.specs.Groups.{Group, day_of, groups_of}
use Rattle.balancing.specs.Load.{fault_at}
use Rattle.text_ends.specs.Told.{told_behind}
use Rattle.text_ends.specs.declared.kept.KeptEnd.{KeptEnd}
use Rattle.text_ends.specs.declared.reading.Grown.{Grown}

-- ---- transactions that leave all others as they are

-- a posting asks for no balance, and is of a day not before the last one on which the book asks
abbrev pub is_quiet_posting : ℕ → Txn → Posting → Bool
is_quiet_posting asked t p = is_none p.wanted && not (nat_lt (day_of t p) asked)

abbrev pub is_quiet : ℕ → Txn → Bool
is_quiet asked t = list_all (is_quiet_posting asked t) t.postings

-- no posting of the transactions asks for a balance, and none counts for one that the book asks for
abbrev pub are_quiet : ℕ → List Txn → Bool
are_quiet asked txns = list_all (is_quiet asked) txns

-- a transaction has sums: not too many of its amounts are missing, and alone it stays in range
abbrev pub has_sums : Txn → Bool
has_sums t = not (lacks_sums (cause_alone t.postings))

-- a book that moves so much stays in range with what transactions move, as balancing leaves them
abbrev pub stay_in_range : List Value → List Txn → Bool
stay_in_range moves txns = turnover_fits (moves ++ moved (postings_of (map settled txns)))

-- transactions behind a book that asks last on a day: all others stay what they are with them, and each has sums
abbrev pub stand_apart : ℕ → List Txn → Bool
stand_apart asked txns = are_quiet asked txns && list_all has_sums txns

-- ---- the first of them that doesn't balance

-- what is wrong with a transaction, were it alone
abbrev pub fault_alone : Option Txn → Option Fault
fault_alone None = None
fault_alone (Some t) = fault_at t.line (cause_alone t.postings)

abbrev pub is_unbalanced : Option Txn → Bool
is_unbalanced o = is_some (fault_alone o)

abbrev pub fault_in : List Txn → Option Group → Option Fault
fault_in txns None = None
fault_in txns (Some g) = fault_alone (slice_get txns g.1)

-- the fault of the first group, by day and then by transaction, whose transaction doesn't balance
abbrev pub first_unbalanced : List Txn → Option Fault
first_unbalanced txns = fault_in txns (find (λ g. is_unbalanced (slice_get txns g.1)) (groups_of txns))

-- ---- what comes behind the book

-- a fault of transactions behind a book, which is told unless the book has assignments: what these come to is looked at
-- once more where a fault carries a sum
abbrev pub refused : Bool → Fault → Result (Option (List Txn)) Fault
refused assigned fault = if assigned then Ok None else Err fault

abbrev pub unless_unbalanced : Bool → List Txn → Option Fault → Result (Option (List Txn)) Fault
unless_unbalanced assigned txns None = Ok (Some (map settled txns))
unless_unbalanced assigned txns (Some fault) = refused assigned fault

-- What transactions come to behind a book that has assignments or not and moves so much, where they stand apart and the
-- whole stays in range: themselves with all that balancing finds, or the fault of the first group whose transaction
-- doesn't balance.
abbrev pub put_apart : Bool → List Value → List Txn → Result (Option (List Txn)) Fault
put_apart assigned moves txns =
    if stay_in_range moves txns then unless_unbalanced assigned txns (first_unbalanced txns) else Ok None

-- the same of any transactions behind a book that asks last on a day; nothing is told of those that don't stand apart
abbrev pub added_to_book : ℕ → Bool → List Value → List Txn → Result (Option (List Txn)) Fault
added_to_book asked assigned moves txns = if stand_apart asked txns then put_apart assigned moves txns else Ok None

-- what was read, with what comes behind the book, if that is told
abbrev pub Coming : Type 0
Coming = Grown × Option (List Txn)

abbrev pub with_book : ℕ → Bool → List Value → Option Grown → Result (Option Coming) Fault
with_book asked assigned moves None = Ok None
with_book asked assigned moves (Some g) =
    added_to_book asked assigned moves (txns_of g.items) >>= λ plain. Ok (Some (g, plain))

-- What bytes come to behind a text of whose end this is kept, and whose book asks last on a day, has assignments or not
-- and moves so much: what was read, and what comes behind the book, where all else stays as it is; or the fault of the
-- whole. Nothing where a directive stands in the bytes, before any fault.
abbrev pub comes_to : KeptEnd → ℕ → Bool → List Value → List ℕ → Result (Option Coming) Fault
comes_to e asked assigned moves bytes = told_behind e bytes >>= with_book asked assigned moves
