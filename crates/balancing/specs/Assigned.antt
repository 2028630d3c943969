-- Assignments: postings whose amounts are what makes their assertions true.
use Rattle.std.specs.Prelude.{ℕ, zero, suc, Bool, true, false, not, List, [], ◌∷◌, ◌++◌, Option, Some, None, if◌then◌else◌}
use Rattle.std.specs.List.{slice_get}
use Rattle.hl_num.specs.Decimal.{Decimal, units_of, negated}
use Rattle.book.specs.declared.amount.Amount.{Amount}
use Rattle.book.specs.declared.amount.Assertion.{Assertion}
use Rattle.book.specs.declared.transaction.Posting.{Posting}
use Rattle.book.specs.declared.transaction.Txn.{Txn}
use Rattle.book.specs.Mixed.{plus}
use Rattle.entry_balance.specs.Values.{Value, trimmed}
use Rattle.entry_balance.specs.Tally.{total_of}
use Rattle.entry_balance.specs.Entry.{is_assignable, plain_amount, with_postings}
use Rattle.assertions.specs.Assertions.{held_in}
use Rattle.balancing.specs.Parts.{postings_of_group}
use Rattle.balancing.specs.Groups.{Group, groups_of}

-- a number of at most 36 decimals with as few of them as it needs
abbrev pub shortened : Decimal → Decimal
shortened d = trimmed (units_of d) 36

-- a number with all its decimals
abbrev pub whole : Decimal → Decimal
whole d = d

-- what an assignment comes to after other postings: what is wanted, less what its account holds, where that sum enters
-- in some way. In books it enters shortened, so that how it was added up doesn't matter; in the sums that faults tell
-- it enters whole.
abbrev pub assigned_value_by : (Decimal → Decimal) → List Posting → Posting → Assertion → Value
assigned_value_by enter seen p w =
    (w.amount.symbol, plus w.amount.value (negated (enter (total_of w.amount.symbol (held_in w.below p.account seen)))))

-- a posting with the amount that it was assigned
abbrev pub assigned_posting : Posting → Value → Posting
assigned_posting p v = record p { amount = Some (plain_amount v); cost = None; filled = true; costed = false }

-- a posting after others, its assignment made if it is one
abbrev pub given_posting_by : (Decimal → Decimal) → List Posting → Posting → Option Amount → Option Assertion → Posting
given_posting_by enter seen p (Some a) wanted = p
given_posting_by enter seen p None None = p
given_posting_by enter seen p None (Some w) = assigned_posting p (assigned_value_by enter seen p w)

-- some postings after others, each assignment made just after those before it. One whose amount is missing holds none
-- yet, and so counts for none of them
abbrev pub given_postings_by : (Decimal → Decimal) → List Posting → List Posting → List Posting
given_postings_by enter seen [] = []
given_postings_by enter seen (p ∷ ps) =
    let q = given_posting_by enter seen p p.amount p.wanted in
    q ∷ given_postings_by enter (seen ++ q ∷ []) ps

-- a transaction after other postings, its assignments made where they can be made
abbrev pub given_by : (Decimal → Decimal) → List Posting → Txn → Txn
given_by enter seen t = if is_assignable t.postings then with_postings t (given_postings_by enter seen t.postings) else t

-- no assignments of a transaction are still to be made
abbrev pub is_ready : Option Txn → Bool
is_ready None = true
is_ready (Some t) = not (is_assignable t.postings)

-- the same of the transaction with a number
abbrev pub given_at_by : (Decimal → Decimal) → List Posting → ℕ → List Txn → List Txn
given_at_by enter seen n [] = []
given_at_by enter seen zero (t ∷ ts) = given_by enter seen t ∷ ts
given_at_by enter seen (suc n) (t ∷ ts) = t ∷ given_at_by enter seen n ts

-- some transactions, the assignments of each group made after the groups before it
abbrev pub given_from_by : (Decimal → Decimal) → List Txn → List Posting → List Group → List Txn
given_from_by enter txns seen [] = txns
given_from_by enter txns seen (g ∷ gs) =
    let next = given_at_by enter seen g.1 txns in
    given_from_by enter next (seen ++ postings_of_group g.0 (slice_get next g.1)) gs

-- all transactions of a text with their assignments made
abbrev pub assigned_by : (Decimal → Decimal) → List Txn → List Txn
assigned_by enter txns = given_from_by enter txns [] (groups_of txns)

-- ---- the same as in books, where sums enter shortened

abbrev pub assigned_value : List Posting → Posting → Assertion → Value
assigned_value seen p w = assigned_value_by shortened seen p w

abbrev pub given_posting : List Posting → Posting → Option Amount → Option Assertion → Posting
given_posting seen p amount wanted = given_posting_by shortened seen p amount wanted

abbrev pub given_postings : List Posting → List Posting → List Posting
given_postings seen ps = given_postings_by shortened seen ps

abbrev pub given : List Posting → Txn → Txn
given seen t = given_by shortened seen t

abbrev pub given_at : List Posting → ℕ → List Txn → List Txn
given_at seen n txns = given_at_by shortened seen n txns

abbrev pub given_from : List Txn → List Posting → List Group → List Txn
given_from txns seen gs = given_from_by shortened txns seen gs

abbrev pub assigned : List Txn → List Txn
assigned txns = assigned_by shortened txns
