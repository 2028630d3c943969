-- How many nodes of an index the check of a transaction asks: by how many the sum of an account in a symbol asks at most,
-- and how many the search for another symbol.
use Rattle.std.specs.Prelude.{ℕ, ◌+◌, Bool, List, sum_by, Option, Some, None, Result, Ok, Err, if◌then◌else◌}
use Rattle.book.specs.declared.amount.Assertion.{Assertion}
use Rattle.book.specs.declared.transaction.Posting.{Posting}
use Rattle.book.specs.declared.fault.Fault.{Fault}
use Rattle.entry_balance.specs.Entry.{is_assignment}

-- so many for an account and a symbol, with the account's subaccounts or without
abbrev pub Asks : Type 0
Asks = List ℕ → List ℕ → Bool → ℕ

-- an assertion or assignment asks for the sum of its own symbol
abbrev pub own_nodes : Asks → List ℕ → Option Assertion → ℕ
own_nodes sum account None = 0
own_nodes sum account (Some w) = sum account w.amount.symbol w.below

-- and for another symbol where nothing else may be there
abbrev pub other_nodes : Asks → List ℕ → Option Assertion → ℕ
other_nodes other account None = 0
other_nodes other account (Some w) = if w.only then other account w.amount.symbol w.below else 0

abbrev pub judging : Asks → Asks → List ℕ → Option Assertion → ℕ
judging sum other account wanted = own_nodes sum account wanted + other_nodes other account wanted

-- all that the assertions and assignments of some postings ask, each once
abbrev pub nodes_asked : Asks → Asks → List Posting → ℕ
nodes_asked sum other ps = sum_by (λ p. judging sum other p.account p.wanted) ps

-- of these, for the sums of their own symbols
abbrev pub nodes_own : Asks → List Posting → ℕ
nodes_own sum ps = sum_by (λ p. own_nodes sum p.account p.wanted) ps

-- and for other symbols
abbrev pub nodes_others : Asks → List Posting → ℕ
nodes_others other ps = sum_by (λ p. other_nodes other p.account p.wanted) ps

-- an assignment asks for its sum to be made, before it is judged
abbrev pub making : Asks → Posting → ℕ
making sum p = if is_assignment p then own_nodes sum p.account p.wanted else 0

abbrev pub nodes_making : Asks → List Posting → ℕ
nodes_making sum ps = sum_by (making sum) ps

-- what is so where no assertion fails
abbrev pub OnPass : {E : Type 0} → Result (Option Fault) E → Type 0 → Type 0
OnPass (Ok None) P = P
OnPass (Ok (Some fault)) P = Unit {0}
OnPass (Err e) P = Unit {0}
