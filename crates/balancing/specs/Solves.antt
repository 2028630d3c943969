-- What it is for a book to solve the transactions of a text. Nothing here says how the book is found.
use Rattle.std.specs.Prelude.{◌≡◌, ◌≤◌, ℕ, suc, Bool, true, not, ◌&&◌, ◌||◌, List, [], ◌∷◌, map, filter, Option, Some, None, is_none}
use Rattle.std.specs.List.{flat_map, list_all, AllByRecursion}
use Rattle.std.specs.Option.{option_map}
use Rattle.hl_num.specs.Decimal.{Decimal, negated}
use Rattle.book.specs.declared.amount.Amount.{Amount}
use Rattle.book.specs.declared.amount.Assertion.{Assertion}
use Rattle.book.specs.declared.transaction.Posting.{Posting}
use Rattle.book.specs.declared.transaction.Txn.{Txn}
use Rattle.book.specs.Mixed.{plus}
use Rattle.book.specs.Postings.{postings_of}
use Rattle.book.specs.SumsBefore.{Place, placed_from, postings_before, is_assigned}
use Rattle.entry_balance.specs.Values.{Value, value_of}
use Rattle.entry_balance.specs.Tally.{total_of, sums_of, turnover_fits}
use Rattle.entry_balance.specs.Entry.{from_amount, plain_amount, has_assignment, assignment_fault, cause_alone, settled, moved, with_postings}
use Rattle.assertions.specs.Assertions.{first_of, is_same, is_other}
use Rattle.balancing.specs.Assigned.{shortened, assigned_posting}

-- ---- what is written

-- nothing of a written posting is marked as found
abbrev pub is_unmarked : Posting → Bool
is_unmarked p = not p.filled && not p.costed

abbrev pub are_unmarked : List Txn → Bool
are_unmarked txns = list_all (λ t. list_all is_unmarked t.postings) txns

-- a transaction with assignments may have them: besides them it misses at most one real and one balanced virtual
-- amount, and none of its postings is dated
abbrev pub is_allowed : Txn → Bool
is_allowed t = not (has_assignment t.postings) || is_none (assignment_fault t.postings)

-- ---- amounts for the assignments

-- A posting is as written; but an assignment has some amount, in the plain shape, and is marked as filled.
abbrev pub IsMadeBy : Option Amount → Option Assertion → Posting → Posting → Type 0
IsMadeBy (Some a) wanted p q = q ≡ p
IsMadeBy None None p q = q ≡ p
IsMadeBy None (Some w) p q = (v : Value) × (q ≡ assigned_posting p v)

abbrev pub IsMade : Posting → Posting → Type 0
IsMade p q = IsMadeBy p.amount p.wanted p q

abbrev pub AreMade : List Posting → List Posting → Type 0
AreMade [] [] = Unit {0}
AreMade (p ∷ ps) (q ∷ qs) = IsMade p q × AreMade ps qs
AreMade _ _ = ⊥

-- a transaction is as written, but that its assignments have amounts
pub record IsMadeTxn (written made : Txn) : Type 0 where
  pub postings : AreMade written.postings made.postings
  pub rest : made ≡ with_postings written made.postings

abbrev pub AreMadeTxns : List Txn → List Txn → Type 0
AreMadeTxns [] [] = Unit {0}
AreMadeTxns (w ∷ ws) (m ∷ ms) = IsMadeTxn w m × AreMadeTxns ws ms
AreMadeTxns _ _ = ⊥

-- ---- sums at a place

-- the amounts of some postings, without their costs
abbrev pub values_of : List Posting → List Value
values_of ps = flat_map (λ p. from_amount (λ a. value_of a ∷ []) p.amount) ps

-- what an account holds before a place, with or without the accounts under it
abbrev pub values_before : List Txn → List ℕ → Bool → Place → List Value
values_before book account below place = values_of (postings_before book account below place)

-- an amount has at most 36 decimals
abbrev pub HasFew : Option Amount → Type 0
HasFew None = Unit {0}
HasFew (Some a) = a.value.places ≤ 36

-- each amount of some transactions has
abbrev pub HaveFew : List Txn → Type 0
HaveFew txns = AllByRecursion (λ p. HasFew p.amount) (postings_of txns)

-- the least symbol beside one whose sum isn't zero
abbrev pub symbol_beside : List ℕ → List Value → Option (List ℕ)
symbol_beside symbol values = option_map (λ sum. sum.0) (first_of (filter (is_other symbol) (sums_of values)))

-- the place just after that of a posting
abbrev pub just_after : Place → Place
just_after place = record { day = place.day; txn = place.txn; posting = suc place.posting }

-- what an assignment at a place comes to: its wanted amount less the sum at its place, which enters in some way
abbrev pub difference_at_by : (Decimal → Decimal) → List Txn → Place → Posting → Assertion → Value
difference_at_by enter book place p w =
    (w.amount.symbol, plus w.amount.value (negated (enter (total_of w.amount.symbol (values_before book p.account w.below place)))))

abbrev pub amount_at_by : (Decimal → Decimal) → List Txn → Place → Posting → Option Assertion → Option Amount
amount_at_by enter book place p None = None
amount_at_by enter book place p (Some w) = Some (plain_amount (difference_at_by enter book place p w))

-- an assigned posting at its place has that amount
abbrev pub IsAssignedAtBy : (Decimal → Decimal) → List Txn → Place × Posting → Type 0
IsAssignedAtBy enter book e = is_assigned e.1 ≡ true → e.1.amount ≡ amount_at_by enter book e.0 e.1 e.1.wanted

-- the same as in books: with the decimals that are wanted, or more where its value needs them
abbrev pub difference_at : List Txn → Place → Posting → Assertion → Value
difference_at book place p w = difference_at_by shortened book place p w

abbrev pub amount_at : List Txn → Place → Posting → Option Assertion → Option Amount
amount_at book place p wanted = amount_at_by shortened book place p wanted

abbrev pub IsAssignedAt : List Txn → Place × Posting → Type 0
IsAssignedAt book e = IsAssignedAtBy shortened book e

-- ---- assertions

-- An assertion holds among some amounts: its symbol has the wanted sum, and where it wants that only, each sum of
-- another symbol is zero.
pub record Holds (w : Assertion) (values : List Value) : Type 0 where
  pub sum : is_same (total_of w.amount.symbol values) w.amount.value ≡ true
  pub only : w.only ≡ true → filter (is_other w.amount.symbol) (sums_of values) ≡ []

abbrev pub HoldsIf : Option Assertion → (Assertion → List Value) → Type 0
HoldsIf None values = Unit {0}
HoldsIf (Some w) values = Holds w (values w)

-- the assertion of a posting holds just after its place
abbrev pub IsAssertedAt : List Txn → Place × Posting → Type 0
IsAssertedAt book e = HoldsIf e.1.wanted (λ w. values_before book e.1.account w.below (just_after e.0))

-- ---- the book

-- A book solves the transactions that are written, where sums enter assigned amounts in some way.
pub record SolvesBy (enter : Decimal → Decimal) (written book : List Txn) : Type 0 where
  -- what is written is marked nowhere as found, and assignments stand only where they may
  pub unmarked : are_unmarked written ≡ true
  pub allowed : list_all is_allowed written ≡ true
  -- the written transactions, with some amount for each assignment
  pub made : List Txn
  pub kept : AreMadeTxns written made
  -- each of these is balanced, and misses no more than it may
  pub balanced : AllByRecursion (λ t. cause_alone t.postings ≡ None) made
  -- the book has them in order, with the missing amounts and recorded costs that balancing finds
  pub found : book ≡ map settled made
  -- an assignment's amount is its wanted amount less the sum at its place
  pub assigned : AllByRecursion (IsAssignedAtBy enter book) (placed_from 0 book)
  -- each assertion holds by the sum just after its place
  pub asserted : AllByRecursion (IsAssertedAt book) (placed_from 0 book)
  -- all that is moved stays in range
  pub fits : turnover_fits (moved (postings_of book)) ≡ true

-- A book solves the transactions that are written.
abbrev pub Solves : List Txn → List Txn → Type 0
Solves written book = SolvesBy shortened written book

-- The book that solves what is written, where nothing written is marked as found, and the only one.
pub record IsSolution (written book : List Txn) : Type 0 where
  pub solves : are_unmarked written ≡ true → Solves written book
  pub only : (other : List Txn) → Solves written other → other ≡ book
