-- Assignments that are made one after another.
use Rattle.std.specs.Prelude.{◌≡◌, ℕ, Bool, true, false, List, [], ◌∷◌, ◌++◌, Option, Some, None}
use Rattle.hl_num.specs.Decimal.{Decimal, negated}
use Rattle.book.specs.declared.amount.Amount.{Amount}
use Rattle.book.specs.declared.transaction.Posting.{Posting}
use Rattle.book.specs.Mixed.{plus}
use Rattle.entry_balance.specs.Values.{Value}
use Rattle.entry_balance.specs.Tally.{total_of, turnover_fits}
use Rattle.balancing.specs.Assigned.{shortened, given_posting_by}
use Rattle.assertions.specs.Kept.{Keeping, IsBalance, is_asked, is_kept_for}

-- a posting with the amount that it was assigned, if it was
abbrev pub given_with : Posting → Option Amount → Posting
given_with p None = p
given_with p (Some a) = record p { amount = Some a; cost = None; filled = true; costed = false }

-- all postings through one that is given after others of its transaction
abbrev pub given_next : (Decimal → Decimal) → List Posting → List Posting → Posting → List Posting
given_next enter seen done p = seen ++ (done ++ given_posting_by enter (seen ++ done) p p.amount p.wanted ∷ [])

-- what is wanted, less what is there, whose sum enters in some way
abbrev pub value_after_by : (Decimal → Decimal) → List Value → Amount → Decimal
value_after_by enter held wanted = plus wanted.value (negated (enter (total_of wanted.symbol held)))

-- what is there and what is assigned are within the bound
abbrev pub fits_after_by : (Decimal → Decimal) → List Value → Amount → Bool
fits_after_by enter held wanted = turnover_fits (held ++ (wanted.symbol, value_after_by enter held wanted) ∷ [])

-- the same as in books: with as few decimals as the sum needs
abbrev pub value_after : List Value → Amount → Decimal
value_after held wanted = value_after_by shortened held wanted

abbrev pub fits_after : List Value → Amount → Bool
fits_after held wanted = fits_after_by shortened held wanted

-- The balances are those before a transaction and those of its first postings, and both keep sums for an account.
pub record IsHeld (seen done : List Posting) (account : List ℕ) (under : Bool) (own below own_here below_here : Keeping) : Type 0 where
  pub before : IsBalance seen own below
  pub here : IsBalance done own_here below_here
  pub kept : is_kept_for own below account under ≡ true
  pub kept_here : is_kept_for own_here below_here account under ≡ true

-- The balances are those before a transaction and those of its first postings, and both keep sums for what a further
-- posting asks for.
pub record IsReady (seen done : List Posting) (p : Posting) (own below own_here below_here : Keeping) : Type 0 where
  pub before : IsBalance seen own below
  pub here : IsBalance done own_here below_here
  pub asked : is_asked own below p ≡ true
  pub asked_here : is_asked own_here below_here p ≡ true

-- One more posting was given after others, and the balances have it.
pub record IsGivenNext (enter : Decimal → Decimal) (after : List Posting) (p : Posting) (old new : List Posting) (own_here below_here : Keeping) : Type 0 where
  pub is : new ≡ old ++ given_posting_by enter after p p.amount p.wanted ∷ []
  pub here : IsBalance new own_here below_here
