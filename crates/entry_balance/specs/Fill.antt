-- Postings that are filled one after another.
use Rattle.std.specs.Prelude.{ℕ, ◌==◌, Bool, ◌||◌, List, [], ◌∷◌, map, length, Option, Some, None, is_some}
use Rattle.book.specs.declared.amount.Amount.{Amount}
use Rattle.book.specs.declared.transaction.Posting.{Posting}
use Rattle.book.specs.declared.transaction.Side.{Side}
use Rattle.book.specs.declared.transaction.Side.TheVariants.{Real, Balanced, Free}
use Rattle.entry_balance.specs.Values.{Value}
use Rattle.entry_balance.specs.Entry.{found_posting, costed_posting}

abbrev pub found_for : List Value → List Value → Side → List Value
found_for real balanced Real = real
found_for real balanced Balanced = balanced
found_for real balanced Free = []

abbrev pub filled_posting : List Value → List Value → Option (List ℕ × Value) → Posting → Option Amount → List Posting
filled_posting real balanced cost p None = map (found_posting p) (found_for real balanced p.side)
filled_posting real balanced cost p (Some a) = costed_posting cost p ∷ []

-- a posting that stays one posting
abbrev pub stays_single : List Value → List Value → Posting → Bool
stays_single real balanced p = is_some p.amount || length (found_for real balanced p.side) == 1

-- a posting with the one amount that was found for it
abbrev pub with_found : Posting → List Value → Posting
with_found p (v ∷ []) = found_posting p v
with_found p _ = p

abbrev pub filled_if_missing : List Value → Posting → Option Amount → Posting
filled_if_missing found p None = with_found p found
filled_if_missing found p (Some a) = p

abbrev pub filled_in_place : List Value → List Value → Posting → Posting
filled_in_place real balanced p = filled_if_missing (found_for real balanced p.side) p p.amount
