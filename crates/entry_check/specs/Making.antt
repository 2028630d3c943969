-- Assignments of one transaction that are made one after another.
use Rattle.std.specs.Prelude.{◌≡◌, List, [], ◌∷◌, ◌++◌}
use Rattle.book.specs.declared.transaction.Posting.{Posting}
use Rattle.assertions.specs.Kept.{Keeping, IsBalance}
use Rattle.entry_check.specs.Checked.{Told, made_posting}

-- One more posting was made after others, and the balances have it.
pub record IsMadeNext (told : Told) (p : Posting) (old new : List Posting) (own below : Keeping) : Type 0 where
  pub is : new ≡ old ++ made_posting told old p p.amount p.wanted ∷ []
  pub here : IsBalance new own below
