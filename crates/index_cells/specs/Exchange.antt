-- Takings in the place of others.
use Rattle.std.specs.Prelude.{◌≡◌, ℤ, pos, ◌+ℤ◌, List, [], ◌∷◌}
use Rattle.book.specs.declared.transaction.Txn.{Txn}
use Rattle.report_cells.specs.Bounds.{TurnoverFits}
use Rattle.report_cells.specs.Taken.{Taken}
use Rattle.index_cells.specs.Posted.{posted_in}
use Rattle.index_cells.specs.Keeps.{Keeps}
use Rattle.index_cells.specs.declared.kept.Kept.{Kept}

-- the sum of what each taking weighs
abbrev pub weighed : (Taken → ℤ) → List Taken → ℤ
weighed weight [] = pos 0
weighed weight (t ∷ ts) = weight t +ℤ weighed weight ts

-- Of some takings others are gone, and more are put in, wherever they stand: whatever takings weigh, the new ones with
-- those that are gone weigh as much as the old ones with those that are put in.
abbrev pub IsExchange : (before gone more after : List Taken) → Type 0
IsExchange before gone more after = (weight : Taken → ℤ)
    → weighed weight after +ℤ weighed weight gone ≡ weighed weight before +ℤ weighed weight more

-- What is kept of some takings can become what is kept of others. No symbol of these is out of range.
pub record CanBecome (kept : Kept) (before gone more after : List Taken) : Type 0 where
  pub keeps : Keeps before kept
  pub exchange : IsExchange before gone more after
  pub fits : TurnoverFits after

-- the same of the postings of transactions
abbrev pub CanChange : (kept : Kept) (before gone more after : List Txn) → Type 0
CanChange kept before gone more after =
    CanBecome kept (posted_in before) (posted_in gone) (posted_in more) (posted_in after)
