-- Why a walk leaves an edit to a load of the whole text.
use Rattle.std.specs.Prelude.{◌≡◌, ◌^◌, ◌<◌, ℕ, Bool, true, false, List, set, Some, Result, Ok, Err}
use Rattle.std.specs.List.{slice_get}
use Rattle.book.specs.Postings.{postings_of}
use Rattle.book.specs.declared.transaction.Txn.{Txn}
use Rattle.balancing.specs.Solves.{HaveFew, Solves}
use Rattle.entry_balance.specs.Entry.{costs_fit, moved}
use Rattle.entry_balance.specs.Tally.{turnover_fits}
use Rattle.kept_turnover.specs.Keeping.{IsTurnover}
use Rattle.kept_turnover.specs.declared.turnover.Turnover.{Turnover}
use Rattle.placed_checks.specs.Unmixed.{is_unmixed}
use Rattle.placed_sums.specs.Accounts.{is_among, is_moved}
use Rattle.reached_walk.specs.Apart.{is_dated}
use Rattle.reached_walk.specs.Closed.{IsClosed}
use Rattle.reached_walk.specs.declared.fault.ReachFault.{ReachFault}
use Rattle.reached_walk.specs.declared.fault.ReachFault.TheVariants as reach
use Rattle.reached_walk.specs.declared.place.Spot.{Spot}
use Rattle.reached_walk.specs.Spots.{holds}
use Rattle.balancing.specs.declared.fault.CheckFault.{CheckFault}
use Rattle.balancing.specs.declared.fault.CheckFault.TheVariants as check
use Rattle.walked_edits.specs.Scenes.{Scene, edit_in}
use Rattle.walked_edits.specs.declared.fault.WalkFault.{WalkFault}
use Rattle.walked_edits.specs.declared.fault.WalkFault.TheVariants.{Load, Memory}

-- A set is closed under what its members hand on, and a book of the new text has none of them mixed. The edit replaces no
-- dated transaction, and sums reach the day of each member.
pub record CanWalk (s : Scene) (set : ℕ → Bool) (after : List Txn) : Type 0 where
  pub closed : IsClosed (edit_in s) set
  pub solves : Solves s.written after
  pub few : HaveFew after
  pub plain : (n : ℕ) (old : Txn) → holds s.spots n ≡ true → slice_get s.former n ≡ Some old → is_dated old ≡ false
  pub unmixed : (n : ℕ) (t : Txn) → set n ≡ true → slice_get after n ≡ Some t → is_unmixed t ≡ true
  pub near : (n : ℕ) (t : Txn) → set n ≡ true → slice_get s.written n ≡ Some t → t.day.0 < 2 ^ 22

-- the symbol of an amount of a book that isn't zero isn't among some
pub record LacksSymbol (symbols : List (List ℕ)) (book : List Txn) : Type 0 where
  pub symbol : List ℕ
  pub moved : is_moved symbol (postings_of book) ≡ true
  pub lacks : is_among symbol symbols ≡ false

-- there is no such book, but with a symbol that isn't among the given ones
abbrev pub CanNot : Scene → Type 0
CanNot s = (set : ℕ → Bool) (after : List Txn) → CanWalk s set after → LacksSymbol s.symbols after

-- what a refusal means: that the whole text has to be loaded, or nothing
abbrev pub IsCause : WalkFault → Type 0 → Type 0
IsCause Load P = P
IsCause Memory P = Unit {0}

abbrev pub from_reach : ReachFault → WalkFault
from_reach reach.Dated = Load
from_reach reach.Memory = Memory

abbrev pub from_check : CheckFault → WalkFault
from_check (check.Journal fault) = Load
from_check check.Memory = Memory

-- ---- causes of its steps

-- the transaction that is written at a place, if there is one, is dated
abbrev pub IsDatedAt : Scene → Spot → Type 0
IsDatedAt s spot = (t : Txn) → slice_get s.written spot.number ≡ Some t → is_dated t ≡ true

-- with a form in the place of one that holds it a book moves too much, or its costs can't be told
abbrev pub MovesTooMuch : Turnover → Txn → Txn → Type 0
MovesTooMuch turnover held form =
    costs_fit form.postings ≡ true → (book : List Txn) (n : ℕ) → slice_get book n ≡ Some held
    → IsTurnover turnover (moved (postings_of book)) → turnover_fits (moved (postings_of (set book n form))) ≡ false

-- the answer is this form; or it is refused, for a cause, or since memory is wanting
abbrev pub Answers : Txn → Type 0 → Result Txn WalkFault → Type 0
Answers solved P (Ok form) = form ≡ solved
Answers solved P (Err fault) = IsCause fault P
