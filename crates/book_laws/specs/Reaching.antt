-- What a walk can do.
use Rattle.std.specs.Prelude.{◌≡◌, ◌^◌, ◌<◌, ℕ, Bool, true, false, List, Some}
use Rattle.std.specs.List.{slice_get}
use Rattle.book.specs.declared.transaction.Txn.{Txn}
use Rattle.balancing.specs.Solves.{HaveFew, Solves}
use Rattle.placed_checks.specs.Unmixed.{is_unmixed}
use Rattle.reached_walk.specs.Apart.{is_dated}
use Rattle.reached_walk.specs.Closed.{Edit, IsClosed}

-- A set holds the edited transactions and with each of its members all to which that one hands on, and a book of the new text
-- has none of them mixed. The edit replaces no dated transaction. No amount of the book has more than 36 decimals, and the days
-- of the set's transactions are those of the calendar: both is so of whatever was read.
pub record IsPlainReach (edit : Edit) (set : ℕ → Bool) (after : List Txn) : Type 0 where
  pub closed : IsClosed edit set
  pub solves : Solves edit.after after
  pub few : HaveFew after
  pub undated : (n : ℕ) (old : Txn) → edit.is_edited n ≡ true → slice_get edit.before n ≡ Some old → is_dated old ≡ false
  pub unmixed : (n : ℕ) (t : Txn) → set n ≡ true → slice_get after n ≡ Some t → is_unmixed t ≡ true
  pub near : (n : ℕ) (t : Txn) → set n ≡ true → slice_get edit.after n ≡ Some t → t.day.0 < 2 ^ 22

-- there is no such set, or no such book
abbrev pub HasNoPlainReach : Edit → Type 0
HasNoPlainReach edit = (set : ℕ → Bool) (after : List Txn) → IsPlainReach edit set after → ⊥

-- The same whatever decimals and days there are: an edit of a text that reads reaches no mixed transaction, and replaces no
-- dated one.
pub record IsUnmixedReach (edit : Edit) (set : ℕ → Bool) (after : List Txn) : Type 0 where
  pub closed : IsClosed edit set
  pub solves : Solves edit.after after
  pub undated : (n : ℕ) (old : Txn) → edit.is_edited n ≡ true → slice_get edit.before n ≡ Some old → is_dated old ≡ false
  pub unmixed : (n : ℕ) (t : Txn) → set n ≡ true → slice_get after n ≡ Some t → is_unmixed t ≡ true

abbrev pub HasNoUnmixedReach : Edit → Type 0
HasNoUnmixedReach edit = (set : ℕ → Bool) (after : List Txn) → IsUnmixedReach edit set after → ⊥
