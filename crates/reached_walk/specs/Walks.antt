-- A walk over the transactions that an edit reaches.
use Rattle.std.specs.Prelude.{◌≡◌, ◌∷◌, ◌++◌, [], ◌<◌, ℕ, Bool, true, false, ◌||◌, ◌&&◌, drop, List, length, Option, Some, None, IfSome}
use Rattle.std.specs.List.{list_all, list_any, slice_get, AllByRecursion}
use Rattle.book.specs.declared.transaction.Posting.{Posting}
use Rattle.book.specs.declared.transaction.Txn.{Txn}
use Rattle.book.specs.SumsBefore.{Place, placed_from}
use Rattle.reached_entries.specs.Reached.{AreSame}
use Rattle.watchers.specs.declared.watch.Watch.{Watch}
use Rattle.reached_walk.specs.declared.change.Change.{Change}
use Rattle.reached_walk.specs.declared.place.Spot.{Spot}
use Rattle.reached_walk.specs.declared.walking.Reach.{Reach}
use Rattle.reached_walk.specs.Asks.{asks, AreWatched}
use Rattle.reached_walk.specs.Closed.{AreReached, Edit, IsClosed}
use Rattle.reached_walk.specs.Apart.{is_dated}
use Rattle.reached_walk.specs.Notes.{is_since}
use Rattle.reached_walk.specs.Spots.{is_before, is_from, is_same, spot_of, holds, Rise, AreOnce}

-- What is kept of an account: whatever asks for it is reached, and was answered or isn't before the next place; there
-- one that asks stands, behind all that were answered.
pub record IsChange (edit : Edit) (answered : List Spot) (c : Change) : Type 0 where
  pub reached : (other : ℕ → Bool) → IsClosed edit other
      → AllByRecursion (λ e. asks c.account c.since e ≡ true → other e.0.txn ≡ true) (placed_from 0 edit.after)
  pub seen : AllByRecursion (λ e. asks c.account c.since e ≡ true → (holds answered e.0.txn || is_from c.next (spot_of e)) ≡ true)
      (placed_from 0 edit.after)
  pub ahead : IfSome c.next (λ s. list_all (λ t. is_before t s) answered ≡ true)
  pub found : IfSome c.next (λ s. list_any (λ e. asks c.account c.since e && is_same (spot_of e) s) (placed_from 0 edit.after) ≡ true)

-- the account of a posting is noted as changed at its place or before it
abbrev pub is_noted : List Change → Place × Posting → Bool
is_noted changes f = list_any (is_since f.1.account (spot_of f)) changes

-- where its transaction has no dated posting, it stands on that one's day
abbrev pub StandsOn : Edit → Spot → Type 0
StandsOn edit spot = (txn : Txn) → slice_get edit.after spot.number ≡ Some txn → is_dated txn ≡ false → txn.day ≡ spot.day

abbrev pub IsPlain : Edit → Spot → Type 0
IsPlain edit spot = (txn : Txn) → slice_get edit.after spot.number ≡ Some txn → is_dated txn ≡ false

-- An edited transaction wasn't answered yet; one that is dated may be, at the place of such a posting.
pub record IsAwaited (edit : Edit) (answered : List Spot) (spot : Spot) : Type 0 where
  pub own : edit.is_edited spot.number ≡ true
  pub free : IsPlain edit spot → holds answered spot.number ≡ false
  pub ahead : list_all (λ t. is_before t spot) answered ≡ true
  pub day : StandsOn edit spot
  pub inside : spot.number < length edit.after

-- Those that are still to come, in the order of their places: each edited one was answered or is one of them.
pub record AreAwaited (edit : Edit) (answered edited : List Spot) : Type 0 where
  pub rise : Rise edited
  pub each : AllByRecursion (IsAwaited edit answered) edited
  pub all : (n : ℕ) → edit.is_edited n ≡ true → (holds answered n || holds edited n) ≡ true

-- the edited transactions that a walk hasn't answered yet
abbrev pub awaited_in : Reach → List Spot
awaited_in walk = drop walk.at walk.edited.items

-- A walk has answered some transactions, and was told the accounts of those that were handed to it.
pub record Walks (edit : Edit) (answered handed : List Spot) (walk : Reach) : Type 0 where
  pub others : AreSame edit.is_edited 0 edit.before edit.after
  pub rise : Rise answered
  pub once : AreOnce answered
  pub least : (other : ℕ → Bool) → IsClosed edit other → AllByRecursion (λ s. other s.number ≡ true) answered
  pub inside : AllByRecursion (λ s. s.number < length edit.after) answered
  pub days : AllByRecursion (StandsOn edit) answered
  pub plain : AllByRecursion (IsPlain edit) handed
  pub edited : AreAwaited edit answered (awaited_in walk)
  pub changes : AllByRecursion (IsChange edit answered) walk.changes.items
  pub noted_before : AllByRecursion (λ f. edit.is_edited f.0.txn ≡ true → is_noted walk.changes.items f ≡ true) (placed_from 0 edit.before)
  pub noted_after : AllByRecursion (λ f. holds handed f.0.txn ≡ true → is_noted walk.changes.items f ≡ true) (placed_from 0 edit.after)

-- Where a walk goes on: to a transaction that is then to be handed to it, or to its end.
abbrev pub Goes : Edit → List Spot → Option Spot → Reach → Type 0
Goes edit answered None walk = AreReached edit answered
Goes edit answered (Some spot) walk = Walks edit (answered ++ spot ∷ []) answered walk

-- A walk is handed the transaction of the last answered place.
abbrev pub IsHanded : List Watch → Spot → Txn → Reach → Reach → Type 0
IsHanded watches spot txn old new =
    (edit : Edit) (answered : List Spot) → AreWatched edit.after watches → slice_get edit.after spot.number ≡ Some txn
    → Walks edit (answered ++ spot ∷ []) answered old
    → Walks edit (answered ++ spot ∷ []) (answered ++ spot ∷ []) new

-- ---- where a walk begins

-- A walk is to begin at some transactions, and was told the old forms of those that have one among others.
pub record IsBegun (edit : Edit) (spots told : List Spot) (walk : Reach) : Type 0 where
  pub awaited : awaited_in walk ≡ spots
  pub changes : AllByRecursion (IsChange edit []) walk.changes.items
  pub noted : AllByRecursion (λ f. holds told f.0.txn ≡ true → is_noted walk.changes.items f ≡ true) (placed_from 0 edit.before)

-- it is told the old form of one more
abbrev pub IsToldOf : List Watch → Spot → Txn → Reach → Reach → Type 0
IsToldOf watches spot txn old new =
    (edit : Edit) (spots told : List Spot) → AreWatched edit.after watches → AreSame edit.is_edited 0 edit.before edit.after
    → edit.is_edited spot.number ≡ true → slice_get edit.before spot.number ≡ Some txn
    → IsBegun edit spots told old → IsBegun edit spots (told ++ spot ∷ []) new

-- or has none to be told
abbrev pub IsTold : List Watch → Spot → List Txn → Reach → Reach → Type 0
IsTold watches spot before old new =
    (edit : Edit) (spots told : List Spot) → edit.before ≡ before → AreWatched edit.after watches
    → AreSame edit.is_edited 0 edit.before edit.after → edit.is_edited spot.number ≡ true
    → IsBegun edit spots told old → IsBegun edit spots (told ++ spot ∷ []) new

-- the transaction under a number, if there is one, is dated
abbrev pub WasDated : ℕ → List Txn → Type 0
WasDated number before = (txn : Txn) × (slice_get before number ≡ Some txn) × (is_dated txn ≡ true)
