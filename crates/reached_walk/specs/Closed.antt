-- What an edit of some transactions reaches: the least set that holds them and, with each of its transactions, all that
-- ask for a balance to which a posting of that one counts.
use Rattle.std.specs.Prelude.{◌≡◌, ◌<◌, ◌≤◌, ◌==◌, ◌⊎◌, ℕ, Bool, true, false, List, length, filter, Some}
use Rattle.std.specs.List.{range_with_len, slice_get, AllByRecursion}
use Rattle.book.specs.declared.transaction.Txn.{Txn}
use Rattle.reached_entries.specs.Reached.{AreSame, HandsOn}
use Rattle.reached_walk.specs.declared.place.Spot.{Spot}
use Rattle.reached_walk.specs.Apart.{is_dated}
use Rattle.reached_walk.specs.Spots.{holds, Rise, AreOnce}

-- An edit of some transactions, told by their numbers, and the transactions of the text before and after it. Only their
-- accounts, days and assertions matter, so they may be as written or as balancing answers them.
pub record Edit : Type 0 where
  pub is_edited : ℕ → Bool
  pub before : List Txn
  pub after : List Txn

abbrev pub edits_of : (ℕ → Bool) → List Txn → List Txn → Edit
edits_of is_edited before after = record { is_edited = is_edited; before = before; after = after }

-- that of one
abbrev pub edit_of : ℕ → List Txn → List Txn → Edit
edit_of number before after = edits_of (λ n. n == number) before after

-- A set of numbers holds the edited transactions, and with each of its transactions all that one hands on to, in the
-- old text and in the new one.
pub record IsClosed (edit : Edit) (set : ℕ → Bool) : Type 0 where
  pub edited : (n : ℕ) → edit.is_edited n ≡ true → set n ≡ true
  pub before : HandsOn set edit.before
  pub after : HandsOn set edit.after

-- how many transactions of a text a set holds
abbrev pub size_in : (ℕ → Bool) → List Txn → ℕ
size_in set txns = length (filter set (range_with_len 0 (length txns)))

-- it stands on its transaction's day, and no posting of that is dated
pub record IsOnDay (edit : Edit) (spot : Spot) : Type 0 where
  pub plain : (txn : Txn) → slice_get edit.after spot.number ≡ Some txn → is_dated txn ≡ false
  pub day : (txn : Txn) → slice_get edit.after spot.number ≡ Some txn → txn.day ≡ spot.day

-- They are the transactions that an edit reaches, each once, in the order of their places.
pub record AreReached (edit : Edit) (spots : List Spot) : Type 0 where
  -- the set of their numbers is closed
  pub closed : IsClosed edit (holds spots)
  -- each is in each closed set
  pub least : (other : ℕ → Bool) → IsClosed edit other → AllByRecursion (λ s. other s.number ≡ true) spots
  -- so they are no more than such a set holds
  pub few : (other : ℕ → Bool) → IsClosed edit other → length spots ≤ size_in other edit.after
  pub rise : Rise spots
  pub once : AreOnce spots
  pub days : AllByRecursion (IsOnDay edit) spots

-- an edit reaches a transaction that has a dated posting, in the old text or in the new one
pub record ReachesDated (edit : Edit) : Type 0 where
  pub number : ℕ
  pub reached : (other : ℕ → Bool) → IsClosed edit other → other number ≡ true
  pub txn : Txn
  pub stands : (slice_get edit.before number ≡ Some txn) ⊎ (slice_get edit.after number ≡ Some txn)
  pub dated : is_dated txn ≡ true

-- An edited transaction stands at a place in the new text.
pub record IsEditedAt (edit : Edit) (spot : Spot) : Type 0 where
  pub own : edit.is_edited spot.number ≡ true
  pub day : (txn : Txn) → slice_get edit.after spot.number ≡ Some txn → txn.day ≡ spot.day
  pub inside : spot.number < length edit.after

-- The edited transactions stand at some places in the new text, in their order, and the texts differ in no other one.
pub record IsEdit (edit : Edit) (spots : List Spot) : Type 0 where
  pub others : AreSame edit.is_edited 0 edit.before edit.after
  pub rise : Rise spots
  pub each : AllByRecursion (IsEditedAt edit) spots
  pub all : (n : ℕ) → edit.is_edited n ≡ true → holds spots n ≡ true
