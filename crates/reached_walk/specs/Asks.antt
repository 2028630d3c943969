-- Which postings of a text ask for the balance of an account, and the watches that tell the next one.
use Rattle.std.specs.Prelude.{◌≡◌, ℕ, Bool, true, ◌&&◌, ◌⊎◌, List, [], ◌∷◌, Option, IfSome}
use Rattle.std.specs.List.{flat_map, list_any, AllByRecursion}
use Rattle.book.specs.declared.transaction.Posting.{Posting}
use Rattle.book.specs.declared.transaction.Txn.{Txn}
use Rattle.book.specs.Standing.{Numbered}
use Rattle.book.specs.SumsBefore.{Place, placed_from, placed_in}
use Rattle.reached_entries.specs.Reached.{counts_for}
use Rattle.watchers.specs.declared.watch.Watch.{Watch}
use Rattle.watchers.specs.Watches.{AreOf}
use Rattle.reached_walk.specs.declared.place.Spot.{Spot}
use Rattle.reached_walk.specs.Spots.{is_before, is_from, is_same, spot_of}

-- a posting of a later transaction asks for the balance of an account, or for one to which it counts
abbrev pub asks : List ℕ → Spot → Place × Posting → Bool
asks account since e = counts_for e.1.wanted e.1.account account && is_before since (spot_of e)

-- It is where the first one of those that ask stands, and none where none asks.
pub record IsFirstAfter (entries : List (Place × Posting)) (account : List ℕ) (since : Spot) (first : Option Spot) : Type 0 where
  pub each : AllByRecursion (λ e. asks account since e ≡ true → is_from first (spot_of e) ≡ true) entries
  pub found : IfSome first (λ s. list_any (λ e. asks account since e && is_same (spot_of e) s) entries ≡ true)

-- ---- other forms of a text

-- two postings stand in one transaction on one day, and have one account and one assertion
pub record AreAlike (e f : Place × Posting) : Type 0 where
  pub day : e.0.day ≡ f.0.day
  pub txn : e.0.txn ≡ f.0.txn
  pub account : e.1.account ≡ f.1.account
  pub wanted : e.1.wanted ≡ f.1.wanted

-- one item is so
abbrev pub Has : {X : Type 0} → (X → Type 0) → List X → Type 0
Has P [] = ⊥
Has P (x ∷ xs) = P x ⊎ Has P xs

-- each of some postings is like one of others
abbrev pub Covers : List (Place × Posting) → List (Place × Posting) → Type 0
Covers entries others = AllByRecursion (λ f. Has (λ e. AreAlike e f) entries) others

-- the postings of the transactions that stand under some numbers
abbrev pub entries_of : Numbered Txn → List (Place × Posting)
entries_of standing = flat_map (λ e. placed_in e.1 e.0 0 e.1.postings) standing

-- Watches are those of a text's transactions, in a form that has the same accounts, days and assertions: as they are
-- written, or as balancing answers them.
pub record AreWatched (text : List Txn) (watches : List Watch) : Type 0 where
  pub standing : Numbered Txn
  pub watched : AreOf standing watches
  pub all : Covers (entries_of standing) (placed_from 0 text)
  pub only : Covers (placed_from 0 text) (entries_of standing)

-- the first posting of each text that the watches are of
abbrev pub IsNextAfter : List Watch → List ℕ → Spot → Option Spot → Type 0
IsNextAfter watches account since first =
    (text : List Txn) → AreWatched text watches → IsFirstAfter (placed_from 0 text) account since first
