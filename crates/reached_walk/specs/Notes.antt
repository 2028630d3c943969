-- Accounts that change, each with the next place at which its balance is asked for.
use Rattle.std.specs.Prelude.{◌≡◌, ◌∷◌, ◌++◌, ℕ, Bool, true, false, ◌&&◌, not, List, map, Option}
use Rattle.std.specs.List.{fold, list_any, AllByRecursion}
use Rattle.std.specs.Str.{bytes_eq}
use Rattle.book.specs.declared.transaction.Posting.{Posting}
use Rattle.book.specs.declared.transaction.Txn.{Txn}
use Rattle.watchers.specs.declared.watch.Watch.{Watch}
use Rattle.reached_walk.specs.declared.change.Change.{Change}
use Rattle.reached_walk.specs.declared.fault.ReachFault.{ReachFault}
use Rattle.reached_walk.specs.declared.fault.ReachFault.TheVariants.{Dated, Memory}
use Rattle.reached_walk.specs.declared.place.Spot.{Spot}
use Rattle.reached_walk.specs.Asks.{IsNextAfter}
use Rattle.reached_walk.specs.Spots.{is_before, is_due, sooner}

abbrev pub accounts_of : List Posting → List (List ℕ)
accounts_of postings = map (λ p. p.account) postings

-- an account changed at a place, or before it
abbrev pub is_since : List ℕ → Spot → Change → Bool
is_since account spot c = bytes_eq c.account account && not (is_before spot c.since)

-- one of some accounts, which changes at a place
pub record IsFresh (watches : List Watch) (spot : Spot) (accounts : List (List ℕ)) (c : Change) : Type 0 where
  pub account : list_any (bytes_eq c.account) accounts ≡ true
  pub since : c.since ≡ spot
  pub next : IsNextAfter watches c.account spot c.next

-- Some accounts are noted as changed at a place: those that weren't yet stand behind all others.
pub record Notes (watches : List Watch) (spot : Spot) (accounts : List (List ℕ)) (old new : List Change) : Type 0 where
  pub more : List Change
  pub kept : new ≡ old ++ more
  pub fresh : AllByRecursion (IsFresh watches spot accounts) more
  pub noted : AllByRecursion (λ account. list_any (is_since account spot) new ≡ true) accounts

-- the earliest of a place and of the next places of some accounts
abbrev pub earliest_of : Option Spot → List Change → Option Spot
earliest_of first changes = fold (λ (o : Option Spot) (c : Change). sooner o c.next) first changes

-- an account that changed, with another next place
abbrev pub with_next : Change → Option Spot → Change
with_next c next = record { account = c.account; since = c.since; next = next }

-- The next place of an account: as it was, but anew after a place that it has come to.
pub record IsRenewed (watches : List Watch) (spot : Spot) (c : Change) (next : Option Spot) : Type 0 where
  pub due : is_due c.next spot ≡ true → IsNextAfter watches c.account spot next
  pub kept : is_due c.next spot ≡ false → next ≡ c.next

-- so an account has come past a place
pub record Passes (watches : List Watch) (spot : Spot) (old new : Change) : Type 0 where
  pub next : Option Spot
  pub is : new ≡ with_next old next
  pub renewed : IsRenewed watches spot old next

-- what a refusal means: a dated transaction, or nothing
abbrev pub IsCause : ReachFault → Type 0 → Type 0
IsCause Dated P = P
IsCause Memory P = Unit {0}
