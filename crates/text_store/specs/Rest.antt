-- A disk at rest, and what a step may make of it.
use Rattle.std.specs.Prelude.{◌≡◌, ◌≤◌, ℕ, List, Bool, IsTrue, Option, Some, ◌⊎◌, ◌∷◌, ◌++◌, length, take}
use Rattle.hl_base.specs.declared.disk.Disk.{Ghosts}
use Rattle.hl_base.specs.Disk.{Only, NoMore, LeavesOnly}

-- an outcome of a crash after a step
abbrev pub AfterStep : (List ℕ → List ℕ → Type 0) → (List ℕ → Type 0) → List ℕ → Type 0
AfterStep step outcomes c = (d : List ℕ) × outcomes d × step d c

-- the disk reads as this file, and where it tells of crashes each leaves it
pub record RestsAs {D : Type 0} (seen : D → Option (List ℕ)) (tells : D → Bool) (may_leave : D → List ℕ → Type 0) (device : D) (file : List ℕ) : Type 0 where
  pub told : seen device ≡ Some file
  pub durable : IsTrue (tells device) → Only file (may_leave device)

-- an outcome of a crash that comes of an earlier one
abbrev pub SomeLeft : (List ℕ → Type 0) → List ℕ → Type 0
SomeLeft outcomes c = (d : List ℕ) × outcomes d

-- where the disk told its file before, it rests now as what was made of it
abbrev pub Comes : {D : Type 0} → (D → Option (List ℕ)) → (D → Bool) → (D → List ℕ → Type 0) → D → D → (List ℕ → List ℕ) → Type 0
Comes seen tells may_leave old new made = (file : List ℕ) → seen old ≡ Some file → RestsAs seen tells may_leave new (made file)

-- the disk reads as a file that has P, and where it tells of crashes each leaves one
pub record StandsIn {D : Type 0} (seen : D → Option (List ℕ)) (tells : D → Bool) (may_leave : D → List ℕ → Type 0) (device : D) (P : List ℕ → Type 0) : Type 0 where
  pub file : List ℕ
  pub told : seen device ≡ Some file
  pub fits : P file
  pub left : IsTrue (tells device) → (c : List ℕ) → may_leave device c → P c

-- a file whose front is kept: behind it stands a shut gate with anything behind it, or any gate with a front of an entry
abbrev pub IsAt : List ℕ → List ℕ → List ℕ → Type 0
IsAt front entry c = ((tail : List ℕ) × (c ≡ front ++ 0 ∷ tail)) ⊎ ((gate : ℕ) × (count : ℕ) × (c ≡ front ++ gate ∷ take count entry))

-- a file that is being written anew: a front of what it was, or at most the header and the gate behind it, or the header with an
-- entry as far as it is written
abbrev pub IsRewritten : List ℕ → List ℕ → List ℕ → List ℕ → Type 0
IsRewritten old head entry c = ((n : ℕ) × (c ≡ take n old)) ⊎ ((length c ≤ 33) ⊎ IsAt head entry c)

-- an empty file into which a header goes: at most its first 8 bytes, or those and no more than a header and a gate
abbrev pub HasHeadBegun : List ℕ → List ℕ → Type 0
HasHeadBegun head c = (length c ≤ 8) ⊎ ((take 8 c ≡ take 8 head) × (length c ≤ 33))

-- such a file, or the header with an entry as far as it is written
abbrev pub IsBegun : List ℕ → List ℕ → List ℕ → Type 0
IsBegun head entry c = HasHeadBegun head c ⊎ IsAt head entry c

-- a disk on which nothing was written: it reads as before, and a crash at any moment left what it might have left before
pub record IsReadOn {D : Type 0} (g : Ghosts D) (old new : D) : Type 0 where
  pub seen : g.seen new ≡ g.seen old
  pub no_more : NoMore (g.may_leave old) (g.may_leave new)
  pub any_moment : LeavesOnly g.moment g.left_since old new (g.may_leave old)
  pub reach : g.reach new ≡ g.reach old
  pub tells : g.tells_crashes new ≡ g.tells_crashes old
  pub unfailing : g.unfailing_to new ≡ g.unfailing_to old
  pub later : g.failures old ≤ g.failures new
