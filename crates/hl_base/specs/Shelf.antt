-- What a shelf of files tells, and what its calls answer.
use Rattle.std.specs.Prelude.{◌≡◌, ◌≢◌, ℕ, ◌+◌, ◌≤◌, Bool, true, false, List, [], length, nat_le, if◌then◌else◌, Option, None, Some, Result, Ok, Err, IsErrOf}
use Rattle.hl_base.specs.Causes.{Rose}
use Rattle.hl_base.specs.declared.shelf.ShelfFault.{ShelfFault}
use Rattle.hl_base.specs.declared.shelf.ShelfFault.TheVariants as fault

-- which things a shelf tells: the bytes of its files, what a crash may leave of its disks, and the reach up to which
-- its disks fail no call
pub record Tells : Type 0 where
  pub files : Bool
  pub crashes : Bool
  pub disk_room : Option ℕ

-- what a load answers of a name with these bytes, or of an absent one
abbrev pub loaded : ℕ → Option (List ℕ) → Result (List ℕ) ShelfFault
loaded limit None = Err fault.Absent
loaded limit (Some bytes) = if nat_le (length bytes) limit then Ok bytes else Err (fault.TooLong limit (limit + 1))

-- what the disk reads as that is handed out for such a name
abbrev pub taken : Bool → Option (List ℕ) → Result (Option (List ℕ)) ShelfFault
taken make (Some bytes) = Ok (Some bytes)
taken true None = Ok (Some [])
taken false None = Err fault.Absent

-- a fault that the files decide; a failed call and want of memory have no cause in them
abbrev pub shelf_cause : ShelfFault → Option ShelfFault
shelf_cause fault.Failed = None
shelf_cause fault.Absent = Some fault.Absent
shelf_cause (fault.TooLong limit seen) = Some (fault.TooLong limit seen)
shelf_cause fault.Memory = None

-- a fault other than one of length
abbrev pub NotTooLong : ShelfFault → Type 0
NotTooLong (fault.TooLong limit seen) = ⊥
NotTooLong _ = Unit {0}

-- A call failed only where the count rose, and then its name is the last that failed; else both stay.
pub record HasBlame {T : Type 0} (before now : ℕ) (last_before last_now : Option (List ℕ)) (name : List ℕ) (result : Result T ShelfFault) : Type 0 where
  pub later : before ≤ now
  pub rose : IsErrOf result fault.Failed → Rose before now
  pub named : IsErrOf result fault.Failed → last_now ≡ Some name
  pub same : result ≢ Err fault.Failed → now ≡ before
  pub same_name : result ≢ Err fault.Failed → last_now ≡ last_before

-- What a shelf tells of some names stays: their bytes, that they have places, and what a crash may leave of them or may
-- have left since they were taken.
pub record Keeps {S : Type 0} (file : S → List ℕ → Option (List ℕ)) (may_leave left_since : S → List ℕ → List ℕ → Type 0) (HasPlace : S → List ℕ → Type 0) (old new : S) (of : List ℕ → Type 0) : Type 0 where
  pub files : (name : List ℕ) → of name → file new name ≡ file old name
  pub crash : (name c : List ℕ) → of name → may_leave new name c → may_leave old name c
  pub since : (name c : List ℕ) → of name → left_since new name c → left_since old name c
  pub places : (name : List ℕ) → of name → HasPlace old name → HasPlace new name
