-- A half at rest, and one that a fault has left torn.
use Rattle.std.specs.Prelude.{◌≡◌, ℕ, List, [], ◌∷◌, ◌++◌, length, Bool, Option}
use Rattle.hl_base.specs.declared.disk.Disk.{Ghosts}
use Rattle.text_store.specs.declared.half.Half.{Half}
use Rattle.text_store.specs.Entries.{Entry, IsRecord}
use Rattle.text_store.specs.Halves.{IsHalf}
use Rattle.text_store.specs.Rest.{RestsAs, StandsIn, IsAt}

-- the file is these bytes and a shut gate, all of it on the disk, and these are its records
pub record IsSettled {D : Type 0} {g : Ghosts D} (seen : D → Option (List ℕ)) (tells : D → Bool) (may_leave : D → List ℕ → Type 0) (half : Half D g) (front : List ℕ) (entries : List Entry) : Type 0 where
  pub is_half : IsHalf front entries
  pub place : length front ≡ half.gate
  pub rests : RestsAs seen tells may_leave half.device (front ++ 0 ∷ [])

-- these bytes are kept, and behind them stands a shut gate with anything behind it, or any gate with a front of an entry
pub record IsUnsettled {D : Type 0} {g : Ghosts D} (seen : D → Option (List ℕ)) (tells : D → Bool) (may_leave : D → List ℕ → Type 0) (half : Half D g) (front : List ℕ) (entries : List Entry) (entry : List ℕ) : Type 0 where
  pub is_half : IsHalf front entries
  pub place : length front ≡ half.gate
  pub is_record : IsRecord entry
  pub stands : StandsIn seen tells may_leave half.device (IsAt front entry)
