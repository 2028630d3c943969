-- What the calls of a disk in memory do to its fields.
use Rattle.std.specs.Prelude.{◌≡◌, ◌⊎◌, ℕ, ◌≤◌, List, [], Option, None, Some}
use Rattle.hl_base.specs.Causes.{Rose}
use Rattle.hl_base.specs.declared.mem_disk.MemDisk.{MemDisk}
use Rattle.hl_base.specs.History.{Recorded, Still, added}

-- what a new disk has recorded: nothing, where it has no record
abbrev pub new_record : List ℕ → Option (ℕ × ℕ) → Option Recorded
new_record text None = None
new_record text (Some rooms) = Some (record { first = text; steps = [] })

-- a disk that has had no call
pub record IsFreshDisk (disk : MemDisk) (text : List ℕ) (room : ℕ) (log : Option (ℕ × ℕ)) (fails : List ℕ) : Type 0 where
  pub reads : disk.surface.text ≡ text
  pub holds : disk.surface.room ≡ room
  pub log_is : disk.log ≡ new_record text log
  pub failing : disk.fails.items ≡ fails
  pub asked : disk.asked ≡ 0
  pub reach : disk.reach ≡ 0
  pub faults : disk.faults ≡ 0

-- a failed call changes the count alone, and the record has at most a call that did nothing
pub record Refuses (old new : MemDisk) : Type 0 where
  pub surface : new.surface ≡ old.surface
  pub fails : new.fails ≡ old.fails
  pub reach : new.reach ≡ old.reach
  pub log_is : (new.log ≡ old.log) ⊎ (new.log ≡ added old.log Still)
  pub later : old.faults ≤ new.faults
  pub rose : Rose old.faults new.faults
