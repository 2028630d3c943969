-- How the record of a disk in memory stands for the calls that it was given.
use Rattle.std.specs.Prelude.{ℕ, ◌+◌, List, [], ◌∷◌, take, drop}
use Rattle.hl_base.specs.declared.disk_record.Call.{Call}
use Rattle.hl_base.specs.declared.disk_record.Call.TheVariants.{Still as NoChange, Write, Cut as CutTo, Sync as SyncNow}
use Rattle.hl_base.specs.History.{Step, Still, Wrote, Shortened, Synced}

-- how many bytes a call writes
abbrev pub piece_len : Call → ℕ
piece_len (Write at len) = len
piece_len NoChange = 0
piece_len (CutTo len) = 0
piece_len SyncNow = 0

-- the call with its bytes
abbrev pub step_of : Call → List ℕ → Step
step_of (Write at len) bytes = Wrote at bytes
step_of NoChange bytes = Still
step_of (CutTo len) bytes = Shortened len
step_of SyncNow bytes = Synced

-- how many bytes the calls write together
abbrev pub written : List Call → ℕ
written [] = 0
written (call ∷ calls) = piece_len call + written calls

-- the calls, the oldest first, each with its bytes, put in front of earlier ones
abbrev pub history : List Step → List Call → List ℕ → List Step
history earlier [] bytes = earlier
history earlier (call ∷ calls) bytes =
    history (step_of call (take (piece_len call) bytes) ∷ earlier) calls (drop (piece_len call) bytes)
