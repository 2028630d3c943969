-- What is said of serving a store.
use Rattle.std.specs.Prelude.{◌≡◌, ◌⊎◌, ℕ, List, ◌++◌, codes, Result, Ok, Err}
use Rattle.std.specs.Fmt.{decimal}
use Rattle.book.specs.FaultLine.{ended}
use Rattle.error_lines.specs.Lines as lines
use Rattle.refusals.specs.declared.refusal.Refusal.{Refusal}
use Rattle.refusals.specs.declared.refusal.Refusal.TheVariants as refusal
use Rattle.desk_team.specs.declared.hosting.HouseFault.{HouseFault}
use Rattle.desk_team.specs.declared.hosting.HouseFault.TheVariants as house_fault
use Rattle.store_making.specs.Lines.{line_of as journal_line, status_of as journal_status}
use Rattle.serve_commands.specs.declared.answer.Ended.{Ended}
use Rattle.serve_commands.specs.declared.outcome.Tally.{Tally}
use Rattle.serve_commands.specs.declared.outcome.Unserved.{Unserved}
use Rattle.serve_commands.specs.declared.outcome.Unserved.TheVariants as unserved

-- the line of what is told when all workers have ended
abbrev pub tally_line : Tally → List ℕ
tally_line told =
    ended ((codes "revision " ++ decimal told.revision) ++ (codes ", requests " ++ decimal told.requests) ++ (codes ", refused " ++ decimal told.refused))

-- the most bytes of such a line, whose numbers have at most 20 digits each
abbrev pub most_of_a_tally : ℕ
most_of_a_tally = 91

abbrev pub house_line : HouseFault → List ℕ
house_line house_fault.Failed = lines.door_fault
house_line house_fault.Memory = lines.memory

-- why a store of this name wasn't served
abbrev pub line_of : List ℕ → Unserved → List ℕ
line_of name (unserved.Store e) = journal_line name e
line_of name (unserved.House fault) = house_line fault

abbrev pub house_status : HouseFault → ℕ
house_status house_fault.Failed = 9
house_status house_fault.Memory = 6

abbrev pub status_of : Unserved → ℕ
status_of (unserved.Store e) = journal_status e
status_of (unserved.House fault) = house_status fault

-- this status and line are told, or want of memory
abbrev pub RefusedAs : ℕ → List ℕ → Refusal → Type 0
RefusedAs status line x = (x ≡ refusal.Memory) ⊎ (x ≡ refusal.Line status line)

-- What is said: the line of what is told, and whether a call of a door failed; or why the store of this name wasn't served; or memory
-- ran out for the line.
abbrev pub IsSaid : List ℕ → Result Tally Unserved → Result Ended Refusal → Type 0
IsSaid name (Ok told) (Ok said) = (said.line ≡ tally_line told) × (said.failed ≡ told.failed)
IsSaid name (Ok told) (Err x) = x ≡ refusal.Memory
IsSaid name (Err e) (Ok said) = ⊥
IsSaid name (Err e) (Err x) = RefusedAs (status_of e) (line_of name e) x
