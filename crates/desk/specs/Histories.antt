-- Histories of the machine, and what they say of an import that is repeated.
use Rattle.std.specs.Prelude.{◌≡◌, ◌⊎◌, ℕ, Bool, true, false, not, List, [], ◌∷◌, map}
use Rattle.std.specs.List.{list_all}
use Rattle.std.specs.Str.{bytes_eq}
use Rattle.query.specs.Building.{IsOneOf}
use Rattle.desk.specs.declared.reply.Reply.TheVariants as reply
use Rattle.desk.specs.declared.request.Request.{Request}
use Rattle.desk.specs.declared.request.Request.TheVariants as request
use Rattle.desk.specs.Entries.{Entry}
use Rattle.desk.specs.Imports.{pattern_lines}
use Rattle.desk.specs.States.{State, refused_line}
use Rattle.desk.specs.Steps.{Step, is_done}

-- A history leads from a state and its disks' count of faults to others: each entry is a step of the machine from what those
-- before it left, with the revision after it.
abbrev pub Legal : State → ℕ → List Entry → State → ℕ → Type 0
Legal old faults [] new faults_now = (new ≡ old) × (faults_now ≡ faults)
Legal old faults (entry ∷ entries) new faults_now =
    (mid : State) × (faults_mid : ℕ) × Step old faults entry.day.0 entry.request entry.reply mid faults_mid
    × (entry.revision ≡ mid.revision) × Legal mid faults_mid entries new faults_now

-- it is an import of this name
abbrev pub imports : List ℕ → Request → Bool
imports name (request.Import other rules csv) = bytes_eq other name
imports name other = false

-- the text stays as it is, a pattern of the rules was refused, or memory ran out
abbrev pub AddsNothing : List ℕ → Entry → Type 0
AddsNothing rules entry =
    (entry.reply ≡ reply.Same entry.revision)
    ⊎ (IsOneOf entry.reply (map refused_line (pattern_lines rules)) ⊎ (entry.reply ≡ reply.Memory))

-- An import that was done is repeated, with no import of its name between.
pub record IsRepeated (name rules csv : List ℕ) (first : Entry) (between : List Entry) (again : Entry) : Type 0 where
  pub first_is : first.request ≡ request.Import name rules csv
  pub again_is : again.request ≡ request.Import name rules csv
  pub done : is_done first.reply ≡ true
  pub none : list_all (λ entry. not (imports name entry.request)) between ≡ true
