-- Histories of a machine, and of what a disk fault leaves beside its state.
use Rattle.std.specs.Prelude.{◌≡◌, ◌⊎◌, ℕ, Bool, false, ◌||◌, List, [], ◌∷◌, Option, Some, Result, Ok, IsSomeAnd}
use Rattle.text_store.specs.Image.{NoImage}
use Rattle.text_store.specs.declared.image.Image.{Image}
use Rattle.desk.specs.Entries.{Entry}
use Rattle.desk.specs.Stands.{IsPending}
use Rattle.desk.specs.States.{State, answer_to, image_of}
use Rattle.desk.specs.Steps.{Step, is_fault, next_of}

-- A history from a state: each entry is a step of the machine from what those before it left, with the revision after it, and no
-- disk fails.
abbrev pub IsHistory : State → List Entry → Type 0
IsHistory s [] = Unit {0}
IsHistory s (entry ∷ entries) =
    (next : State) × Step s 0 entry.day.0 entry.request entry.reply next 0 × (entry.revision ≡ next.revision) × IsHistory next entries

-- A history leads from a state, with the count of its disks' faults, to another: each entry is a step of the machine from what
-- those before it left, with the revision after it. An edit that was refused for a disk fault stands beside the state, until the
-- next one is acknowledged.
abbrev pub Leads : State → ℕ → Option Image → List Entry → State → ℕ → Option Image → Type 0
Leads old faults beside [] new faults_now beside_now = (new ≡ old) × (faults_now ≡ faults) × (beside_now ≡ beside)
Leads old faults beside (entry ∷ entries) new faults_now beside_now =
    (mid : State) × (faults_mid : ℕ) × (beside_mid : Option Image)
    × Step old faults entry.day.0 entry.request entry.reply mid faults_mid × (entry.revision ≡ mid.revision)
    × IsPending beside (next_of (answer_to old entry.day.0 entry.request)) entry.reply beside_mid
    × Leads mid faults_mid beside_mid entries new faults_now beside_now

-- files show the image of a state, or that of the edit beside it
abbrev pub ShowsLast : State → Option Image → Option (Result Image NoImage) → Type 0
ShowsLast last beside found = (found ≡ Some (Ok (image_of last))) ⊎ IsSomeAnd beside (λ other. found ≡ Some (Ok other))

-- one of some entries tells a disk fault
abbrev pub has_fault : List Entry → Bool
has_fault [] = false
has_fault (entry ∷ entries) = is_fault entry.reply || has_fault entries
