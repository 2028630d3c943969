-- What a run may answer, and what it then has written.
use Rattle.std.specs.Prelude.{◌≡◌, ◌⊎◌, ℕ, ◌≤◌, ◌++◌, Bool, false, IsTrue, List, Option, Some, IfSome, length, take, Result, Ok, Err}
use Rattle.hl_base.specs.Causes.{Rose}
use Rattle.query.specs.Building.{IsOneOf}
use Rattle.command_words.specs.declared.task.Origin.{Origin}
use Rattle.command_words.specs.declared.task.Origin.TheVariants as origins
use Rattle.book_commands.specs.Works.{words_of}
use Rattle.book_commands.specs.declared.work.Work.{Work}
use Rattle.book_commands.specs.declared.work.Work.TheVariants as works
use Rattle.refusals.specs.Errors.{disk_fault_line, memory_line, pattern_line, read_fault_line}
use Rattle.refusals.specs.Outcomes.{Outcome, refused}
use Rattle.refusals.specs.Refusing.{IsJudgedStatus}
use Rattle.refusals.specs.declared.refusal.PatternOf.{PatternOf}
use Rattle.refusals.specs.declared.refusal.PatternOf.TheVariants as pattern_of
use Rattle.refusals.specs.declared.refusal.Refusal.{Refusal}
use Rattle.refusals.specs.declared.refusal.Refusal.TheVariants as refusal

-- where the object tells what was written, these bytes were added
abbrev pub Wrote : Option (List ℕ) → Option (List ℕ) → List ℕ → Type 0
Wrote old new bytes = IfSome old (λ before. new ≡ Some (before ++ bytes))

-- a front of these bytes was added
abbrev pub WrotePrefix : Option (List ℕ) → Option (List ℕ) → List ℕ → Type 0
WrotePrefix old new bytes = IfSome old (λ before. (n : ℕ) × (n ≤ length bytes) × (new ≡ Some (before ++ take n bytes)))

-- the statuses of refusals that the text and the words decide: 8 where there is no text
abbrev pub IsTextStatus : ℕ → Type 0
IsTextStatus status = (status ≡ 1) ⊎ ((status ≡ 7) ⊎ (status ≡ 8))

-- 8 comes of a name alone
abbrev pub IsSourceStatus : Origin → ℕ → Type 0
IsSourceStatus origins.Input status = IsJudgedStatus status
IsSourceStatus (origins.File name) status = IsTextStatus status
IsSourceStatus (origins.Store name) status = IsTextStatus status

-- a file or a store is named
abbrev pub IsNamed : Origin → Type 0
IsNamed origins.Input = ⊥
IsNamed (origins.File name) = Unit {0}
IsNamed (origins.Store name) = Unit {0}

abbrev pub IsStore : Origin → Type 0
IsStore origins.Input = ⊥
IsStore (origins.File name) = ⊥
IsStore (origins.Store name) = Unit {0}

-- and those that the words decide
abbrev pub IsRefusal : ℕ → Type 0
IsRefusal status = IsTextStatus status ⊎ (status ≡ 2)

-- the exit statuses
abbrev pub IsStatus : ℕ → Type 0
IsStatus status = (status ≡ 0) ⊎ (IsRefusal status ⊎ ((status ≡ 3) ⊎ ((status ≡ 4) ⊎ ((status ≡ 5) ⊎ (status ≡ 6)))))

-- a text that was read is this one, or it was refused so; or it couldn't be read
abbrev pub FindsText : Result (List ℕ) Refusal → Result (List ℕ) Outcome → Type 0
FindsText (Ok text) told = told ≡ Ok text
FindsText (Err (refusal.Line status line)) told = told ≡ Err (refused status line)
FindsText (Err (refusal.Pattern what line)) told = ⊥
FindsText (Err refusal.ReadFault) told = Unit {0}
FindsText (Err refusal.DiskFault) told = Unit {0}
FindsText (Err refusal.Memory) told = Unit {0}

-- and the refusal of the input, of a file or of a store has a status of its kind
abbrev pub IsOfInput : Refusal → Type 0
IsOfInput (refusal.Line status line) = IsJudgedStatus status
IsOfInput (refusal.Pattern what line) = ⊥
IsOfInput refusal.ReadFault = Unit {0}
IsOfInput refusal.DiskFault = ⊥
IsOfInput refusal.Memory = Unit {0}

abbrev pub IsOfFile : Refusal → Type 0
IsOfFile (refusal.Line status line) = IsTextStatus status
IsOfFile (refusal.Pattern what line) = ⊥
IsOfFile refusal.ReadFault = Unit {0}
IsOfFile refusal.DiskFault = ⊥
IsOfFile refusal.Memory = Unit {0}

abbrev pub IsOfStore : Refusal → Type 0
IsOfStore (refusal.Line status line) = IsTextStatus status
IsOfStore (refusal.Pattern what line) = ⊥
IsOfStore refusal.ReadFault = Unit {0}
IsOfStore refusal.DiskFault = Unit {0}
IsOfStore refusal.Memory = Unit {0}

abbrev pub IsOfSource : Origin → Refusal → Type 0
IsOfSource origins.Input r = IsOfInput r
IsOfSource (origins.File name) r = IsOfFile r
IsOfSource (origins.Store name) r = IsOfStore r

-- the refusal of what is asked of a text has a status of its kind
abbrev pub IsOfAnswer : Origin → Result (List ℕ) Refusal → Type 0
IsOfAnswer origin (Ok output) = Unit {0}
IsOfAnswer origin (Err (refusal.Line status line)) = IsSourceStatus origin status
IsOfAnswer origin (Err (refusal.Pattern what line)) = line ≡ pattern_line what
IsOfAnswer origin (Err refusal.ReadFault) = Unit {0}
IsOfAnswer origin (Err refusal.DiskFault) = IsStore origin
IsOfAnswer origin (Err refusal.Memory) = Unit {0}

-- the exit status and the error line of a refusal
abbrev pub status_of : Refusal → ℕ
status_of (refusal.Line status line) = status
status_of (refusal.Pattern what line) = 1
status_of refusal.ReadFault = 3
status_of refusal.DiskFault = 5
status_of refusal.Memory = 6

abbrev pub line_of : Refusal → List ℕ
line_of (refusal.Line status line) = line
line_of (refusal.Pattern what line) = line
line_of refusal.ReadFault = read_fault_line
line_of refusal.DiskFault = disk_fault_line
line_of refusal.Memory = memory_line

-- The line was written and the status is its own; or a write failed, and it is 4.
abbrev pub Says : ℕ → ℕ → List ℕ → Option (List ℕ) → Option (List ℕ) → ℕ → ℕ → Type 0
Says status own line old new faults_old faults_new =
    ((status ≡ own) × Wrote old new line) ⊎ ((status ≡ 4) × Rose faults_old faults_new × WrotePrefix old new line)

-- what automated rules add is asked for
abbrev pub asks_auto : Work → Bool
asks_auto (works.Report asked) = asked.options.auto
asks_auto other = false

-- a pattern of what is asked: one of a word of its query, or of a rule, where what rules add is asked for
abbrev pub HasPattern : Work → PatternOf → Type 0
HasPattern work (pattern_of.Word word) = IsOneOf word (words_of work)
HasPattern work (pattern_of.Rule line) = IsTrue (asks_auto work)

-- the lines that a command over a text may write to the error output while nothing of the outside fails
abbrev pub IsErrorLine : Work → Outcome → List ℕ → Type 0
IsErrorLine work told line =
    (line ≡ told.error) ⊎ ((line ≡ memory_line) ⊎ ((line ≡ read_fault_line) ⊎ ((line ≡ disk_fault_line)
    ⊎ ((what : PatternOf) × HasPattern work what × (line ≡ pattern_line what)))))
