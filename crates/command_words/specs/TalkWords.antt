-- What the words of a connection and of a sample ask for.
use Rattle.std.specs.Prelude.{ℕ, List, [], ◌∷◌, Option, Some, None, Result, Ok}
use Rattle.desk.specs.declared.request.Allow.{Allow}
use Rattle.desk.specs.declared.request.Allow.TheVariants as allow
use Rattle.command_words.specs.Limits.{most_entries, number_in}
use Rattle.command_words.specs.Usage.{misplaced, missing}
use Rattle.command_words.specs.declared.task.Origin.{Origin}
use Rattle.command_words.specs.declared.task.Task.{Task}
use Rattle.command_words.specs.declared.task.Task.TheVariants as task
use Rattle.command_words.specs.declared.usage.UsageFault.{UsageFault}

abbrev pub misplaced_task : List ℕ → Result Task UsageFault
misplaced_task word = misplaced word

-- no word after it has a place yet
abbrev pub task_alone : Task → List (List ℕ) → Result Task UsageFault
task_alone what [] = Ok what
task_alone what (word ∷ words) = misplaced_task word

-- what the requests of a connection may do: add, where nothing is said
abbrev pub allow_or_default : Option Allow → Allow
allow_or_default (Some level) = level
allow_or_default None = allow.Add

-- a connection to a journal
abbrev pub talk_task : Origin → Option Allow → Task
talk_task origin level = task.Talk (record { origin = origin; allow = allow_or_default level })

-- a sample of so many entries
abbrev pub sample : ℕ → Task
sample count = task.Sample count

abbrev pub sample_of : List ℕ → Option ℕ → List (List ℕ) → Result Task UsageFault
sample_of word (Some count) words = task_alone (sample count) words
sample_of word None words = misplaced_task word

abbrev pub sample_task : List (List ℕ) → Result Task UsageFault
sample_task [] = missing
sample_task (word ∷ words) = sample_of word (number_in most_entries word) words
