-- What the words of `explain` ask for, over a journal or over a file of a bank.
use Rattle.std.specs.Prelude.{ℕ, Bool, true, false, List, [], ◌∷◌, Option, Some, None, Result, Ok, Err, if◌then◌else◌}
use Rattle.book_commands.specs.declared.work.Work.TheVariants as works
use Rattle.command_words.specs.StoreWords.{name_alone, rules_or_default}
use Rattle.command_words.specs.TalkWords.{misplaced_task}
use Rattle.command_words.specs.Usage.{missing}
use Rattle.command_words.specs.declared.said.Named.{Named}
use Rattle.command_words.specs.declared.said.Named.TheVariants as named
use Rattle.command_words.specs.declared.task.Origin.{Origin}
use Rattle.command_words.specs.declared.task.StoreTask.TheVariants as stored
use Rattle.command_words.specs.declared.task.Task.{Task}
use Rattle.command_words.specs.declared.task.Task.TheVariants as task
use Rattle.command_words.specs.declared.usage.UsageFault.{UsageFault}

-- the first fault of a journal
abbrev pub explaining_text : Origin → Task
explaining_text origin = task.Over (record { origin = origin; work = works.Explain })

-- rules that are given need the name of a file
abbrev pub explain_text : Origin → Option (List ℕ) → Result Task UsageFault
explain_text origin (Some rules) = missing
explain_text origin None = Ok (explaining_text origin)

-- why a file isn't imported
abbrev pub explaining_file : List ℕ → List ℕ → Task
explaining_file file rules = task.Stored (stored.Explain (record { file = file; rules = rules }))

abbrev pub explain_of : Option (List ℕ) → Result (List ℕ) UsageFault → Result Task UsageFault
explain_of rules (Ok file) = Ok (explaining_file file (rules_or_default rules file))
explain_of rules (Err fault) = Err fault

-- no journal is named; the input may be, by `-`
abbrev pub is_unnamed : Named → Bool
is_unnamed named.Unnamed = true
is_unnamed _ = false

-- a file of a bank has no place beside a journal that is named
abbrev pub explain_file : Bool → Option (List ℕ) → List ℕ → List (List ℕ) → Result Task UsageFault
explain_file unnamed rules file rest = if unnamed then explain_of rules (name_alone file rest) else misplaced_task file

-- the first fault of a journal, or why the file that the words name isn't imported
abbrev pub explain_task : Bool → Origin → Option (List ℕ) → List (List ℕ) → Result Task UsageFault
explain_task unnamed origin rules [] = explain_text origin rules
explain_task unnamed origin rules (file ∷ rest) = explain_file unnamed rules file rest
