-- What the words behind `--help` ask for.
use Rattle.std.specs.Prelude.{ℕ, List, [], ◌∷◌, codes, Option, Some, None, Result, Ok, if◌then◌else◌}
use Rattle.std.specs.Str.{bytes_eq}
use Rattle.report_options.specs.Commands.{command_named}
use Rattle.report_options.specs.declared.command.Command.{Command}
use Rattle.command_words.specs.Chores.{chore_named}
use Rattle.command_words.specs.TalkWords.{misplaced_task, task_alone}
use Rattle.command_words.specs.declared.chores.Chore.{Chore}
use Rattle.command_words.specs.declared.task.Subject.{Subject}
use Rattle.command_words.specs.declared.task.Subject.TheVariants as subjects
use Rattle.command_words.specs.declared.task.Task.{Task}
use Rattle.command_words.specs.declared.task.Task.TheVariants as task
use Rattle.command_words.specs.declared.usage.UsageFault.{UsageFault}

-- the command that a word names: a report by any of its names, another one, or `serve`
abbrev pub report_subject : List ℕ → Option Command → Option Subject
report_subject word (Some command) = Some (subjects.Report command)
report_subject word None = if bytes_eq word (codes "serve") then Some subjects.Serve else None

abbrev pub named_subject : List ℕ → Option Chore → Option Subject
named_subject word (Some chore) = Some (subjects.Other chore)
named_subject word None = report_subject word (command_named word)

abbrev pub subject_named : List ℕ → Option Subject
subject_named word = named_subject word (chore_named word)

abbrev pub help : Subject → Task
help subject = task.Help subject

-- help on a command, which is the last word
abbrev pub help_on : List ℕ → Option Subject → List (List ℕ) → Result Task UsageFault
help_on word (Some subject) words = task_alone (help subject) words
help_on word None words = misplaced_task word

-- the program's help, or that of the command which the next word names
abbrev pub help_task : List (List ℕ) → Result Task UsageFault
help_task [] = Ok (help subjects.Program)
help_task (word ∷ words) = help_on word (subject_named word) words
