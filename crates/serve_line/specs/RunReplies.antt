-- The reply to a report beside runs of its words over the same text.
use Rattle.std.specs.Prelude.{◌≡◌, ◌≢◌, ◌⊎◌, ℕ, true, is_some, IsTrue, List, [], ◌∷◌, Some, IsOk, codes}
use Rattle.std.specs.List.{AllByRecursion}
use Rattle.report_options.specs.Commands.{command_named}
use Rattle.report_options.specs.Programs.{NamesNoJournal}
use Rattle.query.specs.Building.{IsOneOf}
use Rattle.plan_commands.specs.Commands.{asked_of}
use Rattle.refusals.specs.Errors.{pattern_line, plan_line}
use Rattle.refusals.specs.declared.refusal.PatternOf.{PatternOf}
use Rattle.desk.specs.declared.reply.Reply.{Reply}
use Rattle.desk.specs.declared.reply.Reply.TheVariants as reply
use Rattle.desk.specs.States.{State, refused_replies}
use Rattle.command_words.specs.Commands.{task_of}
use Rattle.command_line.specs.Answers.{IsRefusal, Wrote}
use Rattle.command_line.specs.Runs.{Runs}
use Rattle.command_line.specs.Scenes.{Scene}

-- A run of some words on a day, with a text on its standard input, as `run_program` says it of words that aren't those of `serve`.
pub record IsRunOver (words : List (List ℕ)) (day : ℕ) (text : List ℕ) (status : ℕ) (old new : Scene) : Type 0 where
  pub input : old.left ≡ Some text
  pub runs : Runs words day status old new (task_of day words)

-- the words of a report, with `-f` and a name behind the first, which names the report
abbrev pub with_file : List ℕ → List (List ℕ) → List (List ℕ)
with_file name [] = []
with_file name (report ∷ words) = report ∷ codes "-f" ∷ name ∷ words

-- A run of such words, with a text in the file of that name. (`-` is the name of the standard input.)
pub record IsRunOfFile (name : List ℕ) (words : List (List ℕ)) (day : ℕ) (text : List ℕ) (status : ℕ) (old new : Scene) : Type 0 where
  pub named : name ≢ codes "-"
  pub told : IsTrue old.files_told
  pub holds : old.file name ≡ Some text
  pub runs : Runs (with_file name words) day status old new (task_of day (with_file name words))

-- A run of the words over a text: of the standard input, or of a file behind `-f`.
abbrev pub RunsOver : List (List ℕ) → ℕ → List ℕ → ℕ → Scene → Scene → Type 0
RunsOver words day text status old new = IsRunOver words day text status old new ⊎ ((name : List ℕ) × IsRunOfFile name words day text status old new)

-- it ended as its words and its text say: no call failed, and memory didn't run out
abbrev pub IsDecided : ℕ → Type 0
IsDecided status = (status ≡ 0) ⊎ IsRefusal status

-- A run writes what a reply says: the body is its output, and a refusal is the line of its error output.
abbrev pub WritesReply : Reply → ℕ → Scene → Scene → Type 0
WritesReply (reply.Text revision bytes) status old new = (status ≡ 0) × (new.error ≡ old.error) × Wrote old.output new.output bytes
WritesReply (reply.Words fault) status old new = IsRefusal status × (new.output ≡ old.output) × Wrote old.error new.error (plan_line fault)
WritesReply other status old new = ⊥

-- or a pattern wasn't built in the run, which its line says
abbrev pub SaysPattern : ℕ → Scene → Scene → Type 0
SaysPattern status old new = (status ≡ 1) × (new.output ≡ old.output) × ((what : PatternOf) × Wrote old.error new.error (pattern_line what))

-- the first word is the name of a report
abbrev pub BeginReport : List (List ℕ) → Type 0
BeginReport [] = ⊥
BeginReport (word ∷ words) = is_some (command_named word) ≡ true

-- Words that say the same in a request and behind the program's name: those that a request reads; and of those that it doesn't, the words
-- of a report that name no journal. (A request refuses `-f` and `--store`.)
abbrev pub SayTheSame : ℕ → List (List ℕ) → Type 0
SayTheSame day words = IsOk (asked_of day words) ⊎ (BeginReport words × AllByRecursion NamesNoJournal words)

-- each run of such words over a text writes what the reply says
abbrev pub IsWrittenByRuns : ℕ → List (List ℕ) → List ℕ → Reply → Type 0
IsWrittenByRuns day words text r =
    SayTheSame day words → (status : ℕ) (old new : Scene) → RunsOver words day text status old new → IsDecided status
    → WritesReply r status old new ⊎ SaysPattern status old new

-- A report is answered as a run of its words over the text writes it; or memory ran out, or a pattern was refused.
abbrev pub RepliesAsRuns : State → ℕ → List (List ℕ) → Reply → Type 0
RepliesAsRuns s day words r = (r ≡ reply.Memory) ⊎ (IsOneOf r (refused_replies day s.text words) ⊎ IsWrittenByRuns day words s.text r)
