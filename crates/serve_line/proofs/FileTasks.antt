-- The words of a report, with `-f` and a name behind the first, ask for it over the file of that name.
use Rattle.std.proofs.Common.{◌≡◌, ◌≢◌, ◌∙◌, ℕ, Bool, true, false, if◌then◌else◌, List, [], ◌∷◌, codes, Option, Some, None, Result, Ok, Err, IfOk, IfErr, IsOk, refl, sym, ap, subst}
use Rattle.std.specs.Str.{bytes_eq}
use Rattle.std.specs.List.{AllByRecursion}
use Rattle.std.proofs.lemmas.Slice.Eq.{bytes_eq-Decides}
use Rattle.report_options.specs.Commands.{command_named}
use Rattle.report_options.specs.Options.{reading}
use Rattle.report_options.specs.Programs.{NamesNoJournal, program_reading}
use Rattle.report_options.specs.declared.command.Command.{Command}
use Rattle.report_options.specs.declared.fault.OptionFault.{OptionFault}
use Rattle.report_options.specs.declared.options.Options.{Options}
use Rattle.report_options.specs.declared.program.Given.{Given}
use Rattle.report_options.proofs.FileWords.{read_of_file, refused_of_file}
use Rattle.report_commands.specs.declared.asked.Asked.{Asked}
use Rattle.report_commands.specs.declared.fault.WordsFault.{WordsFault}
use Rattle.plan_commands.specs.Commands.{asked_by, asked_from, asked_of, given_by, given_from, given_of}
use Rattle.book_commands.specs.declared.work.Work.TheVariants as works
use Rattle.command_words.specs.Commands.{file_or_input, report_task, task_of, text_task}
use Rattle.command_words.specs.declared.task.Origin.{Origin}
use Rattle.command_words.specs.declared.task.Origin.TheVariants as origins
use Rattle.command_words.specs.declared.task.Task.{Task}
use Rattle.command_words.specs.declared.usage.UsageFault.{UsageFault}
use Rattle.command_words.specs.declared.usage.UsageFault.TheVariants as usages
use Rattle.serve_line.specs.RunReplies.{BeginReport, with_file}
use Rattle.serve_line.proofs.ReportTasks.{reads_begin, report_is_asked}

-- the name is that of a file
file_is : (name : List ℕ) (b : Bool) → bytes_eq name (codes "-") ≡ b → name ≢ codes "-" → file_or_input (if b then None else Some name) ≡ origins.File name
file_is name true is named = absurd (named ((bytes_eq-Decides name (codes "-")).0 is))
file_is name false is named = refl

pub begins_too : (name : List ℕ) (words : List (List ℕ)) → BeginReport words → BeginReport (with_file name words)
begins_too name [] begins = begins
begins_too name (word ∷ words) begins = begins

module _ (day : ℕ) (name : List ℕ) where
  abbrev of_file : Given
  of_file = record { file = Some name; store = None }

  abbrev ReadOf : Command → List (List ℕ) → Result (Given × Options × List (List ℕ)) OptionFault
  ReadOf command those = program_reading command day (codes "-f" ∷ name ∷ those)

  -- ---- words that a request reads

  by_reading : (command : Command) (those : List (List ℕ)) (r : Result (Options × List (List ℕ)) OptionFault)
      → IfOk r (λ read. ReadOf command those ≡ Ok (of_file, read.0, read.1)) → IfOk (asked_by r) (λ asked. given_by (ReadOf command those) ≡ Ok (of_file, asked))
  by_reading command those (Ok read) is = ap (λ (p : Result (Given × Options × List (List ℕ)) OptionFault). given_by p) is
  by_reading command those (Err fault) is = tt

  by_command : (word : List ℕ) (c : Option Command) (those : List (List ℕ))
      → IfOk (asked_from word c day those) (λ asked. given_from word c day (codes "-f" ∷ name ∷ those) ≡ Ok (of_file, asked))
  by_command word None those = tt
  by_command word (Some command) those = by_reading command those (reading command day those) (read_of_file command day name those)

  file_runs : (words : List (List ℕ)) → IfOk (asked_of day words) (λ asked. given_of day (with_file name words) ≡ Ok (of_file, asked))
  file_runs [] = tt
  file_runs (word ∷ words) = by_command word (command_named word) words

  -- ---- words that it refuses

  by_refusal : (command : Command) (those : List (List ℕ)) (r : Result (Options × List (List ℕ)) OptionFault)
      → IfErr r (λ fault. ReadOf command those ≡ Err fault) → IfErr (asked_by r) (λ fault. given_by (ReadOf command those) ≡ Err fault)
  by_refusal command those (Ok read) is = tt
  by_refusal command those (Err fault) is = ap (λ (p : Result (Given × Options × List (List ℕ)) OptionFault). given_by p) is

  refused_by : (word : List ℕ) (c : Option Command) (those : List (List ℕ)) → AllByRecursion NamesNoJournal those
      → IfErr (asked_from word c day those) (λ fault. given_from word c day (codes "-f" ∷ name ∷ those) ≡ Err fault)
  refused_by word None those none = refl
  refused_by word (Some command) those none = by_refusal command those (reading command day those) (refused_of_file command day name those none)

  file_refused : (words : List (List ℕ)) → AllByRecursion NamesNoJournal words → IfErr (asked_of day words) (λ fault. given_of day (with_file name words) ≡ Err fault)
  file_refused [] none = refl
  file_refused (word ∷ words) none = refused_by word (command_named word) words none.1

  -- ---- what they ask for

  abbrev asked_over : Asked → Origin → Result Task UsageFault
  asked_over asked origin = Ok (text_task origin (works.Report asked))

  -- a report that reads is asked of the file
  pub file_report : (words : List (List ℕ)) (asked : Asked) → name ≢ codes "-" → asked_of day words ≡ Ok asked
      → task_of day (with_file name words) ≡ Ok (text_task (origins.File name) (works.Report asked))
  file_report words asked named is =
      let ok : IsOk (asked_of day words) = subst (λ (r : Result Asked WordsFault). IsOk r) (sym is) refl in
      let given : given_of day (with_file name words) ≡ Ok (of_file, asked) =
      subst (λ (r : Result Asked WordsFault). IfOk r (λ a. given_of day (with_file name words) ≡ Ok (of_file, a))) is (file_runs words) in
      report_is_asked day (with_file name words) (begins_too name words (reads_begin day words ok))
      ∙ ap report_task given ∙ ap (λ (o : Origin). asked_over asked o) (file_is name (bytes_eq name (codes "-")) refl named)

  -- words that don't read are refused so
  pub refused_file : (words : List (List ℕ)) (fault : WordsFault) → asked_of day words ≡ Err fault → BeginReport words → AllByRecursion NamesNoJournal words
      → task_of day (with_file name words) ≡ Err (usages.Words fault)
  refused_file words fault is begins none =
      let given : given_of day (with_file name words) ≡ Err fault =
      subst (λ (r : Result Asked WordsFault). IfErr r (λ f. given_of day (with_file name words) ≡ Err f)) is (file_refused words none) in
      report_is_asked day (with_file name words) (begins_too name words begins) ∙ ap report_task given
