-- Words whose first isn't `talk` ask for no connection.
use Rattle.std.specs.Prelude.{if◌then◌else◌, codes}
use Rattle.std.specs.Str.{bytes_eq}
use Rattle.std.proofs.Common.{◌≡◌, ℕ, Bool, true, false, List, [], ◌∷◌, Option, Some, None, Result, Ok, Err, refl, sym, ap}
use Rattle.std.proofs.lemmas.Bool.{false≢true}
use Rattle.book_care.specs.declared.faults.Check.{Check}
use Rattle.book_commands.specs.declared.work.Entries.{Entries}
use Rattle.report_options.specs.declared.program.Given.{Given}
use Rattle.report_commands.specs.declared.asked.Asked.{Asked}
use Rattle.report_commands.specs.declared.fault.WordsFault.{WordsFault}
use Rattle.plan_commands.specs.Commands.{given_of}
use Rattle.command_words.specs.Chores.{chore_named}
use Rattle.command_words.specs.Commands.{chore_or_report, close_task, entries_of, into_or_default, report_task, strict_task, task_by, task_from, task_of, task_over, words_or_default, origin_of}
use Rattle.command_words.specs.ExplainWords.{explain_of, explain_task, explain_text, is_unnamed}
use Rattle.command_words.specs.HelpWords.{help_on, help_task, subject_named}
use Rattle.command_words.specs.Limits.{most_entries, number_in}
use Rattle.command_words.specs.Said.{said_by}
use Rattle.command_words.specs.StoreWords.{adding_of, export_of, feeding_of, following_of, import_of, import_task, listing_of, making_of, name_alone, plain_name, replacing_of}
use Rattle.command_words.specs.TalkWords.{misplaced_task, sample_of, sample_task, task_alone}
use Rattle.command_words.specs.declared.chores.Chore.{Chore}
use Rattle.command_words.specs.declared.chores.Chore.TheVariants as chores
use Rattle.command_words.specs.declared.said.Said.{Said}
use Rattle.command_words.specs.declared.task.Origin.{Origin}
use Rattle.command_words.specs.declared.task.Subject.{Subject}
use Rattle.command_words.specs.declared.task.Task.{Task}
use Rattle.command_words.specs.declared.task.Task.TheVariants as task
use Rattle.command_words.specs.declared.usage.UsageFault.{UsageFault}
use Rattle.command_words.specs.Connections.{IsPlain, IsPlainRead, talks}

-- ---- each command

plain_alone : (what : Task) (words : List (List ℕ)) → IsPlain what → IsPlainRead (task_alone what words)
plain_alone what [] h = h
plain_alone what (word ∷ words) h = tt

plain_strict : (origin : Origin) (checks : List Check) → IsPlainRead (strict_task origin checks)
plain_strict origin [] = tt
plain_strict origin (check ∷ checks) = tt

plain_close : (origin : Origin) (asked : Entries) (on : Option ℕ) (into : List ℕ) (words : List (List ℕ)) → IsPlainRead (close_task origin asked on into words)
plain_close origin asked (Some on) into words = tt
plain_close origin asked None into words = tt

plain_making : (origin : Origin) (limit : Option ℕ) (name : Result (List ℕ) UsageFault) → IsPlainRead (making_of origin limit name)
plain_making origin limit (Ok name) = tt
plain_making origin limit (Err fault) = tt

plain_adding : (name : Result (List ℕ) UsageFault) → IsPlainRead (adding_of name)
plain_adding (Ok name) = tt
plain_adding (Err fault) = tt

plain_file : (dry : Bool) (store : List ℕ) (rules name : Option (List ℕ)) (file : Result (List ℕ) UsageFault) → IsPlainRead (import_of dry store rules name file)
plain_file true store rules name (Ok file) = tt
plain_file false store rules name (Ok file) = tt
plain_file dry store rules name (Err fault) = tt

plain_import : (dry : Bool) (rules name : Option (List ℕ)) (words : List (List ℕ)) → IsPlainRead (import_task dry rules name words)
plain_import dry rules name [] = tt
plain_import dry rules name (store ∷ words) = plain_file dry store rules name (plain_name words)

plain_count : (word : List ℕ) (count : Option ℕ) (words : List (List ℕ)) → IsPlainRead (sample_of word count words)
plain_count word (Some count) words = plain_alone (task.Sample count) words tt
plain_count word None words = tt

plain_sample : (words : List (List ℕ)) → IsPlainRead (sample_task words)
plain_sample [] = tt
plain_sample (word ∷ words) = plain_count word (number_in most_entries word) words

plain_export : (name : Result (List ℕ) UsageFault) → IsPlainRead (export_of name)
plain_export (Ok name) = tt
plain_export (Err fault) = tt

plain_listing : (name : Result (List ℕ) UsageFault) → IsPlainRead (listing_of name)
plain_listing (Ok name) = tt
plain_listing (Err fault) = tt

plain_journal : (origin : Origin) (rules : Option (List ℕ)) → IsPlainRead (explain_text origin rules)
plain_journal origin (Some rules) = tt
plain_journal origin None = tt

plain_explained : (rules : Option (List ℕ)) (file : Result (List ℕ) UsageFault) → IsPlainRead (explain_of rules file)
plain_explained rules (Ok file) = tt
plain_explained rules (Err fault) = tt

plain_either : (b : Bool) (rules : Option (List ℕ)) (file : List ℕ) (rest : List (List ℕ))
    → IsPlainRead (if b then explain_of rules (name_alone file rest) else misplaced_task file)
plain_either true rules file rest = plain_explained rules (name_alone file rest)
plain_either false rules file rest = tt

plain_explain : (unnamed : Bool) (origin : Origin) (rules : Option (List ℕ)) (words : List (List ℕ)) → IsPlainRead (explain_task unnamed origin rules words)
plain_explain unnamed origin rules [] = plain_journal origin rules
plain_explain unnamed origin rules (file ∷ rest) = plain_either unnamed rules file rest

plain_replacing : (origin : Origin) (base : Option ℕ) (name : Result (List ℕ) UsageFault) → IsPlainRead (replacing_of origin base name)
plain_replacing origin base (Ok name) = tt
plain_replacing origin base (Err fault) = tt

plain_feeding : (name : Result (List ℕ) UsageFault) → IsPlainRead (feeding_of name)
plain_feeding (Ok name) = tt
plain_feeding (Err fault) = tt

plain_following : (limit : Option ℕ) (name : Result (List ℕ) UsageFault) → IsPlainRead (following_of limit name)
plain_following limit (Ok name) = tt
plain_following limit (Err fault) = tt

plain_over : (chore : Chore) (said : Said) (origin : Origin) → (chore ≡ chores.Talk → ⊥) → IsPlainRead (task_over chore said origin)
plain_over chores.Hours said origin h = tt
plain_over chores.Strict said origin h = plain_strict origin said.checks
plain_over chores.Close said origin h = plain_close origin (entries_of said.closing said.opening) said.on (into_or_default said.into) (words_or_default said.words)
plain_over chores.Explain said origin h = plain_explain (is_unnamed said.journal) origin said.rules said.words
plain_over chores.Init said origin h = plain_making origin said.limit (plain_name said.words)
plain_over chores.Add said origin h = plain_adding (plain_name said.words)
plain_over chores.Import said origin h = plain_import said.dry said.rules said.remembered said.words
plain_over chores.Replace said origin h = plain_replacing origin said.base (plain_name said.words)
plain_over chores.Talk said origin h = absurd (h refl)
plain_over chores.Sample said origin h = plain_sample said.words
plain_over chores.Export said origin h = plain_export (plain_name said.words)
plain_over chores.Items said origin h = plain_listing (plain_name said.words)
plain_over chores.Feed said origin h = plain_feeding (plain_name said.words)
plain_over chores.Follow said origin h = plain_following said.limit (plain_name said.words)

plain_from : (chore : Chore) (said : Said) (origin : Result Origin UsageFault) → (chore ≡ chores.Talk → ⊥) → IsPlainRead (task_from chore said origin)
plain_from chore said (Ok origin) h = plain_over chore said origin h
plain_from chore said (Err fault) h = tt

plain_by : (chore : Chore) (said : Result Said UsageFault) → (chore ≡ chores.Talk → ⊥) → IsPlainRead (task_by chore said)
plain_by chore (Ok said) h = plain_from chore said (origin_of said.journal) h
plain_by chore (Err fault) h = tt

plain_report : (read : Result (Given × Asked) WordsFault) → IsPlainRead (report_task read)
plain_report (Ok read) = tt
plain_report (Err fault) = tt

-- ---- the word that names it

-- a command is another than `talk`
abbrev IsOther : Option Chore → Type 0
IsOther chore = chore ≡ Some chores.Talk → ⊥

other_if : (b : Bool) (chore : Chore) (rest : Option Chore) → IsOther (Some chore) → IsOther rest → IsOther (if b then Some chore else rest)
other_if true chore rest own other = own
other_if false chore rest own other = other

other_not : (b : Bool) (rest : Option Chore) → b ≡ false → IsOther rest → IsOther (if b then Some chores.Talk else rest)
other_not true rest e other = absurd (false≢true (sym e))
other_not false rest e other = other

other_named : (word : List ℕ) → bytes_eq word (codes "talk") ≡ false → IsOther (chore_named word)
unfolding chore_named
other_named word e =
    other_if (bytes_eq word (codes "hours")) chores.Hours _ (λ x. cc)
    (other_if (bytes_eq word (codes "strict")) chores.Strict _ (λ x. cc)
    (other_if (bytes_eq word (codes "close")) chores.Close _ (λ x. cc)
    (other_if (bytes_eq word (codes "explain")) chores.Explain _ (λ x. cc)
    (other_if (bytes_eq word (codes "init")) chores.Init _ (λ x. cc)
    (other_if (bytes_eq word (codes "add")) chores.Add _ (λ x. cc)
    (other_if (bytes_eq word (codes "import")) chores.Import _ (λ x. cc)
    (other_not (bytes_eq word (codes "talk")) _ e
    (other_if (bytes_eq word (codes "sample")) chores.Sample _ (λ x. cc)
    (other_if (bytes_eq word (codes "replace")) chores.Replace _ (λ x. cc)
    (other_if (bytes_eq word (codes "export")) chores.Export _ (λ x. cc)
    (other_if (bytes_eq word (codes "items")) chores.Items _ (λ x. cc)
    (other_if (bytes_eq word (codes "feed")) chores.Feed _ (λ x. cc)
    (other_if (bytes_eq word (codes "follow")) chores.Follow None (λ x. cc) (λ x. cc))))))))))))))

plain_chore : (chore : Option Chore) (day : ℕ) (word : List ℕ) (words : List (List ℕ)) → IsOther chore → IsPlainRead (chore_or_report chore day word words)
plain_chore (Some chore) day word words h = plain_by chore (said_by chore words) (λ e. h (ap (λ (x : Chore). Some x) e))
plain_chore None day word words h = plain_report (given_of day (word ∷ words))

-- help and the version are no connection
plain_on : (word : List ℕ) (subject : Option Subject) (words : List (List ℕ)) → IsPlainRead (help_on word subject words)
plain_on word (Some subject) words = plain_alone (task.Help subject) words tt
plain_on word None words = tt

plain_help : (words : List (List ℕ)) → IsPlainRead (help_task words)
plain_help [] = tt
plain_help (word ∷ words) = plain_on word (subject_named word) words

plain_text : (help version : Bool) (day : ℕ) (word : List ℕ) (words : List (List ℕ)) → IsPlainRead (chore_or_report (chore_named word) day word words)
    → IsPlainRead (if help then help_task words else if version then task_alone task.Version words else chore_or_report (chore_named word) day word words)
plain_text true version day word words h = plain_help words
plain_text false true day word words h = plain_alone task.Version words tt
plain_text false false day word words h = h

pub plain_read : (day : ℕ) (words : List (List ℕ)) → talks words ≡ false → IsPlainRead (task_of day words)
plain_read day [] e = tt
plain_read day (word ∷ words) e =
    plain_text (bytes_eq word (codes "--help")) (bytes_eq word (codes "--version")) day word words
    (plain_chore (chore_named word) day word words (other_named word e))
