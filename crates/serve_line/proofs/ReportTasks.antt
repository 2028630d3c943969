-- The words of a report ask the program for it, whatever other commands there are.
use Rattle.std.proofs.Common.{◌≡◌, ◌∙◌, ℕ, Bool, true, false, ◌||◌, is_some, if◌then◌else◌, List, [], ◌∷◌, codes, Option, Some, None, Result, Ok, Err, IfOk, IfErr, IsOk, refl, sym, ap, subst}
use Rattle.std.specs.Str.{bytes_eq}
use Rattle.std.specs.List.{AllByRecursion}
use Rattle.std.proofs.lemmas.Bool.{false≢true}
use Rattle.std.proofs.lemmas.Slice.Eq.{bytes_eq-Decides}
use Rattle.report_options.specs.Commands.{command_named}
use Rattle.report_options.specs.Programs.{NamesNoJournal, unnamed}
use Rattle.report_options.specs.declared.command.Command.{Command}
use Rattle.report_options.specs.declared.command.Command.TheVariants as commands
use Rattle.report_commands.specs.declared.asked.Asked.{Asked}
use Rattle.report_commands.specs.declared.fault.WordsFault.{WordsFault}
use Rattle.plan_commands.specs.Commands.{asked_from, asked_of, given_of}
use Rattle.plan_commands.proofs.Requests.{request_refused, request_runs}
use Rattle.book_commands.specs.declared.work.Work.TheVariants as works
use Rattle.command_words.specs.Chores.{chore_named}
use Rattle.command_words.specs.Commands.{chore_or_report, report_task, task_of, text_task}
use Rattle.command_words.specs.HelpWords.{help_task}
use Rattle.command_words.specs.TalkWords.{task_alone}
use Rattle.command_words.specs.declared.chores.Chore.{Chore}
use Rattle.command_words.specs.declared.task.Origin.TheVariants as origins
use Rattle.command_words.specs.declared.task.Task.TheVariants as task
use Rattle.command_words.specs.declared.usage.UsageFault.TheVariants as usages
use Rattle.serve_line.specs.RunReplies.{BeginReport}

-- a word names no other command
record NamesReport (word : List ℕ) : Type 0 where
  help : bytes_eq word (codes "--help") ≡ false
  version : bytes_eq word (codes "--version") ≡ false
  chore : chore_named word ≡ None

-- one of the names
by_test : (word name : List ℕ) (b : Bool) → bytes_eq word name ≡ b → NamesReport name → (b ≡ false → NamesReport word) → NamesReport word
by_test word name true is own other = subst (λ (w : List ℕ). NamesReport w) (sym ((bytes_eq-Decides word name).0 is)) own
by_test word name false is own other = other refl

on_name : (word name : List ℕ) → NamesReport name → (bytes_eq word name ≡ false → NamesReport word) → NamesReport word
on_name word name own other = by_test word name (bytes_eq word name) refl own other

of_bal : NamesReport (codes "bal")
unfolding chore_named
of_bal = record { help = refl; version = refl; chore = refl }

of_balance : NamesReport (codes "balance")
unfolding chore_named
of_balance = record { help = refl; version = refl; chore = refl }

of_print : NamesReport (codes "print")
unfolding chore_named
of_print = record { help = refl; version = refl; chore = refl }

of_reg : NamesReport (codes "reg")
unfolding chore_named
of_reg = record { help = refl; version = refl; chore = refl }

of_register : NamesReport (codes "register")
unfolding chore_named
of_register = record { help = refl; version = refl; chore = refl }

of_is : NamesReport (codes "is")
unfolding chore_named
of_is = record { help = refl; version = refl; chore = refl }

of_income : NamesReport (codes "incomestatement")
unfolding chore_named
of_income = record { help = refl; version = refl; chore = refl }

of_bs : NamesReport (codes "bs")
unfolding chore_named
of_bs = record { help = refl; version = refl; chore = refl }

of_sheet : NamesReport (codes "balancesheet")
unfolding chore_named
of_sheet = record { help = refl; version = refl; chore = refl }

of_accounts : NamesReport (codes "accounts")
unfolding chore_named
of_accounts = record { help = refl; version = refl; chore = refl }

of_check : NamesReport (codes "check")
unfolding chore_named
of_check = record { help = refl; version = refl; chore = refl }

-- a word that is none of them names no report
abbrev chain : (a b c d e f g h i j k : Bool) → Option Command
chain a b c d e f g h i j k =
    if a || b then Some commands.Balance
    else if c then Some commands.Print
    else if d || e then Some commands.Register
    else if f || g then Some commands.IncomeStatement
    else if h || i then Some commands.BalanceSheet
    else if j then Some commands.Accounts
    else if k then Some commands.Check
    else None

chain_none : (a b c d e f g h i j k : Bool) → a ≡ false → b ≡ false → c ≡ false → d ≡ false → e ≡ false → f ≡ false → g ≡ false → h ≡ false → i ≡ false → j ≡ false → k ≡ false
    → chain a b c d e f g h i j k ≡ None
chain_none a b c d e f g h i j k ea eb ec ed ee ef eg eh ei ej ek =
    λ t. chain (ea t) (eb t) (ec t) (ed t) (ee t) (ef t) (eg t) (eh t) (ei t) (ej t) (ek t)

none_some : (o : Option Command) → o ≡ None → is_some o ≡ true → ⊥
none_some o none some = false≢true (sym (ap is_some none) ∙ some)

names_report : (word : List ℕ) → is_some (command_named word) ≡ true → NamesReport word
unfolding command_named
names_report word named =
    on_name word (codes "bal") of_bal (λ a.
    on_name word (codes "balance") of_balance (λ b.
    on_name word (codes "print") of_print (λ c.
    on_name word (codes "reg") of_reg (λ d.
    on_name word (codes "register") of_register (λ e.
    on_name word (codes "is") of_is (λ f.
    on_name word (codes "incomestatement") of_income (λ g.
    on_name word (codes "bs") of_bs (λ h.
    on_name word (codes "balancesheet") of_sheet (λ i.
    on_name word (codes "accounts") of_accounts (λ j.
    on_name word (codes "check") of_check (λ k.
    absurd (none_some (command_named word) (chain_none _ _ _ _ _ _ _ _ _ _ _ a b c d e f g h i j k) named))))))))))))

-- ---- what the words ask for

task_by : (help version : Bool) (chore : Option Chore) (day : ℕ) (word : List ℕ) (words : List (List ℕ)) → help ≡ false → version ≡ false → chore ≡ None
    → (if help then help_task words else if version then task_alone task.Version words else chore_or_report chore day word words)
    ≡ report_task (given_of day (word ∷ words))
task_by help version chore day word words no_help no_version no_chore =
    λ i. if no_help i then help_task words else if no_version i then task_alone task.Version words else chore_or_report (no_chore i) day word words

pub report_is_asked : (day : ℕ) (words : List (List ℕ)) → BeginReport words → task_of day words ≡ report_task (given_of day words)
report_is_asked day [] begins = absurd begins
report_is_asked day (word ∷ words) begins =
    let n = names_report word begins in
    task_by (bytes_eq word (codes "--help")) (bytes_eq word (codes "--version")) (chore_named word) day word words n.help n.version n.chore

-- words that a request reads begin with a report's name
named_from : (word : List ℕ) (c : Option Command) (day : ℕ) (words : List (List ℕ)) → command_named word ≡ c
    → IsOk (asked_from word c day words) → is_some (command_named word) ≡ true
named_from word None day words is ok = absurd (false≢true ok)
named_from word (Some command) day words is ok = ap is_some is

pub reads_begin : (day : ℕ) (words : List (List ℕ)) → IsOk (asked_of day words) → BeginReport words
reads_begin day [] ok = absurd (false≢true ok)
reads_begin day (word ∷ words) ok = named_from word (command_named word) day words refl ok

-- a report that reads is asked of the input
pub input_report : (day : ℕ) (words : List (List ℕ)) (asked : Asked) → asked_of day words ≡ Ok asked → task_of day words ≡ Ok (text_task origins.Input (works.Report asked))
input_report day words asked is =
    let ok : IsOk (asked_of day words) = subst (λ (r : Result Asked WordsFault). IsOk r) (sym is) refl in
    let given : given_of day words ≡ Ok (unnamed, asked) =
    subst (λ (r : Result Asked WordsFault). IfOk r (λ a. given_of day words ≡ Ok (unnamed, a))) is (request_runs day words) in
    report_is_asked day words (reads_begin day words ok) ∙ ap report_task given

-- words that don't read are refused so
pub refused_report : (day : ℕ) (words : List (List ℕ)) (fault : WordsFault) → asked_of day words ≡ Err fault → BeginReport words → AllByRecursion NamesNoJournal words
    → task_of day words ≡ Err (usages.Words fault)
refused_report day words fault is begins none =
    let given : given_of day words ≡ Err fault =
    subst (λ (r : Result Asked WordsFault). IfErr r (λ f. given_of day words ≡ Err f)) is (request_refused day words none) in
    report_is_asked day words begins ∙ ap report_task given
