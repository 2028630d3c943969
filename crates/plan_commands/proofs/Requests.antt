-- What words ask for in a request, they ask for behind the program's name too, of no file and of no store.
use Rattle.std.proofs.Common.{◌≡◌, ℕ, List, [], ◌∷◌, Option, Some, None, Result, Ok, Err, IfOk, IfErr, refl, ap}
use Rattle.std.specs.List.{AllByRecursion}
use Rattle.report_options.specs.Commands.{command_named}
use Rattle.report_options.specs.Options.{reading}
use Rattle.report_options.specs.Programs.{NamesNoJournal, program_reading, unnamed}
use Rattle.report_options.specs.declared.command.Command.{Command}
use Rattle.report_options.specs.declared.fault.OptionFault.{OptionFault}
use Rattle.report_options.specs.declared.options.Options.{Options}
use Rattle.report_options.specs.declared.program.Given.{Given}
use Rattle.report_options.proofs.Refused.{refused_so}
use Rattle.report_options.proofs.Requests.{Read, read_so}
use Rattle.plan_commands.specs.Commands.{asked_by, asked_from, asked_of, given_by, given_from, given_of}

by_reading : (command : Command) (day : ℕ) (those : List (List ℕ)) (r : Result Read OptionFault) → reading command day those ≡ r
    → IfOk (asked_by r) (λ asked. given_by (program_reading command day those) ≡ Ok (unnamed, asked))
by_reading command day those (Err fault) is = tt
by_reading command day those (Ok read) is =
    ap (λ (p : Result (Given × Options × List (List ℕ)) OptionFault). given_by p) (read_so command day those read is)

by_command : (word : List ℕ) (c : Option Command) (day : ℕ) (those : List (List ℕ))
    → IfOk (asked_from word c day those) (λ asked. given_from word c day those ≡ Ok (unnamed, asked))
by_command word None day those = tt
by_command word (Some command) day those = by_reading command day those (reading command day those) refl

pub request_runs : (day : ℕ) (those : List (List ℕ)) → IfOk (asked_of day those) (λ asked. given_of day those ≡ Ok (unnamed, asked))
request_runs day [] = tt
request_runs day (word ∷ those) = by_command word (command_named word) day those

-- ---- and what they are refused for

abbrev ReadAfter : Type 0
ReadAfter = Result (Given × Options × List (List ℕ)) OptionFault

by_refusal : (r : Result Read OptionFault) (p : ReadAfter) → IfErr r (λ fault. p ≡ Err fault) → IfErr (asked_by r) (λ fault. given_by p ≡ Err fault)
by_refusal (Ok read) p so = tt
by_refusal (Err fault) p so = ap (λ (p : ReadAfter). given_by p) so

refused_by : (word : List ℕ) (c : Option Command) (day : ℕ) (those : List (List ℕ)) → AllByRecursion NamesNoJournal those
    → IfErr (asked_from word c day those) (λ fault. given_from word c day those ≡ Err fault)
refused_by word None day those none = refl
refused_by word (Some command) day those none =
    by_refusal (reading command day those) (program_reading command day those) (refused_so command day those none)

pub request_refused : (day : ℕ) (those : List (List ℕ)) → AllByRecursion NamesNoJournal those
    → IfErr (asked_of day those) (λ fault. given_of day those ≡ Err fault)
request_refused day [] none = refl
request_refused day (word ∷ those) none = refused_by word (command_named word) day those none.1
