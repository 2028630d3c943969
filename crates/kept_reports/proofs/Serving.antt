-- What is asked of a report that is answered from what is kept.
use Rattle.std.proofs.Common.{◌≡◌, ℕ, Bool, true, false, not, ◌&&◌, List, [], ◌∷◌, Option, Some, None, refl, sym}
use Rattle.std.specs.Prelude.{is_some}
use Rattle.std.proofs.lemmas.Bool.{false≢true}
use Rattle.plan_commands.specs.Reports.{asks_rules}
use Rattle.report_commands.specs.declared.asked.Asked.{Asked}
use Rattle.report_options.specs.declared.command.Command.{Command}
use Rattle.report_options.specs.declared.command.Command.TheVariants as commands
use Rattle.report_options.specs.declared.options.Valuation.{Valuation}
use Rattle.kept_reports.specs.Served.{IsServed, is_as_written, is_balance, is_bare, is_from_kept}

record AllHold (a b c d e : Bool) : Type 0 where
  first : a ≡ true
  second : b ≡ true
  third : c ≡ true
  fourth : d ≡ true
  fifth : e ≡ true

all_hold : (a b c d e : Bool) → (a && (b && (c && (d && e)))) ≡ true → AllHold a b c d e
all_hold true true true true true h = record { first = refl; second = refl; third = refl; fourth = refl; fifth = refl }
all_hold true true true true false h = absurd (false≢true h)
all_hold true true true false e h = absurd (false≢true h)
all_hold true true false d e h = absurd (false≢true h)
all_hold true false c d e h = absurd (false≢true h)
all_hold false b c d e h = absurd (false≢true h)

is_false : (b : Bool) → not b ≡ true → b ≡ false
is_false true h = absurd (false≢true h)
is_false false h = refl

both_false : (a b : Bool) → (not a && not b) ≡ true → (a ≡ false) × (b ≡ false)
both_false false false h = (refl, refl)
both_false false true h = absurd (false≢true h)
both_false true b h = absurd (false≢true h)

no_words : (words : List (List ℕ)) → is_bare words ≡ true → words ≡ []
no_words [] h = refl
no_words (word ∷ words) h = absurd (false≢true h)

balance_is : (command : Command) → is_balance command ≡ true → command ≡ commands.Balance
balance_is commands.Balance h = refl
balance_is commands.IncomeStatement h = absurd (false≢true h)
balance_is commands.BalanceSheet h = absurd (false≢true h)
balance_is commands.Register h = absurd (false≢true h)
balance_is commands.Print h = absurd (false≢true h)
balance_is commands.Accounts h = absurd (false≢true h)
balance_is commands.Check h = absurd (false≢true h)

none_is : (value : Option Valuation) → is_some value ≡ false → value ≡ None
none_is None h = refl
none_is (Some worth) h = absurd (false≢true (sym h))

parts : (asked : Asked) → is_from_kept asked ≡ true
    → AllHold (is_bare asked.words) (is_balance asked.options.command) (is_as_written asked.options) (not asked.options.empty) (not (asks_rules asked.options))
parts asked h =
    all_hold (is_bare asked.words) (is_balance asked.options.command) (is_as_written asked.options) (not asked.options.empty) (not (asks_rules asked.options)) h

pub words_none : (asked : Asked) → is_from_kept asked ≡ true → asked.words ≡ []
words_none asked h = no_words asked.words (parts asked h).first

pub served : (asked : Asked) → is_from_kept asked ≡ true → IsServed asked.options
served asked h =
    let p = parts asked h in
    let plain = both_false asked.options.cost (is_some asked.options.value) p.third in
    record {
      balance = balance_is asked.options.command p.second;
      written = plain.0;
      unvalued = none_is asked.options.value plain.1;
      shown = is_false asked.options.empty p.fourth;
      alone = is_false (asks_rules asked.options) p.fifth;
    }
