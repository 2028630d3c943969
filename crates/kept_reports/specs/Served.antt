-- Which reports are answered from what is kept.
use Rattle.std.specs.Prelude.{◌≡◌, ℕ, Bool, true, false, not, ◌&&◌, is_some, List, [], ◌∷◌, None}
use Rattle.plan_commands.specs.Reports.{asks_rules}
use Rattle.report_commands.specs.declared.asked.Asked.{Asked}
pub use Rattle.report_options.specs.Names.{is_balance}
use Rattle.report_options.specs.declared.command.Command.TheVariants as commands
use Rattle.report_options.specs.declared.options.Options.{Options}

-- the query has no words
abbrev pub is_bare : List (List ℕ) → Bool
is_bare [] = true
is_bare (word ∷ words) = false

-- amounts are neither valued nor taken at cost
abbrev pub is_as_written : Options → Bool
is_as_written options = not options.cost && not (is_some options.value)

-- A balance without words of a query, of amounts as they are written, of the accounts that have sums, and without entries
-- that rules make.
abbrev pub is_from_kept : Asked → Bool
is_from_kept asked =
    is_bare asked.words && (is_balance asked.options.command && (is_as_written asked.options
    && (not asked.options.empty && not (asks_rules asked.options))))

-- what the options of such a report say
pub record IsServed (options : Options) : Type 0 where
  pub balance : options.command ≡ commands.Balance
  pub written : options.cost ≡ false
  pub unvalued : options.value ≡ None
  pub shown : options.empty ≡ false
  pub alone : asks_rules options ≡ false
