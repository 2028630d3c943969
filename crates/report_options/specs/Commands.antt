-- The commands by their names.
use Rattle.std.specs.Prelude.{ℕ, List, codes, Option, Some, None, if◌then◌else◌}
use Rattle.std.specs.Str.{bytes_eq}
use Rattle.report_options.specs.Names.{is_either}
use Rattle.report_options.specs.declared.command.Command.{Command}
use Rattle.report_options.specs.declared.command.Command.TheVariants as commands

-- the command that a word names
unfoldable pub command_named : List ℕ → Option Command
command_named word =
    if is_either word (codes "bal") (codes "balance") then Some commands.Balance
    else if bytes_eq word (codes "print") then Some commands.Print
    else if is_either word (codes "reg") (codes "register") then Some commands.Register
    else if is_either word (codes "is") (codes "incomestatement") then Some commands.IncomeStatement
    else if is_either word (codes "bs") (codes "balancesheet") then Some commands.BalanceSheet
    else if bytes_eq word (codes "accounts") then Some commands.Accounts
    else if bytes_eq word (codes "check") then Some commands.Check
    else None
