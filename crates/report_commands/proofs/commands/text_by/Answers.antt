use Rattle.std.proofs.Common.{◌≡◌, ℕ, List, Result, sym, subst}
use Rattle.hl_base.specs.Gives.{Gives}
use Rattle.query.specs.OwnLetters.{own_in}
use Rattle.report_cells.specs.declared.fault.ReportFault.{ReportFault}
use Rattle.report_options.specs.declared.command.Command.{Command}
use Rattle.report_options.specs.declared.command.Command.TheVariants as commands
use Rattle.report_sums.specs.Celled.{cause}
use Rattle.report_sums.specs.Matters.{matter_of}
use Rattle.report_sums.specs.declared.job.Job.{Job}
use Rattle.report_commands.specs.Answered.{text_by}
use Rattle.report_commands.proofs.commands.text_by.Goals as goal

by_arm : (job : Job) (r : Result (List ℕ) ReportFault) (command : Command) → job.scope.options.now.command ≡ command
    → Gives (λ (text : List ℕ). text) cause r (text_by command (own_in job.scope.types.now) (matter_of job))
    → Gives (λ (text : List ℕ). text) cause r (text_by job.scope.options.now.command (own_in job.scope.types.now) (matter_of job))
by_arm job r command is made =
    subst (λ (k : Command). Gives (λ (text : List ℕ). text) cause r (text_by k (own_in job.scope.types.now) (matter_of job))) (sym is) made

pub returns-in-Balance : goal.returns-in-Balance
returns-in-Balance c = by_arm c.args.job.now c.balance.result commands.Balance c.in-Balance.is c.balance.ensures

pub returns-in-IncomeStatement : goal.returns-in-IncomeStatement
returns-in-IncomeStatement c = by_arm c.args.job.now c.income.result commands.IncomeStatement c.in-IncomeStatement.is c.income.ensures

pub returns-in-BalanceSheet : goal.returns-in-BalanceSheet
returns-in-BalanceSheet c = by_arm c.args.job.now c.sheet.result commands.BalanceSheet c.in-BalanceSheet.is c.sheet.ensures

pub returns-in-Register : goal.returns-in-Register
returns-in-Register c = by_arm c.args.job.now c.register.result commands.Register c.in-Register.is c.register.ensures

pub returns-in-Print : goal.returns-in-Print
returns-in-Print c = by_arm c.args.job.now c.journal.result commands.Print c.in-Print.is c.journal.ensures

pub returns-in-Accounts : goal.returns-in-Accounts
returns-in-Accounts c = by_arm c.args.job.now c.accounts.result commands.Accounts c.in-Accounts.is c.accounts.ensures
