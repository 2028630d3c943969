-- What each report command answers.
use Rattle.std.specs.Prelude.{ℕ, nat_lt, List, [], map, length, Result, Ok, Err, if◌then◌else◌}
use Rattle.hl_time.specs.declared.spans.Span.{Span}
use Rattle.book.specs.declared.style.Style.{Style}
use Rattle.balance_layouts.specs.Balance as balances
use Rattle.balance_layouts.specs.Balance.{balance_text}
use Rattle.balance_rows.specs.declared.layout.Layout.{Layout}
use Rattle.journal_listings.specs.Listed.{accounts_text}
use Rattle.journal_listings.specs.Printed.{print_text}
use Rattle.query.specs.Matching.{Own}
use Rattle.register_report.specs.Heads.{Headed}
use Rattle.register_report.specs.Lines.{register_text}
use Rattle.register_report.specs.Selected as register
use Rattle.report_cells.specs.Bounds.{first_out}
use Rattle.report_cells.specs.Taken.{Taken}
use Rattle.report_cells.specs.declared.fault.ReportFault.{ReportFault}
use Rattle.report_cells.specs.declared.fault.ReportFault.TheVariants.{TooWide}
use Rattle.report_options.specs.declared.command.Command.{Command}
use Rattle.report_options.specs.declared.command.Command.TheVariants as commands
use Rattle.report_sums.specs.Celled.{Celled, cells_of, unless}
use Rattle.report_sums.specs.Matters.{Matter}
use Rattle.report_sums.specs.Worths.{worths_of}
use Rattle.report_takings.specs.Asking.{Question}
use Rattle.report_takings.specs.Columns.{column_limit, columns_of}
use Rattle.report_takings.specs.Takings.{out_among, shown_in, taken}
use Rattle.report_takings.specs.declared.entries.Part.TheVariants.{Counted}
use Rattle.statements.specs.Written as statements
use Rattle.statements.specs.Written.{statement_text}
use Rattle.statements.specs.declared.statement.Statement.{Statement}
use Rattle.statements.specs.declared.statement.Statement.TheVariants.{Income, Sheet}
use Rattle.report_commands.specs.Layouts.{layout_of}

-- a step, and then what is made of what it gives; the first fault decides
infixl 10 ◌>>=◌
abbrev pub ◌>>=◌ : {A B : Type 0} → Result A ReportFault → (A → Result B ReportFault) → Result B ReportFault
(Ok x) >>= f = f x
(Err fault) >>= f = Err fault

-- columns, unless they are too many
abbrev pub few : List Span → Result (List Span) ReportFault
few columns = if nat_lt column_limit (length columns) then Err (TooWide (length columns) column_limit) else Ok columns

abbrev pub columns_in : Question → Result (List Span) ReportFault
columns_in asked = few (columns_of asked)

-- ---- reports with columns

-- the columns of a report, and its sums by these
abbrev pub sums_in : Matter → Result (List Span × Celled) ReportFault
sums_in m = columns_in m.asked >>= λ columns. (cells_of m columns >>= λ cells. Ok (columns, cells))

-- the balance report of some sums, unless an average can't be told
abbrev pub laid_balance : Layout → (List ℕ → Style) → List Span → Celled → Result (List ℕ) ReportFault
laid_balance layout style columns cells =
    unless (balances.out_of_range layout (length columns) style cells.rows cells.totals)
    (balance_text layout style columns cells.rows cells.totals)

abbrev pub balance_of : Matter → Result (List ℕ) ReportFault
balance_of m = sums_in m >>= λ sums. laid_balance (layout_of m.asked.options) m.style sums.0 sums.1

-- the statement of some sums, where accounts have these letters
abbrev pub laid_statement : Statement → Layout → Own → (List ℕ → Style) → List Span → Celled → Result (List ℕ) ReportFault
laid_statement statement layout own style columns cells =
    unless (statements.out_of_range statement layout own style (length columns) cells.rows)
    (statement_text statement layout own style columns cells.rows)

abbrev pub statement_of : Statement → Own → Matter → Result (List ℕ) ReportFault
statement_of statement own m =
    sums_in m >>= λ sums. laid_statement statement (layout_of m.asked.options) own m.style sums.0 sums.1

-- ---- the register

-- what a register takes, unless a cost is out of range
abbrev pub register_takings : Question → Span → Result (List Taken) ReportFault
register_takings asked span =
    let entries = register.all_in asked span in
    unless (out_among asked.options entries) (map (taken Counted asked) entries)

-- what it shows of its postings' transactions
abbrev pub register_heads : Question → Span → List Headed
register_heads asked span = map register.head_of (register.shown_in asked span)

-- its lines, unless the amounts of a symbol are too large to sum
abbrev pub register_lines : (List ℕ → Style) → List Headed → List Taken → Result (List ℕ) ReportFault
register_lines style heads takings = unless (first_out takings) (register_text style takings heads)

-- what is taken over a span is valued, and then shown
abbrev pub valued_lines : Matter → Span → List Taken → Result (List ℕ) ReportFault
valued_lines m span takings = worths_of m span takings >>= register_lines m.style (register_heads m.asked span)

abbrev pub register_over : Matter → Span → Result (List ℕ) ReportFault
register_over m span = register_takings m.asked span >>= valued_lines m span

-- the register of the days of the columns
abbrev pub register_of : Matter → Result (List ℕ) ReportFault
register_of m = columns_in m.asked >>= λ columns. register_over m (shown_in columns)

-- ---- all reports

-- the transactions that are printed
abbrev pub journal_of : Matter → List ℕ
journal_of m = print_text m.asked (λ amount. (m.style amount.symbol).shape)

-- What a command answers, where accounts have these letters of their own.
abbrev pub text_by : Command → Own → Matter → Result (List ℕ) ReportFault
text_by commands.Balance own m = balance_of m
text_by commands.IncomeStatement own m = statement_of Income own m
text_by commands.BalanceSheet own m = statement_of Sheet own m
text_by commands.Register own m = register_of m
text_by commands.Print own m = Ok (journal_of m)
text_by commands.Accounts own m = Ok (accounts_text m.asked)
text_by commands.Check own m = Ok []
