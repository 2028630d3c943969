-- The lines that say why a log isn't read, what a check found, and why accounts aren't closed.
use Rattle.std.specs.Prelude.{ℕ, List, ◌++◌, codes}
use Rattle.std.specs.Fmt.{decimal}
use Rattle.book_care.specs.declared.faults.CloseFault.{CloseFault}
use Rattle.book_care.specs.declared.faults.CloseFault.TheVariants as close_fault
use Rattle.book_care.specs.declared.faults.StrictFault.{StrictFault}
use Rattle.book_care.specs.declared.faults.StrictFault.TheVariants as strict_fault
use Rattle.error_lines.specs.Lines as lines
use Rattle.journal_printer.specs.Texts.{calendar_text}
use Rattle.time_logs.specs.declared.faults.LogFault.{LogFault}
use Rattle.time_logs.specs.declared.faults.LogFault.TheVariants as log_fault

-- why a log isn't read
abbrev pub log_line : LogFault → List ℕ
log_line (log_fault.BadLine line) = lines.in_log line (codes ": bad line")
log_line (log_fault.Order line) = lines.in_log line (codes ": order")
log_line (log_fault.Backwards line) = lines.in_log line (codes ": backwards")
log_line (log_fault.Open line) = lines.in_log line (codes ": open")
log_line (log_fault.TooMany count limit) = lines.past_limit count limit
log_line log_fault.Memory = lines.memory

-- the exit status of a log that isn't read: 7 where it makes too many transactions, else 1
abbrev pub log_status : LogFault → ℕ
log_status (log_fault.TooMany count limit) = 7
log_status _ = 1

-- what is said of a line of a journal
abbrev pub in_line : ℕ → List ℕ → List ℕ
in_line line said = lines.ended (codes "error: line " ++ decimal line ++ codes ": " ++ said)

-- what a check found
abbrev pub strict_line : StrictFault → List ℕ
strict_line (strict_fault.Account line name) = in_line line (codes "undeclared account " ++ name)
strict_line (strict_fault.Commodity line symbol) = in_line line (codes "undeclared commodity " ++ symbol)
strict_line (strict_fault.Payee line payee) = in_line line (codes "undeclared payee " ++ payee)
strict_line (strict_fault.Tag line name) = in_line line (codes "undeclared tag " ++ name)
strict_line (strict_fault.Dates line before day) = in_line line (calendar_text day.0 ++ codes " before " ++ calendar_text before.0)
strict_line strict_fault.Memory = lines.memory

-- why accounts aren't closed
abbrev pub close_line : CloseFault → List ℕ
close_line (close_fault.Later line day) = in_line line (codes "later " ++ calendar_text day.0)
close_line (close_fault.Renamed account) = lines.ended (codes "error: account: " ++ account)
close_line (close_fault.Bare account) = lines.ended (codes "error: no symbol: " ++ account)
close_line (close_fault.Fine account symbol) = lines.ended (codes "error: decimals: " ++ symbol)
close_line close_fault.Memory = lines.memory
