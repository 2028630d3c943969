-- What is told of the report over a text.
use Rattle.std.specs.Prelude.{Result, Ok, Err}
use Rattle.book.specs.declared.fault.Fault.{Fault}
use Rattle.plan_commands.specs.Reports.{Report}
use Rattle.refusals.specs.Outcomes.{Judged}
use Rattle.book_commands.specs.Texts.{fault_refusal}
use Rattle.book_commands.specs.Works.{report_outcome}

-- a report as it is written, or the refusal of a text that has a fault
abbrev pub told_report : Result Report Fault → Judged
told_report (Ok report) = Ok (report_outcome report)
told_report (Err fault) = Err (fault_refusal fault)
