-- What is wrong with a report, as its words' fault tells it.
use Rattle.query.specs.declared.faults.QueryFault.{QueryFault}
use Rattle.query.specs.declared.faults.QueryFault.TheVariants as query_fault
use Rattle.report_cells.specs.declared.fault.ReportFault.{ReportFault}
use Rattle.report_cells.specs.declared.fault.ReportFault.TheVariants as report_fault
use Rattle.report_commands.specs.declared.fault.WordsFault.{WordsFault}
use Rattle.report_commands.specs.declared.fault.WordsFault.TheVariants as words_fault

abbrev pub of_query : QueryFault → WordsFault
of_query (query_fault.BadTerm word) = words_fault.BadTerm word
of_query (query_fault.PatternRefused word) = words_fault.PatternRefused word
of_query query_fault.Memory = words_fault.Memory

abbrev pub of_report : ReportFault → WordsFault
of_report (report_fault.Range symbol) = words_fault.Report (report_fault.Range symbol)
of_report (report_fault.TooWide columns limit) = words_fault.Report (report_fault.TooWide columns limit)
of_report report_fault.Memory = words_fault.Memory
