-- The line that says why a record becomes no entry.
use Rattle.std.specs.Prelude.{ℕ, List, codes}
use Rattle.csv_entries.specs.declared.faults.ConvertFault.{ConvertFault}
use Rattle.csv_entries.specs.declared.faults.ConvertFault.TheVariants as convert_fault
use Rattle.error_lines.specs.Lines as lines

abbrev pub convert_line : ConvertFault → List ℕ
convert_line (convert_fault.BadRecord n) = lines.bad_record n (codes ": bad")
convert_line (convert_fault.NoDate n) = lines.bad_record n (codes ": no date")
convert_line (convert_fault.NoAmount n) = lines.bad_record n (codes ": no amount")
convert_line (convert_fault.TwoAmounts n) = lines.bad_record n (codes ": two amounts")
convert_line (convert_fault.CsvRefused n) = lines.bad_record n (codes ": not text")
convert_line convert_fault.Memory = lines.memory
