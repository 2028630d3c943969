-- The entries that a file becomes by rules.
use Rattle.std.specs.Prelude.{ℕ, List, Option, Some, None, Ok, Err}
use Rattle.query_terms.specs.Patterns.{Known}
use Rattle.query_terms.specs.Sought.{known_of}
use Rattle.csv_entries.specs.Numbered.{Entries, entries_from}
use Rattle.csv_entries.specs.Ordering.{in_order}
use Rattle.csv_entries.specs.Records.{records_of}
use Rattle.csv_entries.specs.declared.faults.ConvertFault.{ConvertFault}
use Rattle.csv_entries.specs.declared.faults.ConvertFault.TheVariants as faults
use Rattle.csv_rules.specs.declared.kinds.Settings.{Settings}
use Rattle.csv_rules.specs.declared.kinds.Sheet.{Sheet}
use Rattle.csv_rules.specs.declared.reading.Rules.{Rules}

abbrev pub ordered : Settings → Entries → Entries
ordered settings (Ok ts) = Ok (in_order settings ts)
ordered settings (Err fault) = Err fault

-- the entries that a file becomes, in order
abbrev pub conversion : Known → Sheet → List ℕ → Entries
conversion known sheet text =
    ordered sheet.settings (entries_from known sheet 1 (records_of sheet.settings text))

-- by rules that were read
abbrev pub conversion_by : Rules → List ℕ → Entries
conversion_by rules text = conversion (known_of rules.regexes.items) rules.sheet text

-- the fault of the file, where it is one
abbrev pub cause_in : ConvertFault → Option ConvertFault
cause_in faults.Memory = None
cause_in (faults.BadRecord n) = Some (faults.BadRecord n)
cause_in (faults.NoDate n) = Some (faults.NoDate n)
cause_in (faults.NoAmount n) = Some (faults.NoAmount n)
cause_in (faults.TwoAmounts n) = Some (faults.TwoAmounts n)
cause_in (faults.CsvRefused n) = Some (faults.CsvRefused n)
