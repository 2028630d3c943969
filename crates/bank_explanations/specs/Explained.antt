-- The lines that explain why a bank's file or its rules are refused.
use Rattle.std.specs.Prelude.{ℕ, List, [], ◌++◌, codes, Option, Some, None}
use Rattle.std.specs.Fmt.{decimal}
use Rattle.csv_rules.specs.declared.faults.RulesFault.{RulesFault}
use Rattle.csv_rules.specs.declared.faults.RulesFault.TheVariants as rules_fault
use Rattle.csv_rules.specs.declared.kinds.DatePart.{DatePart}
use Rattle.csv_rules.specs.declared.kinds.EntryField.{EntryField}
use Rattle.csv_rules.specs.declared.kinds.EntryField.TheVariants as fields
use Rattle.csv_rules.specs.declared.reading.Rules.{Rules}
use Rattle.csv_entries.specs.declared.faults.ConvertFault.{ConvertFault}
use Rattle.csv_entries.specs.declared.faults.ConvertFault.TheVariants as faults
use Rattle.bank_explanations.specs.Parts.{part_for}
use Rattle.bank_explanations.specs.Places.{number_before, record_text}
use Rattle.bank_explanations.specs.Sentences.{rules_sentence, sentence_of}
use Rattle.bank_explanations.specs.declared.parts.Part.{Part}
use Rattle.entry_reader.specs.Lines.{contents_of}
use Rattle.explanations.specs.Explained.{first_content, numbered}
pub use Rattle.book.specs.FaultLine.{ended}

-- the name of a field in rules
abbrev pub name_of : EntryField → List ℕ
name_of fields.Date = codes "date"
name_of fields.Status = codes "status"
name_of fields.Code = codes "code"
name_of fields.Description = codes "description"
name_of fields.Comment = codes "comment"
name_of fields.Account1 = codes "account1"
name_of fields.Account2 = codes "account2"
name_of fields.Amount = codes "amount"
name_of fields.AmountIn = codes "amount-in"
name_of fields.AmountOut = codes "amount-out"
name_of fields.Amount2 = codes "amount2"
name_of fields.Currency = codes "currency"

abbrev pub record_line : ℕ → ℕ → List ℕ
record_line n line = ended (codes "record " ++ decimal n ++ codes ", line " ++ decimal line)

abbrev pub rule_line : ℕ → List ℕ
rule_line line = ended (codes "line " ++ decimal line)

-- a field and what it is given
abbrev pub part_line : Option Part → List ℕ
part_line (Some p) = ended (name_of p.field ++ codes ": " ++ p.text)
part_line None = []

-- ---- records

abbrev pub number_of : ConvertFault → ℕ
number_of (faults.BadRecord n) = n
number_of (faults.NoDate n) = n
number_of (faults.NoAmount n) = n
number_of (faults.TwoAmounts n) = n
number_of (faults.CsvRefused n) = n
number_of faults.Memory = 0

-- a record's number and that of the line on which it begins, and this line
abbrev pub record_lines : ℕ → List ℕ → List ℕ → List ℕ
record_lines n text rest = record_line n (number_before text rest) ++ ended (first_content rest)

-- the field behind some lines, and the sentence
abbrev pub with_part : List ℕ → Option (List DatePart) → ConvertFault → Option Part → List ℕ
with_part lines format fault part = (lines ++ part_line part) ++ ended (sentence_of format fault part)

-- the lines that explain why a record of a file is refused
unfoldable pub explained : Rules → List ℕ → ConvertFault → List ℕ
explained rules text fault =
    with_part (record_lines (number_of fault) text (record_text rules.sheet.settings (number_of fault) text)) rules.sheet.format fault
    (part_for rules text fault)

-- ---- rules

abbrev pub line_of : RulesFault → ℕ
line_of (rules_fault.BadRule line) = line
line_of (rules_fault.PatternRefused line) = line
line_of rules_fault.Memory = 0

abbrev pub line_explained : RulesFault → List ℕ → List ℕ
line_explained fault line = (rule_line (line_of fault) ++ ended line) ++ ended (rules_sentence fault line)

-- the lines that explain why rules are refused
unfoldable pub rules_explained : List ℕ → RulesFault → List ℕ
rules_explained text fault = line_explained fault (numbered (line_of fault) (contents_of text))
