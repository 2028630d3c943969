-- What becomes of the file of an import.
use Rattle.std.specs.Prelude.{◌≡◌, ◌⊎◌, ℕ, List, map, Option, None, Result, Ok, Err}
use Rattle.book.specs.declared.transaction.Txn.{Txn}
use Rattle.csv_rules.specs.declared.faults.RulesFault.{RulesFault}
use Rattle.csv_rules.specs.declared.faults.RulesFault.TheVariants as rules_fault
use Rattle.csv_entries.specs.declared.faults.ConvertFault.{ConvertFault}
use Rattle.csv_entries.specs.declared.faults.ConvertFault.TheVariants as convert_fault
use Rattle.query.specs.Building.{IsOneOf}
use Rattle.query_terms.specs.Making.{Stays}
use Rattle.desk.specs.declared.csv_fault.CsvFault.{CsvFault}
use Rattle.desk.specs.declared.csv_fault.CsvFault.TheVariants as csv_fault
use Rattle.desk.specs.declared.reply.Reply.{Reply}
use Rattle.desk.specs.declared.reply.Reply.TheVariants as reply
use Rattle.desk.specs.declared.deed.Deed.{Deed}
use Rattle.desk.specs.declared.request.Allow.TheVariants as allow
use Rattle.desk.specs.declared.request.Request.{Request}
use Rattle.desk.specs.Imports.{entries_of, new_deed, pattern_lines}
use Rattle.desk.specs.States.{State, forbidden, refused_line}
use Rattle.desk.specs.Steps.{TellsFile, TellsReply}

-- the replies to an import whose rules or records are refused
abbrev pub rules_reply : RulesFault → Reply
rules_reply rules_fault.Memory = reply.Memory
rules_reply (rules_fault.BadRule line) = reply.Csv (csv_fault.Rules (rules_fault.BadRule line))
rules_reply (rules_fault.PatternRefused line) = reply.Csv (csv_fault.Rules (rules_fault.PatternRefused line))

abbrev pub convert_reply : ConvertFault → Reply
convert_reply convert_fault.Memory = reply.Memory
convert_reply (convert_fault.BadRecord n) = reply.Csv (csv_fault.Convert (convert_fault.BadRecord n))
convert_reply (convert_fault.NoDate n) = reply.Csv (csv_fault.Convert (convert_fault.NoDate n))
convert_reply (convert_fault.NoAmount n) = reply.Csv (csv_fault.Convert (convert_fault.NoAmount n))
convert_reply (convert_fault.TwoAmounts n) = reply.Csv (csv_fault.Convert (convert_fault.TwoAmounts n))
convert_reply (convert_fault.CsvRefused n) = reply.Csv (csv_fault.Convert (convert_fault.CsvRefused n))

-- what is replied to a file that becomes no entries: memory ran out; or why it becomes none; or a pattern of its rules was
-- refused
abbrev pub Unmade : List ℕ → List ℕ → Reply → Type 0
Unmade rules csv r =
    (r ≡ reply.Memory)
    ⊎ (((fault : CsvFault) × (entries_of rules csv ≡ Err fault) × (r ≡ reply.Csv fault)) ⊎ IsOneOf r (map refused_line (pattern_lines rules)))

-- the maker tells what the reply says
abbrev pub TellsUnmade : List ℕ → ℕ → ℕ → Option (List ℕ) → Option (List ℕ) → Reply → Type 0
TellsUnmade rules before now last_before last_now (reply.Csv fault) = TellsFile rules before now last_before last_now fault
TellsUnmade rules before now last_before last_now other = Stays before now last_before last_now

-- A file became these entries; or so it is replied that it became none.
abbrev pub FileSo : List ℕ → List ℕ → ℕ → ℕ → Option (List ℕ) → Option (List ℕ) → Result (List Txn) Reply → Type 0
FileSo rules csv before now last_before last_now (Ok txns) = (entries_of rules csv ≡ Ok txns) × Stays before now last_before last_now
FileSo rules csv before now last_before last_now (Err r) = Unmade rules csv r × TellsUnmade rules before now last_before last_now r

-- the edit of an import that is allowed, whose file becomes entries
pub record IsDeedOf (s : State) (name : List ℕ) (entries : Result (List Txn) CsvFault) (deed : Option Deed) : Type 0 where
  pub allowed : forbidden s.allowed allow.Add ≡ None
  pub txns : List Txn
  pub made : entries ≡ Ok txns
  pub is : deed ≡ new_deed s.text s.latest name txns

-- the maker tells what the refusal of an import says, and nothing new where there is none
abbrev pub TellsDeed : Request → ℕ → ℕ → ℕ → Option (List ℕ) → Option (List ℕ) → Result (Option Deed) Reply → Type 0
TellsDeed q day before now last_before last_now (Ok deed) = Stays before now last_before last_now
TellsDeed q day before now last_before last_now (Err r) = TellsReply q day before now last_before last_now r
