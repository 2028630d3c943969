-- The line of a reply to an edit.
use Rattle.std.specs.Prelude.{ℕ, List, ◌++◌, codes}
use Rattle.std.specs.Fmt.{decimal}
use Rattle.book.specs.FaultLine.{fault_line}
use Rattle.csv_entries.specs.FaultLine.{convert_line}
use Rattle.csv_rules.specs.FaultLine.{rules_line}
use Rattle.error_lines.specs.Lines as lines
use Rattle.desk.specs.Permissions.{allow_word}
use Rattle.desk.specs.declared.csv_fault.CsvFault.{CsvFault}
use Rattle.desk.specs.declared.csv_fault.CsvFault.TheVariants as csv_fault
use Rattle.desk.specs.declared.reply.Reply.{Reply}
use Rattle.desk.specs.declared.reply.Reply.TheVariants as reply

-- the reply is one to an edit
abbrev pub IsEditReply : Reply → Type 0
IsEditReply (reply.Text revision bytes) = ⊥
IsEditReply (reply.Words fault) = ⊥
IsEditReply _ = Unit {0}

-- why a file becomes no entries
abbrev pub csv_line : CsvFault → List ℕ
csv_line (csv_fault.Rules fault) = rules_line fault
csv_line (csv_fault.Convert fault) = convert_line fault

-- what came of the edit, or why it was refused
abbrev pub line_of : Reply → List ℕ
line_of (reply.Done revision) = lines.ended (codes "revision " ++ decimal revision)
line_of (reply.Same revision) = lines.ended (codes "unchanged, revision " ++ decimal revision)
line_of (reply.Forbidden need have) = lines.forbidden (allow_word need) (allow_word have)
line_of (reply.Stale base current) = lines.stale base current
line_of (reply.BadBase base current) = lines.bad_base base current
line_of (reply.NoSuchItem n count) = lines.no_item n count
line_of (reply.NotTransactions line) = lines.not_transactions line
line_of (reply.Load fault) = fault_line fault
line_of (reply.TooLarge limit size) = lines.past_limit size limit
line_of (reply.DiskFault before after) = lines.disk_fault
line_of (reply.Csv fault) = csv_line fault
line_of (reply.Full size limit) = lines.full size limit
line_of _ = lines.memory
