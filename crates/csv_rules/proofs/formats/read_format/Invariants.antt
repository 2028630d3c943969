use Rattle.std.proofs.Common.{◌≡◌, drop}
use Rattle.csv_rules.specs.Formats.{format_from, format_of}
use Rattle.csv_rules.proofs.FormatLaws.{behind}
use Rattle.csv_rules.proofs.formats.read_format.Given as goal

abbrev pub invariant-loop-byte : goal.invariant-loop-byte
invariant-loop-byte l = format_of l.text ≡ behind l.parts.items (format_from l.before (drop l.byte-index l.text))
