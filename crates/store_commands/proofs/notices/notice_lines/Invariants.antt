use Rattle.std.proofs.Common.{◌≡◌, take}
use Rattle.std.specs.List.{flat_map}
use Rattle.std.specs.String.{string_bytes}
use Rattle.store_commands.specs.Notices.{notice_line}
use Rattle.store_commands.proofs.notices.notice_lines.Given as goal

abbrev pub invariant-loop-reference : goal.invariant-loop-reference
invariant-loop-reference l = string_bytes l.text ≡ flat_map notice_line (take l.reference-index l.references)
