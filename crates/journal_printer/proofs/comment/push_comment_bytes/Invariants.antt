use Rattle.std.proofs.Common.{◌≡◌, ◌++◌, take}
use Rattle.std.specs.List.{flat_map}
use Rattle.journal_printer.specs.Texts.{comment_byte}
use Rattle.journal_printer.proofs.comment.push_comment_bytes.Given as goal

abbrev pub invariant-loop-byte : goal.invariant-loop-byte
invariant-loop-byte l = l.out.items ≡ l.initial.out.items ++ flat_map comment_byte (take l.byte-index l.comment)
