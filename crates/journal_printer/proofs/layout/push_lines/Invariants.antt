use Rattle.std.proofs.Common.{◌≡◌, ◌++◌, take}
use Rattle.std.specs.List.{flat_map}
use Rattle.journal_printer.specs.Layout.{posting_text}
use Rattle.journal_printer.proofs.layout.push_lines.Given as goal

abbrev pub invariant-loop-posting : goal.invariant-loop-posting
invariant-loop-posting l = l.out.items ≡ l.initial.out.items ++ flat_map (posting_text l.widths) (take l.posting-index l.fields)
