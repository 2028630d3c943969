use Rattle.std.proofs.Common.{◌≡◌, ◌++◌, take}
use Rattle.std.specs.List.{flat_map, slice_get}
use Rattle.journal_printer.specs.Journal.{spaced_text}
use Rattle.journal_printer.proofs.print.push_named.Given as goal

abbrev pub invariant-loop-name : goal.invariant-loop-name
invariant-loop-name g l =
    l.out.items ≡ l.initial.out.items ++ flat_map (λ name. spaced_text (g.S.Shapes.shape_of l.shapes) l.detail (slice_get l.txns name.1)) (take l.name-index l.names)
