use Rattle.std.proofs.Common.{◌≡◌, map, take}
use Rattle.journal_printer.specs.declared.detail.Detail.TheVariants as detailed
use Rattle.journal_printer.specs.Layout.{fields_of}
use Rattle.journal_printer.proofs.fields.fields_of_all.Given as goal

abbrev pub invariant-loop-posting : goal.invariant-loop-posting
invariant-loop-posting g l = l.all.items ≡ map (fields_of (g.S.Shapes.shape_of l.shapes) detailed.Explicit) (take l.posting-index l.postings)
