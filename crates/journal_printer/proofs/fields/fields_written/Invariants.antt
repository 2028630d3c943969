use Rattle.std.proofs.Common.{◌≡◌, ◌++◌, map, drop}
use Rattle.journal_printer.specs.declared.detail.Detail.TheVariants as detailed
use Rattle.journal_printer.specs.Layout.{fields_of, written_after, written_postings}
use Rattle.journal_printer.proofs.fields.fields_written.Given as goal

abbrev pub invariant-loop-posting : goal.invariant-loop-posting
invariant-loop-posting g l =
    let shown = fields_of (g.S.Shapes.shape_of l.shapes) detailed.Written in
    l.all.items ++ map shown (written_after l.before (drop l.posting-index l.rest)) ≡ map shown (written_postings l.postings)
