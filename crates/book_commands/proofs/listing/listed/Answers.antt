use Rattle.std.proofs.Common.{ap, ◌∙◌}
use Rattle.book_commands.specs.Listed.{lines_from}
use Rattle.book_commands.proofs.ItemLines.{items_told}
use Rattle.book_commands.proofs.listing.listed.Goals as goal

pub returns-clause-found : goal.returns-clause-found
returns-clause-found c =
    items_told c.in_ok-lines.lines c.args.text.now c.args.kept.now.items c.args.kept.now.book
    (c.in_ok-lines.ensures ∙ ap (lines_from c.args.text.now 1) c.as_slice.ensures)
