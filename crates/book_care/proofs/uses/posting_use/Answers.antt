use Rattle.std.proofs.Common.{option_copied}
use Rattle.book_care.specs.Uses.{posting_names}
use Rattle.book_care.proofs.Loops.{used_by}
use Rattle.book_care.proofs.uses.posting_use.Goals as goal

pub returns : goal.returns
returns c =
    used_by c.args.declared.now c.args.posting.now.line (posting_names c.args.declared.now.check c.args.posting.now) (option_copied c.posting_lacking.result) c.in_line.result c.in_line.ensures c.posting_lacking.ensures
