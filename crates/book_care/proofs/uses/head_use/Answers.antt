use Rattle.std.proofs.Common.{option_copied}
use Rattle.book_care.specs.Uses.{head_names}
use Rattle.book_care.proofs.Loops.{used_by}
use Rattle.book_care.proofs.uses.head_use.Goals as goal

pub returns : goal.returns
returns c =
    used_by c.args.declared.now c.args.txn.now.line (head_names c.args.declared.now.check c.args.txn.now) (option_copied c.head_lacking.result) c.in_line.result c.in_line.ensures c.head_lacking.ensures
