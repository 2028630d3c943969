use Rattle.std.proofs.Common.{arith}
use Rattle.kept_books.proofs.Numbering.{lent_found, lent_past}
use Rattle.kept_books.proofs.written.lent_at.Goals as goal

pub returns-then-inside : goal.returns-then-inside
returns-then-inside c = lent_found c.args.txns.now c.args.number c.index-txns-number.result (omega arith) c.index-txns-number.is

pub returns-else-inside : goal.returns-else-inside
returns-else-inside c = lent_past c.args.txns.now c.args.number (omega arith)
