use Rattle.std.proofs.Common.{◌-◌, length, arith, length-append}
use Rattle.walked_texts.proofs.Exchanged.{back_found, front_found}
use Rattle.walked_texts.proofs.exchanging.txn_at.Goals as goal

pub stood_at-requires-else-inside : goal.stood_at-requires-else-inside
stood_at-requires-else-inside c = let all = length-append c.args.book.now c.args.behind.now in let inside = c.requires in omega arith

pub returns-then-inside : goal.returns-then-inside
returns-then-inside c = front_found c.args.book.now c.args.behind.now c.args.number c.stood_at.result.now (omega arith) c.stood_at.ensures

pub returns-else-inside : goal.returns-else-inside
returns-else-inside c = back_found c.args.book.now c.args.behind.now c.args.number (c.args.number - length c.args.book.now) c.stood_at-else-inside.result.now (omega arith) c.stood_at-else-inside.ensures
