use Rattle.std.proofs.Common.{arith}
use Rattle.text_ends.proofs.Reaching.{bytes_none, bytes_some, lacked_within, lines_none, lines_some}
use Rattle.text_ends.proofs.taking.taken.Goals as goal

pub taken_from-requires : goal.taken_from-requires
taken_from-requires c = omega (arith, c.lacked.ensures, lacked_within c.args.end.now c.args.bytes.now c.in-Some.piece c.in-Some.is c.requires)

pub returns-in-Some-clause-bytes : goal.returns-in-Some-clause-bytes
returns-in-Some-clause-bytes c = bytes_some c.args.end.now c.args.bytes.now c.in-Some.piece c.lacked.result c.taken_from.result c.in-Some.is c.lacked.ensures c.taken_from.ensures.value

pub returns-in-Some-clause-lines : goal.returns-in-Some-clause-lines
returns-in-Some-clause-lines c = lines_some c.args.end.now c.args.bytes.now c.in-Some.piece c.lacked.result c.taken_from.result c.in-Some.is c.lacked.ensures c.taken_from.ensures.value

pub returns-in-None-clause-bytes : goal.returns-in-None-clause-bytes
returns-in-None-clause-bytes c = bytes_none c.args.end.now c.args.bytes.now c.in-None.is

pub returns-in-None-clause-lines : goal.returns-in-None-clause-lines
returns-in-None-clause-lines c = lines_none c.args.end.now c.args.bytes.now c.in-None.is
