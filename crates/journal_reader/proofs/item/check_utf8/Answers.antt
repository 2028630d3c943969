use Rattle.std.proofs.Common.{◌≤◌, length, arith}
use Rattle.std.proofs.lemmas.Str.{is_utf8-from_IsUtf8}
use Rattle.entry_reader.specs.Lines.{contents_of}
use Rattle.entry_reader.proofs.Texts.{not_utf8}
use Rattle.journal_reader.proofs.LineEnds.{few_ends}
use Rattle.journal_reader.proofs.item.check_utf8.Goals as goal

pub overflow_add-line : goal.overflow_add-line
overflow_add-line c =
    let few : c.line_ends.result ≤ length (contents_of c.args.bytes.now) =
    rw c.line_ends.ensures (few_ends c.split_at.result.0.now c.args.bytes.now c.valid_up_to.result c.split_at.ensures.front) in
    omega (arith, few, c.requires)

pub returns-in-Ok-clause-ok : goal.returns-in-Ok-clause-ok
returns-in-Ok-clause-ok c = is_utf8-from_IsUtf8 c.args.bytes.now c.in-Ok.ensures.cases.1

pub returns-in-Err-clause-none : goal.returns-in-Err-clause-none
returns-in-Err-clause-none c = not_utf8 c.args.bytes.now c.in-Err.ensures.cases.0
