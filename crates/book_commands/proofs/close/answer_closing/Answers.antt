use Rattle.std.proofs.Common.{Err, Ok}
use Rattle.book_care.specs.Asked.{asked_of}
use Rattle.book_commands.specs.FaultLines.{close_line}
use Rattle.book_commands.proofs.Answering.{told_kind, told_quiet}
use Rattle.book_commands.proofs.Closings.{closing_found, closing_refused, closing_told}
use Rattle.book_commands.proofs.close.answer_closing.Goals as goal

pub returns-in_ok-closing_text-in-Ok-clause-found : goal.returns-in_ok-closing_text-in-Ok-clause-found
returns-in_ok-closing_text-in-Ok-clause-found c = λ asked day items book same is.
    closing_found asked day items book c.args.closing.now c.args.chosen (Ok c.in_ok-closing_text-in-Ok.field-0) same is
    (closing_told c.args.chosen (asked_of c.args.closing.now) c.in_ok-closing_text-in-Ok.field-0 c.in-Ok.entries c.in-Ok.ensures.entries c.in-Ok.ensures.passes c.in_ok-closing_text-in-Ok.ensures)

pub returns-in-Err-clause-found : goal.returns-in-Err-clause-found
returns-in-Err-clause-found c = λ asked day items book same is.
    closing_found asked day items book c.args.closing.now c.args.chosen (Err c.refuse_close.result) same is
    (closing_refused c.args.chosen (asked_of c.args.closing.now) c.in-Err.fault c.refuse_close.result c.in-Err.ensures.fault c.refuse_close.ensures.line c.refuse_close.ensures.memory)

pub returns-in-Err-clause-kind : goal.returns-in-Err-clause-kind
returns-in-Err-clause-kind c = told_kind c.refuse_close.result c.refuse_close.ensures.kind

pub returns-in-Err-clause-quiet : goal.returns-in-Err-clause-quiet
returns-in-Err-clause-quiet c = told_quiet c.refuse_close.result 1 (close_line c.in-Err.fault) c.refuse_close.ensures.line
