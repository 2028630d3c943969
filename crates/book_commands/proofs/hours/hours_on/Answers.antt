use Rattle.entry_reader.specs.Lines.{contents_of}
use Rattle.book_commands.specs.FaultLines.{log_line, log_status}
use Rattle.book_commands.specs.Works.{hours_made, log_txns}
use Rattle.book_commands.proofs.Answering.{hours_is, hours_refused, hours_told, told_kind, told_quiet}
use Rattle.book_commands.proofs.hours.hours_on.Goals as goal

pub returns-in_ok-hours_text-in-Ok-clause-found : goal.returns-in_ok-hours_text-in-Ok-clause-found
returns-in_ok-hours_text-in-Ok-clause-found c =
    let form = c.args.form in
    let text = c.args.text.now in
    hours_told form text (log_txns form (contents_of text)) c.in-Ok.txns c.in_ok-hours_text-in-Ok.field-0 (hours_is form text) c.in-Ok.ensures (rw c.as_slice.ensures at c.in_ok-hours_text-in-Ok.ensures)

pub returns-in-Err-clause-found : goal.returns-in-Err-clause-found
returns-in-Err-clause-found c =
    let form = c.args.form in
    let text = c.args.text.now in
    hours_refused (log_txns form (contents_of text)) c.refuse_log.result (hours_made form text) (hours_is form text)
    c.in-Err.fault c.in-Err.ensures c.refuse_log.ensures.line c.refuse_log.ensures.memory

pub returns-in-Err-clause-kind : goal.returns-in-Err-clause-kind
returns-in-Err-clause-kind c = told_kind c.refuse_log.result c.refuse_log.ensures.kind

pub returns-in-Err-clause-quiet : goal.returns-in-Err-clause-quiet
returns-in-Err-clause-quiet c = told_quiet c.refuse_log.result (log_status c.in-Err.fault) (log_line c.in-Err.fault) c.refuse_log.ensures.line
