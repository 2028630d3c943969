use Rattle.book_commands.proofs.Answering.{told_kind, told_quiet}
use Rattle.book_commands.proofs.Checking.{checked_refused, checked_told}
use Rattle.book_commands.specs.FaultLines.{strict_line}
use Rattle.book_commands.proofs.strict_checks.strict_checked.Goals as goal

pub returns-in-Ok-clause-found : goal.returns-in-Ok-clause-found
returns-in-Ok-clause-found c = λ items is.
    let checked = c.args.checked.now in
    checked_told c.args.checks.now items checked.declarations checked.book is.declared c.new.result c.in-Ok.ensures.holds c.new.ensures

pub returns-in-Err-clause-found : goal.returns-in-Err-clause-found
returns-in-Err-clause-found c = λ items is.
    let checked = c.args.checked.now in
    checked_refused c.args.checks.now items checked.declarations checked.book is.declared c.in-Err.fault c.refuse_strict.result
    c.in-Err.ensures.fault c.refuse_strict.ensures.line c.refuse_strict.ensures.memory

pub returns-in-Err-clause-kind : goal.returns-in-Err-clause-kind
returns-in-Err-clause-kind c = told_kind c.refuse_strict.result c.refuse_strict.ensures.kind

pub returns-in-Err-clause-quiet : goal.returns-in-Err-clause-quiet
returns-in-Err-clause-quiet c = told_quiet c.refuse_strict.result 1 (strict_line c.in-Err.fault) c.refuse_strict.ensures.line
