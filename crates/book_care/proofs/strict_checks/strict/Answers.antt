use Rattle.std.proofs.Common.{◌≡◌, Option, None, OnOk, IfErr, subst}
use Rattle.book_care.specs.Breaks.{IsFault}
use Rattle.book_care.specs.declared.faults.StrictFault.{StrictFault}
use Rattle.book_care.proofs.Naming.{first_by_is}
use Rattle.book_care.proofs.strict_checks.strict.Goals as goal

pub returns-clause-holds : goal.returns-clause-holds
returns-clause-holds c =
    let is = first_by_is c.args.items.now c.in_ok-declarations.declarations c.args.check c.args.book.now.txns c.in_ok-declarations.ensures in
    subst (λ (o : Option StrictFault). OnOk c.strict_by.result (o ≡ None)) is c.strict_by.ensures.holds

pub returns-clause-fault : goal.returns-clause-fault
returns-clause-fault c =
    let is = first_by_is c.args.items.now c.in_ok-declarations.declarations c.args.check c.args.book.now.txns c.in_ok-declarations.ensures in
    subst (λ (o : Option StrictFault). IfErr c.strict_by.result (IsFault o)) is c.strict_by.ensures.fault
