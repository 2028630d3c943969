use Rattle.std.proofs.Common.{◌≡◌, Result, Ok, subst}
use Rattle.std.specs.Prelude.{IfErr, IfOk}
use Rattle.book.specs.declared.fault.Fault.{Fault}
use Rattle.book.specs.declared.item.Book.{Book}
use Rattle.live_journal.specs.Loading.{Tells, text_fault}
use Rattle.live_journal.proofs.Copying.{same_load}
use Rattle.live_journal.proofs.loading.book_of_items.Goals as goal

pub returns-clause-book : goal.returns-clause-book
returns-clause-book c =
    subst (λ (l : Result Book Fault). IfOk c.checked.result (λ book. l ≡ Ok book)) (same_load c.in_ok-entries.entries c.args.items.now c.in_ok-entries.ensures) c.checked.ensures.book

pub returns-clause-fault : goal.returns-clause-fault
returns-clause-fault c =
    subst (λ (l : Result Book Fault). IfErr c.checked.result (λ e. Tells e (text_fault l))) (same_load c.in_ok-entries.entries c.args.items.now c.in_ok-entries.ensures) c.checked.ensures.fault
