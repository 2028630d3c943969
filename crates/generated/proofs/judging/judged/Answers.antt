use Rattle.std.proofs.Common.{◌≡◌, List, Result, Err, IfSome, sym, ap, ◌∙◌, subst}
use Rattle.book.specs.Postings.{txns_of}
use Rattle.book.specs.declared.fault.Fault.{Fault}
use Rattle.book.specs.declared.item.Book.{Book}
use Rattle.book.specs.declared.item.Placed.{Placed}
use Rattle.balancing.specs.Check.{cause_in}
use Rattle.generated.specs.Judged.{judged, told_book}
use Rattle.generated.proofs.Ending.{found_told}
use Rattle.generated.proofs.judging.judged.Goals as goal

pub returns-in-Ok : goal.returns-in-Ok
returns-in-Ok c = ap told_book (ap (λ (ps : List Placed). judged (txns_of ps)) (sym c.from_vec.ensures) ∙ c.in-Ok.ensures.answer)

pub returns-in-Err : goal.returns-in-Err
returns-in-Err c =
    found_told c.in-Err.fault c.fault_told.result (judged (txns_of c.args.items.items)) c.fault_told.ensures
    (subst (λ (r : Result Book Fault). IfSome (cause_in c.in-Err.fault) (λ f. r ≡ Err f))
    (ap (λ (ps : List Placed). judged (txns_of ps)) c.from_vec.ensures) c.in-Err.ensures.answer)
