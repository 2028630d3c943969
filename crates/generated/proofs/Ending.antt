-- What is told of a count of postings, and of letters.
use Rattle.std.proofs.Common.{◌≡◌, ℕ, List, Option, Some, None, Result, Err, IfSome, sym, ap, ◌∙◌, subst}
use Rattle.hl_base.specs.Gives.{Gives}
use Rattle.book.specs.declared.fault.Fault.{Fault}
use Rattle.book.specs.declared.item.Book.{Book}
use Rattle.book.specs.declared.transaction.Txn.{Txn}
use Rattle.query.specs.Matching.{Own}
use Rattle.rule_entries.specs.declared.counting.Excess.{Excess}
use Rattle.generated.specs.Auto.{book_with}
use Rattle.balancing.specs.Check.{cause_in}
use Rattle.balancing.specs.declared.fault.CheckFault.{CheckFault}
use Rattle.balancing.specs.declared.fault.CheckFault.TheVariants as check_fault
use Rattle.generated.specs.Judged.{fault_told, judged, told_book, unless_too_many}
use Rattle.generated.specs.Refusals.{cause_of, too_many}
use Rattle.generated.specs.Rules.{Asked}
use Rattle.generated.specs.declared.fault.GenFault.{GenFault}

-- there is too much
pub refused_by : (excess : Option Excess) (e : Excess) (told : Result Book Fault) → excess ≡ Some e
    → unless_too_many excess told ≡ Err (too_many e)
refused_by excess e told is = ap (λ (o : Option Excess). unless_too_many o told) is

-- there isn't, and all is judged
pub judged_by : (result : Result Book GenFault) (excess : Option Excess) (txns all : List Txn) → excess ≡ None → txns ≡ all
    → Gives (λ (book : Book). book) cause_of result (told_book (judged txns))
    → Gives (λ (book : Book). book) cause_of result (unless_too_many excess (judged all))
judged_by result excess txns all none same told =
    subst (λ (o : Option Excess). Gives (λ (book : Book). book) cause_of result (unless_too_many o (judged all))) (sym none)
    (subst (λ (ts : List Txn). Gives (λ (book : Book). book) cause_of result (told_book (judged ts))) same told)

-- letters that are the same of each account make the same book
pub same_letters : (one other : Own) (rules : List Asked) (txns : List Txn) → ((name : List ℕ) → one name ≡ other name)
    → book_with one rules txns ≡ book_with other rules txns
same_letters one other rules txns h = λ i. book_with (λ name. (h name) i) rules txns

-- too much is told
pub refused_gives : (e : Excess) (fault : GenFault) (told : Result Book GenFault) → fault ≡ too_many e → told ≡ Err (too_many e)
    → Gives (λ (book : Book). book) cause_of (Err fault) told
refused_gives e fault told is same =
    subst (λ (f : GenFault). Gives (λ (book : Book). book) cause_of (Err f) told) (sym is) same

-- the same rules and letters tell the same
pub letters_told : (result : Result Book GenFault) (one other : Own) (rules same : List Asked) (txns : List Txn) → ((name : List ℕ) → one name ≡ other name)
    → rules ≡ same → Gives (λ (book : Book). book) cause_of result (book_with one rules txns)
    → Gives (λ (book : Book). book) cause_of result (book_with other same txns)
letters_told result one other rules same txns h is told =
    subst (λ (r : Result Book GenFault). Gives (λ (book : Book). book) cause_of result r)
    (ap (λ (rs : List Asked). book_with one rs txns) is ∙ same_letters one other same txns h) told

-- the same transactions are judged alike
pub judged_same : (result : Result Book GenFault) (txns all : List Txn) → txns ≡ all
    → Gives (λ (book : Book). book) cause_of result (told_book (judged txns))
    → Gives (λ (book : Book). book) cause_of result (told_book (judged all))
judged_same result txns all same told =
    subst (λ (ts : List Txn). Gives (λ (book : Book). book) cause_of result (told_book (judged ts))) same told

found_by : (fault : CheckFault) (answer : Result Book Fault) → IfSome (cause_in fault) (λ f. answer ≡ Err f)
    → IfSome (cause_of (fault_told fault)) (λ f. told_book answer ≡ Err f)
found_by (check_fault.Journal fault) answer h = ap told_book h
found_by check_fault.Memory answer h = tt

-- a fault that was found is told
pub found_told : (fault : CheckFault) (told : GenFault) (answer : Result Book Fault) → told ≡ fault_told fault
    → IfSome (cause_in fault) (λ f. answer ≡ Err f) → IfSome (cause_of told) (λ f. told_book answer ≡ Err f)
found_told fault told answer same h =
    subst (λ (g : GenFault). IfSome (cause_of g) (λ f. told_book answer ≡ Err f)) (sym same) (found_by fault answer h)
