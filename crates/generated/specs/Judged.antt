-- The book of transactions that rules had a part in, or why there is none.
use Rattle.std.specs.Prelude.{Bool, List, Option, Some, None, is_some, Result, Ok, Err}
use Rattle.std.specs.List.{list_all}
use Rattle.book.specs.declared.fault.Fault.{Fault}
use Rattle.book.specs.declared.item.Book.{Book}
use Rattle.book.specs.declared.transaction.Txn.{Txn}
use Rattle.balancing.specs.Load.{load_txns}
use Rattle.balancing.specs.declared.fault.CheckFault.{CheckFault}
use Rattle.balancing.specs.declared.fault.CheckFault.TheVariants as check_fault
use Rattle.rule_entries.specs.declared.counting.Excess.{Excess}
use Rattle.generated.specs.Refusals.{too_many}
use Rattle.generated.specs.declared.fault.GenFault.{GenFault}
use Rattle.generated.specs.declared.fault.GenFault.TheVariants as gen_fault

-- Transactions are judged as those of a text are: each is balanced and takes its missing amounts, each assertion holds, and
-- all stays in range; else the fault of the first group that has one. An amount that was assigned before stays.
abbrev pub judged : List Txn → Result Book Fault
judged txns = load_txns txns

-- each posting of a transaction has its amount
abbrev pub has_amounts : Txn → Bool
has_amounts txn = list_all (λ p. is_some p.amount) txn.postings

abbrev pub told_book : Result Book Fault → Result Book GenFault
told_book (Ok book) = Ok book
told_book (Err fault) = Err (gen_fault.Journal fault)

-- what is told of a fault that was found
abbrev pub fault_told : CheckFault → GenFault
fault_told (check_fault.Journal fault) = gen_fault.Journal fault
fault_told check_fault.Memory = gen_fault.Memory

-- nothing is judged where there is too much
abbrev pub unless_too_many : Option Excess → Result Book Fault → Result Book GenFault
unless_too_many None told = told_book told
unless_too_many (Some excess) told = Err (too_many excess)
