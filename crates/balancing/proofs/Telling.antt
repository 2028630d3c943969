-- The fault that a check tells.
use Rattle.std.proofs.Common.{◌≡◌, true, List, Option, Some, None, Result, Err, IfSome, sym, ap, ◌∙◌}
use Rattle.book.specs.declared.fault.Cause.{Cause}
use Rattle.book.specs.declared.fault.Fault.{Fault}
use Rattle.book.specs.declared.item.Book.{Book}
use Rattle.book.specs.declared.item.Placed.{Placed}
use Rattle.book.specs.declared.transaction.Txn.{Txn}
use Rattle.book.specs.Postings.{txns_of}
use Rattle.entry_balance.specs.Settled.{AreSettled}
use Rattle.balancing.specs.declared.written.Written.{Written}
use Rattle.balancing.specs.Assigned.{shortened, whole, assigned_by}
use Rattle.balancing.specs.Back.{txns_back, causes_back}
use Rattle.balancing.specs.Faults.{IsFaultIf}
use Rattle.balancing.specs.Groups.{Group, groups_of}
use Rattle.balancing.specs.Load.{book_of, told_by, or_told, load}
use Rattle.balancing.specs.Solves.{are_unmarked}
use Rattle.balancing.proofs.Faulting.{load_faults}

-- the fault is told in place of another one, whatever was written
abbrev pub AnyWritten : List Txn → List (Option Cause) → List Written → List Group → Fault → Fault → Type 0
AnyWritten ts cs kept groups own told =
    (written : List Txn) → AreSettled written (txns_back kept ts) (causes_back kept cs) → groups ≡ groups_of written → told ≡ told_by own (book_of (assigned_by whole written))

module _ (items : List Placed) (own : Fault) (is : book_of (assigned_by shortened (txns_of items)) ≡ Err own) where
  abbrev other : Result Book Fault
  other = book_of (assigned_by whole (txns_of items))

  told_loads : (told : Fault) → told ≡ told_by own other → load items ≡ Err told
  told_loads told same = ap (λ (r : Result Book Fault). or_told r other) is ∙ ap (λ (f : Fault). let r : Result Book Fault = Err f in r) (sym same)

  pub told_answer : (o : Option Fault) (P : Fault → Type 0) → ((f : Fault) → P f → f ≡ told_by own other) → IfSome o P → IfSome o (λ f. load items ≡ Err f)
  told_answer None P f h = tt
  told_answer (Some told) P f h = told_loads told (f told h)

  pub told_if : are_unmarked (txns_of items) ≡ true → (o : Option Fault) (P : Fault → Type 0) → ((f : Fault) → P f → f ≡ told_by own other) → IfSome o P → IsFaultIf (txns_of items) o
  told_if unmarked None P f h = tt
  told_if unmarked (Some told) P f h = load_faults items told unmarked (told_loads told (f told h))
