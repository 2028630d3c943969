-- What the walk over the groups of a text tells of its items.
use Rattle.std.proofs.Common.{◌≡◌, List, [], Option, Some, None, Result, Ok, Err, sym, ap, ◌∙◌, subst}
use Rattle.hl_num.specs.Decimal.{Decimal}
use Rattle.book.specs.declared.fault.Cause.{Cause}
use Rattle.book.specs.declared.fault.Fault.{Fault}
use Rattle.book.specs.declared.transaction.Txn.{Txn}
use Rattle.book.specs.declared.item.Book.{Book}
use Rattle.book.specs.Bounds.{TurnoverFits}
use Rattle.book.specs.Postings.{postings_of}
use Rattle.entry_balance.specs.Settled.{AreSettled}
use Rattle.balancing.specs.Assigned.{assigned_by, given_from_by}
use Rattle.balancing.specs.Groups.{Group, groups_of}
use Rattle.balancing.specs.Load.{book_of}
use Rattle.balancing.specs.Walk.{AreOwn, IsTold}
use Rattle.balancing.proofs.Given.{assigned-ready, groups-assigned, groups-own}
use Rattle.balancing.specs.Solves.{HaveFew}
use Rattle.balancing.proofs.Few.{book-few}
use Rattle.balancing.proofs.Turned.{book-fits}
use Rattle.balancing.proofs.Whole.{book_ok, book_fault, whole_book}

module _ (enter : Decimal → Decimal) (written ts : List Txn) (cs : List (Option Cause)) (ordered : List Group) (read : AreSettled written ts cs) (order : ordered ≡ groups_of written) where
  -- what the walk told, over the transactions with all their assignments
  pub told_of : (ts' : List Txn) (cs' : List (Option Cause)) (gs : List Group) (fault : Option Fault) → gs ≡ ordered
      → ((w : List Txn) → AreSettled w ts cs → AreOwn w gs → IsTold (given_from_by enter w [] gs) ts' cs' gs fault) → IsTold (assigned_by enter written) ts' cs' (groups_of (assigned_by enter written)) fault
  told_of ts' cs' gs fault is told =
      let all : gs ≡ groups_of written = is ∙ order in
      subst (λ (x : List Group). IsTold (assigned_by enter written) ts' cs' x fault) (sym (groups-assigned enter written))
      (subst (λ (x : List Group). IsTold (given_from_by enter written [] x) ts' cs' x fault) all
      (told written read (subst (AreOwn written) (sym all) (groups-own written))))

module _ (enter : Decimal → Decimal) where
  pub told_ok : (written ts : List Txn) (cs : List (Option Cause)) (fault : Option Fault) → fault ≡ None → IsTold (assigned_by enter written) ts cs (groups_of (assigned_by enter written)) fault → book_of (assigned_by enter written) ≡ Ok (record { txns = ts })
  told_ok written ts cs fault none told = book_ok (assigned_by enter written) ts cs (assigned-ready enter written) (told.settled none) (sym none ∙ told.is)

  pub told_fits : (written ts : List Txn) (cs : List (Option Cause)) (fault : Option Fault) → fault ≡ None → IsTold (assigned_by enter written) ts cs (groups_of (assigned_by enter written)) fault → TurnoverFits (postings_of ts)
  told_fits written ts cs fault none told =
      let all = assigned_by enter written in
      subst (λ (xs : List Txn). TurnoverFits (postings_of xs)) (sym (whole_book all ts cs (assigned-ready enter written) (told.settled none) (sym none ∙ told.is)))
      (book-fits all (told.within none) (told.few none))

  pub told_few : (written ts : List Txn) (cs : List (Option Cause)) (fault : Option Fault) → fault ≡ None → IsTold (assigned_by enter written) ts cs (groups_of (assigned_by enter written)) fault → HaveFew ts
  told_few written ts cs fault none told =
      let all = assigned_by enter written in
      subst HaveFew (sym (whole_book all ts cs (assigned-ready enter written) (told.settled none) (sym none ∙ told.is))) (book-few all (told.few none))

  pub told_fault : (written ts : List Txn) (cs : List (Option Cause)) (fault : Fault) (told : Option Fault) → told ≡ Some fault → IsTold (assigned_by enter written) ts cs (groups_of (assigned_by enter written)) told → book_of (assigned_by enter written) ≡ Err fault
  told_fault written ts cs fault told some h = book_fault (assigned_by enter written) fault (sym some ∙ h.is)

abbrev txns_in : Result Book Fault → List Txn
txns_in (Ok book) = book.txns
txns_in (Err fault) = []

-- a result is of one book
pub one_book : (loaded : Result Book Fault) (xs ys : List Txn) → loaded ≡ Ok (record { txns = xs }) → loaded ≡ Ok (record { txns = ys }) → xs ≡ ys
one_book loaded xs ys h k = ap txns_in (sym h ∙ k)
