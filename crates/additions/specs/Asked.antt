-- The last day on which a book asks for a balance, and whether it has assignments.
use Rattle.std.specs.Prelude.{ℕ, Bool, List, max, is_some, if◌then◌else◌}
use Rattle.std.specs.List.{fold, list_any}
use Rattle.book.specs.Postings.{postings_of}
use Rattle.book.specs.SumsBefore.{is_assigned}
use Rattle.book.specs.declared.transaction.Posting.{Posting}
use Rattle.book.specs.declared.transaction.Txn.{Txn}
use Rattle.balancing.specs.Groups.{day_of}

-- the day of a posting that asks for a balance, by an assertion or an assignment; 0 of any other one
abbrev pub asked_on : Txn → Posting → ℕ
asked_on t p = if is_some p.wanted then day_of t p else 0

-- the later of a day and the last one on which a posting of a transaction asks
abbrev pub asked_through : ℕ → Txn → ℕ
asked_through last t = fold (λ l p. max l (asked_on t p)) last t.postings

-- the last day on which a posting of a book asks
abbrev pub last_asked : List Txn → ℕ
last_asked txns = fold asked_through 0 txns

-- a posting of the book is an assignment
abbrev pub has_assigned : List Txn → Bool
has_assigned txns = list_any is_assigned (postings_of txns)
