-- How many decimals transactions write.
use Rattle.std.specs.Prelude.{◌≤◌, List}
use Rattle.std.specs.List.{AllByRecursion}
use Rattle.book.specs.Postings.{postings_of}
use Rattle.book.specs.declared.amount.Amount.{Amount}
use Rattle.book.specs.declared.transaction.Txn.{Txn}
use Rattle.book_laws.specs.Writing.{amounts_in}

abbrev pub IsShort : Amount → Type 0
IsShort a = a.value.places ≤ 36

-- no amount that some transactions write has more than 36 decimals, be it that of a posting, of a cost, or a wanted balance
abbrev pub WriteFew : List Txn → Type 0
WriteFew txns = AllByRecursion (λ p. AllByRecursion IsShort (amounts_in p)) (postings_of txns)
