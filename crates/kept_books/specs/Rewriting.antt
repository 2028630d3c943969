-- What an edit makes of the transactions of a text, as they are written.
use Rattle.std.specs.Prelude.{◌==◌, ◌<◌, nat_le, ℕ, Bool, List, ◌++◌, length, set}
use Rattle.book.specs.Postings.{txns_of}
use Rattle.book.specs.declared.transaction.Txn.{Txn}
use Rattle.reached_walk.specs.Closed.{Edit, edits_of}
use Rattle.kept_books.specs.declared.rewriting.Rewriting.{Rewriting}
use Rattle.kept_books.specs.declared.rewriting.Rewriting.TheVariants as kinds

-- More of them stand behind the others, or another one stands under a number, counted from 0.
pub data Rewrite : Type 0 where
  Behind : List Txn → Rewrite
  At : ℕ → Txn → Rewrite

-- what a program is handed
abbrev pub meant : Rewriting → Rewrite
meant (kinds.Behind more) = Behind (txns_of more.now)
meant (kinds.At number txn) = At number txn.now

-- the transactions of the text after it
abbrev pub rewritten : List Txn → Rewrite → List Txn
rewritten written (Behind more) = written ++ more
rewritten written (At number txn) = set written number txn

-- the numbers that it edits: all from the end of the old text on, or one
abbrev pub is_rewritten : List Txn → Rewrite → ℕ → Bool
is_rewritten written (Behind more) n = nat_le (length written) n
is_rewritten written (At number txn) n = n == number

abbrev pub edit_by : List Txn → Rewrite → Edit
edit_by written r = edits_of (is_rewritten written r) written (rewritten written r)

-- it edits one transaction at least, and what it changes is there
abbrev pub MayRewrite : List Txn → Rewrite → Type 0
MayRewrite written (Behind more) = 0 < length more
MayRewrite written (At number txn) = number < length written
