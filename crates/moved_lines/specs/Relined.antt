-- Transactions with other lines.
use Rattle.std.specs.Prelude.{ℕ, suc, List, [], ◌∷◌, map}
use Rattle.book.specs.declared.transaction.Posting.{Posting}
use Rattle.book.specs.declared.transaction.Txn.{Txn}
use Rattle.book.specs.SumsBefore.{Place}

-- a posting with the line that a function tells for its own
abbrev pub relined_posting : (ℕ → ℕ) → Posting → Posting
relined_posting line p = record p { line = line p.line }

-- a transaction with the lines that a function tells for its own and for those of its postings
abbrev pub relined_txn : (ℕ → ℕ) → Txn → Txn
relined_txn line t = record t { line = line t.line; postings = map (relined_posting line) t.postings }

-- transactions that are counted from a number, with the lines that a function tells for each number and line
abbrev pub relined_from : (ℕ → ℕ → ℕ) → ℕ → List Txn → List Txn
relined_from line n [] = []
relined_from line n (t ∷ ts) = relined_txn (line n) t ∷ relined_from line (suc n) ts

abbrev pub relined : (ℕ → ℕ → ℕ) → List Txn → List Txn
relined line txns = relined_from line 0 txns

-- the same of a posting at its place
abbrev pub relined_at : (ℕ → ℕ → ℕ) → Place × Posting → Place × Posting
relined_at line e = (e.0, relined_posting (line e.0.txn) e.1)
