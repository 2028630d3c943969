-- Postings without their lines, and transactions under numbers with other lines.
use Rattle.std.specs.Prelude.{ℕ, map}
use Rattle.book.specs.Standing.{Numbered}
use Rattle.book.specs.declared.transaction.Posting.{Posting}
use Rattle.book.specs.declared.transaction.Txn.{Txn}
use Rattle.moved_lines.specs.Relined.{relined_posting, relined_txn}

-- a posting but for its line
abbrev pub unlined : Posting → Posting
unlined p = relined_posting (λ _. 0) p

-- transactions that stand under numbers, with the lines that a function tells for each number and line
abbrev pub relined_under : (ℕ → ℕ → ℕ) → Numbered Txn → Numbered Txn
relined_under line standing = map (λ e. (e.0, relined_txn (line e.0) e.1)) standing
