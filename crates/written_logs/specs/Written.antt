-- Transactions as a journal's text, and as they are read from it.
use Rattle.std.specs.Prelude.{◌≡◌, ◌≤◌, ℕ, ◌+◌, List, [], ◌∷◌, ◌++◌, length, Option, Ok}
use Rattle.std.specs.List.{flat_map, AllByRecursion}
use Rattle.hl_base.specs.Ascii.{line_feed}
use Rattle.hl_base.specs.Limits.{entry_limit}
use Rattle.hl_num.specs.Decimal.{Decimal}
use Rattle.book.specs.declared.item.Placed.{Placed}
use Rattle.book.specs.declared.transaction.Posting.{Posting}
use Rattle.book.specs.declared.transaction.Txn.{Txn}
use Rattle.book.specs.Postings.{txns_of}
use Rattle.entry_reader.specs.Causes.{◌>>=◌}
use Rattle.balancing.specs.Load.{load}
use Rattle.journal_printer.specs.declared.detail.Detail.{Detail}
use Rattle.journal_printer.specs.Layout.{txn_text}
use Rattle.journal_printer.specs.Texts.{Shaping}
use Rattle.journal_reader.specs.Items.{items_in}
use Rattle.time_logs.specs.Days.{hours}

-- hours are shown as they are written
abbrev pub IsOwn : Shaping → Type 0
IsOwn shape = (value : Decimal) → shape (hours value) ≡ (hours value).shape

-- the lines of each transaction, with an empty line after them
abbrev pub journal_of : Shaping → Detail → List Txn → List ℕ
journal_of shape detail txns = flat_map (λ t. txn_text shape detail t ++ (line_feed ∷ [])) txns

-- the same posting in another line
abbrev pub numbered_posting : ℕ → Posting → Posting
numbered_posting line p = record p { line = line }

-- the same postings, each in the line after that of the one before it
abbrev pub postings_from : ℕ → List Posting → List Posting
postings_from line [] = []
postings_from line (p ∷ ps) = numbered_posting line p ∷ postings_from (line + 1) ps

-- the same transaction with its head in another line, and its postings in the lines after that
abbrev pub numbered_txn : ℕ → Txn → Txn
numbered_txn line t = record t { line = line; postings = postings_from (line + 1) t.postings }

-- the same transactions from a line on, with an empty line after each
abbrev pub numbered : ℕ → List Txn → List Txn
numbered line [] = []
numbered line (t ∷ ts) = numbered_txn line t ∷ numbered (line + 1 + length t.postings + 1) ts

-- no entry is over 65,536 bytes
abbrev pub AreShort : Shaping → Detail → List Txn → Type 0
AreShort shape detail txns = AllByRecursion (λ t. length (txn_text shape detail t) ≤ entry_limit) txns

-- A text reads, and its transactions are these.
pub record Reads (year : Option ℕ) (text : List ℕ) (txns : List Txn) : Type 0 where
  pub items : List Placed
  pub read : items_in year text ≡ Ok items
  pub are : txns_of items ≡ txns

-- A text loads to the book of these transactions.
abbrev pub Loads : Option ℕ → List ℕ → List Txn → Type 0
Loads year text txns = (items_in year text >>= load) ≡ Ok (record { txns = txns })
