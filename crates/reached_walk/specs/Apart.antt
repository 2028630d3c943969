-- Transactions with a posting on another day than their own.
use Rattle.std.specs.Prelude.{◌==◌, Bool, not, unwrap_or}
use Rattle.std.specs.List.{list_any}
use Rattle.book.specs.declared.transaction.Posting.{Posting}
use Rattle.book.specs.declared.transaction.Txn.{Txn}

abbrev pub is_apart : Txn → Posting → Bool
is_apart t p = not ((unwrap_or p.day t.day).0 == t.day.0)

abbrev pub is_dated : Txn → Bool
is_dated t = list_any (is_apart t) t.postings
