-- An entry: a head line and the lines after it.
use Rattle.std.specs.Prelude.{ℕ, ◌+◌, List, [], ◌∷◌, Result, Ok, Err}
use Rattle.hl_time.specs.Calendar.{year_of}
use Rattle.book.specs.declared.transaction.Posting.{Posting}
use Rattle.book.specs.declared.transaction.Txn.{Txn}
use Rattle.book.specs.declared.item.Item.{Item}
use Rattle.book.specs.declared.item.Item.TheVariants as item
use Rattle.book.specs.declared.fault.Fault.{Fault}
use Rattle.book.specs.declared.fault.Cause.TheVariants as cause
use Rattle.entry_reader.specs.Causes.{fault_at, ◌>>=◌}
use Rattle.entry_reader.specs.Contexts.{Context}
use Rattle.entry_reader.specs.Comments.{comments_in, comment_of, tags_in}
use Rattle.entry_reader.specs.Heads.{Head, head_of}
use Rattle.entry_reader.specs.Postings.{postings_of}

-- a transaction of its head, the comment lines after that, and its postings
abbrev pub txn_from : ℕ → Head → List (List ℕ) → List Posting → Txn
txn_from line head more postings = record {
  line = line;
  day = record { 0 = head.day };
  mark = head.mark;
  code = head.code;
  description = head.description;
  comment = comment_of head.comment more;
  tags = tags_in (head.comment ∷ more);
  postings = postings;
}

-- the entry of a head line and the lines after it
unfoldable pub entry_with : Context → ℕ → List ℕ → List (List ℕ) → Result Item Fault
entry_with context line content after = do
  head ← head_of context line content
  postings ← postings_of context (year_of head.day) (line + 1) after
  Ok (item.Txn (txn_from line head (comments_in after) postings))

-- the entry that some lines say
abbrev pub entry_of : Context → ℕ → List (List ℕ) → Result Item Fault
entry_of context line [] = Err (fault_at line cause.Form)
entry_of context line (c ∷ cs) = entry_with context line c cs
