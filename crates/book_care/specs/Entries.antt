-- The entries that close and open accounts.
use Rattle.std.specs.Prelude.{ℕ, suc, ◌+◌, List, [], ◌∷◌, map, codes, Option, Some, None}
use Rattle.book.specs.Postings.{plain_posting}
use Rattle.book.specs.Style.{style_of}
use Rattle.book.specs.declared.amount.Amount.{Amount}
use Rattle.book.specs.declared.amount.Written.{Written}
use Rattle.book.specs.declared.style.Style.{Style}
use Rattle.book.specs.declared.transaction.Mark.TheVariants.{Unmarked}
use Rattle.book.specs.declared.transaction.Posting.{Posting}
use Rattle.book.specs.declared.transaction.Side.TheVariants.{Real}
use Rattle.book.specs.declared.transaction.Txn.{Txn}
use Rattle.book_care.specs.Asked.{Asked}
use Rattle.book_care.specs.Lines.{Moved, closing_lines, opposite}

-- how an amount of the entries is written: its symbol on the side and with the space of its style, the number without groups
abbrev pub plain_shape : Style → Written
plain_shape style = record {
  left = style.shape.left;
  spaced = style.shape.spaced;
  mark = None;
  group = None;
  first = 3;
  rest = 3;
}

-- how the amounts of a symbol are written in a text
abbrev pub Writing : Type 0
Writing = List ℕ → Style

-- a line's amount
abbrev pub amount_of : Writing → Moved → Amount
amount_of styles moved =
    record { symbol = moved.symbol; value = moved.value; shape = plain_shape (styles moved.symbol) }

-- a real posting of a line's account and amount, in a line of the entry's text
abbrev pub posted : Writing → ℕ → Moved → Posting
posted styles number moved =
    record (plain_posting number Real moved.account) { amount = Some (amount_of styles moved) }

abbrev pub posted_from : Writing → ℕ → List Moved → List Posting
posted_from styles number [] = []
posted_from styles number (moved ∷ more) = posted styles number moved ∷ posted_from styles (suc number) more

-- an entry of a day, with the lines that it has alone
abbrev pub entry_on : Writing → ℕ → List ℕ → List Moved → Txn
entry_on styles day description lines = record {
  line = 1;
  day = record { 0 = day };
  mark = Unmarked;
  code = [];
  description = description;
  comment = [];
  tags = [];
  postings = posted_from styles 2 lines;
}

-- the closing entry of some lines, and the opening one of the next day; none where there are no lines
abbrev pub entries_with : Writing → ℕ → List Moved → Option (Txn × Txn)
entries_with styles on [] = None
entries_with styles on (moved ∷ more) = Some (
  entry_on styles on (codes "closing") (moved ∷ more),
  entry_on styles (on + 1) (codes "opening") (map opposite (moved ∷ more)),
)

-- the entries of what is asked, whose amounts are written in the styles of its text
abbrev pub made : Asked → Option (Txn × Txn)
made asked = entries_with (style_of asked.items) asked.on (closing_lines asked)
