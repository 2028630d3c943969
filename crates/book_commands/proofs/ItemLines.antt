-- The items of a text, line by line.
use Rattle.std.proofs.Common.{◌≡◌, ℕ, ◌+◌, ◌<◌, ◌≤◌, List, ◌++◌, Ok, length, get_or, drop, min, inl, inr, refl, sym, ap, ◌∙◌, append_assoc, arith}
use Rattle.std.proofs.lemmas.Bool.{cases_lt}
use Rattle.std.proofs.lemmas.List.{append-nil, drop_all}
use Rattle.book.specs.declared.item.Book.{Book}
use Rattle.book.specs.declared.item.Placed.{Placed}
use Rattle.query_terms.proofs.Walks.{left_here}
use Rattle.refusals.specs.Outcomes.{Judged, written}
use Rattle.book_commands.specs.Answers.{Finds}
use Rattle.book_commands.specs.Listed.{item_line, items_made, lines_from}

-- past the end of a text nothing is left
pub drop_within : (at : ℕ) (text : List ℕ) → drop (min at (length text)) text ≡ drop at text
drop_within at text =
    elim (cases_lt at (length text)) [
      | inl lt ↦ let k : min at (length text) ≡ at = omega arith in rw k refl
      | inr le ↦ drop_all (min at (length text)) text (omega arith) ∙ sym (drop_all at text le)
    ]

pub lines_more : (text whole found : List ℕ) (items : List Placed) (i number : ℕ) (placed : Placed) (now : List ℕ) → whole ≡ found ++ lines_from text number (drop i items)
    → i < length items → placed ≡ get_or items i placed → now ≡ found ++ item_line text number placed
    → whole ≡ now ++ lines_from text (number + 1) (drop (i + 1) items)
lines_more text whole found items i number placed now e lt is f =
    rw (e, left_here items i placed lt is, f) (sym (append_assoc found (item_line text number placed) (lines_from text (number + 1) (drop (i + 1) items))))

pub lines_done : (text whole found : List ℕ) (items : List Placed) (i number : ℕ) → whole ≡ found ++ lines_from text number (drop i items) → length items ≤ i → found ≡ whole
lines_done text whole found items i number e le = sym (rw (e, drop_all i items le) (append-nil found))

abbrev writing : List ℕ → Judged
writing output = Ok (written output)

pub items_told : (output text : List ℕ) (items : List Placed) (book : Book) → output ≡ lines_from text 1 items → Finds (Ok output) (Ok (items_made text items book))
unfolding items_made
items_told output text items book e = ap writing (sym e)
