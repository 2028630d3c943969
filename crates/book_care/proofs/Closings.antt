-- The lines of a closing entry, and what is wrong with them.
use Rattle.std.proofs.Common.{◌≡◌, ℕ, ℤ, false, List, [], ◌∷◌, ◌++◌, map, Option, Result, Ok, Err, IfOk, ap, ◌∙◌}
use Rattle.std.specs.List.{flat_map}
use Rattle.book.specs.Style.{style_of}
use Rattle.book.specs.declared.item.Placed.{Placed}
use Rattle.book.specs.declared.transaction.Txn.{Txn}
use Rattle.entry_reader.specs.Contexts.{Context}
use Rattle.report_cells.specs.Report.{rows_in, totals_in}
use Rattle.report_cells.specs.declared.reach.Reach.TheVariants.{Within}
use Rattle.book_care.specs.Asked.{Asked, named_postings}
use Rattle.book_care.specs.Balances.{Settles}
use Rattle.book_care.specs.Entries.{entries_with, made}
use Rattle.book_care.specs.Judged.{line_fault, closing_fault}
use Rattle.book_care.specs.Kept.{taken, one_day, sum_lines, row_lines}
use Rattle.book_care.specs.Lines.{Moved, closing_lines}
use Rattle.book_care.specs.Reads.{context_at_end}
use Rattle.book_care.specs.declared.faults.CloseFault.{CloseFault}
use Rattle.book_care.proofs.Rowing.{lines_are}
use Rattle.book_care.proofs.Settling.{settles}

-- the lines that the sums of the named accounts give
pub closing_is : (asked : Asked) (rows : List (List ℕ × List (List (List ℕ × ℤ)))) (totals : List (List (List ℕ × ℤ))) (lines : List Moved) → rows ≡ rows_in Within (one_day ∷ []) (map taken (named_postings asked)) → totals ≡ totals_in Within (one_day ∷ []) (map taken (named_postings asked)) → lines ≡ flat_map row_lines rows ++ flat_map (sum_lines false asked.into) totals → lines ≡ closing_lines asked
closing_is asked rows totals lines by_row by_total is = lines_are asked.into (named_postings asked) rows totals lines by_row by_total is

pub made_is : (asked : Asked) (items : List Placed) (lines : List Moved) (entries : Option (Txn × Txn)) → items ≡ asked.items → lines ≡ closing_lines asked → entries ≡ entries_with (style_of items) asked.on lines → entries ≡ made asked
made_is asked items lines entries of_text same is =
    is
    ∙ ap (λ (i : List Placed). entries_with (style_of i) asked.on lines) of_text
    ∙ ap (entries_with (style_of asked.items) asked.on) same

pub fault_is : (asked : Asked) (context : Context) (lines : List Moved) → context ≡ context_at_end asked.items → lines ≡ closing_lines asked → line_fault context lines ≡ closing_fault asked
fault_is asked context lines of_end same = ap (λ (c : Context). line_fault c lines) of_end ∙ ap (line_fault (context_at_end asked.items)) same

-- entries that are made settle the accounts
pub settled_by : (asked : Asked) (r : Result (Option (Txn × Txn)) CloseFault) → IfOk r (λ entries. entries ≡ made asked) → IfOk r (Settles asked)
settled_by asked (Ok entries) is = settles asked entries is
settled_by asked (Err fault) is = tt
