-- What is kept of postings and of their sums on the way to the lines of a closing entry.
use Rattle.std.specs.Prelude.{ℕ, ℤ, Bool, true, not, ◌&&◌, List, [], ◌∷◌, map, filter, if◌then◌else◌}
use Rattle.std.specs.List.{flat_map}
use Rattle.std.specs.Option.{option_map}
use Rattle.std.specs.Str.{bytes_eq}
use Rattle.hl_time.specs.declared.spans.Span.{Span}
use Rattle.book.specs.declared.transaction.Posting.{Posting}
use Rattle.book.specs.declared.transaction.Txn.{Txn}
use Rattle.report_cells.specs.Taken.{Taken}
use Rattle.book_care.specs.Lines.{Moved, line_of, turned}
use Rattle.book_care.specs.Names.{has}
use Rattle.book_care.specs.declared.names.Names.{Names}

-- what a posting moves; all days are one
abbrev pub taken : Posting → Taken
taken p = record { account = p.account; day = 0; amount = option_map (λ a. (a.symbol, a.value)) p.amount }

-- the days that are one
abbrev pub one_day : Span
one_day = record { from = 0; end = 1 }

-- a posting is of an account among some names, and not of the one that takes the balances
abbrev pub is_kept : Names → List ℕ → Posting → Bool
is_kept names into p = not (bytes_eq p.account into) && has names p.account

abbrev pub kept_of : Names → List ℕ → Posting → List Taken
kept_of names into p = map taken (filter (is_kept names into) (p ∷ []))

abbrev pub kept_in : Names → List ℕ → Txn → List Taken
kept_in names into txn = flat_map (kept_of names into) txn.postings

-- a sum, or with the other sign
abbrev pub signed_sum : Bool → List ℕ × ℤ → List ℕ × ℤ
signed_sum turns sum = if turns then turned sum else sum

-- the lines of an account's sums
abbrev pub sum_lines : Bool → List ℕ → List (List ℕ × ℤ) → List Moved
sum_lines turns account sums = map (λ sum. line_of account (signed_sum turns sum)) sums

-- those of a row of sums, which take them away
abbrev pub row_lines : List ℕ × List (List (List ℕ × ℤ)) → List Moved
row_lines row = flat_map (sum_lines true row.0) row.1
