-- The accounts that are listed, from what a report takes.
use Rattle.std.proofs.Common.{◌≡◌, ℕ, Bool, true, false, cond, not, ◌&&◌, List, [], ◌∷◌, ◌++◌, map, filter, Option, Some, None, refl, sym, ap, ◌∙◌}
use Rattle.std.specs.Prelude.{find, nat_lt}
use Rattle.std.specs.List.{flat_map}
use Rattle.std.proofs.lemmas.List.{append-nil}
use Rattle.std.specs.Ordering.{nat_cmp}
use Rattle.std.specs.Cmp.Lexicographic.{slice_cmp}
use Rattle.hl_time.specs.declared.spans.Span.{Span}
use Rattle.book.specs.Accounts.{account_cmp}
use Rattle.book.specs.Order.{each_once}
use Rattle.report_cells.specs.Bounds.{first_out, is_out}
use Rattle.report_cells.specs.Faults.{IsFault}
use Rattle.report_cells.specs.Report.{Sums, row_seen, rows_in, accounts_in, cell}
use Rattle.report_cells.specs.Taken.{Taken, symbol_of}
use Rattle.report_cells.specs.declared.cells.CellRow.{CellRow}
use Rattle.report_cells.specs.declared.fault.ReportFault.{ReportFault}
use Rattle.report_cells.specs.declared.fault.ReportFault.TheVariants.{Range, TooWide, Memory}
use Rattle.report_cells.specs.declared.reach.Reach.{Reach}
use Rattle.report_takings.specs.Asking.{Question, entries}
use Rattle.report_takings.specs.Costs.{first_out as first_unpriced}
use Rattle.report_takings.specs.Entries.{Entry, day_in}
use Rattle.report_takings.specs.Spans.{span_of}
use Rattle.report_takings.specs.Takings.{holds, is_historical, is_kept, shown_in, kept_entries, taken, takings_of, IsOut}
use Rattle.report_takings.specs.declared.entries.Part.TheVariants.{Counted, Named}
use Rattle.journal_listings.specs.Listed.{account_lines, AreBounds, account_shown, accounts_shown, accounts_text, named, without_amount}

-- a test of tests
and_is : (a b : Bool) → cond a b false ≡ (a && b)
and_is true b = refl
and_is false b = refl

none_kept : (es : List Entry) → filter (λ (e : Entry). false) es ≡ []
none_kept [] = refl
none_kept (e ∷ es) = none_kept es

module _ (asked : Question) (alone : AreBounds asked.options) where
  of_entries : (es : List Entry) → named (map (taken Counted asked) es) ≡ map (account_shown asked) es
  of_entries [] = refl
  of_entries (e ∷ es) = ap (λ (rest : List (List ℕ)). account_shown asked e ∷ rest) (of_entries es)

  -- no earlier account is named
  names_none : (shown : Span) → map (taken Named asked) (filter (is_kept Named asked shown) (entries asked)) ≡ []
  names_none shown =
      ap (λ (empty : Bool). map (taken Named asked) (filter (λ (e : Entry). cond (empty && not (is_historical asked.options.start)) (cond (nat_lt (day_in e) shown.from) (asked.means_boundless e) false) false) (entries asked))) alone.few
      ∙ ap (map (taken Named asked)) (none_kept (entries asked))

  -- of the postings that are taken over the span they are those that are listed
  pub shown_are : (columns : List Span) (ts : List Taken) → columns ≡ span_of asked ∷ [] → ts ≡ takings_of asked columns → named ts ≡ accounts_shown asked
  shown_are columns ts one are =
      ap named (are ∙ ap (takings_of asked) one)
      ∙ ap (λ (rest : List Taken). named (map (taken Counted asked) (kept_entries Counted asked (span_of asked ∷ [])) ++ rest)) (names_none (shown_in (span_of asked ∷ [])))
      ∙ ap named (append-nil (map (taken Counted asked) (kept_entries Counted asked (span_of asked ∷ []))))
      ∙ of_entries (kept_entries Counted asked (span_of asked ∷ []))
      ∙ ap (λ (historical : Bool). map (account_shown asked) (filter (λ (e : Entry). cond historical (cond (nat_lt (day_in e) (span_of asked).end) (asked.means_boundless e) false) (cond (holds (span_of asked) (day_in e)) (asked.means e) false)) (entries asked))) alone.change
      ∙ (λ i. map (account_shown asked) (filter (λ (e : Entry). and_is (holds (span_of asked) (day_in e)) (asked.means e) i) (entries asked)))

  -- no amount is taken at cost
  pub never_out : (columns : List Span) (fault : ReportFault) → IsOut asked columns fault → fault ≡ Memory
  never_out columns (TooWide count limit) h = absurd h
  never_out columns Memory h = refl
  never_out columns (Range symbol) h =
      let none : None ≡ Some symbol = sym (ap (λ b. cond b (first_unpriced (kept_entries Counted asked columns)) None) alone.amounts) ∙ h in
      let no : ⊥ = cc none in absurd no

-- the accounts stay where amounts are left out
same_accounts : (ts : List Taken) → named (map without_amount ts) ≡ named ts
same_accounts [] = refl
same_accounts (t ∷ ts) = ap (λ (rest : List (List ℕ)). t.account ∷ rest) (same_accounts ts)

no_symbols : (ts : List Taken) → flat_map (λ (t : Taken). symbol_of t.amount) (map without_amount ts) ≡ []
no_symbols [] = refl
no_symbols (t ∷ ts) = no_symbols ts

-- without amounts no symbol is out of range
none_out : (ts : List Taken) → first_out (map without_amount ts) ≡ None
none_out ts = ap (λ (symbols : List (List ℕ)). find (is_out (map without_amount ts)) (each_once (slice_cmp nat_cmp) symbols)) (no_symbols ts)

pub never_ranged : (ts : List Taken) (fault : ReportFault) → first_out ts ≡ None → IsFault ts fault → fault ≡ Memory
never_ranged ts (TooWide count limit) none h = absurd h
never_ranged ts Memory none h = refl
never_ranged ts (Range symbol) none h = let wrong : None ≡ Some symbol = sym none ∙ h in let no : ⊥ = cc wrong in absurd no

-- so takings without amounts have none out of range
pub bare_out : (takings bare : List Taken) → bare ≡ map without_amount takings → first_out bare ≡ None
bare_out takings bare are = ap first_out are ∙ none_out takings

-- and their accounts are those that are listed
pub listed_are : (asked : Question) (takings bare : List Taken) → named takings ≡ accounts_shown asked → bare ≡ map without_amount takings → account_lines (accounts_in bare) ≡ accounts_text asked
listed_are asked takings bare shown are =
    ap (λ (accounts : List (List ℕ)). account_lines (each_once account_cmp accounts)) (ap named are ∙ same_accounts takings ∙ shown)

-- the lines of rows are those of the accounts that they are seen with
lines_seen : (rows : List CellRow) → flat_map (λ row. row.account ++ 10 ∷ []) rows ≡ account_lines (map (λ (row : List ℕ × List Sums). row.0) (map row_seen rows))
lines_seen [] = refl
lines_seen (row ∷ rows) = ap (λ (rest : List ℕ). (row.account ++ 10 ∷ []) ++ rest) (lines_seen rows)

first_parts : (sums : List ℕ → List Sums) (accounts : List (List ℕ)) → map (λ (row : List ℕ × List Sums). row.0) (map (λ account. (account, sums account)) accounts) ≡ accounts
first_parts sums [] = refl
first_parts sums (account ∷ accounts) = ap (λ (rest : List (List ℕ)). account ∷ rest) (first_parts sums accounts)

-- the rows of takings have their accounts
pub lines_are : (reach : Reach) (columns : List Span) (ts : List Taken) (rows : List CellRow) → map row_seen rows ≡ rows_in reach columns ts → flat_map (λ row. row.account ++ 10 ∷ []) rows ≡ account_lines (accounts_in ts)
lines_are reach columns ts rows are =
    lines_seen rows
    ∙ ap (λ (seen : List (List ℕ × List Sums)). account_lines (map (λ (row : List ℕ × List Sums). row.0) seen)) are
    ∙ ap account_lines (first_parts (λ account. map (λ column. cell reach ts column account) columns) (accounts_in ts))
