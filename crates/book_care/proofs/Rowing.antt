-- The sums of a report with one column are those of the postings.
use Rattle.std.proofs.Common.{◌≡◌, ℕ, ℤ, ◌+ℤ◌, Bool, true, false, ◌&&◌, cond, List, [], ◌∷◌, ◌++◌, map, filter, Option, Some, None, refl, ap, ◌∙◌}
use Rattle.std.specs.Ordering.{nat_cmp}
use Rattle.std.specs.Cmp.Lexicographic.{slice_cmp}
use Rattle.std.specs.List.{flat_map}
use Rattle.std.specs.Option.{option_map}
use Rattle.std.specs.Str.{bytes_eq}
use Rattle.std.proofs.lemmas.List.{append-nil}
use Rattle.book.specs.Accounts.{account_cmp}
use Rattle.book.specs.Order.{each_once}
use Rattle.book.specs.Sums.{symbol_in, sum_of, of_account, mixed_of, is_nonzero}
use Rattle.book.specs.declared.amount.Amount.{Amount}
use Rattle.book.specs.declared.transaction.Posting.{Posting}
use Rattle.report_cells.specs.Report.{cell, accounts_in, counts, rows_in, totals_in}
use Rattle.report_cells.specs.Taken.{Taken, sum_in, symbol_of, mixed_in}
use Rattle.report_cells.specs.declared.reach.Reach.TheVariants.{Within}
use Rattle.book_care.specs.Kept.{taken, one_day, sum_lines, row_lines}
use Rattle.book_care.specs.Lines.{Moved, closed, all_closed, taken_into}
use Rattle.book_care.proofs.Within.{share-taken}

map-map : {A B C : Type 0} (f : B → C) (g : A → B) (xs : List A) → map f (map g xs) ≡ map (λ x. f (g x)) xs
map-map f g [] = refl
map-map f g (x ∷ xs) = ap (λ l. f (g x) ∷ l) (map-map f g xs)

sum-taken : (q : List ℕ) (ps : List Posting) → sum_in q (map taken ps) ≡ sum_of q ps
sum-taken q [] = refl
sum-taken q (p ∷ ps) = λ k. share-taken q p.amount k +ℤ sum-taken q ps k

symbol-taken : (amount : Option Amount) → symbol_of (option_map (λ (a : Amount). (a.symbol, a.value)) amount) ≡ symbol_in amount
symbol-taken None = refl
symbol-taken (Some a) = refl

symbols-taken : (ps : List Posting) → flat_map (λ (t : Taken). symbol_of t.amount) (map taken ps) ≡ flat_map (λ (p : Posting). symbol_in p.amount) ps
symbols-taken [] = refl
symbols-taken (p ∷ ps) = λ k. symbol-taken p.amount k ++ symbols-taken ps k

mixed-taken : (ps : List Posting) → mixed_in (map taken ps) ≡ mixed_of ps
mixed-taken ps = λ k. filter (λ (sum : List ℕ × ℤ). is_nonzero sum.1) (map (λ (symbol : List ℕ). (symbol, sum-taken symbol ps k)) (each_once (slice_cmp nat_cmp) (symbols-taken ps k)))

and_true : (b : Bool) → (b && true) ≡ b
and_true true = refl
and_true false = refl

-- the postings of an account are counted
counted : (account : List ℕ) (ps : List Posting) → filter (λ (t : Taken). bytes_eq t.account account && counts Within one_day t) (map taken ps) ≡ map taken (of_account account ps)
counted account [] = refl
counted account (p ∷ ps) =
    ap (λ b. cond b (taken p ∷ filter (λ (t : Taken). bytes_eq t.account account && counts Within one_day t) (map taken ps)) (filter (λ (t : Taken). bytes_eq t.account account && counts Within one_day t) (map taken ps))) (and_true (bytes_eq p.account account))
    ∙ elim (bytes_eq p.account account) as (λ b. cond b (taken p ∷ filter (λ (t : Taken). bytes_eq t.account account && counts Within one_day t) (map taken ps)) (filter (λ (t : Taken). bytes_eq t.account account && counts Within one_day t) (map taken ps)) ≡ map taken (cond b (p ∷ of_account account ps) (of_account account ps))) [
      | true ↦ ap (λ l. taken p ∷ l) (counted account ps)
      | false ↦ counted account ps
    ]

all_counted : (ps : List Posting) → filter (counts Within one_day) (map taken ps) ≡ map taken ps
all_counted [] = refl
all_counted (p ∷ ps) = ap (λ l. taken p ∷ l) (all_counted ps)

cell-taken : (account : List ℕ) (ps : List Posting) → cell Within (map taken ps) one_day account ≡ mixed_of (of_account account ps)
cell-taken account ps = ap mixed_in (counted account ps) ∙ mixed-taken (of_account account ps)

-- the row of an account
row-lines : (account : List ℕ) (ps : List Posting) → row_lines (account, cell Within (map taken ps) one_day account ∷ []) ≡ closed ps account
row-lines account ps =
    append-nil (sum_lines true account (cell Within (map taken ps) one_day account))
    ∙ ap (sum_lines true account) (cell-taken account ps)

all_rows : (ps : List Posting) (accounts : List (List ℕ)) → flat_map row_lines (map (λ (account : List ℕ). (account, cell Within (map taken ps) one_day account ∷ [])) accounts) ≡ flat_map (closed ps) accounts
all_rows ps [] = refl
all_rows ps (a ∷ accounts) = λ k. row-lines a ps k ++ all_rows ps accounts k

rows-lines : (ps : List Posting) → flat_map row_lines (rows_in Within (one_day ∷ []) (map taken ps)) ≡ all_closed ps
rows-lines ps =
    all_rows ps (accounts_in (map taken ps))
    ∙ ap (λ names. flat_map (closed ps) (each_once account_cmp names)) (map-map (λ (t : Taken). t.account) taken ps)

totals-lines : (into : List ℕ) (ps : List Posting) → flat_map (sum_lines false into) (totals_in Within (one_day ∷ []) (map taken ps)) ≡ taken_into into ps
totals-lines into ps =
    append-nil (sum_lines false into (mixed_in (filter (counts Within one_day) (map taken ps))))
    ∙ ap (λ ts. sum_lines false into (mixed_in ts)) (all_counted ps)
    ∙ ap (sum_lines false into) (mixed-taken ps)

-- the lines of the rows and of the totals are those of the closing entry
pub lines_are : (into : List ℕ) (ps : List Posting) (rows : List (List ℕ × List (List (List ℕ × ℤ)))) (totals : List (List (List ℕ × ℤ))) (lines : List Moved) → rows ≡ rows_in Within (one_day ∷ []) (map taken ps) → totals ≡ totals_in Within (one_day ∷ []) (map taken ps) → lines ≡ flat_map row_lines rows ++ flat_map (sum_lines false into) totals → lines ≡ all_closed ps ++ taken_into into ps
lines_are into ps rows totals lines by_row by_total is =
    is ∙ (λ k. (ap (flat_map row_lines) by_row ∙ rows-lines ps) k ++ (ap (flat_map (sum_lines false into)) by_total ∙ totals-lines into ps) k)
