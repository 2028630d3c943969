-- Amounts with the other sign are as large.
use Rattle.std.proofs.Common.{◌≡◌, ℕ, ℤ, zero, suc, pos, negsuc, ◌-◌, ◌+◌, ◌*◌, ◌%◌, ◌^◌, ◌≤◌, ◌*ℤ◌, neg_ℤ, unsigned_abs, Bool, true, false, cond, List, [], ◌∷◌, ◌++◌, map, refl, sym, ap, subst, ◌∙◌, arith}
use Rattle.std.specs.List.{AllByRecursion}
use Rattle.std.specs.Str.{bytes_eq}
use Rattle.hl_num.specs.Decimal.{Decimal, negated, units_of}
use Rattle.hl_num.proofs.DecimalLemmas.{neg-mul}
use Rattle.report_cells.specs.declared.cells.CellRow.{CellRow}
use Rattle.report_cells.specs.Report.{Sums, row_seen, seen}
use Rattle.balance_rows.specs.Fitting.{IsWhole, turnover}
use Rattle.balance_rows.specs.Kept.{KeptSums}
use Rattle.balance_rows.specs.Rows.{Row, cell_at}
use Rattle.balance_rows.specs.Sums.{entries_of, share}
use Rattle.statements.specs.Chosen.{net_rows}
use Rattle.statements.specs.Turned.{as_shown, kept_shown, row_shown, signed, turned}
use Rattle.balance_rows.proofs.Fits.{IsPart, part-itself, part-none}
use Rattle.balance_rows.proofs.TreesLaws.{part-join}
use Rattle.balance_layouts.proofs.Parts.{part-same}

-- ---- what copies say

neg-units : (m : ℤ) (n : ℕ) → neg_ℤ m *ℤ pos n ≡ neg_ℤ (m *ℤ pos n)
neg-units (pos k) n = neg-mul k n
neg-units (negsuc k) n = sym (ap (λ (z : ℤ). neg_ℤ z) (neg-mul (suc k) n) ∙ twice (suc k * n))
  where
    twice : (m : ℕ) → neg_ℤ (neg_ℤ (pos m)) ≡ pos m
    twice zero = refl
    twice (suc m) = refl

pub seen_shown : (turn : Bool) (entries : KeptSums) → seen (kept_shown turn entries) ≡ as_shown turn (seen entries)
seen_shown true [] = refl
seen_shown true (e ∷ es) = λ i. (e.0, neg-units e.1.mantissa (10 ^ (36 - e.1.places)) i) ∷ seen_shown true es i
seen_shown false [] = refl
seen_shown false (e ∷ es) = λ i. (e.0, units_of e.1) ∷ seen_shown false es i

-- ---- how large they are

abs-neg : (z : ℤ) → unsigned_abs (neg_ℤ z) ≡ unsigned_abs z
abs-neg (pos zero) = refl
abs-neg (pos (suc n)) = refl
abs-neg (negsuc n) = refl

share-neg : (q : List ℕ) (e : List ℕ × ℤ) → unsigned_abs (share q (e.0, neg_ℤ e.1)) ≡ unsigned_abs (share q e)
share-neg q e = elim (bytes_eq e.0 q) as (λ b. unsigned_abs (cond b (neg_ℤ e.1) (pos 0)) ≡ unsigned_abs (cond b e.1 (pos 0))) [
  | true ↦ abs-neg e.1
  | false ↦ refl
]

turnover-turned : (q : List ℕ) (es : Sums) → turnover q (turned es) ≡ turnover q es
turnover-turned q [] = refl
turnover-turned q (e ∷ es) = λ i. share-neg q e i + turnover-turned q es i

whole-turned : (places : ℕ) (q : List ℕ) (es : Sums) → AllByRecursion (IsWhole places q) es → AllByRecursion (IsWhole places q) (turned es)
whole-turned places q [] h = tt
whole-turned places q (e ∷ es) h = (ap (λ (n : ℕ). n % 10 ^ (36 - places)) (share-neg q e) ∙ h.0, whole-turned places q es h.1)

pub part-turned : (es : Sums) → IsPart (turned es) es
part-turned es = record {
  less = λ q. omega (arith, turnover-turned q es);
  whole = λ places q h. whole-turned places q es h;
}

pub part-shown : (turn : Bool) (es : Sums) → IsPart (as_shown turn es) es
part-shown true es = part-turned es
part-shown false es = part-itself es

-- ---- cells of rows

none_shown : (turn : Bool) → as_shown turn [] ≡ []
none_shown true = refl
none_shown false = refl

pub shown_at : (turn : Bool) (at : ℕ) (cells : List Sums) → cell_at at (map (as_shown turn) cells) ≡ as_shown turn (cell_at at cells)
shown_at turn at [] = sym (none_shown turn)
shown_at turn zero (cell ∷ cells) = refl
shown_at turn (suc at) (cell ∷ cells) = shown_at turn at cells

-- the cell of a column
pub part-cell_shown : (at : ℕ) (turn : Bool) (row : Row) → IsPart (cell_at at (row_shown turn row).1) (cell_at at row.1)
part-cell_shown at turn row =
    subst (λ (cell : Sums). IsPart cell (cell_at at row.1)) (sym (shown_at turn at row.1)) (part-shown turn (cell_at at row.1))

-- all cells of a row
pub part-row_shown : (turn : Bool) (row : Row) → IsPart (entries_of (row_shown turn row).1) (entries_of row.1)
part-row_shown turn row = each row.1
  where
    each : (cells : List Sums) → IsPart (entries_of (map (as_shown turn) cells)) (entries_of cells)
    each [] = part-none []
    each (cell ∷ more) = part-join (as_shown turn cell) (entries_of (map (as_shown turn) more)) cell (entries_of more) (part-shown turn cell) (each more)

-- the same of turned totals
pub part-turned_at : (at : ℕ) (cells : List Sums) → IsPart (cell_at at (map turned cells)) (cell_at at cells)
part-turned_at at cells = part-cell_shown at true ([], cells)

pub part-turned_cells : (cells : List Sums) → IsPart (entries_of (map turned cells)) (entries_of cells)
part-turned_cells cells = part-row_shown true ([], cells)

-- ---- two rows of totals

plain_cells : (cells : List Sums) → map (as_shown false) cells ≡ cells
plain_cells [] = refl
plain_cells (cell ∷ cells) = ap (λ (more : List Sums). cell ∷ more) (plain_cells cells)

pub rows_are : (rows : List CellRow) (one two : CellRow) (first second : List Sums) → rows ≡ one ∷ two ∷ []
    → row_seen one ≡ ([], map (as_shown false) first) → row_seen two ≡ ([], map (as_shown true) second)
    → map row_seen rows ≡ net_rows first second
rows_are rows one two first second are one_is two_is =
    ap (map row_seen) are
    ∙ (λ i. (one_is ∙ ap (λ (cells : List Sums). ([], cells)) (plain_cells first)) i ∷ two_is i ∷ [])
