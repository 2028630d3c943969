-- Sums over some rows of a list.
use Rattle.std.proofs.Common.{◌≡◌, ℕ, ℤ, pos, ◌+◌, ◌≤◌, ◌+ℤ◌, unsigned_abs, Bool, true, false, cond, ◌&&◌, ◌||◌, List, [], ◌∷◌, ◌++◌, filter, refl, sym, ap, ◌∙◌, arith}
use Rattle.std.specs.Str.{bytes_eq}
use Rattle.std.proofs.lemmas.Int.{ints}
use Rattle.std.proofs.lemmas.Bool.{false≢true}
use Rattle.hl_num.specs.Decimal.{units_of}
use Rattle.hl_num.proofs.DecimalLaws.{unsigned_abs-add}
use Rattle.live_index.specs.declared.row.Row.{Row}
use Rattle.live_index.specs.Rows.{sum_by, total, turnover}

-- two tests, of which not both hold, and the test that one of them holds
pub record Splits (x y z : Bool) : Type 0 where
  pub one : z ≡ (x || y)
  pub apart : (x && y) ≡ false

module _ (w : Row → ℤ) where
  split_step : (row : Row) (ps qs rs : List Row) (x y z : Bool) → z ≡ (x || y) → (x && y) ≡ false → sum_by w rs ≡ sum_by w ps +ℤ sum_by w qs → sum_by w (cond z (row ∷ rs) rs) ≡ sum_by w (cond x (row ∷ ps) ps) +ℤ sum_by w (cond y (row ∷ qs) qs)
  split_step row ps qs rs true true z e h k = absurd (false≢true (sym h))
  split_step row ps qs rs true false z e h k = rw e (omega (arith, ints))
  split_step row ps qs rs false true z e h k = rw e (omega (arith, ints))
  split_step row ps qs rs false false z e h k = rw e k

  -- the rows of one or the other test are those of the first and those of the second
  pub sum-split : (a b c : Row → Bool) → ((row : Row) → Splits (a row) (b row) (c row)) → (rows : List Row) → sum_by w (filter c rows) ≡ sum_by w (filter a rows) +ℤ sum_by w (filter b rows)
  sum-split a b c h [] = refl
  sum-split a b c h (row ∷ rows) =
      split_step row (filter a rows) (filter b rows) (filter c rows) (a row) (b row) (c row) (h row).one (h row).apart (sum-split a b c h rows)

  -- the rows of a test that none meets
  pub sum-none : (test : Row → Bool) → ((row : Row) → test row ≡ false) → (rows : List Row) → sum_by w (filter test rows) ≡ pos 0
  sum-none test h [] = refl
  sum-none test h (row ∷ rows) = rw (h row) (sum-none test h rows)

  along_step : (row : Row) (one two : List Row) (t : Bool) → sum_by w one ≡ sum_by w two → sum_by w (cond t (row ∷ one) one) ≡ sum_by w (cond t (row ∷ two) two)
  along_step row one two true e = ap (λ (z : ℤ). w row +ℤ z) e
  along_step row one two false e = e

  -- equal tests
  pub sum-along : (a b : Row → Bool) → ((row : Row) → a row ≡ b row) → (rows : List Row) → sum_by w (filter a rows) ≡ sum_by w (filter b rows)
  sum-along a b h [] = refl
  sum-along a b h (row ∷ rows) =
      ap (λ (t : Bool). sum_by w (cond t (row ∷ filter a rows) (filter a rows))) (h row) ∙ along_step row (filter a rows) (filter b rows) (b row) (sum-along a b h rows)

  append_step : (row : Row) (more one two : List Row) (x : Bool) → sum_by w more ≡ sum_by w one +ℤ sum_by w two → sum_by w (cond x (row ∷ more) more) ≡ sum_by w (cond x (row ∷ one) one) +ℤ sum_by w two
  append_step row more one two true h = omega (arith, ints)
  append_step row more one two false h = h

  -- the rows of two lists
  pub sum-append : (test : Row → Bool) (one two : List Row) → sum_by w (filter test (one ++ two)) ≡ sum_by w (filter test one) +ℤ sum_by w (filter test two)
  sum-append test [] two = omega (arith, ints)
  sum-append test (row ∷ one) two =
      append_step row (filter test (one ++ two)) (filter test one) (filter test two) (test row) (sum-append test one two)

pub total-split : (a b c : Row → Bool) → ((row : Row) → Splits (a row) (b row) (c row)) → (rows : List Row) → total (filter c rows) ≡ total (filter a rows) +ℤ total (filter b rows)
total-split a b c h rows = sum-split (λ row. units_of row.value) a b c h rows

pub total-none : (test : Row → Bool) → ((row : Row) → test row ≡ false) → (rows : List Row) → total (filter test rows) ≡ pos 0
total-none test h rows = sum-none (λ row. units_of row.value) test h rows

within_step : (row : Row) (rest : List Row) (more : ℕ) (x y : Bool) → (x ≡ true → y ≡ true) → unsigned_abs (total rest) ≤ more → unsigned_abs (total (cond x (row ∷ rest) rest)) ≤ (cond y (unsigned_abs (units_of row.value)) 0) + more
within_step row rest more true true h k = omega (arith, k, unsigned_abs-add (units_of row.value) (total rest))
within_step row rest more true false h k = absurd (false≢true (h refl))
within_step row rest more false true h k = omega (arith, k)
within_step row rest more false false h k = omega (arith, k)

-- the sum of some rows in a symbol is at most their turnover
pub total-within : (symbol : List ℕ) (test : Row → Bool) → ((row : Row) → test row ≡ true → bytes_eq row.symbol symbol ≡ true) → (rows : List Row) → unsigned_abs (total (filter test rows)) ≤ turnover symbol rows
total-within symbol test h [] = omega arith
total-within symbol test h (row ∷ rows) =
    within_step row (filter test rows) (turnover symbol rows) (test row) (bytes_eq row.symbol symbol) (h row) (total-within symbol test h rows)
