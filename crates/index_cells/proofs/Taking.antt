-- Rows of takings have their sums.
use Rattle.std.proofs.Common.{◌≡◌, ℕ, ℤ, pos, ◌+◌, ◌-◌, ◌*◌, ◌^◌, ◌<◌, max, ◌+ℤ◌, unsigned_abs, Bool, true, false, cond, ◌&&◌, ◌||◌, List, [], ◌∷◌, ◌++◌, filter, Option, Some, None, refl, sym, ap, subst, ◌∙◌, arith}
use Rattle.std.specs.Str.{bytes_eq}
use Rattle.std.proofs.lemmas.Int.{ints}
use Rattle.hl_num.specs.Decimal.{units_of}
use Rattle.hl_time.specs.declared.spans.Span.{Span}
use Rattle.live_index.specs.declared.row.Row.{Row}
use Rattle.live_index.specs.Rows.{total, turnover, places_of, TurnoverFits}
use Rattle.report_cells.specs.Bounds.{turnover_in, places_in, places_at}
use Rattle.report_cells.specs.Bounds as bounds
use Rattle.report_cells.specs.Taken.{Shared, Taken, share_in, sum_in}
use Rattle.index_cells.specs.Days.{holds}
use Rattle.index_cells.specs.Over.{is_over}
use Rattle.index_cells.specs.Rowed.{rowed, rowed_all}
use Rattle.index_cells.specs.Tells.{is_on}

or_none : (a : Bool) → (a || false) ≡ a
or_none true = refl
or_none false = refl

module _ (account symbol : List ℕ) (days : Span) where
  abbrev test : Row → Bool
  test = is_over account symbol days

  -- one row more, by its tests
  row_more : (row : Row) (rest : List Row) (x m b : Bool) (u z : ℤ) → units_of row.value ≡ u → total rest ≡ z → total (cond ((x && m) && b) (row ∷ rest) rest) ≡ cond (m && b) (cond x u (pos 0) +ℤ z) z
  row_more row rest true true true u z is sum = (λ i. is i +ℤ sum i)
  row_more row rest false true true u z is sum = sum ∙ omega (arith, ints)
  row_more row rest true true false u z is sum = sum
  row_more row rest false true false u z is sum = sum
  row_more row rest true false b u z is sum = sum
  row_more row rest false false b u z is sum = sum

  amount_more : (own : List ℕ) (day : ℕ) (o : Option Shared) (rows : List Row) (z : ℤ) → total (filter test rows) ≡ z → total (filter test (rowed own day o ++ rows)) ≡ cond (bytes_eq own account && holds days day) (share_in symbol o +ℤ z) z
  amount_more own day None rows z sum = sum ∙ sym (either (bytes_eq own account && holds days day))
    where
      either : (b : Bool) → cond b (pos 0 +ℤ z) z ≡ z
      either true = omega (arith, ints)
      either false = refl
  amount_more own day (Some share) rows z sum =
      let row : Row = record { account = own; symbol = share.0; day = record { 0 = day }; value = share.1 } in
      ap (λ (m : Bool). total (cond ((bytes_eq share.0 symbol && m) && holds days day) (row ∷ filter test rows) (filter test rows))) (or_none (bytes_eq own account))
      ∙ row_more row (filter test rows) (bytes_eq share.0 symbol) (bytes_eq own account) (holds days day) (units_of share.1) z refl sum

  picked : (b : Bool) (t : Taken) (rest : List Taken) → cond b (share_in symbol t.amount +ℤ sum_in symbol rest) (sum_in symbol rest) ≡ sum_in symbol (cond b (t ∷ rest) rest)
  picked true t rest = refl
  picked false t rest = refl

  pub rowed_sum : (ts : List Taken) → total (filter test (rowed_all ts)) ≡ sum_in symbol (filter (is_on account days) ts)
  rowed_sum [] = refl
  rowed_sum (t ∷ ts) =
      amount_more t.account t.day t.amount (rowed_all ts) (sum_in symbol (filter (is_on account days) ts)) (rowed_sum ts)
      ∙ picked (is_on account days t) t (filter (is_on account days) ts)

-- ---- turnovers and decimals

module _ (symbol : List ℕ) where
  amount_turned : (own : List ℕ) (day : ℕ) (o : Option Shared) (rows : List Row) → turnover symbol (rowed own day o ++ rows) ≡ unsigned_abs (share_in symbol o) + turnover symbol rows
  amount_turned own day None rows = omega arith
  amount_turned own day (Some share) rows = by (bytes_eq share.0 symbol)
    where
      by : (b : Bool) → cond b (unsigned_abs (units_of share.1)) 0 + turnover symbol rows ≡ unsigned_abs (cond b (units_of share.1) (pos 0)) + turnover symbol rows
      by true = refl
      by false = refl

  pub rowed_turnover : (ts : List Taken) → turnover symbol (rowed_all ts) ≡ turnover_in symbol ts
  rowed_turnover [] = refl
  rowed_turnover (t ∷ ts) = amount_turned t.account t.day t.amount (rowed_all ts) ∙ ap (λ n. unsigned_abs (share_in symbol t.amount) + n) (rowed_turnover ts)

  amount_places : (own : List ℕ) (day : ℕ) (o : Option Shared) (rows : List Row) → places_of symbol (rowed own day o ++ rows) ≡ max (places_at symbol o) (places_of symbol rows)
  amount_places own day None rows = omega arith
  amount_places own day (Some share) rows = refl

  pub rowed_places : (ts : List Taken) → places_of symbol (rowed_all ts) ≡ places_in symbol ts
  rowed_places [] = refl
  rowed_places (t ∷ ts) = amount_places t.account t.day t.amount (rowed_all ts) ∙ ap (λ n. max (places_at symbol t.amount) n) (rowed_places ts)

pub rowed_fit : (ts : List Taken) → bounds.TurnoverFits ts → TurnoverFits (rowed_all ts)
rowed_fit ts fits = λ symbol.
    subst (λ n. n < 2 ^ 127 * 10 ^ (36 - places_of symbol (rowed_all ts))) (sym (rowed_turnover symbol ts))
    (subst (λ n. turnover_in symbol ts < 2 ^ 127 * 10 ^ (36 - n)) (sym (rowed_places symbol ts)) (fits symbol))
