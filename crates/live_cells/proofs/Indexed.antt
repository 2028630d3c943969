-- The sum before a day is that of the rows of earlier days.
use Rattle.std.proofs.Common.{◌≡◌, ℕ, ℤ, pos, ◌+ℤ◌, Bool, cond, ltb, List, [], ◌∷◌, filter, refl, sym, ap, ◌∙◌, arith}
use Rattle.std.proofs.lemmas.Int.{ints}
use Rattle.hl_time.specs.declared.day.Day.{Day}
use Rattle.book.specs.Sums.{sum_of}
use Rattle.book.specs.SumsBefore.{start_of, sum_before}
use Rattle.book.specs.declared.transaction.Txn.{Txn}
use Rattle.live_index.specs.Rows as rows
use Rattle.live_index.specs.Standing.{standing}
use Rattle.live_index.specs.declared.row.Row.{Row}
use Rattle.live_index.proofs.StandingLaws.{before-standing}
use Rattle.placed_sums.specs.Numbers.{earlier_on, numbers_on}
use Rattle.placed_sums.specs.Own.{own_under}
use Rattle.placed_sums.specs.Rows.{Tell, rows_of}
use Rattle.placed_sums.proofs.Telling.{sum_parts}
use Rattle.live_cells.proofs.Places.{never_below}

none_lower : (ns : List ℕ) → filter (λ n. ltb n 0) ns ≡ []
none_lower [] = refl
none_lower (n ∷ ns) =
    ap (λ (b : Bool). cond b (n ∷ filter (λ n. ltb n 0) ns) (filter (λ n. ltb n 0) ns)) (never_below n) ∙ none_lower ns

none_more : (x y : ℤ) → y ≡ pos 0 → x +ℤ y ≡ x
none_more x y h = omega (arith, ints, h)

-- none of the day itself comes before it
none_earlier : (book : List Txn) (account symbol : List ℕ) (below : Bool) (day : ℕ) → sum_of symbol (own_under book account below day (earlier_on day 0 book)) ≡ pos 0
none_earlier book account symbol below day = ap (λ (ns : List ℕ). sum_of symbol (own_under book account below day ns)) (none_lower (numbers_on day book))

rows_before : (book : List Txn) (account symbol : List ℕ) (below : Bool) (end : Day) → sum_before book account symbol below (start_of end) ≡ rows.sum_before (rows_of book) account symbol below end.0
rows_before book account symbol below end =
    sum_parts book account symbol below end.0 0
    ∙ none_more (rows.sum_before (rows_of book) account symbol below end.0) (sum_of symbol (own_under book account below end.0 (earlier_on end.0 0 book))) (none_earlier book account symbol below end.0)

-- what an index answers up to a day
pub index_tells : (kept : List Row) (book : List Txn) (account symbol : List ℕ) (below : Bool) (end : Day) (x : ℤ) → Tell kept book
    → x ≡ rows.sum_before (standing kept) account symbol below end.0 → x ≡ sum_before book account symbol below (start_of end)
index_tells kept book account symbol below end x told is =
    is ∙ before-standing kept account symbol below end.0 ∙ told account symbol below end.0 ∙ sym (rows_before book account symbol below end)
