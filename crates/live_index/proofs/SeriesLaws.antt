-- Rows in an order, and the sums of a series.
use Rattle.std.proofs.Common.{Bor, ◌≡◌, ℕ, ℤ, zero, suc, pos, negsuc, ◌+◌, ◌-◌, ◌<◌, ◌≤◌, ◌+ℤ◌, ◌-ℤ◌, nat_lt, nat_le, ◌==◌, Bool, true, false, not, cond, ◌&&◌, List, [], ◌∷◌, ◌++◌, map, filter, length, take, drop, get_or, refl, sym, ap, subst, ◌∙◌, append_assoc, arith}
use Rattle.std.proofs.lemmas.Bool.Decides.{nat_tests}
use Rattle.std.proofs.lemmas.Int.{ints, int_wrap-add_left}
use Rattle.std.proofs.lemmas.List.{append-nil, map-append, take_more, drop_more, drop_all, take-append-drop, get_or-map}
use Rattle.std.proofs.lemmas.List.Elements.{All-from_recursion, recursion_from_All}
use Rattle.std.proofs.lemmas.List.Sorted.{IsPermutation-map, IsPermutation-sym, All-permutation, sum_by-IsPermutation}
use Rattle.std.proofs.lemmas.List.Sums.{sum_by-cons}
use Rattle.std.proofs.lemmas.Slice.Eq.{bytes_eq-Decides}
use Rattle.std.specs.Bool.{OnTrue, OnFalse}
use Rattle.std.specs.Int.{int_wrap, w128}
use Rattle.std.specs.List.{AllByRecursion, sum_by as nat_sum}
use Rattle.std.specs.List.Sorted.{IsPermutation}
use Rattle.std.specs.Str.{bytes_eq}
use Rattle.hl_time.specs.declared.day.Day.{Day}
use Rattle.book.specs.SumsBefore.{is_of}
use Rattle.live_index.specs.declared.row.Row.{Row}
use Rattle.live_index.specs.declared.runs.Run.{Run}
use Rattle.live_index.specs.Rows.{sum_by}
use Rattle.live_index.specs.Runs.{Alike, IsRising, EachChanges, AreRuns, sum_from, before, changed, raise}
use Rattle.live_index.specs.Cells.{Key, Cell, counts_for, is_part, runs_in, mantissas_in, AreOfRows, HasAdded, AreJoined}
use Rattle.live_index.specs.Kept.{mantissas_before, AreSums}
use Rattle.live_index.specs.Series.{goes_on, GoesOnAt, IsSeries, ends_day, mantissas_until, AreDaysOf}
use Rattle.live_index.proofs.Above.{and-left, and-right, eq-of, eq-true}
use Rattle.live_index.proofs.CellLaws.{none-plus}
use Rattle.live_index.proofs.KeptLaws.{sums-both}
use Rattle.live_index.proofs.RunLaws.{lt-false, ge-of, changed-law, changed-rising, changed-changes}
use Rattle.live_index.proofs.TogetherLaws.{rising-from, changed-last, zero-wrap}
use Rattle.live_index.proofs.TreeLaws.{twice}

-- ---- rows that are lent

abbrev pub lent : List (Bor Row) → List Row
lent rows = map (λ (r : Bor Row). r.now) rows

pub lent-more : (old now : List (Bor Row)) (r : Bor Row) (rows : List Row) (i : ℕ) → i < length rows → r.now ≡ get_or rows i r.now → now ≡ old ++ r ∷ [] → map (λ (r : Bor Row). r.now) old ≡ take i rows → map (λ (r : Bor Row). r.now) now ≡ take (i + 1) rows
lent-more old now r rows i lt is put so_far =
    ap lent put
    ∙ map-append (λ (r : Bor Row). r.now) old (r ∷ [])
    ∙ (λ j. so_far j ++ is j ∷ [])
    ∙ sym (take_more rows i r.now lt)

pub lent-parts : (rows front back : List (Bor Row)) (i : ℕ) → front ≡ take i rows → back ≡ drop i rows → lent front ++ lent back ≡ lent rows
lent-parts rows front back i e g =
    sym (map-append (λ (r : Bor Row). r.now) front back) ∙ ap lent ((λ j. e j ++ g j) ∙ take-append-drop i rows)

pub lent-first : (rows : List (Bor Row)) (r : Bor Row) → 0 < length rows → r ≡ get_or rows 0 r → r.now ≡ get_or (lent rows) 0 r.now
lent-first [] r some e = absurd (omega arith)
lent-first (first ∷ rows) r some e = ap (λ (b : Bor Row). b.now) e

pub lent-at : (rows : List (Bor Row)) (i : ℕ) (r : Bor Row) (d : Row) → i < length rows → r ≡ get_or rows i r → get_or (lent rows) i d ≡ r.now
lent-at rows i r d lt e = get_or-map (λ (r : Bor Row). r.now) rows i r d lt ∙ ap (λ (b : Bor Row). b.now) (sym e)

-- ---- places at which rows go on

-- what a test on two neighbours tells of their place
pub told-at : (rows : List (Bor Row)) (at : ℕ) (first second : Bor Row) (told : Bool) → 0 < at → at < length rows → first ≡ get_or rows (at - 1) first → second ≡ get_or rows at second → told ≡ goes_on first.now second.now → OnFalse (not told) (GoesOnAt (lent rows) at)
told-at rows at first second told some lt e g is =
    let below : at - 1 < length rows = omega arith in
    elim told as (λ t. t ≡ goes_on first.now second.now → OnFalse (not t) (GoesOnAt (lent rows) at)) [
      | true ↦ λ yes. λ d _ _. (λ i. goes_on (lent-at rows (at - 1) first d below e i) (lent-at rows at second d lt g i)) ∙ sym yes
      | false ↦ λ no. tt
    ] is

pub on-true : (b : Bool) (P : Type 0) → P → OnTrue b P
on-true true P h = h
on-true false P h = tt

-- the last row of a list, and one with another behind it
pub ends-last : (rows : List (Bor Row)) (at : ℕ) → at + 1 ≡ length rows → true ≡ ends_day (lent (drop at rows))
ends-last [] at e = absurd (omega (arith, e))
ends-last (row ∷ []) zero e = refl
ends-last (row ∷ next ∷ rows) zero e = absurd (omega (arith, e))
ends-last (row ∷ rows) (suc at) e = ends-last rows at (omega (arith, e))

pub ends-next : (rows : List (Bor Row)) (at : ℕ) (row next : Bor Row) → at + 1 < length rows → row ≡ get_or rows at row → next ≡ get_or rows (at + 1) next → not (row.now.day.0 == next.now.day.0) ≡ ends_day (lent (drop at rows))
ends-next rows at row next lt e g =
    sym (ap (λ (t : List (Bor Row)). ends_day (lent t)) (drop_more rows at row (omega arith))
    ∙ ap (λ (t : List (Bor Row)). ends_day (lent (get_or rows at row ∷ t))) (drop_more rows (at + 1) next lt)
    ∙ (λ i. not ((sym e i).now.day.0 == (sym g i).now.day.0)))

-- ---- rows of a series

record IsLike (first row : Row) : Type 0 where
  account : row.account ≡ first.account
  symbol : row.symbol ≡ first.symbol
  places : row.value.places ≡ first.value.places

record Follows (first second : Row) : Type 0 where
  like : IsLike first second
  later : first.day.0 ≤ second.day.0

le-of : (a b : ℕ) → nat_le a b ≡ true → a ≤ b
le-of a b h = grind (arith, nat_tests)

follows : (first second : Row) → goes_on first second ≡ true → Follows first second
follows first second h =
    let names = and-left _ (bytes_eq first.account second.account) h in
    let symbols = and-left _ (bytes_eq first.symbol second.symbol) names in
    record {
      like = record {
        account = sym ((bytes_eq-Decides first.account second.account).0 (and-right _ (bytes_eq first.account second.account) h));
        symbol = sym ((bytes_eq-Decides first.symbol second.symbol).0 (and-right _ (bytes_eq first.symbol second.symbol) names));
        places = sym (eq-of first.value.places second.value.places (and-left _ (nat_le first.day.0 second.day.0) symbols));
      };
      later = le-of first.day.0 second.day.0 (and-right (first.value.places == second.value.places) (nat_le first.day.0 second.day.0) symbols);
    }

like-on : (first row next : Row) → IsLike first row → IsLike row next → IsLike first next
like-on first row next h k = record { account = k.account ∙ h.account; symbol = k.symbol ∙ h.symbol; places = k.places ∙ h.places }

first-two : (row next : Row) (rows : List Row) → IsSeries (row ∷ next ∷ rows) → Follows row next
first-two row next rows h = follows row next (h 1 row (omega arith) (omega arith))

behind : (row : Row) (rows : List Row) → IsSeries (row ∷ rows) → IsSeries rows
behind row rows h zero d some inside = absurd (omega (arith, some))
behind row rows h (suc k) d some inside =
    let there : goes_on (get_or (row ∷ rows) (suc (suc k) - 1) d) (get_or rows (suc k) d) ≡ true = h (suc (suc k)) d (omega arith) (omega (arith, inside)) in
    let n : suc (suc k) - 1 ≡ suc k = omega arith in
    let m : suc k - 1 ≡ k = omega arith in
    (λ i. goes_on (get_or rows (m i) d) (get_or rows (suc k) d)) ∙ (λ i. goes_on (get_or (row ∷ rows) (sym n i) d) (get_or rows (suc k) d)) ∙ there

likes-behind : (row : Row) (rows : List Row) (first : Row) → IsSeries (row ∷ rows) → IsLike first row → AllByRecursion (IsLike first) rows
likes-behind row [] first h l = tt
likes-behind row (next ∷ rows) first h l =
    let one = like-on first row next l (first-two row next rows h).like in
    (one, likes-behind next rows first (behind row (next ∷ rows) h) one)

-- all rows have the account, the symbol and the number of decimals of the first
likes : (rows : List Row) (row : Row) → IsSeries rows → row ≡ get_or rows 0 row → AllByRecursion (IsLike row) rows
likes [] row h e = tt
likes (first ∷ rows) row h e =
    let one : IsLike row first = record { account = ap (λ (r : Row). r.account) (sym e); symbol = ap (λ (r : Row). r.symbol) (sym e); places = ap (λ (r : Row). r.value.places) (sym e) } in
    (one, likes-behind first rows row h one)

-- the days don't fall, from the given one on
abbrev Rises : ℕ → List Row → Type 0
Rises least [] = Unit {0}
Rises least (row ∷ rows) = (least ≤ row.day.0) × Rises row.day.0 rows

rises-behind : (row : Row) (rows : List Row) → IsSeries (row ∷ rows) → Rises row.day.0 rows
rises-behind row [] h = tt
rises-behind row (next ∷ rows) h = ((first-two row next rows h).later, rises-behind next rows (behind row (next ∷ rows) h))

rises : (rows : List Row) → IsSeries rows → Rises 0 rows
rises [] h = tt
rises (row ∷ rows) h = (omega arith, rises-behind row rows h)

-- ---- one pass over the rows of a series

-- with the last row of a day the sum up to it
abbrev pub by_day : Bool → Day → ℤ → ℤ → (ℤ → List Run) → List Run
by_day true day earlier sum rest = changed earlier (record { day = day; sum = sum }) (rest sum)
by_day false day earlier sum rest = rest earlier

abbrev pub days_from : ℤ → ℤ → List Row → List Run
days_from earlier sum [] = []
days_from earlier sum (row ∷ rows) =
    by_day (ends_day (row ∷ rows)) row.day earlier (int_wrap w128 (sum +ℤ row.value.mantissa)) (λ last. days_from last (int_wrap w128 (sum +ℤ row.value.mantissa)) rows)

-- a row more of the pass
pub day-more : (ends : Bool) (day : Day) (earlier sum last : ℤ) (rest : ℤ → List Run) (done new all : List Run) → last ≡ cond ends sum earlier → new ≡ done ++ cond ends (changed earlier (record { day = day; sum = sum }) []) [] → done ++ by_day ends day earlier sum rest ≡ all → new ++ rest last ≡ all
day-more true day earlier sum last rest done new all is put so_far =
    (λ i. put i ++ rest (is i))
    ∙ append_assoc done (changed earlier (record { day = day; sum = sum }) []) (rest sum)
    ∙ ap (λ (t : List Run). done ++ t) (changed-last earlier (record { day = day; sum = sum }) (rest sum))
    ∙ so_far
day-more false day earlier sum last rest done new all is put so_far =
    (λ i. (put ∙ append-nil done) i ++ rest (is i)) ∙ so_far

pub row-more : (rows : List (Bor Row)) (at : ℕ) (row : Bor Row) (ends : Bool) (earlier sum next last was shown : ℤ) (done new all : List Run) → at < length rows → row ≡ get_or rows at row → ends ≡ ends_day (lent (drop at rows)) → next ≡ int_wrap w128 (sum +ℤ row.now.value.mantissa) → was ≡ earlier → shown ≡ next → last ≡ cond ends shown was → new ≡ done ++ cond ends (changed was (record { day = row.now.day; sum = shown }) []) [] → done ++ days_from earlier sum (lent (drop at rows)) ≡ all → new ++ days_from last next (lent (drop (at + 1) rows)) ≡ all
row-more rows at row ends earlier sum next last was shown done new all lt e told summed before now is put so_far =
    let left : drop at rows ≡ row ∷ drop (at + 1) rows = drop_more rows at row lt ∙ ap (λ (r : Bor Row). r ∷ drop (at + 1) rows) (sym e) in
    let ends_is : ends_day (lent (row ∷ drop (at + 1) rows)) ≡ ends = ap (λ (t : List (Bor Row)). ends_day (lent t)) (sym left) ∙ sym told in
    day-more ends row.now.day earlier next last (λ l. days_from l next (lent (drop (at + 1) rows))) done new all
    (is ∙ (λ i. cond ends (now i) (before i)))
    (put ∙ (λ i. done ++ cond ends (changed (before i) (record { day = row.now.day; sum = now i }) []) []))
    (ap (λ (t : List Run). done ++ t)
    ((λ i. by_day (sym ends_is i) row.now.day earlier (summed i) (λ l. days_from l (summed i) (lent (drop (at + 1) rows))))
    ∙ ap (λ (t : List (Bor Row)). days_from earlier sum (lent t)) (sym left))
    ∙ so_far)

-- no row is left
pub all-done : (rows : List (Bor Row)) (at : ℕ) (earlier sum : ℤ) (done all : List Run) → length rows ≤ at → done ++ days_from earlier sum (lent (drop at rows)) ≡ all → done ≡ all
all-done rows at earlier sum done all le so_far =
    sym (append-nil done)
    ∙ ap (λ (t : List (Bor Row)). done ++ days_from earlier sum (lent t)) (sym (drop_all at rows le))
    ∙ so_far

days-rising : (least : ℕ) (earlier sum : ℤ) (rows : List Row) → Rises least rows → IsRising least (days_from earlier sum rows)
days-rising least earlier sum [] h = tt
days-rising least earlier sum (row ∷ []) h = changed-rising least earlier (record { day = row.day; sum = int_wrap w128 (sum +ℤ row.value.mantissa) }) [] h.0 tt
days-rising least earlier sum (row ∷ next ∷ rows) h =
    let up : ℤ = int_wrap w128 (sum +ℤ row.value.mantissa) in
    elim (row.day.0 == next.day.0) as (λ b. (row.day.0 == next.day.0) ≡ b → IsRising least (by_day (not b) row.day earlier up (λ last. days_from last up (next ∷ rows)))) [
      | true ↦ λ e. rising-from least row.day.0 _ h.0 (days-rising row.day.0 earlier up (next ∷ rows) h.1)
      | false ↦ λ e. changed-rising least earlier (record { day = row.day; sum = up }) (days_from up up (next ∷ rows)) h.0 (days-rising (row.day.0 + 1) up up (next ∷ rows) (above row.day.0 next.day.0 e h.1.0, h.1.1))
    ] refl
  where
    above : (a b : ℕ) → (a == b) ≡ false → a ≤ b → a + 1 ≤ b
    above a b e le = grind (arith, nat_tests)

days-change : (earlier sum : ℤ) (rows : List Row) → EachChanges earlier (days_from earlier sum rows)
days-change earlier sum [] = tt
days-change earlier sum (row ∷ []) = changed-changes earlier (record { day = row.day; sum = int_wrap w128 (sum +ℤ row.value.mantissa) }) [] tt
days-change earlier sum (row ∷ next ∷ rows) =
    let up : ℤ = int_wrap w128 (sum +ℤ row.value.mantissa) in
    elim (row.day.0 == next.day.0) as (λ b. EachChanges earlier (by_day (not b) row.day earlier up (λ last. days_from last up (next ∷ rows)))) [
      | true ↦ days-change earlier up (next ∷ rows)
      | false ↦ changed-changes earlier (record { day = row.day; sum = up }) (days_from up up (next ∷ rows)) (days-change up up (next ∷ rows))
    ]

pub days-kept : (rows : List Row) → IsSeries rows → AreRuns (days_from (pos 0) (pos 0) rows)
days-kept rows h = record { rising = days-rising 0 (pos 0) (pos 0) rows (rises rows h); changes = days-change (pos 0) (pos 0) rows }

-- no row comes before the first day
until-none : (least end : ℕ) (rows : List Row) → Rises least rows → end ≤ least → mantissas_until rows end ≡ pos 0
until-none least end [] h le = refl
until-none least end (row ∷ rows) h le =
    let later : end ≤ row.day.0 = omega (arith, h.0, le) in
    ap (λ (b : Bool). sum_by (λ r. r.value.mantissa) (cond b (row ∷ filter (λ (r : Row). nat_lt r.day.0 end) rows) (filter (λ (r : Row). nat_lt r.day.0 end) rows))) (lt-false row.day.0 end later)
    ∙ until-none row.day.0 end rows h.1 later

-- the sum before a day of what a pass over rows makes
abbrev told_days : ℤ → ℤ → List Row → ℕ → ℤ
told_days earlier sum [] end = earlier
told_days earlier sum (row ∷ rows) end = cond (nat_lt row.day.0 end) (int_wrap w128 (sum +ℤ mantissas_until (row ∷ rows) end)) earlier

up-more : (sum m more : ℤ) → int_wrap w128 (int_wrap w128 (sum +ℤ m) +ℤ more) ≡ int_wrap w128 (sum +ℤ (m +ℤ more))
up-more sum m more = int_wrap-add_left w128 (sum +ℤ m) more ∙ ap (int_wrap w128) (aside sum m more)
  where
    aside : (a b c : ℤ) → (a +ℤ b) +ℤ c ≡ a +ℤ (b +ℤ c)
    aside a b c = omega (arith, ints)

up-none : (sum m more : ℤ) → more ≡ pos 0 → int_wrap w128 (sum +ℤ m) ≡ int_wrap w128 (sum +ℤ (m +ℤ more))
up-none sum m more e = ap (int_wrap w128) (ap (λ (z : ℤ). sum +ℤ z) (nothing m ∙ ap (λ (z : ℤ). m +ℤ z) (sym e)))
  where
    nothing : (a : ℤ) → a ≡ a +ℤ pos 0
    nothing a = omega (arith, ints)

-- what is told from the next row on, where this one comes before the day
next_step : (sum m more : ℤ) (next end : ℕ) → (end ≤ next → more ≡ pos 0) → cond (nat_lt next end) (int_wrap w128 (int_wrap w128 (sum +ℤ m) +ℤ more)) (int_wrap w128 (sum +ℤ m)) ≡ int_wrap w128 (sum +ℤ (m +ℤ more))
next_step sum m more next end none =
    elim (nat_lt next end) as (λ b. nat_lt next end ≡ b → cond b (int_wrap w128 (int_wrap w128 (sum +ℤ m) +ℤ more)) (int_wrap w128 (sum +ℤ m)) ≡ int_wrap w128 (sum +ℤ (m +ℤ more))) [
      | true ↦ λ e. up-more sum m more
      | false ↦ λ e. up-none sum m more (none (ge-of next end e))
    ] refl

days-tell : (least : ℕ) (earlier sum : ℤ) (rows : List Row) (end : ℕ) → Rises least rows → sum_from earlier (days_from earlier sum rows) end ≡ told_days earlier sum rows end
days-tell least earlier sum [] end h = refl
days-tell least earlier sum (row ∷ []) end h =
    changed-law earlier (record { day = row.day; sum = int_wrap w128 (sum +ℤ row.value.mantissa) }) [] end tt
    ∙ elim (nat_lt row.day.0 end) as (λ t. cond t (int_wrap w128 (sum +ℤ row.value.mantissa)) earlier ≡ cond t (int_wrap w128 (sum +ℤ sum_by (λ r. r.value.mantissa) (cond t (row ∷ []) []))) earlier) [
      | true ↦ up-none sum row.value.mantissa (pos 0) refl
      | false ↦ refl
    ]
days-tell least earlier sum (row ∷ next ∷ rows) end h =
    let up : ℤ = int_wrap w128 (sum +ℤ row.value.mantissa) in
    let more : ℤ = mantissas_until (next ∷ rows) end in
    let none : end ≤ next.day.0 → mantissas_until (next ∷ rows) end ≡ pos 0 = λ le. until-none next.day.0 end (next ∷ rows) (omega arith, h.1.1) le in
    elim (row.day.0 == next.day.0) as (λ b. (row.day.0 == next.day.0) ≡ b → sum_from earlier (by_day (not b) row.day earlier up (λ last. days_from last up (next ∷ rows))) end ≡ told_days earlier sum (row ∷ next ∷ rows) end) [
      | true ↦ λ e.
          days-tell row.day.0 earlier up (next ∷ rows) end h.1
          ∙ ap (λ (n : ℕ). cond (nat_lt n end) (int_wrap w128 (up +ℤ more)) earlier) (sym (eq-of row.day.0 next.day.0 e))
          ∙ same_day (nat_lt row.day.0 end)
      | false ↦ λ e.
          changed-law earlier (record { day = row.day; sum = up }) (days_from up up (next ∷ rows)) end (days-rising (row.day.0 + 1) up up (next ∷ rows) (above row.day.0 next.day.0 e h.1.0, h.1.1))
          ∙ ap (λ (z : ℤ). cond (nat_lt row.day.0 end) z earlier) (days-tell (row.day.0 + 1) up up (next ∷ rows) end (above row.day.0 next.day.0 e h.1.0, h.1.1) ∙ next_step sum row.value.mantissa more next.day.0 end none)
          ∙ other_day (nat_lt row.day.0 end)
    ] refl
  where
    above : (a b : ℕ) → (a == b) ≡ false → a ≤ b → a + 1 ≤ b
    above a b e le = grind (arith, nat_tests)

    same_day : (t : Bool) → cond t (int_wrap w128 (int_wrap w128 (sum +ℤ row.value.mantissa) +ℤ mantissas_until (next ∷ rows) end)) earlier ≡ cond t (int_wrap w128 (sum +ℤ sum_by (λ r. r.value.mantissa) (cond t (row ∷ filter (λ (r : Row). nat_lt r.day.0 end) (next ∷ rows)) (filter (λ (r : Row). nat_lt r.day.0 end) (next ∷ rows))))) earlier
    same_day true = up-more sum row.value.mantissa (mantissas_until (next ∷ rows) end)
    same_day false = refl

    other_day : (t : Bool) → cond t (int_wrap w128 (sum +ℤ (row.value.mantissa +ℤ mantissas_until (next ∷ rows) end))) earlier ≡ cond t (int_wrap w128 (sum +ℤ sum_by (λ r. r.value.mantissa) (cond t (row ∷ filter (λ (r : Row). nat_lt r.day.0 end) (next ∷ rows)) (filter (λ (r : Row). nat_lt r.day.0 end) (next ∷ rows))))) earlier
    other_day true = refl
    other_day false = refl

pub days-are : (rows : List Row) → IsSeries rows → AreDaysOf rows (days_from (pos 0) (pos 0) rows)
days-are [] h end = sym zero-wrap
days-are (row ∷ rows) h end =
    days-tell 0 (pos 0) (pos 0) (row ∷ rows) end (rises (row ∷ rows) h)
    ∙ elim (nat_lt row.day.0 end) as (λ t. nat_lt row.day.0 end ≡ t → cond t (int_wrap w128 (pos 0 +ℤ mantissas_until (row ∷ rows) end)) (pos 0) ≡ int_wrap w128 (mantissas_until (row ∷ rows) end)) [
      | true ↦ λ e. ap (int_wrap w128) (sym (none-plus (mantissas_until (row ∷ rows) end)))
      | false ↦ λ e. sym zero-wrap ∙ ap (int_wrap w128) (sym (until-none row.day.0 end (row ∷ rows) (omega arith, rises-behind row rows h) (ge-of row.day.0 end e)))
    ] refl

-- ---- the sums of a series by number of decimals

along : (row : Row) (one two : List Row) (t : Bool) → sum_by (λ r. r.value.mantissa) one ≡ sum_by (λ r. r.value.mantissa) two → sum_by (λ r. r.value.mantissa) (cond t (row ∷ one) one) ≡ sum_by (λ r. r.value.mantissa) (cond t (row ∷ two) two)
along row one two true e = ap (λ (z : ℤ). row.value.mantissa +ℤ z) e
along row one two false e = e

in-all : (first : Row) (rows : List Row) (places end : ℕ) → AllByRecursion (IsLike first) rows → first.value.places ≡ places → mantissas_until rows end ≡ mantissas_in rows places end
in-all first [] places end h e = refl
in-all first (row ∷ rows) places end h e =
    let rest = filter (λ (r : Row). is_part r places end) rows in
    along row (filter (λ (r : Row). nat_lt r.day.0 end) rows) (filter (λ (r : Row). is_part r places end) rows) (nat_lt row.day.0 end) (in-all first rows places end h.1 e)
    ∙ ap (λ (b : Bool). sum_by (λ r. r.value.mantissa) (cond (b && nat_lt row.day.0 end) (row ∷ rest) rest)) (sym (eq-true row.value.places places (h.0.places ∙ e)))

in-none : (first : Row) (rows : List Row) (places end : ℕ) → AllByRecursion (IsLike first) rows → (first.value.places == places) ≡ false → mantissas_in rows places end ≡ pos 0
in-none first [] places end h e = refl
in-none first (row ∷ rows) places end h e =
    let rest = filter (λ (r : Row). is_part r places end) rows in
    ap (λ (b : Bool). sum_by (λ r. r.value.mantissa) (cond (b && nat_lt row.day.0 end) (row ∷ rest) rest)) (ap (λ (n : ℕ). n == places) h.0.places ∙ e)
    ∙ in-none first rows places end h.1 e

-- the days of a series, modulo 2^128, at its number of decimals, and none elsewhere
pub of-series : (rows : List Row) (row : Row) (runs at : List Run) (places : ℕ) → IsSeries rows → row ≡ get_or rows 0 row → AreDaysOf rows runs → at ≡ cond (row.value.places == places) runs [] → (end : ℕ) → Alike (before at end) (mantissas_in rows places end)
of-series rows row runs at places h e days is end =
    ap (λ (t : List Run). int_wrap w128 (before t end)) is
    ∙ elim (row.value.places == places) as (λ b. (row.value.places == places) ≡ b → Alike (before (cond b runs []) end) (mantissas_in rows places end)) [
      | true ↦ λ t. ap (int_wrap w128) (days end) ∙ twice (mantissas_until rows end) ∙ ap (int_wrap w128) (in-all row rows places end (likes rows row h e) (eq-of row.value.places places t))
      | false ↦ λ f. ap (int_wrap w128) (sym (in-none row rows places end (likes rows row h e) f))
    ] refl

-- ---- the cells of a series

counted : (rows : List Row) (key : Key) (places end : ℕ) → AllByRecursion (λ (r : Row). counts_for key r ≡ true) rows → mantissas_before rows key places end ≡ mantissas_in rows places end
counted [] key places end h = refl
counted (row ∷ rows) key places end h =
    let rest = filter (λ (r : Row). counts_for key r && is_part r places end) rows in
    ap (λ (b : Bool). sum_by (λ r. r.value.mantissa) (cond (b && is_part row places end) (row ∷ rest) rest)) h.0
    ∙ along row (filter (λ (r : Row). counts_for key r && is_part r places end) rows) (filter (λ (r : Row). is_part r places end) rows) (is_part row places end) (counted rows key places end h.1)

uncounted : (rows : List Row) (key : Key) (places end : ℕ) → AllByRecursion (λ (r : Row). counts_for key r ≡ false) rows → mantissas_before rows key places end ≡ pos 0
uncounted [] key places end h = refl
uncounted (row ∷ rows) key places end h =
    let rest = filter (λ (r : Row). counts_for key r && is_part r places end) rows in
    ap (λ (b : Bool). sum_by (λ r. r.value.mantissa) (cond (b && is_part row places end) (row ∷ rest) rest)) h.0
    ∙ uncounted rows key places end h.1

-- rows count for a key as the first does
count-alike : (first : Row) (rows : List Row) (key : Key) (b : Bool) → AllByRecursion (IsLike first) rows → counts_for key first ≡ b → AllByRecursion (λ (r : Row). counts_for key r ≡ b) rows
count-alike first [] key b h e = tt
count-alike first (row ∷ rows) key b h e =
    ((λ i. bytes_eq (h.0.symbol i) key.symbol && is_of key.account key.below (h.0.account i)) ∙ e, count-alike first rows key b h.1 e)

few-alike : (first : Row) (rows : List Row) → AllByRecursion (IsLike first) rows → first.value.places ≤ 36 → AllByRecursion (λ (r : Row). r.value.places ≤ 36) rows
few-alike first [] h few = tt
few-alike first (row ∷ rows) h few = (subst (λ (n : ℕ). n ≤ 36) (sym h.0.places) few, few-alike first rows h.1 few)

pub sums-series : (rows : List Row) (row : Row) (sums : List (List Run)) (cells : List Cell) → IsSeries rows → row ≡ get_or rows 0 row → AreOfRows rows sums → row.value.places ≤ 36 → HasAdded (λ key. counts_for key row) sums [] cells → AreSums rows cells
sums-series rows row sums cells h e of_rows few added = record {
  cells = added.cells;
  sums = λ key places end.
      added.gained key places end
      ∙ elim (counts_for key row) as (λ b. counts_for key row ≡ b → int_wrap w128 (raise b (before (runs_in sums places) end) (pos 0)) ≡ int_wrap w128 (mantissas_before rows key places end)) [
        | true ↦ λ t.
            ap (int_wrap w128) (sym (none-plus (before (runs_in sums places) end)))
            ∙ of_rows places end
            ∙ ap (int_wrap w128) (sym (counted rows key places end (count-alike row rows key true (likes rows row h e) t)))
        | false ↦ λ f. ap (int_wrap w128) (sym (uncounted rows key places end (count-alike row rows key false (likes rows row h e) f)))
      ] refl;
  few = few-alike row rows (likes rows row h e) few;
}

-- ---- rows in parts, and in another order

pub sums-empty : (rows : List (Bor Row)) (cells : List Cell) → length rows ≡ 0 → cells ≡ [] → AreSums (lent rows) cells
sums-empty [] cells e none = subst (AreSums []) (sym none) (record { cells = record { ordered = tt; full = tt }; sums = λ key places end. refl; few = tt })
sums-empty (row ∷ rows) cells e none = absurd (omega (arith, e))

pub sums-of-parts : (rows front back : List (Bor Row)) (i : ℕ) (first second both : List Cell) → front ≡ take i rows → back ≡ drop i rows → AreSums (lent front) first → AreSums (lent back) second → AreJoined first second both → AreSums (lent rows) both
sums-of-parts rows front back i first second both e g h k joined =
    subst (λ (t : List Row). AreSums t both) (lent-parts rows front back i e g) (sums-both (lent front) (lent back) first second both h k joined)

gain : ℤ → ℕ
gain (pos n) = n
gain (negsuc n) = 0

loss : ℤ → ℕ
loss (pos n) = 0
loss (negsuc n) = suc n

gain-and-loss : (z : ℤ) → z ≡ pos (gain z) -ℤ pos (loss z)
unfolding gain loss
gain-and-loss (pos n) = omega (arith, ints)
gain-and-loss (negsuc n) = omega (arith, ints)

module _ (test : Row → Bool) where
  gains : Row → ℕ
  gains row = cond (test row) (gain row.value.mantissa) 0

  losses : Row → ℕ
  losses row = cond (test row) (loss row.value.mantissa) 0

  sum_step : (row : Row) (rest : List Row) (u d : ℕ) (t : Bool) → sum_by (λ r. r.value.mantissa) rest ≡ pos u -ℤ pos d → sum_by (λ r. r.value.mantissa) (cond t (row ∷ rest) rest) ≡ pos (cond t (gain row.value.mantissa) 0 + u) -ℤ pos (cond t (loss row.value.mantissa) 0 + d)
  sum_step row rest u d true e = omega (arith, ints, gain-and-loss row.value.mantissa)
  sum_step row rest u d false e = omega (arith, ints)

  sum-parts : (rows : List Row) → sum_by (λ r. r.value.mantissa) (filter test rows) ≡ pos (nat_sum gains rows) -ℤ pos (nat_sum losses rows)
  unfolding gains losses
  sum-parts [] = omega (arith, ints)
  sum-parts (row ∷ rows) =
      sum_step row (filter test rows) (nat_sum gains rows) (nat_sum losses rows) (test row) (sum-parts rows)
      ∙ (λ i. pos (sym (sum_by-cons gains row rows) i) -ℤ pos (sym (sum_by-cons losses row rows) i))

  -- a sum over rows in another order
  sum-permuted : (rows order : List Row) → IsPermutation rows order → sum_by (λ r. r.value.mantissa) (filter test order) ≡ sum_by (λ r. r.value.mantissa) (filter test rows)
  sum-permuted rows order p =
      sum-parts order
      ∙ (λ i. pos (sum_by-IsPermutation gains rows order p i) -ℤ pos (sum_by-IsPermutation losses rows order p i))
      ∙ sym (sum-parts rows)

pub sums-permuted : (rows order : List Row) (cells : List Cell) → IsPermutation rows order → AreSums order cells → AreSums rows cells
sums-permuted rows order cells p h = record {
  cells = h.cells;
  sums = λ key places end. h.sums key places end ∙ ap (int_wrap w128) (sum-permuted (λ r. counts_for key r && is_part r places end) rows order p);
  few = recursion_from_All (λ (r : Row). r.value.places ≤ 36) rows (All-permutation (λ (r : Row). r.value.places ≤ 36) order rows (IsPermutation-sym rows order p) (All-from_recursion (λ (r : Row). r.value.places ≤ 36) order h.few));
}

pub order-lent : (rows : List Row) (before after : List (Bor Row)) → lent before ≡ rows → IsPermutation before after → IsPermutation rows (lent after)
order-lent rows before after e p = subst (λ (t : List Row). IsPermutation t (lent after)) e (IsPermutation-map (λ (r : Bor Row). r.now) before after p)
