-- What is gathered holds the sums of its takings, as long as no symbol's amounts are too large.
use Rattle.std.proofs.Common.{◌≡◌, ℕ, ℤ, pos, ◌+◌, ◌-◌, ◌*◌, ◌^◌, ◌<◌, ◌≤◌, max, unsigned_abs, Bool, true, false, nat_le, cond, ◌||◌, List, [], ◌∷◌, ◌++◌, length, find, Option, Some, None, unwrap_or, inl, inr, refl, sym, ap, subst, ◌∙◌, arith}
use Rattle.std.specs.List.{AllByRecursion}
use Rattle.std.specs.Ordering.{nat_cmp}
use Rattle.std.specs.Cmp.Lexicographic.{slice_cmp}
use Rattle.std.specs.Option.{option_map}
use Rattle.std.specs.FinMap.Entries as entries
use Rattle.std.proofs.lemmas.Bool.{false≢true, or_parts}
use Rattle.std.proofs.lemmas.Bool.Decides.{nat_tests}
use Rattle.std.proofs.lemmas.List.{append_assoc, append-nil}
use Rattle.std.proofs.Math.Nat.{mul-le-mul_left, pow-le-pow_right}
use Rattle.hl_time.specs.declared.spans.Span.{Span}
use Rattle.hl_num.specs.Decimal.{Decimal, units_of}
use Rattle.book.specs.Accounts.{account_cmp}
use Rattle.book.specs.Entries.{held}
use Rattle.report_cells.specs.Taken.{Shared, Taken, share_in}
use Rattle.report_cells.specs.Bounds.{turnover_in, places_at, places_in, TurnoverFits}
use Rattle.report_cells.specs.Places.{place}
use Rattle.report_cells.specs.Kept.{Cell, KeptRows, HasFewPlaces, CanTake, cell_at, row_with}
use Rattle.report_cells.specs.Turned.{Turnovers, fills, is_full, turned}
use Rattle.report_cells.specs.Gathered.{Gathered, full_with, gathered_with, gathered_from, not_begun, Gathers}
use Rattle.report_cells.specs.declared.reach.Reach.{Reach}
use Rattle.report_cells.proofs.Choosing.{chosen, turnover-append, places-append}
use Rattle.report_cells.proofs.Counting.{place-within}
use Rattle.report_cells.proofs.Holding.{HoldsSum, Holds, alike, bytes_eq-itself}
use Rattle.report_cells.proofs.Standing.{HoldsRow}
use Rattle.report_cells.proofs.Gathering.{in_cell, HoldsFound, IsGathered, gathered_none, gathered_more, row_fits, next_small, next_within}
use Rattle.report_cells.proofs.Sizes.{Sized, sized_none, sized_more, started, turned-is, full-is, small_from}

-- ---- the same rows, where more decimals are allowed

wider_sum : (o : Option Decimal) (s : ℤ) (n m : ℕ) → n ≤ m → HoldsSum o s n → HoldsSum o s m
wider_sum None s n m le h = h
wider_sum (Some d) s n m le h = record { units = h.units; places = omega (arith, h.places, le); few = h.few }

module _ (most more : List ℕ → ℕ) (le : (q : List ℕ) → most q ≤ more q) where
  wider : (sums : Cell) (exact : List ℕ → ℤ) → Holds sums exact most → Holds sums exact more
  wider sums exact h = record { ordered = h.ordered; each = λ q. wider_sum (held q sums) (exact q) (most q) (more q) (le q) (h.each q) }

  wider_row : (row : List Cell) (width : ℕ) (exact : ℕ → List ℕ → ℤ) → HoldsRow row width exact most → HoldsRow row width exact more
  wider_row row width exact h = record { columns = h.columns; each = λ k lt. wider (cell_at row k) (exact k) (h.each k lt) }

  module _ (goes : Taken → Option ℕ) (width : ℕ) (done : List Taken) where
    wider_found : (o : Option (List Cell)) (account : List ℕ) → HoldsFound goes width most o account done → HoldsFound goes width more o account done
    wider_found None account h = h
    wider_found (Some row) account h = (wider_row row width (λ k q. chosen (in_cell goes account k) q done) h.0, h.1)

    wider_gathered : (rows : KeptRows) → IsGathered goes width most rows done → IsGathered goes width more rows done
    wider_gathered rows h = record { ordered = h.ordered; each = λ account. wider_found (entries.find account_cmp account rows) account (h.each account) }

-- ---- one more taking, and the bounds

more_turnover : (q : List ℕ) (done : List Taken) (t : Taken) → turnover_in q (done ++ t ∷ []) ≡ turnover_in q done + unsigned_abs (share_in q t.amount)
more_turnover q done t = turnover-append q done (t ∷ []) ∙ omega arith

more_places : (q : List ℕ) (done : List Taken) (t : Taken) → places_in q (done ++ t ∷ []) ≡ max (places_in q done) (places_at q t.amount)
more_places q done t = places-append q done (t ∷ []) ∙ omega arith

-- the bound of more decimals is no greater
bound_falls : (a b : ℕ) → a ≤ b → 2 ^ 127 * 10 ^ (36 - b) ≤ 2 ^ 127 * 10 ^ (36 - a)
bound_falls a b le =
    let ten : 0 < 10 = omega arith in
    let fewer : 36 - b ≤ 36 - a = omega (arith, le) in
    mul-le-mul_left (2 ^ 127) (pow-le-pow_right ten fewer)

-- what fits with one more taking fits without it
first_fits : (done : List Taken) (t : Taken) → TurnoverFits (done ++ t ∷ []) → TurnoverFits done
first_fits done t fits q =
    let rises : places_in q done ≤ places_in q (done ++ t ∷ []) = omega (arith, more_places q done t) in
    omega (arith, fits q, more_turnover q done t, bound_falls (places_in q done) (places_in q (done ++ t ∷ [])) rises)

none_fit : TurnoverFits []
none_fit q = omega arith

not_le : (a b : ℕ) → nat_le a b ≡ false → b < a
not_le a b h = grind (arith, nat_tests, h)

is_le : (a b : ℕ) → nat_le a b ≡ true → a ≤ b
is_le a b h = grind (arith, nat_tests, h)

module _ (kept : Turnovers) (done : List Taken) (h : Sized kept done) where
  -- whether an amount makes those of its symbol too large, told by the definition
  fills-is : (a : Shared) → a.1.places ≤ 36 → fills (Some a) kept ≡ nat_le (2 ^ 127 * 10 ^ (36 - max (places_in a.0 done) a.1.places)) (turnover_in a.0 done + unsigned_abs (units_of a.1))
  fills-is a few =
      let old = unwrap_or (entries.find (slice_cmp nat_cmp) a.0 kept) (0, 0) in
      full-is (turned old a.1) (turnover_in a.0 done + unsigned_abs (units_of a.1)) (max (places_in a.0 done) a.1.places)
      (turned-is old (turnover_in a.0 done) (places_in a.0 done) a.1 (started (entries.find (slice_cmp nat_cmp) a.0 kept) a.0 done (h.each a.0)) few)

  -- a symbol with an amount that isn't of it
  other_fits : TurnoverFits done → (q : List ℕ) → turnover_in q done + unsigned_abs (pos 0) < 2 ^ 127 * 10 ^ (36 - max (places_in q done) 0)
  other_fits fits q =
      let same : max (places_in q done) 0 ≡ places_in q done = omega arith in
      let bound : 2 ^ 127 * 10 ^ (36 - max (places_in q done) 0) ≡ 2 ^ 127 * 10 ^ (36 - places_in q done) = ap (λ p. 2 ^ 127 * 10 ^ (36 - p)) same in
      omega (arith, fits q, bound)

  -- an amount that doesn't fill its symbol fits
  amount_fits : (amount : Option Shared) → HasFewPlaces amount → TurnoverFits done → fills amount kept ≡ false → (q : List ℕ)
      → turnover_in q done + unsigned_abs (share_in q amount) < 2 ^ 127 * 10 ^ (36 - max (places_in q done) (places_at q amount))
  amount_fits None few fits room q = other_fits fits q
  amount_fits (Some a) few fits room q = elim (alike a.0 q) [
    | inl same ↦
        subst (λ (x : List ℕ). turnover_in x done + unsigned_abs (share_in x (Some a)) < 2 ^ 127 * 10 ^ (36 - max (places_in x done) (places_at x (Some a)))) same
        (subst (λ (b : Bool). turnover_in a.0 done + unsigned_abs (cond b (units_of a.1) (pos 0)) < 2 ^ 127 * 10 ^ (36 - max (places_in a.0 done) (cond b a.1.places 0))) (sym (bytes_eq-itself a.0))
        (not_le (2 ^ 127 * 10 ^ (36 - max (places_in a.0 done) a.1.places)) (turnover_in a.0 done + unsigned_abs (units_of a.1)) (sym (fills-is a few) ∙ room)))
    | inr differ ↦
        subst (λ (b : Bool). turnover_in q done + unsigned_abs (cond b (units_of a.1) (pos 0)) < 2 ^ 127 * 10 ^ (36 - max (places_in q done) (cond b a.1.places 0))) (sym differ) (other_fits fits q)
  ]

  -- all fits with a taking whose amount doesn't fill its symbol
  next_fits : (t : Taken) → HasFewPlaces t.amount → TurnoverFits done → fills t.amount kept ≡ false → TurnoverFits (done ++ t ∷ [])
  next_fits t few fits room q =
      let bound : 2 ^ 127 * 10 ^ (36 - places_in q (done ++ t ∷ [])) ≡ 2 ^ 127 * 10 ^ (36 - max (places_in q done) (places_at q t.amount)) = ap (λ p. 2 ^ 127 * 10 ^ (36 - p)) (more_places q done t) in
      omega (arith, amount_fits t.amount few fits room q, more_turnover q done t, bound)

  -- an amount that fills its symbol doesn't
  amount_over : (amount : Option Shared) → HasFewPlaces amount → fills amount kept ≡ true
      → ((q : List ℕ) → turnover_in q done + unsigned_abs (share_in q amount) < 2 ^ 127 * 10 ^ (36 - max (places_in q done) (places_at q amount))) → ⊥
  amount_over None few full fits = false≢true full
  amount_over (Some a) few full fits =
      let here : turnover_in a.0 done + unsigned_abs (units_of a.1) < 2 ^ 127 * 10 ^ (36 - max (places_in a.0 done) a.1.places) =
      subst (λ (b : Bool). turnover_in a.0 done + unsigned_abs (cond b (units_of a.1) (pos 0)) < 2 ^ 127 * 10 ^ (36 - max (places_in a.0 done) (cond b a.1.places 0))) (bytes_eq-itself a.0) (fits a.0) in
      let over = is_le (2 ^ 127 * 10 ^ (36 - max (places_in a.0 done) a.1.places)) (turnover_in a.0 done + unsigned_abs (units_of a.1)) (sym (fills-is a few) ∙ full) in
      omega (arith, here, over)

  next_over : (t : Taken) → HasFewPlaces t.amount → fills t.amount kept ≡ true → TurnoverFits (done ++ t ∷ []) → ⊥
  next_over t few full fits = amount_over t.amount few full (λ q.
      let bound : 2 ^ 127 * 10 ^ (36 - places_in q (done ++ t ∷ [])) ≡ 2 ^ 127 * 10 ^ (36 - max (places_in q done) (places_at q t.amount)) = ap (λ p. 2 ^ 127 * 10 ^ (36 - p)) (more_places q done t) in
      omega (arith, fits q, more_turnover q done t, bound))

-- ---- what is gathered

pub record Held (columns : List Span) (reach : Reach) (done : List Taken) (g : Gathered) : Type 0 where
  pub sized : Sized g.turnovers done
  pub over : g.full ≡ true → TurnoverFits done → ⊥
  pub kept : g.full ≡ false → TurnoverFits done × IsGathered (λ t. place reach columns t.day) (length columns) (λ q. places_in q done) g.rows done
  pub by_columns : g.columns ≡ columns
  pub by_reach : g.reach ≡ reach

held_none : (columns : List Span) (reach : Reach) → Held columns reach [] (not_begun columns reach)
held_none columns reach = record {
  sized = sized_none;
  over = λ e. absurd (false≢true e);
  kept = λ e. (none_fit, gathered_none (λ t. place reach columns t.day) (length columns) (λ q. places_in q []));
  by_columns = refl;
  by_reach = refl;
}

full_either : {X : Type 0} (a b : Bool) → (a || b) ≡ true → (a ≡ true → X) → (b ≡ true → X) → X
full_either true b e first second = first refl
full_either false b e first second = second e

module _ (columns : List Span) (reach : Reach) (done : List Taken) (g : Gathered) (h : Held columns reach done g) (t : Taken) (few : HasFewPlaces t.amount) where
  abbrev goes : Taken → Option ℕ
  goes u = place reach columns u.day

  abbrev most : List ℕ → ℕ
  most q = places_in q (done ++ t ∷ [])

  abbrev went : Option ℕ
  went = place g.reach g.columns t.day

  went_is : went ≡ goes t
  went_is = ap (λ (r : Reach). place r g.columns t.day) h.by_reach ∙ ap (λ (cs : List Span). place reach cs t.day) h.by_columns

  module _ (room : full_with t g ≡ false) where
    both : (g.full ≡ false) × (fills t.amount g.turnovers ≡ false)
    both = or_parts g.full (fills t.amount g.turnovers) room

    fits : TurnoverFits (done ++ t ∷ [])
    fits = next_fits g.turnovers done h.sized t few (h.kept both.0).0 both.1

    rows_before : IsGathered goes (length columns) most g.rows done
    rows_before =
        wider_gathered (λ q. places_in q done) most (λ q. omega (arith, more_places q done t)) goes (length columns) done g.rows (h.kept both.0).1

    -- the taking can be added to its row
    pub can_take : (width : ℕ) → width ≡ length g.columns → CanTake width went t g.rows
    can_take width same =
        subst (λ (w : ℕ). CanTake w went t g.rows) (sym (same ∙ ap length h.by_columns))
        (subst (λ (o : Option ℕ). CanTake (length columns) o t g.rows) (sym went_is)
        (row_fits goes (length columns) most g.rows done t rows_before few (next_within done [] t) (place-within reach columns t.day) (next_small done [] t fits)))

    rows_after : (gathered_with t g).rows ≡ row_with (length columns) (goes t) t g.rows
    rows_after =
        ap (λ (b : Bool). cond b g.rows (row_with (length g.columns) went t g.rows)) room
        ∙ ap (λ (cs : List Span). row_with (length cs) went t g.rows) h.by_columns
        ∙ ap (λ (o : Option ℕ). row_with (length columns) o t g.rows) went_is

    kept_more : TurnoverFits (done ++ t ∷ []) × IsGathered goes (length columns) most (gathered_with t g).rows (done ++ t ∷ [])
    kept_more = (
      fits,
      subst (λ (rows : KeptRows). IsGathered goes (length columns) most rows (done ++ t ∷ [])) (sym rows_after)
          (gathered_more goes (length columns) most g.rows done t rows_before few (next_within done [] t)),
    )

  -- after one more taking
  held_more : Held columns reach (done ++ t ∷ []) (gathered_with t g)
  held_more = record {
    sized = sized_more g.turnovers done h.sized t few;
    over = λ e fits. full_either g.full (fills t.amount g.turnovers) e (λ full. h.over full (first_fits done t fits)) (λ full. next_over g.turnovers done h.sized t few full fits);
    kept = λ room. kept_more room;
    by_columns = h.by_columns;
    by_reach = h.by_reach;
  }

held_all : (columns : List Span) (reach : Reach) (done : List Taken) (g : Gathered) → Held columns reach done g → (ts : List Taken) → AllByRecursion (λ t. HasFewPlaces t.amount) ts → Held columns reach (done ++ ts) (gathered_from g ts)
held_all columns reach done g h [] few = subst (λ (all : List Taken). Held columns reach all g) (sym (append-nil done)) h
held_all columns reach done g h (t ∷ ts) few =
    subst (λ (all : List Taken). Held columns reach all (gathered_from g (t ∷ ts))) (append_assoc done (t ∷ []) ts)
    (held_all columns reach (done ++ t ∷ []) (gathered_with t g) (held_more columns reach done g h t few.0) ts few.1)

pub held_of : (columns : List Span) (reach : Reach) (ts : List Taken) (g : Gathered) → Gathers columns reach ts g → Held columns reach ts g
held_of columns reach ts g h = subst (Held columns reach ts) (sym h.is) (held_all columns reach [] (not_begun columns reach) (held_none columns reach) ts h.few)

-- ---- where no symbol's amounts are too large

not_true : (b : Bool) → (b ≡ true → ⊥) → b ≡ false
not_true true h = absurd (h refl)
not_true false h = refl

module _ (columns : List Span) (reach : Reach) (ts : List Taken) (g : Gathered) (h : Held columns reach ts g) (none : option_map (λ (e : List ℕ × (ℕ × ℕ)). e.0) (find (λ (e : List ℕ × (ℕ × ℕ)). is_full e.1) g.turnovers) ≡ None) where
  pub all_fit : TurnoverFits ts
  all_fit = small_from g.turnovers ts h.sized none

  -- the rows hold the sums of all takings
  pub all_held : IsGathered (λ t. place reach columns t.day) (length columns) (λ q. places_in q ts) g.rows ts
  all_held = (h.kept (not_true g.full (λ full. h.over full all_fit))).1
