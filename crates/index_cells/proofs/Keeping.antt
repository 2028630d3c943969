-- What is kept of takings tells their sums.
use Rattle.std.proofs.Common.{◌≡◌, ℕ, pos, ◌<◌, ◌≤◌, ◌^◌, ◌+◌, ◌-◌, ◌*◌, max, unsigned_abs, Bool, true, false, cond, ◌&&◌, ◌||◌, List, [], ◌∷◌, ◌++◌, map, find, Option, Some, None, Result, Ok, Err, IfOk, refl, sym, ap, subst, ◌∙◌, arith}
use Rattle.std.specs.Ordering.{nat_cmp}
use Rattle.std.specs.Cmp.Lexicographic.{slice_cmp}
use Rattle.std.specs.List.{list_any, flat_map, AllByRecursion}
use Rattle.std.specs.Str.{bytes_eq}
use Rattle.std.proofs.lemmas.Bool.{false≢true, or_parts}
use Rattle.hl_num.specs.Decimal.{units_of}
use Rattle.book.specs.Order.{each_once}
use Rattle.book.specs.SumsBefore.{is_of as is_account}
use Rattle.book.proofs.Accounts.{account_total, account_ties}
use Rattle.book.proofs.Order.{sorted-each_once}
use Rattle.hl_time.specs.declared.spans.Span.{Span}
use Rattle.live_index.specs.Rows.{places_of}
use Rattle.live_index.specs.Net.{net}
use Rattle.live_index.specs.Standing.{standing}
use Rattle.live_index.proofs.NetLaws.{fits-by}
use Rattle.live_index.proofs.StandingLaws.{units-cancel, units-zero}
use Rattle.report_cells.specs.Bounds as bounds
use Rattle.report_cells.specs.Bounds.{first_out, is_out, places_in, turnover_in}
use Rattle.report_cells.specs.Faults.{IsFault}
use Rattle.report_cells.specs.Report.{Sums, accounts_in, cell, row_seen, rows_in}
use Rattle.report_cells.specs.Taken.{Shared, Taken, share_in, symbol_of}
use Rattle.report_cells.specs.declared.cells.CellRow.{CellRow}
use Rattle.report_cells.specs.declared.fault.ReportFault.{ReportFault}
use Rattle.report_cells.specs.declared.fault.ReportFault.TheVariants.{Range, TooWide, Memory}
use Rattle.report_cells.specs.declared.reach.Reach.{Reach}
use Rattle.index_cells.specs.Days.{holds}
use Rattle.index_cells.specs.Keeps.{Keeps}
use Rattle.index_cells.specs.Keys.{is_in, AreInOrder}
use Rattle.index_cells.specs.Named.{named, by_symbol, by_symbols}
use Rattle.index_cells.specs.Rowed.{rowed_all}
use Rattle.index_cells.specs.Tells.{is_of, Tells}
use Rattle.index_cells.specs.declared.kept.Kept.{Kept}
use Rattle.index_cells.proofs.Naming.{account_among, once_in_order}
use Rattle.index_cells.proofs.Nets.{same_places, same_sums}
use Rattle.index_cells.proofs.Taking.{rowed_fit, rowed_places, rowed_sum}

-- ---- takings without amounts

none_named : (ts : List Taken) → AllByRecursion (λ (t : Taken). t.amount ≡ None) ts → flat_map (λ (t : Taken). symbol_of t.amount) ts ≡ []
none_named [] h = refl
none_named (t ∷ ts) h = (λ i. symbol_of (h.0 i) ++ none_named ts h.1 i)

no_range : (ts : List Taken) → AllByRecursion (λ (t : Taken). t.amount ≡ None) ts → first_out ts ≡ None
no_range ts h = ap (λ (ks : List (List ℕ)). find (is_out ts) (each_once (slice_cmp nat_cmp) ks)) (none_named ts h)

pub only_want : (ts : List Taken) (fault : ReportFault) → AllByRecursion (λ (t : Taken). t.amount ≡ None) ts → IsFault ts fault → fault ≡ Memory
only_want ts (Range symbol) h is = absurd (differ (sym (no_range ts h) ∙ is))
  where
    differ : {A : Type 0} {x : A} → None ≡ Some x → ⊥
    differ e = false≢true (ap told e)
      where
        told : {A : Type 0} → Option A → Bool
        told None = false
        told (Some x) = true
only_want ts (TooWide columns limit) h is = absurd is
only_want ts Memory h is = refl

pub all_named : (ts : List Taken) → AllByRecursion (λ (t : Taken). t.amount ≡ None) (map named ts)
all_named [] = tt
all_named (t ∷ ts) = (refl, all_named ts)

pub all_by_symbol : (ts : List Taken) → AllByRecursion (λ (t : Taken). t.amount ≡ None) (by_symbols ts)
all_by_symbol [] = tt
all_by_symbol (t ∷ ts) = one t.amount (all_by_symbol ts)
  where
    one : (o : Option Shared) → AllByRecursion (λ (t : Taken). t.amount ≡ None) (by_symbols ts) → AllByRecursion (λ (t : Taken). t.amount ≡ None) (by_symbol t.day o ++ by_symbols ts)
    one None rest = rest
    one (Some share) rest = (refl, rest)

-- ---- names of rows

seen_names : (rows : List CellRow) → map (λ (e : List ℕ × List Sums). e.0) (map row_seen rows) ≡ map (λ (row : CellRow). row.account) rows
seen_names [] = refl
seen_names (row ∷ rows) = ap (λ (t : List (List ℕ)). row.account ∷ t) (seen_names rows)

made_names : (shown : List ℕ → List Sums) (names : List (List ℕ)) → map (λ (e : List ℕ × List Sums). e.0) (map (λ (a : List ℕ). (a, shown a)) names) ≡ names
made_names shown [] = refl
made_names shown (a ∷ names) = ap (λ (t : List (List ℕ)). a ∷ t) (made_names shown names)

pub names_are : (reach : Reach) (columns : List Span) (ts : List Taken) (rows : List CellRow) → map row_seen rows ≡ rows_in reach columns ts → map (λ (row : CellRow). row.account) rows ≡ accounts_in ts
names_are reach columns ts rows is =
    sym (seen_names rows) ∙ ap (map (λ (e : List ℕ × List Sums). e.0)) is
    ∙ made_names (λ a. map (λ column. cell reach ts column a) columns) (accounts_in ts)

-- names that are told otherwise
pub told_as : {E : Type 0} (r : Result (List (List ℕ)) E) (a b : List (List ℕ)) → a ≡ b → IfOk r (λ names. names ≡ a) → IfOk r (λ names. names ≡ b)
told_as (Ok names) a b same h = h ∙ same
told_as (Err e) a b same h = tt

-- ---- all that is told

pub any_named : (a : List ℕ) (ts : List Taken) → list_any (is_of a) (map named ts) ≡ list_any (is_of a) ts
any_named a [] = refl
any_named a (t ∷ ts) = ap (λ (b : Bool). is_of a t || b) (any_named a ts)

nothing_in : (symbol : List ℕ) (day : ℕ) (o : Option Shared) (rest : List Taken) → list_any (is_of symbol) (by_symbol day o ++ rest) ≡ false → (unsigned_abs (share_in symbol o) ≡ 0) × (list_any (is_of symbol) rest ≡ false)
nothing_in symbol day None rest h = (refl, h)
nothing_in symbol day (Some share) rest h =
    let both = or_parts (bytes_eq share.0 symbol) (list_any (is_of symbol) rest) h in
    (ap (λ (b : Bool). unsigned_abs (cond b (units_of share.1) (pos 0))) both.0, both.1)

pub no_turnover : (symbol : List ℕ) (ts : List Taken) → list_any (is_of symbol) (by_symbols ts) ≡ false → turnover_in symbol ts ≡ 0
no_turnover symbol [] h = refl
no_turnover symbol (t ∷ ts) h =
    let both = nothing_in symbol t.day t.amount (by_symbols ts) h in
    (λ i. both.0 i + no_turnover symbol ts both.1 i)

pub in_order : (ts : List Taken) → AreInOrder (accounts_in ts)
in_order ts = sorted-each_once account_ties (λ (k : List ℕ). k) account_total (map (λ (t : Taken). t.account) ts)

pub kept_keeps : (ts : List Taken) (kept : Kept) → bounds.TurnoverFits ts → kept.sums ≡ rowed_all ts → kept.accounts ≡ accounts_in (map named ts) → kept.symbols ≡ accounts_in (by_symbols ts) → Keeps ts kept
kept_keeps ts kept fits sums accounts symbols = record {
  fits = fits;
  sums = λ q. ap (net q) (sym sums);
  names = record {
    accounts_rise = subst AreInOrder (sym accounts) (in_order (map named ts));
    symbols_rise = subst AreInOrder (sym symbols) (in_order (by_symbols ts));
    accounts = λ account none.
        sym (account_among account (map named ts) ∙ any_named account ts) ∙ ap (is_in account) (sym accounts) ∙ none;
    symbols = λ symbol none.
        no_turnover symbol ts (sym (account_among symbol (by_symbols ts)) ∙ ap (is_in symbol) (sym symbols) ∙ none);
  };
}

-- ---- what is kept row by row tells sums

bound_by : (symbol : List ℕ) (ts : List Taken) (most : ℕ) → bounds.TurnoverFits ts → most ≤ places_in symbol ts → turnover_in symbol ts < 2 ^ 127 * 10 ^ (36 - max (places_in symbol ts) most)
bound_by symbol ts most fits within =
    let same : max (places_in symbol ts) most ≡ places_in symbol ts = omega (arith, within) in
    subst (λ n. turnover_in symbol ts < 2 ^ 127 * 10 ^ (36 - n)) (sym same) (fits symbol)

pub keeps_tell : (ts : List Taken) (kept : Kept) → Keeps ts kept → Tells ts kept
keeps_tell ts kept keeps = record {
  ready = record {
    sums_fit = fits-by (rowed_all ts) kept.sums keeps.sums (rowed_fit ts keeps.fits);
    ordered = keeps.names.accounts_rise;
    once = once_in_order kept.symbols keeps.names.symbols_rise;
  };
  sums = λ account symbol days.
      same_sums (λ row. units_of row.value) units-cancel units-zero (λ own its day places. bytes_eq its symbol && is_account account false own && holds days day) (rowed_all ts) kept.sums keeps.sums
      ∙ rowed_sum account symbol days ts;
  accounts = keeps.names.accounts;
  symbols = keeps.names.symbols;
  fits = λ symbol.
      bound_by symbol ts (places_of symbol (standing kept.sums)) keeps.fits (subst (λ n. places_of symbol (standing kept.sums) ≤ n) (rowed_places symbol ts) (same_places (rowed_all ts) kept.sums keeps.sums symbol));
}
