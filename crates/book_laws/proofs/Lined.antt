-- Postings, rows, days and symbols of a book with other lines, and what is kept of it.
use Rattle.std.proofs.Common.{◌≡◌, ◌<◌, ℕ, suc, ◌+◌, ◌-◌, ◌*◌, ◌^◌, max, Bool, true, false, cond, List, [], ◌∷◌, ◌++◌, map, filter, refl, sym, ap, subst, ◌∙◌}
use Rattle.std.specs.Prelude.{unsigned_abs}
use Rattle.std.specs.List.{flat_map, AllByRecursion}
use Rattle.std.specs.Ordering.{nat_cmp}
use Rattle.std.specs.Cmp.Lexicographic.{slice_cmp}
use Rattle.hl_time.specs.declared.day.Day.{Day}
use Rattle.book.specs.Bounds.{TurnoverFits, places_in, places_of, turnover}
use Rattle.book.specs.Order.{each_once}
use Rattle.book.specs.Postings.{postings_of}
use Rattle.book.specs.Sums.{share}
use Rattle.book.specs.declared.transaction.Posting.{Posting}
use Rattle.book.specs.declared.transaction.Txn.{Txn}
use Rattle.entry_balance.specs.Entry.{moved}
use Rattle.entry_balance.specs.Values.{Value}
use Rattle.balancing.specs.Solves.{HasFew, HaveFew}
use Rattle.live_index.specs.Net.{SameNet}
use Rattle.live_index.specs.Rows.{sum_before}
use Rattle.live_index.specs.declared.row.Row.{Row}
use Rattle.placed_sums.specs.Accounts.{HasSymbols, is_among, is_moved, symbol_moved}
use Rattle.placed_sums.specs.Numbers.{has_on, is_on, numbered_from, numbers_from}
use Rattle.placed_sums.specs.Rows.{rows_of, rows_of_posting, rows_of_txn, Stand, Tell}
use Rattle.kept_turnover.specs.Keeping.{IsTurnover}
use Rattle.kept_turnover.specs.declared.turnover.Turnover.{Turnover}
use Rattle.shared_days.specs.Days.{AreOf as AreDaysOf}
use Rattle.shared_days.specs.declared.days.SharedDays.{SharedDays}
use Rattle.moved_lines.specs.Relined.{relined, relined_from, relined_posting, relined_txn}
use Rattle.moved_lines.proofs.Lists.{any-same, flat-same, map-both}
use Rattle.moved_lines.proofs.Settles.{moved-all}
use Rattle.book_laws.specs.Lines.{unlined}
use Rattle.book_laws.specs.Writing.{symbols_at, symbols_in, symbols_written}
use Rattle.book_laws.proofs.Written.{at_both}

abbrev beside : ℕ → Txn → ℕ × Txn
beside n t = (n, t)

-- ---- postings without their lines

turnover-unlined : (symbol : List ℕ) (ps : List Posting) → turnover symbol (map unlined ps) ≡ turnover symbol ps
turnover-unlined symbol [] = refl
turnover-unlined symbol (p ∷ ps) = ap (λ (n : ℕ). unsigned_abs (share symbol p.amount) + n) (turnover-unlined symbol ps)

places-unlined : (symbol : List ℕ) (ps : List Posting) → places_of symbol (map unlined ps) ≡ places_of symbol ps
places-unlined symbol [] = refl
places-unlined symbol (p ∷ ps) = ap (λ (n : ℕ). max (places_in symbol p.amount) n) (places-unlined symbol ps)

few-unlined : (ps : List Posting) → AllByRecursion (λ (p : Posting). HasFew p.amount) (map unlined ps) → AllByRecursion (λ (p : Posting). HasFew p.amount) ps
few-unlined [] h = tt
few-unlined (p ∷ ps) h = (h.0, few-unlined ps h.1)

few-lined : (ps : List Posting) → AllByRecursion (λ (p : Posting). HasFew p.amount) ps → AllByRecursion (λ (p : Posting). HasFew p.amount) (map unlined ps)
few-lined [] h = tt
few-lined (p ∷ ps) h = (h.0, few-lined ps h.1)

module _ (f : ℕ → ℕ → ℕ) where
  -- ---- postings

  unlined-each : (n : ℕ) (ps : List Posting) → map unlined (map (relined_posting (f n)) ps) ≡ map unlined ps
  unlined-each n [] = refl
  unlined-each n (p ∷ ps) = λ i. unlined p ∷ unlined-each n ps i

  pub postings-same : (n : ℕ) (ts : List Txn) → map unlined (postings_of (relined_from f n ts)) ≡ map unlined (postings_of ts)
  postings-same n [] = refl
  postings-same n (t ∷ ts) =
      map-both unlined (map (relined_posting (f n)) t.postings) (postings_of (relined_from f (suc n) ts))
      ∙ (λ i. unlined-each n t.postings i ++ postings-same (suc n) ts i)
      ∙ sym (map-both unlined t.postings (postings_of ts))

  -- what doesn't see the lines of postings
  pub seen-same : {Y : Type 0} (D : List Posting → Y) → ((ps : List Posting) → D (map unlined ps) ≡ D ps) → (n : ℕ) (ts : List Txn)
      → D (postings_of (relined_from f n ts)) ≡ D (postings_of ts)
  seen-same D e n ts = sym (e (postings_of (relined_from f n ts))) ∙ ap D (postings-same n ts) ∙ e (postings_of ts)

  -- ---- rows

  rows-in : (n : ℕ) (t : Txn) → rows_of_txn (relined_txn (f n) t) ≡ rows_of_txn t
  rows-in n t = flat-same (relined_posting (f n)) (rows_of_posting t) (λ p. refl) t.postings

  pub rows-same : (n : ℕ) (ts : List Txn) → rows_of (relined_from f n ts) ≡ rows_of ts
  rows-same n [] = refl
  rows-same n (t ∷ ts) = λ i. rows-in n t i ++ rows-same (suc n) ts i

  pub stand-same : (rows : List Row) (ts : List Txn) → Stand rows ts → Stand rows (relined f ts)
  stand-same rows ts h = record {
    told = λ account symbol below end. h.told account symbol below end ∙ told account symbol below end;
    net = subst (λ (own : List Row). SameNet own rows) (sym (rows-same 0 ts)) h.net;
  }
    where
      told : Tell (rows_of ts) (relined f ts)
      told =
          let P : List Row → Type 0 = λ own. (account symbol : List ℕ) (below : Bool) (end : ℕ) → sum_before (rows_of ts) account symbol below end ≡ sum_before own account symbol below end in
          subst P (sym (rows-same 0 ts)) (λ account symbol below end. refl)

  -- ---- days

  has-same : (day n : ℕ) (t : Txn) → has_on day (relined_txn (f n) t) ≡ has_on day t
  has-same day n t = any-same (relined_posting (f n)) (is_on day t) (λ p. refl) t.postings

  pub numbers-same : (day n : ℕ) (ts : List Txn) → numbers_from day n (relined_from f n ts) ≡ numbers_from day n ts
  numbers-same day n [] = refl
  numbers-same day n (t ∷ ts) =
      let others : List (ℕ × Txn) = filter (λ e. has_on day e.1) (numbered_from (suc n) (relined_from f (suc n) ts)) in
      ap (λ (b : Bool). map (λ (e : ℕ × Txn). e.0) (cond b (beside n (relined_txn (f n) t) ∷ others) others)) (has-same day n t)
      ∙ here (has_on day t) (numbers-same day (suc n) ts)
    where
      here : (b : Bool) → numbers_from day (suc n) (relined_from f (suc n) ts) ≡ numbers_from day (suc n) ts
          → map (λ (e : ℕ × Txn). e.0) (cond b (beside n (relined_txn (f n) t) ∷ filter (λ e. has_on day e.1) (numbered_from (suc n) (relined_from f (suc n) ts))) (filter (λ e. has_on day e.1) (numbered_from (suc n) (relined_from f (suc n) ts))))
          ≡ map (λ (e : ℕ × Txn). e.0) (cond b (beside n t ∷ filter (λ e. has_on day e.1) (numbered_from (suc n) ts)) (filter (λ e. has_on day e.1) (numbered_from (suc n) ts)))
      here true h = ap (λ (ns : List ℕ). n ∷ ns) h
      here false h = h

  pub days-same : (ts : List Txn) (days : SharedDays) → AreDaysOf ts days → AreDaysOf (relined f ts) days
  days-same ts days h = λ (day : Day). h day ∙ sym (numbers-same day.0 0 ts)

  -- ---- what is moved

  pub turnover-same : (ts : List Txn) (t : Turnover) → IsTurnover t (moved (postings_of ts)) → IsTurnover t (moved (postings_of (relined f ts)))
  turnover-same ts t h = subst (λ (vs : List Value). IsTurnover t vs) (sym (moved-all f 0 ts)) h

  pub fits-same : (ts : List Txn) → TurnoverFits (postings_of ts) → TurnoverFits (postings_of (relined f ts))
  fits-same ts h symbol =
      let turns = seen-same (turnover symbol) (turnover-unlined symbol) 0 ts in
      let places = seen-same (places_of symbol) (places-unlined symbol) 0 ts in
      subst (λ (n : ℕ). n < 2 ^ 127 * 10 ^ (36 - places_of symbol (postings_of (relined f ts)))) (sym turns)
      (subst (λ (k : ℕ). turnover symbol (postings_of ts) < 2 ^ 127 * 10 ^ (36 - k)) (sym places) (h symbol))

  -- ---- symbols and decimals

  pub named-same : (symbol : List ℕ) (ts : List Txn) → is_moved symbol (postings_of (relined f ts)) ≡ is_moved symbol (postings_of ts)
  named-same symbol ts =
      ap (is_among symbol) (seen-same (λ (ps : List Posting). flat_map (λ p. symbol_moved p.amount) ps) (λ ps. flat-same unlined (λ (p : Posting). symbol_moved p.amount) (λ p. refl) ps) 0 ts)

  pub symbols-same : (symbols : List (List ℕ)) (ts : List Txn) → HasSymbols symbols ts → HasSymbols symbols (relined f ts)
  symbols-same symbols ts h = record {
    ordered = h.ordered;
    all = λ symbol named. h.all symbol (sym (named-same symbol ts) ∙ named);
  }

  pub written-same : (ts : List Txn) → symbols_at (relined f ts) ≡ symbols_at ts
  written-same ts = seen-same (λ (ps : List Posting). flat_map symbols_in ps) (λ ps. flat-same unlined symbols_in (λ p. refl) ps) 0 ts

  pub beside-same : (others ts : List Txn) → symbols_written (others ++ relined f ts) ≡ symbols_written (others ++ ts)
  beside-same others ts =
      ap (each_once (slice_cmp nat_cmp)) (at_both others (relined f ts) ∙ ap (λ (xs : List (List ℕ)). symbols_at others ++ xs) (written-same ts) ∙ sym (at_both others ts))

  pub few-same : (ts : List Txn) → HaveFew ts → HaveFew (relined f ts)
  few-same ts h =
      let P : List Posting → Type 0 = λ ps. AllByRecursion (λ (p : Posting). HasFew p.amount) ps in
      few-unlined (postings_of (relined f ts)) (subst P (sym (postings-same 0 ts)) (few-lined (postings_of ts) h))

  pub few-back : (ts : List Txn) → HaveFew (relined f ts) → HaveFew ts
  few-back ts h =
      let P : List Posting → Type 0 = λ ps. AllByRecursion (λ (p : Posting). HasFew p.amount) ps in
      few-unlined (postings_of ts) (subst P (postings-same 0 ts) (few-lined (postings_of (relined f ts)) h))
