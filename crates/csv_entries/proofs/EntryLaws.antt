-- What holds of the entries of any file: they are in order, and no more than the file has bytes.
use Rattle.std.proofs.Common.{◌≡◌, ℕ, ◌+◌, ◌-◌, ◌==◌, ◌≤◌, Bool, true, false, ◌||◌, ◌&&◌, cond, List, [], ◌∷◌, length, reverse, Ok, Err, refl, ap, arith, length-append}
use Rattle.std.proofs.lemmas.List.{length-reverse}
use Rattle.std.specs.List.{concat, flat_map, enumerate_from}
use Rattle.std.proofs.lemmas.List.FromFn.{length-enumerate_from}
use Rattle.csv.specs.Reading.{strip_bom}
use Rattle.hl_base.specs.Items.{is_blank}
use Rattle.hl_base.specs.Lines.{lines_of}
use Rattle.query_terms.specs.Patterns.{Known}
use Rattle.book.specs.declared.transaction.Txn.{Txn}
use Rattle.csv_rules.specs.Importing.{is_ordered}
use Rattle.csv_rules.specs.declared.kinds.Settings.{Settings}
use Rattle.csv_rules.specs.declared.kinds.Sheet.{Sheet}
use Rattle.csv_entries.specs.Conversion.{ordered, conversion}
use Rattle.csv_entries.specs.Numbered.{Entries, entries_from}
use Rattle.csv_entries.specs.Ordering.{into_runs, runs_of, turned, turned_runs, days_turned, is_falling, in_order}
use Rattle.csv_entries.specs.Records.{lines_after, text_after, config_of, records_of}
use Rattle.book.proofs.ByDay.{by_day_ordered, by_day_length}
use Rattle.csv_entries.proofs.CutOff.{lines_join}
use Rattle.csv_entries.proofs.Numbers.{few_of}
use Rattle.csv_entries.proofs.Progress.{few_records}

-- ---- as many entries in order as before

into_by : (t u : Txn) (r : List Txn) (rs : List (List Txn)) (b : Bool) → (t.day.0 == u.day.0) ≡ b
    → length (flat_map reverse (into_runs t ((u ∷ r) ∷ rs))) ≡ 1 + length (flat_map reverse ((u ∷ r) ∷ rs))
into_by t u r rs true e =
    rw e (omega (arith, length-append (reverse (t ∷ u ∷ r)) (flat_map reverse rs), length-reverse (t ∷ u ∷ r), length-append (reverse (u ∷ r)) (flat_map reverse rs), length-reverse (u ∷ r)))
into_by t u r rs false e =
    rw e (omega (arith, length-append (reverse (t ∷ [])) (flat_map reverse ((u ∷ r) ∷ rs)), length-reverse (t ∷ [])))

into_length : (t : Txn) (rs : List (List Txn)) → length (flat_map reverse (into_runs t rs)) ≡ 1 + length (flat_map reverse rs)
into_length t [] = omega (arith, length-append (reverse (t ∷ [])) [], length-reverse (t ∷ []))
into_length t ([] ∷ rs) = omega (arith, length-append (reverse (t ∷ [])) (flat_map reverse rs), length-reverse (t ∷ []))
into_length t ((u ∷ r) ∷ rs) = into_by t u r rs (t.day.0 == u.day.0) refl

runs_length : (ts : List Txn) → length (turned_runs ts) ≡ length ts
runs_length [] = refl
runs_length (t ∷ ts) = omega (arith, into_length t (runs_of ts), runs_length ts)

turned_length : (b : Bool) (ts : List Txn) → length (turned b ts) ≡ length ts
turned_length true ts = length-reverse ts
turned_length false ts = refl

days_length : (b : Bool) (ts : List Txn) → length (days_turned b ts) ≡ length ts
days_length true ts = runs_length ts
days_length false ts = refl

order_length : (settings : Settings) (ts : List Txn) → length (in_order settings ts) ≡ length ts
order_length settings ts =
    let first = turned (settings.newest_first || is_falling ts) ts in
    omega (arith, by_day_length (days_turned settings.reversed_days first), days_length settings.reversed_days first, turned_length (settings.newest_first || is_falling ts) ts)

-- ---- what is cut off makes a text shorter

after_by : (n : ℕ) (l : List ℕ) (ls : List (List ℕ)) (b : Bool) → (n == 0) ≡ b
    → ((m : ℕ) → length (concat (lines_after m ls)) ≤ length (concat ls)) → length (concat (lines_after n (l ∷ ls))) ≤ length (concat (l ∷ ls))
after_by n l ls true e more = rw e (omega arith)
after_by n l ls false e more = rw e (omega (arith, more (cond (is_blank l) n (n - 1)), length-append l (concat ls)))

after_length : (n : ℕ) (ls : List (List ℕ)) → length (concat (lines_after n ls)) ≤ length (concat ls)
after_length n [] = omega arith
after_length n (l ∷ ls) = after_by n l ls (n == 0) refl (λ m. after_length m ls)

cut_length : (n : ℕ) (text : List ℕ) → length (text_after n text) ≤ length text
cut_length n text = omega (arith, after_length n (lines_of text), ap length (lines_join text))

mark_by : (b : Bool) (x y z : ℕ) (rest : List ℕ) → length (cond b rest (x ∷ y ∷ z ∷ rest)) ≤ length (x ∷ y ∷ z ∷ rest)
mark_by true x y z rest = omega arith
mark_by false x y z rest = omega arith

strip_length : (text : List ℕ) → length (strip_bom text) ≤ length text
unfolding strip_bom
strip_length [] = omega arith
strip_length (x ∷ []) = omega arith
strip_length (x ∷ y ∷ []) = omega arith
strip_length (x ∷ y ∷ z ∷ rest) = mark_by ((x == 0xEF) && (y == 0xBB) && (z == 0xBF)) x y z rest

-- ---- the laws

-- an outcome in order is what came before, in order
came : (settings : Settings) (r : Entries) (ts : List Txn) → ordered settings r ≡ Ok ts → (us : List Txn) × (r ≡ Ok us) × (ts ≡ in_order settings us)
came settings (Ok us) ts e = (us, refl, cc e)
came settings (Err fault) ts e = absurd (cc e)

pub in_days : (known : Known) (sheet : Sheet) (text : List ℕ) (ts : List Txn) → conversion known sheet text ≡ Ok ts → is_ordered ts ≡ true
in_days known sheet text ts e =
    let (us, made, is) = came sheet.settings (entries_from known sheet 1 (records_of sheet.settings text)) ts e in
    rw is (by_day_ordered (days_turned sheet.settings.reversed_days (turned (sheet.settings.newest_first || is_falling us) us)))

pub few_entries : (known : Known) (sheet : Sheet) (text : List ℕ) (ts : List Txn) → conversion known sheet text ≡ Ok ts → length ts ≤ length text
few_entries known sheet text ts e =
    let rows = records_of sheet.settings text in
    let (us, made, is) = came sheet.settings (entries_from known sheet 1 rows) ts e in
    let rest = text_after sheet.settings.skipped text in
    omega (
      arith,
      ap length is,
      order_length sheet.settings us,
      few_of known sheet (enumerate_from 1 rows) us made,
      length-enumerate_from 1 rows,
      few_records (config_of sheet.settings.separator) (strip_bom rest),
      strip_length rest,
      cut_length sheet.settings.skipped text,
    )

-- entries in order are in the order of their days
pub order_days : (settings : Settings) (us ts : List Txn) → ts ≡ in_order settings us → is_ordered ts ≡ true
order_days settings us ts is =
    rw is (by_day_ordered (days_turned settings.reversed_days (turned (settings.newest_first || is_falling us) us)))
