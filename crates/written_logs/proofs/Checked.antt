-- Entries of hours are a book as they stand.
use Rattle.std.proofs.Common.{◌≡◌, ℕ, ℤ, suc, pos, ◌+◌, ◌*◌, ◌^◌, ◌<◌, ◌+ℤ◌, Bool, true, false, cond, not, ◌&&◌, ◌||◌, List, [], ◌∷◌, ◌++◌, length, map, codes, Option, Some, None, is_none, refl, sym, ap, ◌∙◌, arith}
use Rattle.std.specs.Prelude.{nat_lt, filter}
use Rattle.std.specs.List.{flat_map, fold, list_all, AllByRecursion}
use Rattle.std.specs.Str.{bytes_eq}
use Rattle.std.proofs.Math.IntN.{pos-*ℤ-pos, pos-+ℤ-pos}
use Rattle.std.proofs.lemmas.Bool.{false≢true}
use Rattle.std.proofs.lemmas.Bool.Decides.{nat_tests}
use Rattle.std.proofs.lemmas.List.{map-append}
use Rattle.std.proofs.lemmas.List.Sums.{sum_by-cons}
use Rattle.hl_num.specs.Decimal.{Decimal, mantissa_at}
use Rattle.book.specs.declared.transaction.Posting.{Posting}
use Rattle.book.specs.declared.transaction.Side.{Side}
use Rattle.book.specs.declared.transaction.Side.TheVariants.{Real, Balanced, Free}
use Rattle.book.specs.declared.transaction.Txn.{Txn}
use Rattle.book.specs.Mixed.{plus}
use Rattle.book.specs.Postings.{postings_of}
use Rattle.book.specs.SumsBefore.{Place, number_in, placed_in, placed_from}
use Rattle.entry_balance.specs.Values.{Value, absolute_value}
use Rattle.entry_balance.specs.Tally.{numbers_of, no_sum, total_of, symbols_in, sums_of, is_within, are_within, turnover_fits}
use Rattle.entry_balance.specs.Entry.{has_assignment, assignment_fault, is_missing, missing_count, has_two_missing, side_values, left_over, are_plain, are_opposite, exchanges, recorded_cost, recorded_between, costed_posting, solved_posting, solved, moved, costs_fit, fits_alone, misses, unbalanced_sums, unbalanced_by, cause_alone, settled, with_postings, precision_of, is_nothing_at}
use Rattle.book.specs.declared.fault.Cause.{Cause}
use Rattle.book.specs.declared.fault.Cause.TheVariants as cause
use Rattle.balancing.specs.Solves.{is_unmarked, are_unmarked, is_allowed, AreMade, AreMadeTxns, IsAssignedAt, IsAssertedAt, Solves}
use Rattle.time_logs.specs.Quantities.{hundredths}
use Rattle.written_logs.specs.Plain.{Spent, spent_posting, Entry, entry_txn}
use Rattle.written_logs.proofs.Lines.{all_parts}
use Rattle.written_logs.specs.Written.{numbered, numbered_txn, postings_from}

-- how many hundredths of hours were spent
abbrev pub spent_sum : List Spent → ℕ
spent_sum [] = 0
spent_sum (s ∷ ss) = s.count + spent_sum ss

pub spent_sum-append : (xs ys : List Spent) → spent_sum (xs ++ ys) ≡ spent_sum xs + spent_sum ys
spent_sum-append [] ys = omega arith
spent_sum-append (s ∷ xs) ys = omega (arith, spent_sum-append xs ys)

abbrev pub all_spent : List Entry → List Spent
all_spent es = flat_map (λ e. e.spent) es

abbrev texts : List Spent → List Posting
texts ss = map spent_posting ss

-- ---- sums

abbrev spent_value : Spent → Value
spent_value s = (codes "h", hundredths s.count)

abbrev of_hundredths : ℤ → Decimal
of_hundredths z = record { mantissa = z; places = 2 }

-- the product of each term is by one
by_one : (a : ℕ) → mantissa_at (hundredths a) 2 ≡ pos a
by_one a = pos-*ℤ-pos a 1 ∙ ap pos (times a)
  where
    times : (a : ℕ) → a * 1 ≡ a
    times a = omega arith

plus_is : (a c : ℕ) → plus (hundredths a) (hundredths c) ≡ hundredths (a + c)
plus_is a c =
    ap (λ (z : ℤ). of_hundredths (z +ℤ mantissa_at (hundredths c) 2)) (by_one a)
    ∙ ap (λ (z : ℤ). of_hundredths (pos a +ℤ z)) (by_one c)
    ∙ ap (λ (z : ℤ). of_hundredths z) (pos-+ℤ-pos a c)

plus_none : (c : ℕ) → plus no_sum (hundredths c) ≡ hundredths c
plus_none c =
    ap (λ (z : ℤ). of_hundredths (mantissa_at no_sum 2 +ℤ z)) (by_one c)
    ∙ ap (λ (z : ℤ). of_hundredths z) (pos-+ℤ-pos 0 c ∙ ap pos (nothing c))
  where
    nothing : (c : ℕ) → 0 + c ≡ c
    nothing c = omega arith

abbrev counts : List Spent → List Decimal
counts ss = map (λ s. hundredths s.count) ss

fold_is : (a : ℕ) (ss : List Spent) → fold plus (hundredths a) (counts ss) ≡ hundredths (a + spent_sum ss)
fold_is a [] = ap hundredths (same a)
  where
    same : (a : ℕ) → a ≡ a + 0
    same a = omega arith
fold_is a (s ∷ ss) =
    ap (λ (d : Decimal). fold plus d (counts ss)) (plus_is a s.count)
    ∙ fold_is (a + s.count) ss
    ∙ ap hundredths (grouped a s.count (spent_sum ss))
  where
    grouped : (a b c : ℕ) → a + b + c ≡ a + (b + c)
    grouped a b c = omega arith

all_of : (symbol : List ℕ) (ss : List Spent) → bytes_eq (codes "h") symbol ≡ true → numbers_of symbol (map spent_value ss) ≡ counts ss
all_of symbol [] e = refl
all_of symbol (s ∷ ss) e =
    let more = all_of symbol ss e in
    ap (λ (t : Bool). map (λ (v : Value). v.1) (cond t (spent_value s ∷ filter (λ v. bytes_eq v.0 symbol) (map spent_value ss)) (filter (λ v. bytes_eq v.0 symbol) (map spent_value ss)))) e
    ∙ ap (λ (ds : List Decimal). hundredths s.count ∷ ds) more

none_of : (symbol : List ℕ) (ss : List Spent) → bytes_eq (codes "h") symbol ≡ false → numbers_of symbol (map spent_value ss) ≡ []
none_of symbol [] e = refl
none_of symbol (s ∷ ss) e =
    ap (λ (t : Bool). map (λ (v : Value). v.1) (cond t (spent_value s ∷ filter (λ v. bytes_eq v.0 symbol) (map spent_value ss)) (filter (λ v. bytes_eq v.0 symbol) (map spent_value ss)))) e
    ∙ none_of symbol ss e

less : (n m : ℕ) → n < m → nat_lt n m ≡ true
less n m h = grind (arith, nat_tests)

sum_within : (ss : List Spent) → spent_sum ss < 2 ^ 127 → is_within (fold plus no_sum (counts ss)) ≡ true
sum_within [] small = refl
sum_within (s ∷ ss) small =
    ap is_within (ap (λ (d : Decimal). fold plus d (counts ss)) (plus_none s.count) ∙ fold_is s.count ss)
    ∙ less (s.count + spent_sum ss) (2 ^ 127) small

symbol_within : (symbol : List ℕ) (ss : List Spent) (t : Bool) → bytes_eq (codes "h") symbol ≡ t → spent_sum ss < 2 ^ 127 → is_within (total_of symbol (map spent_value ss)) ≡ true
symbol_within symbol ss true e small = ap (λ (ds : List Decimal). is_within (fold plus no_sum ds)) (all_of symbol ss e) ∙ sum_within ss small
symbol_within symbol ss false e small = ap (λ (ds : List Decimal). is_within (fold plus no_sum ds)) (none_of symbol ss e)

each_within : (values : List Value) (symbols : List (List ℕ)) → ((symbol : List ℕ) → is_within (total_of symbol values) ≡ true)
    → are_within (map (λ symbol. (symbol, total_of symbol values)) symbols) ≡ true
each_within values [] f = refl
each_within values (symbol ∷ symbols) f =
    let here = f symbol in
    let more = each_within values symbols f in
    both (is_within (total_of symbol values)) (are_within (map (λ s. (s, total_of s values)) symbols)) here more
  where
    both : (a b : Bool) → a ≡ true → b ≡ true → (a && b) ≡ true
    both a b e f = rw (e, f) refl

absolute_is : (ss : List Spent) → map absolute_value (map spent_value ss) ≡ map spent_value ss
absolute_is [] = refl
absolute_is (s ∷ ss) = ap (λ (vs : List Value). spent_value s ∷ vs) (absolute_is ss)

moved_is : (ss : List Spent) → moved (texts ss) ≡ map spent_value ss
moved_is [] = refl
moved_is (s ∷ ss) = ap (λ (vs : List Value). spent_value s ∷ vs) (moved_is ss)

fits : (ss : List Spent) → spent_sum ss < 2 ^ 127 → turnover_fits (moved (texts ss)) ≡ true
fits ss small =
    ap turnover_fits (moved_is ss)
    ∙ ap (λ (vs : List Value). are_within (sums_of vs)) (absolute_is ss)
    ∙ each_within (map spent_value ss) (symbols_in (map spent_value ss)) (λ (symbol : List ℕ). symbol_within symbol ss (bytes_eq (codes "h") symbol) refl small)

-- ---- one transaction

no_assignment : (ss : List Spent) → has_assignment (texts ss) ≡ false
no_assignment [] = refl
no_assignment (s ∷ ss) = no_assignment ss

none_missing : (side : Side) (ss : List Spent) → missing_count side (texts ss) ≡ 0
none_missing side [] = refl
none_missing Real (s ∷ ss) = sum_by-cons (λ (p : Posting). cond (is_missing Real p) 1 0) (spent_posting s) (texts ss) ∙ ap (λ (n : ℕ). 0 + n) (none_missing Real ss)
none_missing Balanced (s ∷ ss) = sum_by-cons (λ (p : Posting). cond (is_missing Balanced p) 1 0) (spent_posting s) (texts ss) ∙ ap (λ (n : ℕ). 0 + n) (none_missing Balanced ss)
none_missing Free (s ∷ ss) = sum_by-cons (λ (p : Posting). cond (is_missing Free p) 1 0) (spent_posting s) (texts ss) ∙ ap (λ (n : ℕ). 0 + n) (none_missing Free ss)

no_two : (ss : List Spent) → has_two_missing (texts ss) ≡ false
no_two ss =
    let real = none_missing Real ss in
    let balanced = none_missing Balanced ss in
    let free = none_missing Free ss in
    ap (λ (n : ℕ). nat_lt 1 n || nat_lt 1 (missing_count Balanced (texts ss)) || nat_lt 0 (missing_count Free (texts ss))) real
    ∙ ap (λ (n : ℕ). nat_lt 1 n || nat_lt 0 (missing_count Free (texts ss))) balanced
    ∙ ap (λ (n : ℕ). nat_lt 0 n) free

no_costs : (ss : List Spent) → costs_fit (texts ss) ≡ true
no_costs [] = refl
no_costs (s ∷ ss) = no_costs ss

no_real : (ss : List Spent) → side_values Real (texts ss) ≡ []
no_real [] = refl
no_real (s ∷ ss) = no_real ss

no_balanced : (ss : List Spent) → side_values Balanced (texts ss) ≡ []
no_balanced [] = refl
no_balanced (s ∷ ss) = no_balanced ss

none_over : (ps : List Posting) (side : Side) → side_values side ps ≡ [] → left_over side ps ≡ []
none_over ps side h = ap (λ (vs : List Value). filter (λ (sum : Value). not (is_nothing_at (precision_of sum.0 ps) sum.1)) (sums_of vs)) h

and_false : (a : Bool) → (a && false) ≡ false
and_false true = refl
and_false false = refl

no_exchange : (ps : List Posting) → side_values Real ps ≡ [] → exchanges ps ≡ false
no_exchange ps h = ap (λ (vs : List Value). are_plain ps && are_opposite vs) (none_over ps Real h) ∙ and_false (are_plain ps)

no_cost : (ps : List Posting) → side_values Real ps ≡ [] → recorded_cost ps ≡ None
no_cost ps h = ap (λ (t : Bool). cond t (recorded_between (left_over Real ps) ps) None) (no_exchange ps h)

solved_among : (all : List Posting) (ss : List Spent) → recorded_cost all ≡ None → flat_map (λ p. solved_posting all p p.amount) (texts ss) ≡ texts ss
solved_among all [] h = refl
solved_among all (s ∷ ss) h =
    ap (λ (c : Option (List ℕ × Value)). (costed_posting c (spent_posting s) ∷ []) ++ flat_map (λ p. solved_posting all p p.amount) (texts ss)) h
    ∙ ap (λ (ps : List Posting). spent_posting s ∷ ps) (solved_among all ss h)

solved_is : (ss : List Spent) → solved (texts ss) ≡ texts ss
solved_is ss = solved_among (texts ss) ss (no_cost (texts ss) (no_real ss))

either_none : (t : Bool) → cond {A = List Value} t [] [] ≡ []
either_none true = refl
either_none false = refl

none_unbalanced : (ps : List Posting) → side_values Real ps ≡ [] → side_values Balanced ps ≡ [] → unbalanced_sums ps ≡ []
none_unbalanced ps real balanced =
    ap (λ (vs : List Value). cond (misses Real ps || exchanges ps) [] vs ++ cond (misses Balanced ps) [] (left_over Balanced ps)) (none_over ps Real real)
    ∙ ap (λ (vs : List Value). vs ++ cond (misses Balanced ps) [] (left_over Balanced ps)) (either_none (misses Real ps || exchanges ps))
    ∙ ap (λ (vs : List Value). cond (misses Balanced ps) [] vs) (none_over ps Balanced balanced)
    ∙ either_none (misses Balanced ps)

alone : (ss : List Spent) → spent_sum ss < 2 ^ 127 → fits_alone (texts ss) ≡ true
alone ss small =
    ap (λ (t : Bool). t && turnover_fits (moved (solved (texts ss)))) (no_costs ss)
    ∙ ap (λ (ps : List Posting). turnover_fits (moved ps)) (solved_is ss)
    ∙ fits ss small

cause_by : (a b c : Bool) (x y z w : Option Cause) → a ≡ false → b ≡ false → c ≡ true → cond a x (cond b y (cond c z w)) ≡ z
cause_by a b c x y z w ea eb ec = rw (ea, eb, ec) refl

balanced_alone : (ss : List Spent) → spent_sum ss < 2 ^ 127 → cause_alone (texts ss) ≡ None
balanced_alone ss small =
    let ps = texts ss in
    cause_by (has_assignment ps) (has_two_missing ps) (fits_alone ps) (assignment_fault ps) (Some cause.TwoMissing) (unbalanced_by (unbalanced_sums ps)) (Some cause.Range)
    (no_assignment ss) (no_two ss) (alone ss small)
    ∙ ap unbalanced_by (none_unbalanced ps (no_real ss) (no_balanced ss))

settled_is : (e : Entry) → settled (entry_txn e) ≡ entry_txn e
settled_is e = ap (λ (ps : List Posting). with_postings (entry_txn e) ps) (solved_is e.spent)

unmarked_texts : (ss : List Spent) → list_all is_unmarked (texts ss) ≡ true
unmarked_texts [] = refl
unmarked_texts (s ∷ ss) = unmarked_texts ss

made_texts : (ss : List Spent) → AreMade (texts ss) (texts ss)
made_texts [] = tt
made_texts (s ∷ ss) = (refl, made_texts ss)

-- ---- all of them

abbrev txns_of : List Entry → List Txn
txns_of es = map entry_txn es

both_true : (a b : Bool) → a ≡ true → b ≡ true → (a && b) ≡ true
both_true a b e f = rw (e, f) refl

all_unmarked : (es : List Entry) → are_unmarked (txns_of es) ≡ true
all_unmarked [] = refl
all_unmarked (e ∷ es) = both_true (list_all is_unmarked (texts e.spent)) (are_unmarked (txns_of es)) (unmarked_texts e.spent) (all_unmarked es)

all_allowed : (es : List Entry) → list_all is_allowed (txns_of es) ≡ true
all_allowed [] = refl
all_allowed (e ∷ es) =
    both_true (is_allowed (entry_txn e)) (list_all is_allowed (txns_of es))
    (ap (λ (t : Bool). not t || is_none (assignment_fault (texts e.spent))) (no_assignment e.spent)) (all_allowed es)

all_made : (es : List Entry) → AreMadeTxns (txns_of es) (txns_of es)
all_made [] = tt
all_made (e ∷ es) = (record { postings = made_texts e.spent; rest = refl }, all_made es)

abbrev total : List Entry → ℕ
total es = spent_sum (all_spent es)

all_balanced : (es : List Entry) → total es < 2 ^ 127 → AllByRecursion (λ t. cause_alone t.postings ≡ None) (txns_of es)
all_balanced [] small = tt
all_balanced (e ∷ es) small =
    let sum = spent_sum-append e.spent (all_spent es) in
    (balanced_alone e.spent (omega (arith, sum)), all_balanced es (omega (arith, sum)))

all_settled : (es : List Entry) → txns_of es ≡ map settled (txns_of es)
all_settled [] = refl
all_settled (e ∷ es) =
    ap (λ (t : Txn). t ∷ txns_of es) (sym (settled_is e))
    ∙ ap (λ (ts : List Txn). settled (entry_txn e) ∷ ts) (all_settled es)

placed_one : (P : Place × Posting → Type 0) (t : Txn) (number n : ℕ) (ss : List Spent) → ((place : Place) (s : Spent) → P (place, spent_posting s)) → AllByRecursion P (placed_in t number n (texts ss))
placed_one P t number n [] f = tt
placed_one P t number n (s ∷ ss) f = (f (record { day = (t.day).0; txn = number; posting = number_in t n (spent_posting s) }) s, placed_one P t number (suc n) ss f)

placed_all : (P : Place × Posting → Type 0) (number : ℕ) (es : List Entry) → ((place : Place) (s : Spent) → P (place, spent_posting s)) → AllByRecursion P (placed_from number (txns_of es))
placed_all P number [] f = tt
placed_all P number (e ∷ es) f =
    all_parts P (placed_in (entry_txn e) number 0 (texts e.spent)) (placed_from (suc number) (txns_of es))
    (placed_one P (entry_txn e) number 0 e.spent f) (placed_all P (suc number) es f)

postings_are : (es : List Entry) → postings_of (txns_of es) ≡ texts (all_spent es)
postings_are [] = refl
postings_are (e ∷ es) =
    ap (λ (ps : List Posting). texts e.spent ++ ps) (postings_are es)
    ∙ sym (map-append spent_posting e.spent (all_spent es))

-- A book of entries of hours solves them, as they are written.
pub solve : (es : List Entry) → total es < 2 ^ 127 → Solves (txns_of es) (txns_of es)
solve es small = record {
  unmarked = all_unmarked es;
  allowed = all_allowed es;
  made = txns_of es;
  kept = all_made es;
  balanced = all_balanced es small;
  found = all_settled es;
  assigned = placed_all (IsAssignedAt (txns_of es)) 0 es (λ place. λ s. λ (e : false ≡ true). absurd (false≢true e));
  asserted = placed_all (IsAssertedAt (txns_of es)) 0 es (λ place. λ s. tt);
  fits = ap (λ (ps : List Posting). turnover_fits (moved ps)) (postings_are es) ∙ fits (all_spent es) small;
}

-- ---- in other lines

abbrev pub respent : ℕ → List Spent → List Spent
respent line [] = []
respent line (s ∷ ss) = record s { line = line } ∷ respent (line + 1) ss

pub respent_is : (line : ℕ) (ss : List Spent) → postings_from line (texts ss) ≡ texts (respent line ss)
respent_is line [] = refl
respent_is line (s ∷ ss) = ap (λ (ps : List Posting). spent_posting (record s { line = line }) ∷ ps) (respent_is (line + 1) ss)

respent_sum : (line : ℕ) (ss : List Spent) → spent_sum (respent line ss) ≡ spent_sum ss
respent_sum line [] = refl
respent_sum line (s ∷ ss) = ap (λ (n : ℕ). s.count + n) (respent_sum (line + 1) ss)

abbrev pub relined : ℕ → List Entry → List Entry
relined line [] = []
relined line (e ∷ es) = record e { line = line; spent = respent (line + 1) e.spent } ∷ relined (line + 1 + length (texts e.spent) + 1) es

pub relined_is : (line : ℕ) (es : List Entry) → numbered line (txns_of es) ≡ txns_of (relined line es)
relined_is line [] = refl
relined_is line (e ∷ es) =
    ap (λ (ps : List Posting). record (numbered_txn line (entry_txn e)) { postings = ps } ∷ numbered (line + 1 + length (texts e.spent) + 1) (txns_of es)) (respent_is (line + 1) e.spent)
    ∙ ap (λ (ts : List Txn). entry_txn (record e { line = line; spent = respent (line + 1) e.spent }) ∷ ts) (relined_is (line + 1 + length (texts e.spent) + 1) es)

pub relined_total : (line : ℕ) (es : List Entry) → total (relined line es) ≡ total es
relined_total line [] = refl
relined_total line (e ∷ es) =
    let next = line + 1 + length (texts e.spent) + 1 in
    let here = respent_sum (line + 1) e.spent in
    let more = relined_total next es in
    omega (arith, spent_sum-append (respent (line + 1) e.spent) (all_spent (relined next es)), spent_sum-append e.spent (all_spent es), here, more)
