-- An entry of a sample is balanced: the bank pays what is spent.
use Rattle.std.proofs.Common.{ℕ, ℤ, zero, suc, pos, negsuc, neg_ℤ, unsigned_abs, ◌≡◌, ◌+◌, ◌*◌, ◌^◌, ◌<◌, ◌≤◌, ◌+ℤ◌, ◌*ℤ◌, Bool, true, false, cond, not, ◌==◌, ◌&&◌, ◌||◌, List, [], ◌∷◌, ◌++◌, map, codes, Option, Some, None, refl, ap, ◌∙◌, arith}
use Rattle.std.specs.Prelude.{filter, nat_lt}
use Rattle.std.specs.List.{fold}
use Rattle.std.specs.Str.{bytes_eq}
use Rattle.std.proofs.Math.IntN.{negsuc-*ℤ-pos, pos-*ℤ-pos, pos-+ℤ-pos}
use Rattle.std.proofs.lemmas.Bool.Decides.{nat_tests}
use Rattle.std.proofs.lemmas.Int.{ints}
use Rattle.hl_num.specs.Decimal.{Decimal, mantissa_at, negated}
use Rattle.book.specs.declared.fault.Cause.{Cause}
use Rattle.book.specs.declared.fault.Cause.TheVariants as cause
use Rattle.book.specs.declared.transaction.Posting.{Posting}
use Rattle.book.specs.declared.transaction.Side.TheVariants.{Balanced, Real}
use Rattle.book.specs.Mixed.{plus}
use Rattle.entry_balance.specs.Entry.{are_opposite, are_plain, assignment_fault, cause_alone, costed_posting, exchanges, found_posting, has_assignment, has_two_missing, fits_alone, costs_fit, is_nothing_at, left_over, misses, moved, moved_by, needed, or_nothing, precision_of, recorded_between, settled, solved, unbalanced_by, unbalanced_sums, with_postings}
use Rattle.entry_balance.specs.Tally.{are_within, is_within, no_sum, numbers_of, sums_of, symbols_in, total_of, turnover_fits}
use Rattle.entry_balance.specs.Values.{Value}
use Rattle.sample_journals.specs.Journal.{entry_at, euros, owed, paid, paying, spending}

-- ---- sums of euros

abbrev pub value : ℤ → Value
value z = (codes "EUR", euros z)

abbrev pub values : List ℤ → List Value
values [] = []
values (z ∷ zs) = value z ∷ values zs

abbrev pub total : List ℤ → ℤ
total [] = pos 0
total (z ∷ zs) = z +ℤ total zs

by_one : (z : ℤ) → z *ℤ pos 1 ≡ z
by_one (pos n) = pos-*ℤ-pos n 1 ∙ ap pos (once n)
  where
    once : (n : ℕ) → n * 1 ≡ n
    once n = omega arith
by_one (negsuc n) = negsuc-*ℤ-pos n 1 ∙ ap (λ (k : ℕ). neg_ℤ (pos k)) (once n)
  where
    once : (n : ℕ) → suc n * 1 ≡ suc n
    once n = omega arith

pub none_left : (z : ℤ) → pos 0 +ℤ z ≡ z
none_left z = omega (arith, ints)

none_right : (z : ℤ) → z ≡ z +ℤ pos 0
none_right z = omega (arith, ints)

grouped : (x y z : ℤ) → (x +ℤ y) +ℤ z ≡ x +ℤ (y +ℤ z)
grouped x y z = omega (arith, ints)

pub plus_is : (z w : ℤ) → plus (euros z) (euros w) ≡ euros (z +ℤ w)
plus_is z w = λ i. euros (by_one z i +ℤ by_one w i)

pub plus_none : (z : ℤ) → plus no_sum (euros z) ≡ euros z
plus_none z = ap (λ (w : ℤ). euros (mantissa_at no_sum 2 +ℤ w)) (by_one z) ∙ ap euros (none_left z)

abbrev pub numbers : List ℤ → List Decimal
numbers [] = []
numbers (z ∷ zs) = euros z ∷ numbers zs

fold_is : (a : ℤ) (zs : List ℤ) → fold plus (euros a) (numbers zs) ≡ euros (a +ℤ total zs)
fold_is a [] = ap euros (none_right a)
fold_is a (z ∷ zs) =
    ap (λ (d : Decimal). fold plus d (numbers zs)) (plus_is a z) ∙ fold_is (a +ℤ z) zs ∙ ap euros (grouped a z (total zs))

some_fold : (z : ℤ) (zs : List ℤ) → fold plus no_sum (numbers (z ∷ zs)) ≡ euros (total (z ∷ zs))
some_fold z zs = ap (λ (d : Decimal). fold plus d (numbers zs)) (plus_none z) ∙ fold_is z zs

numbers_are : (symbol : List ℕ) (zs : List ℤ) → bytes_eq (codes "EUR") symbol ≡ true → numbers_of symbol (values zs) ≡ numbers zs
numbers_are symbol [] e = refl
numbers_are symbol (z ∷ zs) e =
    ap (λ (t : Bool). map (λ (v : Value). v.1) (cond t (value z ∷ filter (λ v. bytes_eq v.0 symbol) (values zs)) (filter (λ v. bytes_eq v.0 symbol) (values zs)))) e
    ∙ ap (λ (ds : List Decimal). euros z ∷ ds) (numbers_are symbol zs e)

no_numbers : (symbol : List ℕ) (zs : List ℤ) → bytes_eq (codes "EUR") symbol ≡ false → numbers_of symbol (values zs) ≡ []
no_numbers symbol [] e = refl
no_numbers symbol (z ∷ zs) e =
    ap (λ (t : Bool). map (λ (v : Value). v.1) (cond t (value z ∷ filter (λ v. bytes_eq v.0 symbol) (values zs)) (filter (λ v. bytes_eq v.0 symbol) (values zs)))) e
    ∙ no_numbers symbol zs e

pub total_is : (z : ℤ) (zs : List ℤ) → total_of (codes "EUR") (values (z ∷ zs)) ≡ euros (total (z ∷ zs))
total_is z zs = ap (fold plus no_sum) (numbers_are (codes "EUR") (z ∷ zs) refl) ∙ some_fold z zs

-- ---- turnovers

abbrev pub sum : List ℕ → ℕ
sum [] = 0
sum (n ∷ ns) = n + sum ns

-- numbers without a sign
abbrev pub coins : List ℕ → List ℤ
coins [] = []
coins (n ∷ ns) = pos n ∷ coins ns

total_coins : (ns : List ℕ) → total (coins ns) ≡ pos (sum ns)
total_coins [] = refl
total_coins (n ∷ ns) = ap (λ (z : ℤ). pos n +ℤ z) (total_coins ns) ∙ pos-+ℤ-pos n (sum ns)

less : (n m : ℕ) → n < m → nat_lt n m ≡ true
less n m h = grind (arith, nat_tests)

sum_within : (ns : List ℕ) → sum ns < 2 ^ 127 → is_within (fold plus no_sum (numbers (coins ns))) ≡ true
sum_within [] small = refl
sum_within (n ∷ ns) small =
    ap is_within (some_fold (pos n) (coins ns) ∙ ap euros (total_coins (n ∷ ns))) ∙ less (sum (n ∷ ns)) (2 ^ 127) small

symbol_within : (symbol : List ℕ) (ns : List ℕ) (t : Bool) → bytes_eq (codes "EUR") symbol ≡ t → sum ns < 2 ^ 127 → is_within (total_of symbol (values (coins ns))) ≡ true
symbol_within symbol ns true e small = ap (λ (ds : List Decimal). is_within (fold plus no_sum ds)) (numbers_are symbol (coins ns) e) ∙ sum_within ns small
symbol_within symbol ns false e small = ap (λ (ds : List Decimal). is_within (fold plus no_sum ds)) (no_numbers symbol (coins ns) e)

each_within : (vs : List Value) (symbols : List (List ℕ)) → ((symbol : List ℕ) → is_within (total_of symbol vs) ≡ true)
    → are_within (map (λ symbol. (symbol, total_of symbol vs)) symbols) ≡ true
each_within vs [] f = refl
each_within vs (symbol ∷ symbols) f =
    both (is_within (total_of symbol vs)) (are_within (map (λ s. (s, total_of s vs)) symbols)) (f symbol) (each_within vs symbols f)
  where
    both : (a b : Bool) → a ≡ true → b ≡ true → (a && b) ≡ true
    both a b e f = rw (e, f) refl

pub coins_fit : (ns : List ℕ) → sum ns < 2 ^ 127 → are_within (sums_of (values (coins ns))) ≡ true
coins_fit ns small =
    each_within (values (coins ns)) (symbols_in (values (coins ns))) (λ (symbol : List ℕ). symbol_within symbol ns (bytes_eq (codes "EUR") symbol) refl small)

pub owed_size : (cents : ℕ) → unsigned_abs (owed cents) ≡ cents
owed_size zero = refl
owed_size (suc cents) = refl

-- ---- one entry

pub moved_paid : (t : Bool) (line cents spent : ℕ) → moved_by (paid t line cents spent) ≡ value (owed cents) ∷ []
moved_paid true line cents spent = refl
moved_paid false line cents spent = refl

entry_fits : (cents : ℕ) → cents ≤ 100000 → turnover_fits (value (pos cents) ∷ value (owed cents) ∷ []) ≡ true
entry_fits cents few =
    ap (λ (n : ℕ). are_within (sums_of (value (pos cents) ∷ value (pos n) ∷ []))) (owed_size cents)
    ∙ coins_fit (cents ∷ cents ∷ []) (omega arith)

abbrev negate : Value → Value
negate v = (v.0, negated v.1)

not_none : (cents : ℕ) → 1 ≤ cents → (cents == 0) ≡ false
not_none cents h = grind (arith, nat_tests)

cancels : (cents : ℕ) → pos cents +ℤ owed cents ≡ pos 0
cancels cents = omega (arith, ints)

cause_by : (a b c : Bool) (x y z w : Option Cause) → a ≡ false → b ≡ false → c ≡ true → cond a x (cond b y (cond c z w)) ≡ z
cause_by a b c x y z w ea eb ec = rw (ea, eb, ec) refl

either_none : (t : Bool) → cond {A = List Value} t [] [] ≡ []
either_none true = refl
either_none false = refl

module _ (one two kind cents spent : ℕ) (some : 1 ≤ cents) (few : cents ≤ 100000) where
  abbrev expense : Posting
  expense = spending one kind cents

  abbrev given : Bool → List Posting
  given t = expense ∷ paying t two cents spent ∷ []

  abbrev known : Bool → List Posting
  known t = expense ∷ paid t two cents spent ∷ []

  -- what is missing is found
  found_missing : solved (given false) ≡ known false
  found_missing =
      let missing = paying false two cents spent in
      ap (λ (d : Decimal). expense ∷ (map (found_posting missing) (or_nothing (needed ((codes "EUR", d) ∷ []))) ++ [])) (plus_none (pos cents))
      ∙ ap (λ (b : Bool). expense ∷ (map (found_posting missing) (or_nothing (map negate (cond (not b) (value (pos cents) ∷ []) []))) ++ [])) (not_none cents some)

  -- what is written sums to nothing
  nothing_over : left_over Real (given true) ≡ []
  nothing_over =
      let sum : plus (plus no_sum (euros (pos cents))) (euros (owed cents)) ≡ euros (pos 0) =
      ap (λ (d : Decimal). plus d (euros (owed cents))) (plus_none (pos cents)) ∙ plus_is (pos cents) (owed cents) ∙ ap euros (cancels cents) in
      ap (λ (d : Decimal). filter (λ (v : Value). not (is_nothing_at (precision_of v.0 (given true)) v.1)) ((codes "EUR", d) ∷ [])) sum

  no_exchange : exchanges (given true) ≡ false
  no_exchange = ap (λ (vs : List Value). are_plain (given true) && are_opposite vs) nothing_over

  written_whole : solved (given true) ≡ known true
  written_whole =
      let ps = given true in
      let cost = λ (b : Bool). cond {A = Option (List ℕ × Value)} b (recorded_between (left_over Real ps) ps) None in
      ap (λ (b : Bool). costed_posting (cost b) expense ∷ costed_posting (cost b) (paying true two cents spent) ∷ []) no_exchange

  pub solved_is : (t : Bool) → solved (given t) ≡ known t
  solved_is true = written_whole
  solved_is false = found_missing

  moved_known : (t : Bool) → moved (known t) ≡ value (pos cents) ∷ value (owed cents) ∷ []
  moved_known true = refl
  moved_known false = refl

  costs_known : (t : Bool) → costs_fit (given t) ≡ true
  costs_known true = refl
  costs_known false = refl

  alone : (t : Bool) → fits_alone (given t) ≡ true
  alone t =
      ap (λ (b : Bool). b && turnover_fits (moved (solved (given t)))) (costs_known t)
      ∙ ap (λ (ps : List Posting). turnover_fits (moved ps)) (solved_is t)
      ∙ ap turnover_fits (moved_known t)
      ∙ entry_fits cents few

  none_unbalanced : (t : Bool) → unbalanced_sums (given t) ≡ []
  none_unbalanced true =
      let ps = given true in
      ap (λ (vs : List Value). cond (misses Real ps || exchanges ps) [] vs ++ cond (misses Balanced ps) [] (left_over Balanced ps)) nothing_over
      ∙ ap (λ (vs : List Value). vs ++ cond (misses Balanced ps) [] (left_over Balanced ps)) (either_none (misses Real ps || exchanges ps))
  none_unbalanced false = refl

  pub balanced : (t : Bool) → cause_alone (given t) ≡ None
  balanced t =
      let ps = given t in
      cause_by (has_assignment ps) (has_two_missing ps) (fits_alone ps) (assignment_fault ps) (Some cause.TwoMissing) (unbalanced_by (unbalanced_sums ps)) (Some cause.Range)
      (none_assigned t) (none_lacking t) (alone t)
      ∙ ap unbalanced_by (none_unbalanced t)
    where
      none_assigned : (t : Bool) → has_assignment (given t) ≡ false
      none_assigned true = refl
      none_assigned false = refl

      none_lacking : (t : Bool) → has_two_missing (given t) ≡ false
      none_lacking true = refl
      none_lacking false = refl

  pub settled_is : (t : Bool) (line i : ℕ) → settled (entry_at line i expense (paying t two cents spent)) ≡ entry_at line i expense (paid t two cents spent)
  settled_is t line i = ap (λ (ps : List Posting). with_postings (entry_at line i expense (paying t two cents spent)) ps) (solved_is t)
