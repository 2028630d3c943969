-- Runs of entries of one day.
use Rattle.std.proofs.Common.{◌≡◌, ℕ, suc, ◌+◌, ◌==◌, ◌<◌, ◌≤◌, Bool, true, false, List, [], ◌∷◌, ◌++◌, length, get_or, take, drop, reverse, refl, sym, ap, ◌∙◌, arith, length-take, length-append}
use Rattle.std.proofs.lemmas.List.{length-reverse}
use Rattle.std.specs.List.{prefix_len, flat_map, take_while}
use Rattle.std.proofs.lemmas.List.Folds.{length-prefix_len}
use Rattle.std.proofs.lemmas.List.Sums.{prefix_len-le-length}
use Rattle.std.proofs.lemmas.Bool.Decides.{nat_tests}
use Rattle.std.proofs.lemmas.List.{append-nil, append_assoc, take_at, drop_at, drop_all, take_all}
use Rattle.book.specs.declared.transaction.Txn.{Txn}
use Rattle.csv_entries.specs.Ordering.{runs_of, turned_runs}

-- how many entries of a day come first
abbrev of_day : ℕ → List Txn → ℕ
of_day day ts = prefix_len (λ (t : Txn). t.day.0 == day) ts

same_day : (a b : ℕ) → (a == b) ≡ true → a ≡ b
same_day a b h = grind (arith, nat_tests)

is_same : (a b : ℕ) → a ≡ b → (a == b) ≡ true
is_same a b h = grind (arith, nat_tests)

turned_test : (a b : ℕ) → (a == b) ≡ false → (b == a) ≡ false
turned_test a b h = grind (arith, nat_tests)

cut_by : (day : ℕ) (t u : Txn) (us : List Txn) (b : Bool) → (u.day.0 == day) ≡ b → t.day.0 ≡ day
    → (u.day.0 ≡ day → runs_of (u ∷ us) ≡ (u ∷ take (of_day day us) us) ∷ runs_of (drop (of_day day us) us))
    → (runs_of (u ∷ us) ≡ (u ∷ take (of_day u.day.0 us) us) ∷ runs_of (drop (of_day u.day.0 us) us))
    → runs_of (t ∷ u ∷ us) ≡ (t ∷ take (of_day day (u ∷ us)) (u ∷ us)) ∷ runs_of (drop (of_day day (u ∷ us)) (u ∷ us))
cut_by day t u us true h e of_it own =
    let k : u.day.0 ≡ day = same_day u.day.0 day h in
    let j : (t.day.0 == u.day.0) ≡ true = is_same t.day.0 u.day.0 (e ∙ sym k) in
    let n : 1 + of_day day us ≡ suc (of_day day us) = omega arith in
    rw (of_it k, j, h, n) refl
cut_by day t u us false h e of_it own =
    let j : (t.day.0 == u.day.0) ≡ false = turned_test u.day.0 t.day.0 (rw (sym e) at h) in
    rw (h, own, j) refl

-- the first run, and those behind it
cut : (day : ℕ) (t : Txn) (ts : List Txn) → t.day.0 ≡ day → runs_of (t ∷ ts) ≡ (t ∷ take (of_day day ts) ts) ∷ runs_of (drop (of_day day ts) ts)
cut day t [] e = refl
cut day t (u ∷ us) e = cut_by day t u us (u.day.0 == day) refl e (cut day u us) (cut u.day.0 u us refl)

first_counts : (day : ℕ) (t : Txn) (ts : List Txn) → t.day.0 ≡ day → of_day day (t ∷ ts) ≡ suc (of_day day ts)
first_counts day t ts e =
    let n : 1 + of_day day ts ≡ suc (of_day day ts) = omega arith in
    rw (is_same t.day.0 day e, n) refl

pub run_cut : (ts : List Txn) (day n : ℕ) (t : Txn) → 0 < length ts → t ≡ get_or ts 0 t → day ≡ t.day.0 → n ≡ of_day day ts
    → runs_of ts ≡ take n ts ∷ runs_of (drop n ts)
run_cut [] day n t some is at e = absurd (omega arith)
run_cut (u ∷ us) day n t some is at e =
    let k : u.day.0 ≡ day = sym (at ∙ ap (λ (x : Txn). x.day.0) is) in
    rw (e, first_counts day u us k) (cut day u us k)

pub some_count : (ts : List Txn) (day n : ℕ) (t : Txn) → 0 < length ts → t ≡ get_or ts 0 t → day ≡ t.day.0 → n ≡ of_day day ts → 0 < n
some_count [] day n t some is at e = absurd (omega arith)
some_count (u ∷ us) day n t some is at e =
    let k : u.day.0 ≡ day = sym (at ∙ ap (λ (x : Txn). x.day.0) is) in
    omega (arith, e, first_counts day u us k)

-- one run more is turned
pub one_more : (whole ts new : List Txn) (at n : ℕ) → whole ≡ take at ts ++ turned_runs (drop at ts) → at ≤ length ts → n ≤ length (drop at ts)
    → runs_of (drop at ts) ≡ take n (drop at ts) ∷ runs_of (drop n (drop at ts))
    → new ≡ take at ts ++ (reverse (take n (drop at ts)) ++ drop n (drop at ts))
    → whole ≡ take (at + n) new ++ turned_runs (drop (at + n) new)
one_more whole ts new at n w le within cut is =
    let front = take at ts ++ reverse (take n (drop at ts)) in
    let size : length front ≡ at + n = omega (arith, length-append (take at ts) (reverse (take n (drop at ts))), length-reverse (take n (drop at ts)), length-take n (drop at ts), length-take at ts) in
    let joined : new ≡ front ++ drop n (drop at ts) = is ∙ sym (append_assoc (take at ts) (reverse (take n (drop at ts))) (drop n (drop at ts))) in
    rw (joined, take_at front (drop n (drop at ts)) (at + n) size, drop_at front (drop n (drop at ts)) (at + n) size)
    (w ∙ ap (λ rs. take at ts ++ flat_map reverse rs) cut ∙ sym (append_assoc (take at ts) (reverse (take n (drop at ts))) (turned_runs (drop n (drop at ts)))))

pub all_done : (whole ts : List Txn) (at : ℕ) → whole ≡ take at ts ++ turned_runs (drop at ts) → length ts ≤ at → ts ≡ whole
all_done whole ts at w le = sym (rw (drop_all at ts le, take_all at ts le) at w ∙ append-nil ts)

pub starts : (ts : List Txn) → turned_runs ts ≡ take 0 ts ++ turned_runs (drop 0 ts)
starts ts = refl

pub counted : (day : ℕ) (ts : List Txn) → length (take_while (λ (t : Txn). t.day.0 == day) ts) ≡ prefix_len (λ (t : Txn). t.day.0 == day) ts
counted day ts = length-prefix_len (λ (t : Txn). t.day.0 == day) ts

pub within : (day : ℕ) (ts : List Txn) → prefix_len (λ (t : Txn). t.day.0 == day) ts ≤ length ts
within day ts = prefix_len-le-length (λ (t : Txn). t.day.0 == day) ts
