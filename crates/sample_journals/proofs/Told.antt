-- What the line of a sample says of its book.
use Rattle.std.proofs.Common.{ℕ, zero, suc, ◌≡◌, ◌≢◌, ◌+◌, ◌*◌, ◌<◌, ◌≤◌, inl, inr, Bool, true, false, cond, ◌==◌, ◌||◌, List, [], ◌∷◌, ◌++◌, length, map, codes, refl, sym, ap, subst, ◌∙◌, arith}
use Rattle.std.specs.BTreeSet.{insert_key}
use Rattle.std.specs.Cmp.{nat_cmp_is}
use Rattle.std.specs.Fmt.{decimal}
use Rattle.std.specs.Ordering.{match_ordering, nat_cmp}
use Rattle.std.specs.declared.cmp.Ordering.{Ordering}
use Rattle.std.specs.declared.cmp.Ordering.TheVariants.{Greater, Less}
use Rattle.std.proofs.lemmas.Bool.{cases_lt}
use Rattle.std.proofs.lemmas.Cmp.{tied_itself}
use Rattle.std.proofs.lemmas.Bool.Decides.{nat_tests}
use Rattle.std.proofs.lemmas.Fmt.{decimal_digit}
use Rattle.book.specs.Accounts.{account_cmp, accounts_of, byte_order}
use Rattle.book.specs.Order.{each_once}
use Rattle.book.specs.Postings.{postings_of}
use Rattle.book.specs.declared.transaction.Posting.{Posting}
use Rattle.book.proofs.Accounts.{account_total, heads_differ, heads_same}
use Rattle.assertions.specs.Assertions.{held_by, held_in}
use Rattle.entry_balance.specs.Tally.{total_of}
use Rattle.entry_balance.specs.Values.{Value}
use Rattle.sample_text.specs.Sample.{is_used, kind_of, kinds_used, number_of, one_if, spent_by}
use Rattle.sample_journals.specs.Journal.{bank, cents_in, euros, expense, found_from, owed, paid, IsTold, tells}
use Rattle.sample_journals.proofs.Balanced.{none_left, total, total_is, value, values}
use Rattle.sample_journals.proofs.Numbers.{kind_small}
use Rattle.sample_journals.proofs.Sums.{debts, debts_are}

-- ---- the transactions

found_count : (count i m : ℕ) → length (found_from count i m) ≡ m
found_count count i zero = refl
found_count count i (suc m) = ap suc (found_count count (suc i) m)

-- ---- the bank

held_paid : (t : Bool) (line cents spent : ℕ) → held_by false bank (paid t line cents spent) ≡ value (owed cents) ∷ []
held_paid true line cents spent = refl
held_paid false line cents spent = refl

held_are : (count i m : ℕ) → held_in false bank (postings_of (found_from count i m)) ≡ values (debts count i m)
held_are count i zero = refl
held_are count i (suc m) =
    ap (λ (vs : List Value). vs ++ held_in false bank (postings_of (found_from count (suc i) m))) (held_paid (tells i) (3 * i + 3) (cents_in count i) (spent_by count (suc i)))
    ∙ ap (λ (vs : List Value). value (owed (cents_in count i)) ∷ vs) (held_are count (suc i) m)

bank_holds : (count m : ℕ) → count ≡ suc m → total_of (codes "EUR") (held_in false bank (postings_of (found_from count 0 (suc m)))) ≡ euros (owed (spent_by count count))
bank_holds count m is =
    ap (total_of (codes "EUR")) (held_are count 0 (suc m))
    ∙ total_is (owed (cents_in count 0)) (debts count 1 m)
    ∙ ap euros (sym (none_left (total (debts count 0 (suc m)))) ∙ debts_are count 0 (suc m) count (omega arith))

-- ---- the order of accounts

same_front : (front xs ys : List ℕ) → account_cmp (front ++ xs) (front ++ ys) ≡ account_cmp xs ys
same_front [] xs ys = refl
same_front (b ∷ bs) xs ys = heads_same b (bs ++ xs) (bs ++ ys) ∙ same_front bs xs ys

kinds_by : (j k : ℕ) → j < 10 → k < 10 → account_cmp (expense j) (expense k) ≡ account_cmp ((48 + j) ∷ []) ((48 + k) ∷ [])
kinds_by j k small few =
    same_front (codes "expenses:e") (decimal j) (decimal k) ∙ (λ i. account_cmp (decimal_digit j small i) (decimal_digit k few i))

digit_order : (j k : ℕ) (r : Ordering) → j < 10 → k < 10 → r ≡ nat_cmp (48 + j) (48 + k) → byte_order (48 + j) (48 + k) ≡ r
digit_order j k r small few is =
    let one = apart j small in
    let two = apart k few in
    rw (one, two) (sym is)
  where
    apart : (n : ℕ) → n < 10 → (48 + n == 58) ≡ false
    apart n h = grind (arith, nat_tests)

less_kind : (j k : ℕ) → j < k → k < 10 → account_cmp (expense j) (expense k) ≡ Less
less_kind j k less few =
    let small : j < 10 = omega arith in
    let test : 48 + j < 48 + k = omega arith in
    kinds_by j k small few
    ∙ heads_differ (48 + j) (48 + k) [] [] (λ (e : 48 + j ≡ 48 + k). omega (arith, e))
    ∙ digit_order j k Less small few (nat_cmp_is (48 + j) (48 + k) Less test)

more_kind : (j k : ℕ) → k < j → j < 10 → account_cmp (expense j) (expense k) ≡ Greater
more_kind j k more small =
    let few : k < 10 = omega arith in
    let test : 48 + k < 48 + j = omega arith in
    kinds_by j k small few
    ∙ heads_differ (48 + j) (48 + k) [] [] (λ (e : 48 + j ≡ 48 + k). omega (arith, e))
    ∙ digit_order j k Greater small few (nat_cmp_is (48 + j) (48 + k) Greater test)

-- ---- the kinds that are used

-- those of so many kinds from one on that pass
abbrev pick : (ℕ → Bool) → ℕ → ℕ → List (List ℕ)
pick u k zero = []
pick u k (suc n) = cond (u k) (expense k ∷ pick u (suc k) n) (pick u (suc k) n)

abbrev or_kind : (ℕ → Bool) → ℕ → ℕ → Bool
or_kind u j k = u k || (j == k)

abbrev insert : List (List ℕ) → List ℕ → List (List ℕ)
insert names name = insert_key account_cmp names name

test_other : (j k : ℕ) → j ≢ k → (j == k) ≡ false
test_other j k h = grind (arith, nat_tests)

test_same : (j k : ℕ) → j ≡ k → (j == k) ≡ true
test_same j k h = grind (arith, nat_tests)

or_false : (a : Bool) → (a || false) ≡ a
or_false true = refl
or_false false = refl

or_true : (a : Bool) → (a || true) ≡ true
or_true true = refl
or_true false = refl

-- a kind before all others changes nothing of them
same_later : (u : ℕ → Bool) (j k n : ℕ) → j < k → pick (or_kind u j) k n ≡ pick u k n
same_later u j k zero less = refl
same_later u j k (suc n) less =
    let other : (j == k) ≡ false = test_other j k (λ (e : j ≡ k). omega (arith, e)) in
    ap (λ (b : Bool). cond (u k || b) (expense k ∷ pick (or_kind u j) (suc k) n) (pick (or_kind u j) (suc k) n)) other
    ∙ ap (λ (b : Bool). cond b (expense k ∷ pick (or_kind u j) (suc k) n) (pick (or_kind u j) (suc k) n)) (or_false (u k))
    ∙ ap (λ (ns : List (List ℕ)). cond (u k) (expense k ∷ ns) ns) (same_later u j (suc k) n (omega arith))

-- and stands before them
put_first : (u : ℕ → Bool) (j k n : ℕ) → j < k → k + n ≤ 10 → insert (pick u k n) (expense j) ≡ expense j ∷ pick u k n
put_first u j k zero less few = refl
put_first u j k (suc n) less few =
    elim (u k) as (λ b. insert (cond b (expense k ∷ pick u (suc k) n) (pick u (suc k) n)) (expense j) ≡ expense j ∷ cond b (expense k ∷ pick u (suc k) n) (pick u (suc k) n)) [
      | true ↦ ap (λ (o : Ordering). match_ordering o (expense j ∷ expense k ∷ pick u (suc k) n) (expense k ∷ pick u (suc k) n) (expense k ∷ insert (pick u (suc k) n) (expense j))) (less_kind j k less (omega arith))
      | false ↦ put_first u j (suc k) n (omega arith) (omega arith)
    ]

put_here : (u : ℕ → Bool) (j n : ℕ) → j + suc n ≤ 10 → insert (pick u j (suc n)) (expense j) ≡ expense j ∷ pick u (suc j) n
put_here u j n few =
    elim (u j) as (λ b. insert (cond b (expense j ∷ pick u (suc j) n) (pick u (suc j) n)) (expense j) ≡ expense j ∷ pick u (suc j) n) [
      | true ↦ ap (λ (o : Ordering). match_ordering o (expense j ∷ expense j ∷ pick u (suc j) n) (expense j ∷ pick u (suc j) n) (expense j ∷ insert (pick u (suc j) n) (expense j))) (tied_itself account_total (expense j))
      | false ↦ put_first u j (suc j) n (omega arith) (omega arith)
    ]

put_kind : (u : ℕ → Bool) (j k n : ℕ) → k ≤ j → j < k + n → k + n ≤ 10 → insert (pick u k n) (expense j) ≡ pick (or_kind u j) k n
put_kind u j k zero most less few = absurd (omega arith)
put_kind u j k (suc n) most less few =
    elim (cases_lt k j) [
      | inl later ↦ (
          let other : (j == k) ≡ false = test_other j k (λ (e : j ≡ k). omega (arith, e)) in
          let rest = put_kind u j (suc k) n (omega arith) (omega arith) (omega arith) in
          further u j k n later (omega arith) rest
          ∙ sym (ap (λ (b : Bool). cond (u k || b) (expense k ∷ pick (or_kind u j) (suc k) n) (pick (or_kind u j) (suc k) n)) other
          ∙ ap (λ (b : Bool). cond b (expense k ∷ pick (or_kind u j) (suc k) n) (pick (or_kind u j) (suc k) n)) (or_false (u k))))
      | inr le ↦ (
          let same : k ≡ j = omega arith in
          subst (λ (x : ℕ). insert (pick u x (suc n)) (expense j) ≡ pick (or_kind u j) x (suc n)) (sym same)
          (put_here u j n (omega arith)
          ∙ sym (ap (λ (b : Bool). cond (u j || b) (expense j ∷ pick (or_kind u j) (suc j) n) (pick (or_kind u j) (suc j) n)) (test_same j j refl)
          ∙ ap (λ (b : Bool). cond b (expense j ∷ pick (or_kind u j) (suc j) n) (pick (or_kind u j) (suc j) n)) (or_true (u j))
          ∙ ap (λ (ns : List (List ℕ)). expense j ∷ ns) (same_later u j (suc j) n (omega arith)))))
    ]
  where
    further : (u : ℕ → Bool) (j k n : ℕ) → k < j → j < 10 → insert (pick u (suc k) n) (expense j) ≡ pick (or_kind u j) (suc k) n
        → insert (pick u k (suc n)) (expense j) ≡ cond (u k) (expense k ∷ pick (or_kind u j) (suc k) n) (pick (or_kind u j) (suc k) n)
    further u j k n later small rest =
        elim (u k) as (λ b. insert (cond b (expense k ∷ pick u (suc k) n) (pick u (suc k) n)) (expense j) ≡ cond b (expense k ∷ pick (or_kind u j) (suc k) n) (pick (or_kind u j) (suc k) n)) [
          | true ↦ ap (λ (o : Ordering). match_ordering o (expense j ∷ expense k ∷ pick u (suc k) n) (expense k ∷ pick u (suc k) n) (expense k ∷ insert (pick u (suc k) n) (expense j))) (more_kind j k later small)
              ∙ ap (λ (ns : List (List ℕ)). expense k ∷ ns) rest
          | false ↦ rest
        ]

-- the kinds of so many entries from one on
abbrev used : ℕ → ℕ → ℕ → ℕ → Bool
used count i zero = λ k. false
used count i (suc m) = or_kind (used count (suc i) m) (kind_of (number_of count i))

abbrev names : ℕ → ℕ → ℕ → List (List ℕ)
names count i zero = []
names count i (suc m) = expense (kind_of (number_of count i)) ∷ bank ∷ names count (suc i) m

paid_account : (t : Bool) (line cents spent : ℕ) → (paid t line cents spent).account ≡ bank
paid_account true line cents spent = refl
paid_account false line cents spent = refl

names_are : (count i m : ℕ) → map (λ (p : Posting). p.account) (postings_of (found_from count i m)) ≡ names count i m
names_are count i zero = refl
names_are count i (suc m) =
    ap (λ (n : List ℕ). expense (kind_of (number_of count i)) ∷ n ∷ map (λ (p : Posting). p.account) (postings_of (found_from count (suc i) m))) (paid_account (tells i) (3 * i + 3) (cents_in count i) (spent_by count (suc i)))
    ∙ ap (λ (ns : List (List ℕ)). expense (kind_of (number_of count i)) ∷ bank ∷ ns) (names_are count (suc i) m)

-- the bank stands first
with_bank : (names : List (List ℕ)) → insert (bank ∷ names) bank ≡ bank ∷ names
with_bank names = refl

behind_bank : (names : List (List ℕ)) (j : ℕ) → insert (bank ∷ names) (expense j) ≡ bank ∷ insert names (expense j)
behind_bank names j = refl

next_names : (count i m : ℕ) (before : List (List ℕ)) → insert before bank ≡ bank ∷ pick (used count (suc i) m) 0 10
    → insert (insert before bank) (expense (kind_of (number_of count i))) ≡ bank ∷ pick (used count i (suc m)) 0 10
next_names count i m before is =
    let k = kind_of (number_of count i) in
    ap (λ (ns : List (List ℕ)). insert ns (expense k)) is
    ∙ behind_bank (pick (used count (suc i) m) 0 10) k
    ∙ ap (λ (ns : List (List ℕ)). bank ∷ ns) (put_kind (used count (suc i) m) k 0 10 (omega arith) (kind_small (number_of count i)) (omega arith))

names_once : (count i m : ℕ) → each_once account_cmp (names count i (suc m)) ≡ bank ∷ pick (used count i (suc m)) 0 10
names_once count i zero = next_names count i zero [] refl
names_once count i (suc m) =
    next_names count i (suc m) (each_once account_cmp (names count (suc i) (suc m)))
    (ap (λ (ns : List (List ℕ)). insert ns bank) (names_once count (suc i) m) ∙ with_bank (pick (used count (suc i) (suc m)) 0 10))

-- ---- how many there are

regroup : (a b c : Bool) → (a || (c || b)) ≡ ((a || b) || c)
regroup true b c = refl
regroup false true true = refl
regroup false true false = refl
regroup false false true = refl
regroup false false false = refl

is_used-split : (count kind i m n : ℕ) → n ≡ i + m → is_used count kind n ≡ (is_used count kind i || used count i m kind)
is_used-split count kind i zero n is =
    let same : n ≡ i = omega arith in
    ap (is_used count kind) same ∙ sym (or_false (is_used count kind i))
is_used-split count kind i (suc m) n is =
    is_used-split count kind (suc i) m n (omega arith)
    ∙ sym (regroup (is_used count kind i) (kind_of (number_of count i) == kind) (used count (suc i) m kind))

picked_length : (b : Bool) (name : List ℕ) (ns : List (List ℕ)) → length (cond b (name ∷ ns) ns) ≡ one_if b + length ns
picked_length true name ns = omega arith
picked_length false name ns = omega arith

kinds_counted : (count k n most : ℕ) → most ≡ k + n → kinds_used count most ≡ kinds_used count k + length (pick (used count 0 count) k n)
kinds_counted count k zero most is =
    let same : most ≡ k = omega arith in
    ap (kinds_used count) same ∙ none (kinds_used count k)
  where
    none : (n : ℕ) → n ≡ n + 0
    none n = omega arith
kinds_counted count k (suc n) most is =
    let u = used count 0 count in
    let here : is_used count k count ≡ u k = is_used-split count k 0 count count (omega arith) in
    let rest = kinds_counted count (suc k) n most (omega arith) in
    let one = picked_length (u k) (expense k) (pick u (suc k) n) in
    let same = ap one_if here in
    omega (arith, rest, one, same)

accounts_counted : (count m : ℕ) → count ≡ suc m → length (accounts_of (postings_of (found_from count 0 (suc m)))) ≡ 1 + length (pick (used count 0 (suc m)) 0 10)
accounts_counted count m is =
    ap (λ (ns : List (List ℕ)). length (each_once account_cmp ns)) (names_are count 0 (suc m))
    ∙ ap length (names_once count 0 m)
    ∙ next (length (pick (used count 0 (suc m)) 0 10))
  where
    next : (n : ℕ) → suc n ≡ 1 + n
    next n = omega arith

-- What the line of a sample says is so of its book.
pub told : (count : ℕ) → 1 ≤ count → IsTold count
told zero some = absurd (omega arith)
told (suc m) some =
    let count = suc m in
    let kinds : length (pick (used count 0 count) 0 10) ≡ kinds_used count 10 = omega (arith, kinds_counted count 0 10 10 (omega arith)) in
    record {
      transactions = found_count count 0 count;
      accounts = accounts_counted count m refl ∙ ap (λ (n : ℕ). 1 + n) kinds;
      bank = bank_holds count m refl;
    }
