-- What the bank holds at each of its assertions.
use Rattle.std.proofs.Common.{ℕ, ℤ, zero, suc, pos, ◌≡◌, ◌+◌, ◌*◌, ◌^◌, ◌<◌, ◌≤◌, inl, inr, ◌+ℤ◌, Bool, true, false, ◌==◌, ◌&&◌, ◌||◌, List, [], ◌∷◌, ◌++◌, map, codes, None, refl, sym, ap, subst, ◌∙◌, arith}
use Rattle.std.specs.Prelude.{filter, nat_lt}
use Rattle.std.specs.Cmp.{int_cmp_is}
use Rattle.std.specs.Ordering.{int_cmp, is_eq}
use Rattle.std.specs.declared.cmp.Ordering.TheVariants.{Equal}
use Rattle.std.specs.List.{list_all, AllByRecursion}
use Rattle.std.proofs.lemmas.Bool.{cases_lt, false≢true}
use Rattle.std.proofs.lemmas.Bool.Decides.{nat_tests}
use Rattle.std.proofs.lemmas.Int.{ints}
use Rattle.hl_num.specs.Decimal.{Decimal, units_of}
use Rattle.book.specs.declared.transaction.Posting.{Posting}
use Rattle.book.specs.declared.transaction.Txn.{Txn}
use Rattle.book.specs.Postings.{postings_of}
use Rattle.book.specs.SumsBefore.{is_assigned, is_before, is_of, Place, placed_from, placed_in}
use Rattle.assertions.specs.Assertions.{is_same}
use Rattle.entry_balance.specs.Entry.{cause_alone, moved, settled}
use Rattle.entry_balance.specs.Tally.{are_within, sums_of, total_of, turnover_fits}
use Rattle.entry_balance.specs.Values.{absolute_value, Value}
use Rattle.balancing.specs.Solves.{are_unmarked, AreMadeTxns, is_allowed, IsAssertedAt, IsAssignedAt, IsMade, is_unmarked, Solves, values_before, values_of}
use Rattle.sample_text.specs.Sample.{kind_of, number_of, spent_by}
use Rattle.sample_journals.specs.Journal.{bank, cents_in, day_of, entry_at, euros, expense, found, found_from, owed, paid, paying, spending, spending_in, tells, written, written_from}
use Rattle.sample_journals.proofs.Balanced.{balanced, coins, coins_fit, moved_paid, none_left, owed_size, settled_is, sum, total, total_is, value, values}
use Rattle.sample_journals.proofs.Numbers.{cents_few, cents_some}

-- ---- the postings with their places

abbrev Spot : Type 0
Spot = Place × Posting

abbrev place : ℕ → ℕ → ℕ → Place
place day i n = record { day = day; txn = i; posting = n }

abbrev paid_in : ℕ → ℕ → Posting
paid_in count i = paid (tells i) (3 * i + 3) (cents_in count i) (spent_by count (suc i))

abbrev spots : ℕ → ℕ → ℕ → List Spot
spots count i zero = []
spots count i (suc m) = (place (day_of i) i 0, spending_in count i) ∷ (place (day_of i) i 1, paid_in count i) ∷ spots count (suc i) m

placed_one : (t : Bool) (line i one kind two cents spent : ℕ)
    → placed_in (entry_at line i (spending one kind cents) (paid t two cents spent)) i 0 (spending one kind cents ∷ paid t two cents spent ∷ [])
    ≡ (place (day_of i) i 0, spending one kind cents) ∷ (place (day_of i) i 1, paid t two cents spent) ∷ []
placed_one true line i one kind two cents spent = refl
placed_one false line i one kind two cents spent = refl

placed_are : (count i m : ℕ) → placed_from i (found_from count i m) ≡ spots count i m
placed_are count i zero = refl
placed_are count i (suc m) =
    ap (λ (ps : List Spot). ps ++ placed_from (suc i) (found_from count (suc i) m))
    (placed_one (tells i) (3 * i + 1) i (3 * i + 2) (kind_of (number_of count i)) (3 * i + 3) (cents_in count i) (spent_by count (suc i)))
    ∙ ap (λ (ps : List Spot). (place (day_of i) i 0, spending_in count i) ∷ (place (day_of i) i 1, paid_in count i) ∷ ps) (placed_are count (suc i) m)

-- ---- what stands before a place

test_less : (a b : ℕ) → a < b → nat_lt a b ≡ true
test_less a b h = grind (arith, nat_tests)

test_most : (a b : ℕ) → b ≤ a → nat_lt a b ≡ false
test_most a b h = grind (arith, nat_tests)

test_same : (a b : ℕ) → a ≡ b → (a == b) ≡ true
test_same a b h = grind (arith, nat_tests)

or_true : (a : Bool) → (a || true) ≡ true
or_true true = refl
or_true false = refl

and_false : (a : Bool) → (a && false) ≡ false
and_false true = refl
and_false false = refl

-- just after the second posting of an entry
abbrev after_paid : ℕ → Place
after_paid i = place (day_of i) i 2

days_rise : (k i : ℕ) → k ≤ i → day_of k ≤ day_of i
days_rise k i h = omega arith

second_before : (d e k i : ℕ) → d ≤ e → k ≤ i → is_before (place d k 1) (place e i 2) ≡ true
second_before d e k i h most =
    elim (cases_lt d e) [
      | inl less ↦ (let test = test_less d e less in rw test refl)
      | inr le ↦ (
          let same = test_same d e (omega arith) in
          elim (cases_lt k i) [
            | inl fewer ↦ (let one = test_less k i fewer in rw (same, one) (or_true (nat_lt d e)))
            | inr ge ↦ (let one = test_same k i (omega arith) in rw (same, one) (ap (λ (b : Bool). nat_lt d e || b) (or_true (nat_lt k i)) ∙ or_true (nat_lt d e)))
          ])
    ]

later_by : (a b c d e : Bool) → a ≡ false → c ≡ false → d ≡ false → (a || (b && (c || (d && e)))) ≡ false
later_by a b c d e ha hc hd = rw (ha, hc, hd) (and_false b)

later_not : (d e k i n : ℕ) → e ≤ d → i < k → is_before (place d k n) (place e i 2) ≡ false
later_not d e k i n h more =
    later_by (nat_lt d e) (d == e) (nat_lt k i) (k == i) (nat_lt n 2) (test_most d e h) (test_most k i (omega arith)) (test_other k i more)
  where
    test_other : (a b : ℕ) → b < a → (a == b) ≡ false
    test_other a b h = grind (arith, nat_tests)

-- a posting of the bank before the place
abbrev counts : ℕ → Spot → Bool
counts i e = is_before e.0 (after_paid i) && is_of bank false e.1.account

abbrev sums_at : ℕ → List Spot → List Value
sums_at i es = values_of (map (λ e. e.1) (filter (counts i) es))

bank_account : (t : Bool) (line cents spent : ℕ) → is_of bank false (paid t line cents spent).account ≡ true
bank_account true line cents spent = refl
bank_account false line cents spent = refl

expense_account : (kind : ℕ) → is_of bank false (expense kind) ≡ false
expense_account kind = refl

paid_value : (t : Bool) (line cents spent : ℕ) (ps : List Posting) → values_of (paid t line cents spent ∷ ps) ≡ value (owed cents) ∷ values_of ps
paid_value true line cents spent ps = refl
paid_value false line cents spent ps = refl

kept_second : (p : Spot → Bool) (a b : Spot) (es : List Spot) → p a ≡ false → p b ≡ true → filter p (a ∷ b ∷ es) ≡ b ∷ filter p es
kept_second p a b es ea eb = rw (ea, eb) refl

kept_none : (p : Spot → Bool) (a b : Spot) (es : List Spot) → p a ≡ false → p b ≡ false → filter p (a ∷ b ∷ es) ≡ filter p es
kept_none p a b es ea eb = rw (ea, eb) refl

both_true : (a b : Bool) → a ≡ true → b ≡ true → (a && b) ≡ true
both_true a b ea eb = rw (ea, eb) refl

first_false : (a b : Bool) → a ≡ false → (a && b) ≡ false
first_false a b ea = rw ea refl

expense_out : (count i k : ℕ) → counts i (place (day_of k) k 0, spending_in count k) ≡ false
expense_out count i k = and_false (is_before (place (day_of k) k 0) (after_paid i))

none_later : (count i k m : ℕ) → i < k → sums_at i (spots count k m) ≡ []
none_later count i k zero more = refl
none_later count i k (suc m) more =
    let first : Spot = (place (day_of k) k 0, spending_in count k) in
    let second : Spot = (place (day_of k) k 1, paid_in count k) in
    let out : counts i second ≡ false =
    first_false (is_before (place (day_of k) k 1) (after_paid i)) (is_of bank false (paid_in count k).account)
    (later_not (day_of k) (day_of i) k i 1 (days_rise i k (omega arith)) more) in
    ap (λ (es : List Spot). values_of (map (λ (e : Spot). e.1) es)) (kept_none (counts i) first second (spots count (suc k) m) (expense_out count i k) out)
    ∙ none_later count i (suc k) m (omega arith)

-- what so many entries from one on owe
abbrev pub debts : ℕ → ℕ → ℕ → List ℤ
debts count k zero = []
debts count k (suc j) = owed (cents_in count k) ∷ debts count (suc k) j

all_before : (count i k j n m : ℕ) → k + j ≡ suc i → n ≡ j + m → sums_at i (spots count k n) ≡ values (debts count k j)
all_before count i k zero n m is en = none_later count i k n (omega arith)
all_before count i k (suc j) zero m is en = absurd (omega arith)
all_before count i k (suc j) (suc n) m is en =
    let first : Spot = (place (day_of k) k 0, spending_in count k) in
    let second : Spot = (place (day_of k) k 1, paid_in count k) in
    let most : k ≤ i = omega arith in
    let counted : counts i second ≡ true =
    both_true (is_before (place (day_of k) k 1) (after_paid i)) (is_of bank false (paid_in count k).account)
    (second_before (day_of k) (day_of i) k i (days_rise k i most) most) (bank_account (tells k) (3 * k + 3) (cents_in count k) (spent_by count (suc k))) in
    ap (λ (es : List Spot). values_of (map (λ (e : Spot). e.1) es)) (kept_second (counts i) first second (spots count (suc k) n) (expense_out count i k) counted)
    ∙ paid_value (tells k) (3 * k + 3) (cents_in count k) (spent_by count (suc k)) (map (λ (e : Spot). e.1) (filter (counts i) (spots count (suc k) n)))
    ∙ ap (λ (vs : List Value). value (owed (cents_in count k)) ∷ vs) (all_before count i (suc k) j n m (omega arith) (omega arith))

-- ---- what the bank holds

owed_both : (a b : ℕ) (z : ℤ) → owed a +ℤ (owed b +ℤ z) ≡ owed (a + b) +ℤ z
owed_both a b z = omega (arith, ints)

owed_none : (a : ℕ) → owed a +ℤ pos 0 ≡ owed a
owed_none a = omega (arith, ints)

pub debts_are : (count k j n : ℕ) → n ≡ k + j → owed (spent_by count k) +ℤ total (debts count k j) ≡ owed (spent_by count n)
debts_are count k zero n is =
    let same : k ≡ n = omega arith in
    owed_none (spent_by count k) ∙ ap (λ (l : ℕ). owed (spent_by count l)) same
debts_are count k (suc j) n is =
    owed_both (spent_by count k) (cents_in count k) (total (debts count (suc k) j)) ∙ debts_are count (suc k) j n (omega arith)

held : (count i m n : ℕ) → n ≡ suc i + m → total_of (codes "EUR") (sums_at i (spots count 0 n)) ≡ euros (owed (spent_by count (suc i)))
held count i m n is =
    ap (total_of (codes "EUR")) (all_before count i 0 (suc i) n m (omega arith) (omega arith))
    ∙ total_is (owed (cents_in count 0)) (debts count 1 i)
    ∙ ap euros (sym (none_left (total (debts count 0 (suc i)))) ∙ debts_are count 0 (suc i) (suc i) (omega arith))

same_number : (a b : Decimal) → a ≡ b → is_same a b ≡ true
same_number a b e =
    let u = units_of b in
    let is : Equal ≡ int_cmp u u = int_cmp_is u u Equal refl in
    ap (λ (d : Decimal). is_same d b) e ∙ ap is_eq (sym is)

-- ---- all of a sample's journal

abbrev book : ℕ → List Txn
book count = found_from count 0 count

values_are : (count i : ℕ) → values_before (book count) bank false (after_paid i) ≡ sums_at i (spots count 0 count)
values_are count i = ap (sums_at i) (placed_are count 0 count)

asserted_by : (t : Bool) (count i line cents m : ℕ) → count ≡ suc i + m → IsAssertedAt (book count) (place (day_of i) i 1, paid t line cents (spent_by count (suc i)))
asserted_by true count i line cents m is = record {
  sum = same_number (total_of (codes "EUR") (values_before (book count) bank false (after_paid i))) (euros (owed (spent_by count (suc i))))
      (ap (total_of (codes "EUR")) (values_are count i) ∙ held count i m count is);
  only = λ (e : false ≡ true). absurd (false≢true e);
}
asserted_by false count i line cents m is = tt

all_asserted : (count i m : ℕ) → count ≡ i + m → AllByRecursion (IsAssertedAt (book count)) (spots count i m)
all_asserted count i zero is = tt
all_asserted count i (suc m) is =
    (tt, (asserted_by (tells i) count i (3 * i + 3) (cents_in count i) m (omega arith), all_asserted count (suc i) m (omega arith)))

not_assigned : (t : Bool) (line cents spent : ℕ) → is_assigned (paid t line cents spent) ≡ false
not_assigned true line cents spent = refl
not_assigned false line cents spent = refl

all_assigned : (count i m : ℕ) → AllByRecursion (IsAssignedAt (book count)) (spots count i m)
all_assigned count i zero = tt
all_assigned count i (suc m) = (
  (λ (e : false ≡ true). absurd (false≢true e)),
  (
    (λ (e : is_assigned (paid_in count i) ≡ true). absurd (false≢true (sym (not_assigned (tells i) (3 * i + 3) (cents_in count i) (spent_by count (suc i))) ∙ e))),
    all_assigned count (suc i) m,
  ),
)

-- ---- what is moved

abbrev flows : ℕ → ℕ → ℕ → List ℤ
flows count i zero = []
flows count i (suc m) = pos (cents_in count i) ∷ owed (cents_in count i) ∷ flows count (suc i) m

abbrev sizes : ℕ → ℕ → ℕ → List ℕ
sizes count i zero = []
sizes count i (suc m) = cents_in count i ∷ cents_in count i ∷ sizes count (suc i) m

moved_are : (count i m : ℕ) → moved (postings_of (found_from count i m)) ≡ values (flows count i m)
moved_are count i zero = refl
moved_are count i (suc m) =
    ap (λ (vs : List Value). value (pos (cents_in count i)) ∷ (vs ++ moved (postings_of (found_from count (suc i) m)))) (moved_paid (tells i) (3 * i + 3) (cents_in count i) (spent_by count (suc i)))
    ∙ ap (λ (vs : List Value). value (pos (cents_in count i)) ∷ value (owed (cents_in count i)) ∷ vs) (moved_are count (suc i) m)

absolute_are : (count i m : ℕ) → map absolute_value (values (flows count i m)) ≡ values (coins (sizes count i m))
absolute_are count i zero = refl
absolute_are count i (suc m) =
    ap (λ (n : ℕ). value (pos (cents_in count i)) ∷ value (pos n) ∷ map absolute_value (values (flows count (suc i) m))) (owed_size (cents_in count i))
    ∙ ap (λ (vs : List Value). value (pos (cents_in count i)) ∷ value (pos (cents_in count i)) ∷ vs) (absolute_are count (suc i) m)

sizes_few : (count i m : ℕ) → sum (sizes count i m) ≤ 200000 * m
sizes_few count i zero = omega arith
sizes_few count i (suc m) = omega (arith, cents_few (number_of count i), sizes_few count (suc i) m)

all_fit : (count : ℕ) → count ≤ 100000 → turnover_fits (moved (postings_of (book count))) ≡ true
all_fit count few =
    let most = sizes_few count 0 count in
    let small : sum (sizes count 0 count) < 2 ^ 127 = omega arith in
    ap turnover_fits (moved_are count 0 count)
    ∙ ap (λ (vs : List Value). are_within (sums_of vs)) (absolute_are count 0 count)
    ∙ coins_fit (sizes count 0 count) small

-- ---- what is written

unmarked_paying : (t : Bool) (line cents spent : ℕ) → is_unmarked (paying t line cents spent) ≡ true
unmarked_paying true line cents spent = refl
unmarked_paying false line cents spent = refl

unmarked_one : (t : Bool) (one kind two cents spent : ℕ) → list_all is_unmarked (spending one kind cents ∷ paying t two cents spent ∷ []) ≡ true
unmarked_one true one kind two cents spent = refl
unmarked_one false one kind two cents spent = refl

allowed_one : (t : Bool) (line i one kind two cents spent : ℕ) → is_allowed (entry_at line i (spending one kind cents) (paying t two cents spent)) ≡ true
allowed_one true line i one kind two cents spent = refl
allowed_one false line i one kind two cents spent = refl

made_paying : (t : Bool) (line cents spent : ℕ) → IsMade (paying t line cents spent) (paying t line cents spent)
made_paying true line cents spent = refl
made_paying false line cents spent = refl

all_unmarked : (count i m : ℕ) → are_unmarked (written_from count i m) ≡ true
all_unmarked count i zero = refl
all_unmarked count i (suc m) =
    both_true (list_all is_unmarked (written count i).postings) (are_unmarked (written_from count (suc i) m))
    (unmarked_one (tells i) (3 * i + 2) (kind_of (number_of count i)) (3 * i + 3) (cents_in count i) (spent_by count (suc i))) (all_unmarked count (suc i) m)

all_allowed : (count i m : ℕ) → list_all is_allowed (written_from count i m) ≡ true
all_allowed count i zero = refl
all_allowed count i (suc m) =
    both_true (is_allowed (written count i)) (list_all is_allowed (written_from count (suc i) m))
    (allowed_one (tells i) (3 * i + 1) i (3 * i + 2) (kind_of (number_of count i)) (3 * i + 3) (cents_in count i) (spent_by count (suc i))) (all_allowed count (suc i) m)

all_made : (count i m : ℕ) → AreMadeTxns (written_from count i m) (written_from count i m)
all_made count i zero = tt
all_made count i (suc m) =
    (record { postings = (refl, (made_paying (tells i) (3 * i + 3) (cents_in count i) (spent_by count (suc i)), tt)); rest = refl }, all_made count (suc i) m)

all_balanced : (count i m : ℕ) → AllByRecursion (λ t. cause_alone t.postings ≡ None) (written_from count i m)
all_balanced count i zero = tt
all_balanced count i (suc m) =
    let number = number_of count i in
    (balanced (3 * i + 2) (3 * i + 3) (kind_of number) (cents_in count i) (spent_by count (suc i)) (cents_some number) (cents_few number) (tells i), all_balanced count (suc i) m)

all_settled : (count i m : ℕ) → found_from count i m ≡ map settled (written_from count i m)
all_settled count i zero = refl
all_settled count i (suc m) =
    let number = number_of count i in
    ap (λ (t : Txn). t ∷ found_from count (suc i) m)
    (sym (settled_is (3 * i + 2) (3 * i + 3) (kind_of number) (cents_in count i) (spent_by count (suc i)) (cents_some number) (cents_few number) (tells i) (3 * i + 1) i))
    ∙ ap (λ (ts : List Txn). settled (written count i) ∷ ts) (all_settled count (suc i) m)

-- The book of a sample solves its entries.
pub solved : (count : ℕ) → count ≤ 100000 → Solves (written_from count 0 count) (book count)
solved count few = record {
  unmarked = all_unmarked count 0 count;
  allowed = all_allowed count 0 count;
  made = written_from count 0 count;
  kept = all_made count 0 count;
  balanced = all_balanced count 0 count;
  found = all_settled count 0 count;
  assigned = subst (AllByRecursion (IsAssignedAt (book count))) (sym (placed_are count 0 count)) (all_assigned count 0 count);
  asserted = subst (AllByRecursion (IsAssertedAt (book count))) (sym (placed_are count 0 count)) (all_asserted count 0 count (omega arith));
  fits = all_fit count few;
}
