-- What stands in the book of a text that was read.
use Rattle.std.proofs.Common.{ℕ, max, zero, suc, ◌≡◌, ◌+◌, ◌*ℤ◌, ◌≤◌, Bool, true, false, cond, ◌==◌, ◌&&◌, not, List, [], ◌∷◌, ◌++◌, map, filter, Option, Some, None, Ok, is_none, refl, sym, ap, subst, ◌∙◌, arith, append_assoc, append-nil}
use Rattle.std.specs.BTreeSet.{insert_key}
use Rattle.std.specs.List.{count_by, flat_map, fold, list_any, slice_get, AllByRecursion}
use Rattle.std.specs.Ordering.{match_ordering, nat_cmp}
use Rattle.std.specs.Cmp.Lexicographic.{slice_cmp}
use Rattle.std.specs.Str.{bytes_eq, is_utf8}
use Rattle.std.specs.declared.cmp.Ordering.{Ordering}
use Rattle.std.specs.declared.cmp.Ordering.TheVariants.{Less, Equal, Greater}
use Rattle.std.proofs.lemmas.Grind.{flat_map-append}
use Rattle.hl_num.specs.Decimal.{Decimal, negated, units_of}
use Rattle.book.specs.Bounds.{TurnoverFits}
use Rattle.book.specs.Mixed.{plus}
use Rattle.book.specs.Order.{each_once}
use Rattle.book.specs.Postings.{postings_of, txn_in, txns_of}
use Rattle.book.specs.SumsBefore.{is_assigned}
use Rattle.book.specs.declared.amount.Amount.{Amount}
use Rattle.book.specs.declared.amount.Assertion.{Assertion}
use Rattle.book.specs.declared.amount.Cost.{Cost}
use Rattle.book.specs.declared.amount.Cost.TheVariants as costs
use Rattle.book.specs.declared.item.Book.{Book}
use Rattle.book.specs.declared.item.Item.{Item}
use Rattle.book.specs.declared.item.Item.TheVariants as item
use Rattle.book.specs.declared.item.Placed.{Placed}
use Rattle.book.specs.declared.transaction.Posting.{Posting}
use Rattle.book.specs.declared.transaction.Side.{Side}
use Rattle.book.specs.declared.transaction.Side.TheVariants.{Real}
use Rattle.book.specs.declared.transaction.Txn.{Txn}
use Rattle.assertions.specs.Assertions.{held_in}
use Rattle.entry_balance.specs.Entry.{costed_posting, exchanges, found_posting, found_values, from_amount, is_assignable, is_nothing, is_nothing_at, is_real_of, left_over, moved, moved_by, needed, or_nothing, plain_amount, precision_of, recorded, recorded_between, recorded_cost, same_side, second_is_first, settled, share_of, side_values, solved, solved_posting, with_postings}
use Rattle.entry_balance.specs.Tally.{no_sum, numbers_of, sums_of, symbols_in, total_of, turnover_fits}
use Rattle.entry_balance.specs.Values.{Value, absolute_value, at_cost, cost_of, cost_values, trimmed, value_of}
use Rattle.hl_num.proofs.Trimmed.{trimmed-places}
use Rattle.balancing.specs.Assigned.{whole, shortened, assigned, assigned_by, given, given_at, given_from, given_posting, given_postings}
use Rattle.balancing.specs.Groups.{Group, groups_of}
use Rattle.balancing.specs.Load.{book_of, first_fault, load, moved_of_group}
use Rattle.balancing.specs.Parts.{is_chosen, part_on, postings_of_group, postings_on}
use Rattle.balancing.specs.Walk.{moved_before}
use Rattle.balancing.specs.declared.groups.Part.TheVariants as part
use Rattle.balancing.proofs.SolvingBook.{moved_is, no_fault}
use Rattle.balancing.proofs.SolvingLists.{found_on}
use Rattle.balancing.proofs.Turned.{book-fits}
use Rattle.written_logs.proofs.Lines.{all_parts}
use Rattle.closed_journals.proofs.Declared.{AreToldItems, IsToldItem}
use Rattle.closed_journals.proofs.Entered.{AmountIs, AreTold, CostIs, IsToldPosting, WantedIs}
use Rattle.balancing.proofs.Solving.{own_book}
use Rattle.closed_journals.proofs.Loading.{loaded_is}
use Rattle.closed_journals.proofs.Told.{IsTold, IsToldAmount, no_symbol}

-- ---- values

-- a value of a symbol that was read, with at most 36 decimals
pub record IsValue (v : Value) : Type 0 where
  pub symbol : IsTold v.0
  pub few : (v.1).places ≤ 36

abbrev pub AreValues : List Value → Type 0
AreValues vs = AllByRecursion IsValue vs

all_filter : {A : Type 0} (P : A → Type 0) (p : A → Bool) (xs : List A) → AllByRecursion P xs → AllByRecursion P (filter p xs)
all_filter P p [] h = tt
all_filter {A} P p (x ∷ xs) h = by (p x) (all_filter P p xs h.1)
  where
    by : (t : Bool) → AllByRecursion P (filter p xs) → AllByRecursion P (cond t (x ∷ filter p xs) (filter p xs))
    by true rest = (h.0, rest)
    by false rest = rest

all_map : {A B : Type 0} (P : A → Type 0) (Q : B → Type 0) (f : A → B) → ((x : A) → P x → Q (f x)) → (xs : List A) → AllByRecursion P xs → AllByRecursion Q (map f xs)
all_map P Q f g [] h = tt
all_map P Q f g (x ∷ xs) h = (g x h.0, all_map P Q f g xs h.1)

all_flat : {A B : Type 0} (P : A → Type 0) (Q : B → Type 0) (f : A → List B) → ((x : A) → P x → AllByRecursion Q (f x)) → (xs : List A) → AllByRecursion P xs → AllByRecursion Q (flat_map f xs)
all_flat P Q f g [] h = tt
all_flat P Q f g (x ∷ xs) h = all_parts Q (f x) (flat_map f xs) (g x h.0) (all_flat P Q f g xs h.1)

insert_keeps : (P : List ℕ → Type 0) (cmp : List ℕ → List ℕ → Ordering) (xs : List (List ℕ)) (k : List ℕ) → P k → AllByRecursion P xs → AllByRecursion P (insert_key cmp xs k)
insert_keeps P cmp [] k p h = (p, tt)
insert_keeps P cmp (x ∷ xs) k p h =
    elim (cmp k x) as (λ o. AllByRecursion P (match_ordering o (k ∷ x ∷ xs) (x ∷ xs) (x ∷ insert_key cmp xs k))) [
      | Less ↦ (p, h)
      | Equal ↦ h
      | Greater ↦ (h.0, insert_keeps P cmp xs k p h.1)
    ]

pub once_keeps : (P : List ℕ → Type 0) (cmp : List ℕ → List ℕ → Ordering) (xs : List (List ℕ)) → AllByRecursion P xs → AllByRecursion P (each_once cmp xs)
once_keeps P cmp [] h = tt
once_keeps P cmp (x ∷ xs) h = insert_keeps P cmp (each_once cmp xs) x h.0 (once_keeps P cmp xs h.1)

fold_few : (acc : Decimal) (ds : List Decimal) → acc.places ≤ 36 → AllByRecursion (λ (d : Decimal). d.places ≤ 36) ds → (fold plus acc ds).places ≤ 36
fold_few acc [] h all = h
fold_few acc (d ∷ ds) h all = let one : d.places ≤ 36 = all.0 in fold_few (plus acc d) ds (omega (arith, h, one)) all.1

total_few : (symbol : List ℕ) (vs : List Value) → AreValues vs → (total_of symbol vs).places ≤ 36
total_few symbol vs are =
    fold_few no_sum (numbers_of symbol vs) (omega arith)
    (all_map IsValue (λ (d : Decimal). d.places ≤ 36) (λ (v : Value). v.1) (λ v h. h.few) (filter (λ (v : Value). bytes_eq v.0 symbol) vs) (all_filter IsValue (λ (v : Value). bytes_eq v.0 symbol) vs are))

sums_values : (vs : List Value) → AreValues vs → AreValues (sums_of vs)
sums_values vs are =
    all_map IsTold IsValue (λ symbol. (symbol, total_of symbol vs)) (λ symbol told. record { symbol = told; few = total_few symbol vs are }) (symbols_in vs)
    (once_keeps IsTold (slice_cmp nat_cmp) (map (λ (v : Value). v.0) vs) (all_map IsValue IsTold (λ (v : Value). v.0) (λ v h. h.symbol) vs are))

-- ---- postings as they are written, with amounts for their assignments

abbrev pub BookedIs : Option Amount → Type 0
BookedIs None = Unit {0}
BookedIs (Some a) = IsValue (value_of a)

-- a cost that was read, of an amount that was
abbrev PricedIs : Amount → Option Cost → Type 0
PricedIs a None = Unit {0}
PricedIs a (Some cost) = CostIs (Some cost) × ((a.value).places ≤ 18)

abbrev GivenIs : Option Amount → Option Cost → Type 0
GivenIs None cost = Unit {0}
GivenIs (Some a) cost = IsValue (value_of a) × PricedIs a cost

record IsGiven (p : Posting) : Type 0 where
  account : is_utf8 p.account ≡ true
  amount : GivenIs p.amount p.cost
  wanted : WantedIs p.wanted

wide : (n : ℕ) → n ≤ 18 → n ≤ 36
wide n h = omega (arith, h)

told_amount : (a : Amount) → IsToldAmount a → IsValue (value_of a)
told_amount a is = record { symbol = is.symbol; few = wide (a.value).places is.few }

written_given : (amount : Option Amount) (cost : Option Cost) → AmountIs amount → CostIs cost → GivenIs amount cost
written_given None cost a k = tt
written_given (Some a) None told k = (told_amount a told, tt)
written_given (Some a) (Some cost) told k = (told_amount a told, (k, told.few))

given_of : (p : Posting) → IsToldPosting p → IsGiven p
given_of p is = record { account = is.account; amount = written_given p.amount p.cost is.amount is.cost; wanted = is.wanted }

-- ---- what balancing finds

cost_value : (a : Amount) (cost : Cost) → CostIs (Some cost) → (a.value).places ≤ 18 → IsValue (cost_of a.value cost)
cost_value a (costs.Unit b) is few = record {
  symbol = is.symbol;
  few = (let most = trimmed-places ((a.value).mantissa *ℤ (b.value).mantissa) ((a.value).places + (b.value).places) in let other = is.few in omega (arith, most, few, other));
}
cost_value a (costs.Total b) is few = record { symbol = is.symbol; few = wide (b.value).places is.few }

at_cost_value : (a : Amount) (cost : Option Cost) → IsValue (value_of a) → PricedIs a cost → IsValue (at_cost a cost)
at_cost_value a None v p = v
at_cost_value a (Some cost) v p = cost_value a cost p.0 p.1

share_by : (t : Bool) (amount : Option Amount) (cost : Option Cost) → GivenIs amount cost → AreValues (cond t (from_amount (λ a. at_cost a cost ∷ []) amount) [])
share_by true None cost h = tt
share_by true (Some a) cost h = (at_cost_value a cost h.0 h.1, tt)
share_by false amount cost h = tt

side_are : (side : Side) (ps : List Posting) → AllByRecursion IsGiven ps → AreValues (side_values side ps)
side_are side ps are = all_flat IsGiven IsValue (share_of side) (λ p h. share_by (same_side side p.side) p.amount p.cost h.amount) ps are

negated_value : (v : Value) → IsValue v → IsValue (v.0, negated v.1)
negated_value v is = record { symbol = is.symbol; few = is.few }

or_are : (vs : List Value) → AreValues vs → AreValues (or_nothing vs)
or_are [] are = (record { symbol = no_symbol; few = omega arith }, tt)
or_are (v ∷ vs) are = are

found_are : (side : Side) (ps : List Posting) → AllByRecursion IsGiven ps → AreValues (found_values side ps)
found_are side ps are =
    let sums = sums_values (side_values side ps) (side_are side ps are) in
    or_are (needed (sums_of (side_values side ps)))
    (all_map IsValue IsValue (λ (sum : Value). (sum.0, negated sum.1)) negated_value (filter (λ (sum : Value). not (is_nothing sum.1)) (sums_of (side_values side ps))) (all_filter IsValue (λ (sum : Value). not (is_nothing sum.1)) (sums_of (side_values side ps)) sums))

-- a posting of the book, whose amount and cost have at most 36 decimals
pub record IsBooked (p : Posting) : Type 0 where
  pub account : is_utf8 p.account ≡ true
  pub amount : BookedIs p.amount
  pub moves : AllByRecursion (λ (v : Value). (v.1).places ≤ 36) (moved_by p)

abbrev RecordedIs : Option (List ℕ × Value) → Type 0
RecordedIs None = Unit {0}
RecordedIs (Some c) = ((c.1).1).places ≤ 36

recorded_is : (symbol : List ℕ) (other : Value) (ps : List Posting) (t : Bool) → (other.1).places ≤ 36 → RecordedIs (cond t (Some (symbol, absolute_value other)) None)
recorded_is symbol other ps true h = h
recorded_is symbol other ps false h = tt

between_is : (vs : List Value) (ps : List Posting) → AreValues vs → RecordedIs (recorded_between vs ps)
between_is [] ps are = tt
between_is (a ∷ []) ps are = tt
between_is (a ∷ b ∷ []) ps are = by (second_is_first a.0 b.0 ps)
  where
    one : RecordedIs (recorded b.0 a ps)
    one = recorded_is b.0 a ps (count_by (is_real_of b.0) ps == 1) (are.0).few

    two : RecordedIs (recorded a.0 b ps)
    two = recorded_is a.0 b ps (count_by (is_real_of a.0) ps == 1) ((are.1).0).few

    by : (t : Bool) → RecordedIs (cond t (recorded b.0 a ps) (recorded a.0 b ps))
    by true = one
    by false = two
between_is (a ∷ b ∷ c ∷ vs) ps are = tt

cost_is : (ps : List Posting) → AllByRecursion IsGiven ps → RecordedIs (recorded_cost ps)
cost_is ps are = by (exchanges ps)
  where
    over : AreValues (left_over Real ps)
    over = all_filter IsValue (λ (sum : Value). not (is_nothing_at (precision_of sum.0 ps) sum.1)) (sums_of (side_values Real ps)) (sums_values (side_values Real ps) (side_are Real ps are))

    by : (t : Bool) → RecordedIs (cond t (recorded_between (left_over Real ps) ps) None)
    by true = between_is (left_over Real ps) ps over
    by false = tt

priced_moves : (a : Amount) (cost : Option Cost) → IsValue (value_of a) → PricedIs a cost → AllByRecursion (λ (v : Value). (v.1).places ≤ 36) (value_of a ∷ cost_values a cost)
priced_moves a None v p = (v.few, tt)
priced_moves a (Some cost) v p = (v.few, ((cost_value a cost p.0 p.1).few, tt))

given_moves : (amount : Option Amount) (cost : Option Cost) → GivenIs amount cost → AllByRecursion (λ (v : Value). (v.1).places ≤ 36) (from_amount (λ a. value_of a ∷ cost_values a cost) amount)
given_moves None cost h = tt
given_moves (Some a) cost h = priced_moves a cost h.0 h.1

booked_of : (amount : Option Amount) (cost : Option Cost) → GivenIs amount cost → BookedIs amount
booked_of None cost h = tt
booked_of (Some a) cost h = h.0

as_written : (p : Posting) → IsGiven p → IsBooked p
as_written p is = record { account = is.account; amount = booked_of p.amount p.cost is.amount; moves = given_moves p.amount p.cost is.amount }

costed_moves : (v : Value) (amount : Option Amount) (cost : Option Cost) → (v.1).places ≤ 36 → GivenIs amount cost
    → AllByRecursion (λ (w : Value). (w.1).places ≤ 36) (from_amount (λ a. value_of a ∷ cost_values a (Some (costs.Total (plain_amount v)))) amount)
costed_moves v None cost h g = tt
costed_moves v (Some a) cost h g = ((g.0).few, (h, tt))

costed_is : (o : Option (List ℕ × Value)) (p : Posting) → RecordedIs o → IsGiven p → IsBooked (costed_posting o p)
costed_is None p h is = as_written p is
costed_is (Some c) p h is = by (is_real_of c.0 p && is_none p.cost)
  where
    by : (t : Bool) → IsBooked (cond t (record p { cost = Some (costs.Total (plain_amount c.1)); costed = true }) p)
    by true = record { account = is.account; amount = booked_of p.amount p.cost is.amount; moves = costed_moves c.1 p.amount p.cost h is.amount }
    by false = as_written p is

found_is : (p : Posting) (vs : List Value) → is_utf8 p.account ≡ true → AreValues vs → AllByRecursion IsBooked (map (found_posting p) vs)
found_is p vs utf8 are =
    all_map IsValue IsBooked (found_posting p) (λ v h. record { account = utf8; amount = record { symbol = h.symbol; few = h.few }; moves = (h.few, tt) }) vs are

solved_one : (all : List Posting) (p : Posting) (a : Option Amount) → AllByRecursion IsGiven all → IsGiven p → AllByRecursion IsBooked (solved_posting all p a)
solved_one all p None are is = found_is p (found_values p.side all) is.account (found_are p.side all are)
solved_one all p (Some a) are is = (costed_is (recorded_cost all) p (cost_is all are) is, tt)

solved_are : (ps : List Posting) → AllByRecursion IsGiven ps → AllByRecursion IsBooked (solved ps)
solved_are ps are = all_flat IsGiven IsBooked (λ p. solved_posting ps p p.amount) (λ p h. solved_one ps p p.amount are h) ps are

-- ---- assignments

abbrev Valued : Posting → Type 0
Valued p = BookedIs p.amount

abbrev IsGivenTxn : Txn → Type 0
IsGivenTxn t = AllByRecursion IsGiven t.postings

both_few : (a b : ℕ) → a ≤ 36 → b ≤ 36 → max a b ≤ 36
both_few a b h k = omega arith

-- what is wanted less a sum with as few decimals as it needs
difference_few : (wanted sum : Decimal) → wanted.places ≤ 36 → (plus wanted (negated (shortened sum))).places ≤ 36
difference_few wanted sum h = both_few wanted.places (trimmed (units_of sum) 36).places h (trimmed-places (units_of sum) 36)

given_one : (seen : List Posting) (p : Posting) (a : Option Amount) (w : Option Assertion) → AllByRecursion Valued seen → WantedIs w → IsGiven p → IsGiven (given_posting seen p a w)
given_one seen p (Some a) w are k is = is
given_one seen p None None are k is = is
given_one seen p None (Some w) are k is =
    let held = total_of (w.amount).symbol (held_in w.below p.account seen) in
    let few = k.few in
    record {
      account = is.account;
      amount = (record { symbol = k.symbol; few = difference_few ((w.amount).value) held (omega (arith, few)) }, tt);
      wanted = is.wanted;
    }

valued : (p : Posting) → IsGiven p → Valued p
valued p is = booked_of p.amount p.cost is.amount

given_are : (seen ps : List Posting) → AllByRecursion Valued seen → AllByRecursion IsGiven ps → AllByRecursion IsGiven (given_postings seen ps)
given_are seen [] are is = tt
given_are seen (p ∷ ps) are is =
    let q = given_posting seen p p.amount p.wanted in
    let one = given_one seen p p.amount p.wanted are (is.0).wanted is.0 in
    (one, given_are (seen ++ q ∷ []) ps (all_parts Valued seen (q ∷ []) are (valued q one, tt)) is.1)

given_txn : (seen : List Posting) (t : Txn) → AllByRecursion Valued seen → IsGivenTxn t → IsGivenTxn (given seen t)
given_txn seen t are is = by (is_assignable t.postings)
  where
    by : (b : Bool) → IsGivenTxn (cond b (with_postings t (given_postings seen t.postings)) t)
    by true = given_are seen t.postings are is
    by false = is

given_some : (seen : List Posting) (n : ℕ) (ts : List Txn) → AllByRecursion Valued seen → AllByRecursion IsGivenTxn ts → AllByRecursion IsGivenTxn (given_at seen n ts)
given_some seen n [] are is = tt
given_some seen zero (t ∷ ts) are is = (given_txn seen t are is.0, is.1)
given_some seen (suc n) (t ∷ ts) are is = (is.0, given_some seen n ts are is.1)

abbrev GivenIf : Option Txn → Type 0
GivenIf None = Unit {0}
GivenIf (Some t) = IsGivenTxn t

got : (ts : List Txn) (n : ℕ) → AllByRecursion IsGivenTxn ts → GivenIf (slice_get ts n)
got [] n is = tt
got (t ∷ ts) zero is = is.0
got (t ∷ ts) (suc n) is = got ts n is.1

on_are : (day : ℕ) (t : Txn) → AllByRecursion IsBooked t.postings → AllByRecursion IsBooked (postings_on day t)
on_are day t is = by (list_any is_assigned t.postings)
  where
    by : (b : Bool) → AllByRecursion IsBooked (cond b (part_on part.ButFound day t ++ part_on part.Found day t) (part_on part.All day t))
    by true = all_parts IsBooked (part_on part.ButFound day t) (part_on part.Found day t) (all_filter IsBooked (is_chosen part.ButFound day t) t.postings is) (all_filter IsBooked (is_chosen part.Found day t) t.postings is)
    by false = all_filter IsBooked (is_chosen part.All day t) t.postings is

group_are : (day : ℕ) (o : Option Txn) → GivenIf o → AllByRecursion IsBooked (postings_of_group day o)
group_are day None h = tt
group_are day (Some t) h = on_are day (settled t) (solved_are t.postings h)

to_valued : (ps : List Posting) → AllByRecursion IsBooked ps → AllByRecursion Valued ps
to_valued [] h = tt
to_valued (p ∷ ps) h = ((h.0).amount, to_valued ps h.1)

given_all : (ts : List Txn) (seen : List Posting) (gs : List Group) → AllByRecursion Valued seen → AllByRecursion IsGivenTxn ts → AllByRecursion IsGivenTxn (given_from ts seen gs)
given_all ts seen [] are is = is
given_all ts seen (g ∷ gs) are is =
    let next = given_at seen g.1 ts in
    let all = given_some seen g.1 ts are is in
    let group = postings_of_group g.0 (slice_get next g.1) in
    given_all next (seen ++ group) gs (all_parts Valued seen group are (to_valued group (group_are g.0 (slice_get next g.1) (got next g.1 all)))) all

-- ---- the book

one_txn : (i : Item) → IsToldItem i → AllByRecursion IsGivenTxn (txn_in i)
one_txn (item.Txn t) h = (all_given t.postings h, tt)
  where
    all_given : (ps : List Posting) → AreTold ps → AllByRecursion IsGiven ps
    all_given [] k = tt
    all_given (p ∷ ps) k = (given_of p k.0, all_given ps k.1)
one_txn _ h = tt

all_given_txns : (items : List Placed) → AreToldItems items → AllByRecursion IsGivenTxn (txns_of items)
all_given_txns items told = all_flat (λ (p : Placed). IsToldItem p.item) IsGivenTxn (λ (p : Placed). txn_in p.item) (λ p h. one_txn p.item h) items told

settled_are : (ts : List Txn) → AllByRecursion IsGivenTxn ts → AllByRecursion IsBooked (postings_of (map settled ts))
settled_are [] is = tt
settled_are (t ∷ ts) is = all_parts IsBooked (solved t.postings) (postings_of (map settled ts)) (solved_are t.postings is.0) (settled_are ts is.1)

moved_parts : (ts : List Txn) (before : List Value) (gs : List Group) → moved_before ts before gs ≡ before ++ moved (found_on ts gs)
moved_parts ts before [] = sym (append-nil before)
moved_parts ts before (g ∷ gs) =
    let o = slice_get ts g.1 in
    moved_parts ts (before ++ moved_of_group g.0 o) gs
    ∙ append_assoc before (moved_of_group g.0 o) (moved (found_on ts gs))
    ∙ ap (λ (vs : List Value). before ++ (vs ++ moved (found_on ts gs))) (moved_is g.0 o)
    ∙ ap (λ (vs : List Value). before ++ vs) (sym (flat_map-append moved_by (postings_of_group g.0 o) (found_on ts gs)))

found_on_are : (ts : List Txn) (gs : List Group) → AllByRecursion IsGivenTxn ts → AllByRecursion IsBooked (found_on ts gs)
found_on_are ts [] is = tt
found_on_are ts (g ∷ gs) is = all_parts IsBooked (postings_of_group g.0 (slice_get ts g.1)) (found_on ts gs) (group_are g.0 (slice_get ts g.1) (got ts g.1 is)) (found_on_are ts gs is)

-- What is known of a book of items that were read.
pub record IsToldBook (book : Book) : Type 0 where
  pub postings : AllByRecursion IsBooked (postings_of book.txns)
  pub fits : TurnoverFits (postings_of book.txns)

pub book_told : (items : List Placed) (book : Book) → AreToldItems items → load items ≡ Ok book → IsToldBook book
book_told items book told is =
    let ws = txns_of items in
    let ts = assigned ws in
    let gs = groups_of ts in
    let made = loaded_is ts (first_fault ts [] [] gs) book (own_book (book_of ts) (book_of (assigned_by whole ws)) book is) in
    let all = given_all ws [] (groups_of ws) tt (all_given_txns items told) in
    let fits = (no_fault ts [] [] gs refl made.none).fits in
    let within : turnover_fits (moved_before ts [] gs) ≡ true = ap turnover_fits (moved_parts ts [] gs) ∙ fits in
    let few : AllByRecursion (λ (v : Value). (v.1).places ≤ 36) (moved_before ts [] gs) =
    subst (AllByRecursion (λ (v : Value). (v.1).places ≤ 36)) (sym (moved_parts ts [] gs)) (all_flat IsBooked (λ (v : Value). (v.1).places ≤ 36) moved_by (λ p h. h.moves) (found_on ts gs) (found_on_are ts gs all)) in
    record {
      postings = subst (λ (xs : List Txn). AllByRecursion IsBooked (postings_of xs)) (sym made.txns) (settled_are ts all);
      fits = subst (λ (xs : List Txn). TurnoverFits (postings_of xs)) (sym made.txns) (book-fits ts within few);
    }
