-- The amounts of a book have few decimals where all that its text writes has.
use Rattle.std.proofs.Common.{◌≡◌, ◌≤◌, ◌+◌, ◌*◌, ◌^◌, ◌*ℤ◌, ℕ, max, unsigned_abs, Bool, true, false, ◌&&◌, ◌||◌, cond, nat_lt, not, List, [], ◌∷◌, ◌++◌, filter, map, Option, Some, None, is_none, is_some, refl, sym, ap, subst, ◌∙◌, arith}
use Rattle.std.specs.Prelude.{nat_le}
use Rattle.std.specs.List.{flat_map, AllByRecursion}
use Rattle.std.specs.Option.{option_to_list}
use Rattle.std.specs.Str.{bytes_eq}
use Rattle.std.proofs.lemmas.Bool.{false≢true}
use Rattle.std.proofs.lemmas.Bool.Decides.{nat_tests}
use Rattle.hl_num.specs.Decimal.{Decimal, negated, units_of}
use Rattle.book.specs.Mixed.{plus}
use Rattle.book.specs.Postings.{postings_of}
use Rattle.book.specs.Style.{cost_amount}
use Rattle.book.specs.SumsBefore.{is_assigned}
use Rattle.book.specs.declared.amount.Amount.{Amount}
use Rattle.book.specs.declared.amount.Assertion.{Assertion}
use Rattle.book.specs.declared.amount.Cost.{Cost}
use Rattle.book.specs.declared.amount.Cost.TheVariants as costs
use Rattle.book.specs.declared.fault.Cause.{Cause}
use Rattle.book.specs.declared.fault.Cause.TheVariants as cause
use Rattle.book.specs.declared.transaction.Posting.{Posting}
use Rattle.book.specs.declared.transaction.Side.{Side}
use Rattle.book.specs.declared.transaction.Txn.{Txn}
use Rattle.balancing.specs.Assigned.{shortened}
use Rattle.balancing.specs.Solves.{AreMade, AreMadeTxns, HasFew, HaveFew, IsMadeBy, Solves, values_before}
use Rattle.entry_balance.specs.Entry.{amount_cost_fits, assignment_fault, cause_alone, costs_fit, fits_alone, found_posting, found_values, from_amount, has_assignment, has_two_missing, is_assignment, is_nothing, moved, needed, optional_cost_fits, or_nothing, plain_amount, recorded_cost, same_side, settled, share_of, side_values, solved, solved_posting, unbalanced_by, unbalanced_sums}
use Rattle.entry_balance.specs.Tally.{no_sum, numbers_of, sums_of, symbols_in as names_in, total_of, turnover_fits}
use Rattle.entry_balance.specs.Values.{Value, at_cost, trimmed}
use Rattle.entry_balance.proofs.Named.{left_true, right_true}
use Rattle.hl_num.proofs.Trimmed.{trimmed-places}
use Rattle.entry_balance.proofs.Turnover.{AllAtMost, places_within}
use Rattle.reached_walk.proofs.Lists.{all-join, all-left, all-right}
use Rattle.book_laws.specs.Decimals.{IsShort, WriteFew}
use Rattle.book_laws.specs.Writing.{amounts_in}
use Rattle.book_laws.proofs.Wants.{Wants, costed_amount, made_wants}

-- ---- what a posting writes, by its parts

abbrev CostShort : Option Cost → Type 0
CostShort None = Unit {0}
CostShort (Some c) = IsShort (cost_amount c)

abbrev WantedShort : Option Assertion → Type 0
WantedShort None = Unit {0}
WantedShort (Some w) = IsShort w.amount

record IsShortIn (p : Posting) : Type 0 where
  amount : HasFew p.amount
  cost : CostShort p.cost
  wanted : WantedShort p.wanted

amount_short : (o : Option Amount) → AllByRecursion IsShort (option_to_list o) → HasFew o
amount_short None h = tt
amount_short (Some a) h = h.0

cost_short : (o : Option Cost) → AllByRecursion IsShort (map cost_amount (option_to_list o)) → CostShort o
cost_short None h = tt
cost_short (Some c) h = h.0

wanted_short : (o : Option Assertion) → AllByRecursion IsShort (map (λ (w : Assertion). w.amount) (option_to_list o)) → WantedShort o
wanted_short None h = tt
wanted_short (Some w) h = h.0

short_in : (p : Posting) → AllByRecursion IsShort (amounts_in p) → IsShortIn p
short_in p h =
    let amounts : List Amount = option_to_list p.amount in
    let costly : List Amount = map cost_amount (option_to_list p.cost) in
    let wanted : List Amount = map (λ (w : Assertion). w.amount) (option_to_list p.wanted) in
    let behind : AllByRecursion IsShort (costly ++ wanted) = all-right IsShort amounts (costly ++ wanted) h in
    record {
      amount = amount_short p.amount (all-left IsShort amounts (costly ++ wanted) h);
      cost = cost_short p.cost (all-left IsShort costly wanted behind);
      wanted = wanted_short p.wanted (all-right IsShort costly wanted behind);
    }

-- ---- with amounts for the assignments

-- an assigned amount has few decimals where the wanted one has
abbrev ShortToo : Amount → Assertion → Type 0
ShortToo a x = IsShort x.amount → IsShort a

both_short : (a b : ℕ) → a ≤ 36 → b ≤ 36 → max a b ≤ 36
both_short a b h k = omega arith

difference_short : (d e : Decimal) → d.places ≤ 36 → (plus d (negated (shortened e))).places ≤ 36
difference_short d e h = both_short d.places (trimmed (units_of e) 36).places h (trimmed-places (units_of e) 36)

record IsMadeShort (p : Posting) : Type 0 where
  amount : HasFew p.amount
  cost : CostShort p.cost

made_short : (w m : Posting) → IsMadeBy w.amount w.wanted w m → Wants ShortToo m → IsShortIn w → IsMadeShort m
made_short w m made own short = by w.amount w.wanted refl made
  where
    same : m ≡ w → IsMadeShort m
    same e = subst IsMadeShort (sym e) (record { amount = short.amount; cost = short.cost })

    by : (o : Option Amount) (x : Option Assertion) → w.wanted ≡ x → IsMadeBy o x w m → IsMadeShort m
    by (Some a) x f k = same k
    by None None f k = same k
    by None (Some x) f k =
        let mine : is_assigned m ≡ true = ap is_assigned k.1 ∙ ap is_some f in
        let few : IsShort (plain_amount k.0) = own mine (plain_amount k.0) (ap (λ (p : Posting). p.amount) k.1) x (ap (λ (p : Posting). p.wanted) k.1 ∙ f) (subst WantedShort f short.wanted) in
        subst IsMadeShort (sym k.1) (record { amount = few; cost = tt })

made_all : (ws ms : List Posting) → AreMade ws ms → AllByRecursion (Wants ShortToo) ms → AllByRecursion (λ (p : Posting). AllByRecursion IsShort (amounts_in p)) ws → AllByRecursion IsMadeShort ms
made_all [] [] k own h = tt
made_all [] (m ∷ ms) k own h = absurd k
made_all (w ∷ ws) [] k own h = absurd k
made_all (w ∷ ws) (m ∷ ms) k own h = (made_short w m k.0 own.0 (short_in w h.0), made_all ws ms k.1 own.1 h.1)

-- ---- its costs can be told

and_false : (b : Bool) → (b && false) ≡ false
and_false true = refl
and_false false = refl

none_asked : (a : Option Amount) (o : Option Assertion) (w q : Posting) → w.amount ≡ a → w.wanted ≡ o → IsMadeBy a o w q → is_assignment q ≡ false
none_asked (Some a) o w q e f is = ap is_assignment is ∙ ap (λ (x : Option Amount). is_none x && is_some w.wanted) e
none_asked None None w q e f is = ap is_assignment is ∙ ap (λ (x : Option Assertion). is_none w.amount && is_some x) f ∙ and_false (is_none w.amount)
none_asked None (Some x) w q e f is = ap is_assignment is.1

none_left : (ws qs : List Posting) → AreMade ws qs → has_assignment qs ≡ false
none_left [] [] h = refl
none_left [] (q ∷ qs) h = absurd h
none_left (w ∷ ws) [] h = absurd h
none_left (w ∷ ws) (q ∷ qs) h = λ i. none_asked w.amount w.wanted w q refl refl h.0 i || none_left ws qs h.1 i

third : (a b c : Bool) (f u : Option Cause) → a ≡ false → cond a f (cond b (Some cause.TwoMissing) (cond c u (Some cause.Range))) ≡ None → c ≡ true
third true b c f u e h = absurd (false≢true (sym e))
third false true c f u e h = absurd (let never : ⊥ = cc in never)
third false false true f u e h = refl
third false false false f u e h = absurd (let never : ⊥ = cc in never)

costs_told : (ws qs : List Posting) → AreMade ws qs → cause_alone qs ≡ None → costs_fit qs ≡ true
costs_told ws qs made alone =
    left_true (costs_fit qs) (turnover_fits (moved (solved qs)))
    (third (has_assignment qs) (has_two_missing qs) (fits_alone qs) (assignment_fault qs) (unbalanced_by (unbalanced_sums qs)) (none_left ws qs made) alone)

-- ---- what balancing finds

abbrev IsFew : Value → Type 0
IsFew v = v.1.places ≤ 36

at_most : (a b : ℕ) → nat_le a b ≡ true → a ≤ b
at_most a b h = grind (arith, nat_tests)

still_few : (a b : ℕ) → a ≤ b → b ≤ 36 → a ≤ 36
still_few a b h k = omega arith

priced_few : (a : Amount) (c : Option Cost) → IsShort a → CostShort c → optional_cost_fits a c ≡ true → IsFew (at_cost a c)
priced_few a None h k fits = h
priced_few a (Some (costs.Total t)) h k fits = k
priced_few a (Some (costs.Unit u)) h k fits =
    let n : ℕ = a.value.places + u.value.places in
    let small : Bool = nat_lt (unsigned_abs a.value.mantissa * unsigned_abs u.value.mantissa) (2 ^ 127) in
    still_few (trimmed (a.value.mantissa *ℤ u.value.mantissa) n).places n (trimmed-places (a.value.mantissa *ℤ u.value.mantissa) n) (at_most n 36 (right_true small (nat_le n 36) fits))

share_few : (side : Side) (p : Posting) → IsMadeShort p → amount_cost_fits p.amount p.cost ≡ true → AllByRecursion IsFew (share_of side p)
share_few side p short fits = by (same_side side p.side) p.amount short.amount fits
  where
    by : (b : Bool) (o : Option Amount) → HasFew o → amount_cost_fits o p.cost ≡ true → AllByRecursion IsFew (cond b (from_amount (λ a. at_cost a p.cost ∷ []) o) [])
    by false o h k = tt
    by true None h k = tt
    by true (Some a) h k = (priced_few a p.cost h short.cost k, tt)

side_few : (side : Side) (ps : List Posting) → AllByRecursion IsMadeShort ps → costs_fit ps ≡ true → AllByRecursion IsFew (side_values side ps)
side_few side [] h fits = tt
side_few side (p ∷ ps) h fits =
    all-join IsFew (share_of side p) (side_values side ps)
    (share_few side p h.0 (left_true (amount_cost_fits p.amount p.cost) (costs_fit ps) fits))
    (side_few side ps h.1 (right_true (amount_cost_fits p.amount p.cost) (costs_fit ps) fits))

numbers_few : (symbol : List ℕ) (vs : List Value) → AllByRecursion IsFew vs → AllAtMost 36 (numbers_of symbol vs)
numbers_few symbol [] h = tt
numbers_few symbol (v ∷ vs) h =
    let rest = numbers_few symbol vs h.1 in
    elim (bytes_eq v.0 symbol) as (λ b. AllAtMost 36 (map (λ (x : Value). x.1) (cond b (v ∷ filter (λ (x : Value). bytes_eq x.0 symbol) vs) (filter (λ (x : Value). bytes_eq x.0 symbol) vs)))) [
      | true ↦ (h.0, rest)
      | false ↦ rest
    ]

total_few : (symbol : List ℕ) (vs : List Value) → AllByRecursion IsFew vs → (total_of symbol vs).places ≤ 36
total_few symbol vs h = places_within no_sum 36 (numbers_of symbol vs) (omega arith) (numbers_few symbol vs h)

each_few : (vs : List Value) → AllByRecursion IsFew vs → (symbols : List (List ℕ)) → AllByRecursion IsFew (map (λ (s : List ℕ). (s, total_of s vs)) symbols)
each_few vs h [] = tt
each_few vs h (s ∷ symbols) = (total_few s vs h, each_few vs h symbols)

sums_few : (vs : List Value) → AllByRecursion IsFew vs → AllByRecursion IsFew (sums_of vs)
sums_few vs h = each_few vs h (names_in vs)

needed_few : (sums : List Value) → AllByRecursion IsFew sums → AllByRecursion IsFew (needed sums)
needed_few [] h = tt
needed_few (s ∷ sums) h =
    let rest = needed_few sums h.1 in
    elim (not (is_nothing s.1)) as (λ b. AllByRecursion IsFew (map (λ (sum : Value). (sum.0, negated sum.1)) (cond b (s ∷ filter (λ (sum : Value). not (is_nothing sum.1)) sums) (filter (λ (sum : Value). not (is_nothing sum.1)) sums)))) [
      | true ↦ (h.0, rest)
      | false ↦ rest
    ]

nothing_few : 0 ≤ 36
nothing_few = omega arith

or_few : (vs : List Value) → AllByRecursion IsFew vs → AllByRecursion IsFew (or_nothing vs)
or_few [] h = (nothing_few, tt)
or_few (v ∷ vs) h = h

found_few : (m : Posting) (vs : List Value) → AllByRecursion IsFew vs → AllByRecursion (λ (p : Posting). HasFew p.amount) (map (found_posting m) vs)
found_few m [] h = tt
found_few m (v ∷ vs) h = (h.0, found_few m vs h.1)

posting_few : (all : List Posting) (m : Posting) → AllByRecursion IsMadeShort all → costs_fit all ≡ true → HasFew m.amount → AllByRecursion (λ (p : Posting). HasFew p.amount) (solved_posting all m m.amount)
posting_few all m short fits few = by m.amount refl
  where
    by : (o : Option Amount) → m.amount ≡ o → AllByRecursion (λ (p : Posting). HasFew p.amount) (solved_posting all m o)
    by (Some a) e = (subst HasFew (sym (costed_amount (recorded_cost all) m)) few, tt)
    by None e = found_few m (found_values m.side all) (or_few (needed (sums_of (side_values m.side all))) (needed_few (sums_of (side_values m.side all)) (sums_few (side_values m.side all) (side_few m.side all short fits))))

solved_few : (all ms : List Posting) → AllByRecursion IsMadeShort all → costs_fit all ≡ true → AllByRecursion IsMadeShort ms
    → AllByRecursion (λ (p : Posting). HasFew p.amount) (flat_map (λ (p : Posting). solved_posting all p p.amount) ms)
solved_few all [] short fits h = tt
solved_few all (m ∷ ms) short fits h =
    all-join (λ (p : Posting). HasFew p.amount) (solved_posting all m m.amount) (flat_map (λ (p : Posting). solved_posting all p p.amount) ms)
    (posting_few all m short fits (h.0).amount) (solved_few all ms short fits h.1)

-- ---- of a book

book_few : (ws ms : List Txn) → AreMadeTxns ws ms → AllByRecursion (λ t. cause_alone t.postings ≡ None) ms
    → AllByRecursion (λ (m : Txn). AllByRecursion (Wants ShortToo) m.postings) ms → WriteFew ws → HaveFew (map settled ms)
book_few [] [] k balanced own h = tt
book_few [] (m ∷ ms) k balanced own h = absurd k
book_few (w ∷ ws) [] k balanced own h = absurd k
book_few (w ∷ ws) (m ∷ ms) k balanced own h =
    let P : Posting → Type 0 = λ p. AllByRecursion IsShort (amounts_in p) in
    let short : AllByRecursion IsMadeShort m.postings = made_all w.postings m.postings (k.0).postings own.0 (all-left P w.postings (postings_of ws) h) in
    all-join (λ (p : Posting). HasFew p.amount) (solved m.postings) (postings_of (map settled ms))
    (solved_few m.postings m.postings short (costs_told w.postings m.postings (k.0).postings balanced.0) short)
    (book_few ws ms k.1 balanced.1 own.1 (all-right P w.postings (postings_of ws) h))

pub few_of : (text book : List Txn) → Solves text book → WriteFew text → HaveFew book
few_of text book s h =
    let wants = made_wants ShortToo text book (λ e x few. difference_short x.amount.value (total_of x.amount.symbol (values_before book (e.1).account x.below e.0)) few) s in
    subst HaveFew (sym s.found) (book_few text s.made s.kept s.balanced wants h)
