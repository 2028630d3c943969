-- The balance of one transaction: what its missing amounts and costs are, or why it has none.
use Rattle.std.specs.Prelude.{ℕ, pos, ◌==◌, nat_lt, count_by, Bool, true, false, not, ◌&&◌, ◌||◌, int_lt, unsigned_abs, max, List, [], ◌∷◌, ◌++◌, map, filter, Option, Some, None, is_some, is_none, Result, Ok, Err, codes, if◌then◌else◌}
use Rattle.std.specs.List.{flat_map, fold, find, list_all, list_any}
use Rattle.std.specs.Str.{bytes_eq}
use Rattle.hl_num.specs.Decimal.{Decimal, negated}
use Rattle.hl_num.specs.Rounding.{rounded}
use Rattle.book.specs.Style.{cost_amount}
use Rattle.book.specs.declared.amount.Amount.{Amount}
use Rattle.book.specs.declared.amount.Cost.{Cost}
use Rattle.book.specs.declared.amount.Cost.TheVariants.{Total}
use Rattle.book.specs.declared.amount.Written.{Written}
use Rattle.book.specs.declared.transaction.Posting.{Posting}
use Rattle.book.specs.declared.transaction.Tag.{Tag}
use Rattle.book.specs.declared.transaction.Txn.{Txn}
use Rattle.book.specs.declared.transaction.Side.{Side}
use Rattle.book.specs.declared.transaction.Side.TheVariants.{Real, Balanced, Free}
use Rattle.book.specs.declared.fault.Cause.{Cause}
use Rattle.book.specs.declared.fault.Cause.TheVariants as cause
use Rattle.entry_balance.specs.Values.{Value, value_of, at_cost, cost_fits, cost_values, absolute_value}
use Rattle.entry_balance.specs.Tally.{numbers_of, no_sum, sums_of, turnover_fits}

-- ---- sides

abbrev pub same_side : Side → Side → Bool
same_side Real Real = true
same_side Balanced Balanced = true
same_side Free Free = true
same_side _ _ = false

-- a posting of a side without an amount. The sides are the real postings, the balanced virtual ones and the free ones
abbrev pub is_missing : Side → Posting → Bool
is_missing side p = same_side side p.side && is_none p.amount

abbrev pub missing_count : Side → List Posting → ℕ
missing_count side ps = count_by (is_missing side) ps

abbrev pub misses : Side → List Posting → Bool
misses side ps = nat_lt 0 (missing_count side ps)

-- more missing amounts than one real and one balanced virtual one
abbrev pub has_two_missing : List Posting → Bool
has_two_missing ps = nat_lt 1 (missing_count Real ps) || nat_lt 1 (missing_count Balanced ps) || misses Free ps

-- ---- assignments

-- a posting without an amount that has an assertion, which its amount is to make true
abbrev pub is_assignment : Posting → Bool
is_assignment p = is_none p.amount && is_some p.wanted

abbrev pub has_assignment : List Posting → Bool
has_assignment ps = list_any is_assignment ps

-- a posting of a side with neither an amount nor an assertion
abbrev pub is_absent : Side → Posting → Bool
is_absent side p = is_missing side p && is_none p.wanted

abbrev pub absent_count : Side → List Posting → ℕ
absent_count side ps = count_by (is_absent side) ps

-- beside assignments more amounts are missing than one real and one balanced virtual one
abbrev pub lacks_two : List Posting → Bool
lacks_two ps = nat_lt 1 (absent_count Real ps) || nat_lt 1 (absent_count Balanced ps) || nat_lt 0 (absent_count Free ps)

-- a tag of a posting that is named date, whatever it says
abbrev pub is_date_tag : Tag → Bool
is_date_tag tag = bytes_eq tag.name (codes "date")

-- a posting with a tag that is named date, or with a day of its own
abbrev pub is_dated : Posting → Bool
is_dated p = is_some p.day || list_any is_date_tag p.tags

-- what is wrong with a transaction that has an assignment, before any amount is known: two missing amounts, or a
-- posting with a day of its own
abbrev pub assignment_fault : List Posting → Option Cause
assignment_fault ps = if lacks_two ps then Some cause.TwoMissing else (if list_any is_dated ps then Some cause.NotAllowed else None)

-- its assignments can be made
abbrev pub is_assignable : List Posting → Bool
is_assignable ps = has_assignment ps && is_none (assignment_fault ps)

-- ---- sums

-- a list of what is made of an amount that is there
abbrev pub from_amount : {X : Type 0} → (Amount → List X) → Option Amount → List X
from_amount f None = []
from_amount f (Some a) = f a

-- what a posting adds to the sums of a side: its written amount at cost
abbrev pub share_of : Side → Posting → List Value
share_of side p = if same_side side p.side then from_amount (λ a. at_cost a p.cost ∷ []) p.amount else []

abbrev pub side_values : Side → List Posting → List Value
side_values side ps = flat_map (share_of side) ps

-- the amounts and costs as they are written; an assigned amount isn't
abbrev pub written_amount : Bool → Option Amount → List Value
written_amount true amount = []
written_amount false amount = from_amount (λ a. value_of a ∷ []) amount

abbrev pub written_amounts : List Posting → List Value
written_amounts ps = flat_map (λ p. written_amount p.filled p.amount) ps

abbrev pub written_cost : Option Cost → List Value
written_cost None = []
written_cost (Some cost) = value_of (cost_amount cost) ∷ []

abbrev pub written_costs : List Posting → List Value
written_costs ps = flat_map (λ p. written_cost p.cost) ps

abbrev pub most_places : List Decimal → ℕ
most_places ds = fold (λ most d. max most d.places) 0 ds

-- the greatest number of decimals, if there is a number
abbrev pub places_among : List Decimal → Option ℕ
places_among [] = None
places_among (d ∷ ds) = Some (most_places (d ∷ ds))

abbrev pub or_else : {X : Type 0} → Option X → Option X → Option X
or_else None other = other
or_else (Some x) other = Some x

-- the decimals by which a sum of a symbol is judged: the most that its amounts are written with, and those of its
-- costs where no amount has it
abbrev pub precision_of : List ℕ → List Posting → Option ℕ
precision_of symbol ps = or_else (places_among (numbers_of symbol (written_amounts ps))) (places_among (numbers_of symbol (written_costs ps)))

abbrev pub is_nothing : Decimal → Bool
is_nothing d = unsigned_abs d.mantissa == 0

-- it is zero when it is rounded to so many decimals
abbrev pub is_nothing_at : Option ℕ → Decimal → Bool
is_nothing_at None d = is_nothing d
is_nothing_at (Some places) d = is_nothing (rounded d places)

-- the sums of a side that don't count as zero, in the order of their symbols
abbrev pub left_over : Side → List Posting → List Value
left_over side ps = filter (λ sum. not (is_nothing_at (precision_of sum.0 ps) sum.1)) (sums_of (side_values side ps))

-- ---- an exchange of one symbol for another

abbrev pub is_positive : Decimal → Bool
is_positive d = int_lt (pos 0) d.mantissa

-- two values, of which one is above zero and the other isn't
abbrev pub are_opposite : List Value → Bool
are_opposite (a ∷ b ∷ []) = if is_positive a.1 then not (is_positive b.1) else is_positive b.1
are_opposite _ = false

abbrev pub is_plain : Posting → Bool
is_plain p = is_some p.amount && is_none p.cost

-- no cost and no missing amount is written
abbrev pub are_plain : List Posting → Bool
are_plain ps = list_all is_plain ps

-- nothing else is written, and two symbols stand against each other
abbrev pub exchanges : List Posting → Bool
exchanges ps = are_plain ps && are_opposite (left_over Real ps)

abbrev pub is_of : List ℕ → Option Amount → Bool
is_of symbol None = false
is_of symbol (Some a) = bytes_eq a.symbol symbol

abbrev pub is_real_of : List ℕ → Posting → Bool
is_real_of symbol p = same_side Real p.side && is_of symbol p.amount

-- a real posting whose amount is of one of two symbols
abbrev pub is_of_either : List ℕ → List ℕ → Posting → Bool
is_of_either a b p = is_real_of a p || is_real_of b p

abbrev pub is_not_of : List ℕ → Option Posting → Bool
is_not_of a None = false
is_not_of a (Some p) = not (is_real_of a p)

-- the first real posting that has one of two symbols hasn't the first of them
abbrev pub second_is_first : List ℕ → List ℕ → List Posting → Bool
second_is_first a b ps = is_not_of a (find (is_of_either a b) ps)

-- a symbol, and the total cost that is recorded at the one real posting that has it
abbrev pub recorded : List ℕ → Value → List Posting → Option (List ℕ × Value)
recorded symbol other ps = if count_by (is_real_of symbol) ps == 1 then Some (symbol, absolute_value other) else None

abbrev pub recorded_between : List Value → List Posting → Option (List ℕ × Value)
recorded_between (a ∷ b ∷ []) ps = if second_is_first a.0 b.0 ps then recorded b.0 a ps else recorded a.0 b ps
recorded_between _ ps = None

abbrev pub recorded_cost : List Posting → Option (List ℕ × Value)
recorded_cost ps = if exchanges ps then recorded_between (left_over Real ps) ps else None

-- ---- what balancing finds

-- how a found amount is written: on the right after a space, without groups
abbrev pub plain_shape : Written
plain_shape = record { left = false; spaced = true; mark = None; group = None; first = 3; rest = 3 }

abbrev pub plain_amount : Value → Amount
plain_amount v = record { symbol = v.0; value = v.1; shape = plain_shape }

-- a posting with the amount that was found for it
abbrev pub found_posting : Posting → Value → Posting
found_posting p v = record {
  line = p.line;
  mark = p.mark;
  side = p.side;
  account = p.account;
  amount = Some (plain_amount v);
  cost = None;
  wanted = None;
  filled = true;
  costed = false;
  comment = p.comment;
  tags = p.tags;
  day = p.day;
}

-- what a missing amount makes up for: the sums of its side that aren't zero, with the other sign; or nothing
abbrev pub needed : List Value → List Value
needed sums = map (λ sum. (sum.0, negated sum.1)) (filter (λ sum. not (is_nothing sum.1)) sums)

abbrev pub or_nothing : List Value → List Value
or_nothing [] = ([], no_sum) ∷ []
or_nothing (v ∷ vs) = v ∷ vs

abbrev pub found_values : Side → List Posting → List Value
found_values side ps = or_nothing (needed (sums_of (side_values side ps)))

-- a posting with its recorded cost, if that is of its symbol
abbrev pub costed_posting : Option (List ℕ × Value) → Posting → Posting
costed_posting None p = p
costed_posting (Some cost) p =
    if is_real_of cost.0 p && is_none p.cost
    then record p { cost = Some (Total (plain_amount cost.1)); costed = true } else p

abbrev pub solved_posting : List Posting → Posting → Option Amount → List Posting
solved_posting ps p None = map (found_posting p) (found_values p.side ps)
solved_posting ps p (Some a) = costed_posting (recorded_cost ps) p ∷ []

-- the postings with all that was found: a missing amount gives one posting for each symbol
abbrev pub solved : List Posting → List Posting
solved ps = flat_map (λ p. solved_posting ps p p.amount) ps

-- ---- turnover

-- what postings move: their quantities, and the amounts of their costs
abbrev pub moved_by : Posting → List Value
moved_by p = from_amount (λ a. value_of a ∷ cost_values a p.cost) p.amount

abbrev pub moved : List Posting → List Value
moved ps = flat_map moved_by ps

abbrev pub optional_cost_fits : Amount → Option Cost → Bool
optional_cost_fits a None = true
optional_cost_fits a (Some cost) = cost_fits a.value cost

abbrev pub amount_cost_fits : Option Amount → Option Cost → Bool
amount_cost_fits None cost = true
amount_cost_fits (Some a) cost = optional_cost_fits a cost

-- each cost can be told
abbrev pub costs_fit : List Posting → Bool
costs_fit ps = list_all (λ p. amount_cost_fits p.amount p.cost) ps

-- the costs can be told, and all that is moved, what is found too, stays within the bound
abbrev pub fits_alone : List Posting → Bool
fits_alone ps = costs_fit ps && turnover_fits (moved (solved ps))

-- ---- the balance

-- the sums that are too much: those of a side without a missing amount, the real side first; where one symbol is
-- exchanged for another, the real sums are none
abbrev pub unbalanced_sums : List Posting → List Value
unbalanced_sums ps =
    (if misses Real ps || exchanges ps then [] else left_over Real ps)
    ++ (if misses Balanced ps then [] else left_over Balanced ps)

abbrev pub unbalanced_by : List Value → Option Cause
unbalanced_by [] = None
unbalanced_by (sum ∷ sums) = Some (cause.Unbalanced sum.0 sum.1)

-- what is wrong with a transaction, were it alone
abbrev pub cause_alone : List Posting → Option Cause
cause_alone ps =
    if has_assignment ps then assignment_fault ps
    else (if has_two_missing ps then Some cause.TwoMissing
    else (if fits_alone ps then unbalanced_by (unbalanced_sums ps) else Some cause.Range))

abbrev pub with_postings : Txn → List Posting → Txn
with_postings t ps = record {
  line = t.line;
  day = t.day;
  mark = t.mark;
  code = t.code;
  description = t.description;
  comment = t.comment;
  tags = t.tags;
  postings = ps;
}

-- a transaction with what balancing finds
abbrev pub settled : Txn → Txn
settled t = with_postings t (solved t.postings)

abbrev pub balanced_unless : Txn → Option Cause → Result Txn Cause
balanced_unless t None = Ok (with_postings t (solved t.postings))
balanced_unless t (Some fault) = Err fault

-- the transaction with its missing amounts and costs, or what is wrong with it
abbrev pub balanced : Txn → Result Txn Cause
balanced t = balanced_unless t (cause_alone t.postings)
