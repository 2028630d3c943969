-- The greatest day of transactions, read one after another.
use Rattle.std.proofs.Common.{◌≡◌, ℕ, ◌+◌, ◌<◌, ◌≤◌, min, List, drop, length, get_or, Option, Some, None, IfSome, unwrap_or, refl, sym, ap, ◌∙◌, arith}
use Rattle.std.specs.Option.{option_map}
use Rattle.std.proofs.lemmas.List.{at_drop_more, at_drop_all}
use Rattle.hl_time.specs.Calendar.{day_end}
use Rattle.hl_time.specs.Periods.{IsPeriod}
use Rattle.hl_time.specs.declared.spans.Period.{Period}
use Rattle.book.specs.declared.transaction.Txn.{Txn}
use Rattle.generated.specs.Windows.{day_after, end_day, first_day, last_day_of, later_of}

later_assoc : (a b c : Option ℕ) → later_of (later_of a b) c ≡ later_of a (later_of b c)
later_assoc None b c = refl
later_assoc (Some a) None c = refl
later_assoc (Some a) (Some b) None = refl
later_assoc (Some a) (Some b) (Some c) = ap Some (omega arith)

later_none : (a : Option ℕ) → later_of a None ≡ a
later_none None = refl
later_none (Some a) = refl

-- one more transaction
pub later_more : (last all : Option ℕ) (txns : List Txn) (i : ℕ) (d : Txn) → i < length txns → later_of last (last_day_of (drop i txns)) ≡ all
    → later_of (later_of last (Some (get_or txns i d).day.0)) (last_day_of (drop (i + 1) txns)) ≡ all
later_more last all txns i d inside so =
    later_assoc last (Some (get_or txns i d).day.0) (last_day_of (drop (i + 1) txns))
    ∙ ap (later_of last) (sym (at_drop_more last_day_of txns i d inside))
    ∙ so

pub later_all : (last all : Option ℕ) (txns : List Txn) (i : ℕ) → length txns ≤ i → later_of last (last_day_of (drop i txns)) ≡ all → last ≡ all
later_all last all txns i past so = sym (later_none last) ∙ ap (later_of last) (sym (at_drop_all last_day_of txns i past)) ∙ so

-- the day after the last one
pub next_day : (day : ℕ) (last : Option ℕ) (next : ℕ) → Some day ≡ last → next ≡ day_after day → Some next ≡ option_map day_after last
next_day day last next is same = ap Some same ∙ ap (option_map day_after) is

-- ---- a window lies in the calendar

given_or : (given : Option ℕ) (other : ℕ) → IfSome given (λ day. 1 ≤ day) → 1 ≤ other → 1 ≤ unwrap_or given other
given_or None other h least = least
given_or (Some day) other h least = h

within : (given : Option ℕ) → IfSome given (λ day. (1 ≤ day) × (day ≤ day_end)) → IfSome given (λ day. 1 ≤ day)
within None h = tt
within (Some day) h = h.0

later_least : (one other : Option ℕ) → IfSome one (λ day. 1 ≤ day) → IfSome other (λ day. 1 ≤ day) → IfSome (later_of one other) (λ day. 1 ≤ day)
later_least None other h k = k
later_least (Some day) None h k = h
later_least (Some day) (Some other) h k = omega (arith, h, k)

after_least : (last : Option ℕ) → IfSome (option_map day_after last) (λ day. 1 ≤ day)
after_least None = tt
after_least (Some day) = omega arith

pub first_least : (asked given : Period) (txns : List Txn) (today : ℕ) → IsPeriod asked → IsPeriod given → 1 ≤ today
    → 1 ≤ first_day asked given txns today
first_least asked given txns today one other least =
    given_or asked.from _ (within asked.from one.0)
    (given_or (later_of given.from (option_map day_after (last_day_of txns))) today
    (later_least given.from (option_map day_after (last_day_of txns)) (within given.from other.0) (after_least (last_day_of txns))) least)

most_of : (given : Option ℕ) (other : ℕ) → IfSome given (λ day. (1 ≤ day) × (day ≤ day_end)) → other ≤ day_end → unwrap_or given other ≤ day_end
most_of None other h most = most
most_of (Some day) other h most = h.1

pub end_most : (asked given : Period) (today : ℕ) → IsPeriod asked → IsPeriod given → end_day asked given today ≤ day_end
end_most asked given today one other =
    most_of asked.end _ one.1 (most_of given.end (min day_end (today + 180)) other.1 (omega arith))
