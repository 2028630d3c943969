-- Depths and days of terms, gathered one after the other.
use Rattle.std.specs.Prelude.{IfSome}
use Rattle.std.proofs.Common.{◌≡◌, ℕ, zero, suc, ◌+◌, ◌<◌, ◌≤◌, min, max, List, [], ◌∷◌, length, get_or, drop, Option, Some, None, refl, sym, ap, ◌∙◌, arith}
use Rattle.std.proofs.lemmas.List.{drop_all}
use Rattle.std.proofs.lemmas.List.Elements.{All-head, All-tail}
use Rattle.hl_time.specs.Calendar.{day_end}
use Rattle.hl_time.specs.Periods.{IsPeriod}
use Rattle.query.specs.Building.{AreDated}
use Rattle.query.specs.Matching.{least, later, depth_under, depth_in, bounds_under, from_in, end_in, dates_in}
use Rattle.query_terms.specs.Reading.{HasDays}
use Rattle.query_terms.specs.declared.kinds.Kind.{Kind}
use Rattle.query_terms.specs.declared.kinds.Kind.TheVariants as kinds
use Rattle.query_terms.specs.declared.kinds.Term.{Term}
use Rattle.query_terms.proofs.Walks.{left_here}

least_least : (a b : Option ℕ) (c : Option ℕ) → least a (least b c) ≡ least (least a b) c
least_least None b c = refl
least_least (Some x) None c = refl
least_least (Some x) (Some y) None = refl
least_least (Some x) (Some y) (Some z) = let e : min x (min y z) ≡ min (min x y) z = omega arith in ap (λ (n : ℕ). Some n) e

later_later : (a b : Option ℕ) (c : Option ℕ) → later a (later b c) ≡ later (later a b) c
later_later None b c = refl
later_later (Some x) None c = refl
later_later (Some x) (Some y) None = refl
later_later (Some x) (Some y) (Some z) = let e : max x (max y z) ≡ max (max x y) z = omega arith in ap (λ (n : ℕ). Some n) e

least_none : (a : Option ℕ) → a ≡ least a None
least_none None = refl
least_none (Some x) = refl

later_none : (a : Option ℕ) → a ≡ later a None
later_none None = refl
later_none (Some x) = refl

module _ (ts : List Term) (i : ℕ) (t : Term) (a whole : Option ℕ) (lt : i < length ts) (is : t ≡ get_or ts i t) where
  pub depth_more : whole ≡ least a (depth_in (drop i ts)) → whole ≡ least (least a (depth_under t.nots t.kind)) (depth_in (drop (i + 1) ts))
  depth_more e = e ∙ (ap (λ l. least a (depth_in l)) (left_here ts i t lt is) ∙ least_least a (depth_under t.nots t.kind) (depth_in (drop (i + 1) ts)))

  pub from_more : whole ≡ later a (from_in (drop i ts)) → whole ≡ later (later a (bounds_under t.nots t.kind).from) (from_in (drop (i + 1) ts))
  from_more e = e ∙ (ap (λ l. later a (from_in l)) (left_here ts i t lt is) ∙ later_later a (bounds_under t.nots t.kind).from (from_in (drop (i + 1) ts)))

  pub end_more : whole ≡ least a (end_in (drop i ts)) → whole ≡ least (least a (bounds_under t.nots t.kind).end) (end_in (drop (i + 1) ts))
  end_more e = e ∙ (ap (λ l. least a (end_in l)) (left_here ts i t lt is) ∙ least_least a (bounds_under t.nots t.kind).end (end_in (drop (i + 1) ts)))

module _ (ts : List Term) (i : ℕ) (a whole : Option ℕ) (le : length ts ≤ i) where
  pub depth_all : whole ≡ least a (depth_in (drop i ts)) → a ≡ whole
  depth_all e = least_none a ∙ sym (e ∙ ap (λ l. least a (depth_in l)) (drop_all i ts le))

  pub from_all : whole ≡ later a (from_in (drop i ts)) → a ≡ whole
  from_all e = later_none a ∙ sym (e ∙ ap (λ l. later a (from_in l)) (drop_all i ts le))

  pub end_all : whole ≡ least a (end_in (drop i ts)) → a ≡ whole
  end_all e = least_none a ∙ sym (e ∙ ap (λ l. least a (end_in l)) (drop_all i ts le))

-- the common bounds are days
later_bound : (a b : Option ℕ) → IfSome a (λ day. (1 ≤ day) × (day ≤ day_end)) → IfSome b (λ day. (1 ≤ day) × (day ≤ day_end)) → IfSome (later a b) (λ day. (1 ≤ day) × (day ≤ day_end))
later_bound None b ha hb = hb
later_bound (Some x) None ha hb = ha
later_bound (Some x) (Some y) ha hb = (omega (arith, ha.0, hb.0), omega (arith, ha.1, hb.1))

least_bound : (a b : Option ℕ) → IfSome a (λ day. (1 ≤ day) × (day ≤ day_end)) → IfSome b (λ day. (1 ≤ day) × (day ≤ day_end)) → IfSome (least a b) (λ day. (1 ≤ day) × (day ≤ day_end))
least_bound None b ha hb = hb
least_bound (Some x) None ha hb = ha
least_bound (Some x) (Some y) ha hb = (omega (arith, ha.0, hb.0), omega (arith, ha.1, hb.1))

none_bound : (n : ℕ) (k : Kind) → HasDays k → IfSome (bounds_under n k).from (λ day. (1 ≤ day) × (day ≤ day_end)) × IfSome (bounds_under n k).end (λ day. (1 ≤ day) × (day ≤ day_end))
none_bound zero (kinds.Date p) h = (h.0, h.1)
none_bound zero (kinds.Said f p) h = (tt, tt)
none_bound zero (kinds.Account p) h = (tt, tt)
none_bound zero (kinds.Symbol p) h = (tt, tt)
none_bound zero (kinds.Amount t) h = (tt, tt)
none_bound zero (kinds.Depth d) h = (tt, tt)
none_bound zero (kinds.Real r) h = (tt, tt)
none_bound zero (kinds.Status m) h = (tt, tt)
none_bound zero (kinds.Tag n v) h = (tt, tt)
none_bound zero (kinds.Type l) h = (tt, tt)
none_bound (suc n) k h = (tt, tt)

from_bound : (ts : List Term) → AreDated ts → IfSome (from_in ts) (λ day. (1 ≤ day) × (day ≤ day_end))
from_bound [] h = tt
from_bound (t ∷ ts) h =
    later_bound (bounds_under t.nots t.kind).from (from_in ts) (none_bound t.nots t.kind (All-head (λ (x : Term). HasDays x.kind) t ts h)).0 (from_bound ts (All-tail (λ (x : Term). HasDays x.kind) t ts h))

end_bound : (ts : List Term) → AreDated ts → IfSome (end_in ts) (λ day. (1 ≤ day) × (day ≤ day_end))
end_bound [] h = tt
end_bound (t ∷ ts) h =
    least_bound (bounds_under t.nots t.kind).end (end_in ts) (none_bound t.nots t.kind (All-head (λ (x : Term). HasDays x.kind) t ts h)).1 (end_bound ts (All-tail (λ (x : Term). HasDays x.kind) t ts h))

pub dates_are_days : (ts : List Term) → AreDated ts → IsPeriod (dates_in ts)
dates_are_days ts h = (from_bound ts h, end_bound ts h, tt)
