-- A transaction whose postings are all of its day has one group, which is its first.
use Rattle.std.proofs.Common.{◌≡◌, ℕ, suc, ◌+◌, true, false, ◌&&◌, ◌||◌, not, eqb, ltb, List, [], ◌∷◌, map, Option, Some, None, refl, sym, ap, ◌∙◌, subst, arith}
use Rattle.std.specs.List.{AllByRecursion, list_any, slice_get}
use Rattle.std.proofs.lemmas.Bool.{eqb-true}
use Rattle.std.proofs.lemmas.Bool.Decides.{nat_tests}
use Rattle.hl_time.specs.declared.day.Day.{Day}
use Rattle.std.specs.Prelude.{unwrap_or}
use Rattle.book.specs.declared.amount.Amount.{Amount}
use Rattle.book.specs.declared.transaction.Posting.{Posting}
use Rattle.book.specs.declared.transaction.Txn.{Txn}
use Rattle.entry_balance.specs.Entry.{found_posting, needed, or_nothing, recorded_cost, side_values, solved_posting}
use Rattle.entry_balance.specs.Tally.{sums_of}
use Rattle.entry_balance.specs.Values.{Value}
use Rattle.balancing.specs.Faults.{AreMadeIf, is_first}
use Rattle.balancing.specs.Groups.{Group, day_of, groups_by, groups_from, groups_of}
use Rattle.balancing.proofs.FaultingGroups.{made_groups_if}
use Rattle.balancing.proofs.SolvingFixed.{all_once}
use Rattle.balancing.proofs.SolvingMade.{costed_alike, solved_by}
use Rattle.balancing.proofs.SolvingRising.{all_append, all_left, all_right}

-- ---- the days of what is made are those of what is solved

some_is : (a b : Txn) → Some a ≡ Some b → a ≡ b
some_is a b h = let same : a ≡ b = cc in same

found_day : (T : Txn) (day : ℕ) (p : Posting) (vs : List Value) → AllByRecursion (λ q. day_of T q ≡ day) (map (found_posting p) (or_nothing vs)) → day_of T p ≡ day
found_day T day p [] h = h.0
found_day T day p (v ∷ vs) h = h.0

one_day : (T : Txn) (day : ℕ) (all : List Posting) (p : Posting) (a : Option Amount) → AllByRecursion (λ q. day_of T q ≡ day) (solved_posting all p a) → day_of T p ≡ day
one_day T day all p None h = found_day T day p (needed (sums_of (side_values p.side all))) h
one_day T day all p (Some a) h = ap (λ (o : Option Day). (unwrap_or o T.day).0) (sym (costed_alike (recorded_cost all) p).day) ∙ h.0

pub made_on_day : (T : Txn) (day : ℕ) (all ps : List Posting) → AllByRecursion (λ q. day_of T q ≡ day) (solved_by all ps) → AllByRecursion (λ q. day_of T q ≡ day) ps
made_on_day T day all [] h = tt
made_on_day T day all (p ∷ ps) h = (
  one_day T day all p p.amount (all_left (λ q. day_of T q ≡ day) (solved_posting all p p.amount) (solved_by all ps) h),
  made_on_day T day all ps (all_right (λ q. day_of T q ≡ day) (solved_posting all p p.amount) (solved_by all ps) h),
)

-- ---- the groups with its number

abbrev IsThis : ℕ → ℕ → Group → Type 0
IsThis n day h = h.1 ≡ n → h.0 ≡ day

abbrev pub OnDay : ℕ → Txn → Type 0
OnDay day u = (u.day.0 ≡ day) × AllByRecursion (λ q. day_of u q ≡ day) u.postings

each_group : (n day k : ℕ) (u : Txn) (ps : List Posting) → (k ≡ n → AllByRecursion (λ q. day_of u q ≡ day) ps) → AllByRecursion (IsThis n day) (map (λ q. (day_of u q, k)) ps)
each_group n day k u [] f = tt
each_group n day k u (p ∷ ps) f = ((λ e. (f e).0), each_group n day k u ps (λ e. (f e).1))

its_groups : (n day k : ℕ) (u : Txn) (ps : List Posting) → (k ≡ n → u.day.0 ≡ day) → (k ≡ n → AllByRecursion (λ q. day_of u q ≡ day) ps) → AllByRecursion (IsThis n day) (groups_by k u ps)
its_groups n day k u [] own f = (own, tt)
its_groups n day k u (p ∷ ps) own f = each_group n day k u (p ∷ ps) f

all_from : (n day k : ℕ) (us : List Txn) → ((j : ℕ) (u : Txn) → slice_get us j ≡ Some u → k + j ≡ n → OnDay day u) → AllByRecursion (IsThis n day) (groups_from k us)
all_from n day k [] f = tt
all_from n day k (u ∷ us) f =
    all_append (IsThis n day) (groups_by k u u.postings) (groups_from (k + 1) us)
    (its_groups n day k u u.postings (λ e. (f 0 u refl (omega (arith, e))).0) (λ e. (f 0 u refl (omega (arith, e))).1))
    (all_from n day (k + 1) us (λ j v at e. f (suc j) v at (omega (arith, e))))

not_less : (a n b d : ℕ) → (a ≡ n → b ≡ d) → (eqb a n && ltb b d) ≡ false
not_less a n b d f = elim (eqb a n) as (λ t. eqb a n ≡ t → (t && ltb b d) ≡ false) [
  | true ↦ λ e. equal_not b d (f (eqb-true a n e))
  | false ↦ λ e. refl
] refl
  where
    equal_not : (b d : ℕ) → b ≡ d → ltb b d ≡ false
    equal_not b d h = grind (arith, nat_tests)

none_less : (n day : ℕ) (gs : List Group) → AllByRecursion (IsThis n day) gs → list_any (λ h. eqb h.1 n && ltb h.0 day) gs ≡ false
none_less n day [] all = refl
none_less n day (h ∷ gs) all = λ i. not_less h.1 n h.0 day all.0 i || none_less n day gs all.1 i

-- the group of the transaction with a number is its first, where all its postings are of its day
pub first_is : (written made : List Txn) (n : ℕ) (m : Txn) → AreMadeIf written made → slice_get made n ≡ Some m → OnDay m.day.0 m → is_first written (m.day.0, n) ≡ true
first_is written made n m kept there on =
    let day : ℕ = m.day.0 in
    let all : AllByRecursion (IsThis n day) (groups_of made) =
    all_once (IsThis n day) (groups_from 0 made) (all_from n day 0 made (λ j u at e. subst (OnDay day) (some_is m u (sym there ∙ ap (slice_get made) (let same : n ≡ j = omega (arith, e) in same) ∙ at)) on)) in
    ap (λ (gs : List Group). not (list_any (λ h. eqb h.1 n && ltb h.0 day) gs)) (sym (made_groups_if written made kept))
    ∙ ap not (none_less n day (groups_of made) all)
