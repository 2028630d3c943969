-- The sums of two lists of amounts, by recursion along both.
use Rattle.std.proofs.Common.{◌≡◌, ℕ, ℤ, zero, suc, ◌+◌, ◌<◌, ◌≤◌, ◌+ℤ◌, pos, nat_lt, Bool, true, false, cond, List, [], ◌∷◌, ◌++◌, length, get_or, drop, refl, sym, ap, subst, ◌∙◌, inl, inr, append_assoc, lit<, arith}
use Rattle.std.proofs.lemmas.List.{drop_more}
use Rattle.std.proofs.lemmas.Bool.{cases_lt}
use Rattle.std.proofs.lemmas.Int.{int_wrap_fits}
use Rattle.std.proofs.lemmas.Cmp.{ranked}
use Rattle.std.specs.declared.cmp.Ordering.{Ordering}
use Rattle.std.specs.declared.cmp.Ordering.TheVariants.{Less, Equal, Greater}
use Rattle.std.specs.Ordering.{nat_cmp, int_eq, MatchOrdering}
use Rattle.std.specs.FinMap.Entries.{by_order}
use Rattle.std.specs.Int.{int_wrap, w128}
use Rattle.hl_time.specs.declared.day.Day.{Day}
use Rattle.live_index.specs.declared.runs.Run.{Run}
use Rattle.live_index.specs.Runs.{IsRising, sum_from, sum_at, changed, EachChanges, AreRuns, AreTogether, earlier_of, before}
use Rattle.live_index.proofs.RunLaws.{lt-false, ge-of, changed-law, changed-rising, changed-changes, sum_at-suc}

-- a day with the sum of both lists, unless it is that of the day before
abbrev pub with_day : Day → ℤ → ℤ → ℤ → List Run → List Run
with_day day earlier first second rest =
    changed earlier (record { day = day; sum = int_wrap w128 (first +ℤ second) }) rest

-- the second list alone is left
abbrev pub alone : ℤ → ℤ → List Run → List Run
alone a b [] = []
alone a b (other ∷ others) = with_day other.day (int_wrap w128 (a +ℤ b)) a other.sum (alone a other.sum others)

-- the first list begins with a day
abbrev pub along : Run → (ℤ → List Run → List Run) → ℤ → ℤ → List Run → List Run
along run rest a b [] = with_day run.day (int_wrap w128 (a +ℤ b)) run.sum b (rest b [])
along run rest a b (other ∷ others) =
    by_order (nat_cmp run.day.0 other.day.0)
    (with_day run.day (int_wrap w128 (a +ℤ b)) run.sum b (rest b (other ∷ others)))
    (with_day run.day (int_wrap w128 (a +ℤ b)) run.sum other.sum (rest other.sum others))
    (with_day other.day (int_wrap w128 (a +ℤ b)) a other.sum (along run rest a other.sum others))

-- the sums of two lists whose earlier sums are given
abbrev pub both_of : ℤ → List Run → ℤ → List Run → List Run
both_of a [] b others = alone a b others
both_of a (run ∷ runs) b others = along run (λ c rest. both_of run.sum runs c rest) a b others

order-of : (x y : ℕ) → MatchOrdering (nat_cmp x y) (x < y) (x ≡ y) (y < x)
order-of x y = ranked x y (nat_cmp x y) refl

pub rising-from : (low high : ℕ) (runs : List Run) → low ≤ high → IsRising high runs → IsRising low runs
rising-from low high [] le h = tt
rising-from low high (run ∷ runs) le h = (omega (arith, le, h.0), h.1)

-- ---- the days rise

alone-rising : (least : ℕ) (a b : ℤ) (others : List Run) → IsRising least others → IsRising least (alone a b others)
alone-rising least a b [] h = tt
alone-rising least a b (other ∷ others) h =
    changed-rising least (int_wrap w128 (a +ℤ b)) (record { day = other.day; sum = int_wrap w128 (a +ℤ other.sum) }) _ h.0 (alone-rising (other.day.0 + 1) a other.sum others h.1)

along-rising : (run : Run) (rest : ℤ → List Run → List Run) (least : ℕ) (a b : ℤ) (others : List Run) → least ≤ run.day.0 → ((c : ℤ) (left : List Run) → IsRising (run.day.0 + 1) left → IsRising (run.day.0 + 1) (rest c left)) → IsRising least others → IsRising least (along run rest a b others)
along-rising run rest least a b [] le f h = changed-rising least (int_wrap w128 (a +ℤ b)) (record { day = run.day; sum = int_wrap w128 (run.sum +ℤ b) }) _ le (f b [] tt)
along-rising run rest least a b (other ∷ others) le f h =
    let later = along-rising run rest (other.day.0 + 1) a other.sum others in
    elim (nat_cmp run.day.0 other.day.0) as (λ o. MatchOrdering o (run.day.0 < other.day.0) (run.day.0 ≡ other.day.0) (other.day.0 < run.day.0) → IsRising least (by_order o (with_day run.day (int_wrap w128 (a +ℤ b)) run.sum b (rest b (other ∷ others))) (with_day run.day (int_wrap w128 (a +ℤ b)) run.sum other.sum (rest other.sum others)) (with_day other.day (int_wrap w128 (a +ℤ b)) a other.sum (along run rest a other.sum others)))) [
      | Less ↦ λ lt. changed-rising least (int_wrap w128 (a +ℤ b)) (record { day = run.day; sum = int_wrap w128 (run.sum +ℤ b) }) _ le (f b (other ∷ others) (omega (arith, lt), h.1))
      | Equal ↦ λ e. changed-rising least (int_wrap w128 (a +ℤ b)) (record { day = run.day; sum = int_wrap w128 (run.sum +ℤ other.sum) }) _ le (f other.sum others (subst (λ (n : ℕ). IsRising (n + 1) others) (sym e) h.1))
      | Greater ↦ λ gt. changed-rising least (int_wrap w128 (a +ℤ b)) (record { day = other.day; sum = int_wrap w128 (a +ℤ other.sum) }) _ h.0 (later (omega (arith, gt)) f h.1)
    ] (order-of run.day.0 other.day.0)

pub both-rising : (least : ℕ) (a : ℤ) (runs : List Run) (b : ℤ) (others : List Run) → IsRising least runs → IsRising least others → IsRising least (both_of a runs b others)
both-rising least a [] b others h k = alone-rising least a b others k
both-rising least a (run ∷ runs) b others h k =
    along-rising run (λ c rest. both_of run.sum runs c rest) least a b others h.0 (λ c left r. both-rising (run.day.0 + 1) run.sum runs c left h.1 r) k

-- ---- no day's sum is that of the day before

alone-changes : (a b : ℤ) (others : List Run) → EachChanges (int_wrap w128 (a +ℤ b)) (alone a b others)
alone-changes a b [] = tt
alone-changes a b (other ∷ others) =
    changed-changes (int_wrap w128 (a +ℤ b)) (record { day = other.day; sum = int_wrap w128 (a +ℤ other.sum) }) _ (alone-changes a other.sum others)

along-changes : (run : Run) (rest : ℤ → List Run → List Run) (a b : ℤ) (others : List Run) → ((c : ℤ) (left : List Run) → EachChanges (int_wrap w128 (run.sum +ℤ c)) (rest c left)) → EachChanges (int_wrap w128 (a +ℤ b)) (along run rest a b others)
along-changes run rest a b [] f = changed-changes (int_wrap w128 (a +ℤ b)) (record { day = run.day; sum = int_wrap w128 (run.sum +ℤ b) }) _ (f b [])
along-changes run rest a b (other ∷ others) f =
    let later = along-changes run rest a other.sum others f in
    elim (nat_cmp run.day.0 other.day.0) as (λ o. EachChanges (int_wrap w128 (a +ℤ b)) (by_order o (with_day run.day (int_wrap w128 (a +ℤ b)) run.sum b (rest b (other ∷ others))) (with_day run.day (int_wrap w128 (a +ℤ b)) run.sum other.sum (rest other.sum others)) (with_day other.day (int_wrap w128 (a +ℤ b)) a other.sum (along run rest a other.sum others)))) [
      | Less ↦ changed-changes (int_wrap w128 (a +ℤ b)) (record { day = run.day; sum = int_wrap w128 (run.sum +ℤ b) }) _ (f b (other ∷ others))
      | Equal ↦ changed-changes (int_wrap w128 (a +ℤ b)) (record { day = run.day; sum = int_wrap w128 (run.sum +ℤ other.sum) }) _ (f other.sum others)
      | Greater ↦ changed-changes (int_wrap w128 (a +ℤ b)) (record { day = other.day; sum = int_wrap w128 (a +ℤ other.sum) }) _ later
    ]

pub both-changes : (a : ℤ) (runs : List Run) (b : ℤ) (others : List Run) → EachChanges (int_wrap w128 (a +ℤ b)) (both_of a runs b others)
both-changes a [] b others = alone-changes a b others
both-changes a (run ∷ runs) b others =
    along-changes run (λ c rest. both_of run.sum runs c rest) a b others (λ c left. both-changes run.sum runs c left)

-- ---- each sum is that of both lists

-- a day before `end`, and then what is left
told-day : (day : Day) (earlier sum after : ℤ) (rest : List Run) (end : ℕ) (x : ℤ) → IsRising (day.0 + 1) rest → (nat_lt day.0 end ≡ true → sum_from sum rest end ≡ x) → (nat_lt day.0 end ≡ false → earlier ≡ x) → sum_from earlier (changed earlier (record { day = day; sum = sum }) rest) end ≡ x
told-day day earlier sum after rest end x rising f g =
    changed-law earlier (record { day = day; sum = sum }) rest end rising
    ∙ elim (nat_lt day.0 end) as (λ t. nat_lt day.0 end ≡ t → cond t (sum_from sum rest end) earlier ≡ x) [ true ↦ f | false ↦ g ] refl

alone-sums : (least : ℕ) (a b : ℤ) (others : List Run) (end : ℕ) → IsRising least others → sum_from (int_wrap w128 (a +ℤ b)) (alone a b others) end ≡ int_wrap w128 (a +ℤ sum_from b others end)
alone-sums least a b [] end h = refl
alone-sums least a b (other ∷ others) end h =
    told-day other.day (int_wrap w128 (a +ℤ b)) (int_wrap w128 (a +ℤ other.sum)) a (alone a other.sum others) end _ (alone-rising (other.day.0 + 1) a other.sum others h.1)
    (λ t. alone-sums (other.day.0 + 1) a other.sum others end h.1 ∙ ap (λ (c : Bool). int_wrap w128 (a +ℤ cond c (sum_from other.sum others end) b)) (sym t))
    (λ t. ap (λ (c : Bool). int_wrap w128 (a +ℤ cond c (sum_from other.sum others end) b)) (sym t))

along-sums : (run : Run) (runs : List Run) (rest : ℤ → List Run → List Run) (least : ℕ) (a b : ℤ) (others : List Run) (end : ℕ) → least ≤ run.day.0 → ((c : ℤ) (left : List Run) → IsRising (run.day.0 + 1) left → IsRising (run.day.0 + 1) (rest c left)) → ((c : ℤ) (left : List Run) → IsRising (run.day.0 + 1) left → sum_from (int_wrap w128 (run.sum +ℤ c)) (rest c left) end ≡ int_wrap w128 (sum_from run.sum runs end +ℤ sum_from c left end)) → IsRising least others → sum_from (int_wrap w128 (a +ℤ b)) (along run rest a b others) end ≡ int_wrap w128 (sum_from a (run ∷ runs) end +ℤ sum_from b others end)
along-sums run runs rest least a b [] end le up f h =
    told-day run.day (int_wrap w128 (a +ℤ b)) (int_wrap w128 (run.sum +ℤ b)) a (rest b []) end _ (up b [] tt)
    (λ t. f b [] tt ∙ ap (λ (c : Bool). int_wrap w128 (cond c (sum_from run.sum runs end) a +ℤ b)) (sym t))
    (λ t. ap (λ (c : Bool). int_wrap w128 (cond c (sum_from run.sum runs end) a +ℤ b)) (sym t))
along-sums run runs rest least a b (other ∷ others) end le up f h =
    let later = along-sums run runs rest (other.day.0 + 1) a other.sum others end in
    let total : Bool → Bool → ℤ = λ x y. int_wrap w128 (cond x (sum_from run.sum runs end) a +ℤ cond y (sum_from other.sum others end) b) in
    elim (nat_cmp run.day.0 other.day.0) as (λ o. MatchOrdering o (run.day.0 < other.day.0) (run.day.0 ≡ other.day.0) (other.day.0 < run.day.0) → sum_from (int_wrap w128 (a +ℤ b)) (by_order o (with_day run.day (int_wrap w128 (a +ℤ b)) run.sum b (rest b (other ∷ others))) (with_day run.day (int_wrap w128 (a +ℤ b)) run.sum other.sum (rest other.sum others)) (with_day other.day (int_wrap w128 (a +ℤ b)) a other.sum (along run rest a other.sum others))) end ≡ int_wrap w128 (cond (nat_lt run.day.0 end) (sum_from run.sum runs end) a +ℤ cond (nat_lt other.day.0 end) (sum_from other.sum others end) b)) [
      | Less ↦ λ lt.
          told-day run.day (int_wrap w128 (a +ℤ b)) (int_wrap w128 (run.sum +ℤ b)) a (rest b (other ∷ others)) end _ (up b (other ∷ others) (omega (arith, lt), h.1))
          (λ t. f b (other ∷ others) (omega (arith, lt), h.1) ∙ ap (λ (c : Bool). total c (nat_lt other.day.0 end)) (sym t))
          (λ t. λ i. total (sym t i) (sym (lt-false other.day.0 end (omega (arith, lt, ge-of run.day.0 end t))) i))
      | Equal ↦ λ e.
          let left : IsRising (run.day.0 + 1) others = subst (λ (n : ℕ). IsRising (n + 1) others) (sym e) h.1 in
          told-day run.day (int_wrap w128 (a +ℤ b)) (int_wrap w128 (run.sum +ℤ other.sum)) a (rest other.sum others) end _ (up other.sum others left)
          (λ t. f other.sum others left ∙ (λ i. total (sym t i) ((sym t ∙ ap (λ (n : ℕ). nat_lt n end) e) i)))
          (λ t. λ i. total (sym t i) ((sym t ∙ ap (λ (n : ℕ). nat_lt n end) e) i))
      | Greater ↦ λ gt.
          told-day other.day (int_wrap w128 (a +ℤ b)) (int_wrap w128 (a +ℤ other.sum)) a (along run rest a other.sum others) end _ (along-rising run rest (other.day.0 + 1) a other.sum others (omega (arith, gt)) up h.1)
          (λ t. later (omega (arith, gt)) up f h.1 ∙ ap (λ (c : Bool). total (nat_lt run.day.0 end) c) (sym t))
          (λ t. λ i. total (sym (lt-false run.day.0 end (omega (arith, gt, ge-of other.day.0 end t))) i) (sym t i))
    ] (order-of run.day.0 other.day.0)

pub both-sums : (least : ℕ) (a : ℤ) (runs : List Run) (b : ℤ) (others : List Run) (end : ℕ) → IsRising least runs → IsRising least others → sum_from (int_wrap w128 (a +ℤ b)) (both_of a runs b others) end ≡ int_wrap w128 (sum_from a runs end +ℤ sum_from b others end)
both-sums least a [] b others end h k = alone-sums least a b others end k
both-sums least a (run ∷ runs) b others end h k =
    along-sums run runs (λ c rest. both_of run.sum runs c rest) least a b others end h.0
    (λ c left r. both-rising (run.day.0 + 1) run.sum runs c left h.1 r)
    (λ c left r. both-sums (run.day.0 + 1) run.sum runs c left end h.1 r) k

-- ---- a day more of the walk

both-less : (a : ℤ) (run : Run) (runs : List Run) (b : ℤ) (others : List Run) → earlier_of (run ∷ runs) others ≡ Less → both_of a (run ∷ runs) b others ≡ with_day run.day (int_wrap w128 (a +ℤ b)) run.sum b (both_of run.sum runs b others)
both-less a run runs b [] e = refl
both-less a run runs b (other ∷ others) e = ap (λ (o : Ordering). by_order o (with_day run.day (int_wrap w128 (a +ℤ b)) run.sum b (both_of run.sum runs b (other ∷ others))) (with_day run.day (int_wrap w128 (a +ℤ b)) run.sum other.sum (both_of run.sum runs other.sum others)) (with_day other.day (int_wrap w128 (a +ℤ b)) a other.sum (along run (λ c rest. both_of run.sum runs c rest) a other.sum others))) e

both-equal : (a : ℤ) (run : Run) (runs : List Run) (b : ℤ) (other : Run) (others : List Run) → earlier_of (run ∷ runs) (other ∷ others) ≡ Equal → both_of a (run ∷ runs) b (other ∷ others) ≡ with_day run.day (int_wrap w128 (a +ℤ b)) run.sum other.sum (both_of run.sum runs other.sum others)
both-equal a run runs b other others e = ap (λ (o : Ordering). by_order o (with_day run.day (int_wrap w128 (a +ℤ b)) run.sum b (both_of run.sum runs b (other ∷ others))) (with_day run.day (int_wrap w128 (a +ℤ b)) run.sum other.sum (both_of run.sum runs other.sum others)) (with_day other.day (int_wrap w128 (a +ℤ b)) a other.sum (along run (λ c rest. both_of run.sum runs c rest) a other.sum others))) e

both-greater : (a : ℤ) (runs : List Run) (b : ℤ) (other : Run) (others : List Run) → earlier_of runs (other ∷ others) ≡ Greater → both_of a runs b (other ∷ others) ≡ with_day other.day (int_wrap w128 (a +ℤ b)) a other.sum (both_of a runs other.sum others)
both-greater a [] b other others e = refl
both-greater a (run ∷ runs) b other others e = ap (λ (o : Ordering). by_order o (with_day run.day (int_wrap w128 (a +ℤ b)) run.sum b (both_of run.sum runs b (other ∷ others))) (with_day run.day (int_wrap w128 (a +ℤ b)) run.sum other.sum (both_of run.sum runs other.sum others)) (with_day other.day (int_wrap w128 (a +ℤ b)) a other.sum (along run (λ c rest. both_of run.sum runs c rest) a other.sum others))) e

-- what is left of two lists from places of theirs
abbrev pub left_of : List Run → ℕ → List Run → ℕ → List Run
left_of first at second other =
    both_of (sum_at (pos 0) first at) (drop at first) (sum_at (pos 0) second other) (drop other second)

abbrev pub sum_upto : List Run → ℕ → List Run → ℕ → ℤ
sum_upto first at second other = int_wrap w128 (sum_at (pos 0) first at +ℤ sum_at (pos 0) second other)

next-sum : (runs : List Run) (at : ℕ) (d : Run) → at < length runs → sum_at (pos 0) runs (at + 1) ≡ (get_or runs at d).sum
next-sum runs at d lt = ap (sum_at (pos 0) runs) suc-is ∙ sum_at-suc (pos 0) runs at d lt
  where
    suc-is : at + 1 ≡ suc at
    suc-is = omega arith

pub less-inside : (first : List Run) (at : ℕ) (others : List Run) → earlier_of (drop at first) others ≡ Less → at < length first
less-inside [] zero others e = absurd (differs e)
  where
    differs : Greater ≡ Less → ⊥
    differs e = cc
less-inside [] (suc at) others e = absurd (differs e)
  where
    differs : Greater ≡ Less → ⊥
    differs e = cc
less-inside (run ∷ first) zero others e = omega arith
less-inside (run ∷ first) (suc at) others e = omega (arith, less-inside first at others e)

pub equal-inside : (first : List Run) (at : ℕ) (others : List Run) → earlier_of (drop at first) others ≡ Equal → at < length first
equal-inside [] zero others e = absurd (differs e)
  where
    differs : Greater ≡ Equal → ⊥
    differs e = cc
equal-inside [] (suc at) others e = absurd (differs e)
  where
    differs : Greater ≡ Equal → ⊥
    differs e = cc
equal-inside (run ∷ first) zero others e = omega arith
equal-inside (run ∷ first) (suc at) others e = omega (arith, equal-inside first at others e)

nothing-left : (runs : List Run) (at : ℕ) → length runs ≤ at → drop at runs ≡ []
nothing-left [] zero h = refl
nothing-left [] (suc at) h = refl
nothing-left (run ∷ runs) zero h = absurd (omega arith)
nothing-left (run ∷ runs) (suc at) h = nothing-left runs at (omega arith)

left-alone : (runs : List Run) → earlier_of runs [] ≡ Equal → ⊥
left-alone [] e = cc
left-alone (run ∷ runs) e = cc

left-lesser : (runs : List Run) (run : Run) (more : List Run) → runs ≡ run ∷ more → earlier_of runs [] ≡ Greater → ⊥
left-lesser [] run more h e = absurd (differs h)
  where
    differs : [] ≡ run ∷ more → ⊥
    differs e = cc
left-lesser (one ∷ runs) run more h e = cc

-- both are inside where the days are one
pub equal-inside-other : (runs : List Run) (second : List Run) (other : ℕ) → earlier_of runs (drop other second) ≡ Equal → other < length second
equal-inside-other runs second other e =
    elim (cases_lt other (length second)) [
      | inl lt ↦ lt
      | inr ge ↦ absurd (left-alone runs (ap (earlier_of runs) (sym (nothing-left second other ge)) ∙ e))
    ]

-- and the second where its day is the earlier one, unless nothing is left
pub greater-inside : (first second : List Run) (at other : ℕ) → (length first ≤ at → other < length second) → earlier_of (drop at first) (drop other second) ≡ Greater → other < length second
greater-inside first second at other some e =
    elim (cases_lt other (length second)) [
      | inl lt ↦ lt
      | inr ge ↦
          elim (cases_lt at (length first)) [
            | inl lt ↦ absurd (left-lesser (drop at first) _ _ (drop_more first at (record { day = record { 0 = 0 }; sum = pos 0 }) lt) (ap (earlier_of (drop at first)) (sym (nothing-left second other ge)) ∙ e))
            | inr ge-first ↦ some ge-first
          ]
    ]

-- the walk's steps: a day with the sums behind it, and what is left behind them
pub walk-less : (first second : List Run) (at other : ℕ) (d : Run) → at < length first → earlier_of (drop at first) (drop other second) ≡ Less → left_of first at second other ≡ changed (sum_upto first at second other) (record { day = (get_or first at d).day; sum = sum_upto first (at + 1) second other }) (left_of first (at + 1) second other)
walk-less first second at other d lt e =
    let is = drop_more first at d lt in
    let next = next-sum first at d lt in
    ap (λ runs. both_of (sum_at (pos 0) first at) runs (sum_at (pos 0) second other) (drop other second)) is
    ∙ both-less (sum_at (pos 0) first at) (get_or first at d) (drop (at + 1) first) (sum_at (pos 0) second other) (drop other second) (ap (λ runs. earlier_of runs (drop other second)) (sym is) ∙ e)
    ∙ ap (λ z. with_day (get_or first at d).day (sum_upto first at second other) z (sum_at (pos 0) second other) (both_of z (drop (at + 1) first) (sum_at (pos 0) second other) (drop other second))) (sym next)

pub walk-greater : (first second : List Run) (at other : ℕ) (d : Run) → other < length second → earlier_of (drop at first) (drop other second) ≡ Greater → left_of first at second other ≡ changed (sum_upto first at second other) (record { day = (get_or second other d).day; sum = sum_upto first at second (other + 1) }) (left_of first at second (other + 1))
walk-greater first second at other d lt e =
    let is = drop_more second other d lt in
    let next = next-sum second other d lt in
    ap (λ runs. both_of (sum_at (pos 0) first at) (drop at first) (sum_at (pos 0) second other) runs) is
    ∙ both-greater (sum_at (pos 0) first at) (drop at first) (sum_at (pos 0) second other) (get_or second other d) (drop (other + 1) second) (ap (λ runs. earlier_of (drop at first) runs) (sym is) ∙ e)
    ∙ ap (λ z. with_day (get_or second other d).day (sum_upto first at second other) (sum_at (pos 0) first at) z (both_of (sum_at (pos 0) first at) (drop at first) z (drop (other + 1) second))) (sym next)

pub walk-equal : (first second : List Run) (at other : ℕ) (d : Run) → at < length first → other < length second → earlier_of (drop at first) (drop other second) ≡ Equal → left_of first at second other ≡ changed (sum_upto first at second other) (record { day = (get_or first at d).day; sum = sum_upto first (at + 1) second (other + 1) }) (left_of first (at + 1) second (other + 1))
walk-equal first second at other d lt within e =
    let is = drop_more first at d lt in
    let are = drop_more second other d within in
    let next = next-sum first at d lt in
    let then = next-sum second other d within in
    (λ i. both_of (sum_at (pos 0) first at) (is i) (sum_at (pos 0) second other) (are i))
    ∙ both-equal (sum_at (pos 0) first at) (get_or first at d) (drop (at + 1) first) (sum_at (pos 0) second other) (get_or second other d) (drop (other + 1) second) ((λ i. earlier_of (sym is i) (sym are i)) ∙ e)
    ∙ (λ i. with_day (get_or first at d).day (sum_upto first at second other) (sym next i) (sym then i) (both_of (sym next i) (drop (at + 1) first) (sym then i) (drop (other + 1) second)))

pub changed-last : (earlier : ℤ) (run : Run) (rest : List Run) → changed earlier run [] ++ rest ≡ changed earlier run rest
changed-last earlier run rest = elim (int_eq run.sum earlier) as (λ b. cond b [] (run ∷ []) ++ rest ≡ cond b rest (run ∷ rest)) [ true ↦ refl | false ↦ refl ]

-- a day that was put last, and what is left behind it
pub walked : (done new rest all left : List Run) (earlier sum before_it up_to : ℤ) (day : Day) → done ++ left ≡ all → left ≡ changed before_it (record { day = day; sum = up_to }) rest → earlier ≡ before_it → sum ≡ up_to → new ≡ done ++ changed earlier (record { day = day; sum = sum }) [] → new ++ rest ≡ all
walked done new rest all left earlier sum before_it up_to day so_far is was now put =
    ap (λ (t : List Run). t ++ rest) (put ∙ (λ i. done ++ changed (was i) (record { day = day; sum = now i }) []))
    ∙ append_assoc done (changed before_it (record { day = day; sum = up_to }) []) rest
    ∙ ap (λ (t : List Run). done ++ t) (changed-last before_it (record { day = day; sum = up_to }) rest ∙ sym is)
    ∙ so_far

-- the whole
pub walk-start : (first second : List Run) → left_of first 0 second 0 ≡ both_of (pos 0) first (pos 0) second
walk-start first second = refl

pub walk-end : (first second : List Run) (at other : ℕ) → length first ≤ at → length second ≤ other → left_of first at second other ≡ []
walk-end first second at other le within =
    λ i. both_of (sum_at (pos 0) first at) (nothing-left first at le i) (sum_at (pos 0) second other) (nothing-left second other within i)

pub zero-wrap : int_wrap w128 (pos 0) ≡ pos 0
zero-wrap = int_wrap_fits w128 (pos 0) (record { sfits = lit< tt })

pub both-together : (first second : List Run) → AreRuns first → AreRuns second → AreTogether first second (both_of (pos 0) first (pos 0) second)
both-together first second h k end =
    ap (λ (z : ℤ). sum_from z (both_of (pos 0) first (pos 0) second) end) (sym zero-wrap)
    ∙ both-sums 0 (pos 0) first (pos 0) second end h.rising k.rising

pub both-kept : (first second : List Run) → AreRuns first → AreRuns second → AreRuns (both_of (pos 0) first (pos 0) second)
both-kept first second h k = record {
  rising = both-rising 0 (pos 0) first (pos 0) second h.rising k.rising;
  changes = subst (λ (z : ℤ). EachChanges z (both_of (pos 0) first (pos 0) second)) zero-wrap (both-changes (pos 0) first (pos 0) second);
}

-- which list begins with the earlier day, by places
pub greater-of : (first : List Run) (at : ℕ) (others : List Run) → length first ≤ at → Greater ≡ earlier_of (drop at first) others
greater-of first at others h = ap (λ runs. earlier_of runs others) (sym (nothing-left first at h))

pub less-of : (first second : List Run) (at other : ℕ) → at < length first → length second ≤ other → Less ≡ earlier_of (drop at first) (drop other second)
less-of first second at other lt h =
    λ i. earlier_of (sym (drop_more first at (record { day = record { 0 = 0 }; sum = pos 0 }) lt) i) (sym (nothing-left second other h) i)

pub order-at : (first second : List Run) (at other : ℕ) (d : Run) → at < length first → other < length second → nat_cmp (get_or first at d).day.0 (get_or second other d).day.0 ≡ earlier_of (drop at first) (drop other second)
order-at first second at other d lt within =
    λ i. earlier_of (sym (drop_more first at d lt) i) (sym (drop_more second other d within) i)
