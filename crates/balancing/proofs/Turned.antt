-- Where the turnover of all groups fits, that of the book in the order of its text does.
use Rattle.std.proofs.Common.{◌≡◌, ℕ, suc, pos, ◌+◌, ◌-◌, ◌*◌, ◌^◌, ◌==◌, ◌<◌, ◌≤◌, unsigned_abs, Bool, true, false, ◌||◌, ◌&&◌, not, cond, filter, is_none, ltb, leb, List, [], ◌∷◌, ◌++◌, map, Option, Some, None, ◌⊎◌, inl, inr, refl, sym, ap, ◌∙◌, arith, lit<}
use Rattle.std.specs.List.{flat_map, fold, list_any, slice_get, AllByRecursion}
use Rattle.std.specs.Str.{bytes_eq}
use Rattle.std.specs.Ordering.{eq_by_cmp}
use Rattle.std.proofs.lemmas.Bool.{false≢true, ne_eqb, cases_lt}
use Rattle.std.proofs.lemmas.Bool.Decides.{Decides-ltb, nat_tests}
use Rattle.std.proofs.lemmas.Grind.{flat_map-append}
use Rattle.std.proofs.lemmas.Int.{unsigned_abs-mul}
use Rattle.std.proofs.Math.Nat.{pow-le-pow_right, mul-le-mul_left}
use Rattle.hl_num.specs.Decimal.{units_of, mantissa_at}
use Rattle.hl_num.proofs.DecimalLemmas.{units_of-mantissa_at}
use Rattle.hl_num.proofs.RoundingLemmas.{pow_ten_positive}
use Rattle.book.specs.declared.amount.Amount.{Amount}
use Rattle.book.specs.declared.amount.Cost.TheVariants.{Total}
use Rattle.book.specs.declared.transaction.Posting.{Posting}
use Rattle.book.specs.declared.transaction.Txn.{Txn}
use Rattle.book.specs.Mixed.{plus}
use Rattle.book.specs.Postings.{postings_of}
use Rattle.book.specs.Sums.{share}
use Rattle.book.specs.Bounds.{turnover, places_in, places_of, TurnoverFits}
use Rattle.book.proofs.Order.{contains-each_once, is_equal}
use Rattle.entry_balance.specs.Values.{Value, value_of, absolute, cost_values}
use Rattle.entry_balance.specs.Tally.{numbers_of, no_sum, turnover_fits}
use Rattle.entry_balance.specs.Entry.{from_amount, plain_amount, found_posting, found_values, costed_posting, recorded_cost, is_real_of, solved_posting, solved, moved_by, moved}
use Rattle.balancing.specs.Groups.{Group, group_cmp, groups_by, groups_from, groups_of, day_of}
use Rattle.balancing.specs.Load.{moved_on, moved_of_group}
use Rattle.book.specs.SumsBefore.{is_assigned}
use Rattle.balancing.specs.Parts.{is_chosen, is_found, part_on}
use Rattle.balancing.specs.declared.groups.Part.TheVariants as taken
use Rattle.entry_balance.specs.Entry.{settled}
use Rattle.balancing.specs.Walk.{moved_before}
use Rattle.entry_balance.proofs.Turnover.{AllAtMost, magnitude, exact-abs, sum_places-all, places_within, total_within}
use Rattle.balancing.proofs.Whole.{group_ties, has_group, has-left, has-right, has-first}

-- ---- tests of numbers

eqb-same : (n : ℕ) → (n == n) ≡ true
eqb-same n = grind (arith, nat_tests)

eqb-no : (a b : ℕ) → (a ≡ b → ⊥) → (a == b) ≡ false
eqb-no a b h = ne_eqb a b h

leb-yes : (a b : ℕ) → a ≤ b → leb a b ≡ true
leb-yes a b h = grind (arith, nat_tests)

leb-no : (a b : ℕ) → b < a → leb a b ≡ false
leb-no a b h = grind (arith, nat_tests)

where_is : (a b : ℕ) → (b < a) ⊎ ((b ≡ a) ⊎ (a < b))
where_is a b = by (cases_lt b a) (cases_lt a b)
  where
    by : (b < a) ⊎ (a ≤ b) → (a < b) ⊎ (b ≤ a) → (b < a) ⊎ ((b ≡ a) ⊎ (a < b))
    by (inl less) _ = inl less
    by (inr more) (inl less) = inr (inr less)
    by (inr more) (inr less) = inr (inl (omega arith))

-- ---- the days of solved postings

AllByRecursion-append : (P : Posting → Type 0) (xs ys : List Posting) → AllByRecursion P xs → AllByRecursion P ys → AllByRecursion P (xs ++ ys)
AllByRecursion-append P [] ys h k = k
AllByRecursion-append P (x ∷ xs) ys h k = (h.0, AllByRecursion-append P xs ys h.1 k)

module _ (w : Txn) (n : ℕ) (gs : List Group) where
  abbrev There : Posting → Type 0
  There r = has_group (day_of (settled w) r, n) gs ≡ true

  there-found : (p : Posting) → has_group (day_of w p, n) gs ≡ true → (vs : List Value) → AllByRecursion There (map (found_posting p) vs)
  there-found p h [] = tt
  there-found p h (v ∷ vs) = (h, there-found p h vs)

  there-costed : (p : Posting) → has_group (day_of w p, n) gs ≡ true → (cost : Option (List ℕ × Value)) → There (costed_posting cost p)
  there-costed p h None = h
  there-costed p h (Some cost) = by (is_real_of cost.0 p && is_none p.cost)
    where
      by : (b : Bool) → There (cond b (record p { cost = Some (Total (plain_amount cost.1)); costed = true }) p)
      by true = h
      by false = h

  there-solved : (ps : List Posting) (p : Posting) → has_group (day_of w p, n) gs ≡ true → (amount : Option Amount) → AllByRecursion There (solved_posting ps p amount)
  there-solved ps p h None = there-found p h (found_values p.side ps)
  there-solved ps p h (Some a) = (there-costed p h (recorded_cost ps), tt)

  there-all : (ps qs : List Posting) → ((g : Group) → has_group g (map (λ q. (day_of w q, n)) qs) ≡ true → has_group g gs ≡ true) → AllByRecursion There (flat_map (λ p. solved_posting ps p p.amount) qs)
  there-all ps [] h = tt
  there-all ps (q ∷ qs) h =
      AllByRecursion-append There (solved_posting ps q q.amount) _
      (there-solved ps q (h (day_of w q, n) (has-first (day_of w q, n) (map (λ q. (day_of w q, n)) qs))) q.amount)
      (there-all ps qs (λ g e. h g (has-right g ((day_of w q, n) ∷ []) (map (λ q. (day_of w q, n)) qs) e)))

  there-by : (ps : List Posting) → ((g : Group) → has_group g (groups_by n w ps) ≡ true → has_group g gs ≡ true) → AllByRecursion There (solved ps)
  there-by [] h = tt
  there-by (p ∷ ps) h = there-all (p ∷ ps) (p ∷ ps) h

all-there : (n : ℕ) (w : Txn) (gs : List Group) → ((g : Group) → has_group g (groups_by n w w.postings) ≡ true → has_group g gs ≡ true) → AllByRecursion (There w n gs) (settled w).postings
all-there n w gs h = there-by w n gs w.postings h

-- ---- sums over groups

abbrev total : {X : Type 0} → (X → ℕ) → List X → ℕ
total f [] = 0
total f (x ∷ xs) = f x + total f xs

total-same : {X : Type 0} (f g : X → ℕ) → ((x : X) → f x ≡ g x) → (xs : List X) → total f xs ≡ total g xs
total-same f g h [] = refl
total-same f g h (x ∷ xs) = omega (arith, h x, total-same f g h xs)

total-both : {X : Type 0} (f g : X → ℕ) (xs : List X) → total (λ x. f x + g x) xs ≡ total f xs + total g xs
total-both f g [] = omega arith
total-both f g (x ∷ xs) = omega (arith, total-both f g xs)

-- what a posting moves, if it is of a day
abbrev moved_day : ℕ → Txn → Posting → List Value
moved_day day t p = cond (day_of t p == day) (moved_by p) []

module _ (m : Value → ℕ) where
  abbrev pub measure : List Value → ℕ
  measure [] = 0
  measure (v ∷ vs) = m v + measure vs

  pub measure-append : (xs ys : List Value) → measure (xs ++ ys) ≡ measure xs + measure ys
  measure-append [] ys = omega arith
  measure-append (x ∷ xs) ys = omega (arith, measure-append xs ys)

  -- what is moved before and by some groups
  measure-before : (written : List Txn) (before : List Value) (gs : List Group) → measure (moved_before written before gs) ≡ measure before + total (λ g. measure (moved_of_group g.0 (slice_get written g.1))) gs
  measure-before written before [] = omega arith
  measure-before written before (g ∷ gs) =
      omega (arith, measure-before written (before ++ moved_of_group g.0 (slice_get written g.1)) gs, measure-append before (moved_of_group g.0 (slice_get written g.1)))

  module _ (day : ℕ) (t : Txn) where
    whole_part : (ps : List Posting) → measure (moved (filter (is_chosen taken.All day t) ps)) ≡ measure (flat_map (moved_day day t) ps)
    whole_part [] = refl
    whole_part (p ∷ ps) =
        elim (day_of t p == day) as (λ b. measure (moved (cond (b && true) (p ∷ filter (is_chosen taken.All day t) ps) (filter (is_chosen taken.All day t) ps))) ≡ measure (cond b (moved_by p) [] ++ flat_map (moved_day day t) ps)) [
          | true ↦ omega (arith, measure-append (moved_by p) (moved (filter (is_chosen taken.All day t) ps)), measure-append (moved_by p) (flat_map (moved_day day t) ps), whole_part ps)
          | false ↦ whole_part ps
        ]

    two_parts : (ps : List Posting) → measure (moved (filter (is_chosen taken.ButFound day t) ps)) + measure (moved (filter (is_chosen taken.Found day t) ps)) ≡ measure (flat_map (moved_day day t) ps)
    two_parts [] = refl
    two_parts (p ∷ ps) =
        let rest = two_parts ps in
        let one = measure-append (moved_by p) (moved (filter (is_chosen taken.ButFound day t) ps)) in
        let two = measure-append (moved_by p) (moved (filter (is_chosen taken.Found day t) ps)) in
        let all = measure-append (moved_by p) (flat_map (moved_day day t) ps) in
        elim (day_of t p == day) as (λ b. measure (moved (cond (b && not (is_found p)) (p ∷ filter (is_chosen taken.ButFound day t) ps) (filter (is_chosen taken.ButFound day t) ps))) + measure (moved (cond (b && is_found p) (p ∷ filter (is_chosen taken.Found day t) ps) (filter (is_chosen taken.Found day t) ps))) ≡ measure (cond b (moved_by p) [] ++ flat_map (moved_day day t) ps)) [
          | true ↦ elim (is_found p) as (λ f. measure (moved (cond (not f) (p ∷ filter (is_chosen taken.ButFound day t) ps) (filter (is_chosen taken.ButFound day t) ps))) + measure (moved (cond f (p ∷ filter (is_chosen taken.Found day t) ps) (filter (is_chosen taken.Found day t) ps))) ≡ measure (moved_by p ++ flat_map (moved_day day t) ps)) [
            | true ↦ omega (arith, rest, two, all)
            | false ↦ omega (arith, rest, one, all)
          ]
          | false ↦ rest
        ]

    -- the order of a group's postings doesn't change how much they move
    measure-on : measure (moved_on day t) ≡ measure (flat_map (moved_day day t) t.postings)
    measure-on =
        elim (list_any is_assigned t.postings) as (λ b. measure (moved (cond b (part_on taken.ButFound day t ++ part_on taken.Found day t) (part_on taken.All day t))) ≡ measure (flat_map (moved_day day t) t.postings)) [
          | true ↦ ap measure (flat_map-append moved_by (part_on taken.ButFound day t) (part_on taken.Found day t)) ∙ measure-append (moved (part_on taken.ButFound day t)) (moved (part_on taken.Found day t)) ∙ two_parts t.postings
          | false ↦ whole_part t.postings
        ]

  module _ (t : Txn) (n : ℕ) where
    abbrev one : Posting → Group → ℕ
    one p g = cond (g.1 == n) (measure (moved_day g.0 t p)) 0

    abbrev part : List Posting → Group → ℕ
    part ps g = cond (g.1 == n) (measure (flat_map (moved_day g.0 t) ps)) 0

    one-here : (p : Posting) → one p (day_of t p, n) ≡ measure (moved_by p)
    one-here p =
        ap (λ (b : Bool). cond b (measure (moved_day (day_of t p) t p)) 0) (eqb-same n)
        ∙ ap (λ (b : Bool). measure (cond b (moved_by p) [])) (eqb-same (day_of t p))

    one-counts : (p : Posting) (gs : List Group) → has_group (day_of t p, n) gs ≡ true → measure (moved_by p) ≤ total (one p) gs
    one-counts p [] h = absurd (false≢true h)
    one-counts p (g ∷ gs) h =
        elim (eq_by_cmp group_cmp (day_of t p, n) g) as (λ b. eq_by_cmp group_cmp (day_of t p, n) g ≡ b → (b || has_group (day_of t p, n) gs) ≡ true → measure (moved_by p) ≤ one p g + total (one p) gs) [
          | true ↦ λ e _. let same : (day_of t p, n) ≡ g = group_ties (day_of t p, n) g (is_equal _ e) in
              let here : one p g ≡ measure (moved_by p) = ap (one p) (sym same) ∙ one-here p in omega (arith, here)
          | false ↦ λ e rest. omega (arith, one-counts p gs rest)
        ] refl h

    part-more : (p : Posting) (ps : List Posting) (g : Group) → part (p ∷ ps) g ≡ one p g + part ps g
    part-more p ps g =
        elim (g.1 == n) as (λ b. cond b (measure (moved_day g.0 t p ++ flat_map (moved_day g.0 t) ps)) 0 ≡ cond b (measure (moved_day g.0 t p)) 0 + cond b (measure (flat_map (moved_day g.0 t) ps)) 0) [
          | true ↦ measure-append (moved_day g.0 t p) (flat_map (moved_day g.0 t) ps)
          | false ↦ omega arith
        ]

    txn-counts : (gs : List Group) (ps : List Posting) → AllByRecursion (λ p. has_group (day_of t p, n) gs ≡ true) ps → measure (moved ps) ≤ total (part ps) gs
    txn-counts gs [] h = omega arith
    txn-counts gs (p ∷ ps) h =
        let split : total (part (p ∷ ps)) gs ≡ total (one p) gs + total (part ps) gs = total-same (part (p ∷ ps)) (λ g. one p g + part ps g) (part-more p ps) gs ∙ total-both (one p) (part ps) gs in
        omega (arith, split, one-counts p gs h.0, txn-counts gs ps h.1, measure-append (moved_by p) (moved ps))

  -- the groups of the transactions from a number on
  abbrev later : ℕ → List Txn → Group → ℕ
  later n ws g = cond (leb n g.1) (measure (moved_of_group g.0 (slice_get ws (g.1 - n)))) 0

  later-here : (n : ℕ) (w : Txn) (ws : List Txn) (g : Group) → later n (w ∷ ws) g ≡ part (settled w) n (settled w).postings g + later (n + 1) ws g
  later-here n w ws g = by (where_is n g.1)
    where
      by : (g.1 < n) ⊎ ((g.1 ≡ n) ⊎ (n < g.1)) → later n (w ∷ ws) g ≡ part (settled w) n (settled w).postings g + later (n + 1) ws g
      by (inl less) =
          ap (λ (b : Bool). cond b (measure (moved_of_group g.0 (slice_get (w ∷ ws) (g.1 - n)))) 0) (leb-no n g.1 less)
          ∙ sym (ap (λ (b : Bool). cond b (measure (flat_map (moved_day g.0 (settled w)) (settled w).postings)) 0 + later (n + 1) ws g) (eqb-no g.1 n (λ e. omega (arith, e)))
          ∙ ap (λ (b : Bool). 0 + cond b (measure (moved_of_group g.0 (slice_get ws (g.1 - (n + 1))))) 0) (leb-no (n + 1) g.1 (omega arith)))
      by (inr (inl same)) =
          let at : g.1 - n ≡ 0 = omega (arith, same) in
          ap (λ (b : Bool). cond b (measure (moved_of_group g.0 (slice_get (w ∷ ws) (g.1 - n)))) 0) (leb-yes n g.1 (omega (arith, same)))
          ∙ ap (λ k. measure (moved_of_group g.0 (slice_get (w ∷ ws) k))) at
          ∙ measure-on g.0 (settled w)
          ∙ sym (ap (λ (b : Bool). cond b (measure (flat_map (moved_day g.0 (settled w)) (settled w).postings)) 0 + later (n + 1) ws g) (ap (λ k. k == n) same ∙ eqb-same n)
          ∙ ap (λ (b : Bool). measure (flat_map (moved_day g.0 (settled w)) (settled w).postings) + cond b (measure (moved_of_group g.0 (slice_get ws (g.1 - (n + 1))))) 0) (leb-no (n + 1) g.1 (omega (arith, same)))
          ∙ omega arith)
      by (inr (inr more)) =
          let at : g.1 - n ≡ suc (g.1 - (n + 1)) = omega arith in
          ap (λ (b : Bool). cond b (measure (moved_of_group g.0 (slice_get (w ∷ ws) (g.1 - n)))) 0) (leb-yes n g.1 (omega arith))
          ∙ ap (λ k. measure (moved_of_group g.0 (slice_get (w ∷ ws) k))) at
          ∙ sym (ap (λ (b : Bool). cond b (measure (flat_map (moved_day g.0 (settled w)) (settled w).postings)) 0 + later (n + 1) ws g) (eqb-no g.1 n (λ e. omega (arith, e)))
          ∙ ap (λ (b : Bool). 0 + cond b (measure (moved_of_group g.0 (slice_get ws (g.1 - (n + 1))))) 0) (leb-yes (n + 1) g.1 (omega arith))
          ∙ omega arith)

  text-counts : (gs : List Group) (n : ℕ) (ws : List Txn) → ((g : Group) → has_group g (groups_from n ws) ≡ true → has_group g gs ≡ true) → measure (moved (postings_of (map settled ws))) ≤ total (later n ws) gs
  text-counts gs n [] h = omega arith
  text-counts gs n (w ∷ ws) h =
      let here = txn-counts (settled w) n gs (settled w).postings (all-there n w gs (λ g e. h g (has-left g (groups_by n w w.postings) (groups_from (n + 1) ws) e))) in
      let rest = text-counts gs (n + 1) ws (λ g e. h g (has-right g (groups_by n w w.postings) (groups_from (n + 1) ws) e)) in
      let split : total (later n (w ∷ ws)) gs ≡ total (part (settled w) n (settled w).postings) gs + total (later (n + 1) ws) gs =
      total-same (later n (w ∷ ws)) (λ g. part (settled w) n (settled w).postings g + later (n + 1) ws g) (later-here n w ws) gs ∙ total-both (part (settled w) n (settled w).postings) (later (n + 1) ws) gs in
      let joined : measure (moved ((settled w).postings ++ postings_of (map settled ws))) ≡ measure (moved (settled w).postings) + measure (moved (postings_of (map settled ws))) =
      ap measure (flat_map-append moved_by (settled w).postings (postings_of (map settled ws))) ∙ measure-append (moved (settled w).postings) (moved (postings_of (map settled ws))) in
      omega (arith, split, here, rest, joined)

  -- what the book moves is no more than what its groups move
  pub book-counts : (written : List Txn) → measure (moved (postings_of (map settled written))) ≤ measure (moved_before written [] (groups_of written))
  book-counts written =
      let counts = text-counts (groups_of written) 0 written (λ g e. contains-each_once group_ties (groups_from 0 written) g ∙ e) in
      let same : total (later 0 written) (groups_of written) ≡ total (λ g. measure (moved_of_group g.0 (slice_get written g.1))) (groups_of written) =
      total-same (later 0 written) (λ g. measure (moved_of_group g.0 (slice_get written g.1))) from_none (groups_of written) in
      omega (arith, counts, same, measure-before written [] (groups_of written))
    where
      from_none : (g : Group) → later 0 written g ≡ measure (moved_of_group g.0 (slice_get written g.1))
      from_none g =
          let at : g.1 - 0 ≡ g.1 = omega arith in
          ap (λ (b : Bool). cond b (measure (moved_of_group g.0 (slice_get written (g.1 - 0)))) 0) (leb-yes 0 g.1 (omega arith))
          ∙ ap (λ k. measure (moved_of_group g.0 (slice_get written k))) at

-- ---- one symbol

abbrev magnitude_in : List ℕ → ℕ → Value → ℕ
magnitude_in s q v = cond (bytes_eq v.0 s) (unsigned_abs (mantissa_at v.1 q)) 0

-- one where a value of the symbol has more places
abbrev excess_in : List ℕ → ℕ → Value → ℕ
excess_in s q v = cond (bytes_eq v.0 s) (cond (ltb q v.1.places) 1 0) 0

module _ (s : List ℕ) (q : ℕ) where
  magnitude-is : (vs : List Value) → magnitude q (numbers_of s vs) ≡ measure (magnitude_in s q) vs
  magnitude-is [] = refl
  magnitude-is (v ∷ vs) =
      elim (bytes_eq v.0 s) as (λ b. magnitude q (map (λ (v : Value). v.1) (cond b (v ∷ filter (λ (v : Value). bytes_eq v.0 s) vs) (filter (λ (v : Value). bytes_eq v.0 s) vs))) ≡ cond b (unsigned_abs (mantissa_at v.1 q)) 0 + measure (magnitude_in s q) vs) [
        | true ↦ ap (λ k. unsigned_abs (mantissa_at v.1 q) + k) (magnitude-is vs)
        | false ↦ magnitude-is vs ∙ omega arith
      ]

  no_excess : (vs : List Value) → AllAtMost q (numbers_of s vs) → measure (excess_in s q) vs ≡ 0
  no_excess [] h = refl
  no_excess (v ∷ vs) h =
      elim (bytes_eq v.0 s) as (λ b. AllAtMost q (map (λ (v : Value). v.1) (cond b (v ∷ filter (λ (v : Value). bytes_eq v.0 s) vs) (filter (λ (v : Value). bytes_eq v.0 s) vs))) → cond {A = ℕ} b (cond {A = ℕ} (ltb q v.1.places) 1 0) 0 + measure (excess_in s q) vs ≡ 0) [
        | true ↦ λ k. let few : ltb q v.1.places ≡ false = leb-no (suc q) v.1.places (omega (arith, k.0)) in
            let none : cond {A = ℕ} (ltb q v.1.places) 1 0 ≡ 0 = ap (λ (b : Bool). cond b 1 0) few in omega (arith, none, no_excess vs k.1)
        | false ↦ λ k. omega (arith, no_excess vs k)
      ] h

  few_numbers : (vs : List Value) → AllByRecursion (λ v. v.1.places ≤ 36) vs → AllAtMost 36 (numbers_of s vs)
  few_numbers [] h = tt
  few_numbers (v ∷ vs) h =
      elim (bytes_eq v.0 s) as (λ b. AllAtMost 36 (map (λ (v : Value). v.1) (cond b (v ∷ filter (λ (v : Value). bytes_eq v.0 s) vs) (filter (λ (v : Value). bytes_eq v.0 s) vs)))) [
        | true ↦ (h.0, few_numbers vs h.1)
        | false ↦ few_numbers vs h.1
      ]

  pub record IsTurned (turned places magnitude : ℕ) : Type 0 where
    pub less : turned ≤ magnitude * 10 ^ (36 - q)
    pub few : places ≤ q

  no_more : (k : ℕ) → cond {A = ℕ} (ltb q k) 1 0 ≡ 0 → k ≤ q
  no_more k h = by (ltb q k) refl h
    where
      by : (b : Bool) → ltb q k ≡ b → cond {A = ℕ} b 1 0 ≡ 0 → k ≤ q
      by true e h = absurd (omega (arith, h))
      by false e h = not_above e
        where
          not_above : ltb q k ≡ false → k ≤ q
          not_above e = grind (arith, nat_tests)

  module _ (most : q ≤ 36) where
    amount_turned : (a : Amount) (b : Bool) → cond {A = ℕ} b (cond {A = ℕ} (ltb q a.value.places) 1 0) 0 ≡ 0 → IsTurned (unsigned_abs (cond b (units_of a.value) (pos 0))) (cond b a.value.places 0) (cond b (unsigned_abs (mantissa_at a.value q)) 0)
    amount_turned a true h =
        let few = no_more a.value.places h in
        let units : unsigned_abs (units_of a.value) ≡ unsigned_abs (mantissa_at a.value q) * 10 ^ (36 - q) = ap unsigned_abs (sym (units_of-mantissa_at a.value q few most)) ∙ unsigned_abs-mul (mantissa_at a.value q) (pos (10 ^ (36 - q))) in
        record { less = omega (arith, units); few = few }
    amount_turned a false h = record { less = omega arith; few = omega arith }

    posting_turned : (p : Posting) (amount : Option Amount) → measure (excess_in s q) (from_amount (λ a. value_of a ∷ cost_values a p.cost) amount) ≡ 0 → IsTurned (unsigned_abs (share s amount)) (places_in s amount) (measure (magnitude_in s q) (from_amount (λ a. value_of a ∷ cost_values a p.cost) amount))
    posting_turned p None h = record { less = omega arith; few = omega arith }
    posting_turned p (Some a) h =
        let here = amount_turned a (bytes_eq a.symbol s) (omega (arith, h)) in
        let scaled = mul-le-mul_left (10 ^ (36 - q)) (let more : magnitude_in s q (value_of a) ≤ magnitude_in s q (value_of a) + measure (magnitude_in s q) (cost_values a p.cost) = omega arith in more) in
        record { less = omega (arith, here.less, scaled); few = here.few }

    all_turned : (ps : List Posting) → measure (excess_in s q) (moved ps) ≡ 0 → IsTurned (turnover s ps) (places_of s ps) (measure (magnitude_in s q) (moved ps))
    all_turned [] h = record { less = omega arith; few = omega arith }
    all_turned (p ∷ ps) h =
        let excess = measure-append (excess_in s q) (moved_by p) (moved ps) in
        let first = posting_turned p p.amount (omega (arith, h, excess)) in
        let rest = all_turned ps (omega (arith, h, excess)) in
        let sum = measure-append (magnitude_in s q) (moved_by p) (moved ps) in
        let scaled = ap (λ k. k * 10 ^ (36 - q)) sum in
        record { less = omega (arith, first.less, rest.less, scaled); few = omega (arith, first.few, rest.few) }

-- the turnover of the book is within its bound
pub book-fits : (written : List Txn) → turnover_fits (moved_before written [] (groups_of written)) ≡ true → AllByRecursion (λ v. v.1.places ≤ 36) (moved_before written [] (groups_of written)) → TurnoverFits (postings_of (map settled written))
book-fits written fits few s =
    let all = moved_before written [] (groups_of written) in
    let ds = numbers_of s all in
    let whole = fold plus no_sum (map absolute ds) in
    let q = (fold plus no_sum ds).places in
    let ps = postings_of (map settled written) in
    let most : q ≤ 36 = places_within no_sum 36 ds (omega arith) (few_numbers s q all few) in
    let small : unsigned_abs whole.mantissa < 2 ^ 127 = (Decides-ltb _ _).0 (total_within s all fits) in
    let exact = ap unsigned_abs (exact-abs ds) in
    let counted : measure (magnitude_in s q) (moved ps) < 2 ^ 127 = omega (arith, small, exact, magnitude-is s q all, book-counts (magnitude_in s q) written) in
    let none = no_excess s q all (sum_places-all no_sum ds) in
    let turned = all_turned s q most ps (omega (arith, none, book-counts (excess_in s q) written)) in
    let powers : 10 ^ (36 - q) ≤ 10 ^ (36 - places_of s ps) = pow-le-pow_right {n = 10} (lit< tt) (omega (arith, turned.few)) in
    bounded (turnover s ps) (measure (magnitude_in s q) (moved ps)) (10 ^ (36 - q)) (10 ^ (36 - places_of s ps)) (2 ^ 127) turned.less counted (pow_ten_positive (36 - q)) powers
  where
    bounded : (t m k l b : ℕ) → t ≤ m * k → m < b → 0 < k → k ≤ l → t < b * l
    bounded t m k l b h small some more =
        let one = mul-le-mul_left k small in
        let two = mul-le-mul_left b more in
        omega (arith, h, one, two, some)
