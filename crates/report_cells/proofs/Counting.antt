-- The column that a day goes to is the first that counts it.
use Rattle.std.proofs.Common.{◌≡◌, ℕ, zero, suc, ◌==◌, ◌+◌, ◌-◌, ◌<◌, ◌≤◌, Bool, true, false, ◌&&◌, nat_lt, nat_le, cond, List, [], ◌∷◌, length, Option, Some, None, IfSome, inl, inr, refl, sym, ap, subst, ◌∙◌, arith}
use Rattle.std.proofs.lemmas.Bool.{cases_order}
use Rattle.std.proofs.lemmas.Bool.Decides.{nat_tests}
use Rattle.hl_time.specs.Split.{part_at}
use Rattle.hl_time.specs.declared.spans.Span.{Span}
use Rattle.report_cells.specs.Taken.{Taken}
use Rattle.report_cells.specs.Report.{counts}
use Rattle.report_cells.specs.Follows.{Follow}
use Rattle.report_cells.specs.Places.{first_after, reaches, place}
use Rattle.report_cells.specs.declared.reach.Reach.{Reach}
use Rattle.report_cells.specs.declared.reach.Reach.TheVariants.{Within, UpTo}
use Rattle.report_cells.proofs.Standing.{is_at}

-- columns before a place end by a day, and those from it on end after it
pub record Divides (columns : List Span) (day at : ℕ) : Type 0 where
  pub within : at ≤ length columns
  pub before : (k : ℕ) → k < at → (part_at columns k).end ≤ day
  pub after : (k : ℕ) → at ≤ k → k < length columns → day < (part_at columns k).end

le_true : (a b : ℕ) → a ≤ b → nat_le a b ≡ true
le_true a b h = grind (arith, nat_tests, h)

le_false : (a b : ℕ) → b < a → nat_le a b ≡ false
le_false a b h = grind (arith, nat_tests, h)

-- such a place is where the first column stands that ends after the day
pub divides-first : (columns : List Span) (day at : ℕ) → Divides columns day at → first_after columns day ≡ at
divides-first [] day at h = omega (arith, h.within)
divides-first (c ∷ cs) day zero h = ap (λ (b : Bool). cond b (suc (first_after cs day)) 0) (le_false c.end day (h.after 0 (omega arith) (omega arith)))
divides-first (c ∷ cs) day (suc at) h =
    ap (λ (b : Bool). cond b (suc (first_after cs day)) 0) (le_true c.end day (h.before 0 (omega arith)))
    ∙ ap suc (divides-first cs day at (record {
      within = omega (arith, h.within);
      before = λ k lt. h.before (suc k) (omega (arith, lt));
      after = λ k le lt. h.after (suc k) (omega (arith, le)) (omega (arith, lt));
    }))

module _ (columns : List Span) (f : Follow columns) where
  -- later columns end no earlier
  pub ends-rise : (k n : ℕ) → k + n < length columns → (part_at columns k).end ≤ (part_at columns (k + n)).end
  ends-rise k zero lt =
      let is : k ≡ k + 0 = omega arith in
      let itself : (part_at columns k).end ≤ (part_at columns k).end = omega arith in
      subst (λ j. (part_at columns k).end ≤ (part_at columns j).end) is itself
  ends-rise k (suc n) lt =
      let one = f.rising (k + n) (omega (arith, lt)) in
      let is : k + n + 1 ≡ k + suc n = omega arith in
      omega (arith, ends-rise k n (omega (arith, lt)), subst (λ j. (part_at columns (k + n)).end ≤ (part_at columns j).end) is one)

  pub ends-order : (j k : ℕ) → j ≤ k → k < length columns → (part_at columns j).end ≤ (part_at columns k).end
  ends-order j k le lt =
      let is : j + (k - j) ≡ k = omega arith in
      subst (λ i. (part_at columns j).end ≤ (part_at columns i).end) is (ends-rise j (k - j) (subst (λ i. i < length columns) (sym is) lt))

true_le : (a b : ℕ) → nat_le a b ≡ true → a ≤ b
true_le a b h = grind (arith, nat_tests, h)

false_le : (a b : ℕ) → nat_le a b ≡ false → b < a
false_le a b h = grind (arith, nat_tests, h)

lt_true : (a b : ℕ) → a < b → nat_lt a b ≡ true
lt_true a b h = grind (arith, nat_tests, h)

lt_false : (a b : ℕ) → b ≤ a → nat_lt a b ≡ false
lt_false a b h = grind (arith, nat_tests, h)

eq_false : (a b : ℕ) → a < b → (a == b) ≡ false
eq_false a b h = grind (arith, nat_tests, h)

eq_false_above : (a b : ℕ) → b < a → (a == b) ≡ false
eq_false_above a b h = grind (arith, nat_tests, h)

eq_true : (a : ℕ) → (a == a) ≡ true
eq_true a = grind (arith, nat_tests)

-- columns whose ends rise
abbrev EndsRise : List Span → Type 0
EndsRise columns = (j k : ℕ) → j ≤ k → k < length columns → (part_at columns j).end ≤ (part_at columns k).end

more_before : (c : Span) (cs : List Span) (day at : ℕ) → c.end ≤ day → ((k : ℕ) → k < at → (part_at cs k).end ≤ day) → (k : ℕ) → k < suc at → (part_at (c ∷ cs) k).end ≤ day
more_before c cs day at first rest zero lt = first
more_before c cs day at first rest (suc k) lt = rest k (omega (arith, lt))

more_after : (c : Span) (cs : List Span) (day at : ℕ) → ((k : ℕ) → at ≤ k → k < length cs → day < (part_at cs k).end) → (k : ℕ) → suc at ≤ k → k < suc (length cs) → day < (part_at (c ∷ cs) k).end
more_after c cs day at rest zero le lt = absurd (omega (arith, le))
more_after c cs day at rest (suc k) le lt = rest k (omega (arith, le)) (omega (arith, lt))

pub first-divides : (columns : List Span) (day : ℕ) → EndsRise columns → Divides columns day (first_after columns day)
first-divides [] day rise = record { within = omega arith; before = λ k lt. absurd (omega (arith, lt)); after = λ k le lt. absurd (omega (arith, lt)) }
first-divides (c ∷ cs) day rise =
    let rest = first-divides cs day (λ j k le lt. rise (suc j) (suc k) (omega (arith, le)) (omega (arith, lt))) in
    elim (nat_le c.end day) as (λ b. nat_le c.end day ≡ b → Divides (c ∷ cs) day (cond b (suc (first_after cs day)) 0)) [
      | true ↦ λ e. record {
        within = omega (arith, rest.within);
        before = more_before c cs day (first_after cs day) (true_le c.end day e) rest.before;
        after = more_after c cs day (first_after cs day) rest.after;
      }
      | false ↦ λ e. record {
        within = omega arith;
        before = λ k lt. absurd (omega (arith, lt));
        after = λ k le lt. omega (arith, false_le c.end day e, rise 0 k (omega arith) lt);
      }
    ] refl

-- ---- which columns count a taking

-- a column stands behind the one that a taking goes to
abbrev pub is_before : ℕ → Option ℕ → Bool
is_before k None = false
is_before k (Some j) = nat_lt j k

-- a column counts what goes to it, or to it and those before
abbrev pub gathers : Reach → ℕ → Option ℕ → Bool
gathers Within k at = is_at k at
gathers UpTo k at = is_before (suc k) at

some_within : (b c : Bool) (at n : ℕ) → nat_lt at n ≡ b → IfSome (cond (b && c) (Some at) None) (λ j. j < n)
some_within true true at n e = grind (arith, nat_tests, e)
some_within true false at n e = tt
some_within false c at n e = tt

-- a taking goes to a column that is there
pub place-within : (reach : Reach) (columns : List Span) (day : ℕ) → IfSome (place reach columns day) (λ j. j < length columns)
place-within reach columns day = some_within (nat_lt (first_after columns day) (length columns)) (reaches reach (part_at columns (first_after columns day)).from day) (first_after columns day) (length columns) refl

not_at : (b : Bool) (k at : ℕ) → (at == k) ≡ false → is_at k (cond b (Some at) None) ≡ false
not_at true k at e = e
not_at false k at e = refl

not_before : (b : Bool) (k at : ℕ) → nat_lt at k ≡ false → is_before k (cond b (Some at) None) ≡ false
not_before true k at e = e
not_before false k at e = refl

at_itself : (b : Bool) (k at : ℕ) → (at == k) ≡ true → is_at k (cond b (Some at) None) ≡ b
at_itself true k at e = e
at_itself false k at e = refl

and_false : (a : Bool) → (a && false) ≡ false
and_false true = refl
and_false false = refl

and_true : (a : Bool) → (a && true) ≡ a
and_true true = refl
and_true false = refl

before_itself : (b : Bool) (k at : ℕ) → nat_lt at k ≡ true → is_before k (cond b (Some at) None) ≡ b
before_itself true k at e = e
before_itself false k at e = refl

module _ (columns : List Span) (f : Follow columns) (k at : ℕ) (lt : k < length columns) (t : Taken) (d : Divides columns t.day at) where
  -- where a taking goes
  abbrev went : Reach → Option ℕ
  went reach = cond (nat_lt at (length columns) && reaches reach (part_at columns at).from t.day) (Some at) None

  counts-below : (reach : Reach) → k < at → counts reach (part_at columns k) t ≡ gathers reach k (went reach)
  counts-below Within h =
      ap (λ (b : Bool). nat_le (part_at columns k).from t.day && b) (lt_false t.day (part_at columns k).end (d.before k h))
      ∙ and_false (nat_le (part_at columns k).from t.day)
      ∙ sym (not_at (nat_lt at (length columns) && nat_le (part_at columns at).from t.day) k at (eq_false_above at k h))
  counts-below UpTo h =
      lt_false t.day (part_at columns k).end (d.before k h)
      ∙ sym (not_before (nat_lt at (length columns) && true) (suc k) at (lt_false at (suc k) (omega (arith, h))))

  inside : at ≤ k → nat_lt at (length columns) ≡ true
  inside le = lt_true at (length columns) (omega (arith, le, lt))

  ends_later : at ≤ k → nat_lt t.day (part_at columns k).end ≡ true
  ends_later le = lt_true t.day (part_at columns k).end (d.after k le lt)

  counts-upto : at ≤ k → counts UpTo (part_at columns k) t ≡ gathers UpTo k (went UpTo)
  counts-upto le =
      ends_later le
      ∙ sym (ap (λ (b : Bool). b && true) (inside le))
      ∙ sym (before_itself (nat_lt at (length columns) && true) (suc k) at (lt_true at (suc k) (omega (arith, le))))

  counts-same : at ≡ k → counts Within (part_at columns k) t ≡ gathers Within k (went Within)
  counts-same e =
      let le : at ≤ k = omega (arith, e) in
      ap (λ (b : Bool). nat_le (part_at columns k).from t.day && b) (ends_later le)
      ∙ and_true (nat_le (part_at columns k).from t.day)
      ∙ ap (λ i. nat_le (part_at columns i).from t.day) (sym e)
      ∙ sym (ap (λ (b : Bool). b && nat_le (part_at columns at).from t.day) (inside le))
      ∙ sym (at_itself (nat_lt at (length columns) && nat_le (part_at columns at).from t.day) k at (ap (λ i. at == i) (sym e) ∙ eq_true at))

  counts-above : at < k → counts Within (part_at columns k) t ≡ gathers Within k (went Within)
  counts-above h =
      let is : (k - 1) + 1 ≡ k = omega (arith, h) in
      let begins : (part_at columns (k - 1)).end ≡ (part_at columns k).from =
      subst (λ i. (part_at columns (k - 1)).end ≡ (part_at columns i).from) is (f.joined (k - 1) (subst (λ i. i < length columns) (sym is) lt)) in
      let later : t.day < (part_at columns (k - 1)).end = d.after (k - 1) (omega (arith, h)) (omega (arith, lt)) in
      ap (λ (b : Bool). b && nat_lt t.day (part_at columns k).end) (le_false (part_at columns k).from t.day (omega (arith, begins, later)))
      ∙ sym (not_at (nat_lt at (length columns) && nat_le (part_at columns at).from t.day) k at (eq_false at k h))

  counts-went : (reach : Reach) → counts reach (part_at columns k) t ≡ gathers reach k (went reach)
  counts-went Within = elim (cases_order k at) [
    | inl same ↦ counts-same (sym same)
    | inr (inl h) ↦ counts-below Within h
    | inr (inr h) ↦ counts-above h
  ]
  counts-went UpTo = elim (cases_order k at) [
    | inl same ↦ counts-upto (omega (arith, same))
    | inr (inl h) ↦ counts-below UpTo h
    | inr (inr h) ↦ counts-upto (omega (arith, h))
  ]

-- a column counts what goes to it, or with `UpTo` to it and those before
pub counts-place : (reach : Reach) (columns : List Span) → Follow columns → (k : ℕ) → k < length columns → (t : Taken) → counts reach (part_at columns k) t ≡ gathers reach k (place reach columns t.day)
counts-place reach columns f k lt t = counts-went columns f k (first_after columns t.day) lt t (first-divides columns t.day (ends-order columns f)) reach

-- ---- a search by halves

-- columns before low end by a day, and those from high on end after it
pub record Between (columns : List Span) (day low high : ℕ) : Type 0 where
  pub ordered : low ≤ high
  pub within : high ≤ length columns
  pub before : (k : ℕ) → k < low → (part_at columns k).end ≤ day
  pub after : (k : ℕ) → high ≤ k → k < length columns → day < (part_at columns k).end

pub between-all : (columns : List Span) (day : ℕ) → Between columns day 0 (length columns)
between-all columns day = record { ordered = omega arith; within = omega arith; before = λ k lt. absurd (omega (arith, lt)); after = λ k le lt. absurd (omega (arith, le, lt)) }

module _ (columns : List Span) (f : Follow columns) (day low high : ℕ) (h : Between columns day low high) (middle : ℕ) (above : low ≤ middle) (below : middle < high) where
  pub between-low : (part_at columns middle).end ≤ day → Between columns day (middle + 1) high
  between-low over = record {
    ordered = omega (arith, below);
    within = h.within;
    before = λ k lt. omega (arith, over, ends-order columns f k middle (omega (arith, lt)) (omega (arith, below, h.within)));
    after = h.after;
  }

  pub between-high : day < (part_at columns middle).end → Between columns day low middle
  between-high under = record {
    ordered = above;
    within = omega (arith, below, h.within);
    before = h.before;
    after = λ k le lt. omega (arith, under, ends-order columns f middle k le lt);
  }

pub between-done : (columns : List Span) (day low high : ℕ) → Between columns day low high → high ≤ low → low ≡ first_after columns day
between-done columns day low high h over = sym (divides-first columns day low (record {
  within = omega (arith, h.ordered, h.within);
  before = h.before;
  after = λ k le lt. h.after k (omega (arith, le, over)) lt;
}))
