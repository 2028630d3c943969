-- The patterns that were refused in a history of workers, and what their makers count.
use Rattle.std.proofs.Common.{◌≡◌, ◌⊎◌, inl, inr, ℕ, ◌+◌, ◌-◌, ◌<◌, ◌≤◌, ◌^◌, ◌==◌, min, Bool, true, false, cond, if◌then◌else◌, List, [], ◌∷◌, length, refl, sym, ap, subst, ◌∙◌, arith}
use Rattle.std.specs.Prelude.{filter}
use Rattle.std.proofs.lemmas.Bool.{cases_lt}
use Rattle.std.proofs.lemmas.Bool.Decides.{nat_tests}
use Rattle.turn_lock.specs.History.{made_by}
use Rattle.turn_lock.specs.declared.known.Entered.{Entered}
use Rattle.desk.specs.Entries.{Entry}
use Rattle.shared_desk.specs.Histories.{RoseBy, pattern_refusals, refuses_pattern}
use Rattle.desk_team.specs.Hostings.{entries_in}

-- one more, where this is so
abbrev one_where : Bool → ℕ
one_where b = if b then 1 else 0

-- one entry and others
with_one : (b : Bool) (entry : Entry) (those : List Entry) → length (cond b (entry ∷ those) those) ≡ length those + one_where b
with_one true entry those = omega arith
with_one false entry those = omega arith

one_more : (entry : Entry) (entries : List Entry)
    → pattern_refusals (entry ∷ entries) ≡ pattern_refusals entries + one_where (refuses_pattern entry.reply)
one_more entry entries = with_one (refuses_pattern entry.reply) entry (filter (λ (e : Entry). refuses_pattern e.reply) entries)

-- how many of the entries under a number answer so
abbrev under : List (Entered Entry) → ℕ → ℕ
under history n = pattern_refusals (made_by n history)

at_own : (x : Entered Entry) (xs : List (Entered Entry)) (n : ℕ) → (x.by == n) ≡ true
    → under (x ∷ xs) n ≡ under xs n + one_where (refuses_pattern x.entry.reply)
at_own x xs n own =
    ap (λ (b : Bool). pattern_refusals (if b then x.entry ∷ made_by n xs else made_by n xs)) own ∙ one_more x.entry (made_by n xs)

at_other : (x : Entered Entry) (xs : List (Entered Entry)) (n : ℕ) → (x.by == n) ≡ false → under (x ∷ xs) n ≡ under xs n
at_other x xs n other = ap (λ (b : Bool). pattern_refusals (if b then x.entry ∷ made_by n xs else made_by n xs)) other

own_number : (n : ℕ) → (n == n) ≡ true
own_number n = grind (arith, nat_tests)

other_number : (m n : ℕ) → m < n → (m == n) ≡ false
other_number m n less = grind (arith, nat_tests)

later_number : (m n : ℕ) → n < m → (m == n) ≡ false
later_number m n less = grind (arith, nat_tests)

elim_order : {P Q R : Type 0} → (P → R) → (Q → R) → P ⊎ Q → R
elim_order f h (inl p) = f p
elim_order f h (inr q) = h q

-- an entry stands under its number, and the entries after it under theirs
not_empty : (x : Entered Entry) (xs : List (Entered Entry)) → made_by x.by (x ∷ xs) ≡ [] → ⊥
not_empty x xs none =
    let is : x.entry ∷ made_by x.by xs ≡ [] =
    sym (ap (λ (b : Bool). if b then x.entry ∷ made_by x.by xs else made_by x.by xs) (own_number x.by)) ∙ none in
    absurd (cc (is))

later_none : (x : Entered Entry) (xs : List (Entered Entry)) (n : ℕ) → made_by n (x ∷ xs) ≡ [] → made_by n xs ≡ []
later_none x xs n none = by_test (x.by == n) none
  where
    by_test : (b : Bool) → (if b then x.entry ∷ made_by n xs else made_by n xs) ≡ [] → made_by n xs ≡ []
    by_test true is = absurd (cc (is))
    by_test false is = is

module _ {X : Type 0} where
  -- how many under this number and as many that follow it as there are in a list
  abbrev upto : List (Entered Entry) → ℕ → List X → ℕ
  upto history n [] = under history n
  upto history n (k ∷ ks) = under history n + upto history (n + 1) ks

  nothing : (n : ℕ) (ks : List X) → 0 ≡ upto [] n ks
  nothing n [] = refl
  nothing n (k ∷ ks) = let rest = nothing (n + 1) ks in omega (arith, rest)

  below : (x : Entered Entry) (xs : List (Entered Entry)) (n : ℕ) (ks : List X) → x.by < n → upto (x ∷ xs) n ks ≡ upto xs n ks
  below x xs n [] less = at_other x xs n (other_number x.by n less)
  below x xs n (k ∷ ks) less =
      let here = at_other x xs n (other_number x.by n less) in
      let rest = below x xs (n + 1) ks (omega (arith, less)) in
      omega (arith, here, rest)

  among : (x : Entered Entry) (xs : List (Entered Entry)) (n : ℕ) (ks : List X) → n ≤ x.by → x.by ≤ n + length ks
      → upto (x ∷ xs) n ks ≡ upto xs n ks + one_where (refuses_pattern x.entry.reply)
  among x xs n [] le most =
      let same : n ≡ x.by = omega (arith, le, most) in
      at_own x xs n (subst (λ (m : ℕ). (x.by == m) ≡ true) (sym same) (own_number x.by))
  among x xs n (k ∷ ks) le most =
      elim_order (λ less.
      let here = at_other x xs n (later_number x.by n less) in
      let rest = among x xs (n + 1) ks (omega (arith, less)) (omega (arith, most)) in
      omega (arith, here, rest))
      (λ most_now.
      let same : n ≡ x.by = omega (arith, le, most_now) in
      let here = at_own x xs n (subst (λ (m : ℕ). (x.by == m) ≡ true) (sym same) (own_number x.by)) in
      let rest = below x xs (n + 1) ks (omega (arith, same)) in
      omega (arith, here, rest))
      (cases_lt n x.by)

  -- all entries of a history, where there are none under later numbers
  pub all_under : (history : List (Entered Entry)) (ks : List X) → ((n : ℕ) → length ks < n → made_by n history ≡ [])
      → pattern_refusals (entries_in history) ≡ upto history 0 ks
  all_under [] ks none = nothing 0 ks
  all_under (x ∷ xs) ks none =
      let most : x.by ≤ length ks = elim_order (λ less. absurd (not_empty x xs (none x.by less))) (λ le. le) (cases_lt (length ks) x.by) in
      let rest = all_under xs ks (λ n past. later_none x xs n (none n past)) in
      let here = one_more x.entry (entries_in xs) in
      let more = among x xs 0 ks (omega arith) (omega (arith, most)) in
      omega (arith, rest, here, more)

  -- those under the numbers that follow this one
  abbrev pub after : List (Entered Entry) → ℕ → List X → ℕ
  after history n [] = 0
  after history n (k ∷ ks) = under history (n + 1) + after history (n + 1) ks

  pub upto_is : (history : List (Entered Entry)) (n : ℕ) (ks : List X) → upto history n ks ≡ under history n + after history n ks
  upto_is history n [] = omega arith
  upto_is history n (k ∷ ks) = let rest = upto_is history (n + 1) ks in omega (arith, rest)

-- a count that rose, once more was added up to its last value
pub rose_more : (before now n more m : ℕ) → RoseBy before now n → RoseBy 0 more m → RoseBy before (min (now + more) (2 ^ 64 - 1)) (n + m)
rose_more before now n more m (inl p) (inl q) =
    elim_order (λ less. inr (omega (arith, less))) (λ le. inl (omega (arith, p, q, le))) (cases_lt (2 ^ 64 - 1) (now + more))
rose_more before now n more m (inl p) (inr last) = inr (omega (arith, last))
rose_more before now n more m (inr last) q = inr (omega (arith, last))
