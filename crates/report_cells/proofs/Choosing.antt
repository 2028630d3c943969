-- Sums, turnovers and places of takings, and of those that pass a test.
use Rattle.std.proofs.Common.{◌≡◌, ℕ, ℤ, pos, ◌+◌, ◌≤◌, max, ◌+ℤ◌, unsigned_abs, Bool, true, false, ◌&&◌, ◌||◌, cond, List, [], ◌∷◌, ◌++◌, filter, refl, sym, ap, ◌∙◌, arith}
use Rattle.std.proofs.Math.IntN.{+ℤ_assoc, +ℤ_comm, +ℤ_idl, +ℤ_idr}
use Rattle.std.proofs.lemmas.Bool.{false≢true}
use Rattle.hl_num.proofs.DecimalLaws.{unsigned_abs-add}
use Rattle.report_cells.specs.Taken.{Taken, share_in, sum_in}
use Rattle.report_cells.specs.Bounds.{turnover_in, places_in}

-- the sum of those that pass a test
abbrev pub chosen : (Taken → Bool) → List ℕ → List Taken → ℤ
chosen p q ts = sum_in q (filter p ts)

left_in : (a b c : ℤ) → a +ℤ (b +ℤ c) ≡ b +ℤ (a +ℤ c)
left_in a b c = sym (+ℤ_assoc a b c) ∙ ap (λ (z : ℤ). z +ℤ c) (+ℤ_comm a b) ∙ +ℤ_assoc b a c

module _ (q : List ℕ) where
  pub turnover-append : (xs ys : List Taken) → turnover_in q (xs ++ ys) ≡ turnover_in q xs + turnover_in q ys
  turnover-append [] ys = omega arith
  turnover-append (x ∷ xs) ys = omega (arith, turnover-append xs ys)

  pub places-append : (xs ys : List Taken) → places_in q (xs ++ ys) ≡ max (places_in q xs) (places_in q ys)
  places-append [] ys = omega arith
  places-append (x ∷ xs) ys = omega (arith, places-append xs ys)

  pub chosen-push : (p : Taken → Bool) (ts : List Taken) (t : Taken) → chosen p q (ts ++ t ∷ []) ≡ chosen p q ts +ℤ cond (p t) (share_in q t.amount) (pos 0)
  chosen-push p [] t =
      elim (p t) as (λ b. sum_in q (cond b (t ∷ []) []) ≡ pos 0 +ℤ cond b (share_in q t.amount) (pos 0)) [
        | true ↦ +ℤ_idr (share_in q t.amount) ∙ sym (+ℤ_idl (share_in q t.amount))
        | false ↦ refl
      ]
  chosen-push p (x ∷ ts) t =
      elim (p x) as (λ b. sum_in q (cond b (x ∷ filter p (ts ++ t ∷ [])) (filter p (ts ++ t ∷ []))) ≡ sum_in q (cond b (x ∷ filter p ts) (filter p ts)) +ℤ cond (p t) (share_in q t.amount) (pos 0)) [
        | true ↦ ap (λ (z : ℤ). share_in q x.amount +ℤ z) (chosen-push p ts t) ∙ sym (+ℤ_assoc (share_in q x.amount) (chosen p q ts) (cond (p t) (share_in q t.amount) (pos 0)))
        | false ↦ chosen-push p ts t
      ]

  -- what is chosen comes to no more than all
  pub chosen-le : (p : Taken → Bool) (ts : List Taken) → unsigned_abs (chosen p q ts) ≤ turnover_in q ts
  chosen-le p [] = omega arith
  chosen-le p (x ∷ ts) =
      elim (p x) as (λ b. unsigned_abs (sum_in q (cond b (x ∷ filter p ts) (filter p ts))) ≤ turnover_in q (x ∷ ts)) [
        | true ↦ omega (arith, unsigned_abs-add (share_in q x.amount) (chosen p q ts), chosen-le p ts)
        | false ↦ omega (arith, chosen-le p ts)
      ]

  module _ (p r : Taken → Bool) (apart : (t : Taken) → (p t && r t) ≡ false) where
    -- nor does what is chosen by two tests that exclude each other
    pub apart-le : (ts : List Taken) → unsigned_abs (chosen p q ts) + unsigned_abs (chosen r q ts) ≤ turnover_in q ts
    apart-le [] = omega arith
    apart-le (x ∷ ts) = by (p x) (r x) (apart x) (apart-le ts)
      where
        by : (a b : Bool) → (a && b) ≡ false → unsigned_abs (chosen p q ts) + unsigned_abs (chosen r q ts) ≤ turnover_in q ts → unsigned_abs (sum_in q (cond a (x ∷ filter p ts) (filter p ts))) + unsigned_abs (sum_in q (cond b (x ∷ filter r ts) (filter r ts))) ≤ turnover_in q (x ∷ ts)
        by true true e rest = absurd (false≢true (sym e))
        by true false e rest = omega (arith, unsigned_abs-add (share_in q x.amount) (chosen p q ts), rest)
        by false true e rest = omega (arith, unsigned_abs-add (share_in q x.amount) (chosen r q ts), rest)
        by false false e rest = omega (arith, rest)

    -- together they choose the sum of both
    pub joined-is : (s : Taken → Bool) → ((t : Taken) → s t ≡ (p t || r t)) → (ts : List Taken) → chosen s q ts ≡ chosen p q ts +ℤ chosen r q ts
    joined-is s is [] = refl
    joined-is s is (x ∷ ts) =
        ap (λ (b : Bool). sum_in q (cond b (x ∷ filter s ts) (filter s ts))) (is x) ∙ by (p x) (r x) (apart x) (joined-is s is ts)
      where
        by : (a b : Bool) → (a && b) ≡ false → chosen s q ts ≡ chosen p q ts +ℤ chosen r q ts → sum_in q (cond (a || b) (x ∷ filter s ts) (filter s ts)) ≡ sum_in q (cond a (x ∷ filter p ts) (filter p ts)) +ℤ sum_in q (cond b (x ∷ filter r ts) (filter r ts))
        by true true e rest = absurd (false≢true (sym e))
        by true false e rest = ap (λ (z : ℤ). share_in q x.amount +ℤ z) rest ∙ sym (+ℤ_assoc (share_in q x.amount) (chosen p q ts) (chosen r q ts))
        by false true e rest = ap (λ (z : ℤ). share_in q x.amount +ℤ z) rest ∙ left_in (share_in q x.amount) (chosen p q ts) (chosen r q ts)
        by false false e rest = rest

-- two tests that agree choose the same
pub chosen-same : (p r : Taken → Bool) → ((t : Taken) → p t ≡ r t) → (ts : List Taken) → filter p ts ≡ filter r ts
chosen-same p r same [] = refl
chosen-same p r same (x ∷ ts) =
    ap (λ (b : Bool). cond b (x ∷ filter p ts) (filter p ts)) (same x)
    ∙ ap (λ (rest : List Taken). cond (r x) (x ∷ rest) rest) (chosen-same p r same ts)

-- a test that none passes
pub chosen-none : (q : List ℕ) (p : Taken → Bool) → ((t : Taken) → p t ≡ false) → (ts : List Taken) → chosen p q ts ≡ pos 0
chosen-none q p none [] = refl
chosen-none q p none (x ∷ ts) = ap (λ (b : Bool). sum_in q (cond b (x ∷ filter p ts) (filter p ts))) (none x) ∙ chosen-none q p none ts
