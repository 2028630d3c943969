-- One more step of a level.
use Rattle.std.proofs.Common.{◌≡◌, ℕ, ◌+◌, Bool, true, false, cond, List, [], ◌∷◌, ◌++◌, Option, Some, None, inl, inr, refl, sym, ap, subst, ◌∙◌, arith}
use Rattle.std.specs.Prelude.{is_some, nat_le}
use Rattle.std.specs.Option.{option_or}
use Rattle.std.specs.Ordering.{nat_cmp, is_eq}
use Rattle.std.specs.Cmp.Lexicographic.{slice_cmp}
use Rattle.std.specs.Str.{bytes_eq}
use Rattle.std.proofs.lemmas.Bool.Decides.{nat_tests}
use Rattle.std.proofs.lemmas.Map.Text.{is_eq-slice_cmp}
use Rattle.prices.specs.declared.search.Found.{Found}
use Rattle.prices.specs.Step.{Step}
use Rattle.prices.specs.Search.{onward, by_step, with_step, first_on, after_steps}
use Rattle.prices.proofs.Texts.{same_text, told, true≢false, there}

or_none : {X : Type 0} (o : Option X) → option_or o None ≡ o
or_none None = refl
or_none (Some x) = refl

or_assoc : {X : Type 0} (o p q : Option X) → option_or (option_or o p) q ≡ option_or o (option_or p q)
or_assoc None p q = refl
or_assoc (Some x) p q = refl

too_high : (level : ℕ) → nat_le (level + 1) level ≡ false
too_high level = grind (arith, nat_tests)

module _ (level : ℕ) (found : List ℕ → Option Found) where
  first_push : (s : List ℕ) (xs : List Step) (x : Step) → first_on level found s (xs ++ x ∷ []) ≡ option_or (first_on level found s xs) (by_step level found x s)
  first_push s [] x = or_none (by_step level found x s)
  first_push s (y ∷ ys) x = ap (option_or (by_step level found y s)) (first_push s ys x) ∙ sym (or_assoc (by_step level found y s) (first_on level found s ys) (by_step level found x s))

  -- what is found anew goes on no further at its own level
  no_further : (x : Step) (o : Option Found) → onward level x o ≡ None → (p : Option Found) → onward level x p ≡ None → onward level x (option_or o p) ≡ None
  no_further x None h p k = k
  no_further x (Some f) h p k = h

  by_new : (x y : Step) (b : Bool) (o : Option Found) → onward level x (cond b (onward level y o) None) ≡ None
  by_new x y true None = refl
  by_new x y true (Some f) = elim (nat_le f.level level) as (λ t. onward level x (cond t (Some (record { level = level + 1; rates = y.rate ∷ f.rates })) None) ≡ None) [
    | true ↦ ap (λ t. cond t (Some (record { level = level + 1; rates = x.rate ∷ (y.rate ∷ f.rates) })) None) (too_high level)
    | false ↦ refl
  ]
  by_new x y false o = refl

  first_new : (x : Step) (s : List ℕ) (xs : List Step) → onward level x (first_on level found s xs) ≡ None
  first_new x s [] = refl
  first_new x s (y ∷ ys) = no_further x (by_step level found y s) (by_new x y (bytes_eq y.from s) (found y.to)) (first_on level found s ys) (first_new x s ys)

  same_on : (x : Step) (o p : Option Found) → onward level x p ≡ None → onward level x (option_or o p) ≡ onward level x o
  same_on x None p h = h
  same_on x (Some f) p h = refl

  -- one more step
  pub step_more : (xs : List Step) (x : Step) (s : List ℕ) → with_step level (after_steps level found xs) x s ≡ after_steps level found (xs ++ x ∷ []) s
  step_more xs x s =
      ap (λ (o : Option Found). option_or (after_steps level found xs s) (cond (bytes_eq x.from s) o None)) (same_on x (found x.to) (first_on level found x.to xs) (first_new x x.to xs))
      ∙ or_assoc (found s) (first_on level found s xs) (by_step level found x s)
      ∙ ap (option_or (found s)) (sym (first_push s xs x))

  -- a symbol that is known stays
  pub step_known : (x : Step) (s : List ℕ) → is_some (found x.from) ≡ true → found s ≡ with_step level found x s
  step_known x s h = elim (told (bytes_eq x.from s)) [
    | inl same ↦
        let is = there (found s) (subst (λ (t : List ℕ). is_some (found t) ≡ true) (same_text x.from s same) h) in
        is.1 ∙ ap (λ (o : Option Found). option_or o (by_step level found x s)) (sym is.1)
    | inr other ↦ sym (or_none (found s)) ∙ ap (λ (b : Bool). option_or (found s) (cond b (onward level x (found x.to)) None)) (sym other)
  ]

  -- nothing goes on
  pub step_none : (x : Step) (s : List ℕ) → onward level x (found x.to) ≡ None → found s ≡ with_step level found x s
  step_none x s h = elim (bytes_eq x.from s) as (λ (b : Bool). found s ≡ option_or (found s) (cond b (onward level x (found x.to)) None)) [
    | true ↦ sym (or_none (found s)) ∙ ap (option_or (found s)) (sym h)
    | false ↦ sym (or_none (found s))
  ]

  -- a symbol is found
  pub step_found : (x : Step) (s : List ℕ) (way : Found) → is_some (found x.from) ≡ false → onward level x (found x.to) ≡ Some way → cond (is_eq (slice_cmp nat_cmp x.from s)) (Some way) (found s) ≡ with_step level found x s
  step_found x s way absent h = ap (λ (b : Bool). cond b (Some way) (found s)) (is_eq-slice_cmp x.from s) ∙ by (bytes_eq x.from s) refl
    where
      none_there : (o : Option Found) → is_some o ≡ false → o ≡ None
      none_there None h = refl
      none_there (Some f) h = absurd (true≢false h)

      by : (b : Bool) → bytes_eq x.from s ≡ b → cond b (Some way) (found s) ≡ option_or (found s) (cond b (onward level x (found x.to)) None)
      by true e =
          let none : found s ≡ None = none_there (found s) (subst (λ (t : List ℕ). is_some (found t) ≡ false) (same_text x.from s e) absent) in
          ap (λ (o : Option Found). option_or o (Some way)) (sym none) ∙ ap (option_or (found s)) (sym h)
      by false e = sym (or_none (found s))
