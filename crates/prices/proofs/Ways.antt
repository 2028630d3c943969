-- The first way on from a symbol goes by the least symbol that was found.
use Rattle.std.proofs.Common.{◌≡◌, ℕ, ◌+◌, ◌≤◌, true, false, cond, List, [], ◌∷◌, Option, Some, None, ◌⊎◌, inl, inr, refl, sym, ap, subst, ◌∙◌}
use Rattle.std.specs.Prelude.{MatchOption, nat_le}
use Rattle.std.specs.Option.{option_or}
use Rattle.std.specs.Ordering.{nat_cmp, is_gt}
use Rattle.std.specs.Cmp.Lexicographic.{slice_cmp, nat_list_cmp_total}
use Rattle.std.specs.Str.{bytes_eq}
use Rattle.std.proofs.lemmas.Cmp.{tied_itself}
use Rattle.prices.specs.declared.search.Found.{Found}
use Rattle.prices.specs.Step.{Step}
use Rattle.prices.specs.Search.{onward, first_on}
use Rattle.prices.proofs.Texts.{same_text, equal_text, true≢false, le_to}

-- a step stands in a list
abbrev pub Member : Step → List Step → Type 0
Member step [] = ⊥
Member step (s ∷ steps) = (s ≡ step) ⊎ Member step steps

-- steps from one symbol stand in the order of the symbols to which they lead
abbrev pub Rising : List Step → Type 0
Rising [] = Unit {0}
Rising (s ∷ steps) = ((t : Step) → Member t steps → s.from ≡ t.from → is_gt (slice_cmp nat_cmp s.to t.to) ≡ false) × Rising steps

-- a way goes on by a step
pub record GoesOn (level : ℕ) (found : List ℕ → Option Found) (step : Step) (way : Found) : Type 0 where
  pub next : Found
  pub is_found : found step.to ≡ Some next
  pub is : way ≡ record { level = level + 1; rates = step.rate ∷ next.rates }

-- it is the first of a symbol
pub record FirstWay (level : ℕ) (found : List ℕ → Option Found) (symbol : List ℕ) (steps : List Step) (way : Found) : Type 0 where
  pub step : Step
  pub member : Member step steps
  pub begins : step.from ≡ symbol
  pub goes_on : GoesOn level found step way
  pub first : (t : Step) (next : Found) → Member t steps → t.from ≡ symbol → found t.to ≡ Some next → next.level ≤ level → is_gt (slice_cmp nat_cmp step.to t.to) ≡ false

-- no step of a symbol goes on
abbrev pub NoneOn : ℕ → (List ℕ → Option Found) → List ℕ → List Step → Type 0
NoneOn level found symbol steps = (t : Step) (next : Found) → Member t steps → t.from ≡ symbol → found t.to ≡ Some next → next.level ≤ level → ⊥

module _ (level : ℕ) (found : List ℕ → Option Found) (symbol : List ℕ) where
  -- by one step
  abbrev Here : Step → Found → Type 0
  Here step way = (step.from ≡ symbol) × GoesOn level found step way

  abbrev NotHere : Step → Type 0
  NotHere step = (next : Found) → step.from ≡ symbol → found step.to ≡ Some next → next.level ≤ level → ⊥

  onward_is : (step : Step) (o : Option Found) → step.from ≡ symbol → found step.to ≡ o → MatchOption (onward level step o) (NotHere step) (Here step)
  onward_is step None from e = λ next _ f _. absurd (none_some next (sym e ∙ f))
    where
      none_some : (x : Found) → None ≡ Some x → ⊥
      none_some x h = cc
  onward_is step (Some next) from e =
      elim (nat_le next.level level) as (λ b. nat_le next.level level ≡ b → MatchOption (cond b (Some (record { level = level + 1; rates = step.rate ∷ next.rates })) None) (NotHere step) (Here step)) [
        | true ↦ λ _. (from, record { next = next; is_found = e; is = refl })
        | false ↦ λ below. λ other _ f le.
            let same : other ≡ next = some_same other next (sym f ∙ e) in
            true≢false (sym (le_to next.level level (subst (λ (x : Found). x.level ≤ level) same le)) ∙ below)
      ] refl
    where
      some_same : (x y : Found) → Some x ≡ Some y → x ≡ y
      some_same x y h = cc

  here_is : (step : Step) → MatchOption (cond (bytes_eq step.from symbol) (onward level step (found step.to)) None) (NotHere step) (Here step)
  here_is step = elim (bytes_eq step.from symbol) as (λ b. bytes_eq step.from symbol ≡ b → MatchOption (cond b (onward level step (found step.to)) None) (NotHere step) (Here step)) [
    | true ↦ λ e. onward_is step (found step.to) (same_text step.from symbol e) refl
    | false ↦ λ e. λ _ from _ _. true≢false (sym (equal_text step.from symbol from) ∙ e)
  ] refl

  joined : (step : Step) (steps : List Step) → Rising (step ∷ steps) → (o p : Option Found)
      → MatchOption o (NotHere step) (Here step) → MatchOption p (NoneOn level found symbol steps) (FirstWay level found symbol steps)
      → MatchOption (option_or o p) (NoneOn level found symbol (step ∷ steps)) (FirstWay level found symbol (step ∷ steps))
  joined step steps rising None None h k = λ t next m from f le. elim m [
    | inl same ↦ h next (ap (λ (s : Step). s.from) same ∙ from) (ap (λ (s : Step). found s.to) same ∙ f) le
    | inr later ↦ k t next later from f le
  ]
  joined step steps rising None (Some way) h k = record {
    step = k.step;
    member = inr k.member;
    begins = k.begins;
    goes_on = k.goes_on;
    first = λ t next m from f le. elim m [
      | inl same ↦ absurd (h next (ap (λ (s : Step). s.from) same ∙ from) (ap (λ (s : Step). found s.to) same ∙ f) le)
      | inr later ↦ k.first t next later from f le
    ];
  }
  joined step steps rising (Some way) p h k = record {
    step = step;
    member = inl refl;
    begins = h.0;
    goes_on = h.1;
    first = λ t next m from f le. elim m [
      | inl same ↦ subst (λ (s : Step). is_gt (slice_cmp nat_cmp step.to s.to) ≡ false) same (ap is_gt (tied_itself nat_list_cmp_total step.to))
      | inr later ↦ rising.0 t later (h.0 ∙ sym from)
    ];
  }

  pub first_is : (steps : List Step) → Rising steps → MatchOption (first_on level found symbol steps) (NoneOn level found symbol steps) (FirstWay level found symbol steps)
  first_is [] rising = λ t next m from f le. m
  first_is (step ∷ steps) rising = joined step steps rising _ _ (here_is step) (first_is steps rising.1)
