-- What the search finds within so many levels is the least chain of so many steps.
use Rattle.std.proofs.Common.{◌≡◌, ℕ, zero, suc, ◌<◌, ◌≤◌, Bool, true, false, cond, List, [], ◌∷◌, ◌++◌, length, Option, Some, None, ◌⊎◌, inl, inr, refl, sym, ap, subst, ◌∙◌, arith}
use Rattle.std.specs.Prelude.{MatchOption, is_some}
use Rattle.std.specs.Option.{option_or, option_to_list}
use Rattle.std.specs.declared.cmp.Ordering.{Ordering}
use Rattle.std.specs.declared.cmp.Ordering.TheVariants.{Less, Equal, Greater}
use Rattle.std.specs.Ordering.{nat_cmp, is_gt, ordering_then}
use Rattle.std.specs.Cmp.Lexicographic.{slice_cmp}
use Rattle.std.specs.Str.{bytes_eq}
use Rattle.std.proofs.lemmas.Bool.{cases_lt}
use Rattle.prices.specs.Fraction.{Fraction}
use Rattle.prices.specs.declared.search.Found.{Found}
use Rattle.prices.specs.Step.{Step}
use Rattle.prices.specs.Search.{first_on, found_within}
use Rattle.prices.specs.Chains.{leads, rates_along}
use Rattle.prices.proofs.Texts.{text_ties, true≢false, both_first, both_second, both_true, there}
use Rattle.prices.proofs.Ways.{Member, Rising, FirstWay, NoneOn, first_is}

-- shorter, or cs long and no later in the order of lists
abbrev pub IsUpto : List (List ℕ) → List (List ℕ) → Type 0
IsUpto a b = (length a < length b) ⊎ ((length a ≡ length b) × (is_gt (slice_cmp (slice_cmp nat_cmp) a b) ≡ false))

pub upto_cons : (a b : List ℕ) (cs ds : List (List ℕ)) → is_gt (slice_cmp nat_cmp a b) ≡ false → length cs ≤ length ds → (a ≡ b → IsUpto cs ds) → IsUpto (a ∷ cs) (b ∷ ds)
upto_cons a b cs ds le short rest = by (slice_cmp nat_cmp a b) refl
  where
    by : (o : Ordering) → slice_cmp nat_cmp a b ≡ o → IsUpto (a ∷ cs) (b ∷ ds)
    by Less e = elim (cases_lt (length cs) (length ds)) [
      | inl less ↦ inl (omega arith)
      | inr ge ↦ let same : length cs ≡ length ds = omega arith in inr (ap suc same, ap (λ (o : Ordering). is_gt (ordering_then o (slice_cmp (slice_cmp nat_cmp) cs ds))) e)
    ]
    by Equal e = elim (rest (text_ties a b e)) [
      | inl less ↦ inl (omega arith)
      | inr same ↦ inr (ap suc same.0, ap (λ (o : Ordering). is_gt (ordering_then o (slice_cmp (slice_cmp nat_cmp) cs ds))) e ∙ same.1)
    ]
    by Greater e = absurd (true≢false (sym (ap is_gt e) ∙ le))

-- the steps that a search may take are those of a rate, in order
pub record AreSteps (rate : List ℕ → List ℕ → Option Fraction) (steps : List Step) : Type 0 where
  pub sound : (step : Step) → Member step steps → rate step.from step.to ≡ Some step.rate
  pub complete : (a b : List ℕ) (r : Fraction) → rate a b ≡ Some r → Member (record { from = a; to = b; rate = r }) steps
  pub rising : Rising steps

-- a way is the least chain
pub record Best (rate : List ℕ → List ℕ → Option Fraction) (target : List ℕ) (most : ℕ) (symbol : List ℕ) (way : Found) : Type 0 where
  pub chain : List (List ℕ)
  pub leads_on : leads rate target symbol chain ≡ true
  pub short : length chain ≤ most
  pub rates : way.rates ≡ rates_along rate symbol chain
  pub level : way.level ≤ most
  pub least : (other : List (List ℕ)) → leads rate target symbol other ≡ true → IsUpto chain other

-- each chain is longer
abbrev pub NoChain : (List ℕ → List ℕ → Option Fraction) → List ℕ → ℕ → List ℕ → Type 0
NoChain rate target most symbol = (other : List (List ℕ)) → leads rate target symbol other ≡ true → most < length other

abbrev pub Stands : (List ℕ → List ℕ → Option Fraction) → List ℕ → ℕ → List ℕ → Option Found → Type 0
Stands rate target most symbol way = MatchOption way (NoChain rate target most symbol) (Best rate target most symbol)

module _ (rate : List ℕ → List ℕ → Option Fraction) (target : List ℕ) (steps : List Step) (are : AreSteps rate steps) where
  at_start : (symbol : List ℕ) (b : Bool) → bytes_eq symbol target ≡ b → Stands rate target 0 symbol (cond b (Some (record { level = 0; rates = [] })) None)
  at_start symbol true e = record {
    chain = [];
    leads_on = e;
    short = omega arith;
    rates = refl;
    level = omega arith;
    least = λ other h. from_none other;
  }
    where
      from_none : (other : List (List ℕ)) → IsUpto [] other
      from_none [] = inr (refl, refl)
      from_none (n ∷ ns) = inl (omega arith)
  at_start symbol false e = λ other h. longer other h
    where
      longer : (other : List (List ℕ)) → leads rate target symbol other ≡ true → 0 < length other
      longer [] h = absurd (true≢false (sym h ∙ e))
      longer (n ∷ ns) h = omega arith

  module _ (most : ℕ) (ways : List ℕ → Option Found) (each : (s : List ℕ) → Stands rate target most s (ways s)) (symbol : List ℕ) where
    -- a longer chain's first step leads to a way
    first_step : (next : List ℕ) (others : List (List ℕ)) → leads rate target symbol (next ∷ others) ≡ true → (r : Fraction) × Member (record { from = symbol; to = next; rate = r }) steps
    first_step next others h =
        let r = there (rate symbol next) (both_first _ _ h) in
        (r.0, are.complete symbol next r.0 r.1)

    none_more : NoChain rate target most symbol → NoneOn most ways symbol steps → NoChain rate target (suc most) symbol
    none_more none none_on [] h = absurd (less_none most (none [] h))
      where
        less_none : (n : ℕ) → n < 0 → ⊥
        less_none n h = omega arith
    none_more none none_on (next ∷ others) h =
        let s = first_step next others h in
        by (ways next) refl (each next) s.0 s.1
      where
        by : (o : Option Found) → ways next ≡ o → Stands rate target most next o → (r : Fraction) → Member (record { from = symbol; to = next; rate = r }) steps → suc most < length (next ∷ others)
        by None e far r m = let less : most < length others = far others (both_second _ _ h) in omega arith
        by (Some way) e best r m = absurd (none_on (record { from = symbol; to = next; rate = r }) way m refl e best.level)

    module _ (way : Found) (none : NoChain rate target most symbol) (w : FirstWay most ways symbol steps way) where
      best_next : Best rate target most w.step.to w.goes_on.next
      best_next = subst (Stands rate target most w.step.to) w.goes_on.is_found (each w.step.to)

      has_rate : rate symbol w.step.to ≡ Some w.step.rate
      has_rate = subst (λ (s : List ℕ). rate s w.step.to ≡ Some w.step.rate) w.begins (are.sound w.step w.member)

      least_more : (other : List (List ℕ)) → leads rate target symbol other ≡ true → IsUpto (w.step.to ∷ best_next.chain) other
      least_more [] h = absurd (less_none most (none [] h))
        where
          less_none : (n : ℕ) → n < 0 → ⊥
          less_none n h = omega arith
      least_more (next ∷ others) h =
          let s = first_step next others h in
          by (ways next) refl (each next) s.0 s.1
        where
          far_enough : most < length (next ∷ others)
          far_enough = none (next ∷ others) h

          by : (o : Option Found) → ways next ≡ o → Stands rate target most next o → (r : Fraction) → Member (record { from = symbol; to = next; rate = r }) steps → IsUpto (w.step.to ∷ best_next.chain) (next ∷ others)
          by None e far r m = let less : most < length others = far others (both_second _ _ h) in let short = best_next.short in inl (omega arith)
          by (Some other) e best r m =
              let short : length best_next.chain ≤ most = best_next.short in
              let more : most < length (next ∷ others) = far_enough in
              upto_cons w.step.to next best_next.chain others
              (w.first (record { from = symbol; to = next; rate = r }) other m refl e best.level)
              (omega arith)
              (λ same. best_next.least others (subst (λ (s : List ℕ). leads rate target s others ≡ true) (sym same) (both_second _ _ h)))

      best_more : Best rate target (suc most) symbol way
      best_more = record {
        chain = w.step.to ∷ best_next.chain;
        leads_on = both_true _ _ (ap is_some has_rate) best_next.leads_on;
        short = let short = best_next.short in omega arith;
        rates = ap (λ (f : Found). f.rates) w.goes_on.is ∙ ap (λ (rs : List Fraction). w.step.rate ∷ rs) best_next.rates
            ∙ ap (λ (o : Option Fraction). option_to_list o ++ rates_along rate w.step.to best_next.chain) (sym has_rate);
        level = let is = ap (λ (f : Found). f.level) w.goes_on.is in omega arith;
        least = least_more;
      }

    stays : (way : Found) → Best rate target most symbol way → Best rate target (suc most) symbol way
    stays way best = record {
      chain = best.chain;
      leads_on = best.leads_on;
      short = let short = best.short in omega arith;
      rates = best.rates;
      level = let level = best.level in omega arith;
      least = best.least;
    }

    after : (o p : Option Found) → Stands rate target most symbol o → MatchOption p (NoneOn most ways symbol steps) (FirstWay most ways symbol steps) → Stands rate target (suc most) symbol (option_or o p)
    after None None none none_on = none_more none none_on
    after None (Some way) none w = best_more way none w
    after (Some way) p best h = stays way best

  pub stands : (most : ℕ) (symbol : List ℕ) → Stands rate target most symbol (found_within steps target most symbol)
  stands zero symbol = at_start symbol (bytes_eq symbol target) refl
  stands (suc most) symbol =
      let ways : List ℕ → Option Found = found_within steps target most in
      after most ways (stands most) symbol (ways symbol) (first_on most ways symbol steps) (stands most symbol) (first_is most ways symbol steps are.rising)
