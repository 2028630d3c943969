-- The steps of the pairs that are kept are those of a rate, in order.
use Rattle.std.proofs.Common.{◌≡◌, ℕ, Bool, true, false, ◌||◌, cond, List, [], ◌∷◌, ◌++◌, filter, Option, Some, None, ◌⊎◌, inl, inr, refl, sym, ap, subst, ◌∙◌, arith}
use Rattle.std.specs.Prelude.{option_and_then}
use Rattle.std.specs.List.{AllByRecursion}
use Rattle.std.specs.List.Sorted.{IsSorted}
use Rattle.std.specs.Option.{option_or, option_map, option_to_list}
use Rattle.std.specs.Ordering.{nat_cmp, is_lt, is_gt}
use Rattle.std.specs.Cmp.Lexicographic.{slice_cmp}
use Rattle.std.specs.Str.{bytes_eq}
use Rattle.prices.specs.declared.quote.Quote.{Quote}
use Rattle.prices.specs.Fraction.{Fraction}
use Rattle.prices.specs.Fractions.{declared_rate}
use Rattle.prices.specs.Index.{quote_cmp, is_pair, has_pair, HasBoth}
use Rattle.prices.specs.Quotes.{is_on, latest}
use Rattle.prices.specs.Chains.{Pricing, priced_on, declared, turned, reverse, either}
use Rattle.prices.specs.Step.{Step}
use Rattle.prices.specs.Search.{steps_of}
use Rattle.prices.proofs.Texts.{told, true≢false}
use Rattle.prices.proofs.Keys.{pair_symbol, pair_target, on_pair, target_order, Rises, rises}
use Rattle.prices.proofs.Latest.{nothing}
use Rattle.prices.proofs.Ways.{Member, Rising}
use Rattle.prices.proofs.Least.{AreSteps}

some_same : {X : Type 0} (x y : X) → Some x ≡ Some y → x ≡ y
some_same x y h = cc

none_some : {X : Type 0} (x : X) → None ≡ Some x → ⊥
none_some x h = cc

member_right : (s : Step) (xs ys : List Step) → Member s ys → Member s (xs ++ ys)
member_right s [] ys h = h
member_right s (x ∷ xs) ys h = inr (member_right s xs ys h)

module _ (rate : List ℕ → List ℕ → Option Fraction) where
  -- a pair's step, or none
  abbrev made : Quote → Option Fraction → List Step
  made p o = option_to_list (option_map (λ r. record { from = p.symbol; to = p.target; rate = r }) o)

  -- where a step of some pairs comes from
  record FromPair (s : Step) (p : Quote) : Type 0 where
    begins : s.from ≡ p.symbol
    leads : s.to ≡ p.target
    rated : rate s.from s.to ≡ Some s.rate

  from_first : (s : Step) (p : Quote) (rest : List Step) (o : Option Fraction) → rate p.symbol p.target ≡ o → Member s (made p o ++ rest) → FromPair s p ⊎ Member s rest
  from_first s p rest None e m = inr m
  from_first s p rest (Some r) e m = elim m [
    | inl same ↦ inl (record {
      begins = sym (ap (λ (x : Step). x.from) same);
      leads = sym (ap (λ (x : Step). x.to) same);
      rated = subst (λ (x : Step). rate x.from x.to ≡ Some x.rate) same e;
    })
    | inr later ↦ inr later
  ]

  pub sound : (ps : List Quote) (s : Step) → Member s (steps_of rate ps) → rate s.from s.to ≡ Some s.rate
  sound [] s m = absurd m
  sound (p ∷ ps) s m = elim (from_first s p (steps_of rate ps) (rate p.symbol p.target) refl m) [
    | inl of ↦ of.rated
    | inr later ↦ sound ps s later
  ]

  -- what holds of each pair holds of the steps
  of_each : (P : List ℕ → List ℕ → Type 0) (ps : List Quote) → AllByRecursion (λ p. P p.symbol p.target) ps → (s : Step) → Member s (steps_of rate ps) → P s.from s.to
  of_each P [] h s m = absurd m
  of_each P (p ∷ ps) h s m = elim (from_first s p (steps_of rate ps) (rate p.symbol p.target) refl m) [
    | inl of ↦ subst (λ (x : List ℕ). P x s.to) (sym of.begins) (subst (λ (x : List ℕ). P p.symbol x) (sym of.leads) h.0)
    | inr later ↦ of_each P ps h.1 s later
  ]

  complete : (ps : List Quote) (a b : List ℕ) (r : Fraction) → rate a b ≡ Some r → has_pair a b ps ≡ true → Member (record { from = a; to = b; rate = r }) (steps_of rate ps)
  complete [] a b r e h = absurd (true≢false (sym h))
  complete (p ∷ ps) a b r e h = elim (told (is_pair a b p)) [
    | inl is ↦
        let s = pair_symbol a b p is in
        let t = pair_target a b p is in
        let rated : rate p.symbol p.target ≡ Some r = ap (λ (x : List ℕ). rate x p.target) s ∙ ap (rate a) t ∙ e in
        subst (λ (o : Option Fraction). Member (record { from = a; to = b; rate = r }) (made p o ++ steps_of rate ps)) (sym rated)
        (inl (λ i. record { from = s i; to = t i; rate = r }))
    | inr isnt ↦ member_right _ (made p (rate p.symbol p.target)) (steps_of rate ps) (complete ps a b r e (sym (ap (λ (c : Bool). c || has_pair a b ps) isnt) ∙ h))
  ]

  rising_more : (p : Quote) (rest : List Step) (o : Option Fraction) → ((s : Step) → Member s rest → p.symbol ≡ s.from → is_gt (slice_cmp nat_cmp p.target s.to) ≡ false) → Rising rest → Rising (made p o ++ rest)
  rising_more p rest None h up = up
  rising_more p rest (Some r) h up = (h, up)

  targets : (p : Quote) (ps : List Quote) → AllByRecursion (λ q. is_lt (quote_cmp q p) ≡ false) ps → AllByRecursion (λ q. p.symbol ≡ q.symbol → is_gt (slice_cmp nat_cmp p.target q.target) ≡ false) ps
  targets p [] h = tt
  targets p (q ∷ qs) h = (λ same. target_order q p (sym same) h.0, targets p qs h.1)

  rising : (ps : List Quote) → Rises ps → Rising (steps_of rate ps)
  rising [] up = tt
  rising (p ∷ ps) up = rising_more p (steps_of rate ps) (rate p.symbol p.target)
      (λ s m. of_each (λ from to. p.symbol ≡ from → is_gt (slice_cmp nat_cmp p.target to) ≡ false) ps (targets p ps up.0) s m) (rising ps up.1)

  -- steps of pairs that stand in order, among which is each that has a rate
  pub are_steps : (ps : List Quote) → IsSorted quote_cmp ps → ((a b : List ℕ) (r : Fraction) → rate a b ≡ Some r → has_pair a b ps ≡ true) → AreSteps rate (steps_of rate ps)
  are_steps ps up has = record {
    sound = sound ps;
    complete = λ a b r e. complete ps a b r e (has a b r e);
    rising = rising ps (rises ps up);
  }

-- a pair that stands nowhere has no price
no_filter : (a b : List ℕ) (qs : List Quote) → has_pair a b qs ≡ false → (day : ℕ) → filter (is_on a b day) qs ≡ []
no_filter a b [] h day = refl
no_filter a b (q ∷ qs) h day = elim (told (is_on a b day q)) [
  | inl on ↦ absurd (true≢false (sym (ap (λ (c : Bool). c || has_pair a b qs) (on_pair a b day q on)) ∙ h))
  | inr off ↦ ap (λ (c : Bool). cond c (q ∷ filter (is_on a b day) qs) (filter (is_on a b day) qs)) off ∙ no_filter a b qs (second_none (is_pair a b q) (has_pair a b qs) h) day
]
  where
    second_none : (p r : Bool) → (p || r) ≡ false → r ≡ false
    second_none true r h = absurd (true≢false h)
    second_none false r h = h

priced_has : (qs : List Quote) (day : ℕ) (a b : List ℕ) (q : Quote) → priced_on qs day a b ≡ Some q → has_pair a b qs ≡ true
priced_has qs day a b q e = elim (told (has_pair a b qs)) [
  | inl is ↦ is
  | inr isnt ↦ absurd (none_some q (sym (by (bytes_eq a b) (nothing a b qs day day (omega arith) (λ d le. no_filter a b qs isnt d))) ∙ e))
]
  where
    by : (c : Bool) → latest qs a b day ≡ None → cond c None (latest qs a b day) ≡ None
    by true h = refl
    by false h = h

declared_price : (price : Pricing) (a b : List ℕ) (r : Fraction) (o : Option Quote) → price a b ≡ o → declared price a b ≡ Some r → (q : Quote) × (price a b ≡ Some q)
declared_price price a b r None e h = absurd (none_some r (sym (ap (option_map (λ (q : Quote). declared_rate q.value)) e) ∙ h))
declared_price price a b r (Some q) e h = (q, e)

reverse_price : (price : Pricing) (a b : List ℕ) (r : Fraction) (o : Option Quote) → price b a ≡ o → reverse price a b ≡ Some r → (q : Quote) × (price b a ≡ Some q)
reverse_price price a b r None e h = absurd (none_some r (sym (ap (option_and_then turned) e) ∙ h))
reverse_price price a b r (Some q) e h = (q, e)

module _ (sorted pairs : List Quote) (day : ℕ) (both : HasBoth sorted pairs) where
  pub declared_has : (a b : List ℕ) (r : Fraction) → declared (priced_on sorted day) a b ≡ Some r → has_pair a b pairs ≡ true
  declared_has a b r h =
      let q = declared_price (priced_on sorted day) a b r (priced_on sorted day a b) refl h in
      (both a b (priced_has sorted day a b q.0 q.1)).0

  pub either_has : (a b : List ℕ) (r : Fraction) → either (priced_on sorted day) a b ≡ Some r → has_pair a b pairs ≡ true
  either_has a b r h = by (declared (priced_on sorted day) a b) refl
    where
      by : (o : Option Fraction) → declared (priced_on sorted day) a b ≡ o → has_pair a b pairs ≡ true
      by None e =
          let turned : reverse (priced_on sorted day) a b ≡ Some r = sym (ap (λ (o : Option Fraction). option_or o (reverse (priced_on sorted day) a b)) e) ∙ h in
          let q = reverse_price (priced_on sorted day) a b r (priced_on sorted day b a) refl turned in
          (both b a (priced_has sorted day b a q.0 q.1)).1
      by (Some s) e = declared_has a b s e
