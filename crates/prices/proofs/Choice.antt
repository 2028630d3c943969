-- The way that is chosen goes along a least chain.
use Rattle.std.proofs.Common.{◌≡◌, ℕ, zero, suc, ◌<◌, ◌≤◌, Bool, true, false, cond, List, [], ◌∷◌, ◌++◌, length, Option, Some, None, Result, Ok, Err, inl, inr, refl, sym, ap, subst, ◌∙◌, arith}
use Rattle.std.specs.Prelude.{is_some, nat_le, option_and_then}
use Rattle.std.specs.Option.{option_or, option_map, option_to_list}
use Rattle.std.specs.declared.cmp.Ordering.{Ordering}
use Rattle.std.specs.declared.cmp.Ordering.TheVariants.{Less}
use Rattle.std.specs.Ordering.{nat_cmp, is_gt, ordering_then}
use Rattle.std.specs.Cmp.Lexicographic.{slice_cmp, nat_list_cmp_total}
use Rattle.std.proofs.lemmas.Cmp.{tied_itself, nat_cmp_total, lists_total}
use Rattle.std.proofs.lemmas.Bool.Decides.{nat_tests}
use Rattle.prices.specs.declared.quote.Quote.{Quote}
use Rattle.prices.specs.Fraction.{Fraction}
use Rattle.prices.specs.declared.rate.RateRange.{RateRange}
use Rattle.prices.specs.declared.search.Found.{Found}
use Rattle.prices.specs.Fractions.{declared_rate, product_of}
use Rattle.prices.specs.Chains.{Pricing, declared, turned, reverse, either, leads, is_chain, rates_along, class_of, list_cmp, chain_cmp, IsLeast, IsRate}
use Rattle.prices.specs.Search.{chosen, worth}
use Rattle.prices.proofs.Texts.{same_text, told, true≢false, both_first, both_second, both_true, there, le_from, le_to}
use Rattle.prices.proofs.Least.{IsUpto, Best, NoChain, Stands}

-- a lesser class decides
class_less : (class : List (List ℕ) → ℕ) (a b : List (List ℕ)) → class a < class b → is_gt (chain_cmp class a b) ≡ false
class_less class a b h = ap (λ (o : Ordering). is_gt (ordering_then o (list_cmp a b))) (less (class a) (class b) h)
  where
    less : (m n : ℕ) → m < n → nat_cmp m n ≡ Less
    less m n h = grind (arith, nat_tests)

upto_list : (a b : List (List ℕ)) → IsUpto a b → is_gt (list_cmp a b) ≡ false
upto_list a b h = elim h [
  | inl less ↦ ap (λ (o : Ordering). is_gt (ordering_then o (slice_cmp (slice_cmp nat_cmp) a b))) (is_less (length a) (length b) less)
  | inr same ↦ ap (λ (n : ℕ). is_gt (ordering_then (nat_cmp (length a) n) (slice_cmp (slice_cmp nat_cmp) a b))) (sym same.0)
      ∙ ap (λ (o : Ordering). is_gt (ordering_then o (slice_cmp (slice_cmp nat_cmp) a b))) (tied_itself nat_cmp_total (length a)) ∙ same.1
]
  where
    is_less : (m n : ℕ) → m < n → nat_cmp m n ≡ Less
    is_less m n h = grind (arith, nat_tests)

-- of one class the list decides
class_same : (class : List (List ℕ) → ℕ) (a b : List (List ℕ)) → class a ≡ class b → IsUpto a b → is_gt (chain_cmp class a b) ≡ false
class_same class a b same h =
    ap (λ (n : ℕ). is_gt (ordering_then (nat_cmp (class a) n) (list_cmp a b))) (sym same)
    ∙ ap (λ (o : Ordering). is_gt (ordering_then o (list_cmp a b))) (tied_itself nat_cmp_total (class a)) ∙ upto_list a b h

upto_itself : (a : List (List ℕ)) → IsUpto a a
upto_itself a = inr (refl, ap is_gt (tied_itself (lists_total nat_list_cmp_total) a))

length-rates : (rate : List ℕ → List ℕ → Option Fraction) (target s : List ℕ) (chain : List (List ℕ)) → leads rate target s chain ≡ true → length (rates_along rate s chain) ≡ length chain
length-rates rate target s [] h = refl
length-rates rate target s (n ∷ ns) h =
    let r = there (rate s n) (both_first _ _ h) in
    ap (λ (o : Option Fraction). length (option_to_list o ++ rates_along rate n ns)) r.1 ∙ ap suc (length-rates rate target n ns (both_second _ _ h))

module _ (price : Pricing) (itself : (a : List ℕ) → price a a ≡ None) (target : List ℕ) where
  abbrev by_declared : List ℕ → List ℕ → Option Fraction
  by_declared = declared price

  abbrev by_either : List ℕ → List ℕ → Option Fraction
  by_either = either price

  -- a declared price is taken before a reverse one
  declared_first : (a b : List ℕ) (r : Fraction) → by_declared a b ≡ Some r → by_either a b ≡ Some r
  declared_first a b r h = ap (λ (o : Option Fraction). option_or o (reverse price a b)) h

  leads_either : (s : List ℕ) (chain : List (List ℕ)) → leads by_declared target s chain ≡ true → leads by_either target s chain ≡ true
  leads_either s [] h = h
  leads_either s (n ∷ ns) h =
      let r = there (by_declared s n) (both_first _ _ h) in
      both_true _ _ (ap is_some (declared_first s n r.0 r.1)) (leads_either n ns (both_second _ _ h))

  rates_either : (s : List ℕ) (chain : List (List ℕ)) → leads by_declared target s chain ≡ true → rates_along by_declared s chain ≡ rates_along by_either s chain
  rates_either s [] h = refl
  rates_either s (n ∷ ns) h =
      let r = there (by_declared s n) (both_first _ _ h) in
      ap (λ (o : Option Fraction). option_to_list o ++ rates_along by_declared n ns) (r.1 ∙ sym (declared_first s n r.0 r.1))
      ∙ ap (λ (rs : List Fraction). option_to_list (by_either s n) ++ rs) (rates_either n ns (both_second _ _ h))

  -- a symbol has no price in itself
  none_itself : (a : List ℕ) → by_either a a ≡ None
  none_itself a = ap (λ (o : Option Quote). option_or (option_map (λ (q : Quote). declared_rate q.value) o) (option_and_then turned o)) (itself a)

  chain_leads : (s : List ℕ) (chain : List (List ℕ)) → is_chain by_either target s chain ≡ true → leads by_either target s chain ≡ true
  chain_leads s chain h = both_first _ _ h

  chain_short : (s : List ℕ) (chain : List (List ℕ)) → is_chain by_either target s chain ≡ true → length chain ≤ 16
  chain_short s chain h = le_from (length chain) 16 (both_second _ _ h)

  is_chain_from : (s : List ℕ) (chain : List (List ℕ)) → leads by_either target s chain ≡ true → length chain ≤ 16 → is_chain by_either target s chain ≡ true
  is_chain_from s chain h le = both_true _ _ h (le_to (length chain) 16 le)

  no_chain : (s : List ℕ) → NoChain by_either target 16 s → (chain : List (List ℕ)) → is_chain by_either target s chain ≡ false
  no_chain s none chain = elim (told (is_chain by_either target s chain)) [
    | inl is ↦ absurd (past (length chain) (none chain (chain_leads s chain is)) (chain_short s chain is))
    | inr isnt ↦ isnt
  ]
    where
      past : (n : ℕ) → 16 < n → n ≤ 16 → ⊥
      past n h le = omega arith

  -- the answer of a least chain
  answered : (s : List ℕ) (chain : List (List ℕ)) (way : Found) → IsLeast price target s chain → way.rates ≡ rates_along by_either s chain → IsRate price target s (worth (Some way))
  answered s chain way least rates = by (product_of way.rates) refl
    where
      by : (r : Result Fraction RateRange) → product_of way.rates ≡ r → IsRate price target s (elim r [ Ok rate ↦ Ok (Some rate) | Err range ↦ Err range ])
      by (Ok rate) e = record { chain = chain; least = least; product = ap product_of (sym rates) ∙ e }
      by (Err range) e = record { chain = chain; least = least; product = ap product_of (sym rates) ∙ e }

  module _ (from : List ℕ) where
    abbrev class : List (List ℕ) → ℕ
    class = class_of by_declared target from

    -- the class of a chain of two steps and more
    long_class : (b : Bool) → 2 ≤ cond b 2 3
    long_class true = omega arith
    long_class false = omega arith

    -- a chain of at most one step is least
    short_least : (chain other : List (List ℕ)) → length chain ≤ 1 → leads by_either target from chain ≡ true
        → ((another : List (List ℕ)) → leads by_either target from another ≡ true → IsUpto chain another)
        → leads by_either target from other ≡ true → is_gt (chain_cmp class chain other) ≡ false
    short_least [] [] short h least k = class_same class [] [] refl (upto_itself [])
    short_least [] (n ∷ []) short h least k =
        let arrives = same_text n target (both_second _ _ k) in
        let begins = same_text from target h in
        let none : by_either from n ≡ None = ap (λ (x : List ℕ). by_either from x) (arrives ∙ sym begins) ∙ none_itself from in
        absurd (true≢false (sym (both_first _ _ k) ∙ ap is_some none))
    short_least [] (n ∷ m ∷ ms) short h least k = by (leads by_declared target from (n ∷ m ∷ ms)) refl
      where
        begins : class [] ≡ 2
        begins = ap (λ (b : Bool). cond b 2 3) h

        by : (b : Bool) → leads by_declared target from (n ∷ m ∷ ms) ≡ b → is_gt (chain_cmp class [] (n ∷ m ∷ ms)) ≡ false
        by true e = class_same class [] (n ∷ m ∷ ms) (begins ∙ sym (ap (λ (b : Bool). cond b 2 3) e)) (inl (omega arith))
        by false e = let is : class (n ∷ m ∷ ms) ≡ 3 = ap (λ (b : Bool). cond b 2 3) e in class_less class [] (n ∷ m ∷ ms) (omega (arith, begins, is))
    short_least (n ∷ []) [] short h least k = elim (least [] k) [ inl less ↦ absurd (not_less less) | inr same ↦ absurd (not_same 0 same.0) ]
      where
        not_less : 1 < 0 → ⊥
        not_less h = omega arith

        not_same : (k : ℕ) → suc k ≡ zero → ⊥
        not_same k h = omega arith
    short_least (n ∷ []) (m ∷ []) short h least k =
        let same : n ≡ m = same_text n target (both_second _ _ h) ∙ sym (same_text m target (both_second _ _ k)) in
        subst (λ (x : List ℕ). is_gt (chain_cmp class (n ∷ []) (x ∷ [])) ≡ false) same (class_same class (n ∷ []) (n ∷ []) refl (upto_itself (n ∷ [])))
    short_least (n ∷ []) (m ∷ l ∷ ls) short h least k =
        class_less class (n ∷ []) (m ∷ l ∷ ls) (below (is_some (by_declared from n)) (leads by_declared target from (m ∷ l ∷ ls)))
      where
        below : (a b : Bool) → cond a 0 1 < cond b 2 3
        below true true = omega arith
        below true false = omega arith
        below false true = omega arith
        below false false = omega arith
    short_least (n ∷ m ∷ ms) other short h least k = absurd (past (length ms) short)
      where
        past : (n : ℕ) → suc (suc n) ≤ 1 → ⊥
        past n h = omega arith

    -- the class of a chain of two steps or more
    class_long : (chain : List (List ℕ)) → 2 ≤ length chain → class chain ≡ cond (leads by_declared target from chain) 2 3
    class_long [] h = refl
    class_long (n ∷ []) h = absurd (past h)
      where
        past : 2 ≤ 1 → ⊥
        past h = omega arith
    class_long (n ∷ m ∷ ms) h = refl

    long_upto : (a b : List (List ℕ)) → 2 ≤ length a → IsUpto a b → 2 ≤ length b
    long_upto a b h u = elim u [ inl less ↦ omega arith | inr same ↦ omega (arith, same.0) ]

    -- a least chain of declared prices, where no chain has fewer than two steps
    declared_least : (chain other : List (List ℕ)) → 2 ≤ length chain → 2 ≤ length other → leads by_declared target from chain ≡ true
        → ((another : List (List ℕ)) → leads by_declared target from another ≡ true → IsUpto chain another)
        → is_gt (chain_cmp class chain other) ≡ false
    declared_least chain other long far h least = by (leads by_declared target from other) refl
      where
        own : class chain ≡ 2
        own = class_long chain long ∙ ap (λ (b : Bool). cond b 2 3) h

        by : (b : Bool) → leads by_declared target from other ≡ b → is_gt (chain_cmp class chain other) ≡ false
        by true e = class_same class chain other (own ∙ sym (class_long other far ∙ ap (λ (b : Bool). cond b 2 3) e)) (least other e)
        by false e = let is : class other ≡ 3 = class_long other far ∙ ap (λ (b : Bool). cond b 2 3) e in class_less class chain other (omega (arith, own, is))

    -- a least chain of either kind, where no chain is of declared prices
    either_least : (chain other : List (List ℕ)) → 2 ≤ length chain → 2 ≤ length other
        → leads by_declared target from chain ≡ false → leads by_declared target from other ≡ false → IsUpto chain other → is_gt (chain_cmp class chain other) ≡ false
    either_least chain other long far h k upto =
        class_same class chain other
        (class_long chain long ∙ ap (λ (b : Bool). cond b 2 3) h ∙ sym (class_long other far ∙ ap (λ (b : Bool). cond b 2 3) k)) upto

    none_declared : NoChain by_declared target 16 from → (chain : List (List ℕ)) → length chain ≤ 16 → leads by_declared target from chain ≡ false
    none_declared none chain short = elim (told (leads by_declared target from chain)) [
      | inl is ↦ absurd (past (length chain) (none chain is) short)
      | inr isnt ↦ isnt
    ]
      where
        past : (n : ℕ) → 16 < n → n ≤ 16 → ⊥
        past n h le = omega arith

    long_way : (o : Option Found) (any : Found) → Stands by_declared target 16 from o → (best : Best by_either target 16 from any) → 2 ≤ length best.chain → IsRate price target from (worth (option_or o (Some any)))
    long_way None any none best long = answered from best.chain any (record {
      is = is_chain_from from best.chain best.leads_on best.short;
      least = λ other k. either_least best.chain other long (long_upto best.chain other long (best.least other (chain_leads from other k)))
          (none_declared none best.chain best.short) (none_declared none other (chain_short from other k)) (best.least other (chain_leads from other k));
    }) best.rates
    long_way (Some way) any own best long =
        let far : (other : List (List ℕ)) → leads by_either target from other ≡ true → 2 ≤ length other = λ other h. long_upto best.chain other long (best.least other h) in
        answered from own.chain way (record {
          is = is_chain_from from own.chain (leads_either from own.chain own.leads_on) own.short;
          least = λ other k. declared_least own.chain other (far own.chain (leads_either from own.chain own.leads_on)) (far other (chain_leads from other k)) own.leads_on own.least;
        }) (own.rates ∙ rates_either from own.chain own.leads_on)

    short_way : (any : Found) → (best : Best by_either target 16 from any) → length best.chain ≤ 1 → IsRate price target from (worth (Some any))
    short_way any best short = answered from best.chain any (record {
      is = is_chain_from from best.chain best.leads_on best.short;
      least = λ other k. short_least best.chain other short best.leads_on best.least (chain_leads from other k);
    }) best.rates

    -- what is chosen is worth the rate
    pub chosen_is : (o p : Option Found) → Stands by_declared target 16 from o → Stands by_either target 16 from p → IsRate price target from (worth (chosen o p))
    chosen_is o None h none = no_chain from none
    chosen_is o (Some any) h best = by (nat_le (length any.rates) 1) refl
      where
        same : length any.rates ≡ length best.chain
        same = ap length best.rates ∙ length-rates by_either target from best.chain best.leads_on

        by : (b : Bool) → nat_le (length any.rates) 1 ≡ b → IsRate price target from (worth (cond b (Some any) (option_or o (Some any))))
        by true e = let le : length any.rates ≤ 1 = le_from (length any.rates) 1 e in short_way any best (omega (arith, le, same))
        by false e =
            let long : 2 ≤ length best.chain = grind (arith, nat_tests, e, same) in
            long_way o any h best long
