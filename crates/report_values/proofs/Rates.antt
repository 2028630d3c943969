-- The rate along the least of all chains is the only one.
use Rattle.std.proofs.Common.{◌≡◌, ℕ, zero, suc, ◌<◌, ◌≤◌, Bool, true, false, cond, ◌&&◌, List, [], ◌∷◌, ◌++◌, length, map, filter, Option, Some, None, Result, Ok, Err, inl, inr, refl, sym, ap, subst, ◌∙◌, arith}
use Rattle.std.specs.Prelude.{is_some, nat_le, option_and_then}
use Rattle.std.specs.List.{flat_map, AllByRecursion}
use Rattle.std.specs.Option.{option_or, option_map}
use Rattle.std.specs.declared.cmp.Ordering.{Ordering}
use Rattle.std.specs.declared.cmp.Ordering.TheVariants.{Less, Equal, Greater}
use Rattle.std.specs.Ordering.{nat_cmp, is_gt, ordering_then, ordering_reverse}
use Rattle.std.specs.Str.{bytes_eq}
use Rattle.std.specs.Cmp.{IsTotalOrder}
use Rattle.std.specs.Cmp.Lexicographic.{slice_cmp}
use Rattle.std.specs.FinMap.{IsAntisymmetric, slice_cmp-IsAntisymmetric}
use Rattle.std.proofs.lemmas.Cmp.{on_total, then_total, nat_list_cmp_total, nat_cmp_total, lists_total}
use Rattle.prices.specs.declared.quote.Quote.{Quote}
use Rattle.prices.specs.declared.rate.RateRange.{RateRange}
use Rattle.prices.specs.Fraction.{Fraction}
use Rattle.prices.specs.Fractions.{declared_rate, product_of}
use Rattle.prices.specs.Quotes.{last, is_on, latest}
use Rattle.prices.specs.Chains.{Pricing, priced_on, declared, turned, reverse, either, leads, is_chain, rates_along, class_of, list_cmp, chain_cmp, IsLeast, IsRate}
use Rattle.prices.proofs.Texts.{text_ties, true≢false, both_first, both_second, le_from}
use Rattle.prices.proofs.Keys.{pair_symbol, pair_target, on_pair}
use Rattle.report_values.specs.Rates.{symbols_of, lists_of, chains_of, lesser_chain, least_chain, told_product, product_along, rate_on}
use Rattle.report_values.proofs.Lists.{In, in_left, in_right, in_kept, kept_passes, none_kept}

some_same : {X : Type 0} (x y : X) → Some x ≡ Some y → x ≡ y
some_same x y h = cc

none_some : {X : Type 0} (x : X) → None ≡ Some x → ⊥
none_some x h = cc

less_equal : Less ≡ Equal → ⊥
less_equal h = cc

greater_equal : Greater ≡ Equal → ⊥
greater_equal h = cc

-- ---- all lists of some symbols

in_map : (s : List ℕ) (c : List (List ℕ)) (cs : List (List (List ℕ))) → In c cs → In (s ∷ c) (map (λ list. s ∷ list) cs)
in_map s c [] h = absurd h
in_map s c (d ∷ ds) h = elim h [ inl same ↦ inl (ap (λ (l : List (List ℕ)). s ∷ l) same) | inr later ↦ inr (in_map s c ds later) ]

in_flat : (s : List ℕ) (c : List (List ℕ)) (symbols : List (List ℕ)) (cs : List (List (List ℕ))) → In s symbols → In c cs → In (s ∷ c) (flat_map (λ symbol. map (λ list. symbol ∷ list) cs) symbols)
in_flat s c [] cs h k = absurd h
in_flat s c (t ∷ ts) cs h k = elim h [
  | inl same ↦ in_left (s ∷ c) (map (λ list. t ∷ list) cs) (flat_map (λ symbol. map (λ list. symbol ∷ list) cs) ts)
      (subst (λ (x : List ℕ). In (s ∷ c) (map (λ (list : List (List ℕ)). x ∷ list) cs)) same (in_map s c cs k))
  | inr later ↦ in_right (s ∷ c) (map (λ list. t ∷ list) cs) (flat_map (λ symbol. map (λ list. symbol ∷ list) cs) ts) (in_flat s c ts cs later k)
]

too_long : (n : ℕ) → suc n ≤ 0 → ⊥
too_long n h = omega arith

lists_in : (symbols : List (List ℕ)) (most : ℕ) (c : List (List ℕ)) → length c ≤ most → AllByRecursion (λ s. In s symbols) c → In c (lists_of symbols most)
lists_in symbols zero [] le all = inl refl
lists_in symbols zero (s ∷ c) le all = absurd (too_long (length c) le)
lists_in symbols (suc most) [] le all = inl refl
lists_in symbols (suc most) (s ∷ c) le all = inr (in_flat s c symbols (lists_of symbols most) all.0 (lists_in symbols most c (omega (arith, le)) all.1))

-- ---- the symbols of chains are those of prices

module _ (a b : List ℕ) where
  -- both are among those of some prices
  abbrev Both : List Quote → Type 0
  Both quotes = In a (symbols_of quotes) × In b (symbols_of quotes)

  later_both : (q : Quote) (qs : List Quote) → Both qs → Both (q ∷ qs)
  later_both q qs h = (inr (inr h.0), inr (inr h.1))

  here_both : (day : ℕ) (q : Quote) (qs : List Quote) → is_on a b day q ≡ true → Both (q ∷ qs)
  here_both day q qs is =
      let pair = on_pair a b day q is in
      (inl (sym (pair_symbol a b q pair)), inr (inl (sym (pair_target a b q pair))))

  last_both : (day : ℕ) (qs : List Quote) (q : Quote) → last (filter (is_on a b day) qs) ≡ Some q → Both qs
  last_both day [] q e = absurd (none_some q e)
  last_both day (x ∷ xs) q e =
      elim (is_on a b day x) as (λ t. is_on a b day x ≡ t → last (cond t (x ∷ filter (is_on a b day) xs) (filter (is_on a b day) xs)) ≡ Some q → Both (x ∷ xs)) [
        | true ↦ λ is e. here_both day x xs is
        | false ↦ λ is e. later_both x xs (last_both day xs q e)
      ] refl e

  latest_both : (day : ℕ) (qs : List Quote) (q : Quote) → latest qs a b day ≡ Some q → Both qs
  latest_both zero qs q e = last_both 0 qs q e
  latest_both (suc day) qs q e =
      elim (last (filter (is_on a b (suc day)) qs)) as (λ o. last (filter (is_on a b (suc day)) qs) ≡ o → option_or o (latest qs a b day) ≡ Some q → Both qs) [
        | Some x ↦ λ is e. last_both (suc day) qs x is
        | None ↦ λ is e. latest_both day qs q e
      ] refl e

  priced_both : (qs : List Quote) (day : ℕ) (q : Quote) → priced_on qs day a b ≡ Some q → Both qs
  priced_both qs day q e = by (bytes_eq a b) e
    where
      by : (c : Bool) → cond c None (latest qs a b day) ≡ Some q → Both qs
      by true e = absurd (none_some q e)
      by false e = latest_both day qs q e

either_in : (qs : List Quote) (day : ℕ) (a b : List ℕ) → is_some (either (priced_on qs day) a b) ≡ true → In b (symbols_of qs)
either_in qs day a b h = by (priced_on qs day a b) refl (priced_on qs day b a) refl h
  where
    by : (o : Option Quote) → priced_on qs day a b ≡ o → (p : Option Quote) → priced_on qs day b a ≡ p → is_some (option_or (option_map (λ quote. declared_rate quote.value) o) (option_and_then turned p)) ≡ true → In b (symbols_of qs)
    by (Some q) e p f h = (priced_both a b qs day q e).1
    by None e (Some q) f h = (priced_both b a qs day q f).0
    by None e None f h = absurd (true≢false (sym h))

leads_in : (qs : List Quote) (day : ℕ) (target s : List ℕ) (chain : List (List ℕ)) → leads (either (priced_on qs day)) target s chain ≡ true → AllByRecursion (λ t. In t (symbols_of qs)) chain
leads_in qs day target s [] h = tt
leads_in qs day target s (n ∷ ns) h = (either_in qs day s n (both_first _ _ h), leads_in qs day target n ns (both_second _ _ h))

-- ---- a least chain is the first that is found

module _ (cmp : List (List ℕ) → List (List ℕ) → Ordering) (one : (a b : List (List ℕ)) → is_gt (cmp a b) ≡ false → is_gt (cmp b a) ≡ false → a ≡ b) where
  least_in : (cs : List (List (List ℕ))) (m : List (List ℕ)) → least_chain cmp cs ≡ Some m → In m cs
  least_in [] m e = absurd (none_some m e)
  least_in (c ∷ cs) m e =
      elim (least_chain cmp cs) as (λ o. least_chain cmp cs ≡ o → Some (lesser_chain cmp c o) ≡ Some m → In m (c ∷ cs)) [
        | None ↦ λ is e. inl (sym (some_same c m e))
        | Some d ↦ λ is e.
            elim (is_gt (cmp c d)) as (λ b. Some (cond b d c) ≡ Some m → In m (c ∷ cs)) [
              | true ↦ λ e. inr (subst (λ (x : List (List ℕ)). In x cs) (some_same d m e) (least_in cs d is))
              | false ↦ λ e. inl (sym (some_same c m e))
            ] e
      ] refl e

  least_is : (c : List (List ℕ)) (cs : List (List (List ℕ))) → In c cs → ((d : List (List ℕ)) → In d cs → is_gt (cmp c d) ≡ false) → least_chain cmp cs ≡ Some c
  least_is c [] h least = absurd h
  least_is c (x ∷ xs) h least = elim h [
    | inl same ↦
        elim (least_chain cmp xs) as (λ o. least_chain cmp xs ≡ o → Some (lesser_chain cmp x o) ≡ Some c) [
          | None ↦ λ is. ap (λ (y : List (List ℕ)). Some y) (sym same)
          | Some d ↦ λ is.
              let le : is_gt (cmp x d) ≡ false = ap (λ (y : List (List ℕ)). is_gt (cmp y d)) (sym same) ∙ least d (inr (least_in xs d is)) in
              ap (λ (b : Bool). Some (cond b d x)) le ∙ ap (λ (y : List (List ℕ)). Some y) (sym same)
        ] refl
    | inr later ↦
        ap (λ (o : Option (List (List ℕ))). Some (lesser_chain cmp x o)) (least_is c xs later (λ d m. least d (inr m)))
        ∙ over (is_gt (cmp x c)) refl
  ]
    where
      over : (b : Bool) → is_gt (cmp x c) ≡ b → Some (cond b c x) ≡ Some c
      over true e = refl
      over false e = ap (λ (y : List (List ℕ)). Some y) (one x c e (least x (inl refl)))

-- ---- the order of chains

list_ties : IsAntisymmetric (slice_cmp (slice_cmp nat_cmp))
list_ties = slice_cmp-IsAntisymmetric text_ties

then_last : (o p : Ordering) → ordering_then o p ≡ Equal → p ≡ Equal
then_last Less p e = absurd (less_equal e)
then_last Equal p e = e
then_last Greater p e = absurd (greater_equal e)

module _ (class : List (List ℕ) → ℕ) where
  chain_total : IsTotalOrder (chain_cmp class)
  chain_total = then_total (on_total class nat_cmp_total) (then_total (on_total (λ (c : List (List ℕ)). length c) nat_cmp_total) (lists_total nat_list_cmp_total))

  chain_ties : (a b : List (List ℕ)) → chain_cmp class a b ≡ Equal → a ≡ b
  chain_ties a b e = list_ties a b (then_last (nat_cmp (length a) (length b)) _ (then_last (nat_cmp (class a) (class b)) _ e))

  only_one : (a b : List (List ℕ)) → is_gt (chain_cmp class a b) ≡ false → is_gt (chain_cmp class b a) ≡ false → a ≡ b
  only_one a b h k = by (chain_cmp class b a) refl
    where
      by : (o : Ordering) → chain_cmp class b a ≡ o → a ≡ b
      by Less e = absurd (true≢false (sym (ap is_gt (chain_total.antisymm a b ∙ ap ordering_reverse e)) ∙ h))
      by Equal e = sym (chain_ties b a e)
      by Greater e = absurd (true≢false (sym (ap is_gt e) ∙ k))

-- ---- the rate

module _ (quotes : List Quote) (day : ℕ) (target from : List ℕ) where
  abbrev price : Pricing
  price = priced_on quotes day

  abbrev class : List (List ℕ) → ℕ
  class = class_of (declared price) target from

  chain_in : (chain : List (List ℕ)) → is_chain (either price) target from chain ≡ true → In chain (chains_of quotes day target from)
  unfolding chains_of
  chain_in chain is =
      in_kept (is_chain (either price) target from) chain (lists_of (symbols_of quotes) 16) is
      (lists_in (symbols_of quotes) 16 chain (le_from (length chain) 16 (both_second _ _ is)) (leads_in quotes day target from chain (both_first _ _ is)))

  in_chain : (chain : List (List ℕ)) → In chain (chains_of quotes day target from) → is_chain (either price) target from chain ≡ true
  unfolding chains_of
  in_chain chain m = kept_passes (is_chain (either price) target from) chain (lists_of (symbols_of quotes) 16) m

  no_chains : ((chain : List (List ℕ)) → is_chain (either price) target from chain ≡ false) → chains_of quotes day target from ≡ []
  unfolding chains_of
  no_chains none = none_kept (is_chain (either price) target from) none (lists_of (symbols_of quotes) 16)

  rate_none : ((chain : List (List ℕ)) → is_chain (either price) target from chain ≡ false) → rate_on quotes day target from ≡ Ok None
  unfolding rate_on
  rate_none none = ap (λ (cs : List (List (List ℕ))). product_along (either price) from (least_chain (chain_cmp class) cs)) (no_chains none)

  rate_along : (chain : List (List ℕ)) → IsLeast price target from chain → rate_on quotes day target from ≡ told_product (product_of (rates_along (either price) from chain))
  unfolding rate_on
  rate_along chain least =
      ap (product_along (either price) from)
      (least_is (chain_cmp class) (only_one class) chain (chains_of quotes day target from) (chain_in chain least.is) (λ d m. least.least d (in_chain d m)))

-- what is told as a rate is the rate along the least of all chains
pub rate_on-is : (quotes : List Quote) (day : ℕ) (target from : List ℕ) (x : Result (Option Fraction) RateRange) → IsRate (priced_on quotes day) target from x → x ≡ rate_on quotes day target from
rate_on-is quotes day target from (Ok None) h = sym (rate_none quotes day target from h)
rate_on-is quotes day target from (Ok (Some rate)) h = sym (rate_along quotes day target from h.chain h.least ∙ ap told_product h.product)
rate_on-is quotes day target from (Err range) h = sym (rate_along quotes day target from h.chain h.least ∙ ap told_product h.product)
