-- Where the price of a pair stands among prices in their order.
use Rattle.std.proofs.Common.{◌≡◌, ℕ, zero, suc, ◌<◌, ◌≤◌, Bool, true, false, cond, List, [], ◌∷◌, ◌++◌, length, take, drop, get_or, filter, Option, Some, None, inl, inr, refl, sym, ap, subst, ◌∙◌, arith}
use Rattle.std.specs.List.{AllByRecursion}
use Rattle.std.specs.List.Sorted.{IsSorted}
use Rattle.std.specs.Option.{option_or}
use Rattle.std.specs.declared.cmp.Ordering.{Ordering}
use Rattle.std.specs.declared.cmp.Ordering.TheVariants.{Less, Equal, Greater}
use Rattle.std.specs.Ordering.{is_lt, ordering_reverse}
use Rattle.std.proofs.lemmas.Cmp.{alike_right}
use Rattle.std.proofs.lemmas.Bool.{cases_lt}
use Rattle.std.proofs.lemmas.List.{get_or_default}
use Rattle.std.proofs.lemmas.List.Elements.{filter-append}
use Rattle.prices.specs.declared.quote.Quote.{Quote}
use Rattle.prices.specs.Index.{key_cmp, quote_cmp, is_pair, IsBound}
use Rattle.prices.specs.Quotes.{last, is_on, latest}
use Rattle.prices.specs.Order.{quote_total}
use Rattle.prices.proofs.Texts.{true≢false}
use Rattle.prices.proofs.Keys.{on_pair, on_day, on_from, day_past, day_order, day_upto, pair_between, far}

none_filter : (p : Quote → Bool) (qs : List Quote) → AllByRecursion (λ q. p q ≡ false) qs → filter p qs ≡ []
none_filter p [] h = refl
none_filter p (q ∷ qs) h = ap (λ b. cond b (q ∷ filter p qs) (filter p qs)) h.0 ∙ none_filter p qs h.1

all_map : (P Q : Quote → Type 0) → ((q : Quote) → P q → Q q) → (qs : List Quote) → AllByRecursion P qs → AllByRecursion Q qs
all_map P Q f [] h = tt
all_map P Q f (q ∷ qs) h = (f q h.0, all_map P Q f qs h.1)

last_push : (qs : List Quote) (r : Quote) → last (qs ++ r ∷ []) ≡ Some r
last_push [] r = refl
last_push (q ∷ qs) r = ap (λ o. option_or o (Some q)) (last_push qs r)

false_by : (b : Bool) → (b ≡ true → ⊥) → b ≡ false
false_by true h = absurd (h refl)
false_by false h = refl

past : (m n k : ℕ) → m < n → n ≡ k → k ≤ m → ⊥
past m n k h e le = omega arith

-- no price on any of the days
pub nothing : (a b : List ℕ) (qs : List Quote) (most day : ℕ) → day ≤ most → ((d : ℕ) → d ≤ most → filter (is_on a b d) qs ≡ []) → latest qs a b day ≡ None
nothing a b qs most zero le h = ap last (h 0 le)
nothing a b qs most (suc day) le h = ap (λ (l : List Quote). option_or (last l) (latest qs a b day)) (h (suc day) le) ∙ nothing a b qs most day (omega arith) h

module _ (a b : List ℕ) (most : ℕ) where
  after_none : (qs : List Quote) → AllByRecursion (λ q. is_lt (key_cmp a b most q) ≡ true) qs → (d : ℕ) → d ≤ most → filter (is_on a b d) qs ≡ []
  after_none qs h d le = none_filter (is_on a b d) qs (all_map _ _ (λ q k. false_by (is_on a b d q) (λ on. past most q.day.0 d (day_past a b most q (on_pair a b d q on) k) (on_day a b d q on) le)) qs h)

  module _ (pre post : List Quote) (r : Quote) (before : AllByRecursion (λ q. is_lt (quote_cmp r q) ≡ false) pre) (own : is_lt (key_cmp a b most r) ≡ false) (after : AllByRecursion (λ q. is_lt (key_cmp a b most q) ≡ true) post) where
    on_day_is : (d : ℕ) → d ≤ most → (c : Bool) → is_on a b d r ≡ c → filter (is_on a b d) (pre ++ r ∷ post) ≡ filter (is_on a b d) pre ++ cond c (r ∷ []) []
    on_day_is d le c e =
        filter-append (is_on a b d) pre (r ∷ post)
        ∙ ap (λ (l : List Quote). filter (is_on a b d) pre ++ cond (is_on a b d r) (r ∷ l) l) (after_none post after d le)
        ∙ ap (λ (c : Bool). filter (is_on a b d) pre ++ cond c (r ∷ []) []) e

    other_none : is_pair a b r ≡ false → (d : ℕ) → d ≤ most → filter (is_on a b d) (pre ++ r ∷ post) ≡ []
    other_none other d le =
        on_day_is d le false (false_by (is_on a b d r) (λ on. true≢false (sym (on_pair a b d r on) ∙ other)))
        ∙ ap (λ (l : List Quote). l ++ []) (none_filter (is_on a b d) pre (all_map _ _ (λ q k. false_by (is_on a b d q) (λ on. true≢false (sym (pair_between a b most r q (on_pair a b d q on) own k) ∙ other))) pre before))

    module _ (is : is_pair a b r ≡ true) where
      at_day : last (filter (is_on a b r.day.0) (pre ++ r ∷ post)) ≡ Some r
      at_day = ap last (on_day_is r.day.0 (day_upto a b most r is own) true (on_from a b r is)) ∙ last_push (filter (is_on a b r.day.0) pre) r

      past_day : (d : ℕ) → r.day.0 < d → d ≤ most → filter (is_on a b d) (pre ++ r ∷ post) ≡ []
      past_day d lt le =
          on_day_is d le false (false_by (is_on a b d r) (λ on. past_it r.day.0 d lt (on_day a b d r on)))
          ∙ ap (λ (l : List Quote). l ++ []) (none_filter (is_on a b d) pre (all_map _ _ (λ q k. false_by (is_on a b d q) (λ on. past r.day.0 d q.day.0 lt (sym (on_day a b d q on)) (day_order a b r q is (on_pair a b d q on) k))) pre before))
        where
          past_it : (m n : ℕ) → m < n → m ≡ n → ⊥
          past_it m n h e = omega arith

      found_on : (day : ℕ) → r.day.0 ≤ day → day ≤ most → latest (pre ++ r ∷ post) a b day ≡ Some r
      found_on zero ge le =
          let on : r.day.0 ≡ 0 = omega arith in
          subst (λ (d : ℕ). last (filter (is_on a b d) (pre ++ r ∷ post)) ≡ Some r) on at_day
      found_on (suc day) ge le = elim (cases_lt r.day.0 (suc day)) [
        | inl lt ↦ ap (λ (l : List Quote). option_or (last l) (latest (pre ++ r ∷ post) a b day)) (past_day (suc day) lt le) ∙ found_on day (omega arith) (omega arith)
        | inr same ↦
            let on : r.day.0 ≡ suc day = omega arith in
            ap (λ (o : Option Quote). option_or o (latest (pre ++ r ∷ post) a b day)) (subst (λ (d : ℕ). last (filter (is_on a b d) (pre ++ r ∷ post)) ≡ Some r) on at_day)
      ]

all_before : (P : Quote → Type 0) (i : ℕ) (qs : List Quote) → ((j : ℕ) (d : Quote) → j < i → j < length qs → P (get_or qs j d)) → AllByRecursion P (take i qs)
all_before P zero qs h = tt
all_before P (suc i) [] h = tt
all_before P (suc i) (q ∷ qs) h = (h 0 q (omega arith) (omega arith), all_before P i qs (λ j d lt within. h (suc j) d (omega arith) (omega arith)))

all_after : (P : Quote → Type 0) (i : ℕ) (qs : List Quote) → ((j : ℕ) (d : Quote) → i ≤ j → j < length qs → P (get_or qs j d)) → AllByRecursion P (drop i qs)
all_after P zero [] h = tt
all_after P (suc i) [] h = tt
all_after P zero (q ∷ qs) h = (h 0 q (omega arith) (omega arith), all_after P 0 qs (λ j d le within. h (suc j) d (omega arith) (omega arith)))
all_after P (suc i) (q ∷ qs) h = all_after P i qs (λ j d le within. h (suc j) d (omega arith) (omega arith))

split_at : (i : ℕ) (qs : List Quote) (r : Quote) → i < length qs → r ≡ get_or qs i r → qs ≡ take i qs ++ r ∷ drop (suc i) qs
split_at i [] r lt is = absurd (none i lt)
  where
    none : (i : ℕ) → i < 0 → ⊥
    none i h = omega arith
split_at zero (q ∷ qs) r lt is = ap (λ (x : Quote). x ∷ qs) (sym is)
split_at (suc i) (q ∷ qs) r lt is = ap (λ (l : List Quote). q ∷ l) (split_at i qs r (omega arith) is)

pub at_start : (qs : List Quote) (a b : List ℕ) (day : ℕ) → IsBound qs a b day 0 0 → latest qs a b day ≡ None
at_start qs a b day bound = nothing a b qs day day (omega arith) (after_none a b day qs (all_after _ 0 qs (λ j d le within. bound.after j d le within)))

module _ (qs : List Quote) (a b : List ℕ) (day i : ℕ) (r : Quote) (up : IsSorted quote_cmp qs) (bound : IsBound qs a b day (suc i) (suc i)) (is : r ≡ get_or qs i r) where
  before_it : AllByRecursion (λ q. is_lt (quote_cmp r q) ≡ false) (take i qs)
  before_it = all_before _ i qs (λ j d lt within.
      let inside : i < length qs = let w = bound.within in omega arith in
      subst (λ (x : Quote). is_lt (quote_cmp x (get_or qs j d)) ≡ false) (same i r d inside is) (far qs up j i d (omega arith) inside))
    where
      same : (i : ℕ) (r d : Quote) → i < length qs → r ≡ get_or qs i r → get_or qs i d ≡ r
      same i r d lt is = get_or_default qs i d r lt ∙ sym is

  own_it : is_lt (key_cmp a b day r) ≡ false
  own_it = subst (λ (x : Quote). is_lt (key_cmp a b day x) ≡ false) (sym is) (bound.before i r (omega arith))

  after_it : AllByRecursion (λ q. is_lt (key_cmp a b day q) ≡ true) (drop (suc i) qs)
  after_it = all_after _ (suc i) qs (λ j d le within. bound.after j d le within)

  splits : qs ≡ take i qs ++ r ∷ drop (suc i) qs
  splits = split_at i qs r (let w = bound.within in omega arith) is

  pub found_at : is_pair a b r ≡ true → latest qs a b day ≡ Some r
  found_at pair = ap (λ (l : List Quote). latest l a b day) splits ∙ found_on a b day (take i qs) (drop (suc i) qs) r before_it own_it after_it pair day (day_upto a b day r pair own_it) (omega arith)

  pub other_at : is_pair a b r ≡ false → latest qs a b day ≡ None
  other_at other = ap (λ (l : List Quote). latest l a b day) splits ∙ nothing a b _ day day (omega arith) (other_none a b day (take i qs) (drop (suc i) qs) r before_it own_it after_it other)

-- what comes no earlier than a greater price is greater
strict_upto : (k r q : Quote) → is_lt (quote_cmp k r) ≡ true → is_lt (quote_cmp q r) ≡ false → is_lt (quote_cmp k q) ≡ true
strict_upto k r q h le = by (quote_cmp r q) refl
  where
    is_less : (o : Ordering) → is_lt o ≡ true → o ≡ Less
    is_less Less h = refl
    is_less Equal h = absurd (true≢false (sym h))
    is_less Greater h = absurd (true≢false (sym h))

    by : (o : Ordering) → quote_cmp r q ≡ o → is_lt (quote_cmp k q) ≡ true
    by Less e = ap is_lt (quote_total.trans k r q (is_less _ h) e)
    by Equal e = ap is_lt (sym (alike_right quote_total r q k e)) ∙ h
    by Greater e = absurd (true≢false (sym (ap is_lt (quote_total.antisymm q r ∙ ap ordering_reverse e)) ∙ le))

module _ (a b : List ℕ) (day : ℕ) (qs : List Quote) (up : IsSorted quote_cmp qs) (m : ℕ) (r : Quote) (is : r ≡ get_or qs m r) (within : m < length qs) where
  read_at : (d : Quote) → get_or qs m d ≡ r
  read_at d = get_or_default qs m d r within ∙ sym is

  pub all_past : is_lt (key_cmp a b day r) ≡ true → (j : ℕ) (d : Quote) → m ≤ j → j < length qs → is_lt (key_cmp a b day (get_or qs j d)) ≡ true
  all_past h j d le lt = strict_upto (record { symbol = a; target = b; day = record { 0 = day }; value = r.value }) r (get_or qs j d) h
      (subst (λ (x : Quote). is_lt (quote_cmp (get_or qs j d) x) ≡ false) (read_at d) (far qs up m j d le lt))

  pub all_upto : is_lt (key_cmp a b day r) ≡ false → (j : ℕ) (d : Quote) → j ≤ m → is_lt (key_cmp a b day (get_or qs j d)) ≡ false
  all_upto h j d le = false_by _ (λ past. true≢false (sym (strict_upto (record { symbol = a; target = b; day = record { 0 = day }; value = r.value }) (get_or qs j d) r past
      (subst (λ (x : Quote). is_lt (quote_cmp x (get_or qs j d)) ≡ false) (read_at d) (far qs up j m d le within))) ∙ h))
