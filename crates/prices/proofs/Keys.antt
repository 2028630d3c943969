-- How pairs and days compare with prices.
use Rattle.std.proofs.Common.{◌≡◌, ℕ, suc, ◌<◌, ◌≤◌, Bool, true, false, List, [], ◌∷◌, length, get_or, refl, sym, ap, ◌∙◌, arith}
use Rattle.std.specs.Prelude.{◌==◌}
use Rattle.std.specs.List.{AllByRecursion}
use Rattle.std.specs.List.Sorted.{IsSorted}
use Rattle.std.specs.declared.cmp.Ordering.{Ordering}
use Rattle.std.specs.declared.cmp.Ordering.TheVariants.{Less, Equal, Greater}
use Rattle.std.specs.Ordering.{nat_cmp, is_lt, is_gt, ordering_then, ordering_reverse}
use Rattle.std.specs.Cmp.Lexicographic.{slice_cmp, nat_list_cmp_total}
use Rattle.std.proofs.lemmas.Cmp.{tied_itself}
use Rattle.std.proofs.lemmas.Bool.Decides.{nat_tests, Decides-eqb}
use Rattle.std.proofs.lemmas.List.Sorted.{sorted_far, ranks_by}
use Rattle.prices.specs.declared.quote.Quote.{Quote}
use Rattle.prices.specs.Index.{key_cmp, quote_cmp, is_pair}
use Rattle.prices.specs.Quotes.{is_on}
use Rattle.prices.specs.Order.{quote_total}
use Rattle.prices.proofs.Texts.{same_text, equal_text, text_ties, true≢false, both_first, both_second, both_true}

-- a price of the pair compares by its day
pub key_same : (a b : List ℕ) (day : ℕ) (q : Quote) → q.symbol ≡ a → q.target ≡ b → key_cmp a b day q ≡ nat_cmp day q.day.0
key_same a b day q s t =
    ap (λ (o : Ordering). ordering_then o (ordering_then (slice_cmp nat_cmp b q.target) (nat_cmp day q.day.0))) (ap (slice_cmp nat_cmp a) s ∙ tied_itself nat_list_cmp_total a)
    ∙ ap (λ (o : Ordering). ordering_then o (nat_cmp day q.day.0)) (ap (slice_cmp nat_cmp b) t ∙ tied_itself nat_list_cmp_total b)

pub pair_symbol : (a b : List ℕ) (q : Quote) → is_pair a b q ≡ true → q.symbol ≡ a
pair_symbol a b q h = same_text q.symbol a (both_first _ _ h)

pub pair_target : (a b : List ℕ) (q : Quote) → is_pair a b q ≡ true → q.target ≡ b
pair_target a b q h = same_text q.target b (both_second _ _ h)

pub pair_from : (a b : List ℕ) (q : Quote) → q.symbol ≡ a → q.target ≡ b → is_pair a b q ≡ true
pair_from a b q s t = both_true _ _ (equal_text q.symbol a s) (equal_text q.target b t)

pub on_pair : (a b : List ℕ) (day : ℕ) (q : Quote) → is_on a b day q ≡ true → is_pair a b q ≡ true
on_pair a b day q h = both_first (is_pair a b q) (q.day.0 == day) h

pub on_day : (a b : List ℕ) (day : ℕ) (q : Quote) → is_on a b day q ≡ true → q.day.0 ≡ day
on_day a b day q h = (Decides-eqb q.day.0 day).0 (both_second (is_pair a b q) (q.day.0 == day) h)

pub on_from : (a b : List ℕ) (q : Quote) → is_pair a b q ≡ true → is_on a b q.day.0 q ≡ true
on_from a b q h = both_true (is_pair a b q) (q.day.0 == q.day.0) h ((Decides-eqb q.day.0 q.day.0).1 refl)

not_below : (m n : ℕ) → is_lt (nat_cmp m n) ≡ false → n ≤ m
not_below m n h = grind (arith, nat_tests)

below_is : (m n : ℕ) → is_lt (nat_cmp m n) ≡ true → m < n
below_is m n h = grind (arith, nat_tests)

-- a price of the pair that comes no later than its key has no later day
pub day_upto : (a b : List ℕ) (day : ℕ) (q : Quote) → is_pair a b q ≡ true → is_lt (key_cmp a b day q) ≡ false → q.day.0 ≤ day
day_upto a b day q is h = not_below day q.day.0 (sym (ap is_lt (key_same a b day q (pair_symbol a b q is) (pair_target a b q is))) ∙ h)

-- a price of the pair that comes later has a later day
pub day_past : (a b : List ℕ) (day : ℕ) (q : Quote) → is_pair a b q ≡ true → is_lt (key_cmp a b day q) ≡ true → day < q.day.0
day_past a b day q is h = below_is day q.day.0 (sym (ap is_lt (key_same a b day q (pair_symbol a b q is) (pair_target a b q is))) ∙ h)

-- two prices that aren't less in either direction are alike
squeezed : (a b c : List ℕ) (o p : Ordering) → is_lt (ordering_then (slice_cmp nat_cmp a b) o) ≡ false → is_lt (ordering_then (slice_cmp nat_cmp b c) p) ≡ false → c ≡ a → b ≡ a
squeezed a b c o p h k e = by (slice_cmp nat_cmp a b) refl
  where
    back : slice_cmp nat_cmp b a ≡ ordering_reverse (slice_cmp nat_cmp a b)
    back = nat_list_cmp_total.antisymm b a

    by : (r : Ordering) → slice_cmp nat_cmp a b ≡ r → b ≡ a
    by Less q = absurd (true≢false (sym (ap (λ (r : Ordering). is_lt (ordering_then r o)) q) ∙ h))
    by Equal q = sym (text_ties a b q)
    by Greater q =
        let less : slice_cmp nat_cmp b c ≡ Less = ap (slice_cmp nat_cmp b) e ∙ back ∙ ap ordering_reverse q in
        absurd (true≢false (sym (ap (λ (r : Ordering). is_lt (ordering_then r p)) less) ∙ k))

-- the rest of a comparison, once the first parts tie
rest_of : (a b : List ℕ) (o : Ordering) (r : Bool) → b ≡ a → is_lt (ordering_then (slice_cmp nat_cmp a b) o) ≡ r → is_lt o ≡ r
rest_of a b o r e h = sym (ap (λ (x : Ordering). is_lt (ordering_then x o)) (ap (slice_cmp nat_cmp a) e ∙ tied_itself nat_list_cmp_total a)) ∙ h

-- a price between one of the pair and its key is of the pair
pub pair_between : (a b : List ℕ) (day : ℕ) (r q : Quote) → is_pair a b q ≡ true → is_lt (key_cmp a b day r) ≡ false → is_lt (quote_cmp r q) ≡ false → is_pair a b r ≡ true
pair_between a b day r q is h k =
    let s = pair_symbol a b q is in
    let t = pair_target a b q is in
    let symbol : r.symbol ≡ a = squeezed a r.symbol q.symbol _ _ h k s in
    let h' = rest_of a r.symbol (ordering_then (slice_cmp nat_cmp b r.target) (nat_cmp day r.day.0)) false symbol h in
    let k' = rest_of r.symbol q.symbol (ordering_then (slice_cmp nat_cmp r.target q.target) (nat_cmp r.day.0 q.day.0)) false (s ∙ sym symbol) k in
    pair_from a b r symbol (squeezed b r.target q.target _ _ h' k' t)

-- of one pair, a price that stands before another has no later day
pub day_order : (a b : List ℕ) (r q : Quote) → is_pair a b r ≡ true → is_pair a b q ≡ true → is_lt (quote_cmp r q) ≡ false → q.day.0 ≤ r.day.0
day_order a b r q is k h =
    not_below r.day.0 q.day.0 (sym (ap is_lt (key_same r.symbol r.target r.day.0 q
    (pair_symbol a b q k ∙ sym (pair_symbol a b r is)) (pair_target a b q k ∙ sym (pair_target a b r is)))) ∙ h)

-- of one symbol, a price that stands before another is in no later symbol
pub target_order : (r q : Quote) → r.symbol ≡ q.symbol → is_lt (quote_cmp r q) ≡ false → is_gt (slice_cmp nat_cmp q.target r.target) ≡ false
target_order r q e h = by (slice_cmp nat_cmp r.target q.target) refl
  where
    rest : is_lt (ordering_then (slice_cmp nat_cmp r.target q.target) (nat_cmp r.day.0 q.day.0)) ≡ false
    rest = rest_of r.symbol q.symbol _ false (sym e) h

    back : slice_cmp nat_cmp q.target r.target ≡ ordering_reverse (slice_cmp nat_cmp r.target q.target)
    back = nat_list_cmp_total.antisymm q.target r.target

    by : (o : Ordering) → slice_cmp nat_cmp r.target q.target ≡ o → is_gt (slice_cmp nat_cmp q.target r.target) ≡ false
    by Less e = absurd (true≢false (sym (ap (λ (x : Ordering). is_lt (ordering_then x (nat_cmp r.day.0 q.day.0))) e) ∙ rest))
    by Equal e = ap is_gt (back ∙ ap ordering_reverse e)
    by Greater e = ap is_gt (back ∙ ap ordering_reverse e)

-- what holds of each place holds of each price
pub all_from : (P : Quote → Type 0) (qs : List Quote) → ((i : ℕ) (d : Quote) → i < length qs → P (get_or qs i d)) → AllByRecursion P qs
all_from P [] h = tt
all_from P (q ∷ qs) h = (h 0 q (omega arith), all_from P qs (λ i d lt. h (suc i) d (omega arith)))

-- each price is no later than those after it
abbrev pub Rises : List Quote → Type 0
Rises [] = Unit {0}
Rises (q ∷ qs) = AllByRecursion (λ r. is_lt (quote_cmp r q) ≡ false) qs × Rises qs

pub far : (qs : List Quote) → IsSorted quote_cmp qs → (i j : ℕ) (d : Quote) → i ≤ j → j < length qs → is_lt (quote_cmp (get_or qs j d) (get_or qs i d)) ≡ false
far qs up = sorted_far (λ x y. is_lt (quote_cmp x y)) (ranks_by quote_total (λ (q : Quote). q)) qs up

rises_by : (qs : List Quote) → ((i j : ℕ) (d : Quote) → i ≤ j → j < length qs → is_lt (quote_cmp (get_or qs j d) (get_or qs i d)) ≡ false) → Rises qs
rises_by [] h = tt
rises_by (q ∷ qs) h =
    (all_from (λ r. is_lt (quote_cmp r q) ≡ false) qs (λ i d lt. h 0 (suc i) d (omega arith) (omega arith)), rises_by qs (λ i j d le lt. h (suc i) (suc j) d (omega arith) (omega arith)))

pub rises : (qs : List Quote) → IsSorted quote_cmp qs → Rises qs
rises qs up = rises_by qs (far qs up)
