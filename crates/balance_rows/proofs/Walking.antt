-- Amounts that are compared entry by entry stand in their order.
use Rattle.std.proofs.Common.{◌≡◌, ◌≢◌, ℕ, ℤ, pos, ◌+◌, ◌<◌, ◌≤◌, ◌+ℤ◌, ◌<ℤ◌, ◌-◌, ◌^◌, Bool, T, cond, List, [], ◌∷◌, length, map, get_or, drop, inl, inr, refl, sym, ap, subst, ◌∙◌, arith}
use Rattle.std.specs.declared.cmp.Ordering.{Ordering}
use Rattle.std.specs.declared.cmp.Ordering.TheVariants.{Less, Equal, Greater}
use Rattle.std.specs.Ordering.{int_cmp, is_eq, is_lt, match_ordering, MatchOrdering, ordering_reverse, ordering_then}
use Rattle.std.specs.Cmp.Lexicographic.{nat_list_cmp_total}
use Rattle.std.specs.FinMap.{int_cmp-IsAntisymmetric}
use Rattle.std.specs.FinMap.Entries.{below_all, is_sorted}
use Rattle.std.specs.List.{AllByRecursion}
use Rattle.std.specs.Str.{bytes_eq}
use Rattle.std.proofs.Math.IntN.{+ℤ_idl, +ℤ_idr}
use Rattle.std.proofs.lemmas.Cmp.{int_cmp_total, int_ranked, tied_itself}
use Rattle.std.proofs.lemmas.Int.{ints}
use Rattle.std.proofs.lemmas.List.{drop_all}
use Rattle.hl_num.specs.Decimal.{Decimal, units_of}
use Rattle.hl_num.proofs.DecimalLemmas.{zero-from_units}
use Rattle.hl_num.proofs.RoundingLemmas.{pow_ten_positive}
use Rattle.book.specs.Entries.{AreSums}
use Rattle.book.proofs.Entries.{text_ties, tie-bytes_eq}
use Rattle.book.proofs.Order.{both, sorted-mapped}
use Rattle.book.proofs.Places.{first, second, less}
use Rattle.report_cells.specs.Report.{Sums, seen}
use Rattle.balance_rows.specs.Kept.{KeptSums}
use Rattle.balance_rows.specs.Orders.{amount_cmp}
use Rattle.balance_rows.specs.Sums.{share, sum_of}
use Rattle.balance_rows.specs.Walks.{entry_cmp, left_cmp, right_cmp, walked}
use Rattle.balance_rows.proofs.Deciding.{Alike, Apart, Outcome, Splits, decided-is, text_cmp, values}
use Rattle.balance_rows.proofs.Holding.{share-itself}
use Rattle.balance_rows.proofs.KeptLaws.{left_here}

-- the symbols rise, and no value is zero
record IsClean (es : Sums) : Type 0 where
  rising : T (is_sorted text_cmp es)
  nonzero : AllByRecursion (λ (e : List ℕ × ℤ). e.1 ≢ pos 0) es

clean-rest : (e : List ℕ × ℤ) (es : Sums) → IsClean (e ∷ es) → IsClean es
clean-rest e es c = record { rising = second _ _ c.rising; nonzero = c.nonzero.1 }

-- ---- what stands below all symbols sums to nothing

no_share : (q : List ℕ) (e : List ℕ × ℤ) → text_cmp q e.0 ≡ Less → share q e ≡ pos 0
no_share q e lt = ap (λ (b : Bool). cond b e.1 (pos 0)) (sym (tie-bytes_eq q e.0) ∙ ap is_eq lt)

below_none : (q : List ℕ) (es : Sums) → T (below_all text_cmp q es) → sum_of q es ≡ pos 0
below_none q [] h = refl
below_none q (e ∷ es) h =
    ap (λ (z : ℤ). z +ℤ sum_of q es) (no_share q e (less _ (first _ _ h))) ∙ +ℤ_idl (sum_of q es) ∙ below_none q es (second _ _ h)

is_less : (r : Ordering) → r ≡ Less → T (is_lt r)
is_less r e = subst (λ (s : Ordering). T (is_lt s)) (sym e) tt

below_through : (p q : List ℕ) (es : Sums) → text_cmp p q ≡ Less → T (below_all text_cmp q es) → T (below_all text_cmp p es)
below_through p q [] lt h = tt
below_through p q (e ∷ es) lt h =
    both _ _ (is_less (text_cmp p e.0) (nat_list_cmp_total.trans p q e.0 lt (less _ (first _ _ h)))) (below_through p q es lt (second _ _ h))

pub own : (e : List ℕ × ℤ) (es : Sums) → T (below_all text_cmp e.0 es) → sum_of e.0 (e ∷ es) ≡ e.1
own e es h = ap (λ (z : ℤ). z +ℤ sum_of e.0 es) (share-itself e.0 e.1) ∙ ap (λ (z : ℤ). e.1 +ℤ z) (below_none e.0 es h) ∙ +ℤ_idr e.1

-- a symbol before the first one
earlier : (q : List ℕ) (e : List ℕ × ℤ) (es : Sums) → T (below_all text_cmp e.0 es) → text_cmp q e.0 ≡ Less → sum_of q (e ∷ es) ≡ pos 0
earlier q e es h lt = below_none q (e ∷ es) (both _ _ (is_less (text_cmp q e.0) lt) (below_through q e.0 es lt h))

-- ---- the first entries decide

on_left : (a : List ℕ × ℤ) (us b : Sums) → IsClean (a ∷ us) → T (below_all text_cmp a.0 b) → Apart (values (a ∷ us)) (values b) (left_cmp a)
on_left a us b clean h =
    let here : sum_of a.0 (a ∷ us) ≡ a.1 = own a us (first _ _ clean.rising) in
    let none : sum_of a.0 b ≡ pos 0 = below_none a.0 b h in
    record {
      symbol = a.0;
      splits = record {
        before = λ q lt. earlier q a us (first _ _ clean.rising) lt ∙ sym (below_none q b (below_through q a.0 b lt h));
        here = λ e. clean.nonzero.0 (sym here ∙ e ∙ none);
      };
      is = λ i. int_cmp (sym none i) (sym here i);
    }

on_right : (b : List ℕ × ℤ) (a vs : Sums) → IsClean (b ∷ vs) → T (below_all text_cmp b.0 a) → Apart (values a) (values (b ∷ vs)) (right_cmp b)
on_right b a vs clean h =
    let here : sum_of b.0 (b ∷ vs) ≡ b.1 = own b vs (first _ _ clean.rising) in
    let none : sum_of b.0 a ≡ pos 0 = below_none b.0 a h in
    record {
      symbol = b.0;
      splits = record {
        before = λ q lt. below_none q a (below_through q b.0 a lt h) ∙ sym (earlier q b vs (first _ _ clean.rising) lt);
        here = λ e. clean.nonzero.0 (sym here ∙ sym e ∙ none);
      };
      is = λ i. int_cmp (sym here i) (sym none i);
    }

-- one symbol with two values
by_value : (a b : List ℕ × ℤ) (us vs : Sums) → IsClean (a ∷ us) → IsClean (b ∷ vs) → a.0 ≡ b.0 → a.1 ≢ b.1 → Apart (values (a ∷ us)) (values (b ∷ vs)) (int_cmp b.1 a.1)
by_value a b us vs clean more same differ =
    let left : sum_of a.0 (a ∷ us) ≡ a.1 = own a us (first _ _ clean.rising) in
    let right : sum_of a.0 (b ∷ vs) ≡ b.1 = ap (λ (q : List ℕ). sum_of q (b ∷ vs)) same ∙ own b vs (first _ _ more.rising) in
    record {
      symbol = a.0;
      splits = record {
        before = λ q lt. earlier q a us (first _ _ clean.rising) lt ∙ sym (earlier q b vs (first _ _ more.rising) (sym (ap (text_cmp q) same) ∙ lt));
        here = λ e. differ (sym left ∙ e ∙ right);
      };
      is = λ i. int_cmp (sym right i) (sym left i);
    }

-- ---- entries that are the same

shifted : (c x y : ℤ) → int_cmp (c +ℤ x) (c +ℤ y) ≡ int_cmp x y
shifted c x y = by (int_cmp (c +ℤ x) (c +ℤ y)) (int_cmp x y) (int_ranked (c +ℤ x) (c +ℤ y) _ refl) (int_ranked x y _ refl)
  where
    by : (r s : Ordering) → MatchOrdering r ((c +ℤ x) <ℤ (c +ℤ y)) ((c +ℤ x) ≡ (c +ℤ y)) ((c +ℤ y) <ℤ (c +ℤ x)) → MatchOrdering s (x <ℤ y) (x ≡ y) (y <ℤ x) → r ≡ s
    by Less Less h k = refl
    by Less Equal h k = absurd (omega (arith, ints, h, k))
    by Less Greater h k = absurd (omega (arith, ints, h, k))
    by Equal Less h k = absurd (omega (arith, ints, h, k))
    by Equal Equal h k = refl
    by Equal Greater h k = absurd (omega (arith, ints, h, k))
    by Greater Less h k = absurd (omega (arith, ints, h, k))
    by Greater Equal h k = absurd (omega (arith, ints, h, k))
    by Greater Greater h k = refl

left_alone : (c x y : ℤ) → (c +ℤ x) ≡ (c +ℤ y) → x ≡ y
left_alone c x y e = omega (arith, ints, e)

by_rest : (a b : List ℕ × ℤ) (us vs : Sums) (r : Ordering) → a.0 ≡ b.0 → a.1 ≡ b.1 → Outcome (values us) (values vs) r → Outcome (values (a ∷ us)) (values (b ∷ vs)) r
by_rest a b us vs r symbol value o = by o
  where
    shares : (q : List ℕ) → share q a ≡ share q b
    shares q = λ i. share q (symbol i, value i)

    by : Outcome (values us) (values vs) r → Outcome (values (a ∷ us)) (values (b ∷ vs)) r
    by (inl same) = inl (record { each = λ q. (λ i. shares q i +ℤ same.each q i); is = same.is })
    by (inr apart) = inr (record {
      symbol = apart.symbol;
      splits = record {
        before = λ q lt. (λ i. shares q i +ℤ apart.splits.before q lt i);
        here = λ e. apart.splits.here (left_alone (share apart.symbol a) (sum_of apart.symbol us) (sum_of apart.symbol vs)
            (e ∙ ap (λ (z : ℤ). z +ℤ sum_of apart.symbol vs) (sym (shares apart.symbol))));
      };
      is = apart.is ∙ sym (shifted (share apart.symbol b) (sum_of apart.symbol vs) (sum_of apart.symbol us))
          ∙ ap (λ (z : ℤ). int_cmp (share apart.symbol b +ℤ sum_of apart.symbol vs) (z +ℤ sum_of apart.symbol us)) (sym (shares apart.symbol));
    })

-- ---- the whole walk

not_same : (a b : ℤ) (r : Ordering) → int_cmp b a ≡ r → (r ≡ Equal → ⊥) → a ≢ b
not_same a b r e other same = other (sym e ∙ ap (int_cmp b) same ∙ tied_itself int_cmp_total b)

below_head : (q : List ℕ) (e : List ℕ × ℤ) (es : Sums) → text_cmp q e.0 ≡ Less → T (below_all text_cmp e.0 es) → T (below_all text_cmp q (e ∷ es))
below_head q e es lt h = both _ _ (is_less (text_cmp q e.0) lt) (below_through q e.0 es lt h)

walk-outcome : (a b : Sums) → IsClean a → IsClean b → Outcome (values a) (values b) (walked a b)
walk-outcome [] [] c d = inl (record { each = λ q. refl; is = refl })
walk-outcome (a ∷ us) [] c d = inr (on_left a us [] c tt)
walk-outcome [] (b ∷ vs) c d = inr (on_right b [] vs d tt)
walk-outcome (a ∷ us) (b ∷ vs) c d =
    let rest : Outcome (values us) (values vs) (walked us vs) = walk-outcome us vs (clean-rest a us c) (clean-rest b vs d) in
    elim (text_cmp a.0 b.0) as (λ r. text_cmp a.0 b.0 ≡ r → Outcome (values (a ∷ us)) (values (b ∷ vs)) (ordering_then (match_ordering r (left_cmp a) (int_cmp b.1 a.1) (right_cmp b)) (walked us vs))) [
      | Less ↦ λ e. decided_by (left_cmp a) (on_left a us (b ∷ vs) c (below_head a.0 b vs e (first _ _ d.rising)))
      | Equal ↦ λ e. elim (int_cmp b.1 a.1) as (λ s. int_cmp b.1 a.1 ≡ s → Outcome (values (a ∷ us)) (values (b ∷ vs)) (ordering_then s (walked us vs))) [
        | Less ↦ λ f. inr (subst (Apart (values (a ∷ us)) (values (b ∷ vs))) f (by_value a b us vs c d (text_ties a.0 b.0 e) (not_same a.1 b.1 Less f (λ no. cc no))))
        | Equal ↦ λ f. by_rest a b us vs (walked us vs) (text_ties a.0 b.0 e) (sym (int_cmp-IsAntisymmetric b.1 a.1 f)) rest
        | Greater ↦ λ f. inr (subst (Apart (values (a ∷ us)) (values (b ∷ vs))) f (by_value a b us vs c d (text_ties a.0 b.0 e) (not_same a.1 b.1 Greater f (λ no. cc no))))
      ] refl
      | Greater ↦ λ e. decided_by (right_cmp b) (on_right b (a ∷ us) vs d (below_head b.0 a us (nat_list_cmp_total.antisymm b.0 a.0 ∙ ap ordering_reverse e) (first _ _ c.rising)))
    ] refl
  where
    -- what sets two amounts apart is never a tie
    decided_by : (r : Ordering) → Apart (values (a ∷ us)) (values (b ∷ vs)) r → Outcome (values (a ∷ us)) (values (b ∷ vs)) (ordering_then r (walked us vs))
    decided_by Less x = inr x
    decided_by Equal x = absurd (x.splits.here (sym (int_cmp-IsAntisymmetric _ _ (sym x.is))))
    decided_by Greater x = inr x

nonzero-seen : (es : KeptSums) → AllByRecursion (λ (e : List ℕ × Decimal). e.1.mantissa ≢ pos 0) es → AllByRecursion (λ (e : List ℕ × ℤ). e.1 ≢ pos 0) (seen es)
nonzero-seen [] h = tt
nonzero-seen (e ∷ es) h = (
  λ none. h.0 (zero-from_units e.1.mantissa (10 ^ (36 - e.1.places)) (pow_ten_positive (36 - e.1.places)) none),
  nonzero-seen es h.1,
)

clean-seen : (es : KeptSums) → AreSums es → IsClean (seen es)
clean-seen es h = record { rising = sorted-mapped text_cmp units_of es h.rising; nonzero = nonzero-seen es h.nonzero }

pub walked_is : (a b : KeptSums) → AreSums a → AreSums b → walked (seen a) (seen b) ≡ amount_cmp (seen a) (seen b)
walked_is a b h k = decided-is (seen a) (seen b) (walked (seen a) (seen b)) (walk-outcome (seen a) (seen b) (clean-seen a h) (clean-seen b k))

-- ---- the walk by places

-- what a kept entry says
abbrev pub said : List ℕ × Decimal → List ℕ × ℤ
said e = (e.0, units_of e.1)

-- the walk from a place on
abbrev pub walked_from : ℕ → KeptSums → KeptSums → Ordering
walked_from i a b = walked (seen (drop i a)) (seen (drop i b))

module _ (a b : KeptSums) (i : ℕ) where
  module _ (x y : List ℕ × Decimal) (in_a : i < length a) (in_b : i < length b) (at_a : x ≡ get_or a i x) (at_b : y ≡ get_or b i y) where
    pub walked_here : walked_from i a b ≡ ordering_then (entry_cmp (said x) (said y)) (walked_from (i + 1) a b)
    walked_here = λ j. walked (seen (left_here a i x in_a at_a j)) (seen (left_here b i y in_b at_b j))

    pub walked_on : entry_cmp (said x) (said y) ≡ Equal → walked_from i a b ≡ walked_from (i + 1) a b
    walked_on e = walked_here ∙ ap (λ (r : Ordering). ordering_then r (walked_from (i + 1) a b)) e

    pub walked_out : (r : Ordering) → entry_cmp (said x) (said y) ≡ r → r ≢ Equal → walked_from i a b ≡ r
    walked_out r e other = walked_here ∙ ap (λ (s : Ordering). ordering_then s (walked_from (i + 1) a b)) e ∙ stays r other
      where
        stays : (r : Ordering) → r ≢ Equal → ordering_then r (walked_from (i + 1) a b) ≡ r
        stays Less h = refl
        stays Equal h = absurd (h refl)
        stays Greater h = refl

  -- one ends first
  pub walked_left : (x : List ℕ × Decimal) → i < length a → length b ≤ i → x ≡ get_or a i x → walked_from i a b ≡ left_cmp (said x)
  walked_left x in_a past at_a = λ j. walked (seen (left_here a i x in_a at_a j)) (seen (drop_all i b past j))

  pub walked_right : (y : List ℕ × Decimal) → length a ≤ i → i < length b → y ≡ get_or b i y → walked_from i a b ≡ right_cmp (said y)
  walked_right y past in_b at_b = λ j. walked (seen (drop_all i a past j)) (seen (left_here b i y in_b at_b j))

  pub walked_end : length a ≤ i → length b ≤ i → walked_from i a b ≡ Equal
  walked_end p q = λ j. walked (seen (drop_all i a p j)) (seen (drop_all i b q j))
