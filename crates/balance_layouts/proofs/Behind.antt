-- A sum that is put behind those of lesser symbols.
use Rattle.std.proofs.Common.{◌≡◌, ℕ, zero, suc, ◌+◌, ◌<◌, Bool, true, false, cond, T, List, [], ◌∷◌, ◌++◌, length, get_or, take, Option, Some, None, refl, sym, ap, ◌∙◌, append-nil, arith}
use Rattle.std.specs.Cmp.{IsTotalOrder}
use Rattle.std.specs.Cmp.Lexicographic.{slice_cmp, nat_list_cmp_total}
use Rattle.std.specs.FinMap.Entries.{below_all, by_order, put}
use Rattle.std.specs.List.{flat_map}
use Rattle.std.specs.Ordering.{nat_cmp, is_eq, ordering_reverse}
use Rattle.std.specs.declared.cmp.Ordering.{Ordering}
use Rattle.std.specs.declared.cmp.Ordering.TheVariants.{Less, Greater}
use Rattle.hl_num.specs.Decimal.{Decimal}
use Rattle.book.specs.Entries.{IsRising, held}
use Rattle.book.specs.Mixed.{added, is_zero, settled, sum_with}
use Rattle.book.specs.declared.style.Style.{Style}
use Rattle.book.proofs.Added.{without-none}
use Rattle.book.proofs.Places.{first, second, less}
use Rattle.balance_rows.specs.Kept.{KeptSums}
use Rattle.balance_layouts.specs.KeptAverages.{StandBefore, entry_average, kept_average, shown_average, unless_zero}

greater_by : (o : IsTotalOrder (slice_cmp nat_cmp)) (a k : List ℕ) → slice_cmp nat_cmp a k ≡ Less → slice_cmp nat_cmp k a ≡ Greater
greater_by o a k h = o.antisymm k a ∙ ap ordering_reverse h

greater : (a k : List ℕ) → slice_cmp nat_cmp a k ≡ Less → slice_cmp nat_cmp k a ≡ Greater
greater a k h = greater_by nat_list_cmp_total a k h

pub none_held : (k : List ℕ) (es : KeptSums) → StandBefore k es → held k es ≡ None
none_held k [] h = refl
none_held k (e ∷ es) h =
    ap (λ (r : Ordering). cond (is_eq r) (Some e.1) (held k es)) (greater e.0 k h.0) ∙ none_held k es h.1

put_behind : (k : List ℕ) (v : Decimal) (es : KeptSums) → StandBefore k es → put (slice_cmp nat_cmp) k v es ≡ es ++ (k, v) ∷ []
put_behind k v [] h = refl
put_behind k v (e ∷ es) h =
    ap (λ (r : Ordering). by_order r ((k, v) ∷ e ∷ es) ((e.0, v) ∷ es) (e ∷ put (slice_cmp nat_cmp) k v es)) (greater e.0 k h.0)
    ∙ ap (λ (more : KeptSums). e ∷ more) (put_behind k v es h.1)

settled_behind : (b : Bool) (k : List ℕ) (v : Decimal) (es : KeptSums) → StandBefore k es → settled b k v es ≡ es ++ cond b [] ((k, v) ∷ [])
settled_behind true k v es h = without-none es k (none_held k es h) ∙ sym (append-nil es)
settled_behind false k v es h = put_behind k v es h

pub added_behind : (k : List ℕ) (v : Decimal) (es : KeptSums) → StandBefore k es → added k v es ≡ es ++ unless_zero k v
added_behind k v es h =
    ap (λ (o : Option Decimal). settled (is_zero (sum_with o v)) k (sum_with o v) es) (none_held k es h)
    ∙ settled_behind (is_zero v) k v es h

-- ---- the entries before one stand before it

below_at : (k : List ℕ) (es : KeptSums) (i : ℕ) (d : List ℕ × Decimal) → T (below_all (slice_cmp nat_cmp) k es) → i < length es → slice_cmp nat_cmp k (get_or es i d).0 ≡ Less
below_at k [] i d h lt = absurd (omega arith)
below_at k (e ∷ es) zero d h lt = less _ (first _ _ h)
below_at k (e ∷ es) (suc i) d h lt = below_at k es i d (second _ _ h) (omega arith)

stand_before : (es : KeptSums) (i : ℕ) (d : List ℕ × Decimal) → IsRising es → i < length es → StandBefore (get_or es i d).0 (take i es)
stand_before [] i d h lt = absurd (omega arith)
stand_before (e ∷ es) zero d h lt = tt
stand_before (e ∷ es) (suc i) d h lt = (below_at e.0 es i d (first _ _ h) (omega arith), stand_before es i d (second _ _ h) (omega arith))

joined : (k : List ℕ) (xs ys : KeptSums) → StandBefore k xs → StandBefore k ys → StandBefore k (xs ++ ys)
joined k [] ys f g = g
joined k (x ∷ xs) ys f g = (f.0, joined k xs ys f.1 g)

unless_before : (b : Bool) (k s : List ℕ) (v : Decimal) → slice_cmp nat_cmp s k ≡ Less → StandBefore k (cond b [] ((s, v) ∷ []))
unless_before true k s v h = tt
unless_before false k s v h = (h, tt)

shown_before : (k s : List ℕ) (o : Option Decimal) → slice_cmp nat_cmp s k ≡ Less → StandBefore k (shown_average s o)
shown_before k s None h = tt
shown_before k s (Some v) h = unless_before (is_zero v) k s v h

kept_before : (columns : ℕ) (style : List ℕ → Style) (k : List ℕ) (es : KeptSums) → StandBefore k es → StandBefore k (flat_map (kept_average columns style) es)
kept_before columns style k [] h = tt
kept_before columns style k (e ∷ es) h =
    joined k (kept_average columns style e) (flat_map (kept_average columns style) es) (shown_before k e.0 (entry_average columns style e) h.0) (kept_before columns style k es h.1)

-- the averages of the entries before one stand before it
pub averages_before : (columns : ℕ) (style : List ℕ → Style) (es : KeptSums) (i : ℕ) (d : List ℕ × Decimal) → IsRising es → i < length es
    → StandBefore (get_or es i d).0 (flat_map (kept_average columns style) (take i es))
averages_before columns style es i d rising within =
    kept_before columns style (get_or es i d).0 (take i es) (stand_before es i d rising within)
