-- A value that is put behind those of lesser symbols.
use Rattle.std.proofs.Common.{◌≡◌, ◌≢◌, ℕ, ℤ, zero, suc, pos, negsuc, ◌+◌, ◌<◌, ◌==◌, Bool, true, false, cond, T, List, [], ◌∷◌, ◌++◌, length, get_or, take, map, Option, Some, None, neg_ℤ, unsigned_abs, refl, sym, ap, subst, ◌∙◌, eqb-true, ne_eqb, arith}
use Rattle.std.specs.Cmp.{IsTotalOrder}
use Rattle.std.specs.Cmp.Lexicographic.{slice_cmp, nat_list_cmp_total}
use Rattle.std.specs.FinMap.Entries.{below_all, by_order, put}
use Rattle.std.specs.List.{AllByRecursion}
use Rattle.std.specs.Ordering.{nat_cmp, is_eq, ordering_reverse}
use Rattle.std.specs.declared.cmp.Ordering.{Ordering}
use Rattle.std.specs.declared.cmp.Ordering.TheVariants.{Less, Equal, Greater}
use Rattle.std.proofs.lemmas.List.{take_more}
use Rattle.hl_num.specs.Decimal.{Decimal, negated}
use Rattle.book.specs.Entries.{AreSums, IsRising, held}
use Rattle.book.specs.Mixed.{added, is_zero, settled, sum_with}
use Rattle.book.proofs.Places.{first, second, less}
use Rattle.balance_rows.specs.Kept.{KeptSums}
use Rattle.balance_layouts.specs.KeptAverages.{StandBefore}
use Rattle.statements.specs.Turned.{kept_shown, signed}

greater_by : (o : IsTotalOrder (slice_cmp nat_cmp)) (a k : List ℕ) → slice_cmp nat_cmp a k ≡ Less → slice_cmp nat_cmp k a ≡ Greater
greater_by o a k h = o.antisymm k a ∙ ap ordering_reverse h

greater : (a k : List ℕ) → slice_cmp nat_cmp a k ≡ Less → slice_cmp nat_cmp k a ≡ Greater
greater a k h = greater_by nat_list_cmp_total a k h

pub none_held : (k : List ℕ) (es : KeptSums) → StandBefore k es → held k es ≡ None
none_held k [] h = refl
none_held k (e ∷ es) h =
    ap (λ (r : Ordering). cond (is_eq r) (Some e.1) (held k es)) (greater e.0 k h.0) ∙ none_held k es h.1

pub never_held : (k : List ℕ) (es : KeptSums) (a : Decimal) → StandBefore k es → held k es ≡ Some a → ⊥
never_held k es a h some = let no : None ≡ Some a = sym (none_held k es h) ∙ some in cc no

put_behind : (k : List ℕ) (v : Decimal) (es : KeptSums) → StandBefore k es → put (slice_cmp nat_cmp) k v es ≡ es ++ (k, v) ∷ []
put_behind k v [] h = refl
put_behind k v (e ∷ es) h =
    ap (λ (r : Ordering). by_order r ((k, v) ∷ e ∷ es) ((e.0, v) ∷ es) (e ∷ put (slice_cmp nat_cmp) k v es)) (greater e.0 k h.0)
    ∙ ap (λ (more : KeptSums). e ∷ more) (put_behind k v es h.1)

abs-some : (z : ℤ) → z ≢ pos 0 → (unsigned_abs z == 0) ≡ false
abs-some (pos zero) some = absurd (some refl)
abs-some (pos (suc n)) some = ne_eqb (suc n) 0 (omega arith)
abs-some (negsuc n) some = ne_eqb (suc n) 0 (omega arith)

pub added_last : (k : List ℕ) (v : Decimal) (es : KeptSums) → StandBefore k es → v.mantissa ≢ pos 0 → added k v es ≡ es ++ (k, v) ∷ []
added_last k v es h some =
    ap (λ (o : Option Decimal). settled (is_zero (sum_with o v)) k (sum_with o v) es) (none_held k es h)
    ∙ ap (λ (b : Bool). settled b k v es) (abs-some v.mantissa some)
    ∙ put_behind k v es h

-- ---- the entries before one stand before it

below_at : (k : List ℕ) (es : KeptSums) (i : ℕ) (d : List ℕ × Decimal) → T (below_all (slice_cmp nat_cmp) k es) → i < length es → slice_cmp nat_cmp k (get_or es i d).0 ≡ Less
below_at k [] i d h lt = absurd (omega arith)
below_at k (e ∷ es) zero d h lt = less _ (first _ _ h)
below_at k (e ∷ es) (suc i) d h lt = below_at k es i d (second _ _ h) (omega arith)

pub shown_before : (turn : Bool) (es : KeptSums) (i : ℕ) (d : List ℕ × Decimal) → IsRising es → i < length es → StandBefore (get_or es i d).0 (kept_shown turn (take i es))
shown_before turn [] i d h lt = absurd (omega arith)
shown_before turn (e ∷ es) zero d h lt = tt
shown_before turn (e ∷ es) (suc i) d h lt = (below_at e.0 es i d (first _ _ h) (omega arith), shown_before turn es i d (second _ _ h) (omega arith))

-- none of them is zero
neg-some : (z : ℤ) → z ≢ pos 0 → neg_ℤ z ≢ pos 0
neg-some (pos zero) some = λ e. some refl
neg-some (pos (suc n)) some = λ e. absurd (omega (arith, ap unsigned_abs e))
neg-some (negsuc n) some = λ e. absurd (omega (arith, ap unsigned_abs e))

pub signed-some : (turn : Bool) (es : KeptSums) (i : ℕ) (d : List ℕ × Decimal) → AllByRecursion (λ (entry : List ℕ × Decimal). entry.1.mantissa ≢ pos 0) es → i < length es
    → (signed turn (get_or es i d).1).mantissa ≢ pos 0
signed-some turn [] i d h lt = absurd (omega arith)
signed-some true (e ∷ es) zero d h lt = neg-some e.1.mantissa h.0
signed-some false (e ∷ es) zero d h lt = h.0
signed-some turn (e ∷ es) (suc i) d h lt = signed-some turn es i d h.1 (omega arith)

-- the entries before one, as they are shown
pub item_before : (turn : Bool) (cell es copy : KeptSums) (i : ℕ) (item : List ℕ × Decimal) → AreSums cell → es ≡ cell → i < length es → item ≡ get_or es i item
    → copy ≡ kept_shown turn (take i es) → StandBefore item.0 copy
item_before turn cell es copy i item sums lent within read is =
    let rising : IsRising es = subst (λ (t : KeptSums). IsRising t) (sym lent) sums.rising in
    subst (λ (t : KeptSums). StandBefore item.0 t) (sym is)
    (subst (λ (e : List ℕ × Decimal). StandBefore e.0 (kept_shown turn (take i es))) (sym read) (shown_before turn es i item rising within))
