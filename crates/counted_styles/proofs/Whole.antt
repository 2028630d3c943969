-- The styles of the items that stand, with one more and without one.
use Rattle.std.proofs.Common.{◌≡◌, ℕ, zero, suc, ◌+◌, ◌<◌, ◌≤◌, ◌==◌, Bool, true, false, ◌&&◌, cond, not, List, [], ◌∷◌, take, length, get_or, length-take, Option, None, Some, refl, sym, ap, subst, ◌∙◌, arith}
use Rattle.std.specs.Prelude.{nat_lt}
use Rattle.std.proofs.lemmas.Bool.{false≢true}
use Rattle.std.proofs.lemmas.Bool.Decides.{nat_tests}
use Rattle.std.proofs.lemmas.List.{take_all}
use Rattle.book.specs.declared.item.Item.{Item}
use Rattle.book.specs.declared.item.Placed.{Placed}
use Rattle.book.specs.Standing.{Numbered, all_greater, is_free, places_from, with_number, without_number}
use Rattle.book.specs.Style.{commodity_styles, default_styles, first_class, second_class}
use Rattle.book.proofs.Kept.{Rise-without}
use Rattle.counted_styles.specs.declared.mark.Mark.{Mark}
use Rattle.counted_styles.specs.declared.styles.CountedStyles.{CountedStyles}
use Rattle.book.specs.declared.style.Style.{Style}
use Rattle.counted_styles.specs.Marks.{count_at, mark_at, style_at}
use Rattle.counted_styles.specs.Kept.{AreOf, HasAdded, HasRemoved, IsKept, Stands}
use Rattle.counted_styles.proofs.Standing.{kept-with, kept-without, rise-with}

pub are-with : (n : ℕ) (i : Item) (es : Numbered Item) (old new : CountedStyles) → HasAdded n i old new → AreOf es old → is_free n es ≡ true → AreOf (with_number n i es) new
are-with n i es old new h are free = record {
  rise = rise-with n i es are.rise free;
  commodities = kept-with commodity_styles n i es old.commodities.heads old.commodities.counts new.commodities.heads new.commodities.counts h.commodities.heads h.commodities.counts free are.commodities;
  defaults = kept-with default_styles n i es old.defaults.heads old.defaults.counts new.defaults.heads new.defaults.counts h.defaults.heads h.defaults.counts free are.defaults;
  first = kept-with first_class n i es old.first.heads old.first.counts new.first.heads new.first.counts h.first.heads h.first.counts free are.first;
  second = kept-with second_class n i es old.second.heads old.second.counts new.second.heads new.second.counts h.second.heads h.second.counts free are.second;
}

pub are-without : (n : ℕ) (i : Item) (es : Numbered Item) (old new : CountedStyles) → HasRemoved n i old new → AreOf es old → Stands n i es → AreOf (without_number n es) new
are-without n i es old new h are stands = record {
  rise = Rise-without n es are.rise;
  commodities = kept-without commodity_styles n i es old.commodities.heads old.commodities.counts new.commodities.heads new.commodities.counts h.commodities.heads h.commodities.counts stands are.commodities;
  defaults = kept-without default_styles n i es old.defaults.heads old.defaults.counts new.defaults.heads new.defaults.counts h.defaults.heads h.defaults.counts stands are.defaults;
  first = kept-without first_class n i es old.first.heads old.first.counts new.first.heads new.first.counts h.first.heads h.first.counts stands are.first;
  second = kept-without second_class n i es old.second.heads old.second.counts new.second.heads new.second.counts h.second.heads h.second.counts stands are.second;
}

none-kept : (saying : Item → List (List ℕ × Style)) (heads counts : List Mark) → heads ≡ [] → counts ≡ [] → IsKept saying [] heads counts
none-kept saying heads counts h c = record {
  heads = λ q n. ap (style_at q n) h;
  counts = λ q d. ap (count_at q d) c;
  some = λ q d m e. absurd (differs m (sym (ap (mark_at q d) c) ∙ e));
  decimals = λ q d m e. absurd (differs m (sym (ap (mark_at q d) c) ∙ e));
}
  where
    differs : (m : Mark) → ◌≡◌ {A = Option Mark} None (Some m) → ⊥
    differs m e = cc

pub are-none : (styles : CountedStyles) → styles.commodities.heads ≡ [] → styles.commodities.counts ≡ [] → styles.defaults.heads ≡ [] → styles.defaults.counts ≡ [] → styles.first.heads ≡ [] → styles.first.counts ≡ [] → styles.second.heads ≡ [] → styles.second.counts ≡ [] → AreOf [] styles
are-none styles a b c d e f g h = record {
  rise = tt;
  commodities = none-kept commodity_styles styles.commodities.heads styles.commodities.counts a b;
  defaults = none-kept default_styles styles.defaults.heads styles.defaults.counts c d;
  first = none-kept first_class styles.first.heads styles.first.counts e f;
  second = none-kept second_class styles.second.heads styles.second.counts g h;
}

-- ---- the items of a text

-- past one that isn't greater
pub with-past : (n : ℕ) (x : Item) (m : ℕ × Item) (ms : Numbered Item) → nat_lt n m.0 ≡ false → with_number n x (m ∷ ms) ≡ m ∷ with_number n x ms
with-past n x m ms low = ap (λ (b : Bool). cond (b && all_greater n ms) ((n, x) ∷ m ∷ ms) (m ∷ with_number n x ms)) low

places-more : (m i n : ℕ) (items : List Placed) (d : Placed) → n ≡ m + i → i < length items → with_number n (get_or items i d).item (places_from m (take i items)) ≡ places_from m (take (suc i) items)
places-more m i n [] d is lt = absurd (omega arith)
places-more m zero n (p ∷ items) d is lt = let same : n ≡ m = omega arith in ap (λ (k : ℕ). (k, p.item) ∷ []) same
places-more m (suc i) n (p ∷ items) d is lt =
    with-past n (get_or items i d).item (m, p.item) (places_from (suc m) (take i items)) (not-greater n m (omega arith))
    ∙ ap (λ (t : Numbered Item). (m, p.item) ∷ t) (places-more (suc m) i n items d (omega arith) (omega arith))
  where
    not-greater : (n m : ℕ) → m ≤ n → nat_lt n m ≡ false
    not-greater n m le = grind (arith, nat_tests)

pub free-places : (m n : ℕ) (items : List Placed) → m + length items ≤ n → is_free n (places_from m items) ≡ true
free-places m n [] le = refl
free-places m n (p ∷ items) le = both (not (m == n)) _ (apart m n (omega arith)) (free-places (suc m) n items (omega arith))
  where
    both : (a b : Bool) → a ≡ true → b ≡ true → (a && b) ≡ true
    both true b p q = q
    both false b p q = absurd (false≢true p)

    apart : (a b : ℕ) → a < b → not (a == b) ≡ true
    apart a b lt = ap not (differ a b lt)
      where
        differ : (a b : ℕ) → a < b → (a == b) ≡ false
        differ a b lt = grind (arith, nat_tests)

pub are-more : (items : List Placed) (i : ℕ) (placed : Placed) (old new : CountedStyles) → i < length items → placed ≡ get_or items i placed → HasAdded i placed.item old new → AreOf (places_from 0 (take i items)) old → AreOf (places_from 0 (take (i + 1) items)) new
are-more items i placed old new lt e h are =
    let one : suc i ≡ i + 1 = omega arith in
    let same : with_number i placed.item (places_from 0 (take i items)) ≡ places_from 0 (take (suc i) items) =
    ap (λ (x : Placed). with_number i x.item (places_from 0 (take i items))) e ∙ places-more 0 i i items placed (omega arith) lt in
    let P : Numbered Item → Type 0 = λ es. AreOf es new in
    subst (λ (k : ℕ). AreOf (places_from 0 (take k items)) new) one
    (subst P same (are-with i placed.item (places_from 0 (take i items)) old new h are (free-places 0 i (take i items) (omega (arith, length-take i items)))))

pub are-all : (items : List Placed) (i : ℕ) (styles : CountedStyles) → length items ≤ i → AreOf (places_from 0 (take i items)) styles → AreOf (places_from 0 items) styles
are-all items i styles past are = subst (λ (xs : List Placed). AreOf (places_from 0 xs) styles) (take_all i items past) are
