-- Gaps that stand beside gaps are one with them, and say nothing; others are items by themselves.
use Rattle.std.proofs.Common.{◌≡◌, ℕ, zero, suc, ◌<◌, Bool, true, false, cond, List, [], ◌∷◌, ◌++◌, length, take, drop, map, set, Option, Some, None, refl, sym, ap, subst, ◌∙◌, arith, append_assoc}
use Rattle.std.specs.Prelude.{IfSome}
use Rattle.std.specs.Option.{option_to_list}
use Rattle.book.specs.declared.item.Item.TheVariants as item
use Rattle.book.specs.declared.item.Placed.{Placed}
use Rattle.counted_styles.specs.Texts.{IsOf}
use Rattle.counted_styles.specs.declared.text.TextStyles.{TextStyles}
use Rattle.moved_lines.specs.Moving.{moved_placed}
use Rattle.moved_lines.specs.declared.shift.Offset.{Offset}
use Rattle.text_ends.specs.Ends.{last_of}
use Rattle.changed_texts.specs.Meeting.{meeting_items, with_item}
use Rattle.changed_texts.specs.OneEntry.{CanJoin, IsGapBeside, IsMet, beside, first_of, is_gap_item, items_met, more_items}
use Rattle.changed_texts.specs.Replacing.{is_gap}
use Rattle.changed_texts.specs.declared.met.Met.{Met}
use Rattle.changed_texts.proofs.Joints.{final, final_is, meets_next, with_apart, with_before, with_gap}
use Rattle.changed_texts.proofs.Silent.{entry_no_gap, round_meets}
use Rattle.kept_texts.proofs.Lineless.{AreAlike, alike_kept, all_moved, all_themselves, both_alike, itself, lines_alike, say_same}

-- ---- a gap behind others

-- the items up to a gap that goes into the last of them, which is one, say what they said
before_alike : (xs : List Placed) (g : Placed) (ys zs : List Placed) → is_gap g.piece.kind ≡ true → AreAlike ys zs → AreAlike (xs ++ (beside (Some g) (final xs) ++ ys)) (meeting_items xs (g ∷ zs))
before_alike [] g ys zs gap h = (itself g.item, h)
before_alike (x ∷ []) g ys zs gap h = by (is_gap x.piece.kind) refl
  where
    by : (t : Bool) → is_gap x.piece.kind ≡ t → AreAlike (x ∷ (cond {A = List Placed} t [] (g ∷ []) ++ ys)) (with_item x (g ∷ zs))
    by true e = subst (AreAlike (x ∷ ys)) (sym (with_gap x g zs e gap)) (itself x.item, h)
    by false e = subst (AreAlike (x ∷ g ∷ ys)) (sym (with_apart x g zs e)) (itself x.item, (itself g.item, h))
before_alike (x ∷ w ∷ xs) g ys zs gap h = (itself x.item, before_alike (w ∷ xs) g ys zs gap h)

gap_before_alike : (xs : List Placed) (gap : Option Placed) (ys zs : List Placed) → IfSome gap (λ g. is_gap g.piece.kind ≡ true) → is_gap_item (first_of zs) ≡ false → AreAlike ys zs
    → AreAlike (xs ++ (beside gap (final xs) ++ ys)) (meeting_items xs (option_to_list gap ++ zs))
gap_before_alike xs (Some g) ys zs kind first h = before_alike xs g ys zs kind h
gap_before_alike xs None ys zs kind first h = by (is_gap_item (final xs))
  where
    by : (t : Bool) → AreAlike (xs ++ (cond {A = List Placed} t [] [] ++ ys)) (meeting_items xs zs)
    by true = subst (AreAlike (xs ++ ys)) (sym (meets_next xs zs first)) (both_alike xs xs ys zs (all_themselves xs) h)
    by false = subst (AreAlike (xs ++ ys)) (sym (meets_next xs zs first)) (both_alike xs xs ys zs (all_themselves xs) h)

-- ---- a gap before others

moved_next : (by : Offset) (g q : Placed) (qs : List Placed) → (t : Bool) → is_gap q.piece.kind ≡ t → is_gap g.piece.kind ≡ true → g.item ≡ item.Gap → CanJoin g q
    → AreAlike (cond {A = List Placed} t [] (g ∷ []) ++ q ∷ qs) (with_item g (map (moved_placed by) (q ∷ qs)))
moved_next by g q qs true e kind gap can =
    subst (AreAlike (q ∷ qs)) (sym (with_gap g (moved_placed by q) (map (moved_placed by) qs) kind e)) (say_same q.item g.item (can.says e ∙ sym gap), all_moved by qs)
moved_next by g q qs false e kind gap can =
    subst (AreAlike (g ∷ q ∷ qs)) (sym (with_before g (moved_placed by q) (map (moved_placed by) qs) e)) (itself g.item, (lines_alike by.lines q.item, all_moved by qs))

gap_behind_alike : (by : Offset) (gap : Option Placed) (rest : List Placed) → IsGapBeside gap (first_of rest) → AreAlike (beside gap (first_of rest) ++ rest) (meeting_items (option_to_list gap) (map (moved_placed by) rest))
gap_behind_alike by None rest h = alone (is_gap_item (first_of rest))
  where
    alone : (t : Bool) → AreAlike (cond {A = List Placed} t [] [] ++ rest) (map (moved_placed by) rest)
    alone true = all_moved by rest
    alone false = all_moved by rest
gap_behind_alike by (Some g) [] h = (itself g.item, tt)
gap_behind_alike by (Some g) (q ∷ qs) h = moved_next by g q qs (is_gap q.piece.kind) refl h.0 h.1 h.2

-- ---- all of it

gap_kinds : (gap other : Option Placed) → IsGapBeside gap other → IfSome gap (λ g. is_gap g.piece.kind ≡ true)
gap_kinds None other h = tt
gap_kinds (Some g) other h = h.0

-- The items before an entry, the gap before it where it stands apart, the entry, the gap behind it where it stands apart, and
-- the items behind it say what all say together.
pub met_alike : (n : ℕ) (items : List Placed) (met : Met) → IsMet n items met
    → AreAlike (take n items ++ (beside met.before (last_of (take n items)) ++ met.placed ∷ (beside met.behind (first_of (drop (suc n) items)) ++ drop (suc n) items))) (items_met n items met)
met_alike n items met m =
    let front = take n items in
    let rest = drop (suc n) items in
    let mid = beside met.behind (first_of rest) ++ rest in
    let behind = meeting_items (option_to_list met.behind) (map (moved_placed met.by) rest) in
    let said = gap_before_alike front met.before (met.placed ∷ mid) (met.placed ∷ behind) (gap_kinds met.before (last_of front) m.before) (entry_no_gap met.placed.piece.kind m.entry)
    (itself met.placed.item, gap_behind_alike met.by met.behind rest m.behind) in
    subst (λ (o : Option Placed). AreAlike (front ++ (beside met.before o ++ met.placed ∷ mid)) (items_met n items met)) (sym (final_is front))
    (subst (AreAlike (front ++ (beside met.before (final front) ++ met.placed ∷ mid))) (sym (ap (meeting_items front) (round_meets met.before met.placed met.behind (map (moved_placed met.by) rest) m.entry))) said)

set_split : (n : ℕ) (items : List Placed) (placed : Placed) → n < length items → set items n placed ≡ take n items ++ placed ∷ drop (suc n) items
set_split n [] placed h = absurd (omega (arith, h))
set_split zero (x ∷ xs) placed h = refl
set_split (suc n) (x ∷ xs) placed h = ap (λ (ys : List Placed). x ∷ ys) (set_split n xs placed (omega (arith, h)))

none_of : (xs : List Placed) → length xs ≡ 0 → xs ≡ []
none_of [] h = refl
none_of (x ∷ xs) h = absurd (omega (arith, h))

-- where there are no more items, the styles are those of the items of which one is exchanged
pub no_more_kept : (n : ℕ) (items : List Placed) (met : Met) (kept : TextStyles) → n < length items → IsMet n items met → more_items n items met ≡ 0 → IsOf (set items n met.placed) kept → IsOf (items_met n items met) kept
no_more_kept n items met kept few m none h =
    let front = take n items in
    let rest = drop (suc n) items in
    let before : beside met.before (last_of front) ≡ [] = none_of (beside met.before (last_of front)) (omega (arith, none)) in
    let behind : beside met.behind (first_of rest) ≡ [] = none_of (beside met.behind (first_of rest)) (omega (arith, none)) in
    let same : set items n met.placed ≡ front ++ (beside met.before (last_of front) ++ met.placed ∷ (beside met.behind (first_of rest) ++ rest)) =
    set_split n items met.placed few ∙ (λ i. front ++ (sym before i ++ met.placed ∷ (sym behind i ++ rest))) in
    alike_kept (front ++ (beside met.before (last_of front) ++ met.placed ∷ (beside met.behind (first_of rest) ++ rest))) (items_met n items met) kept (met_alike n items met m)
    (subst (λ (xs : List Placed). IsOf xs kept) same h)

-- where there are more, they are those of all of them, one after another
pub all_kept : (n : ℕ) (items front ahead entry after rest : List Placed) (met : Met) (kept : TextStyles) → IsMet n items met
    → front ≡ take n items → ahead ≡ beside met.before (last_of (take n items)) → entry ≡ met.placed ∷ [] → after ≡ beside met.behind (first_of (drop (suc n) items)) → rest ≡ drop (suc n) items
    → IsOf ((((front ++ ahead) ++ entry) ++ after) ++ rest) kept → IsOf (items_met n items met) kept
all_kept n items front ahead entry after rest met kept m ef ea ee eb er h =
    let same : (((front ++ ahead) ++ entry) ++ after) ++ rest ≡ front ++ (ahead ++ (entry ++ (after ++ rest))) =
    append_assoc ((front ++ ahead) ++ entry) after rest ∙ append_assoc (front ++ ahead) entry (after ++ rest) ∙ append_assoc front ahead (entry ++ (after ++ rest)) in
    alike_kept (take n items ++ (beside met.before (last_of (take n items)) ++ met.placed ∷ (beside met.behind (first_of (drop (suc n) items)) ++ drop (suc n) items))) (items_met n items met) kept (met_alike n items met m)
    (subst (λ (xs : List Placed). IsOf xs kept) (same ∙ (λ i. ef i ++ (ea i ++ (ee i ++ (eb i ++ er i))))) h)
