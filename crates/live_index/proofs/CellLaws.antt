-- The sums that cells tell, where cells are put behind others, and where two lists are joined.
use Rattle.std.proofs.Common.{◌≡◌, ℕ, ℤ, ◌+ℤ◌, pos, Bool, true, false, T, cond, ◌&&◌, List, [], ◌∷◌, ◌++◌, inl, inr, unwrap_or, Some, None, Option, refl, sym, ap, subst, ◌∙◌, arith}
use Rattle.std.proofs.lemmas.Int.{ints, int_wrap-add_left, int_wrap-add_same}
use Rattle.std.specs.declared.cmp.Ordering.{Ordering}
use Rattle.std.specs.declared.cmp.Ordering.TheVariants.{Less, Equal, Greater}
use Rattle.std.specs.Ordering.{nat_cmp, bool_cmp, ordering_then, ordering_reverse, is_eq, is_lt}
use Rattle.std.specs.Cmp.{IsTotalOrder, Equal-is, then_total, on_total, bool_cmp_total}
use Rattle.std.specs.Cmp.Lexicographic.{slice_cmp, nat_list_cmp_total}
use Rattle.std.specs.FinMap.{IsAntisymmetric, slice_cmp-IsAntisymmetric, nat_cmp-IsAntisymmetric}
use Rattle.std.specs.FinMap.Entries.{find, find-append, below_all}
use Rattle.std.specs.List.{AllByRecursion}
use Rattle.std.specs.Int.{int_wrap, w128}
use Rattle.book.proofs.Places.{first, second, less}
use Rattle.live_index.specs.declared.runs.Run.{Run}
use Rattle.live_index.specs.Runs.{Alike, before, raise}
use Rattle.live_index.specs.Cells.{Key, key_cmp, is_key, Cell, IsOrdered, runs_in, told, HasDays, NoneEmpty, AreCells, AreSummed, AreJoined, HasAdded, HasPushed, HasPushedSum, lesser_of}

-- ---- the order of keys

pub key_total : IsTotalOrder key_cmp
key_total = then_total (on_total (λ (k : Key). k.account) nat_list_cmp_total) (then_total (on_total (λ (k : Key). k.symbol) nat_list_cmp_total) (on_total (λ (k : Key). k.below) bool_cmp_total))

then_first : (r s : Ordering) → ordering_then r s ≡ Equal → r ≡ Equal
then_first Less s e = e
then_first Equal s e = refl
then_first Greater s e = e

then_second : (r s : Ordering) → ordering_then r s ≡ Equal → s ≡ Equal
then_second Less s e = absurd (differs e)
  where
    differs : Less ≡ Equal → ⊥
    differs e = cc
then_second Equal s e = e
then_second Greater s e = absurd (differs e)
  where
    differs : Greater ≡ Equal → ⊥
    differs e = cc

bool-same : (a b : Bool) → bool_cmp a b ≡ Equal → a ≡ b
bool-same true true e = refl
bool-same false false e = refl
bool-same true false e = absurd (differs e)
  where
    differs : Greater ≡ Equal → ⊥
    differs e = cc
bool-same false true e = absurd (differs e)
  where
    differs : Less ≡ Equal → ⊥
    differs e = cc

-- keys that tie are one key
pub key_same : IsAntisymmetric key_cmp
key_same a b e =
    let text = slice_cmp-IsAntisymmetric nat_cmp-IsAntisymmetric in
    let account = text a.account b.account (then_first _ _ e) in
    let rest = then_second (slice_cmp nat_cmp a.account b.account) _ e in
    let symbol = text a.symbol b.symbol (then_first _ _ rest) in
    let below = bool-same a.below b.below (then_second (slice_cmp nat_cmp a.symbol b.symbol) _ rest) in
    λ i. record { account = account i; symbol = symbol i; below = below i }

-- ---- cells below and above a key

-- each cell's key is less than the given one
abbrev pub AllBelow : List Cell → Key → Type 0
AllBelow cells key = AllByRecursion (λ cell. key_cmp cell.0 key ≡ Less) cells

pub back : (a b : Key) → key_cmp a b ≡ Less → key_cmp b a ≡ Greater
back a b p = key_total.antisymm b a ∙ ap ordering_reverse p

pub forth : (a b : Key) → key_cmp a b ≡ Greater → key_cmp b a ≡ Less
forth a b p = key_total.antisymm b a ∙ ap ordering_reverse p

both : (a b : Bool) → T a → T b → T (a && b)
both true b p q = q
both false b p q = p

less-is : (o : Ordering) → o ≡ Less → T (is_lt o)
less-is o e = subst (λ (r : Ordering). T (is_lt r)) (sym e) tt

-- a key below all cells, and one above them, have no sums
pub none-above : (key : Key) (cells : List Cell) → T (below_all key_cmp key cells) → find key_cmp key cells ≡ None
none-above key [] h = refl
none-above key (cell ∷ cells) h =
    ap (λ (o : Ordering). cond (is_eq o) (Some cell.1) (find key_cmp key cells)) (less _ (first _ _ h))
    ∙ none-above key cells (second _ _ h)

pub none-below : (key : Key) (cells : List Cell) → AllBelow cells key → find key_cmp key cells ≡ None
none-below key [] h = refl
none-below key (cell ∷ cells) h =
    ap (λ (o : Ordering). cond (is_eq o) (Some cell.1) (find key_cmp key cells)) (back cell.0 key h.0)
    ∙ none-below key cells h.1

pub lower : (a b : Key) (cells : List Cell) → key_cmp a b ≡ Less → T (below_all key_cmp b cells) → T (below_all key_cmp a cells)
lower a b [] p h = tt
lower a b (cell ∷ cells) p h =
    both _ _ (less-is _ (key_total.trans a b cell.0 p (less _ (first _ _ h)))) (lower a b cells p (second _ _ h))

pub below-higher : (a b : Key) (cells : List Cell) → AllBelow cells a → key_cmp a b ≡ Less → AllBelow cells b
below-higher a b [] h p = tt
below-higher a b (cell ∷ cells) h p = (key_total.trans cell.0 a b h.0 p, below-higher a b cells h.1 p)

pub below-last : (key : Key) (cells : List Cell) (cell : Cell) → AllBelow cells key → key_cmp cell.0 key ≡ Less → AllBelow (cells ++ cell ∷ []) key
below-last key [] cell h p = (p, tt)
below-last key (other ∷ cells) cell h p = (h.0, below-last key cells cell h.1 p)

above-last : (key : Key) (cells : List Cell) (cell : Cell) → T (below_all key_cmp key cells) → key_cmp key cell.0 ≡ Less → T (below_all key_cmp key (cells ++ cell ∷ []))
above-last key [] cell h p = both _ _ (less-is _ p) tt
above-last key (other ∷ cells) cell h p = both _ _ (first _ _ h) (above-last key cells cell (second _ _ h) p)

ordered-last : (cells : List Cell) (cell : Cell) → IsOrdered cells → AllBelow cells cell.0 → IsOrdered (cells ++ cell ∷ [])
ordered-last [] cell h below = tt
ordered-last (other ∷ cells) cell h below =
    both _ _ (above-last other.0 cells cell (first _ _ h) below.0) (ordered-last cells cell (second _ _ h) below.1)

full-last : (cells : List Cell) (cell : Cell) → NoneEmpty cells → HasDays cell.1 → NoneEmpty (cells ++ cell ∷ [])
full-last [] cell h f = (f, tt)
full-last (other ∷ cells) cell h f = (h.0, full-last cells cell h.1 f)

-- ---- what cells tell

abbrev pub tells : Option (List (List Run)) → ℕ → ℕ → ℤ
tells found places end = before (runs_in (unwrap_or found []) places) end

pub plus-none : (z : ℤ) → z ≡ z +ℤ pos 0
plus-none z = omega (arith, ints)

pub none-plus : (z : ℤ) → z ≡ pos 0 +ℤ z
none-plus z = omega (arith, ints)

-- the first cell, and those behind it
pub told-first : (key : Key) (cell : Cell) (cells : List Cell) (places end : ℕ) → T (below_all key_cmp cell.0 cells) → told key (cell ∷ cells) places end ≡ told key (cell ∷ []) places end +ℤ told key cells places end
told-first key cell cells places end h =
    elim (is_key cell.0 key) as (λ b. is_key cell.0 key ≡ b → tells (cond b (Some cell.1) (find key_cmp key cells)) places end ≡ tells (cond b (Some cell.1) None) places end +ℤ tells (find key_cmp key cells) places end) [
      | true ↦ λ e.
          let one : key ≡ cell.0 = key_same key cell.0 ((Equal-is (key_cmp key cell.0)).0 e) in
          plus-none (before (runs_in cell.1 places) end)
          ∙ ap (λ (o : Option (List (List Run))). before (runs_in cell.1 places) end +ℤ tells o places end) (sym (ap (λ (k : Key). find key_cmp k cells) one ∙ none-above cell.0 cells h))
      | false ↦ λ e. none-plus (told key cells places end)
    ] refl

-- the last cell, and those before it
pub told-last : (key : Key) (cells : List Cell) (cell : Cell) (places end : ℕ) → AllBelow cells cell.0 → told key (cells ++ cell ∷ []) places end ≡ told key cells places end +ℤ told key (cell ∷ []) places end
told-last key cells cell places end h =
    ap (λ (o : Option (List (List Run))). tells o places end) (find-append key_cmp key_total cells cell.0 cell.1 key (none-below cell.0 cells h))
    ∙ elim (is_key cell.0 key) as (λ b. is_key cell.0 key ≡ b → tells (cond b (Some cell.1) (find key_cmp key cells)) places end ≡ tells (find key_cmp key cells) places end +ℤ tells (cond b (Some cell.1) None) places end) [
      | true ↦ λ e.
          let one : key ≡ cell.0 = key_same key cell.0 ((Equal-is (key_cmp key cell.0)).0 e) in
          none-plus (before (runs_in cell.1 places) end)
          ∙ ap (λ (o : Option (List (List Run))). tells o places end +ℤ before (runs_in cell.1 places) end) (sym (ap (λ (k : Key). find key_cmp k cells) one ∙ none-below cell.0 cells h))
      | false ↦ λ e. plus-none (told key cells places end)
    ] refl

-- ---- two lists that are joined by one walk along both

-- all that is done is below what is left
abbrev pub IsUnder : List Cell → List Cell → Type 0
IsUnder done [] = Unit {0}
IsUnder done (cell ∷ cells) = AllBelow done cell.0

-- what is done and what is left of both lists have the sums of both
pub record Joining (one two done left others : List Cell) : Type 0 where
  pub cells : AreCells done
  pub left_cells : AreCells left
  pub other_cells : AreCells others
  pub left_under : IsUnder done left
  pub other_under : IsUnder done others
  pub sums : (key : Key) (places end : ℕ) →
      Alike (told key done places end +ℤ (told key left places end +ℤ told key others places end))
      (told key one places end +ℤ told key two places end)

no-under : (cells : List Cell) → IsUnder [] cells
no-under [] = tt
no-under (cell ∷ cells) = tt

no-told : (key : Key) (x : ℤ) (places end : ℕ) → told key [] places end +ℤ x ≡ x
no-told key x places end = sym (none-plus x)

pub join-start : (one two : List Cell) → AreCells one → AreCells two → Joining one two [] one two
join-start one two h k = record {
  cells = record { ordered = tt; full = tt };
  left_cells = h;
  other_cells = k;
  left_under = no-under one;
  other_under = no-under two;
  sums = λ key places end. ap (int_wrap w128) (no-told key (told key one places end +ℤ told key two places end) places end);
}

swap : (a b c : ℤ) → a +ℤ (b +ℤ c) ≡ a +ℤ (c +ℤ b)
swap a b c = omega (arith, ints)

turn : (a b : ℤ) → a +ℤ b ≡ b +ℤ a
turn a b = omega (arith, ints)

swapped : (one two done left others : List Cell) → Joining one two done left others → Joining two one done others left
swapped one two done left others j = record {
  cells = j.cells;
  left_cells = j.other_cells;
  other_cells = j.left_cells;
  left_under = j.other_under;
  other_under = j.left_under;
  sums = λ key places end.
      ap (int_wrap w128) (swap (told key done places end) (told key others places end) (told key left places end))
      ∙ j.sums key places end
      ∙ ap (int_wrap w128) (turn (told key one places end) (told key two places end));
}

tail-cells : (cell : Cell) (cells : List Cell) → AreCells (cell ∷ cells) → AreCells cells
tail-cells cell cells h = record { ordered = second _ _ h.ordered; full = h.full.1 }

under-next : (done : List Cell) (cell last : Cell) (cells : List Cell) → AllBelow done cell.0 → last.0 ≡ cell.0 → T (below_all key_cmp cell.0 cells) → IsUnder (done ++ last ∷ []) cells
under-next done cell last [] h e k = tt
under-next done cell last (next ∷ cells) h e k =
    let p : key_cmp cell.0 next.0 ≡ Less = less _ (first _ _ k) in
    below-last next.0 done last (below-higher cell.0 next.0 done h p) (ap (λ (q : Key). key_cmp q next.0) e ∙ p)

under-gone : (done : List Cell) (cell : Cell) (cells : List Cell) → AllBelow done cell.0 → T (below_all key_cmp cell.0 cells) → IsUnder done cells
under-gone done cell [] h k = tt
under-gone done cell (next ∷ cells) h k = below-higher cell.0 next.0 done h (less _ (first _ _ k))

under-lesser : (done : List Cell) (cell : Cell) (left others : List Cell) → IsUnder done others → lesser_of (cell ∷ left) others ≡ Less → IsUnder (done ++ cell ∷ []) others
under-lesser done cell left [] h e = tt
under-lesser done cell left (other ∷ others) h e = below-last other.0 done cell h e

put_last : (d c l o : ℤ) → (d +ℤ c) +ℤ (l +ℤ o) ≡ d +ℤ ((c +ℤ l) +ℤ o)
put_last d c l o = omega (arith, ints)

-- the first list's cell comes next
pub join-less : (one two done : List Cell) (cell : Cell) (left others : List Cell) → lesser_of (cell ∷ left) others ≡ Less → Joining one two done (cell ∷ left) others → Joining one two (done ++ cell ∷ []) left others
join-less one two done cell left others e j = record {
  cells = record {
    ordered = ordered-last done cell j.cells.ordered j.left_under;
    full = full-last done cell j.cells.full j.left_cells.full.0;
  };
  left_cells = tail-cells cell left j.left_cells;
  other_cells = j.other_cells;
  left_under = under-next done cell cell left j.left_under refl (first _ _ j.left_cells.ordered);
  other_under = under-lesser done cell left others j.other_under e;
  sums = λ key places end.
      ap (int_wrap w128)
      (ap (λ (z : ℤ). z +ℤ (told key left places end +ℤ told key others places end)) (told-last key done cell places end j.left_under)
      ∙ put_last (told key done places end) (told key (cell ∷ []) places end) (told key left places end) (told key others places end)
      ∙ ap (λ (z : ℤ). told key done places end +ℤ (z +ℤ told key others places end)) (sym (told-first key cell left places end (first _ _ j.left_cells.ordered))))
      ∙ j.sums key places end;
}

greater-back : (left : List Cell) (other : Cell) (others : List Cell) → lesser_of left (other ∷ others) ≡ Greater → lesser_of (other ∷ others) left ≡ Less
greater-back [] other others e = refl
greater-back (cell ∷ left) other others e = forth cell.0 other.0 e

-- the second's comes next
pub join-greater : (one two done left : List Cell) (other : Cell) (others : List Cell) → lesser_of left (other ∷ others) ≡ Greater → Joining one two done left (other ∷ others) → Joining one two (done ++ other ∷ []) left others
join-greater one two done left other others e j =
    swapped two one (done ++ other ∷ []) others left
    (join-less two one done other others left (greater-back left other others e) (swapped one two done left (other ∷ others) j))

-- what a cell that was put last adds
pushed-tells : (key : Key) (done new : List Cell) (cell : Cell) (places end : ℕ) → AllBelow done cell.0 → HasPushed cell done new → told key new places end ≡ told key done places end +ℤ told key (cell ∷ []) places end
pushed-tells key done new cell places end h p =
    elim p [
      | inl (gone, is) ↦ ap (λ (t : List Cell). told key t places end) is ∙ plus-none (told key done places end) ∙ ap (λ (z : ℤ). told key done places end +ℤ z) (sym (nothing gone))
      | inr (some, is) ↦ ap (λ (t : List Cell). told key t places end) is ∙ told-last key done cell places end h
    ]
  where
    nothing : cell.1 ≡ [] → told key (cell ∷ []) places end ≡ pos 0
    nothing gone =
        ap (λ (s : List (List Run)). tells (cond (is_key cell.0 key) (Some s) None) places end) gone
        ∙ elim (is_key cell.0 key) as (λ b. tells (cond b (Some []) None) places end ≡ pos 0) [ true ↦ refl | false ↦ refl ]

pushed-cells : (done new : List Cell) (cell : Cell) → AreCells done → AllBelow done cell.0 → HasPushed cell done new → AreCells new
pushed-cells done new cell h below p =
    elim p [
      | inl (gone, is) ↦ subst AreCells (sym is) h
      | inr (some, is) ↦ subst AreCells (sym is) (record { ordered = ordered-last done cell h.ordered below; full = full-last done cell h.full some })
    ]

pushed-under : (done new : List Cell) (cell last : Cell) (cells : List Cell) → AllBelow done cell.0 → last.0 ≡ cell.0 → T (below_all key_cmp cell.0 cells) → HasPushed last done new → IsUnder new cells
pushed-under done new cell last cells h e k p =
    let P : List Cell → Type 0 = λ t. IsUnder t cells in
    elim p [
      | inl (gone, is) ↦ subst P (sym is) (under-gone done cell cells h k)
      | inr (some, is) ↦ subst P (sym is) (under-next done cell last cells h e k)
    ]

-- the sums of two cells of one key
one-summed : (key : Key) (cell other both : Cell) (places end : ℕ) → both.0 ≡ cell.0 → other.0 ≡ cell.0 → AreSummed cell.1 other.1 both.1 → Alike (told key (both ∷ []) places end) (told key (cell ∷ []) places end +ℤ told key (other ∷ []) places end)
one-summed key cell other both places end e f sums =
    (λ i. int_wrap w128 (tells (cond (is_key (e i) key) (Some both.1) None) places end))
    ∙ elim (is_key cell.0 key) as (λ b. int_wrap w128 (tells (cond b (Some both.1) None) places end) ≡ int_wrap w128 (tells (cond b (Some cell.1) None) places end +ℤ tells (cond b (Some other.1) None) places end)) [
      | true ↦ ap (int_wrap w128) (sums places end) ∙ twice (before (runs_in cell.1 places) end +ℤ before (runs_in other.1 places) end)
      | false ↦ refl
    ]
    ∙ (λ i. int_wrap w128 (told key (cell ∷ []) places end +ℤ tells (cond (is_key (sym f i) key) (Some other.1) None) places end))
  where
    twice : (z : ℤ) → int_wrap w128 (int_wrap w128 z) ≡ int_wrap w128 z
    twice z = ap (int_wrap w128) (plus-none (int_wrap w128 z)) ∙ int_wrap-add_left w128 z (pos 0) ∙ ap (int_wrap w128) (sym (plus-none z))

-- both lists' cells of one key come next
pub join-equal : (one two done new : List Cell) (cell : Cell) (left : List Cell) (other : Cell) (others : List Cell) → lesser_of (cell ∷ left) (other ∷ others) ≡ Equal → HasPushedSum cell other done new → Joining one two done (cell ∷ left) (other ∷ others) → Joining one two new left others
join-equal one two done new cell left other others e pushed j =
    let same : other.0 ≡ cell.0 = sym (key_same cell.0 other.0 e) in
    let last : Cell = pushed.cell in
    let below : AllBelow done last.0 = subst (λ (k : Key). AllBelow done k) (sym pushed.key) j.left_under in
    let others-above : T (below_all key_cmp cell.0 others) = subst (λ (k : Key). T (below_all key_cmp k others)) same (first _ _ j.other_cells.ordered) in
    record {
      cells = pushed-cells done new last j.cells below pushed.pushed;
      left_cells = tail-cells cell left j.left_cells;
      other_cells = tail-cells other others j.other_cells;
      left_under = pushed-under done new cell last left j.left_under pushed.key (first _ _ j.left_cells.ordered) pushed.pushed;
      other_under = pushed-under done new cell last others j.left_under pushed.key others-above pushed.pushed;
      sums = λ key places end.
          ap (λ (z : ℤ). int_wrap w128 (z +ℤ (told key left places end +ℤ told key others places end))) (pushed-tells key done new last places end below pushed.pushed)
          ∙ ap (int_wrap w128) (aside (told key done places end) (told key (last ∷ []) places end) (told key left places end +ℤ told key others places end))
          ∙ int_wrap-add_same w128 (told key (last ∷ []) places end) (told key (cell ∷ []) places end +ℤ told key (other ∷ []) places end) (told key done places end +ℤ (told key left places end +ℤ told key others places end)) (one-summed key cell other last places end pushed.key same pushed.sums)
          ∙ ap (int_wrap w128) (apart (told key done places end) (told key (cell ∷ []) places end) (told key (other ∷ []) places end) (told key left places end) (told key others places end))
          ∙ (λ i. int_wrap w128 (told key done places end +ℤ (sym (told-first key cell left places end (first _ _ j.left_cells.ordered)) i +ℤ sym (told-first key other others places end (first _ _ j.other_cells.ordered)) i)))
          ∙ j.sums key places end;
    }
  where
    aside : (d c r : ℤ) → (d +ℤ c) +ℤ r ≡ c +ℤ (d +ℤ r)
    aside d c r = omega (arith, ints)

    apart : (d x y l o : ℤ) → (x +ℤ y) +ℤ (d +ℤ (l +ℤ o)) ≡ d +ℤ ((x +ℤ l) +ℤ (y +ℤ o))
    apart d x y l o = omega (arith, ints)

-- nothing is left
pub join-end : (one two done : List Cell) → Joining one two done [] [] → AreJoined one two done
join-end one two done j = record {
  cells = j.cells;
  sums = λ key places end. ap (int_wrap w128) (plus-none (told key done places end)) ∙ j.sums key places end;
}

-- ---- further sums

-- sums under a key, beside cells
pub joined-sums : (key : Key) (sums : List (List Run)) (old one new : List Cell) (cell : Cell) → cell.0 ≡ key → cell.1 ≡ sums → HasPushed cell [] one → AreJoined old one new → HasAdded (is_key key) sums old new
joined-sums key sums old one new cell e are pushed joined = record {
  cells = joined.cells;
  gained = λ k places end.
      joined.sums k places end
      ∙ ap (λ (z : ℤ). int_wrap w128 (told k old places end +ℤ z)) (pushed-tells k [] one cell places end tt pushed ∙ sym (none-plus (told k (cell ∷ []) places end)) ∙ (λ i. tells (cond (is_key (e i) k) (Some (are i)) None) places end))
      ∙ ap (int_wrap w128) (elim (is_key key k) as (λ b. told k old places end +ℤ tells (cond b (Some sums) None) places end ≡ raise b (before (runs_in sums places) end) (told k old places end)) [
        | true ↦ refl
        | false ↦ sym (plus-none (told k old places end))
      ]);
}

pub pushed-one : (one : List Cell) (cell : Cell) → HasPushed cell [] one → AreCells one
pushed-one one cell p = pushed-cells [] one cell (record { ordered = tt; full = tt }) tt p
