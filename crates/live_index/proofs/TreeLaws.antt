-- Cells on both sides of one, and what an edit of a tree does to what it tells.
use Rattle.std.proofs.Common.{◌≡◌, ℕ, ℤ, ◌+ℤ◌, pos, Bool, true, false, T, cond, not, ◌&&◌, List, [], ◌∷◌, ◌++◌, unwrap_or, Some, None, Option, refl, sym, ap, subst, ◌∙◌, arith}
use Rattle.std.proofs.lemmas.Int.{ints, int_wrap-add_left, int_wrap-add_same}
use Rattle.std.proofs.lemmas.Cmp.{tied_itself}
use Rattle.std.specs.declared.cmp.Ordering.{Ordering}
use Rattle.std.specs.declared.cmp.Ordering.TheVariants.{Less, Equal, Greater}
use Rattle.std.specs.Ordering.{eq_by_cmp, is_eq}
use Rattle.std.specs.Cmp.{Equal-is, eq_by_cmp_equiv}
use Rattle.std.specs.FinMap.Entries.{by_order, find, put, where_key, below_all, find-put, find-where_key, is_sorted-put, is_sorted-where_key}
use Rattle.std.specs.Int.{int_wrap, w128}
use Rattle.book.proofs.Places.{first, second, less}
use Rattle.live_index.specs.declared.runs.Run.{Run}
use Rattle.live_index.specs.Runs.{Alike, before}
use Rattle.live_index.specs.Cells.{Key, key_cmp, is_key, Cell, IsOrdered, sums_of, runs_in, told, HasDays, NoneEmpty, AreCells, AreSummed, AreJoined}
use Rattle.live_index.proofs.CellLaws.{key_total, key_same, AllBelow, back, forth, none-above, lower, told-first, plus-none, none-plus, tells}

both : (a b : Bool) → T a → T b → T (a && b)
both true b p q = q
both false b p q = p

-- ---- the cells on both sides of one

below-front : (key : Key) (left : List Cell) (cell : Cell) (right : List Cell) → T (below_all key_cmp key (left ++ cell ∷ right)) → T (below_all key_cmp key left)
below-front key [] cell right h = tt
below-front key (other ∷ left) cell right h = both _ _ (first _ _ h) (below-front key left cell right (second _ _ h))

below-middle : (key : Key) (left : List Cell) (cell : Cell) (right : List Cell) → T (below_all key_cmp key (left ++ cell ∷ right)) → key_cmp key cell.0 ≡ Less
below-middle key [] cell right h = less _ (first _ _ h)
below-middle key (other ∷ left) cell right h = below-middle key left cell right (second _ _ h)

pub left-ordered : (left : List Cell) (cell : Cell) (right : List Cell) → IsOrdered (left ++ cell ∷ right) → IsOrdered left
left-ordered [] cell right h = tt
left-ordered (other ∷ left) cell right h = both _ _ (below-front other.0 left cell right (first _ _ h)) (left-ordered left cell right (second _ _ h))

pub right-ordered : (left : List Cell) (cell : Cell) (right : List Cell) → IsOrdered (left ++ cell ∷ right) → IsOrdered right
right-ordered [] cell right h = second _ _ h
right-ordered (other ∷ left) cell right h = right-ordered left cell right (second _ _ h)

left-below : (left : List Cell) (cell : Cell) (right : List Cell) → IsOrdered (left ++ cell ∷ right) → AllBelow left cell.0
left-below [] cell right h = tt
left-below (other ∷ left) cell right h = (below-middle other.0 left cell right (first _ _ h), left-below left cell right (second _ _ h))

right-above : (left : List Cell) (cell : Cell) (right : List Cell) → IsOrdered (left ++ cell ∷ right) → T (below_all key_cmp cell.0 right)
right-above [] cell right h = first _ _ h
right-above (other ∷ left) cell right h = right-above left cell right (second _ _ h)

-- ---- looked for

found_left : (key : Key) (left : List Cell) (cell : Cell) (right : List Cell) → key_cmp key cell.0 ≡ Less → T (below_all key_cmp cell.0 right) → find key_cmp key (left ++ cell ∷ right) ≡ find key_cmp key left
found_left key [] cell right p h =
    ap (λ (o : Ordering). cond (is_eq o) (Some cell.1) (find key_cmp key right)) p
    ∙ none-above key right (lower key cell.0 right p h)
found_left key (other ∷ left) cell right p h = ap (cond (eq_by_cmp key_cmp key other.0) (Some other.1)) (found_left key left cell right p h)

found_right : (key : Key) (left : List Cell) (cell : Cell) (right : List Cell) → key_cmp cell.0 key ≡ Less → AllBelow left cell.0 → find key_cmp key (left ++ cell ∷ right) ≡ find key_cmp key right
found_right key [] cell right p h = ap (λ (o : Ordering). cond (is_eq o) (Some cell.1) (find key_cmp key right)) (back cell.0 key p)
found_right key (other ∷ left) cell right p h =
    ap (λ (o : Ordering). cond (is_eq o) (Some other.1) (find key_cmp key (left ++ cell ∷ right))) (back other.0 key (key_total.trans other.0 cell.0 key h.0 p))
    ∙ found_right key left cell right p h.1

found_here : (left : List Cell) (cell : Cell) (right : List Cell) → AllBelow left cell.0 → find key_cmp cell.0 (left ++ cell ∷ right) ≡ Some cell.1
found_here [] cell right h = ap (λ (o : Ordering). cond (is_eq o) (Some cell.1) (find key_cmp cell.0 right)) (tied_itself key_total cell.0)
found_here (other ∷ left) cell right h =
    ap (λ (o : Ordering). cond (is_eq o) (Some other.1) (find key_cmp cell.0 (left ++ cell ∷ right))) (back other.0 cell.0 h.0)
    ∙ found_here left cell right h.1

abbrev sums_in : Option (List (List Run)) → List (List Run)
sums_in o = unwrap_or o []

pub sums-left : (key : Key) (left : List Cell) (cell : Cell) (right : List Cell) → IsOrdered (left ++ cell ∷ right) → key_cmp cell.0 key ≡ Greater → sums_of key left ≡ sums_of key (left ++ cell ∷ right)
sums-left key left cell right h p = sym (ap sums_in (found_left key left cell right (forth cell.0 key p) (right-above left cell right h)))

pub sums-right : (key : Key) (left : List Cell) (cell : Cell) (right : List Cell) → IsOrdered (left ++ cell ∷ right) → key_cmp cell.0 key ≡ Less → sums_of key right ≡ sums_of key (left ++ cell ∷ right)
sums-right key left cell right h p = sym (ap sums_in (found_right key left cell right p (left-below left cell right h)))

pub sums-here : (key : Key) (left : List Cell) (cell : Cell) (right : List Cell) → IsOrdered (left ++ cell ∷ right) → key_cmp cell.0 key ≡ Equal → cell.1 ≡ sums_of key (left ++ cell ∷ right)
sums-here key left cell right h p =
    sym (ap sums_in (found_here left cell right (left-below left cell right h)))
    ∙ ap (λ (k : Key). sums_of k (left ++ cell ∷ right)) (key_same cell.0 key p)

-- ---- put in

pub put-left : (key : Key) (sums : List (List Run)) (left : List Cell) (cell : Cell) (right : List Cell) → key_cmp cell.0 key ≡ Greater → put key_cmp key sums left ++ cell ∷ right ≡ put key_cmp key sums (left ++ cell ∷ right)
put-left key sums [] cell right p = sym (ap (λ (o : Ordering). by_order o ((key, sums) ∷ cell ∷ right) ((cell.0, sums) ∷ right) (cell ∷ put key_cmp key sums right)) (forth cell.0 key p))
put-left key sums (other ∷ left) cell right p =
    let rest = put-left key sums left cell right p in
    elim (key_cmp key other.0) as (λ o. by_order o ((key, sums) ∷ other ∷ left) ((other.0, sums) ∷ left) (other ∷ put key_cmp key sums left) ++ cell ∷ right ≡ by_order o ((key, sums) ∷ other ∷ left ++ cell ∷ right) ((other.0, sums) ∷ left ++ cell ∷ right) (other ∷ put key_cmp key sums (left ++ cell ∷ right))) [
      | Less ↦ refl
      | Equal ↦ refl
      | Greater ↦ ap (λ (t : List Cell). other ∷ t) rest
    ]

put_right : (key : Key) (sums : List (List Run)) (left : List Cell) (cell : Cell) (right : List Cell) → AllBelow left cell.0 → key_cmp cell.0 key ≡ Less → left ++ cell ∷ put key_cmp key sums right ≡ put key_cmp key sums (left ++ cell ∷ right)
put_right key sums [] cell right h p = sym (ap (λ (o : Ordering). by_order o ((key, sums) ∷ cell ∷ right) ((cell.0, sums) ∷ right) (cell ∷ put key_cmp key sums right)) (back cell.0 key p))
put_right key sums (other ∷ left) cell right h p =
    ap (λ (t : List Cell). other ∷ t) (put_right key sums left cell right h.1 p)
    ∙ sym (ap (λ (o : Ordering). by_order o ((key, sums) ∷ other ∷ left ++ cell ∷ right) ((other.0, sums) ∷ left ++ cell ∷ right) (other ∷ put key_cmp key sums (left ++ cell ∷ right))) (back other.0 key (key_total.trans other.0 cell.0 key h.0 p)))

pub put-right : (key : Key) (sums : List (List Run)) (left : List Cell) (cell : Cell) (right : List Cell) → IsOrdered (left ++ cell ∷ right) → key_cmp cell.0 key ≡ Less → left ++ cell ∷ put key_cmp key sums right ≡ put key_cmp key sums (left ++ cell ∷ right)
put-right key sums left cell right h p = put_right key sums left cell right (left-below left cell right h) p

put_here : (sums : List (List Run)) (left : List Cell) (cell : Cell) (right : List Cell) → AllBelow left cell.0 → left ++ (cell.0, sums) ∷ right ≡ put key_cmp cell.0 sums (left ++ cell ∷ right)
put_here sums [] cell right h = sym (ap (λ (o : Ordering). by_order o ((cell.0, sums) ∷ cell ∷ right) ((cell.0, sums) ∷ right) (cell ∷ put key_cmp cell.0 sums right)) (tied_itself key_total cell.0))
put_here sums (other ∷ left) cell right h =
    ap (λ (t : List Cell). other ∷ t) (put_here sums left cell right h.1)
    ∙ sym (ap (λ (o : Ordering). by_order o ((cell.0, sums) ∷ other ∷ left ++ cell ∷ right) ((other.0, sums) ∷ left ++ cell ∷ right) (other ∷ put key_cmp cell.0 sums (left ++ cell ∷ right))) (back other.0 cell.0 h.0))

pub put-here : (new : Cell) (left : List Cell) (cell : Cell) (right : List Cell) → IsOrdered (left ++ cell ∷ right) → key_cmp cell.0 new.0 ≡ Equal → left ++ new ∷ right ≡ put key_cmp new.0 new.1 (left ++ cell ∷ right)
put-here new left cell right h p =
    let one : cell.0 ≡ new.0 = key_same cell.0 new.0 p in
    (λ i. left ++ (sym one i, new.1) ∷ right)
    ∙ put_here new.1 left cell right (left-below left cell right h)
    ∙ ap (λ (k : Key). put key_cmp k new.1 (left ++ cell ∷ right)) one

-- ---- taken out

abbrev pub without_key : Key → List Cell → List Cell
without_key key cells = where_key key_cmp (λ k. not (eq_by_cmp key_cmp key k)) cells

kept_above : (key : Key) (cells : List Cell) → T (below_all key_cmp key cells) → without_key key cells ≡ cells
kept_above key [] h = refl
kept_above key (cell ∷ cells) h =
    ap (λ (o : Ordering). cond (not (is_eq o)) (cell ∷ without_key key cells) (without_key key cells)) (less _ (first _ _ h))
    ∙ ap (λ (t : List Cell). cell ∷ t) (kept_above key cells (second _ _ h))

gone_left : (key : Key) (left : List Cell) (cell : Cell) (right : List Cell) → key_cmp key cell.0 ≡ Less → T (below_all key_cmp cell.0 right) → without_key key left ++ cell ∷ right ≡ without_key key (left ++ cell ∷ right)
gone_left key [] cell right p h =
    sym (ap (λ (o : Ordering). cond (not (is_eq o)) (cell ∷ without_key key right) (without_key key right)) p
    ∙ ap (λ (t : List Cell). cell ∷ t) (kept_above key right (lower key cell.0 right p h)))
gone_left key (other ∷ left) cell right p h =
    let rest = gone_left key left cell right p h in
    elim (eq_by_cmp key_cmp key other.0) as (λ b. cond (not b) (other ∷ without_key key left) (without_key key left) ++ cell ∷ right ≡ cond (not b) (other ∷ without_key key (left ++ cell ∷ right)) (without_key key (left ++ cell ∷ right))) [
      | true ↦ rest
      | false ↦ ap (λ (t : List Cell). other ∷ t) rest
    ]

pub gone-left : (key : Key) (left : List Cell) (cell : Cell) (right : List Cell) → IsOrdered (left ++ cell ∷ right) → key_cmp cell.0 key ≡ Greater → without_key key left ++ cell ∷ right ≡ without_key key (left ++ cell ∷ right)
gone-left key left cell right h p = gone_left key left cell right (forth cell.0 key p) (right-above left cell right h)

gone_right : (key : Key) (left : List Cell) (cell : Cell) (right : List Cell) → AllBelow left cell.0 → key_cmp cell.0 key ≡ Less → left ++ cell ∷ without_key key right ≡ without_key key (left ++ cell ∷ right)
gone_right key [] cell right h p = sym (ap (λ (o : Ordering). cond (not (is_eq o)) (cell ∷ without_key key right) (without_key key right)) (back cell.0 key p))
gone_right key (other ∷ left) cell right h p =
    ap (λ (t : List Cell). other ∷ t) (gone_right key left cell right h.1 p)
    ∙ sym (ap (λ (o : Ordering). cond (not (is_eq o)) (other ∷ without_key key (left ++ cell ∷ right)) (without_key key (left ++ cell ∷ right))) (back other.0 key (key_total.trans other.0 cell.0 key h.0 p)))

pub gone-right : (key : Key) (left : List Cell) (cell : Cell) (right : List Cell) → IsOrdered (left ++ cell ∷ right) → key_cmp cell.0 key ≡ Less → left ++ cell ∷ without_key key right ≡ without_key key (left ++ cell ∷ right)
gone-right key left cell right h p = gone_right key left cell right (left-below left cell right h) p

gone_here : (left : List Cell) (cell : Cell) (right : List Cell) → AllBelow left cell.0 → T (below_all key_cmp cell.0 right) → left ++ right ≡ without_key cell.0 (left ++ cell ∷ right)
gone_here [] cell right h k =
    sym (ap (λ (o : Ordering). cond (not (is_eq o)) (cell ∷ without_key cell.0 right) (without_key cell.0 right)) (tied_itself key_total cell.0)
    ∙ kept_above cell.0 right k)
gone_here (other ∷ left) cell right h k =
    ap (λ (t : List Cell). other ∷ t) (gone_here left cell right h.1 k)
    ∙ sym (ap (λ (o : Ordering). cond (not (is_eq o)) (other ∷ without_key cell.0 (left ++ cell ∷ right)) (without_key cell.0 (left ++ cell ∷ right))) (back other.0 cell.0 h.0))

pub gone-here : (key : Key) (left : List Cell) (cell : Cell) (right : List Cell) → IsOrdered (left ++ cell ∷ right) → key_cmp cell.0 key ≡ Equal → left ++ right ≡ without_key key (left ++ cell ∷ right)
gone-here key left cell right h p =
    gone_here left cell right (left-below left cell right h) (right-above left cell right h)
    ∙ ap (λ (k : Key). without_key k (left ++ cell ∷ right)) (key_same cell.0 key p)

-- ---- what an edit tells

-- sums of both, modulo 2^128
abbrev pub SumAlike : List (List Run) → List (List Run) → List (List Run) → Type 0
SumAlike one two sums = (places end : ℕ) → Alike (before (runs_in sums places) end) (before (runs_in one places) end +ℤ before (runs_in two places) end)

pub twice : (z : ℤ) → int_wrap w128 (int_wrap w128 z) ≡ int_wrap w128 z
twice z = ap (int_wrap w128) (plus-none (int_wrap w128 z)) ∙ int_wrap-add_left w128 z (pos 0) ∙ ap (int_wrap w128) (sym (plus-none z))

pub sum-alike : (one two sums : List (List Run)) → AreSummed one two sums → SumAlike one two sums
sum-alike one two sums h places end = ap (int_wrap w128) (h places end) ∙ twice (before (runs_in one places) end +ℤ before (runs_in two places) end)

pub sum-alone : (none sums : List (List Run)) → none ≡ [] → SumAlike none sums sums
sum-alone none sums e places end =
    ap (int_wrap w128) (none-plus (before (runs_in sums places) end) ∙ ap (λ (s : List (List Run)). before (runs_in s places) end +ℤ before (runs_in sums places) end) (sym e))

full-put : (key : Key) (sums : List (List Run)) (cells : List Cell) → HasDays sums → NoneEmpty cells → NoneEmpty (put key_cmp key sums cells)
full-put key sums [] h f = (h, tt)
full-put key sums (cell ∷ cells) h f =
    let rest = full-put key sums cells h f.1 in
    elim (key_cmp key cell.0) as (λ o. NoneEmpty (by_order o ((key, sums) ∷ cell ∷ cells) ((cell.0, sums) ∷ cells) (cell ∷ put key_cmp key sums cells))) [
      | Less ↦ (h, f)
      | Equal ↦ (h, f.1)
      | Greater ↦ (f.0, rest)
    ]

full-without : (key : Key) (cells : List Cell) → NoneEmpty cells → NoneEmpty (without_key key cells)
full-without key [] f = tt
full-without key (cell ∷ cells) f =
    let rest = full-without key cells f.1 in
    elim (eq_by_cmp key_cmp key cell.0) as (λ b. NoneEmpty (cond (not b) (cell ∷ without_key key cells) (without_key key cells))) [ true ↦ rest | false ↦ (f.0, rest) ]

-- what a change of one key's sums tells of another key
changed-tells : (q key : Key) (cells : List Cell) (change : List (List Run)) (sums : Option (List (List Run))) (places end : ℕ) → SumAlike (sums_of key cells) change (sums_in sums) → Alike (tells (cond (is_key key q) sums (find key_cmp q cells)) places end) (told q cells places end +ℤ told q ((key, change) ∷ []) places end)
changed-tells q key cells change sums places end h =
    elim (is_key key q) as (λ b. is_key key q ≡ b → Alike (tells (cond b sums (find key_cmp q cells)) places end) (told q cells places end +ℤ tells (cond b (Some change) None) places end)) [
      | true ↦ λ e.
          let one : key ≡ q = sym (key_same q key ((Equal-is (key_cmp q key)).0 e)) in
          h places end ∙ ap (λ (k : Key). int_wrap w128 (told k cells places end +ℤ before (runs_in change places) end)) one
      | false ↦ λ e. ap (int_wrap w128) (plus-none (told q cells places end))
    ] refl

pub put-joined : (key : Key) (cells : List Cell) (change sums : List (List Run)) → AreCells cells → HasDays sums → SumAlike (sums_of key cells) change sums → AreJoined cells ((key, change) ∷ []) (put key_cmp key sums cells)
put-joined key cells change sums h full are = record {
  cells = record {
    ordered = is_sorted-put key_cmp key_total key sums cells h.ordered;
    full = full-put key sums cells full h.full;
  };
  sums = λ q places end.
      ap (λ (o : Option (List (List Run))). int_wrap w128 (tells o places end)) (find-put key_cmp key_total q key sums cells)
      ∙ changed-tells q key cells change (Some sums) places end are;
}

pub gone-joined : (key : Key) (cells : List Cell) (change : List (List Run)) → AreCells cells → SumAlike (sums_of key cells) change [] → AreJoined cells ((key, change) ∷ []) (without_key key cells)
gone-joined key cells change h are = record {
  cells = record {
    ordered = is_sorted-where_key key_cmp (λ x. not (eq_by_cmp key_cmp key x)) cells h.ordered;
    full = full-without key cells h.full;
  };
  sums = λ q places end.
      ap (λ (o : Option (List (List Run))). int_wrap w128 (tells o places end))
      (find-where_key key_cmp (λ x. not (eq_by_cmp key_cmp key x)) q (λ x t. ap (λ (y : Key). not (eq_by_cmp key_cmp key y)) (sym (key_same q x t))) cells
      ∙ ap (λ (b : Bool). cond (not b) (find key_cmp q cells) None) ((eq_by_cmp_equiv key_total).symm key q)
      ∙ turned (is_key key q) (find key_cmp q cells))
      ∙ changed-tells q key cells change None places end are;
}
  where
    turned : (b : Bool) (o : Option (List (List Run))) → cond (not b) o None ≡ cond b None o
    turned true o = refl
    turned false o = refl

-- ---- cells that are put in in turn

pub record Adding (tree cells now left : List Cell) : Type 0 where
  pub now_cells : AreCells now
  pub left_cells : AreCells left
  pub sums : (key : Key) (places end : ℕ) →
      Alike (told key now places end +ℤ told key left places end) (told key tree places end +ℤ told key cells places end)

pub add-start : (tree cells now : List Cell) → now ≡ tree → AreCells tree → AreCells cells → Adding tree cells now cells
add-start tree cells now e h k = record {
  now_cells = subst AreCells (sym e) h;
  left_cells = k;
  sums = λ key places end. ap (λ (t : List Cell). int_wrap w128 (told key t places end +ℤ told key cells places end)) e;
}

pub add-more : (tree cells now new : List Cell) (cell : Cell) (left : List Cell) → AreJoined now (cell ∷ []) new → Adding tree cells now (cell ∷ left) → Adding tree cells new left
add-more tree cells now new cell left joined a = record {
  now_cells = joined.cells;
  left_cells = record { ordered = second _ _ a.left_cells.ordered; full = a.left_cells.full.1 };
  sums = λ key places end.
      int_wrap-add_same w128 (told key new places end) (told key now places end +ℤ told key (cell ∷ []) places end) (told key left places end) (joined.sums key places end)
      ∙ ap (int_wrap w128) (assoc (told key now places end) (told key (cell ∷ []) places end) (told key left places end) ∙ ap (λ (z : ℤ). told key now places end +ℤ z) (sym (told-first key cell left places end (first _ _ a.left_cells.ordered))))
      ∙ a.sums key places end;
}
  where
    assoc : (a b c : ℤ) → (a +ℤ b) +ℤ c ≡ a +ℤ (b +ℤ c)
    assoc a b c = omega (arith, ints)

pub add-end : (tree cells now : List Cell) → Adding tree cells now [] → AreJoined tree cells now
add-end tree cells now a = record {
  cells = a.now_cells;
  sums = λ key places end. ap (int_wrap w128) (plus-none (told key now places end)) ∙ a.sums key places end;
}

-- cells beside none
pub joined-alone : (none cells new : List Cell) → none ≡ [] → new ≡ cells → AreCells cells → AreJoined none cells new
joined-alone none cells new e is h = record {
  cells = subst AreCells (sym is) h;
  sums = λ key places end.
      ap (λ (t : List Cell). int_wrap w128 (told key t places end)) is
      ∙ ap (int_wrap w128) (none-plus (told key cells places end))
      ∙ ap (λ (t : List Cell). int_wrap w128 (told key t places end +ℤ told key cells places end)) (sym e);
}
