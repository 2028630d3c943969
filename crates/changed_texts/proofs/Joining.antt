-- Where the pieces of a text lie, and reading them one after another.
use Rattle.std.proofs.Common.{ℕ, zero, suc, ◌≡◌, ◌+◌, ◌≤◌, ◌==◌, Bool, true, false, cond, List, [], ◌∷◌, ◌++◌, length, take, drop, Option, Result, Ok, refl, ap, subst, ◌∙◌, arith, length-append}
use Rattle.std.specs.List.{concat, AllByRecursion}
use Rattle.hl_base.specs.Items.{cut_from, items_of, kind_of, lines_more}
use Rattle.hl_base.specs.Lines.{lines_of, onto}
use Rattle.hl_base.specs.Pieces.{IsWithin}
use Rattle.hl_base.specs.declared.items.Piece.{Piece}
use Rattle.book.specs.declared.fault.Fault.{Fault}
use Rattle.book.specs.declared.item.Item.{Item}
use Rattle.book.specs.declared.item.Placed.{Placed}
use Rattle.entry_reader.specs.Causes.{◌>>=◌}
use Rattle.entry_reader.specs.Contexts.{context_of}
use Rattle.journal_reader.specs.Items.{reading, reading_from}
use Rattle.text_ends.proofs.Lining.{concat_lines}
use Rattle.text_ends.proofs.Stepping.{Ends, Read, concat_take, placed_as, within_cut}
use Rattle.changed_texts.proofs.Lists.{all_map}

-- ---- where pieces lie

all_same : (a b : ℕ) (ps : List Piece) → a ≡ b → AllByRecursion (Ends a) ps → AllByRecursion (Ends b) ps
all_same a b ps e h = subst (λ (n : ℕ). AllByRecursion (Ends n) ps) e h

pub within_text : (text : List ℕ) → AllByRecursion (Ends (length text)) (items_of text)
within_text text = all_same (0 + length (concat (lines_of text))) (length text) (items_of text) (same (concat (lines_of text)) (concat_lines text)) (within_cut 0 0 1 (lines_of text))
  where
    same : (xs : List ℕ) → xs ≡ text → 0 + length xs ≡ length text
    same xs e = omega (arith, ap length e)

-- each line has a byte
abbrev Filled : List (List ℕ) → Type 0
Filled ls = AllByRecursion (λ l. 1 ≤ length l) ls

filled_onto : (b : ℕ) (ls : List (List ℕ)) → Filled ls → Filled (onto b ls)
filled_onto b [] h = (omega arith, tt)
filled_onto b (l ∷ ls) h = (omega arith, h.1)

filled_lines : (text : List ℕ) → Filled (lines_of text)
filled_lines [] = tt
filled_lines (b ∷ bs) = by (b == 10) (filled_lines bs)
  where
    by : (t : Bool) → Filled (lines_of bs) → Filled (cond t ((b ∷ []) ∷ lines_of bs) (onto b (lines_of bs)))
    by true h = (omega arith, h)
    by false h = filled_onto b (lines_of bs) h

abbrev Counted : ℕ → Piece → Type 0
Counted most p = p.line + p.len ≤ most

counted_cut : (taken at line : ℕ) (ls : List (List ℕ)) → Filled ls → AllByRecursion (Counted (line + length (concat ls))) (cut_from taken at line ls)
counted_cut taken at line [] f = tt
counted_cut (suc taken) at line (l ∷ ls) f =
    let some = f.0 in
    all_map (Counted (line + 1 + length (concat ls))) (Counted (line + length (concat (l ∷ ls)))) (λ p h. omega (arith, h, some, length-append l (concat ls))) (cut_from taken (at + length l) (line + 1) ls) (counted_cut taken (at + length l) (line + 1) ls f.1)
counted_cut zero at line (l ∷ ls) f =
    let n = lines_more (kind_of l) ls in
    let some = f.0 in (
      omega (arith, concat_take n ls, length-append l (concat ls)),
      all_map (Counted (line + 1 + length (concat ls))) (Counted (line + length (concat (l ∷ ls)))) (λ p h. omega (arith, h, some, length-append l (concat ls))) (cut_from n (at + length l) (line + 1) ls) (counted_cut n (at + length l) (line + 1) ls f.1),
    )

both_within : (size most : ℕ) (ps : List Piece) → most ≤ size + 1 → AllByRecursion (Ends size) ps → AllByRecursion (Counted most) ps → AllByRecursion (IsWithin size) ps
both_within size most [] few h k = tt
both_within size most (p ∷ ps) few h k =
    let counted = k.0 in
    (record { bytes = h.0; lines = omega (arith, counted, few) }, both_within size most ps few h.1 k.1)

-- the pieces of a text lie in it, and so do their lines
pub all_within : (text : List ℕ) → AllByRecursion (IsWithin (length text)) (items_of text)
all_within text =
    both_within (length text) (1 + length (concat (lines_of text))) (items_of text) (least (concat (lines_of text)) (concat_lines text)) (within_text text) (counted_cut 0 0 1 (lines_of text) (filled_lines text))
  where
    least : (xs : List ℕ) → xs ≡ text → 1 + length xs ≤ length text + 1
    least xs e = omega (arith, ap length e)

-- ---- reading one after another

-- one piece, and then the others
pub read_one : (year : Option ℕ) (before : List Item) (all : List ℕ) (p : Piece) (ps : List Piece) (i : Item) (more : List Placed) → reading (context_of year before) p.line (take p.len (drop p.at all)) ≡ Ok i
    → reading_from year (before ++ i ∷ []) all ps ≡ Ok more → reading_from year before all (p ∷ ps) ≡ Ok (record { piece = p; item = i } ∷ more)
unfolding reading_from
read_one year before all p ps i more is rest =
    ap (λ (r : Result Item Fault). r >>= λ j. reading_from year (before ++ j ∷ []) all ps >>= λ others. Ok (placed_as p j ∷ others)) is
    ∙ ap (λ (r : Read). r >>= λ others. Ok (placed_as p i ∷ others)) rest

pub read_none : (year : Option ℕ) (before : List Item) (all : List ℕ) → reading_from year before all [] ≡ Ok []
unfolding reading_from
read_none year before all = refl
