-- The pieces of what a text says are those that it is cut into.
use Rattle.std.proofs.Common.{ℕ, ◌≡◌, ◌+◌, ◌≤◌, ◌==◌, Bool, true, false, cond, List, [], ◌∷◌, ◌++◌, length, map, take, drop, Option, Some, None, option_map, Result, Ok, refl, sym, ap, subst, ◌∙◌, arith}
use Rattle.std.proofs.lemmas.List.{length-map}
use Rattle.std.specs.Prelude.{IfSome}
use Rattle.std.specs.List.{concat, AllByRecursion}
use Rattle.hl_base.specs.Items.{items_of}
use Rattle.hl_base.specs.Lines.{lines_of, onto}
use Rattle.hl_base.specs.declared.items.Piece.{Piece}
use Rattle.book.specs.declared.fault.Fault.{Fault}
use Rattle.book.specs.declared.item.Item.{Item}
use Rattle.book.specs.declared.item.Placed.{Placed}
use Rattle.entry_reader.specs.Causes.{◌>>=◌}
use Rattle.entry_reader.specs.Contexts.{context_of}
use Rattle.journal_reader.specs.Items.{items_in, reading, reading_from}
use Rattle.text_ends.specs.Ends.{end_of, last_of}
use Rattle.text_ends.specs.Whole.{IsMeasured}
use Rattle.text_ends.proofs.Lining.{concat_lines}
use Rattle.text_ends.proofs.Measures.{last_all, last_cons}
use Rattle.text_ends.proofs.Stepping.{Ends, bound, ok_same, placed_as, within_cut}
use Rattle.loaded_texts.specs.Keeping.{pieces_at}

from_read : (year : Option ℕ) (before : List Item) (text : List ℕ) (ps : List Piece) (items : List Placed) → reading_from year before text ps ≡ Ok items → pieces_at items ≡ ps
unfolding reading_from
from_read year before text [] items h = sym (ap pieces_at (ok_same [] items h))
from_read year before text (p ∷ ps) items h =
    let one = bound (reading (context_of year before) p.line (take p.len (drop p.at text))) (λ i. reading_from year (before ++ i ∷ []) text ps >>= λ rest. Ok (placed_as p i ∷ rest)) items h in
    let i = one.value in
    let two = bound (reading_from year (before ++ i ∷ []) text ps) (λ rest. Ok (placed_as p i ∷ rest)) items one.second in
    let all : placed_as p i ∷ two.value ≡ items = ok_same (placed_as p i ∷ two.value) items two.second in
    sym (ap pieces_at all) ∙ ap (λ (qs : List Piece). p ∷ qs) (from_read year (before ++ i ∷ []) text ps two.value two.first)

pub pieces_read : (year : Option ℕ) (text : List ℕ) (items : List Placed) → items_in year text ≡ Ok items → pieces_at items ≡ items_of text
pieces_read year text items h = from_read year [] text (items_of text) items h

abbrev piece_of : Placed → Piece
piece_of p = p.piece

pub last_piece : (items : List Placed) → last_of (pieces_at items) ≡ option_map piece_of (last_of items)
last_piece [] = refl
last_piece (p ∷ []) = refl
last_piece (p ∷ q ∷ qs) = last_cons (piece_of p) (piece_of q) (map piece_of qs) ∙ last_piece (q ∷ qs) ∙ ap (option_map piece_of) (sym (last_cons p q qs))

-- what is so of the last piece is so of that of the last item
pub of_last : (P : Piece → Type 0) (items : List Placed) → IfSome (last_of (pieces_at items)) P → IfSome (last_of items) (λ p. P p.piece)
of_last P items h = by (last_of items) (subst (λ (o : Option Piece). IfSome o P) (last_piece items) h)
  where
    by : (o : Option Placed) → IfSome (option_map piece_of o) P → IfSome o (λ p. P p.piece)
    by None k = tt
    by (Some p) k = k

-- each piece lies in its text
pub ends_in : (text : List ℕ) → AllByRecursion (Ends (length text)) (items_of text)
ends_in text = subst (λ (n : ℕ). AllByRecursion (Ends n) (items_of text)) (let e : 0 + length (concat (lines_of text)) ≡ length text = omega (arith, ap length (concat_lines text)) in e) (within_cut 0 0 1 (lines_of text))

pub count_read : (year : Option ℕ) (text : List ℕ) (items : List Placed) → items_in year text ≡ Ok items → length items ≡ length (items_of text)
count_read year text items h = sym (length-map items piece_of) ∙ ap length (pieces_read year text items h)

-- ---- a text has no more lines than bytes, and its last piece no more than it

onto_length : (b : ℕ) (bs : List ℕ) (ls : List (List ℕ)) → length ls ≤ length bs → length (onto b ls) ≤ length (b ∷ bs)
onto_length b bs [] h = omega arith
onto_length b bs (l ∷ ls) h = omega (arith, h)

few_lines : (text : List ℕ) → length (lines_of text) ≤ length text
few_lines [] = omega arith
few_lines (b ∷ bs) = by (b == 10) (few_lines bs)
  where
    by : (t : Bool) → length (lines_of bs) ≤ length bs → length (cond t ((b ∷ []) ∷ lines_of bs) (onto b (lines_of bs))) ≤ length (b ∷ bs)
    by true h = omega (arith, h)
    by false h = onto_length b bs (lines_of bs) h

short_pieces : (size : ℕ) (ps : List Piece) → AllByRecursion (Ends size) ps → AllByRecursion (λ p. p.len ≤ size) ps
short_pieces size [] h = tt
short_pieces size (p ∷ ps) h = (let here : p.at + p.len ≤ size = h.0 in omega (arith, here), short_pieces size ps h.1)

pub end_measured : (year : Option ℕ) (text : List ℕ) (items : List Placed) → IsMeasured (end_of year text items)
end_measured year text items = record {
  lines = few_lines text;
  last = last_all (λ p. p.len ≤ length text) (items_of text) (short_pieces (length text) (items_of text) (ends_in text));
}
