-- Reading several pieces behind some items, as a loop does.
use Rattle.std.proofs.Common.{◌≡◌, ℕ, ◌+◌, ◌^◌, ◌<◌, ◌≤◌, List, [], ◌∷◌, ◌++◌, map, length, take, drop, get_or, Option, Result, Ok, Err, refl, sym, ap, ◌∙◌, arith, append_assoc, append-nil}
use Rattle.std.specs.Prelude.{IfSome}
use Rattle.std.specs.List.{AllByRecursion}
use Rattle.std.proofs.lemmas.List.{append_cancel_left, map_more}
use Rattle.std.proofs.lemmas.List.Sums.{sum_by-cons}
use Rattle.hl_base.specs.Pieces.{IsWithin, bytes_in}
use Rattle.hl_base.specs.declared.items.Piece.{Piece}
use Rattle.book.specs.declared.fault.Fault.{Fault}
use Rattle.book.specs.declared.item.Item.{Item}
use Rattle.book.specs.declared.item.Placed.{Placed}
use Rattle.entry_reader.proofs.Lines.{few_within}
use Rattle.entry_reader.specs.declared.fault.ReadFault.{ReadFault}
use Rattle.entry_reader.specs.declared.fault.ReadFault.TheVariants as faults
use Rattle.entry_reader.specs.Causes.{cause_in}
use Rattle.entry_reader.specs.Contexts.{Context, context_of}
use Rattle.journal_reader.proofs.Whole.{all_read, items_before, more_at, stops_at}
use Rattle.journal_reader.specs.Items.{reading, reading_from}
use Rattle.journal_reader.specs.Whole.{AreWithin}
use Rattle.text_ends.specs.Growth.{shifted}
use Rattle.text_ends.specs.Ends.{items_at}
use Rattle.text_ends.proofs.Stepping.{ok_same}

no_items : (fault : Fault) (items : List Placed) → (let r : Result (List Placed) Fault = Err fault in r) ≡ Ok items → ⊥
no_items fault items h = cc

given : (before items : List Placed) (r : Result (List Placed) Fault) → items_before before r ≡ Ok (before ++ items) → r ≡ Ok items
given before items (Ok more) h = λ i. Ok (append_cancel_left before more items (ok_same (before ++ more) (before ++ items) h) i)
given before items (Err fault) h = absurd (no_items fault (before ++ items) h)

failed : (before : List Placed) (r : Result (List Placed) Fault) (fault : ReadFault) → IfSome (cause_in fault) (λ f. items_before before r ≡ Err f) → IfSome (cause_in fault) (λ f. r ≡ Err f)
failed before r faults.Memory h = tt
failed before (Ok more) (faults.Read f) h = absurd (no_items f (before ++ more) (sym h))
failed before (Err g) (faults.Read f) h = h

-- What a loop has read behind some items, and what is left.
pub record HasRead (year : Option ℕ) (before : List Placed) (text : List ℕ) (pieces : List Piece) (i : ℕ) (items : List Placed) (context : Context) : Type 0 where
  pub so_far : items_before (before ++ items) (reading_from year (items_at (before ++ items)) text (drop i pieces)) ≡ items_before before (reading_from year (items_at before) text pieces)
  pub context_is : context ≡ context_of year (items_at (before ++ items))

pub begun : (year : Option ℕ) (before : List Placed) (text : List ℕ) (pieces : List Piece) (items : List Placed) (context : Context) → items ≡ [] → context ≡ context_of year (items_at before) → HasRead year before text pieces 0 items context
begun year before text pieces items context none is =
    let whole : before ++ items ≡ before = ap (λ (xs : List Placed). before ++ xs) none ∙ append-nil before in
    record {
      so_far = ap (λ (xs : List Placed). items_before xs (reading_from year (items_at xs) text pieces)) whole;
      context_is = is ∙ ap (λ (xs : List Placed). context_of year (items_at xs)) (sym whole);
    }

pub one_more : (year : Option ℕ) (before : List Placed) (text bytes : List ℕ) (context next : Context) (pieces : List Piece) (i : ℕ) (d : Piece) (items found : List Placed) (it : Item) → HasRead year before text pieces i items context
    → i < length pieces → bytes ≡ take (get_or pieces i d).len (drop (get_or pieces i d).at text) → reading context (get_or pieces i d).line bytes ≡ Ok it → found ≡ items ++ record { piece = get_or pieces i d; item = it } ∷ []
    → next ≡ context_of year (items_at (before ++ items) ++ it ∷ []) → HasRead year before text pieces (i + 1) found next
one_more year before text bytes context next pieces i d items found it h lt is read made after =
    let placed : Placed = record { piece = get_or pieces i d; item = it } in
    let whole : before ++ found ≡ (before ++ items) ++ placed ∷ [] = ap (λ (xs : List Placed). before ++ xs) made ∙ sym (append_assoc before items (placed ∷ [])) in
    let both = more_at year text bytes context next pieces i d (before ++ items) (before ++ found) it (items_before before (reading_from year (items_at before) text pieces)) lt h.context_is is read whole after h.so_far in
    record { so_far = both.0; context_is = both.1 }

pub stopped : (fault : ReadFault) (year : Option ℕ) (before : List Placed) (text bytes : List ℕ) (context : Context) (pieces : List Piece) (i : ℕ) (d : Piece) (items : List Placed) → HasRead year before text pieces i items context → i < length pieces
    → bytes ≡ take (get_or pieces i d).len (drop (get_or pieces i d).at text) → IfSome (cause_in fault) (λ f. reading context (get_or pieces i d).line bytes ≡ Err f) → IfSome (cause_in fault) (λ f. reading_from year (items_at before) text pieces ≡ Err f)
stopped fault year before text bytes context pieces i d items h lt is read =
    failed before (reading_from year (items_at before) text pieces) fault
    (stops_at fault year text bytes context pieces i d (before ++ items) (items_before before (reading_from year (items_at before) text pieces)) lt h.context_is is read h.so_far)

pub done : (year : Option ℕ) (before : List Placed) (text : List ℕ) (pieces : List Piece) (i : ℕ) (items result : List Placed) (context : Context) → HasRead year before text pieces i items context → length pieces ≤ i → result ≡ items
    → reading_from year (items_at before) text pieces ≡ Ok result
done year before text pieces i items result context h le is =
    given before result (reading_from year (items_at before) text pieces)
    (all_read year text pieces i (before ++ items) (before ++ result) (items_before before (reading_from year (items_at before) text pieces)) le (ap (λ (xs : List Placed). before ++ xs) is) h.so_far)

-- ---- the pieces of bytes, behind so many lines

pub all_within_lines : (bytes : List ℕ) (lines : ℕ) (ps : List Piece) → lines + length bytes + 1 < 2 ^ 64 → AllByRecursion (IsWithin (length bytes)) ps → AllByRecursion (λ p. (0 + p.at < 2 ^ 64) × (lines + p.line < 2 ^ 64)) ps
all_within_lines bytes lines [] few h = tt
all_within_lines bytes lines (p ∷ ps) few h =
    let last = h.0.lines in
    let end = h.0.bytes in
    ((omega (arith, few, end), omega (arith, few, last)), all_within_lines bytes lines ps few h.1)

pub are_within : (bytes : List ℕ) (lines : ℕ) (ps : List Piece) → lines + length bytes + 1 < 2 ^ 64 → AllByRecursion (IsWithin (length bytes)) ps → AreWithin bytes (map (shifted 0 lines) ps)
are_within bytes lines [] few h = tt
are_within bytes lines (p ∷ ps) few h =
    let last = h.0.lines in
    let end = h.0.bytes in
    ((omega (arith, end), omega (arith, few, last, few_within p.len (drop (0 + p.at) bytes))), are_within bytes lines ps few h.1)

pub bytes_shifted : (lines : ℕ) (ps : List Piece) → bytes_in (map (shifted 0 lines) ps) ≡ bytes_in ps
bytes_shifted lines [] = refl
bytes_shifted lines (p ∷ ps) =
    sum_by-cons (λ (q : Piece). q.len) (shifted 0 lines p) (map (shifted 0 lines) ps) ∙ ap (λ (n : ℕ). p.len + n) (bytes_shifted lines ps) ∙ sym (sum_by-cons (λ (q : Piece). q.len) p ps)

-- one more piece, further down
pub shifted_more : (lines : ℕ) (ps : List Piece) (i : ℕ) (d : Piece) (found new : List Piece) → i < length ps → found ≡ map (shifted 0 lines) (take i ps) → new ≡ found ++ shifted 0 lines (get_or ps i d) ∷ [] → new ≡ map (shifted 0 lines) (take (i + 1) ps)
shifted_more lines ps i d found new lt is made =
    made ∙ ap (λ (xs : List Piece). xs ++ shifted 0 lines (get_or ps i d) ∷ []) is ∙ sym (map_more (shifted 0 lines) ps i d lt)
