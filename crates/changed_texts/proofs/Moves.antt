-- What stands behind a changed entry can be moved: no number falls below 0 or passes 2^64.
use Rattle.std.proofs.Common.{ℕ, zero, suc, ◌≡◌, ◌+◌, ◌^◌, ◌<◌, ◌≤◌, List, [], ◌∷◌, ◌++◌, length, take, drop, Option, Ok, refl, sym, subst, arith, length-take}
use Rattle.std.specs.List.{AllByRecursion}
use Rattle.std.proofs.lemmas.List.{length-map}
use Rattle.hl_base.specs.Items.{items_of}
use Rattle.hl_base.specs.Lines.{lines_of}
use Rattle.hl_base.specs.Pieces.{IsWithin}
use Rattle.hl_base.specs.declared.items.Piece.{Piece}
use Rattle.book.specs.declared.item.Item.{Item}
use Rattle.book.specs.declared.item.Item.TheVariants as item
use Rattle.book.specs.declared.item.Placed.{Placed}
use Rattle.book.specs.declared.rules.RulePosting.{RulePosting}
use Rattle.book.specs.declared.transaction.Posting.{Posting}
use Rattle.entry_reader.proofs.Lines.{few_lines}
use Rattle.entry_reader.specs.Causes.{◌>>=◌}
use Rattle.entry_reader.specs.Contexts.{context_of}
use Rattle.entry_reader.specs.Lines.{content_of}
use Rattle.journal_reader.specs.Items.{items_in, reading, reading_from}
use Rattle.moved_lines.specs.Moving.{CanMove, CanMoveItem, CanMovePiece, CanMovePlaced, CanMovePosting, CanMoveRulePosting}
use Rattle.moved_lines.specs.declared.shift.Offset.{Offset}
use Rattle.moved_lines.specs.declared.shift.Shift.{Shift}
use Rattle.text_ends.specs.Ends.{items_at}
use Rattle.changed_texts.proofs.Joining.{all_within}
use Rattle.text_ends.proofs.Stepping.{bound, ok_same, placed_as}
use Rattle.changed_texts.proofs.Lists.{all_map}
use Rattle.changed_texts.specs.LinesOf.{EachLine, IsNear}
use Rattle.changed_texts.specs.Replacing.{IsEntryOf, offset_of}
use Rattle.changed_texts.proofs.Anew.{later_is, told}
use Rattle.changed_texts.proofs.Cuts.{BeginsBehind}
use Rattle.changed_texts.proofs.Cutting.{all_behind, rest, rest_is}
use Rattle.changed_texts.proofs.Found.{found}
use Rattle.changed_texts.proofs.Near.{reading-near}

-- ---- an item

module _ (by : Shift) (first most : ℕ) (low : by.removed ≤ first) (high : first + most + by.added < 2 ^ 64) where
  can-number : (l : ℕ) → IsNear first most l → CanMove by l
  can-number l near =
      let least = near.0 in
      let greatest = near.1 in
      record { behind = omega (arith, low, least); below = omega (arith, high, greatest) }

  can-postings : (ps : List Posting) → AllByRecursion (λ (p : Posting). IsNear first most p.line) ps → AllByRecursion (CanMovePosting by) ps
  can-postings ps all = all_map (λ (p : Posting). IsNear first most p.line) (CanMovePosting by) (λ p near. can-number p.line near) ps all

  can-rules : (rs : List RulePosting) → AllByRecursion (λ (r : RulePosting). IsNear first most r.posting.line) rs → AllByRecursion (CanMoveRulePosting by) rs
  can-rules rs all = all_map (λ (r : RulePosting). IsNear first most r.posting.line) (CanMoveRulePosting by) (λ r near. can-number r.posting.line near) rs all

  can-item : (i : Item) → EachLine (IsNear first most) i → CanMoveItem by i
  can-item (item.Txn t) near = record { line = can-number t.line near.0; postings = can-postings t.postings near.1 }
  can-item (item.Auto r) near = record { line = can-number r.line near.0; postings = can-rules r.postings near.1 }
  can-item (item.Periodic r) near = record { line = can-number r.line near.0; postings = can-postings r.postings near.1 }
  can-item item.Gap near = tt
  can-item item.Block near = tt
  can-item (item.Price p) near = tt
  can-item (item.Directive d) near = tt

-- ---- items of a text

-- what is taken away lies before a piece
abbrev LiesBehind : Offset → Piece → Type 0
LiesBehind by p = (by.bytes.removed ≤ p.at) × (by.lines.removed ≤ p.line)

-- A piece of a text of so many bytes, and what it says.
can-placed : (by : Offset) (size : ℕ) (p : Piece) (i : Item) (few : ℕ) → size + by.bytes.added + 1 < 2 ^ 64 → size + by.lines.added + 1 < 2 ^ 64 → IsWithin size p → LiesBehind by p → few ≤ p.len → EachLine (IsNear p.line few) i
    → CanMovePlaced by (placed_as p i)
can-placed by size p i few bytes lines within behind short near =
    let low = behind.0 in
    let below = behind.1 in
    let end = within.bytes in
    let last = within.lines in
    record {
      piece = record {
        at = record { behind = low; below = omega (arith, bytes, end) };
        line = record { behind = below; below = omega (arith, lines, last) };
      };
      item = can-item by.lines p.line few below (omega (arith, lines, last, short)) i near;
    }

short_bytes : (n : ℕ) (xs : List ℕ) → length (take n xs) ≤ n
short_bytes n xs = omega (arith, length-take n xs)

module _ (year : Option ℕ) (text : List ℕ) (by : Offset) (size : ℕ) (bytes : size + by.bytes.added + 1 < 2 ^ 64) (lines : size + by.lines.added + 1 < 2 ^ 64) where
  can-each : (before : List Item) (ps : List Piece) (items : List Placed) → AllByRecursion (IsWithin size) ps → AllByRecursion (LiesBehind by) ps → reading_from year before text ps ≡ Ok items → AllByRecursion (CanMovePlaced by) items
  unfolding reading_from
  can-each before [] items within behind h = subst (λ (is : List Placed). AllByRecursion (CanMovePlaced by) is) (ok_same [] items h) tt
  can-each before (p ∷ ps) items within behind h =
      let bs = take p.len (drop p.at text) in
      let one = bound (reading (context_of year before) p.line bs) (λ i. reading_from year (before ++ i ∷ []) text ps >>= λ rest. Ok (placed_as p i ∷ rest)) items h in
      let two = bound (reading_from year (before ++ one.value ∷ []) text ps) (λ rest. Ok (placed_as p one.value ∷ rest)) items one.second in
      let near = (reading-near (context_of year before) p.line bs).is one.value one.first in
      subst (λ (is : List Placed). AllByRecursion (CanMovePlaced by) is) (ok_same (placed_as p one.value ∷ two.value) items two.second)
      (can-placed by size p one.value (length bs) bytes lines within.0 behind.0 (short_bytes p.len (drop p.at text)) near, can-each (before ++ one.value ∷ []) ps two.value within.1 behind.1 two.first)

-- ---- behind a changed entry

pub all_drop : {X : Type 0} (P : X → Type 0) (n : ℕ) (xs : List X) → AllByRecursion P xs → AllByRecursion P (drop n xs)
all_drop P zero xs h = h
all_drop P (suc n) [] h = tt
all_drop P (suc n) (x ∷ xs) h = all_drop P n xs h.1

pub few_added : (bytes : List ℕ) → length (lines_of bytes) ≤ length bytes
few_added bytes = omega (arith, few_lines bytes, length-map (lines_of bytes) content_of)

behind_is : (from start taken gone : ℕ) (by : Offset) → by.bytes.removed ≡ taken → by.lines.removed ≡ gone → (q : Piece) → BeginsBehind (from + taken) (start + gone) q → LiesBehind by q
behind_is from start taken gone by e f q h =
    let at = h.0 in
    let line = h.1 in
    (omega (arith, e, at), omega (arith, f, line))

pub can_move : (year : Option ℕ) (text bytes : List ℕ) (items : List Placed) (n : ℕ) (p : Piece) → IsEntryOf text n p → items_in year text ≡ Ok items → length text + length bytes + 1 < 2 ^ 64
    → AllByRecursion (CanMovePlaced (offset_of text p bytes)) (drop (suc n) items)
can_move year text bytes items n p of read short =
    let c = found text n p of in
    let t = told year text items n p c read in
    let by = offset_of text p bytes in
    let lines : length text + by.lines.added + 1 < 2 ^ 64 = omega (arith, short, few_added bytes) in
    let within : AllByRecursion (IsWithin (length text)) (rest text n p c) =
    subst (λ (ps : List Piece). AllByRecursion (IsWithin (length text)) ps) (rest_is text n p c) (all_drop (IsWithin (length text)) (suc n) (items_of text) (all_within text)) in
    let behind = all_map (BeginsBehind (p.at + p.len) (p.line + by.lines.removed)) (LiesBehind by) (behind_is p.at p.line p.len by.lines.removed by refl refl) (rest text n p c) (all_behind text n p c bytes) in
    subst (λ (is : List Placed). AllByRecursion (CanMovePlaced by) is) (sym (later_is year text items n p c t))
    (can-each year text by (length text) short lines (items_at t.before ++ t.old ∷ []) (rest text n p c) t.later within behind t.later_read)

can-piece : (by : Offset) (size : ℕ) (p : Piece) → size + by.bytes.added + 1 < 2 ^ 64 → size + by.lines.added + 1 < 2 ^ 64 → IsWithin size p → LiesBehind by p → CanMovePiece by p
can-piece by size p bytes lines within behind =
    let low = behind.0 in
    let below = behind.1 in
    let end = within.bytes in
    let last = within.lines in
    record { at = record { behind = low; below = omega (arith, bytes, end) }; line = record { behind = below; below = omega (arith, lines, last) } }

can-pieces : (by : Offset) (size : ℕ) (ps : List Piece) → size + by.bytes.added + 1 < 2 ^ 64 → size + by.lines.added + 1 < 2 ^ 64 → AllByRecursion (IsWithin size) ps → AllByRecursion (LiesBehind by) ps → AllByRecursion (CanMovePiece by) ps
can-pieces by size [] bytes lines within behind = tt
can-pieces by size (p ∷ ps) bytes lines within behind = (can-piece by size p bytes lines within.0 behind.0, can-pieces by size ps bytes lines within.1 behind.1)

pub can_move_pieces : (text bytes : List ℕ) (n : ℕ) (p : Piece) → IsEntryOf text n p → length text + length bytes + 1 < 2 ^ 64
    → AllByRecursion (CanMovePiece (offset_of text p bytes)) (drop (suc n) (items_of text))
can_move_pieces text bytes n p of short =
    let c = found text n p of in
    let by = offset_of text p bytes in
    let lines : length text + by.lines.added + 1 < 2 ^ 64 = omega (arith, short, few_added bytes) in
    let behind = all_map (BeginsBehind (p.at + p.len) (p.line + by.lines.removed)) (LiesBehind by) (behind_is p.at p.line p.len by.lines.removed by refl refl) (rest text n p c) (all_behind text n p c bytes) in
    can-pieces by (length text) (drop (suc n) (items_of text)) short lines (all_drop (IsWithin (length text)) (suc n) (items_of text) (all_within text))
    (subst (λ (ps : List Piece). AllByRecursion (LiesBehind by) ps) (sym (rest_is text n p c)) behind)
