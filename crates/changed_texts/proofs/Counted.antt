-- The transactions of a text in which any entries and gaps stand in the place of an entry.
use Rattle.std.proofs.Common.{ℕ, zero, suc, ◌≡◌, ◌+◌, ◌-◌, Bool, true, false, cond, ◌&&◌, List, [], ◌∷◌, ◌++◌, take, drop, map, Option, Ok, refl, sym, ap, subst, ◌∙◌, arith, append_assoc, append-nil}
use Rattle.std.specs.List.{concat, AllByRecursion}
use Rattle.hl_base.specs.Items.{items_of, kind_of}
use Rattle.hl_base.specs.Lines.{first_line, lines_of}
use Rattle.hl_base.specs.declared.items.Piece.{Piece}
use Rattle.book.specs.Postings.{txn_in, txns_of}
use Rattle.book.specs.declared.item.Item.{Item}
use Rattle.book.specs.declared.item.Item.TheVariants as item
use Rattle.book.specs.declared.item.Placed.{Placed}
use Rattle.book.specs.declared.transaction.Txn.{Txn}
use Rattle.entry_reader.specs.Contexts.{context_of}
use Rattle.journal_reader.specs.Items.{items_in, reading_from}
use Rattle.moved_lines.proofs.Numbering.{items-moved}
use Rattle.moved_lines.specs.Moving.{moved_item, moved_placed, moved_txn}
use Rattle.moved_lines.specs.declared.shift.Offset.{Offset}
use Rattle.moved_lines.specs.declared.shift.Shift.{Shift}
use Rattle.text_ends.specs.Growth.{shifted}
use Rattle.text_ends.specs.Ends.{items_at}
use Rattle.text_ends.proofs.Lining.{concat_lines}
use Rattle.text_ends.proofs.Stepping.{ok_same}
use Rattle.changed_texts.proofs.Joining.{read_none}
use Rattle.changed_texts.specs.Meeting.{further_on, meeting_items, met_items, said_behind, with_item}
use Rattle.changed_texts.specs.Replacing.{bytes_at, is_gap, offset_of}
use Rattle.changed_texts.proofs.Joined.{IsOfKind, all_of_kind, first_read, gap_kind, gap_read}
use Rattle.changed_texts.proofs.Lines.{are_lines}

-- a gap says no transaction
abbrev GapSaysNone : Placed → Type 0
GapSaysNone q = is_gap q.piece.kind ≡ true → txn_in q.item ≡ []

-- ---- lists that meet

with_txns : (p : Placed) (ys : List Placed) → AllByRecursion GapSaysNone ys → txns_of (with_item p ys) ≡ txn_in p.item ++ txns_of ys
with_txns p [] all = refl
with_txns p (q ∷ qs) all = by (is_gap p.piece.kind) (is_gap q.piece.kind) all.0
  where
    by : (s t : Bool) → (t ≡ true → txn_in q.item ≡ [])
        → txns_of (cond {A = List Placed} (s && t) (record { piece = record p.piece { len = p.piece.len + q.piece.len }; item = p.item } ∷ qs) (p ∷ q ∷ qs)) ≡ txn_in p.item ++ (txn_in q.item ++ txns_of qs)
    by true true none = sym (ap (λ (ts : List Txn). txn_in p.item ++ (ts ++ txns_of qs)) (none refl))
    by true false none = refl
    by false true none = refl
    by false false none = refl

pub meeting_txns : (xs ys : List Placed) → AllByRecursion GapSaysNone ys → txns_of (meeting_items xs ys) ≡ txns_of xs ++ txns_of ys
meeting_txns [] ys all = refl
meeting_txns (p ∷ []) ys all = with_txns p ys all ∙ ap (λ (ts : List Txn). ts ++ txns_of ys) (sym (append-nil (txn_in p.item)))
meeting_txns (p ∷ q ∷ xs) ys all =
    ap (λ (ts : List Txn). txn_in p.item ++ ts) (meeting_txns (q ∷ xs) ys all) ∙ sym (append_assoc (txn_in p.item) (txns_of (q ∷ xs)) (txns_of ys))

with_none : (p : Placed) (ys : List Placed) → GapSaysNone p → AllByRecursion GapSaysNone ys → AllByRecursion GapSaysNone (with_item p ys)
with_none p [] h all = (h, tt)
with_none p (q ∷ qs) h all = by (is_gap p.piece.kind && is_gap q.piece.kind)
  where
    by : (t : Bool) → AllByRecursion GapSaysNone (cond {A = List Placed} t (record { piece = record p.piece { len = p.piece.len + q.piece.len }; item = p.item } ∷ qs) (p ∷ q ∷ qs))
    by true = (h, all.1)
    by false = (h, all)

meeting_none : (xs ys : List Placed) → AllByRecursion GapSaysNone xs → AllByRecursion GapSaysNone ys → AllByRecursion GapSaysNone (meeting_items xs ys)
meeting_none [] ys h all = all
meeting_none (p ∷ []) ys h all = with_none p ys h.0 all
meeting_none (p ∷ q ∷ xs) ys h all = (h.0, meeting_none (q ∷ xs) ys h.1 all)

-- ---- items that are read

read_none_of : (year : Option ℕ) (before : List Item) (text : List ℕ) (ps : List Piece) (items : List Placed) → AllByRecursion (IsOfKind text) ps → reading_from year before text ps ≡ Ok items → AllByRecursion GapSaysNone items
read_none_of year before text [] items kinds h =
    subst (λ (is : List Placed). AllByRecursion GapSaysNone is) (ok_same [] items (sym (read_none year before text) ∙ h)) tt
read_none_of year before text (p ∷ ps) items kinds h =
    let f = first_read year before text p ps items h in
    subst (λ (is : List Placed). AllByRecursion GapSaysNone is) f.are
    (λ gap. ap txn_in (gap_read (context_of year before) p.line (bytes_at text p) f.said (kinds.0 ∙ gap_kind p.kind gap) f.one).gap, read_none_of year (before ++ f.said ∷ []) text ps f.more kinds.1 f.others)

-- all items of a text
text_none : (year : Option ℕ) (text : List ℕ) (items : List Placed) → items_in year text ≡ Ok items → AllByRecursion GapSaysNone items
text_none year text items h =
    read_none_of year [] text (items_of text) items (all_of_kind text 0 0 1 (lines_of text) [] (are_lines text) (sym (concat_lines text) ∙ sym (append-nil (concat (lines_of text))))) h

no_txn : (t : Txn) → t ∷ [] ≡ [] → ⊥
no_txn t h = cc

none_item : (by : Shift) (i : Item) → txn_in i ≡ [] → txn_in (moved_item by i) ≡ []
none_item by (item.Txn t) h = absurd (no_txn t h)
none_item by (item.Auto r) h = refl
none_item by (item.Periodic r) h = refl
none_item by item.Gap h = refl
none_item by item.Block h = refl
none_item by (item.Price p) h = refl
none_item by (item.Directive d) h = refl

moved_none : (by : Offset) (items : List Placed) → AllByRecursion GapSaysNone items → AllByRecursion GapSaysNone (map (moved_placed by) items)
moved_none by [] h = tt
moved_none by (q ∷ qs) h = (λ gap. none_item by.lines q.item (h.0 gap), moved_none by qs h.1)

drop_none : (n : ℕ) (items : List Placed) → AllByRecursion GapSaysNone items → AllByRecursion GapSaysNone (drop n items)
drop_none zero items h = h
drop_none (suc n) [] h = tt
drop_none (suc n) (q ∷ qs) h = drop_none n qs h.1

further_none : (at : ℕ) (items : List Placed) → AllByRecursion GapSaysNone items → AllByRecursion GapSaysNone (map (further_on at) items)
further_none at [] h = tt
further_none at (q ∷ qs) h = (h.0, further_none at qs h.1)

further_txns : (at : ℕ) (items : List Placed) → txns_of (map (further_on at) items) ≡ txns_of items
further_txns at [] = refl
further_txns at (q ∷ qs) = ap (λ (ts : List Txn). txn_in q.item ++ ts) (further_txns at qs)

-- the pieces of bytes, further down, are of their kinds
pub shifted_kinds : (bytes : List ℕ) (lines : ℕ) (ps : List Piece) → AllByRecursion (IsOfKind bytes) ps → AllByRecursion (IsOfKind bytes) (map (shifted 0 lines) ps)
shifted_kinds bytes lines [] h = tt
shifted_kinds bytes lines (p ∷ ps) h = (ap (λ (a : ℕ). kind_of (first_line (take p.len (drop a bytes)))) (no_more p.at) ∙ h.0, shifted_kinds bytes lines ps h.1)
  where
    no_more : (a : ℕ) → 0 + a ≡ a
    no_more a = omega arith

said_none : (year : Option ℕ) (before : List Item) (lines : ℕ) (bytes : List ℕ) (said : List Placed) → said_behind year before lines bytes ≡ Ok said → AllByRecursion GapSaysNone said
said_none year before lines bytes said h =
    read_none_of year before bytes (map (shifted 0 lines) (items_of bytes)) said
    (shifted_kinds bytes lines (items_of bytes) (all_of_kind bytes 0 0 1 (lines_of bytes) [] (are_lines bytes) (sym (concat_lines bytes) ∙ sym (append-nil (concat (lines_of bytes)))))) h

-- ---- all of them

-- The transactions before the entry, those of the bytes, and those behind it, moved.
pub met_txns : (year : Option ℕ) (text bytes : List ℕ) (items said : List Placed) (n : ℕ) (p : Piece) → items_in year text ≡ Ok items → said_behind year (items_at (take n items)) (p.line - 1) bytes ≡ Ok said
    → txns_of (met_items text items n p bytes said) ≡ txns_of (take n items) ++ (txns_of said ++ map (moved_txn (offset_of text p bytes).lines) (txns_of (drop (suc n) items)))
met_txns year text bytes items said n p read h =
    let by = offset_of text p bytes in
    let behind = map (moved_placed by) (drop (suc n) items) in
    let middle = map (further_on p.at) said in
    let none_behind = moved_none by (drop (suc n) items) (drop_none (suc n) items (text_none year text items read)) in
    let none_middle = further_none p.at said (said_none year (items_at (take n items)) (p.line - 1) bytes said h) in
    meeting_txns (take n items) (meeting_items middle behind) (meeting_none middle behind none_middle none_behind)
    ∙ ap (λ (ts : List Txn). txns_of (take n items) ++ ts) (meeting_txns middle behind none_behind ∙ (λ i. further_txns p.at said i ++ items-moved zero by (drop (suc n) items) i))
