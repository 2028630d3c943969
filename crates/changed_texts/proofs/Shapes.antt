-- Bytes with exactly one entry are cut into that entry, with a gap before it or none, and with a gap behind it or none.
use Rattle.std.proofs.Common.{◌≡◌, ℕ, zero, suc, ◌+◌, Bool, true, false, cond, ◌&&◌, List, [], ◌∷◌, ◌++◌, length, map, count_by, Option, Some, None, Ok, refl, sym, ap, subst, ◌∙◌, arith}
use Rattle.std.specs.Prelude.{IfSome}
use Rattle.std.specs.Option.{option_to_list}
use Rattle.std.specs.List.{prefix_len, AllByRecursion}
use Rattle.std.proofs.lemmas.Bool.{false≢true}
use Rattle.std.proofs.lemmas.List.Folds.{length-prefix_len}
use Rattle.std.proofs.lemmas.List.Sums.{sum_by-cons}
use Rattle.hl_base.specs.Items.{cut_from, is_remark, items_of, kind_of, lines_more}
use Rattle.hl_base.specs.Lines.{lines_of}
use Rattle.hl_base.specs.declared.items.Kind.{Kind}
use Rattle.hl_base.specs.declared.items.Kind.TheVariants as kinds
use Rattle.hl_base.specs.declared.items.Piece.{Piece}
use Rattle.book.specs.declared.item.Item.{Item}
use Rattle.book.specs.declared.item.Placed.{Placed}
use Rattle.journal_reader.specs.Items.{reading_from}
use Rattle.text_ends.specs.Growth.{shifted}
use Rattle.text_ends.proofs.Stepping.{ok_same}
use Rattle.changed_texts.specs.Meeting.{is_entry_or_gap, said_behind}
use Rattle.changed_texts.specs.OneEntry.{HasOneEntry, HaveEntry, is_entry_piece}
use Rattle.changed_texts.specs.Replacing.{is_entry_kind, is_gap}
use Rattle.changed_texts.proofs.Joined.{first_read, gap_kind}
use Rattle.changed_texts.proofs.Joining.{read_none}
use Rattle.changed_texts.proofs.Meeting.{gap_is}

-- ---- kinds of pieces that follow one another

abbrev Fits : Kind → Type 0
Fits k = is_entry_or_gap k ≡ true

-- no gap stands behind a gap
abbrev Apart : List Kind → Type 0
Apart [] = Unit {0}
Apart (k ∷ []) = Unit {0}
Apart (k ∷ j ∷ ks) = ((is_gap k && is_gap j) ≡ false) × Apart (j ∷ ks)

next_apart : (k : Kind) (ks : List Kind) → Apart (k ∷ ks) → Apart ks
next_apart k [] h = tt
next_apart k (j ∷ ks) h = h.1

-- how many of some kinds are entries
abbrev entries : List Kind → ℕ
entries [] = 0
entries (k ∷ ks) = cond (is_entry_kind k) 1 0 + entries ks

abbrev gaps : Bool → List Kind
gaps true = kinds.Gap ∷ []
gaps false = []

some_more : (n : ℕ) → 1 + n ≡ 0 → ⊥
some_more n h = omega (arith, h)

none_one : zero ≡ 1 → ⊥
none_one h = omega (arith, h)

two_none : (n : ℕ) → 0 + (1 + n) ≡ 0 → ⊥
two_none n h = omega (arith, h)

no_more : (n : ℕ) → 1 + n ≡ 1 → n ≡ 0
no_more n h = omega (arith, h)

no_more_behind : (n : ℕ) → 0 + (1 + n) ≡ 1 → n ≡ 0
no_more_behind n h = omega (arith, h)

gap_alone : zero + 0 ≡ 1 → ⊥
gap_alone h = omega (arith, h)

-- kinds without an entry: a gap or none
record Tail (ks : List Kind) : Type 0 where
  behind : Bool
  is : ks ≡ gaps behind

tail : (ks : List Kind) → AllByRecursion Fits ks → Apart ks → entries ks ≡ 0 → Tail ks
tail [] all apart none = record { behind = false; is = refl }
tail (kinds.Gap ∷ []) all apart none = record { behind = true; is = refl }
tail (kinds.Gap ∷ kinds.Gap ∷ ks) all apart none = absurd (false≢true (sym apart.0))
tail (kinds.Gap ∷ kinds.Entry ∷ ks) all apart none = absurd (two_none (entries ks) none)
tail (kinds.Gap ∷ kinds.Block ∷ ks) all apart none = absurd (false≢true all.1.0)
tail (kinds.Gap ∷ kinds.Head ∷ ks) all apart none = absurd (false≢true all.1.0)
tail (kinds.Gap ∷ kinds.Stray ∷ ks) all apart none = absurd (false≢true all.1.0)
tail (kinds.Entry ∷ ks) all apart none = absurd (some_more (entries ks) none)
tail (kinds.Block ∷ ks) all apart none = absurd (false≢true all.0)
tail (kinds.Head ∷ ks) all apart none = absurd (false≢true all.0)
tail (kinds.Stray ∷ ks) all apart none = absurd (false≢true all.0)

-- kinds with exactly one entry
record Shape (ks : List Kind) : Type 0 where
  before : Bool
  behind : Bool
  is : ks ≡ gaps before ++ kinds.Entry ∷ gaps behind

shape : (ks : List Kind) → AllByRecursion Fits ks → Apart ks → entries ks ≡ 1 → Shape ks
shape [] all apart one = absurd (none_one one)
shape (kinds.Entry ∷ ks) all apart one =
    let t = tail ks all.1 (next_apart kinds.Entry ks apart) (no_more (entries ks) one) in
    record { before = false; behind = t.behind; is = ap (λ (js : List Kind). kinds.Entry ∷ js) t.is }
shape (kinds.Gap ∷ []) all apart one = absurd (gap_alone one)
shape (kinds.Gap ∷ kinds.Entry ∷ ks) all apart one =
    let t = tail ks all.1.1 (next_apart kinds.Entry ks apart.1) (no_more_behind (entries ks) one) in
    record { before = true; behind = t.behind; is = ap (λ (js : List Kind). kinds.Gap ∷ kinds.Entry ∷ js) t.is }
shape (kinds.Gap ∷ kinds.Gap ∷ ks) all apart one = absurd (false≢true (sym apart.0))
shape (kinds.Gap ∷ kinds.Block ∷ ks) all apart one = absurd (false≢true all.1.0)
shape (kinds.Gap ∷ kinds.Head ∷ ks) all apart one = absurd (false≢true all.1.0)
shape (kinds.Gap ∷ kinds.Stray ∷ ks) all apart one = absurd (false≢true all.1.0)
shape (kinds.Block ∷ ks) all apart one = absurd (false≢true all.0)
shape (kinds.Head ∷ ks) all apart one = absurd (false≢true all.0)
shape (kinds.Stray ∷ ks) all apart one = absurd (false≢true all.0)

-- ---- items of such kinds

abbrev kinds_of : List Placed → List Kind
kinds_of items = map (λ q. q.piece.kind) items

first_same : (k j : Kind) (ks js : List Kind) → k ∷ ks ≡ j ∷ js → k ≡ j
first_same k j ks js h = cc

others_same : (k j : Kind) (ks js : List Kind) → k ∷ ks ≡ j ∷ js → ks ≡ js
others_same k j ks js h = cc

no_kinds : (k : Kind) (ks : List Kind) → (let none : List Kind = [] in none) ≡ k ∷ ks → ⊥
no_kinds k ks h = cc

record Back (items : List Placed) : Type 0 where
  behind : Option Placed
  is : items ≡ option_to_list behind
  gap : IfSome behind (λ g. is_gap g.piece.kind ≡ true)

back : (b : Bool) (items : List Placed) → kinds_of items ≡ gaps b → Back items
back false [] e = record { behind = None; is = refl; gap = tt }
back false (x ∷ xs) e = absurd (no_kinds x.piece.kind (kinds_of xs) (sym e))
back true [] e = absurd (no_kinds kinds.Gap [] e)
back true (x ∷ []) e = record { behind = Some x; is = refl; gap = ap is_gap (first_same x.piece.kind kinds.Gap [] [] e) }
back true (x ∷ y ∷ xs) e = absurd (no_kinds y.piece.kind (kinds_of xs) (sym (others_same x.piece.kind kinds.Gap (kinds_of (y ∷ xs)) [] e)))

record Middle (items : List Placed) : Type 0 where
  placed : Placed
  behind : Option Placed
  is : items ≡ placed ∷ option_to_list behind
  entry : is_entry_kind placed.piece.kind ≡ true
  gap : IfSome behind (λ g. is_gap g.piece.kind ≡ true)

middle : (b : Bool) (items : List Placed) → kinds_of items ≡ kinds.Entry ∷ gaps b → Middle items
middle b [] e = absurd (no_kinds kinds.Entry (gaps b) e)
middle b (x ∷ xs) e =
    let t = back b xs (others_same x.piece.kind kinds.Entry (kinds_of xs) (gaps b) e) in
    record {
      placed = x;
      behind = t.behind;
      is = ap (λ (ys : List Placed). x ∷ ys) t.is;
      entry = ap is_entry_kind (first_same x.piece.kind kinds.Entry (kinds_of xs) (gaps b) e);
      gap = t.gap;
    }

around_by : (a b : Bool) (items : List Placed) → kinds_of items ≡ gaps a ++ kinds.Entry ∷ gaps b → HaveEntry items
around_by false b items e =
    let m = middle b items e in
    record { before = None; placed = m.placed; behind = m.behind; parts = record { are = m.is; gap_before = tt; entry = m.entry; gap_behind = m.gap } }
around_by true b [] e = absurd (no_kinds kinds.Gap (kinds.Entry ∷ gaps b) e)
around_by true b (x ∷ xs) e =
    let m = middle b xs (others_same x.piece.kind kinds.Gap (kinds_of xs) (kinds.Entry ∷ gaps b) e) in
    record {
      before = Some x;
      placed = m.placed;
      behind = m.behind;
      parts = record {
        are = ap (λ (ys : List Placed). x ∷ ys) m.is;
        gap_before = ap is_gap (first_same x.piece.kind kinds.Gap (kinds_of xs) (kinds.Entry ∷ gaps b) e);
        entry = m.entry;
        gap_behind = m.gap;
      };
    }

-- ---- what lines are cut into

abbrev kinds_in : List Piece → List Kind
kinds_in pieces = map (λ q. q.kind) pieces

abbrev NoGapFirst : List Piece → Type 0
NoGapFirst [] = Unit {0}
NoGapFirst (p ∷ ps) = is_gap p.kind ≡ false

one_more : (n : ℕ) → suc n ≡ 1 + n
one_more n = omega arith

-- behind the remarks that a gap takes no gap begins
after_run : (at line : ℕ) (ls : List (List ℕ)) → NoGapFirst (cut_from (prefix_len is_remark ls) at line ls)
after_run at line [] = tt
after_run at line (l ∷ ls) = by (is_remark l) refl (after_run (at + length l) (line + 1) ls)
  where
    by : (t : Bool) → is_remark l ≡ t → NoGapFirst (cut_from (prefix_len is_remark ls) (at + length l) (line + 1) ls) → NoGapFirst (cut_from (cond t (1 + prefix_len is_remark ls) 0) at line (l ∷ ls))
    by true e h = subst (λ (k : ℕ). NoGapFirst (cut_from k at line (l ∷ ls))) (one_more (prefix_len is_remark ls)) h
    by false e h = gap_is l ∙ e

both_false : (a b : Bool) → (a ≡ true → b ≡ false) → (a && b) ≡ false
both_false true b f = f refl
both_false false b f = refl

apart_on : (k : Kind) (ps : List Piece) → (is_gap k ≡ true → NoGapFirst ps) → Apart (kinds_in ps) → Apart (k ∷ kinds_in ps)
apart_on k [] f h = tt
apart_on k (p ∷ ps) f h = (both_false (is_gap k) (is_gap p.kind) f, h)

kinds_apart : (taken at line : ℕ) (ls : List (List ℕ)) → Apart (kinds_in (cut_from taken at line ls))
kinds_apart taken at line [] = tt
kinds_apart (suc taken) at line (l ∷ ls) = kinds_apart taken (at + length l) (line + 1) ls
kinds_apart zero at line (l ∷ ls) =
    let n = lines_more (kind_of l) ls in
    apart_on (kind_of l) (cut_from n (at + length l) (line + 1) ls)
    (λ gap. subst (λ (m : ℕ). NoGapFirst (cut_from m (at + length l) (line + 1) ls)) (sym (ap (λ (k : Kind). lines_more k ls) (gap_kind (kind_of l) gap) ∙ length-prefix_len is_remark ls)) (after_run (at + length l) (line + 1) ls))
    (kinds_apart n (at + length l) (line + 1) ls)

counted_kinds : (ps : List Piece) → count_by is_entry_piece ps ≡ entries (kinds_in ps)
counted_kinds [] = refl
counted_kinds (p ∷ ps) = sum_by-cons (λ (q : Piece). cond (is_entry_piece q) 1 0) p ps ∙ ap (λ (n : ℕ). cond (is_entry_kind p.kind) 1 0 + n) (counted_kinds ps)

all_kinds : (ps : List Piece) → AllByRecursion (λ (q : Piece). is_entry_or_gap q.kind ≡ true) ps → AllByRecursion Fits (kinds_in ps)
all_kinds [] h = tt
all_kinds (p ∷ ps) h = (h.0, all_kinds ps h.1)

-- ---- what is read

pub pieces_read : (year : Option ℕ) (before : List Item) (text : List ℕ) (ps : List Piece) (items : List Placed) → reading_from year before text ps ≡ Ok items → map (λ (q : Placed). q.piece) items ≡ ps
pieces_read year before text [] items h = sym (ap (map (λ (q : Placed). q.piece)) (ok_same [] items (sym (read_none year before text) ∙ h)))
pieces_read year before text (p ∷ ps) items h =
    let f = first_read year before text p ps items h in
    sym (ap (map (λ (q : Placed). q.piece)) f.are) ∙ ap (λ (qs : List Piece). p ∷ qs) (pieces_read year (before ++ f.said ∷ []) text ps f.more f.others)

kinds_by_pieces : (items : List Placed) → kinds_of items ≡ kinds_in (map (λ (q : Placed). q.piece) items)
kinds_by_pieces [] = refl
kinds_by_pieces (x ∷ xs) = ap (λ (ks : List Kind). x.piece.kind ∷ ks) (kinds_by_pieces xs)

kinds_shifted : (at lines : ℕ) (ps : List Piece) → kinds_in (map (shifted at lines) ps) ≡ kinds_in ps
kinds_shifted at lines [] = refl
kinds_shifted at lines (p ∷ ps) = ap (λ (ks : List Kind). p.kind ∷ ks) (kinds_shifted at lines ps)

-- what bytes with one entry say is a transaction, with gaps around it or none
pub said_around : (year : Option ℕ) (before : List Item) (lines : ℕ) (bytes : List ℕ) (said : List Placed) → HasOneEntry bytes → said_behind year before lines bytes ≡ Ok said → HaveEntry said
said_around year before lines bytes said one h =
    let ps = items_of bytes in
    let s = shape (kinds_in ps) (all_kinds ps one.entries.kinds) (kinds_apart 0 0 1 (lines_of bytes)) (sym (counted_kinds ps) ∙ one.one) in
    let same : kinds_of said ≡ kinds_in ps =
    kinds_by_pieces said ∙ ap kinds_in (pieces_read year before bytes (map (shifted 0 lines) ps) said h) ∙ kinds_shifted 0 lines ps in
    around_by s.before s.behind said (same ∙ s.is)
