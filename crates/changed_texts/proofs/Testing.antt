-- Bytes that end with the end of a line and are cut into one piece, an entry, are one entry; and no others.
use Rattle.std.proofs.Common.{ℕ, ◌≡◌, ◌+◌, Bool, true, false, cond, ◌==◌, ◌&&◌, not, List, [], ◌∷◌, count_by, length, drop, refl, sym, ap, ◌∙◌, arith}
use Rattle.std.specs.List.{list_all, prefix_len, slice_get, AllByRecursion}
use Rattle.std.proofs.lemmas.Bool.{eqb-true, false≢true}
use Rattle.std.proofs.lemmas.List.{nil_from_length}
use Rattle.std.proofs.lemmas.List.Sums.{sum_by-cons}
use Rattle.hl_base.specs.Items.{cut_from, is_indented, items_of}
use Rattle.hl_base.specs.Lines.{first_line, lines_of}
use Rattle.hl_base.specs.Pieces.{bytes_in}
use Rattle.hl_base.specs.declared.items.Kind.{Kind}
use Rattle.hl_base.specs.declared.items.Kind.TheVariants as kinds
use Rattle.hl_base.specs.declared.items.Piece.{Piece}
use Rattle.hl_base.proofs.LineLemmas.{lines_split}
use Rattle.entry_reader.proofs.Both.{both_true}
use Rattle.changed_texts.proofs.Lists.{all_tested}
use Rattle.changed_texts.specs.Meeting.{AreEntries, are_entries, begins_indented, is_ended, is_entry_or_gap}
use Rattle.changed_texts.specs.OneEntry.{HasOneEntry, is_entry_piece}
use Rattle.text_ends.specs.Ends.{ends_line}
use Rattle.changed_texts.specs.Replacing.{IsEntry, is_entry_in, is_entry_kind, is_one_entry}
use Rattle.changed_texts.proofs.Cuts.{piece}

pub kind_is : (k : Kind) → is_entry_kind k ≡ true → k ≡ kinds.Entry
kind_is kinds.Entry h = refl
kind_is kinds.Gap h = absurd (false≢true h)
kind_is kinds.Block h = absurd (false≢true h)
kind_is kinds.Head h = absurd (false≢true h)
kind_is kinds.Stray h = absurd (false≢true h)

piece_is : (q : Piece) (qs : List Piece) (size : ℕ) → q.at ≡ 0 → q.line ≡ 1 → bytes_in (q ∷ qs) ≡ size → is_one_entry (q ∷ qs) ≡ true → q ∷ qs ≡ piece 0 size 1 kinds.Entry ∷ []
piece_is q qs size at line whole one =
    let both = both_true (length (q ∷ qs) == 1) (is_entry_in (slice_get (q ∷ qs) 0)) one in
    let count : length (q ∷ qs) ≡ 1 = eqb-true (length (q ∷ qs)) 1 both.0 in
    let none : qs ≡ [] = nil_from_length qs (omega (arith, count)) in
    let nothing : bytes_in qs ≡ 0 = ap bytes_in none in
    let len : q.len ≡ size = omega (arith, whole, nothing, sum_by-cons (λ (p : Piece). p.len) q qs) in
    let kind : q.kind ≡ kinds.Entry = kind_is q.kind both.1 in
    λ i. piece (at i) (len i) (line i) (kind i) ∷ none i

lines_are : (ls : List (List ℕ)) (size : ℕ) → bytes_in (cut_from 0 0 1 ls) ≡ size → is_one_entry (cut_from 0 0 1 ls) ≡ true → cut_from 0 0 1 ls ≡ piece 0 size 1 kinds.Entry ∷ []
lines_are [] size whole one = absurd (false≢true one)
lines_are (l ∷ ls) size whole one = piece_is _ _ size refl refl whole one

pub is_one : (bytes : List ℕ) (pieces : List Piece) → pieces ≡ items_of bytes → bytes_in pieces ≡ length bytes → (ends_line bytes && is_one_entry pieces) ≡ true → IsEntry bytes
is_one bytes pieces cut whole h =
    let both = both_true (ends_line bytes) (is_one_entry pieces) h in
    record { ends = both.0; one = lines_are (lines_of bytes) (length bytes) (ap bytes_in (sym cut) ∙ whole) (ap is_one_entry (sym cut) ∙ both.1) }

pub is_none : (bytes : List ℕ) (pieces : List Piece) → pieces ≡ items_of bytes → (ends_line bytes && is_one_entry pieces) ≡ false → IsEntry bytes → ⊥
is_none bytes pieces cut h entry =
    let ends = entry.ends in
    let one : is_one_entry pieces ≡ true = ap is_one_entry (cut ∙ entry.one) in
    false≢true (sym h ∙ (λ i. ends i && one i))

pub tested : {a b c d e : Bool} → a ≡ (b && c) → b ≡ d → c ≡ e → a ≡ (d && e)
tested h k l = h ∙ (λ i. k i && l i)

-- ---- entries and gaps

pub not_true : (b : Bool) → not b ≡ true → b ≡ false
not_true true h = absurd (false≢true h)
not_true false h = refl

pub unindented : (bytes : List ℕ) → begins_indented bytes ≡ false → prefix_len is_indented (lines_of bytes) ≡ 0
unindented [] h = refl
unindented (b ∷ bs) h =
    let rest = lines_of (drop (length (first_line (b ∷ bs))) (b ∷ bs)) in
    ap (prefix_len is_indented) (lines_split (b ∷ bs) (omega arith)) ∙ ap (λ (t : Bool). cond t (1 + prefix_len is_indented rest) 0) h

first_by : (t : Bool) (n : ℕ) → cond t (1 + n) 0 ≡ 0 → t ≡ false
first_by true n h = absurd (omega (arith, h))
first_by false n h = refl

pub indented : (bytes : List ℕ) → prefix_len is_indented (lines_of bytes) ≡ 0 → begins_indented bytes ≡ false
indented [] h = refl
indented (b ∷ bs) h =
    let rest = lines_of (drop (length (first_line (b ∷ bs))) (b ∷ bs)) in
    first_by (is_indented (first_line (b ∷ bs))) (prefix_len is_indented rest) (sym (ap (prefix_len is_indented) (lines_split (b ∷ bs) (omega arith))) ∙ h)

pub all_pass : (p : Piece → Bool) (ps : List Piece) → AllByRecursion (λ q. p q ≡ true) ps → list_all p ps ≡ true
all_pass p [] h = refl
all_pass p (q ∷ qs) h = (λ i. h.0 i && all_pass p qs h.1 i)

pub entries_are : (bytes : List ℕ) (pieces : List Piece) → pieces ≡ items_of bytes → are_entries bytes pieces ≡ true → AreEntries bytes
entries_are bytes pieces cut h =
    let both = both_true (is_ended bytes && not (begins_indented bytes)) (list_all (λ q. is_entry_or_gap q.kind) pieces) h in
    let ends = both_true (is_ended bytes) (not (begins_indented bytes)) both.0 in
    record {
      ends = ends.0;
      first = unindented bytes (not_true (begins_indented bytes) ends.1);
      kinds = all_tested (λ q. is_entry_or_gap q.kind) (items_of bytes) (ap (list_all (λ q. is_entry_or_gap q.kind)) (sym cut) ∙ both.1);
    }

pub entries_none : (bytes : List ℕ) (pieces : List Piece) → pieces ≡ items_of bytes → are_entries bytes pieces ≡ false → AreEntries bytes → ⊥
entries_none bytes pieces cut h entries =
    let all : list_all (λ q. is_entry_or_gap q.kind) pieces ≡ true = ap (list_all (λ q. is_entry_or_gap q.kind)) cut ∙ all_pass (λ q. is_entry_or_gap q.kind) (items_of bytes) entries.kinds in
    let ends = entries.ends in
    let first = indented bytes entries.first in
    false≢true (sym h ∙ (λ i. (ends i && not (first i)) && all i))

pub tested_all : {a b c d e f g h : Bool} → a ≡ (b && c) → b ≡ (d && not e) → d ≡ f → e ≡ g → c ≡ h → a ≡ ((f && not g) && h)
tested_all {h = h} k l m n o = k ∙ (λ i. l i && o i) ∙ ap (λ (t : Bool). t && h) (λ i. m i && not (n i))

-- ---- one entry among gaps

abbrev have_one : List Piece → Bool
have_one pieces = count_by is_entry_piece pieces == 1

pub one_entry : (bytes : List ℕ) (pieces : List Piece) → pieces ≡ items_of bytes → ((is_ended bytes && not (begins_indented bytes)) && (list_all (λ q. is_entry_or_gap q.kind) pieces && have_one pieces)) ≡ true → HasOneEntry bytes
one_entry bytes pieces cut h =
    let parts = both_true (is_ended bytes && not (begins_indented bytes)) (list_all (λ q. is_entry_or_gap q.kind) pieces && have_one pieces) h in
    let kinds = both_true (list_all (λ q. is_entry_or_gap q.kind) pieces) (have_one pieces) parts.1 in
    record {
      entries = entries_are bytes pieces cut (λ i. parts.0 i && kinds.0 i);
      one = sym (ap (count_by is_entry_piece) cut) ∙ eqb-true (count_by is_entry_piece pieces) 1 kinds.1;
    }

pub none_entry : (bytes : List ℕ) (pieces : List Piece) → pieces ≡ items_of bytes → ((is_ended bytes && not (begins_indented bytes)) && (list_all (λ q. is_entry_or_gap q.kind) pieces && have_one pieces)) ≡ false → HasOneEntry bytes → ⊥
none_entry bytes pieces cut h one =
    let entries = one.entries in
    let all : list_all (λ q. is_entry_or_gap q.kind) pieces ≡ true = ap (list_all (λ q. is_entry_or_gap q.kind)) cut ∙ all_pass (λ q. is_entry_or_gap q.kind) (items_of bytes) entries.kinds in
    let ends = entries.ends in
    let first = indented bytes entries.first in
    let count : have_one pieces ≡ true = ap (λ (n : ℕ). n == 1) (ap (count_by is_entry_piece) cut ∙ one.one) in
    false≢true (sym h ∙ (λ i. (ends i && not (first i)) && (all i && count i)))

pub tested_one : {a b c d e f g h k : Bool} → a ≡ (b && c) → b ≡ (d && not e) → c ≡ (h && k) → d ≡ f → e ≡ g → {m n : Bool} → h ≡ m → k ≡ n → a ≡ ((f && not g) && (m && n))
tested_one l o p q r s t = l ∙ (λ i. o i && p i) ∙ (λ i. (q i && not (r i)) && (s i && t i))
