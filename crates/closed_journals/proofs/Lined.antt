-- Each line of an entry as it is shown is one line of a text.
use Rattle.std.proofs.Common.{ℕ, ◌≡◌, ◌+◌, ◌<◌, Bool, true, false, cond, int_lt, ltb, ◌==◌, ◌&&◌, ◌||◌, not, List, [], ◌∷◌, ◌++◌, length, map, replicate, pos, unsigned_abs, refl, sym, ap, subst, ◌∙◌, arith, append_assoc, append-nil}
use Rattle.std.specs.List.{list_all, suffix_len, AllByRecursion}
use Rattle.std.specs.Str.{is_utf8}
use Rattle.std.proofs.lemmas.Bool.{false≢true}
use Rattle.std.proofs.lemmas.Bool.Decides.{nat_tests}
use Rattle.hl_base.specs.Items.{is_blank, is_indented, is_white}
use Rattle.hl_num.specs.Decimal.{Decimal}
use Rattle.hl_num.specs.Reading.{is_digit, is_number_byte}
use Rattle.hl_time.specs.Calendar.{IsDay}
use Rattle.book.specs.Printed.{gap_of, printed_symbol, stands_unquoted}
use Rattle.book_care.specs.Entries.{Writing}
use Rattle.book_care.specs.Lines.{Moved}
use Rattle.entry_reader.proofs.Both.{both_true}
use Rattle.entry_reader.specs.Contexts.{Context, decided_mark}
use Rattle.entry_reader.specs.Heads.{is_date_byte}
use Rattle.entry_reader.specs.Lines.{first_is, has_byte}
use Rattle.entry_reader.specs.Symbols.{is_punctuation, is_symbol_mark}
use Rattle.journal_printer.specs.Texts.{calendar_text}
use Rattle.journal_printer.specs.declared.widths.Widths.{Widths}
use Rattle.written_logs.proofs.Bytes.{all_also, is_inside, solid_append, solid_last, utf8_append, utf8_ascii}
use Rattle.written_logs.proofs.Days.{shown_bytes}
use Rattle.written_logs.proofs.Lines.{ended, IsLine, AreLines, all_append, all_spaces}
use Rattle.closed_journals.proofs.Amounts.{IsShort, IsWritable, amount_bytes, number_bytes, shown_mark, with_sign}
use Rattle.closed_journals.proofs.Digits.{IsDecided, decided_mark_is, digits, digits_all, digits_first}
use Rattle.closed_journals.proofs.Entries.{AreLinesOf, IsLineOf, IsTitle, all_shown, entry_lines, head_bytes, shown_in, widths}
use Rattle.closed_journals.proofs.Names.{IsWhole}
use Rattle.closed_journals.proofs.Postings.{content_of, contents, line_bytes}
use Rattle.closed_journals.proofs.Symbols.{IsSymbol}

-- ---- solid texts

-- a text in UTF-8 on one line, which has a byte, and none of white space at its end
record IsPart (xs : List ℕ) : Type 0 where
  line : IsLine xs
  some : 0 < length xs

solid_all : (xs : List ℕ) → 0 < length xs → list_all (λ b. not (is_white b)) xs ≡ true → suffix_len is_white xs ≡ 0
solid_all [] some h = absurd (omega arith)
solid_all (b ∷ []) some h = last b (both_true (not (is_white b)) true h).0
  where
    last : (b : ℕ) → not (is_white b) ≡ true → suffix_len is_white (b ∷ []) ≡ 0
    last b k = by (is_white b) k
      where
        by : (t : Bool) → not t ≡ true → cond t (1 + 0) 0 ≡ 0
        by true k = absurd (false≢true k)
        by false k = refl
solid_all (b ∷ c ∷ cs) some h = solid_append (b ∷ []) (c ∷ cs) (omega arith) (solid_all (c ∷ cs) (omega arith) (both_true (not (is_white b)) (list_all (λ b. not (is_white b)) (c ∷ cs)) h).1)

part_behind : (xs ys : List ℕ) → is_utf8 xs ≡ true → list_all is_inside xs ≡ true → IsPart ys → IsPart (xs ++ ys)
part_behind xs ys utf8 line p = record {
  line = record {
    utf8 = utf8_append xs ys utf8 (p.line).utf8;
    line = all_append is_inside xs ys line (p.line).line;
    last = solid_append xs ys p.some (p.line).last;
  };
  some = more xs ys p.some;
}
  where
    more : (xs ys : List ℕ) → 0 < length ys → 0 < length (xs ++ ys)
    more [] ys h = h
    more (x ∷ xs) ys h = omega arith

-- ---- numbers

number_low : (b : ℕ) → is_number_byte b ≡ true → ltb b 128 ≡ true
number_low b h = grind (arith, nat_tests)

number_inside : (b : ℕ) → is_number_byte b ≡ true → is_inside b ≡ true
number_inside b h = grind (arith, nat_tests)

number_solid : (b : ℕ) → is_number_byte b ≡ true → not (is_white b) ≡ true
number_solid b h = grind (arith, nat_tests)

some_first : (p : ℕ → Bool) (xs : List ℕ) → first_is p xs ≡ true → 0 < length xs
some_first p [] h = absurd (false≢true h)
some_first p (x ∷ xs) h = omega arith

signed_part : (negative : Bool) (ds : List ℕ) → list_all is_number_byte ds ≡ true → 0 < length ds → IsPart (with_sign negative ds)
signed_part negative ds all some = by negative
  where
    plain : IsPart ds
    plain = record {
      line = record {
        utf8 = utf8_ascii ds (all_also is_number_byte (λ b. ltb b 128) ds number_low all);
        line = all_also is_number_byte is_inside ds number_inside all;
        last = solid_all ds some (all_also is_number_byte (λ b. not (is_white b)) ds number_solid all);
      };
      some = some;
    }

    by : (t : Bool) → IsPart (with_sign t ds)
    by true = part_behind (45 ∷ []) ds (utf8_ascii (45 ∷ []) refl) refl plain
    by false = plain

-- ---- symbols

first_false : (a b c d : Bool) → not (a || b || c || d) ≡ true → not a ≡ true
first_false true b c d h = h
first_false false b c d h = refl

white_parts : (b : ℕ) → stands_unquoted b ≡ true → not (is_white b) ≡ true
white_parts b h = first_false (is_white b) (b == 10) (is_digit b) (is_punctuation b && not (is_symbol_mark b)) h

symbol_by : (t : Bool) (b : ℕ) (bs : List ℕ) → list_all stands_unquoted (b ∷ bs) ≡ t → IsSymbol (b ∷ bs) → IsPart (cond t (b ∷ bs) (34 ∷ b ∷ (bs ++ 34 ∷ [])))
symbol_by true b bs e is = record {
  line = record { utf8 = is.utf8; line = is.line; last = solid_all (b ∷ bs) (omega arith) (all_also stands_unquoted (λ b. not (is_white b)) (b ∷ bs) white_parts e) };
  some = omega arith;
}
symbol_by false b bs e is = record {
  line = record {
    utf8 = utf8_append (34 ∷ []) (b ∷ (bs ++ 34 ∷ [])) (utf8_ascii (34 ∷ []) refl) (utf8_append (b ∷ bs) (34 ∷ []) is.utf8 (utf8_ascii (34 ∷ []) refl));
    line = all_append is_inside (34 ∷ []) (b ∷ (bs ++ 34 ∷ [])) refl (all_append is_inside (b ∷ bs) (34 ∷ []) is.line refl);
    last = solid_last (34 ∷ b ∷ bs) 34 refl;
  };
  some = omega arith;
}

symbol_part : (b : ℕ) (bs : List ℕ) → IsSymbol (b ∷ bs) → IsPart (printed_symbol (b ∷ bs))
symbol_part b bs is = symbol_by (list_all stands_unquoted (b ∷ bs)) b bs refl is

gap_utf8 : (spaced : Bool) → is_utf8 (gap_of spaced) ≡ true
gap_utf8 true = utf8_ascii (32 ∷ []) refl
gap_utf8 false = utf8_ascii [] refl

gap_line : (spaced : Bool) → list_all is_inside (gap_of spaced) ≡ true
gap_line true = refl
gap_line false = refl

-- ---- amounts

number_part : (context : Context) (symbol : List ℕ) (v : Decimal) → IsDecided (decided_mark context symbol) → IsShort v → IsPart (number_bytes context symbol v)
number_part context symbol v decided short =
    let ds = digits (shown_mark context symbol) (unsigned_abs v.mantissa) v.places in
    signed_part (int_lt v.mantissa (pos 0)) ds
    (digits_all (shown_mark context symbol) (unsigned_abs v.mantissa) v.places (decided_mark_is (decided_mark context symbol) decided) short.few short.small)
    (subst (λ (xs : List ℕ). 0 < length xs) (append-nil ds) (some_first is_digit (ds ++ []) (digits_first (shown_mark context symbol) (unsigned_abs v.mantissa) v.places [] short.small)))

amount_part : (context : Context) (left spaced : Bool) (symbol : List ℕ) (v : Decimal) → IsDecided (decided_mark context symbol) → IsWritable context symbol → IsShort v → IsPart (amount_bytes context left spaced symbol v)
amount_part context left spaced [] v decided is short = number_part context [] v decided short
amount_part context true spaced (b ∷ bs) v decided is short =
    let shown = (symbol_part b bs is).line in
    part_behind (printed_symbol (b ∷ bs) ++ gap_of spaced) (number_bytes context (b ∷ bs) v)
    (utf8_append (printed_symbol (b ∷ bs)) (gap_of spaced) shown.utf8 (gap_utf8 spaced)) (all_append is_inside (printed_symbol (b ∷ bs)) (gap_of spaced) shown.line (gap_line spaced))
    (number_part context (b ∷ bs) v decided short)
amount_part context false spaced (b ∷ bs) v decided is short =
    let number = (number_part context (b ∷ bs) v decided short).line in
    part_behind (number_bytes context (b ∷ bs) v ++ gap_of spaced) (printed_symbol (b ∷ bs))
    (utf8_append (number_bytes context (b ∷ bs) v) (gap_of spaced) number.utf8 (gap_utf8 spaced)) (all_append is_inside (number_bytes context (b ∷ bs) v) (gap_of spaced) number.line (gap_line spaced))
    (symbol_part b bs is)

-- ---- lines

no_line_feed : (name : List ℕ) → has_byte 10 name ≡ false → list_all is_inside name ≡ true
no_line_feed [] h = refl
no_line_feed (b ∷ bs) h = by (b == 10) (has_byte 10 bs) (no_line_feed bs) h
  where
    by : (t u : Bool) → (u ≡ false → list_all is_inside bs ≡ true) → (t || u) ≡ false → (not t && list_all is_inside bs) ≡ true
    by true u f h = absurd (false≢true (sym h))
    by false u f h = f h

spaces_utf8 : (n : ℕ) → is_utf8 (replicate n 32) ≡ true
spaces_utf8 n = utf8_ascii (replicate n 32) (all_spaces (λ b. ltb b 128) n refl)

line_part : (name amount : List ℕ) (i j : ℕ) → is_utf8 name ≡ true → list_all is_inside name ≡ true → IsPart amount → IsPart (line_bytes name i j amount)
line_part name amount i j utf8 line p =
    let back = part_behind (replicate i 32) (replicate j 32 ++ amount) (spaces_utf8 i) (all_spaces is_inside i refl) (part_behind (replicate j 32) amount (spaces_utf8 j) (all_spaces is_inside j refl) p) in
    part_behind (32 ∷ 32 ∷ 32 ∷ 32 ∷ []) (name ++ 32 ∷ 32 ∷ (replicate i 32 ++ (replicate j 32 ++ amount))) (utf8_ascii (32 ∷ 32 ∷ 32 ∷ 32 ∷ []) refl) refl
    (part_behind name (32 ∷ 32 ∷ (replicate i 32 ++ (replicate j 32 ++ amount))) utf8 line
    (part_behind (32 ∷ 32 ∷ []) (replicate i 32 ++ (replicate j 32 ++ amount)) (utf8_ascii (32 ∷ 32 ∷ []) refl) refl back))

content_line : (context : Context) (styles : Writing) (w : Widths) (m : Moved) → IsLineOf context m → IsLine (content_of (shown_in context styles w m))
content_line context styles w m is =
    let s = shown_in context styles w m in
    (line_part m.account s.amount s.left s.right is.utf8 (no_line_feed m.account (is.whole).line)
    (amount_part context (styles m.symbol).shape.left (styles m.symbol).shape.spaced m.symbol m.value is.decided is.symbol is.short)).line

contents_lines : (context : Context) (styles : Writing) (w : Widths) (ms : List Moved) → AreLinesOf context ms → AreLines (contents (all_shown context styles w ms))
contents_lines context styles w [] are = tt
contents_lines context styles w (m ∷ ms) are = (content_line context styles w m are.0, contents_lines context styles w ms are.1)

date_low : (b : ℕ) → is_date_byte b ≡ true → ltb b 128 ≡ true
date_low b h = grind (arith, nat_tests)

date_inside : (b : ℕ) → is_date_byte b ≡ true → is_inside b ≡ true
date_inside b h = grind (arith, nat_tests)

head_line : (day : ℕ) (d : List ℕ) → IsDay day → IsTitle d → IsLine (head_bytes day d)
head_line day d within is =
    let date = shown_bytes day within in
    let title : IsPart d = record { line = record { utf8 = utf8_ascii d is.ascii; line = is.line; last = is.last }; some = is.some } in
    (part_behind (calendar_text day) (32 ∷ d) (utf8_ascii (calendar_text day) (all_also is_date_byte (λ b. ltb b 128) (calendar_text day) date_low date)) (all_also is_date_byte is_inside (calendar_text day) date_inside date)
    (part_behind (32 ∷ []) d (utf8_ascii (32 ∷ []) refl) refl title)).line

pub entry_is_lines : (context : Context) (styles : Writing) (day : ℕ) (d : List ℕ) (ms : List Moved) → IsDay day → IsTitle d → AreLinesOf context ms → AreLines (entry_lines context styles day d ms)
entry_is_lines context styles day d ms within title are = (head_line day d within title, contents_lines context styles (widths context styles ms) ms are)

-- ---- indented lines

not_blank : (name rest : List ℕ) → IsWhole name → ((length name ≡ 0) → ⊥) → is_blank (name ++ rest) ≡ false
not_blank [] rest is some = absurd (some refl)
not_blank (b ∷ bs) rest is some = by (is_white b) (b == 10) (has_byte 10 bs) is.first is.line
  where
    by : (w l m : Bool) → w ≡ false → (l || m) ≡ false → ((w || l) && is_blank (bs ++ rest)) ≡ false
    by true l m e f = absurd (false≢true (sym e))
    by false true m e f = absurd (false≢true (sym f))
    by false false m e f = refl

pub all_indented : (context : Context) (styles : Writing) (w : Widths) (ms : List Moved) → AreLinesOf context ms → AllByRecursion (λ l. is_indented l ≡ true) (map ended (contents (all_shown context styles w ms)))
all_indented context styles w [] are = tt
all_indented context styles w (m ∷ ms) are =
    let s = shown_in context styles w m in
    let rest : List ℕ = 32 ∷ 32 ∷ (replicate s.left 32 ++ (replicate s.right 32 ++ s.amount)) in
    (ap not (ap is_blank (append_assoc m.account rest (10 ∷ [])) ∙ not_blank m.account (rest ++ 10 ∷ []) (are.0).whole (are.0).some), all_indented context styles w ms are.1)
