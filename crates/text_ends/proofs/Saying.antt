-- A text with bytes behind it reads as its items, the last of them longer, and what the rest of the bytes says.
use Rattle.std.proofs.Common.{ℕ, ◌≡◌, ◌+◌, ◌<◌, ◌≤◌, Bool, true, false, cond, ◌&&◌, ◌||◌, not, List, [], ◌∷◌, ◌++◌, length, take, drop, map, Option, Some, None, Result, Ok, Err, refl, sym, ap, subst, ◌∙◌, arith, append_assoc, append-nil, length-append, length-take, drop-drop}
use Rattle.std.specs.Prelude.{nat_lt}
use Rattle.std.specs.List.{AllByRecursion}
use Rattle.std.specs.Str.{is_utf8}
use Rattle.std.proofs.Math.Seq.{drop-append_seam}
use Rattle.std.proofs.lemmas.Bool.{false≢true}
use Rattle.std.proofs.lemmas.List.{length-map, take-append-drop}
use Rattle.hl_base.specs.Items.{items_of, kind_of}
use Rattle.hl_base.specs.Lines.{first_line, lines_of}
use Rattle.hl_base.specs.Pieces.{bytes_left, lines_left, span}
use Rattle.hl_base.specs.declared.items.Kind.{Kind}
use Rattle.hl_base.specs.declared.items.Kind.TheVariants as kinds
use Rattle.hl_base.specs.declared.items.Piece.{Piece}
use Rattle.book.specs.declared.fault.Cause.TheVariants as cause
use Rattle.book.specs.declared.fault.Fault.{Fault}
use Rattle.book.specs.declared.item.Item.{Item}
use Rattle.book.specs.declared.item.Placed.{Placed}
use Rattle.directive_reader.specs.Directives.{head_item}
use Rattle.entry_reader.proofs.After.{after_items}
use Rattle.entry_reader.proofs.Texts.{empty_utf8}
use Rattle.entry_reader.specs.After.{context_after}
use Rattle.entry_reader.specs.Causes.{fault_at, ◌>>=◌}
use Rattle.entry_reader.specs.Contexts.{Context, context_of}
use Rattle.entry_reader.specs.Entries.{entry_of}
use Rattle.entry_reader.specs.Lines.{contents_of}
use Rattle.journal_reader.specs.Items.{broken_line, items_in, reading, reading_from, said_by}
use Rattle.text_ends.specs.Ends.{end_of, ends_line, front_of, items_at, last_of}
use Rattle.text_ends.specs.Going.{GoesOn, grown_item, grown_piece, longer}
use Rattle.text_ends.specs.Growth.{begins_apart, begins_empty, bytes_joined, goes_behind, goes_indented, growth_fault, grown_with, is_limited, joins, lacked, line_behind, lines_joined, lines_taken, outgrown, put_behind, read_on, read_rest, rest_of, shifted, taken, unless_fault}
use Rattle.text_ends.specs.declared.kept.KeptEnd.{KeptEnd}
use Rattle.text_ends.proofs.Alike.{Grows, Lacks, contents_ended, ends_behind, lacks_behind, lacks_line}
use Rattle.text_ends.proofs.Broken.{broken_behind, ends_counted, ends_in, lacks_counted, utf8_behind}
use Rattle.text_ends.proofs.Cutting as cut
use Rattle.text_ends.proofs.Cutting.{Leads, cut_shift, front_is, joined, last_is, piece, take_over}
use Rattle.text_ends.proofs.Lining.{EndsLine, concat_lines, ends_with_line, gap, lines_front}
use Rattle.text_ends.proofs.Stepping.{Ends, IsCut, IsLast, Read, before_more, bytes_at, concat_take, items_parts, limited_says, no_stray, ok_same, one_fails, one_read, placed_as, read_back, read_front, read_last, read_parts, reading_kind, reading_utf8, within_cut}

-- ---- pieces behind a front of the whole

pub drop_behind : (xs ys : List ℕ) (n : ℕ) → drop (length xs + n) (xs ++ ys) ≡ drop n ys
drop_behind xs ys n = sym (drop-drop n (length xs) (xs ++ ys)) ∙ ap (drop n) (drop-append_seam xs ys)

-- they read in the whole as they do in what is behind the front
pub read_same : (year : Option ℕ) (before : List Item) (all front rest : List ℕ) (at lines : ℕ) (ps : List Piece) (context : Context) → all ≡ front ++ rest → at ≡ length front → context ≡ context_of year before
    → reading_from year before all (map (shifted at lines) ps) ≡ read_on context at lines rest ps
unfolding reading_from read_on
read_same year before all front rest at lines [] context is e c = refl
read_same year before all front rest at lines (p ∷ ps) context is e c =
    let there : drop (at + p.at) all ≡ drop p.at rest = ap (drop (at + p.at)) is ∙ ap (λ (k : ℕ). drop (k + p.at) (front ++ rest)) e ∙ drop_behind front rest p.at in
    λ k. reading (sym c k) (lines + p.line) (take p.len (there k)) >>= λ i.
    (read_same year (before ++ i ∷ []) all front rest at lines ps (context_after context i) is e (after_items year before i context (context_after context i) c refl) k) >>= λ more.
    Ok (record { piece = shifted at lines p; item = i } ∷ more)

-- ---- what a longer piece says

-- the tests of what is put behind a last piece
pub both_of : (a b : Bool) → (a && b) ≡ true → (a ≡ true) × (b ≡ true)
both_of true b h = (refl, h)
both_of false b h = absurd (false≢true h)

-- a test of a length, and the same as a fault
by_length : (t : Bool) (fault : Fault) (i : Item) → cond {A = Result Item Fault} t (Err fault) (Ok i) ≡ unless_fault (cond t (Some fault) None) (Ok i)
by_length true fault i = refl
by_length false fault i = refl

-- An entry or a directive with the line's end that it lacks.
limited_grows : (k : Kind) (f : Context → ℕ → List (List ℕ) → Result Item Fault) (c : Context) (number size : ℕ) (own x : List ℕ) (i : Item)
    → ((context : Context) (line : ℕ) (bytes : List ℕ) → said_by k context line bytes ≡ cond {A = Result Item Fault} (nat_lt 65536 (length bytes)) (Err (fault_at line cause.TooLong)) (f context line (contents_of bytes)))
    → contents_of x ≡ contents_of own → length x ≡ size → said_by k c number own ≡ Ok i
    → said_by k c number x ≡ unless_fault (cond (nat_lt 65536 size) (Some (fault_at number cause.TooLong)) None) (Ok i)
limited_grows k f c number size own x i is same long says =
    let own_says : f c number (contents_of own) ≡ Ok i = limited_says (nat_lt 65536 (length own)) (f c number (contents_of own)) (fault_at number cause.TooLong) i (sym (is c number own) ∙ says) in
    is c number x
    ∙ (λ j. cond {A = Result Item Fault} (nat_lt 65536 (long j)) (Err (fault_at number cause.TooLong)) (f c number (same j)))
    ∙ ap (λ (r : Result Item Fault). cond {A = Result Item Fault} (nat_lt 65536 size) (Err (fault_at number cause.TooLong)) r) own_says
    ∙ by_length (nat_lt 65536 size) (fault_at number cause.TooLong) i

broken_reads : (c : Context) (number : ℕ) (bytes : List ℕ) → is_utf8 bytes ≡ false → reading c number bytes ≡ Err (fault_at (broken_line number bytes) cause.Encoding)
unfolding reading
broken_reads c number bytes h = ap (λ (t : Bool). cond {A = Result Item Fault} t (said_by (kind_of (first_line bytes)) c number bytes) (Err (fault_at (broken_line number bytes) cause.Encoding))) h

-- ---- all of it

closing : (front items : List Placed) (last : Piece) (more size : ℕ) (i : Item) (e : KeptEnd) (bytes : List ℕ) (r : Read) → front_of items ≡ front → last_of items ≡ Some (placed_as last i) → taken e bytes ≡ more
    → before_more front (r >>= λ rest. Ok (placed_as (longer more last) i ∷ rest))
    ≡ ((r >>= λ is. Ok (grown_with e bytes is)) >>= λ g. Ok (front_of items ++ (grown_item g.taken (last_of items) ++ g.items)))
closing front items last more size i e bytes (Ok rest) fe le te = λ k. Ok (sym fe k ++ (grown_item (sym te k) (sym le k) ++ rest))
closing front items last more size i e bytes (Err fault) fe le te = refl

module _ (year : Option ℕ) (b : ℕ) (bs : List ℕ) (items : List Placed) (read : items_in year (b ∷ bs) ≡ Ok items) (bytes : List ℕ) (behind : goes_behind (end_of year (b ∷ bs) items) bytes ≡ true) where
  abbrev text : List ℕ
  text = b ∷ bs

  abbrev e : KeptEnd
  e = end_of year text items

  abbrev l : List ℕ
  l = cut.l b bs

  abbrev rest : List (List ℕ)
  rest = cut.rest b bs

  abbrev head : List ℕ
  head = cut.head b bs

  abbrev own : List ℕ
  own = cut.own b bs

  abbrev ps : List Piece
  ps = cut.ps b bs

  abbrev last : Piece
  last = cut.last b bs

  abbrev at : ℕ
  at = cut.at b bs

  abbrev number : ℕ
  number = cut.number b bs

  abbrev k : Kind
  k = kind_of l

  tests : ((ends_line text || begins_empty bytes) && (not (goes_indented k) || begins_empty (drop (lacked (ends_line text)) bytes))) ≡ true
  tests = ap (begins_apart (ends_line text) bytes) (sym (cut.last_found b bs)) ∙ behind

  begins : (ends_line text || begins_empty bytes) ≡ true
  begins = (both_of (ends_line text || begins_empty bytes) (not (goes_indented k) || begins_empty (drop (lacked (ends_line text)) bytes)) tests).0

  apart : (not (goes_indented k) || begins_empty (drop (lacked (ends_line text)) bytes)) ≡ true
  apart = (both_of (ends_line text || begins_empty bytes) (not (goes_indented k) || begins_empty (drop (lacked (ends_line text)) bytes)) tests).1

  abbrev lead : Leads (ends_line text) bytes
  lead = cut.lead b bs bytes begins apart

  abbrev r : List ℕ
  r = drop (lacked (ends_line text)) bytes

  abbrev x : List ℕ
  x = own ++ lead.end

  grown : Grows l rest x
  grown = cut.grown b bs bytes begins apart

  abbrev n : ℕ
  n = joined k (cut.unclosed b bs) r

  abbrev many : ℕ
  many = span n (lines_of r)

  abbrev more : ℕ
  more = lacked (ends_line text) + many

  -- ---- how much is taken

  many_by : (t : Bool) → span (cond t (lines_left k bytes (lacked (ends_line text))) 0) (lines_of r) ≡ cond t (bytes_left k bytes (lacked (ends_line text))) 0
  many_by true = refl
  many_by false = refl

  taken_is : taken e bytes ≡ more
  taken_is = ap (bytes_joined e bytes) (cut.last_found b bs) ∙ ap (λ (j : ℕ). lacked (ends_line text) + j) (sym (many_by (joins k (cut.unclosed b bs))))

  lines_is : lines_taken e bytes ≡ n
  lines_is = ap (lines_joined e bytes) (cut.last_found b bs)

  rest_is : rest_of e bytes ≡ drop many r
  rest_is = ap (λ (j : ℕ). drop j bytes) taken_is ∙ sym (drop-drop many (lacked (ends_line text)) bytes)

  -- what the last piece takes
  abbrev tk : List ℕ
  tk = take (taken e bytes) bytes

  tk_is : tk ≡ lead.end ++ take many r
  tk_is =
      ap (λ (j : ℕ). take j bytes) taken_is
      ∙ ap (λ (j : ℕ). take (j + many) bytes) (sym lead.size)
      ∙ ap (take (length lead.end + many)) lead.is
      ∙ take_over lead.end r many

  few : many ≤ length r
  few = omega (arith, concat_take n (lines_of r), ap length (concat_lines r))

  tk_size : length tk ≡ more
  tk_size = omega (arith, ap length tk_is, length-append lead.end (take many r), lead.size, length-take many r, few)

  longer_is : own ++ tk ≡ x ++ take many r
  longer_is = ap (λ (t : List ℕ). own ++ t) tk_is ∙ sym (append_assoc own lead.end (take many r))

  -- ---- the text's own items

  none_more : (m : ℕ) → 0 + m ≡ m
  none_more m = omega arith

  parted : IsCut year [] text ps (last ∷ []) items
  parted = read_parts year [] text ps (last ∷ []) items (ap (reading_from year [] text) (sym (cut.items_are b bs)) ∙ read)

  within : AllByRecursion (Ends (length head)) ps
  within = subst (λ (m : ℕ). AllByRecursion (Ends m) ps) (none_more (length head)) (within_cut 0 0 1 (cut.fs b bs))

  front_read : reading_from year [] head ps ≡ Ok parted.front
  front_read = sym (read_back year [] head own ps within) ∙ ap (λ (t : List ℕ). reading_from year [] t ps) (sym (cut.text_is b bs)) ∙ parted.first

  abbrev c : Context
  c = context_of year (items_at parted.front)

  last_read : IsLast year (items_at parted.front) text last parted.back
  last_read = read_last year (items_at parted.front) text last parted.back parted.second

  abbrev i : Item
  i = last_read.said

  here : reading c number own ≡ Ok i
  here = ap (reading c number) (sym (bytes_at text head own [] at (length own) (cut.text_is b bs ∙ ap (λ (xs : List ℕ). head ++ xs) (sym (append-nil own))) (none_more (length head)) refl)) ∙ last_read.read_as

  own_utf8 : is_utf8 own ≡ true
  own_utf8 = reading_utf8 c number own i here

  items_is : items ≡ parted.front ++ placed_as last i ∷ []
  items_is = parted.is ∙ ap (λ (back : List Placed). parted.front ++ back) (sym last_read.is)

  fronts_are : front_of items ≡ parted.front
  fronts_are = ap (λ (xs : List Placed). front_of xs) items_is ∙ front_is parted.front (placed_as last i)

  lasts_are : last_of items ≡ Some (placed_as last i)
  lasts_are = ap (λ (xs : List Placed). last_of xs) items_is ∙ last_is parted.front (placed_as last i)

  context_is : e.context ≡ context_of year (items_at parted.front ++ i ∷ [])
  context_is = ap (λ (xs : List Placed). context_of year (items_at xs)) items_is ∙ ap (context_of year) (items_parts parted.front (placed_as last i ∷ []))

  says : said_by k c number own ≡ Ok i
  says = sym (reading_kind c number own l rest k own_utf8 (cut.own_lines b bs) refl) ∙ here

  -- ---- the longer piece

  longer_lines : lines_of (own ++ tk) ≡ grown.first ∷ (grown.others ++ lines_of (take many r))
  longer_lines = ap lines_of longer_is ∙ lines_front x (take many r) grown.ended ∙ ap (λ (ls : List (List ℕ)). ls ++ lines_of (take many r)) grown.lines

  longer_kind : kind_of grown.first ≡ k
  longer_kind = (grown.like).kind

  grown_out : outgrown (taken e bytes) e.last ≡ cond (is_limited k && nat_lt 65536 (length own + more)) (Some (fault_at number cause.TooLong)) None
  grown_out = (λ j. outgrown (taken_is j) (cut.last_found b bs j))

  contents_same : (t : Bool) → ends_line text ≡ t → contents_of (own ++ cond {A = List ℕ} t [] gap) ≡ contents_of own
  contents_same true h = ap contents_of (append-nil own)
  contents_same false h = by own (cut.own_lines b bs) (lacks_behind head own (subst Lacks (cut.text_is b bs) (lacks_line text h)))
    where
      by : (t : List ℕ) → lines_of t ≡ l ∷ rest → Lacks t → contents_of (t ++ gap) ≡ contents_of t
      by [] none g = absurd (let never : ⊥ = cc in never)
      by (d ∷ ds) some g = contents_ended d ds g

  -- an entry or a directive takes the line's end alone
  limited : (f : Context → ℕ → List (List ℕ) → Result Item Fault) → joins k (cut.unclosed b bs) ≡ false
      → ((context : Context) (line : ℕ) (t : List ℕ) → said_by k context line t ≡ cond {A = Result Item Fault} (nat_lt 65536 (length t)) (Err (fault_at line cause.TooLong)) (f context line (contents_of t)))
      → said_by k c number (own ++ tk) ≡ unless_fault (cond (nat_lt 65536 (length own + more)) (Some (fault_at number cause.TooLong)) None) (Ok i)
  limited f none is = limited_grows k f c number (length own + more) own (own ++ tk) i is same size says
    where
      no_more : take many r ≡ []
      no_more = ap (λ (t : Bool). take (span (cond t (lines_left k bytes (lacked (ends_line text))) 0) (lines_of r)) r) none

      same : contents_of (own ++ tk) ≡ contents_of own
      same =
          ap contents_of (longer_is ∙ ap (λ (t : List ℕ). x ++ t) no_more ∙ append-nil x)
          ∙ ap (λ (t : List ℕ). contents_of (own ++ t)) lead.which
          ∙ contents_same (ends_line text) refl

      size : length (own ++ tk) ≡ length own + more
      size = length-append own tk ∙ ap (λ (m : ℕ). length own + m) tk_size

  by_kind : (j : Kind) → k ≡ j → said_by k c number (own ++ tk) ≡ unless_fault (cond (is_limited k && nat_lt 65536 (length own + more)) (Some (fault_at number cause.TooLong)) None) (Ok i)
  by_kind kinds.Gap kind =
      ap (λ (j : Kind). said_by j c number (own ++ tk)) kind ∙ sym (ap (λ (j : Kind). said_by j c number own) kind) ∙ says
      ∙ sym (ap (λ (j : Kind). unless_fault (cond (is_limited j && nat_lt 65536 (length own + more)) (Some (fault_at number cause.TooLong)) None) (Ok i)) kind)
  by_kind kinds.Block kind =
      ap (λ (j : Kind). said_by j c number (own ++ tk)) kind ∙ sym (ap (λ (j : Kind). said_by j c number own) kind) ∙ says
      ∙ sym (ap (λ (j : Kind). unless_fault (cond (is_limited j && nat_lt 65536 (length own + more)) (Some (fault_at number cause.TooLong)) None) (Ok i)) kind)
  by_kind kinds.Entry kind =
      limited entry_of (ap (λ (j : Kind). joins j (cut.unclosed b bs)) kind) (λ context line t. ap (λ (j : Kind). said_by j context line t) kind)
      ∙ sym (ap (λ (j : Kind). unless_fault (cond (is_limited j && nat_lt 65536 (length own + more)) (Some (fault_at number cause.TooLong)) None) (Ok i)) kind)
  by_kind kinds.Head kind =
      limited head_item (ap (λ (j : Kind). joins j (cut.unclosed b bs)) kind) (λ context line t. ap (λ (j : Kind). said_by j context line t) kind)
      ∙ sym (ap (λ (j : Kind). unless_fault (cond (is_limited j && nat_lt 65536 (length own + more)) (Some (fault_at number cause.TooLong)) None) (Ok i)) kind)
  by_kind kinds.Stray kind = absurd (no_stray c number own i (sym (ap (λ (j : Kind). said_by j c number own) kind) ∙ says))

  some_own : 0 < length own
  some_own = omega (arith, own_some own (cut.own_lines b bs))
    where
      own_some : (t : List ℕ) → lines_of t ≡ l ∷ rest → 0 < length t
      own_some [] none = absurd (let never : ⊥ = cc in never)
      own_some (d ∷ ds) some = omega arith

  ends_own : (t : Bool) → ends_line text ≡ t → number + ends_in own ≡ length (lines_of text) + cond t 1 0
  ends_own true h =
      omega (arith, ends_counted own (ends_behind head own (subst EndsLine (cut.text_is b bs) (ends_with_line text h))), ap length (cut.own_lines b bs), ap length (cut.found b bs).is, length-append (cut.fs b bs) (l ∷ rest))
  ends_own false h =
      omega (arith, lacks_counted own some_own (lacks_behind head own (subst Lacks (cut.text_is b bs) (lacks_line text h))), ap length (cut.own_lines b bs), ap length (cut.found b bs).is, length-append (cut.fs b bs) (l ∷ rest))

  by_utf8 : (t : Bool) → is_utf8 tk ≡ t
      → reading c number (own ++ tk) ≡ unless_fault (cond t (outgrown (taken e bytes) e.last) (Some (fault_at (broken_line (line_behind e) tk) cause.Encoding))) (Ok i)
  by_utf8 true h =
      reading_kind c number (own ++ tk) grown.first (grown.others ++ lines_of (take many r)) k (utf8_behind own tk own_utf8 ∙ h) longer_lines longer_kind
      ∙ by_kind k refl
      ∙ ap (λ (o : Option Fault). unless_fault o (Ok i)) (sym grown_out)
  by_utf8 false h =
      broken_reads c number (own ++ tk) (utf8_behind own tk own_utf8 ∙ h)
      ∙ ap (λ (m : ℕ). Err (fault_at m cause.Encoding))
      (broken_behind number own tk own_utf8 ∙ ap (λ (m : ℕ). broken_line m tk) (ends_own (ends_line text) refl))

  longer_reads : reading c number (own ++ tk) ≡ unless_fault (growth_fault e bytes) (Ok i)
  longer_reads = by_utf8 (is_utf8 tk) refl

  -- ---- the whole

  abbrev left : List ℕ
  left = drop many r

  abbrev all : List ℕ
  all = head ++ (own ++ bytes)

  abbrev w : Piece
  w = piece (cut.at b bs) (length own + more) number k

  abbrev qs : List Piece
  qs = map (shifted (length text + more) (length (lines_of text) + n)) (items_of left)

  own_parts : own ++ bytes ≡ (own ++ tk) ++ left
  own_parts =
      ap (λ (t : List ℕ). own ++ t) (sym (take-append-drop (taken e bytes) bytes))
      ∙ sym (append_assoc own tk (drop (taken e bytes) bytes))
      ∙ ap (λ (t : List ℕ). (own ++ tk) ++ t) rest_is

  all_parts : all ≡ head ++ ((own ++ tk) ++ left)
  all_parts = ap (λ (t : List ℕ). head ++ t) own_parts

  w_bytes : take w.len (drop w.at all) ≡ own ++ tk
  w_bytes = bytes_at all head (own ++ tk) left at (length own + more) all_parts (none_more (length head)) (sym (length-append own tk ∙ ap (λ (m : ℕ). length own + m) tk_size))

  rest_reads : reading_from year (items_at parted.front ++ i ∷ []) all qs ≡ read_rest e bytes
  rest_reads =
      read_same year (items_at parted.front ++ i ∷ []) all (head ++ (own ++ tk)) left (length text + more) (length (lines_of text) + n) (items_of left) e.context
      (all_parts ∙ sym (append_assoc head (own ++ tk) left)) place context_is
      ∙ (λ j. read_on e.context (length text + sym taken_is j) (length (lines_of text) + sym lines_is j) (sym rest_is j) (items_of (sym rest_is j)))
    where
      place : length text + more ≡ length (head ++ (own ++ tk))
      place = omega (arith, ap length (cut.text_is b bs), length-append head own, length-append head (own ++ tk), length-append own tk, tk_size)

  abbrev told : Result (List Placed) Fault
  told = put_behind e bytes >>= λ g. Ok (front_of items ++ (grown_item g.taken (last_of items) ++ g.items))

  by_fault : (o : Option Fault) → growth_fault e bytes ≡ o → before_more parted.front (reading_from year (items_at parted.front) all (w ∷ qs)) ≡ told
  by_fault None h =
      ap (before_more parted.front)
      (one_read year (items_at parted.front) all w qs i (ap (reading c number) w_bytes ∙ longer_reads ∙ ap (λ (o : Option Fault). unless_fault o (Ok i)) h)
      ∙ ap (λ (s : Read). s >>= λ others. Ok (placed_as w i ∷ others)) rest_reads)
      ∙ closing parted.front items last more 0 i e bytes (read_rest e bytes) fronts_are lasts_are taken_is
      ∙ sym (ap (λ (o : Option Fault). unless_fault o (read_rest e bytes >>= λ is. Ok (grown_with e bytes is)) >>= λ g. Ok (front_of items ++ (grown_item g.taken (last_of items) ++ g.items))) h)
  by_fault (Some fault) h =
      ap (before_more parted.front)
      (one_fails year (items_at parted.front) all w qs fault (ap (reading c number) w_bytes ∙ longer_reads ∙ ap (λ (o : Option Fault). unless_fault o (Ok i)) h))
      ∙ sym (ap (λ (o : Option Fault). unless_fault o (read_rest e bytes >>= λ is. Ok (grown_with e bytes is)) >>= λ g. Ok (front_of items ++ (grown_item g.taken (last_of items) ++ g.items))) h)

  whole_cut : items_of (text ++ bytes) ≡ ps ++ (w ∷ qs)
  whole_cut = cut.cut_at b bs bytes begins apart

  all_is : text ++ bytes ≡ all
  all_is = ap (λ (t : List ℕ). t ++ bytes) (cut.text_is b bs) ∙ append_assoc head own bytes

  whole_reads : items_in year (text ++ bytes) ≡ told
  whole_reads =
      ap (reading_from year [] (text ++ bytes)) whole_cut
      ∙ ap (λ (t : List ℕ). reading_from year [] t (ps ++ (w ∷ qs))) all_is
      ∙ read_front year [] head (own ++ bytes) ps (w ∷ qs) parted.front within front_read
      ∙ by_fault (growth_fault e bytes) refl

  -- the pieces and the lines as they are told
  cut_told : items_of (text ++ bytes) ≡ front_of (items_of text) ++ (grown_piece (taken e bytes) (last_of (items_of text)) ++ map (shifted (length text + taken e bytes) (length (lines_of text) + lines_taken e bytes)) (items_of (rest_of e bytes)))
  cut_told =
      whole_cut
      ∙ (λ j. sym (ap (λ (xs : List Piece). front_of xs) (cut.items_are b bs) ∙ front_is ps last) j
      ++ (grown_piece (sym taken_is j) (sym (cut.last_found b bs) j) ++ map (shifted (length text + sym taken_is j) (length (lines_of text) + sym lines_is j)) (items_of (sym rest_is j))))

  lines_told : length (lines_of (text ++ bytes)) ≡ length (lines_of text) + lines_taken e bytes + length (lines_of (rest_of e bytes))
  lines_told = cut.many_lines b bs bytes begins apart ∙ (λ j. length (lines_of text) + sym lines_is j + length (lines_of (sym rest_is j)))

  count_told : length (items_of (text ++ bytes)) ≡ length (items_of text) + length (items_of (rest_of e bytes))
  count_told =
      omega (arith, ap length whole_cut, length-append ps (w ∷ qs), length-map (items_of left) (shifted (length text + more) (length (lines_of text) + n)), ap length (cut.items_are b bs), length-append ps (last ∷ []), ap (λ (t : List ℕ). length (items_of t)) rest_is)

  pub goes_on_some : GoesOn year text bytes items
  goes_on_some = record { cut = cut_told; count = count_told; lines = lines_told; read = whole_reads }

-- ---- an empty text

none_items : (year : Option ℕ) (items : List Placed) → items_in year [] ≡ Ok items → items ≡ []
unfolding reading_from
none_items year items h = let same : [] ≡ items = ok_same [] items h in sym same

empty_goes : (year : Option ℕ) (bytes : List ℕ) → GoesOn year [] bytes []
empty_goes year bytes = record {
  cut = cut_shift 0 0 0 0 1 (lines_of bytes);
  count = let z : length (items_of bytes) ≡ 0 + length (items_of bytes) = omega arith in z;
  lines = let z : length (lines_of bytes) ≡ 0 + 0 + length (lines_of bytes) = omega arith in z;
  read = reads;
}
  where
    quiet : growth_fault (end_of year [] []) bytes ≡ None
    quiet = ap (λ (t : Bool). cond {A = Option Fault} t None (Some (fault_at (broken_line (line_behind (end_of year [] [])) []) cause.Encoding))) empty_utf8

    apart : (r : Read) → r ≡ ((r >>= λ is. Ok (grown_with (end_of year [] []) bytes is)) >>= λ g. Ok (front_of [] ++ (grown_item g.taken (last_of []) ++ g.items)))
    apart (Ok more) = refl
    apart (Err fault) = refl

    reads : items_in year bytes ≡ (put_behind (end_of year [] []) bytes >>= λ g. Ok (front_of [] ++ (grown_item g.taken (last_of []) ++ g.items)))
    reads =
        ap (reading_from year [] bytes) (cut_shift 0 0 0 0 1 (lines_of bytes))
        ∙ read_same year [] bytes [] bytes 0 0 (items_of bytes) (context_of year []) refl refl refl
        ∙ apart (read_rest (end_of year [] []) bytes)
        ∙ sym (ap (λ (o : Option Fault). unless_fault o (read_rest (end_of year [] []) bytes >>= λ is. Ok (grown_with (end_of year [] []) bytes is)) >>= λ g. Ok (front_of [] ++ (grown_item g.taken (last_of []) ++ g.items))) quiet)

pub goes_on : (year : Option ℕ) (text bytes : List ℕ) (items : List Placed) → items_in year text ≡ Ok items → goes_behind (end_of year text items) bytes ≡ true → GoesOn year text bytes items
goes_on year [] bytes items read behind = subst (GoesOn year [] bytes) (sym (none_items year items read)) (empty_goes year bytes)
goes_on year (b ∷ bs) bytes items read behind = goes_on_some year b bs items read bytes behind
