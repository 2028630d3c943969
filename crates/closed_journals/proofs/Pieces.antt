-- A text with one entry or both behind it reads as the text, and then as they are.
use Rattle.std.proofs.Common.{ℕ, zero, suc, ◌≡◌, ◌+◌, ◌<◌, ◌≤◌, inl, inr, ◌⊎◌, Bool, true, false, cond, ◌==◌, List, [], ◌∷◌, ◌++◌, length, take, drop, map, Option, Result, Ok, Err, refl, sym, ap, subst, ◌∙◌, arith, append_assoc, append-nil, length-append, length-drop}
use Rattle.std.specs.Prelude.{nat_lt}
use Rattle.std.specs.List.{concat, AllByRecursion}
use Rattle.std.specs.Str.{is_utf8}
use Rattle.std.proofs.Math.Seq.{take-append_seam, drop-append_seam}
use Rattle.std.proofs.lemmas.Bool.{cases_lt}
use Rattle.std.proofs.lemmas.Bool.Decides.{nat_tests}
use Rattle.std.proofs.lemmas.Grind.{flat_map-append}
use Rattle.std.proofs.lemmas.List.{drop-append-le, take-append-le}
use Rattle.hl_base.specs.Items.{cut_from, items_of, kind_of, lines_more}
use Rattle.hl_base.specs.Lines.{first_line, lines_of, onto}
use Rattle.hl_base.specs.declared.items.Kind.{Kind}
use Rattle.hl_base.specs.declared.items.Kind.TheVariants as kinds
use Rattle.hl_base.specs.declared.items.Piece.{Piece}
use Rattle.book.specs.declared.directive.Directive.{Directive}
use Rattle.book.specs.declared.fault.Cause.TheVariants as cause
use Rattle.book.specs.declared.fault.Fault.{Fault}
use Rattle.book.specs.declared.item.Item.{Item}
use Rattle.book.specs.declared.item.Item.TheVariants as item
use Rattle.book.specs.declared.item.Placed.{Placed}
use Rattle.book.specs.declared.transaction.Txn.{Txn}
use Rattle.entry_reader.specs.Causes.{fault_at, ◌>>=◌}
use Rattle.entry_reader.specs.Contexts.{Context, context_from, context_of, directive_in, directives_in}
use Rattle.entry_reader.specs.Entries.{entry_of}
use Rattle.entry_reader.specs.Lines.{contents_of}
use Rattle.entry_reader.proofs.Texts.{end_line_utf8}
use Rattle.journal_reader.specs.Items.{broken_line, reading, reading_from, said_by}

-- ---- where pieces lie

concat_take : (n : ℕ) (ls : List (List ℕ)) → length (concat (take n ls)) ≤ length (concat ls)
concat_take zero ls = omega arith
concat_take (suc n) [] = omega arith
concat_take (suc n) (l ∷ ls) = omega (arith, concat_take n ls, length-append l (concat (take n ls)), length-append l (concat ls))

abbrev pub Ends : ℕ → Piece → Type 0
Ends most p = p.at + p.len ≤ most

all_same : (a b : ℕ) (ps : List Piece) → a ≡ b → AllByRecursion (Ends a) ps → AllByRecursion (Ends b) ps
all_same a b ps e h = subst (λ (n : ℕ). AllByRecursion (Ends n) ps) e h

pub within_cut : (taken at line : ℕ) (ls : List (List ℕ)) → AllByRecursion (Ends (at + length (concat ls))) (cut_from taken at line ls)
within_cut taken at line [] = tt
within_cut (suc taken) at line (l ∷ ls) =
    all_same (at + length l + length (concat ls)) (at + length (concat (l ∷ ls))) (cut_from taken (at + length l) (line + 1) ls) (omega (arith, length-append l (concat ls))) (within_cut taken (at + length l) (line + 1) ls)
within_cut zero at line (l ∷ ls) =
    let n = lines_more (kind_of l) ls in (
      omega (arith, concat_take n ls, length-append l (concat ls)),
      all_same (at + length l + length (concat ls)) (at + length (concat (l ∷ ls))) (cut_from n (at + length l) (line + 1) ls) (omega (arith, length-append l (concat ls))) (within_cut n (at + length l) (line + 1) ls),
    )

concat_onto : (b : ℕ) (ls : List (List ℕ)) → concat (onto b ls) ≡ b ∷ concat ls
concat_onto b [] = refl
concat_onto b (l ∷ ls) = refl

pub concat_lines : (text : List ℕ) → concat (lines_of text) ≡ text
concat_lines [] = refl
concat_lines (b ∷ bs) = by (b == 10) (concat_lines bs)
  where
    by : (t : Bool) → concat (lines_of bs) ≡ bs → concat (cond t ((b ∷ []) ∷ lines_of bs) (onto b (lines_of bs))) ≡ b ∷ bs
    by true rest = ap (λ (xs : List ℕ). b ∷ xs) rest
    by false rest = concat_onto b (lines_of bs) ∙ ap (λ (xs : List ℕ). b ∷ xs) rest

pub within_text : (text : List ℕ) → AllByRecursion (Ends (length text)) (items_of text)
within_text text = all_same (0 + length (concat (lines_of text))) (length text) (items_of text) (same (concat (lines_of text)) (concat_lines text)) (within_cut 0 0 1 (lines_of text))
  where
    same : (xs : List ℕ) → xs ≡ text → 0 + length xs ≡ length text
    same xs e = omega (arith, ap length e)

pub front_bytes : (text more : List ℕ) (p : Piece) → Ends (length text) p → take p.len (drop p.at (text ++ more)) ≡ take p.len (drop p.at text)
front_bytes text more p h =
    ap (take p.len) (drop-append-le p.at text more (omega arith)) ∙ take-append-le p.len (drop p.at text) more (omega (arith, length-drop p.at text))

-- ---- reading one after another

pub record Bound {A B : Type 0} (r : Result A Fault) (f : A → Result B Fault) (y : B) : Type 0 where
  pub value : A
  pub first : r ≡ Ok value
  pub second : f value ≡ Ok y

pub bound : {A B : Type 0} (r : Result A Fault) (f : A → Result B Fault) (y : B) → (r >>= f) ≡ Ok y → Bound r f y
bound (Ok x) f y h = record { value = x; first = refl; second = h }
bound (Err fault) f y h = absurd (let never : ⊥ = cc in never)

abbrev pub items_at : List Placed → List Item
items_at placed = map (λ p. p.item) placed

abbrev pub placed_as : Piece → Item → Placed
placed_as p i = record { piece = p; item = i }

abbrev pub Read : Type 0
Read = Result (List Placed) Fault

-- items before others that are still to be read
abbrev pub before_more : List Placed → Read → Read
before_more front read = read >>= λ more. Ok (front ++ more)

none_before : (r : Read) → before_more [] r ≡ r
none_before (Ok more) = refl
none_before (Err fault) = refl

pub one_before : (p : Placed) (front : List Placed) (r : Read) → (before_more front r >>= λ more. Ok (p ∷ more)) ≡ before_more (p ∷ front) r
one_before p front (Ok more) = refl
one_before p front (Err fault) = refl

pub ok_same : (xs ys : List Placed) → (let r : Read = Ok xs in r) ≡ Ok ys → xs ≡ ys
ok_same xs ys h = cc

-- Where pieces of a front were read, they are read in the whole, and those behind them after their items.
pub read_front : (year : Option ℕ) (before : List Item) (text more : List ℕ) (ps qs : List Piece) (placed : List Placed) → AllByRecursion (Ends (length text)) ps
    → reading_from year before text ps ≡ Ok placed → reading_from year before (text ++ more) (ps ++ qs) ≡ before_more placed (reading_from year (before ++ items_at placed) (text ++ more) qs)
unfolding reading_from
read_front year before text more [] qs placed within h =
    let none : [] ≡ placed = ok_same [] placed h in
    sym (none_before (reading_from year before (text ++ more) qs))
    ∙ ap (λ (b : List Item). before_more [] (reading_from year b (text ++ more) qs)) (sym (append-nil before))
    ∙ ap (λ (l : List Placed). before_more l (reading_from year (before ++ items_at l) (text ++ more) qs)) none
read_front year before text more (p ∷ ps) qs placed within h =
    let one = bound (reading (context_of year before) p.line (take p.len (drop p.at text))) (λ i. reading_from year (before ++ i ∷ []) text ps >>= λ rest. Ok (placed_as p i ∷ rest)) placed h in
    let i = one.value in
    let two = bound (reading_from year (before ++ i ∷ []) text ps) (λ rest. Ok (placed_as p i ∷ rest)) placed one.second in
    let all : placed_as p i ∷ two.value ≡ placed = ok_same (placed_as p i ∷ two.value) placed two.second in
    ap (λ (bytes : List ℕ). reading (context_of year before) p.line bytes >>= λ j. reading_from year (before ++ j ∷ []) (text ++ more) (ps ++ qs) >>= λ rest. Ok (placed_as p j ∷ rest)) (front_bytes text more p within.0)
    ∙ ap (λ (r : Result Item Fault). r >>= λ j. reading_from year (before ++ j ∷ []) (text ++ more) (ps ++ qs) >>= λ rest. Ok (placed_as p j ∷ rest)) one.first
    ∙ ap (λ (r : Read). r >>= λ rest. Ok (placed_as p i ∷ rest)) (read_front year (before ++ i ∷ []) text more ps qs two.value within.1 two.first)
    ∙ one_before (placed_as p i) two.value (reading_from year ((before ++ i ∷ []) ++ items_at two.value) (text ++ more) qs)
    ∙ ap (λ (b : List Item). before_more (placed_as p i ∷ two.value) (reading_from year b (text ++ more) qs)) (append_assoc before (i ∷ []) (items_at two.value))
    ∙ ap (λ (l : List Placed). before_more l (reading_from year (before ++ items_at l) (text ++ more) qs)) all

-- ---- one piece

pub not_long : (n : ℕ) → n ≤ 65536 → nat_lt 65536 n ≡ false
not_long n h = grind (arith, nat_tests)

pub too_long : (n : ℕ) → 65536 < n → nat_lt 65536 n ≡ true
too_long n h = grind (arith, nat_tests)

pub reading_entry : (context : Context) (line : ℕ) (bytes : List ℕ) (i : Item) → is_utf8 bytes ≡ true → kind_of (first_line bytes) ≡ kinds.Entry → length bytes ≤ 65536
    → entry_of context line (contents_of bytes) ≡ Ok i → reading context line bytes ≡ Ok i
unfolding reading
reading_entry context line bytes i utf8 kind short is =
    ap (λ (t : Bool). cond {A = Result Item Fault} t (said_by (kind_of (first_line bytes)) context line bytes) (Err (fault_at (broken_line line bytes) cause.Encoding))) utf8
    ∙ ap (λ (k : Kind). said_by k context line bytes) kind
    ∙ ap (λ (t : Bool). cond {A = Result Item Fault} t (Err (fault_at line cause.TooLong)) (entry_of context line (contents_of bytes))) (not_long (length bytes) short)
    ∙ is

pub reading_long : (context : Context) (line : ℕ) (bytes : List ℕ) → is_utf8 bytes ≡ true → kind_of (first_line bytes) ≡ kinds.Entry → 65536 < length bytes
    → reading context line bytes ≡ Err (fault_at line cause.TooLong)
unfolding reading
reading_long context line bytes utf8 kind long =
    ap (λ (t : Bool). cond {A = Result Item Fault} t (said_by (kind_of (first_line bytes)) context line bytes) (Err (fault_at (broken_line line bytes) cause.Encoding))) utf8
    ∙ ap (λ (k : Kind). said_by k context line bytes) kind
    ∙ ap (λ (t : Bool). cond {A = Result Item Fault} t (Err (fault_at line cause.TooLong)) (entry_of context line (contents_of bytes))) (too_long (length bytes) long)

reading_gap : (context : Context) (line : ℕ) → reading context line (10 ∷ []) ≡ Ok item.Gap
unfolding reading
reading_gap context line =
    ap (λ (t : Bool). cond {A = Result Item Fault} t (Ok item.Gap) (Err (fault_at (broken_line line (10 ∷ [])) cause.Encoding))) end_line_utf8

pub bytes_at : (text front mid back : List ℕ) (at n : ℕ) → text ≡ front ++ (mid ++ back) → at ≡ length front → n ≡ length mid → take n (drop at text) ≡ mid
bytes_at text front mid back at n is ea en =
    ap (λ (t : List ℕ). take n (drop at t)) is
    ∙ ap (λ (k : ℕ). take n (drop k (front ++ (mid ++ back)))) ea
    ∙ ap (take n) (drop-append_seam front (mid ++ back))
    ∙ ap (λ (k : ℕ). take k (mid ++ back)) en
    ∙ take-append_seam mid back

-- an item that is no directive leaves the context as it is
pub same_context : (year : Option ℕ) (before : List Item) (i : Item) → directive_in i ≡ [] → context_of year (before ++ i ∷ []) ≡ context_of year before
same_context year before i none =
    ap (context_from year) (flat_map-append directive_in before (i ∷ []) ∙ ap (λ (ds : List Directive). directives_in before ++ (ds ++ [])) none ∙ append-nil (directives_in before))

-- ---- two entries behind items

-- How an entry reads: it is in UTF-8, begins with a digit, and is this transaction.
pub record Says (context : Context) (line : ℕ) (bytes : List ℕ) (t : Txn) : Type 0 where
  pub utf8 : is_utf8 bytes ≡ true
  pub kind : kind_of (first_line bytes) ≡ kinds.Entry
  pub says : entry_of context line (contents_of bytes) ≡ Ok (item.Txn t)

abbrev piece : ℕ → ℕ → ℕ → Kind → Piece
piece at len line kind = record { at = at; len = len; line = line; kind = kind }

-- What two entries are read as, each with an empty line behind it: themselves, or one of them is too long.
pub data Outcome (r : Read) (placed : List Placed) (one two : ℕ) (first second : List ℕ) : Type 0 where
  reads : r ≡ Ok placed → Outcome r placed one two first second
  first_long : 65536 < length first → r ≡ Err (record { line = one; cause = cause.TooLong }) → Outcome r placed one two first second
  second_long : 65536 < length second → r ≡ Err (record { line = two; cause = cause.TooLong }) → Outcome r placed one two first second

-- where the entries lie, with an empty line behind each, whose lines are known
pub record Lying : Type 0 where
  pub at : ℕ
  pub first_line : ℕ
  pub first_gap : ℕ
  pub second_line : ℕ
  pub second_gap : ℕ

abbrev pub pieces_of : Lying → List ℕ → List ℕ → List Piece
pieces_of l e f =
    piece l.at (length e) l.first_line kinds.Entry ∷ piece (l.at + length e) 1 l.first_gap kinds.Gap
    ∷ piece (l.at + length e + 1) (length f) l.second_line kinds.Entry ∷ piece (l.at + length e + 1 + length f) 1 l.second_gap kinds.Gap ∷ []

abbrev pub placed_of : Lying → List ℕ → List ℕ → Txn → Txn → List Placed
placed_of l e f one two =
    placed_as (piece l.at (length e) l.first_line kinds.Entry) (item.Txn one)
    ∷ placed_as (piece (l.at + length e) 1 l.first_gap kinds.Gap) item.Gap
    ∷ placed_as (piece (l.at + length e + 1) (length f) l.second_line kinds.Entry) (item.Txn two)
    ∷ placed_as (piece (l.at + length e + 1 + length f) 1 l.second_gap kinds.Gap) item.Gap ∷ []

pub one_read : (year : Option ℕ) (before : List Item) (all : List ℕ) (p : Piece) (ps : List Piece) (i : Item) → reading (context_of year before) p.line (take p.len (drop p.at all)) ≡ Ok i
    → reading_from year before all (p ∷ ps) ≡ (reading_from year (before ++ i ∷ []) all ps >>= λ rest. Ok (placed_as p i ∷ rest))
unfolding reading_from
one_read year before all p ps i is = ap (λ (r : Result Item Fault). r >>= λ j. reading_from year (before ++ j ∷ []) all ps >>= λ rest. Ok (placed_as p j ∷ rest)) is

pub one_fails : (year : Option ℕ) (before : List Item) (all : List ℕ) (p : Piece) (ps : List Piece) (fault : Fault) → reading (context_of year before) p.line (take p.len (drop p.at all)) ≡ Err fault
    → reading_from year before all (p ∷ ps) ≡ Err fault
unfolding reading_from
one_fails year before all p ps fault is = ap (λ (r : Result Item Fault). r >>= λ j. reading_from year (before ++ j ∷ []) all ps >>= λ rest. Ok (placed_as p j ∷ rest)) is

pub none_left : (year : Option ℕ) (before : List Item) (all : List ℕ) → reading_from year before all [] ≡ Ok []
unfolding reading_from
none_left year before all = refl

-- ---- one entry behind items

-- What an entry is read as, with an empty line behind it: itself, or it is too long.
pub data OutcomeAlone (r : Read) (placed : List Placed) (line : ℕ) (bytes : List ℕ) : Type 0 where
  it_reads : r ≡ Ok placed → OutcomeAlone r placed line bytes
  it_is_long : 65536 < length bytes → r ≡ Err (record { line = line; cause = cause.TooLong }) → OutcomeAlone r placed line bytes

-- where it lies, and the line of the empty line behind it
abbrev pub its_pieces : ℕ → ℕ → ℕ → List ℕ → List Piece
its_pieces at line gap_line e = piece at (length e) line kinds.Entry ∷ piece (at + length e) 1 gap_line kinds.Gap ∷ []

abbrev pub its_items : ℕ → ℕ → ℕ → List ℕ → Txn → List Placed
its_items at line gap_line e one = placed_as (piece at (length e) line kinds.Entry) (item.Txn one) ∷ placed_as (piece (at + length e) 1 gap_line kinds.Gap) item.Gap ∷ []

sizes : (n : ℕ) → (n ≤ 65536) ⊎ (65536 < n)
sizes n = elim (cases_lt 65536 n) [ inl more ↦ inr more | inr most ↦ inl most ]

module _ (year : Option ℕ) (before : List Item) (at line gap_line : ℕ) (front e : List ℕ) (one : Txn) (at_is : at ≡ length front) (says : Says (context_of year before) line e one) where
  abbrev its_gap : List ℕ
  its_gap = 10 ∷ []

  abbrev with_it : List ℕ
  with_it = front ++ (e ++ its_gap)

  abbrev then_it : List Item
  then_it = before ++ item.Txn one ∷ []

  its_bytes : take (length e) (drop at with_it) ≡ e
  its_bytes = bytes_at with_it front e its_gap at (length e) refl at_is refl

  gap_is : with_it ≡ (front ++ e) ++ (its_gap ++ [])
  gap_is = sym (append_assoc front e its_gap)

  gap_at : at + length e ≡ length (front ++ e)
  gap_at = omega (arith, at_is, length-append front e)

  gap_bytes : take 1 (drop (at + length e) with_it) ≡ its_gap
  gap_bytes = bytes_at with_it (front ++ e) its_gap [] (at + length e) 1 gap_is gap_at refl

  abbrev its_piece : Piece
  its_piece = piece at (length e) line kinds.Entry

  abbrev behind_it : List Piece
  behind_it = piece (at + length e) 1 gap_line kinds.Gap ∷ []

  by_size : (length e ≤ 65536) ⊎ (65536 < length e) → OutcomeAlone (reading_from year before with_it (its_pieces at line gap_line e)) (its_items at line gap_line e one) line e
  by_size (inl short) = it_reads
      (one_read year before with_it its_piece behind_it (item.Txn one)
      (ap (reading (context_of year before) line) its_bytes ∙ reading_entry (context_of year before) line e (item.Txn one) says.utf8 says.kind short says.says)
      ∙ ap (λ (r : Read). r >>= λ more. Ok (placed_as its_piece (item.Txn one) ∷ more))
      (one_read year then_it with_it (piece (at + length e) 1 gap_line kinds.Gap) [] item.Gap
      (ap (reading (context_of year then_it) gap_line) gap_bytes ∙ reading_gap (context_of year then_it) gap_line)
      ∙ ap (λ (r : Read). r >>= λ more. Ok (placed_as (piece (at + length e) 1 gap_line kinds.Gap) item.Gap ∷ more)) (none_left year (then_it ++ item.Gap ∷ []) with_it)))
  by_size (inr long) = it_is_long long
      (one_fails year before with_it its_piece behind_it (fault_at line cause.TooLong)
      (ap (reading (context_of year before) line) its_bytes ∙ reading_long (context_of year before) line e says.utf8 says.kind long))

  pub it_read : OutcomeAlone (reading_from year before with_it (its_pieces at line gap_line e)) (its_items at line gap_line e one) line e
  it_read = by_size (sizes (length e))

-- ---- two entries behind them

module _ (year : Option ℕ) (before : List Item) (l : Lying) (front e f : List ℕ) (one two : Txn) (at_is : l.at ≡ length front)
    (says_one : Says (context_of year before) l.first_line e one) (says_two : Says (context_of year before) l.second_line f two) where
  abbrev gap : List ℕ
  gap = 10 ∷ []

  abbrev all : List ℕ
  all = front ++ (e ++ (gap ++ (f ++ gap)))

  abbrev then_one : List Item
  then_one = before ++ item.Txn one ∷ []

  abbrev then_gap : List Item
  then_gap = then_one ++ item.Gap ∷ []

  abbrev then_two : List Item
  then_two = then_gap ++ item.Txn two ∷ []

  context_one : context_of year then_one ≡ context_of year before
  context_one = same_context year before (item.Txn one) refl

  context_gap : context_of year then_gap ≡ context_of year before
  context_gap = same_context year then_one item.Gap refl ∙ context_one

  bytes_one : take (length e) (drop l.at all) ≡ e
  bytes_one = bytes_at all front e (gap ++ (f ++ gap)) l.at (length e) refl at_is refl

  is_gap : all ≡ (front ++ e) ++ (gap ++ (f ++ gap))
  is_gap = sym (append_assoc front e (gap ++ (f ++ gap)))

  at_gap : l.at + length e ≡ length (front ++ e)
  at_gap = omega (arith, at_is, length-append front e)

  bytes_gap : take 1 (drop (l.at + length e) all) ≡ gap
  bytes_gap = bytes_at all (front ++ e) gap (f ++ gap) (l.at + length e) 1 is_gap at_gap refl

  is_two : all ≡ ((front ++ e) ++ gap) ++ (f ++ gap)
  is_two = is_gap ∙ sym (append_assoc (front ++ e) gap (f ++ gap))

  at_two : l.at + length e + 1 ≡ length ((front ++ e) ++ gap)
  at_two = omega (arith, at_gap, length-append (front ++ e) gap)

  bytes_two : take (length f) (drop (l.at + length e + 1) all) ≡ f
  bytes_two = bytes_at all ((front ++ e) ++ gap) f gap (l.at + length e + 1) (length f) is_two at_two refl

  is_last : all ≡ (((front ++ e) ++ gap) ++ f) ++ (gap ++ [])
  is_last = is_two ∙ sym (append_assoc ((front ++ e) ++ gap) f gap)

  at_last : l.at + length e + 1 + length f ≡ length (((front ++ e) ++ gap) ++ f)
  at_last = omega (arith, at_two, length-append ((front ++ e) ++ gap) f)

  bytes_last : take 1 (drop (l.at + length e + 1 + length f) all) ≡ gap
  bytes_last = bytes_at all (((front ++ e) ++ gap) ++ f) gap [] (l.at + length e + 1 + length f) 1 is_last at_last refl

  abbrev first : Piece
  first = piece l.at (length e) l.first_line kinds.Entry

  abbrev second : Piece
  second = piece (l.at + length e + 1) (length f) l.second_line kinds.Entry

  abbrev after_first : List Piece
  after_first = piece (l.at + length e) 1 l.first_gap kinds.Gap ∷ second ∷ piece (l.at + length e + 1 + length f) 1 l.second_gap kinds.Gap ∷ []

  abbrev after_second : List Piece
  after_second = piece (l.at + length e + 1 + length f) 1 l.second_gap kinds.Gap ∷ []

  read_one : length e ≤ 65536 → reading_from year before all (pieces_of l e f) ≡ (reading_from year then_gap all (second ∷ after_second) >>= λ rest. Ok (placed_as (piece (l.at + length e) 1 l.first_gap kinds.Gap) item.Gap ∷ rest) >>= λ more. Ok (placed_as first (item.Txn one) ∷ more))
  read_one short =
      one_read year before all first after_first (item.Txn one)
      (ap (reading (context_of year before) l.first_line) bytes_one ∙ reading_entry (context_of year before) l.first_line e (item.Txn one) says_one.utf8 says_one.kind short says_one.says)
      ∙ ap (λ (r : Read). r >>= λ more. Ok (placed_as first (item.Txn one) ∷ more))
      (one_read year then_one all (piece (l.at + length e) 1 l.first_gap kinds.Gap) (second ∷ after_second) item.Gap
      (ap (reading (context_of year then_one) l.first_gap) bytes_gap ∙ reading_gap (context_of year then_one) l.first_gap))
      ∙ regroup (reading_from year then_gap all (second ∷ after_second))
    where
      regroup : (r : Read) → ((r >>= λ rest. Ok (placed_as (piece (l.at + length e) 1 l.first_gap kinds.Gap) item.Gap ∷ rest)) >>= λ more. Ok (placed_as first (item.Txn one) ∷ more)) ≡ (r >>= λ rest. Ok (placed_as (piece (l.at + length e) 1 l.first_gap kinds.Gap) item.Gap ∷ rest) >>= λ more. Ok (placed_as first (item.Txn one) ∷ more))
      regroup (Ok more) = refl
      regroup (Err fault) = refl

  read_two : length f ≤ 65536 → reading_from year then_gap all (second ∷ after_second) ≡ Ok (placed_as second (item.Txn two) ∷ placed_as (piece (l.at + length e + 1 + length f) 1 l.second_gap kinds.Gap) item.Gap ∷ [])
  read_two short =
      one_read year then_gap all second after_second (item.Txn two)
      (ap (reading (context_of year then_gap) l.second_line) bytes_two
      ∙ ap (λ (c : Context). reading c l.second_line f) context_gap
      ∙ reading_entry (context_of year before) l.second_line f (item.Txn two) says_two.utf8 says_two.kind short says_two.says)
      ∙ ap (λ (r : Read). r >>= λ more. Ok (placed_as second (item.Txn two) ∷ more))
      (one_read year then_two all (piece (l.at + length e + 1 + length f) 1 l.second_gap kinds.Gap) [] item.Gap
      (ap (reading (context_of year then_two) l.second_gap) bytes_last ∙ reading_gap (context_of year then_two) l.second_gap)
      ∙ ap (λ (r : Read). r >>= λ more. Ok (placed_as (piece (l.at + length e + 1 + length f) 1 l.second_gap kinds.Gap) item.Gap ∷ more)) (none_left year (then_two ++ item.Gap ∷ []) all))

  by_first : (length e ≤ 65536) ⊎ (65536 < length e) → (length f ≤ 65536) ⊎ (65536 < length f) → Outcome (reading_from year before all (pieces_of l e f)) (placed_of l e f one two) l.first_line l.second_line e f
  by_first (inl short) (inl also) = reads (read_one short ∙ ap (λ (r : Read). r >>= λ rest. Ok (placed_as (piece (l.at + length e) 1 l.first_gap kinds.Gap) item.Gap ∷ rest) >>= λ more. Ok (placed_as first (item.Txn one) ∷ more)) (read_two also))
  by_first (inl short) (inr long) = second_long long
      (read_one short
      ∙ ap (λ (r : Read). r >>= λ rest. Ok (placed_as (piece (l.at + length e) 1 l.first_gap kinds.Gap) item.Gap ∷ rest) >>= λ more. Ok (placed_as first (item.Txn one) ∷ more))
      (one_fails year then_gap all second after_second (fault_at l.second_line cause.TooLong)
      (ap (reading (context_of year then_gap) l.second_line) bytes_two ∙ reading_long (context_of year then_gap) l.second_line f says_two.utf8 says_two.kind long)))
  by_first (inr long) other = first_long long
      (one_fails year before all first after_first (fault_at l.first_line cause.TooLong)
      (ap (reading (context_of year before) l.first_line) bytes_one ∙ reading_long (context_of year before) l.first_line e says_one.utf8 says_one.kind long))

  pub two_read : Outcome (reading_from year before all (pieces_of l e f)) (placed_of l e f one two) l.first_line l.second_line e f
  two_read = by_first (sizes (length e)) (sizes (length f))
