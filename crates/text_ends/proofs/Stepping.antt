-- Reading pieces of a text one after another, and what a piece says.
use Rattle.std.proofs.Common.{ℕ, zero, suc, ◌≡◌, ◌+◌, ◌≤◌, Bool, true, false, cond, List, [], ◌∷◌, ◌++◌, length, take, drop, Option, Result, Ok, Err, refl, sym, ap, subst, ◌∙◌, arith, append_assoc, append-nil, length-append, length-drop}
use Rattle.std.specs.List.{concat, AllByRecursion}
use Rattle.std.specs.Str.{is_utf8}
use Rattle.std.proofs.Math.Seq.{take-append_seam, drop-append_seam}
use Rattle.std.proofs.lemmas.List.{drop-append-le, take-append-le}
use Rattle.hl_base.specs.Items.{cut_from, kind_of, lines_more}
use Rattle.hl_base.specs.Lines.{first_line, lines_of}
use Rattle.hl_base.specs.declared.items.Kind.{Kind}
use Rattle.hl_base.specs.declared.items.Kind.TheVariants as kinds
use Rattle.hl_base.specs.declared.items.Piece.{Piece}
use Rattle.hl_base.proofs.LineLemmas.{lines_split}
use Rattle.book.specs.declared.fault.Cause.TheVariants as cause
use Rattle.book.specs.declared.fault.Fault.{Fault}
use Rattle.book.specs.declared.item.Item.{Item}
use Rattle.book.specs.declared.item.Placed.{Placed}
use Rattle.entry_reader.specs.Causes.{fault_at, ◌>>=◌}
use Rattle.entry_reader.specs.Contexts.{Context, context_of}
use Rattle.journal_reader.specs.Items.{broken_line, reading, reading_from, said_by}
use Rattle.text_ends.specs.Ends.{items_at}
use Rattle.text_ends.proofs.Lining.{same_head}

-- ---- where pieces lie

pub concat_take : (n : ℕ) (ls : List (List ℕ)) → length (concat (take n ls)) ≤ length (concat ls)
concat_take zero ls = omega arith
concat_take (suc n) [] = omega arith
concat_take (suc n) (l ∷ ls) = omega (arith, concat_take n ls, length-append l (concat (take n ls)), length-append l (concat ls))

abbrev pub Ends : ℕ → Piece → Type 0
Ends most p = p.at + p.len ≤ most

all_same : (a b : ℕ) (ps : List Piece) → a ≡ b → AllByRecursion (Ends a) ps → AllByRecursion (Ends b) ps
all_same a b ps e h = subst (λ (n : ℕ). AllByRecursion (Ends n) ps) e h

pub within_cut : (taken at line : ℕ) (ls : List (List ℕ)) → AllByRecursion (Ends (at + length (concat ls))) (cut_from taken at line ls)
within_cut taken at line [] = tt
within_cut (suc taken) at line (l ∷ ls) =
    all_same (at + length l + length (concat ls)) (at + length (concat (l ∷ ls))) (cut_from taken (at + length l) (line + 1) ls) (omega (arith, length-append l (concat ls))) (within_cut taken (at + length l) (line + 1) ls)
within_cut zero at line (l ∷ ls) =
    let n = lines_more (kind_of l) ls in (
      omega (arith, concat_take n ls, length-append l (concat ls)),
      all_same (at + length l + length (concat ls)) (at + length (concat (l ∷ ls))) (cut_from n (at + length l) (line + 1) ls) (omega (arith, length-append l (concat ls))) (within_cut n (at + length l) (line + 1) ls),
    )

pub front_bytes : (text more : List ℕ) (p : Piece) → Ends (length text) p → take p.len (drop p.at (text ++ more)) ≡ take p.len (drop p.at text)
front_bytes text more p h =
    ap (take p.len) (drop-append-le p.at text more (omega arith)) ∙ take-append-le p.len (drop p.at text) more (omega (arith, length-drop p.at text))

-- ---- reading one after another

pub record Bound {A B : Type 0} (r : Result A Fault) (f : A → Result B Fault) (y : B) : Type 0 where
  pub value : A
  pub first : r ≡ Ok value
  pub second : f value ≡ Ok y

pub bound : {A B : Type 0} (r : Result A Fault) (f : A → Result B Fault) (y : B) → (r >>= f) ≡ Ok y → Bound r f y
bound (Ok x) f y h = record { value = x; first = refl; second = h }
bound (Err fault) f y h = absurd (let never : ⊥ = cc in never)

abbrev pub placed_as : Piece → Item → Placed
placed_as p i = record { piece = p; item = i }

abbrev pub Read : Type 0
Read = Result (List Placed) Fault

-- items before others that are still to be read
abbrev pub before_more : List Placed → Read → Read
before_more front read = read >>= λ more. Ok (front ++ more)

none_before : (r : Read) → before_more [] r ≡ r
none_before (Ok more) = refl
none_before (Err fault) = refl

pub one_before : (p : Placed) (front : List Placed) (r : Read) → (before_more front r >>= λ more. Ok (p ∷ more)) ≡ before_more (p ∷ front) r
one_before p front (Ok more) = refl
one_before p front (Err fault) = refl

pub ok_same : (xs ys : List Placed) → (let r : Read = Ok xs in r) ≡ Ok ys → xs ≡ ys
ok_same xs ys h = cc

-- Where pieces of a front were read, they are read in the whole, and those behind them after their items.
pub read_front : (year : Option ℕ) (before : List Item) (text more : List ℕ) (ps qs : List Piece) (placed : List Placed) → AllByRecursion (Ends (length text)) ps
    → reading_from year before text ps ≡ Ok placed → reading_from year before (text ++ more) (ps ++ qs) ≡ before_more placed (reading_from year (before ++ items_at placed) (text ++ more) qs)
unfolding reading_from
read_front year before text more [] qs placed within h =
    let none : [] ≡ placed = ok_same [] placed h in
    sym (none_before (reading_from year before (text ++ more) qs))
    ∙ ap (λ (b : List Item). before_more [] (reading_from year b (text ++ more) qs)) (sym (append-nil before))
    ∙ ap (λ (l : List Placed). before_more l (reading_from year (before ++ items_at l) (text ++ more) qs)) none
read_front year before text more (p ∷ ps) qs placed within h =
    let one = bound (reading (context_of year before) p.line (take p.len (drop p.at text))) (λ i. reading_from year (before ++ i ∷ []) text ps >>= λ rest. Ok (placed_as p i ∷ rest)) placed h in
    let i = one.value in
    let two = bound (reading_from year (before ++ i ∷ []) text ps) (λ rest. Ok (placed_as p i ∷ rest)) placed one.second in
    let all : placed_as p i ∷ two.value ≡ placed = ok_same (placed_as p i ∷ two.value) placed two.second in
    ap (λ (bytes : List ℕ). reading (context_of year before) p.line bytes >>= λ j. reading_from year (before ++ j ∷ []) (text ++ more) (ps ++ qs) >>= λ rest. Ok (placed_as p j ∷ rest)) (front_bytes text more p within.0)
    ∙ ap (λ (r : Result Item Fault). r >>= λ j. reading_from year (before ++ j ∷ []) (text ++ more) (ps ++ qs) >>= λ rest. Ok (placed_as p j ∷ rest)) one.first
    ∙ ap (λ (r : Read). r >>= λ rest. Ok (placed_as p i ∷ rest)) (read_front year (before ++ i ∷ []) text more ps qs two.value within.1 two.first)
    ∙ one_before (placed_as p i) two.value (reading_from year ((before ++ i ∷ []) ++ items_at two.value) (text ++ more) qs)
    ∙ ap (λ (b : List Item). before_more (placed_as p i ∷ two.value) (reading_from year b (text ++ more) qs)) (append_assoc before (i ∷ []) (items_at two.value))
    ∙ ap (λ (l : List Placed). before_more l (reading_from year (before ++ items_at l) (text ++ more) qs)) all

pub bytes_at : (text front mid back : List ℕ) (at n : ℕ) → text ≡ front ++ (mid ++ back) → at ≡ length front → n ≡ length mid → take n (drop at text) ≡ mid
bytes_at text front mid back at n is ea en =
    ap (λ (t : List ℕ). take n (drop at t)) is
    ∙ ap (λ (k : ℕ). take n (drop k (front ++ (mid ++ back)))) ea
    ∙ ap (take n) (drop-append_seam front (mid ++ back))
    ∙ ap (λ (k : ℕ). take k (mid ++ back)) en
    ∙ take-append_seam mid back

pub one_read : (year : Option ℕ) (before : List Item) (all : List ℕ) (p : Piece) (ps : List Piece) (i : Item) → reading (context_of year before) p.line (take p.len (drop p.at all)) ≡ Ok i
    → reading_from year before all (p ∷ ps) ≡ (reading_from year (before ++ i ∷ []) all ps >>= λ rest. Ok (placed_as p i ∷ rest))
unfolding reading_from
one_read year before all p ps i is = ap (λ (r : Result Item Fault). r >>= λ j. reading_from year (before ++ j ∷ []) all ps >>= λ rest. Ok (placed_as p j ∷ rest)) is

pub one_fails : (year : Option ℕ) (before : List Item) (all : List ℕ) (p : Piece) (ps : List Piece) (fault : Fault) → reading (context_of year before) p.line (take p.len (drop p.at all)) ≡ Err fault
    → reading_from year before all (p ∷ ps) ≡ Err fault
unfolding reading_from
one_fails year before all p ps fault is = ap (λ (r : Result Item Fault). r >>= λ j. reading_from year (before ++ j ∷ []) all ps >>= λ rest. Ok (placed_as p j ∷ rest)) is

pub none_left : (year : Option ℕ) (before : List Item) (all : List ℕ) → reading_from year before all [] ≡ Ok []
unfolding reading_from
none_left year before all = refl

-- ---- pieces, some of them after the others

pub record IsCut (year : Option ℕ) (before : List Item) (text : List ℕ) (ps qs : List Piece) (placed : List Placed) : Type 0 where
  pub front : List Placed
  pub back : List Placed
  pub is : placed ≡ front ++ back
  pub first : reading_from year before text ps ≡ Ok front
  pub second : reading_from year (before ++ items_at front) text qs ≡ Ok back

pub read_parts : (year : Option ℕ) (before : List Item) (text : List ℕ) (ps qs : List Piece) (placed : List Placed) → reading_from year before text (ps ++ qs) ≡ Ok placed → IsCut year before text ps qs placed
unfolding reading_from
read_parts year before text [] qs placed h = record { front = []; back = placed; is = refl; first = refl; second = ap (λ (b : List Item). reading_from year b text qs) (append-nil before) ∙ h }
read_parts year before text (p ∷ ps) qs placed h =
    let one = bound (reading (context_of year before) p.line (take p.len (drop p.at text))) (λ i. reading_from year (before ++ i ∷ []) text (ps ++ qs) >>= λ rest. Ok (placed_as p i ∷ rest)) placed h in
    let i = one.value in
    let two = bound (reading_from year (before ++ i ∷ []) text (ps ++ qs)) (λ rest. Ok (placed_as p i ∷ rest)) placed one.second in
    let all : placed_as p i ∷ two.value ≡ placed = ok_same (placed_as p i ∷ two.value) placed two.second in
    let r = read_parts year (before ++ i ∷ []) text ps qs two.value two.first in
    record {
      front = placed_as p i ∷ r.front;
      back = r.back;
      is = sym all ∙ ap (λ (l : List Placed). placed_as p i ∷ l) r.is;
      first =
          ap (λ (x : Result Item Fault). x >>= λ j. reading_from year (before ++ j ∷ []) text ps >>= λ rest. Ok (placed_as p j ∷ rest)) one.first
          ∙ ap (λ (x : Read). x >>= λ rest. Ok (placed_as p i ∷ rest)) r.first;
      second = ap (λ (b : List Item). reading_from year b text qs) (sym (append_assoc before (i ∷ []) (items_at r.front))) ∙ r.second;
    }

-- pieces of a front are read in it as in the whole
pub read_back : (year : Option ℕ) (before : List Item) (text more : List ℕ) (ps : List Piece) → AllByRecursion (Ends (length text)) ps → reading_from year before (text ++ more) ps ≡ reading_from year before text ps
unfolding reading_from
read_back year before text more [] within = refl
read_back year before text more (p ∷ ps) within =
    ap (λ (bytes : List ℕ). reading (context_of year before) p.line bytes >>= λ j. reading_from year (before ++ j ∷ []) (text ++ more) ps >>= λ rest. Ok (placed_as p j ∷ rest)) (front_bytes text more p within.0)
    ∙ (λ i. reading (context_of year before) p.line (take p.len (drop p.at text)) >>= λ j. (read_back year (before ++ j ∷ []) text more ps within.1 i) >>= λ rest. Ok (placed_as p j ∷ rest))

pub record IsLast (year : Option ℕ) (before : List Item) (text : List ℕ) (p : Piece) (placed : List Placed) : Type 0 where
  pub said : Item
  pub read_as : reading (context_of year before) p.line (take p.len (drop p.at text)) ≡ Ok said
  pub is : placed_as p said ∷ [] ≡ placed

pub read_last : (year : Option ℕ) (before : List Item) (text : List ℕ) (p : Piece) (placed : List Placed) → reading_from year before text (p ∷ []) ≡ Ok placed → IsLast year before text p placed
unfolding reading_from
read_last year before text p placed h =
    let one = bound (reading (context_of year before) p.line (take p.len (drop p.at text))) (λ i. reading_from year (before ++ i ∷ []) text [] >>= λ rest. Ok (placed_as p i ∷ rest)) placed h in
    record { said = one.value; read_as = one.first; is = ok_same (placed_as p one.value ∷ []) placed one.second }

pub items_parts : (xs ys : List Placed) → items_at (xs ++ ys) ≡ items_at xs ++ items_at ys
items_parts [] ys = refl
items_parts (x ∷ xs) ys = ap (λ (is : List Item). x.item ∷ is) (items_parts xs ys)

-- ---- what a piece says

pub reading_utf8 : (context : Context) (line : ℕ) (bytes : List ℕ) (i : Item) → reading context line bytes ≡ Ok i → is_utf8 bytes ≡ true
unfolding reading
reading_utf8 context line bytes i h = by (is_utf8 bytes) h
  where
    by : (t : Bool) → cond {A = Result Item Fault} t (said_by (kind_of (first_line bytes)) context line bytes) (Err (fault_at (broken_line line bytes) cause.Encoding)) ≡ Ok i → t ≡ true
    by true k = refl
    by false k = absurd (let never : ⊥ = cc in never)

pub reading_is : (context : Context) (line : ℕ) (bytes : List ℕ) → is_utf8 bytes ≡ true → reading context line bytes ≡ said_by (kind_of (first_line bytes)) context line bytes
unfolding reading
reading_is context line bytes utf8 = ap (λ (t : Bool). cond {A = Result Item Fault} t (said_by (kind_of (first_line bytes)) context line bytes) (Err (fault_at (broken_line line bytes) cause.Encoding))) utf8

pub first_of : (text l : List ℕ) (ls : List (List ℕ)) → lines_of text ≡ l ∷ ls → first_line text ≡ l
first_of [] l ls h = absurd (let never : ⊥ = cc in never)
first_of (b ∷ bs) l ls h = same_head (first_line (b ∷ bs)) l (lines_of (drop (length (first_line (b ∷ bs))) (b ∷ bs))) ls (sym (lines_split (b ∷ bs) (omega arith)) ∙ h)

-- by the kind of its first line
pub reading_kind : (context : Context) (line : ℕ) (bytes l : List ℕ) (ls : List (List ℕ)) (k : Kind) → is_utf8 bytes ≡ true → lines_of bytes ≡ l ∷ ls → kind_of l ≡ k → reading context line bytes ≡ said_by k context line bytes
reading_kind context line bytes l ls k utf8 lines kind = reading_is context line bytes utf8 ∙ ap (λ (j : Kind). said_by j context line bytes) (ap kind_of (first_of bytes l ls lines) ∙ kind)

pub no_stray : (context : Context) (line : ℕ) (bytes : List ℕ) (i : Item) → said_by kinds.Stray context line bytes ≡ Ok i → ⊥
no_stray context line bytes i h = let never : ⊥ = cc in never

-- what an entry or a directive says, where it isn't too long
pub limited_says : (t : Bool) (r : Result Item Fault) (fault : Fault) (i : Item) → cond {A = Result Item Fault} t (Err fault) r ≡ Ok i → r ≡ Ok i
limited_says true r fault i h = absurd (let never : ⊥ = cc in never)
limited_says false r fault i h = h
