-- Reading pieces of which gaps that meet are one.
use Rattle.std.proofs.Common.{ℕ, zero, suc, ◌≡◌, ◌+◌, ◌≤◌, Bool, true, false, cond, ◌&&◌, List, [], ◌∷◌, ◌++◌, length, take, drop, map, Option, Result, Ok, Err, refl, sym, ap, subst, ◌∙◌, arith, append_assoc, append-nil, drop-drop, length-append, take-append-drop}
use Rattle.std.specs.List.{concat, AllByRecursion}
use Rattle.std.specs.Str.{is_utf8}
use Rattle.std.proofs.lemmas.Bool.{false≢true}
use Rattle.std.proofs.lemmas.Str.{IsUtf8-append, IsUtf8-from_is_utf8, is_utf8-from_IsUtf8}
use Rattle.std.proofs.Math.Seq.{drop-append_seam, take-add, take-append_seam}
use Rattle.hl_base.specs.Items.{cut_from, kind_of, lines_more}
use Rattle.hl_base.specs.Lines.{first_line, lines_of}
use Rattle.hl_base.specs.declared.items.Kind.{Kind}
use Rattle.hl_base.specs.declared.items.Kind.TheVariants as kinds
use Rattle.hl_base.specs.declared.items.Piece.{Piece}
use Rattle.book.specs.declared.fault.Cause.TheVariants as cause
use Rattle.book.specs.declared.fault.Fault.{Fault}
use Rattle.book.specs.declared.item.Item.{Item}
use Rattle.book.specs.declared.item.Item.TheVariants as item
use Rattle.book.specs.declared.item.Placed.{Placed}
use Rattle.entry_reader.proofs.Both.{both_true}
use Rattle.entry_reader.specs.Causes.{fault_at, ◌>>=◌}
use Rattle.entry_reader.specs.Contexts.{Context, context_of, directive_in, directives_in}
use Rattle.journal_reader.specs.Items.{broken_line, reading, reading_from, said_by}
use Rattle.text_ends.specs.Ends.{items_at}
use Rattle.text_ends.proofs.Stepping.{bound, ok_same, placed_as}
use Rattle.changed_texts.proofs.Joining.{read_none, read_one}
use Rattle.text_ends.specs.Growth.{shifted}
use Rattle.changed_texts.specs.Meeting.{further_on, is_entry_or_gap, meeting, meeting_items, with_item, with_piece}
use Rattle.changed_texts.specs.Replacing.{bytes_at, is_gap}
use Rattle.changed_texts.proofs.Cuts.{bytes_more, more_bound, piece, same}
use Rattle.changed_texts.proofs.Lines.{AreLines, back_lines, concat_both, own_lines}
use Rattle.changed_texts.proofs.Near.{first_is, reading-txn, txn-says-none}
use Rattle.changed_texts.proofs.Reading.{SayAlike, context_alike, more_alike, same_said}

-- ---- pieces and their bytes

-- its first line is of its kind
abbrev pub IsOfKind : List ℕ → Piece → Type 0
IsOfKind text p = kind_of (first_line (bytes_at text p)) ≡ p.kind

-- they follow one another from a place on, through another one
abbrev pub Follows : ℕ → ℕ → List Piece → Type 0
Follows from to [] = from ≡ to
Follows from to (p ∷ ps) = (p.at ≡ from) × Follows (from + p.len) to ps

next_rest : (text : List ℕ) (at : ℕ) (l : List ℕ) (ls : List (List ℕ)) (more : List ℕ) → drop at text ≡ concat (l ∷ ls) ++ more → drop (at + length l) text ≡ concat ls ++ more
next_rest text at l ls more rest =
    sym (drop-drop (length l) at text) ∙ ap (drop (length l)) (rest ∙ append_assoc l (concat ls) more) ∙ drop-append_seam l (concat ls ++ more)

begin : (at a b : ℕ) → at + a + b ≡ at + 0 + (a + b)
begin at a b = omega arith

pub follows_along : (a b c d : ℕ) (ps : List Piece) → a ≡ c → b ≡ d → Follows a b ps → Follows c d ps
follows_along a b c d ps e f h = subst (λ (m : ℕ). Follows c m ps) f (subst (λ (m : ℕ). Follows m b ps) e h)

-- the lines of a text from a place on are cut into pieces of their kinds
pub all_of_kind : (text : List ℕ) (taken at line : ℕ) (ls : List (List ℕ)) (more : List ℕ) → AreLines ls → drop at text ≡ concat ls ++ more → AllByRecursion (IsOfKind text) (cut_from taken at line ls)
all_of_kind text taken at line [] more are rest = tt
all_of_kind text (suc taken) at line (l ∷ ls) more are rest = all_of_kind text taken (at + length l) (line + 1) ls more (back_lines (l ∷ []) ls are) (next_rest text at l ls more rest)
all_of_kind text zero at line (l ∷ ls) more are rest =
    let n = lines_more (kind_of l) ls in
    let own = take n ls in
    let post = drop n ls in
    let whole : (l ∷ own) ++ post ≡ l ∷ ls = ap (λ (ks : List (List ℕ)). l ∷ ks) (take-append-drop n ls) in
    let lines : lines_of (concat (l ∷ own)) ≡ l ∷ own = own_lines (l ∷ own) post (subst AreLines (sym whole) are) in
    let size : length l + length (concat own) ≡ length (concat (l ∷ own)) = sym (length-append l (concat own)) in
    let there : drop at text ≡ concat (l ∷ own) ++ (concat post ++ more) =
    rest ∙ ap (λ (xs : List ℕ). xs ++ more) (ap concat (sym whole) ∙ concat_both (l ∷ own) post) ∙ append_assoc (concat (l ∷ own)) (concat post) more in
    let bytes : take (length l + length (concat own)) (drop at text) ≡ concat (l ∷ own) = (λ i. take (size i) (there i)) ∙ take-append_seam (concat (l ∷ own)) (concat post ++ more) in (
      ap (λ (xs : List ℕ). kind_of (first_line xs)) bytes ∙ ap kind_of (first_is (concat (l ∷ own)) l own lines),
      all_of_kind text n (at + length l) (line + 1) ls more (back_lines (l ∷ []) ls are) (next_rest text at l ls more rest),
    )

-- and they follow one another
pub all_follow_on : (taken at line : ℕ) (ls : List (List ℕ)) → taken ≤ length ls → Follows (at + length (concat (take taken ls))) (at + length (concat ls)) (cut_from taken at line ls)
all_follow_on zero at line [] few = refl
all_follow_on (suc taken) at line [] few = refl
all_follow_on (suc taken) at line (l ∷ ls) few =
    follows_along _ _ _ _ (cut_from taken (at + length l) (line + 1) ls) (bytes_more at l (take taken ls)) (bytes_more at l ls) (all_follow_on taken (at + length l) (line + 1) ls (omega (arith, few)))
all_follow_on zero at line (l ∷ ls) few =
    let n = lines_more (kind_of l) ls in (
      same at,
      follows_along _ _ _ _ (cut_from n (at + length l) (line + 1) ls) (begin at (length l) (length (concat (take n ls)))) (bytes_more at l ls) (all_follow_on n (at + length l) (line + 1) ls (more_bound (kind_of l) ls)),
    )

-- ---- the same said before

each_alike : (r : Result Item Fault) (f g : Item → Result (List Placed) Fault) (p : Piece) → ((i : Item) → f i ≡ g i) → (r >>= λ i. f i >>= λ more. Ok (placed_as p i ∷ more)) ≡ (r >>= λ i. g i >>= λ more. Ok (placed_as p i ∷ more))
each_alike (Ok i) f g p e = ap (λ (q : Result (List Placed) Fault). q >>= λ more. Ok (placed_as p i ∷ more)) (e i)
each_alike (Err fault) f g p e = refl

pub read_alike : (year : Option ℕ) (is js : List Item) (text : List ℕ) (ps : List Piece) → SayAlike is js → reading_from year js text ps ≡ reading_from year is text ps
unfolding reading_from
read_alike year is js text [] alike = refl
read_alike year is js text (p ∷ ps) alike =
    (λ k. reading (context_alike year is js alike k) p.line (bytes_at text p) >>= λ i. reading_from year (js ++ i ∷ []) text ps >>= λ more. Ok (placed_as p i ∷ more))
    ∙ each_alike (reading (context_of year is) p.line (bytes_at text p)) (λ i. reading_from year (js ++ i ∷ []) text ps) (λ i. reading_from year (is ++ i ∷ []) text ps) p
    (λ i. read_alike year (is ++ i ∷ []) (js ++ i ∷ []) text ps (more_alike is js i i alike refl))

-- ---- gaps

-- bytes of a gap that reads
pub record IsRead (bytes : List ℕ) (i : Item) : Type 0 where
  pub utf8 : is_utf8 bytes ≡ true
  pub gap : i ≡ item.Gap

gap_by : (t : Bool) (fault : Fault) (i : Item) → (let r : Result Item Fault = cond t (Ok item.Gap) (Err fault) in r) ≡ Ok i → (t ≡ true) × (i ≡ item.Gap)
gap_by true fault i h = (refl, let same : item.Gap ≡ i = cc in sym same)
gap_by false fault i h = absurd (let never : ⊥ = cc in never)

pub gap_read : (c : Context) (l : ℕ) (bytes : List ℕ) (i : Item) → kind_of (first_line bytes) ≡ kinds.Gap → reading c l bytes ≡ Ok i → IsRead bytes i
unfolding reading
gap_read c l bytes i k h =
    let parts = gap_by (is_utf8 bytes) (fault_at (broken_line l bytes) cause.Encoding) i
    (sym (ap (λ (j : Kind). cond {A = Result Item Fault} (is_utf8 bytes) (said_by j c l bytes) (Err (fault_at (broken_line l bytes) cause.Encoding))) k) ∙ h) in
    record { utf8 = parts.0; gap = parts.1 }

pub reads_gap : (c : Context) (l : ℕ) (bytes : List ℕ) → kind_of (first_line bytes) ≡ kinds.Gap → is_utf8 bytes ≡ true → reading c l bytes ≡ Ok item.Gap
unfolding reading
reads_gap c l bytes k h =
    ap (λ (j : Kind). cond {A = Result Item Fault} (is_utf8 bytes) (said_by j c l bytes) (Err (fault_at (broken_line l bytes) cause.Encoding))) k
    ∙ ap (λ (t : Bool). cond {A = Result Item Fault} t (Ok item.Gap) (Err (fault_at (broken_line l bytes) cause.Encoding))) h

utf8_both : (xs ys : List ℕ) → is_utf8 xs ≡ true → is_utf8 ys ≡ true → is_utf8 (xs ++ ys) ≡ true
utf8_both xs ys e f = is_utf8-from_IsUtf8 (xs ++ ys) (IsUtf8-append xs ys (IsUtf8-from_is_utf8 xs e) (IsUtf8-from_is_utf8 ys f))

pub gap_kind : (k : Kind) → is_gap k ≡ true → k ≡ kinds.Gap
gap_kind kinds.Gap h = refl
gap_kind kinds.Block h = absurd (false≢true h)
gap_kind kinds.Entry h = absurd (false≢true h)
gap_kind kinds.Head h = absurd (false≢true h)
gap_kind kinds.Stray h = absurd (false≢true h)

-- ---- pieces that meet

-- the first of some items, and the others
pub record First (year : Option ℕ) (before : List Item) (text : List ℕ) (p : Piece) (ps : List Piece) (items : List Placed) : Type 0 where
  pub said : Item
  pub more : List Placed
  pub are : placed_as p said ∷ more ≡ items
  pub one : reading (context_of year before) p.line (bytes_at text p) ≡ Ok said
  pub others : reading_from year (before ++ said ∷ []) text ps ≡ Ok more

pub first_read : (year : Option ℕ) (before : List Item) (text : List ℕ) (p : Piece) (ps : List Piece) (items : List Placed) → reading_from year before text (p ∷ ps) ≡ Ok items → First year before text p ps items
unfolding reading_from
first_read year before text p ps items h =
    let one = bound (reading (context_of year before) p.line (bytes_at text p)) (λ i. reading_from year (before ++ i ∷ []) text ps >>= λ more. Ok (placed_as p i ∷ more)) items h in
    let two = bound (reading_from year (before ++ one.value ∷ []) text ps) (λ more. Ok (placed_as p one.value ∷ more)) items one.second in
    record { said = one.value; more = two.value; are = ok_same (placed_as p one.value ∷ two.value) items two.second; one = one.first; others = two.first }

-- a piece before another one: two gaps are one
joint_read : (year : Option ℕ) (before : List Item) (text : List ℕ) (p : Piece) (i : Item) (q : Piece) (qs : List Piece) (said : Item) (more : List Placed) → reading (context_of year before) p.line (bytes_at text p) ≡ Ok i
    → reading (context_of year (before ++ i ∷ [])) q.line (bytes_at text q) ≡ Ok said → reading_from year ((before ++ i ∷ []) ++ said ∷ []) text qs ≡ Ok more → q.at ≡ p.at + p.len → IsOfKind text p → IsOfKind text q
    → (b : Bool) → (b ≡ true → (p.kind ≡ kinds.Gap) × (q.kind ≡ kinds.Gap)) → AllByRecursion (IsOfKind text) (cond b (piece p.at (p.len + q.len) p.line p.kind ∷ qs) (p ∷ q ∷ qs))
    → reading_from year before text (cond b (piece p.at (p.len + q.len) p.line p.kind ∷ qs) (p ∷ q ∷ qs)) ≡ Ok (cond b (placed_as (piece p.at (p.len + q.len) p.line p.kind) i ∷ more) (placed_as p i ∷ placed_as q said ∷ more))
joint_read year before text p i q qs said more one two rest next kind_p kind_q false f all =
    read_one year before text p (q ∷ qs) i (placed_as q said ∷ more) one (read_one year (before ++ i ∷ []) text q qs said more two rest)
joint_read year before text p i q qs said more one two rest next kind_p kind_q true f all =
    let both = f refl in
    let joint = piece p.at (p.len + q.len) p.line p.kind in
    let gap_p = gap_read (context_of year before) p.line (bytes_at text p) i (kind_p ∙ both.0) one in
    let gap_q = gap_read (context_of year (before ++ i ∷ [])) q.line (bytes_at text q) said (kind_q ∙ both.1) two in
    let bytes : bytes_at text joint ≡ bytes_at text p ++ bytes_at text q =
    take-add p.len q.len (drop p.at text)
    ∙ ap (λ (xs : List ℕ). bytes_at text p ++ take q.len xs) (drop-drop p.len p.at text ∙ ap (λ (m : ℕ). drop m text) (sym next)) in
    let utf8 : is_utf8 (bytes_at text joint) ≡ true = ap is_utf8 bytes ∙ utf8_both (bytes_at text p) (bytes_at text q) gap_p.utf8 gap_q.utf8 in
    let alike = same_said (before ++ i ∷ []) said (ap directive_in gap_q.gap) in
    read_one year before text joint qs i more
    (reads_gap (context_of year before) p.line (bytes_at text joint) (all.0 ∙ both.0) utf8 ∙ ap (λ (j : Item). Ok j) (sym gap_p.gap))
    (sym (read_alike year (before ++ i ∷ []) ((before ++ i ∷ []) ++ said ∷ []) text qs alike) ∙ rest)

pub both_gaps : (p q : Piece) → (is_gap p.kind && is_gap q.kind) ≡ true → (p.kind ≡ kinds.Gap) × (q.kind ≡ kinds.Gap)
both_gaps p q h = let both = both_true (is_gap p.kind) (is_gap q.kind) h in (gap_kind p.kind both.0, gap_kind q.kind both.1)

-- a piece before others, and their items
with_read : (year : Option ℕ) (before : List Item) (text : List ℕ) (p : Piece) (i : Item) (qs : List Piece) (js : List Placed) (to : ℕ) → reading (context_of year before) p.line (bytes_at text p) ≡ Ok i
    → reading_from year (before ++ i ∷ []) text qs ≡ Ok js → Follows (p.at + p.len) to qs → IsOfKind text p → AllByRecursion (IsOfKind text) qs → AllByRecursion (IsOfKind text) (with_piece p qs)
    → reading_from year before text (with_piece p qs) ≡ Ok (with_item (placed_as p i) js)
with_read year before text p i [] js to one rest follow kind all joined =
    let none : [] ≡ js = ok_same [] js (sym (read_none year (before ++ i ∷ []) text) ∙ rest) in
    read_one year before text p [] i [] one (read_none year (before ++ i ∷ []) text) ∙ ap (λ (is : List Placed). Ok (with_item (placed_as p i) is)) none
with_read year before text p i (q ∷ qs) js to one rest follow kind all joined =
    let f = first_read year (before ++ i ∷ []) text q qs js rest in
    joint_read year before text p i q qs f.said f.more one f.one f.others follow.0 kind all.0 (is_gap p.kind && is_gap q.kind) (both_gaps p q) joined
    ∙ ap (λ (is : List Placed). Ok (with_item (placed_as p i) is)) f.are

-- pieces before others, and their items
pub meeting_read : (year : Option ℕ) (before : List Item) (text : List ℕ) (ps qs : List Piece) (is js : List Placed) (from mid to : ℕ) → reading_from year before text ps ≡ Ok is → reading_from year (before ++ items_at is) text qs ≡ Ok js
    → Follows from mid ps → Follows mid to qs → AllByRecursion (IsOfKind text) ps → AllByRecursion (IsOfKind text) qs → AllByRecursion (IsOfKind text) (meeting ps qs)
    → reading_from year before text (meeting ps qs) ≡ Ok (meeting_items is js)
meeting_read year before text [] qs is js from mid to h k fp fq ap_ aq all =
    let none : [] ≡ is = ok_same [] is (sym (read_none year before text) ∙ h) in
    ap (λ (b : List Item). reading_from year b text qs) (sym (append-nil before))
    ∙ ap (λ (xs : List Placed). reading_from year (before ++ items_at xs) text qs) none
    ∙ k ∙ ap (λ (xs : List Placed). Ok (meeting_items xs js)) none
meeting_read year before text (p ∷ []) qs is js from mid to h k fp fq ap_ aq all =
    let f = first_read year before text p [] is h in
    let none : [] ≡ f.more = ok_same [] f.more (sym (read_none year (before ++ f.said ∷ []) text) ∙ f.others) in
    let whole : placed_as p f.said ∷ [] ≡ is = ap (λ (xs : List Placed). placed_as p f.said ∷ xs) none ∙ f.are in
    with_read year before text p f.said qs js to f.one (ap (λ (xs : List Placed). reading_from year (before ++ items_at xs) text qs) whole ∙ k)
    (follows_along _ _ _ _ qs (sym fp.1 ∙ ap (λ (m : ℕ). m + p.len) (sym fp.0)) refl fq) ap_.0 aq all
    ∙ ap (λ (xs : List Placed). Ok (meeting_items xs js)) whole
meeting_read year before text (p ∷ r ∷ ps) qs is js from mid to h k fp fq ap_ aq all =
    let f = first_read year before text p (r ∷ ps) is h in
    let g = first_read year (before ++ f.said ∷ []) text r ps f.more f.others in
    let there : reading_from year ((before ++ f.said ∷ []) ++ items_at f.more) text qs ≡ Ok js =
    ap (λ (b : List Item). reading_from year b text qs) (append_assoc before (f.said ∷ []) (items_at f.more))
    ∙ ap (λ (xs : List Placed). reading_from year (before ++ items_at xs) text qs) f.are ∙ k in
    let rest = meeting_read year (before ++ f.said ∷ []) text (r ∷ ps) qs f.more js (from + p.len) mid to f.others there fp.1 fq ap_.1 aq all.1 in
    read_one year before text p (meeting (r ∷ ps) qs) f.said (meeting_items f.more js) f.one rest
    ∙ ap (λ (xs : List Placed). Ok (placed_as p f.said ∷ meeting_items xs js)) (sym g.are)
    ∙ ap (λ (xs : List Placed). Ok (meeting_items (placed_as p f.said ∷ xs) js)) g.are
    ∙ ap (λ (xs : List Placed). Ok (meeting_items xs js)) f.are

-- ---- the same bytes elsewhere

pub read_bytes : (year : Option ℕ) (before : List Item) (old new : List ℕ) (ps : List Piece) → AllByRecursion (λ p. take p.len (drop p.at new) ≡ take p.len (drop p.at old)) ps → reading_from year before new ps ≡ reading_from year before old ps
unfolding reading_from
read_bytes year before old new [] all = refl
read_bytes year before old new (p ∷ ps) all =
    (λ k. reading (context_of year before) p.line (all.0 k) >>= λ i. reading_from year (before ++ i ∷ []) new ps >>= λ more. Ok (placed_as p i ∷ more))
    ∙ each_alike (reading (context_of year before) p.line (bytes_at old p)) (λ i. reading_from year (before ++ i ∷ []) new ps) (λ i. reading_from year (before ++ i ∷ []) old ps) p
    (λ i. read_bytes year (before ++ i ∷ []) old new ps all.1)

two_places : (at a : ℕ) → at + (0 + a) ≡ at + a
two_places at a = omega arith

-- bytes that stand further on in another text
pub further_read : (year : Option ℕ) (before : List Item) (bytes new : List ℕ) (at lines : ℕ) (ps : List Piece) (said : List Placed) → AllByRecursion (λ p. take p.len (drop (at + p.at) new) ≡ take p.len (drop (0 + p.at) bytes)) ps
    → reading_from year before bytes (map (shifted 0 lines) ps) ≡ Ok said → reading_from year before new (map (shifted at lines) ps) ≡ Ok (map (further_on at) said)
further_read year before bytes new at lines [] said all h =
    read_none year before new ∙ ap (λ (xs : List Placed). Ok (map (further_on at) xs)) (ok_same [] said (sym (read_none year before bytes) ∙ h))
further_read year before bytes new at lines (p ∷ ps) said all h =
    let f = first_read year before bytes (shifted 0 lines p) (map (shifted 0 lines) ps) said h in
    read_one year before new (shifted at lines p) (map (shifted at lines) ps) f.said (map (further_on at) f.more) (ap (reading (context_of year before) (lines + p.line)) all.0 ∙ f.one)
    (further_read year (before ++ f.said ∷ []) bytes new at lines ps f.more all.1 f.others)
    ∙ (λ k. Ok (placed_as (piece (sym (two_places at p.at) k) p.len (lines + p.line) p.kind) f.said ∷ map (further_on at) f.more))
    ∙ ap (λ (xs : List Placed). Ok (map (further_on at) xs)) f.are

-- what entries and gaps say changes no context
item_none : (year : Option ℕ) (before : List Item) (text : List ℕ) (p : Piece) (i : Item) → IsOfKind text p → is_entry_or_gap p.kind ≡ true → reading (context_of year before) p.line (bytes_at text p) ≡ Ok i → directive_in i ≡ []
item_none year before text p i kind may read = by p.kind kind may
  where
    by : (k : Kind) → kind_of (first_line (bytes_at text p)) ≡ k → is_entry_or_gap k ≡ true → directive_in i ≡ []
    by kinds.Entry e h = txn-says-none i ((reading-txn (context_of year before) p.line (bytes_at text p) e).is i read)
    by kinds.Gap e h = ap directive_in (gap_read (context_of year before) p.line (bytes_at text p) i e read).gap
    by kinds.Block e h = absurd (false≢true h)
    by kinds.Head e h = absurd (false≢true h)
    by kinds.Stray e h = absurd (false≢true h)

pub none_said : (year : Option ℕ) (before : List Item) (text : List ℕ) (ps : List Piece) (items : List Placed) → AllByRecursion (IsOfKind text) ps → AllByRecursion (λ p. is_entry_or_gap p.kind ≡ true) ps
    → reading_from year before text ps ≡ Ok items → SayAlike before (before ++ items_at items)
none_said year before text [] items kinds may h =
    ap (λ (xs : List Placed). directives_in (before ++ items_at xs)) (sym (ok_same [] items (sym (read_none year before text) ∙ h))) ∙ ap directives_in (append-nil before)
none_said year before text (p ∷ ps) items kinds may h =
    let f = first_read year before text p ps items h in
    ap (λ (xs : List Placed). directives_in (before ++ items_at xs)) (sym f.are)
    ∙ ap directives_in (sym (append_assoc before (f.said ∷ []) (items_at f.more)))
    ∙ none_said year (before ++ f.said ∷ []) text ps f.more kinds.1 may.1 f.others
    ∙ same_said before f.said (item_none year before text p f.said kinds.0 may.0 f.one)
