-- Where a text reads in which bytes stand in the place of an entry, the bytes read there.
use Rattle.std.proofs.Common.{ℕ, ◌≡◌, ◌+◌, ◌-◌, Bool, true, false, cond, ◌&&◌, List, [], ◌∷◌, ◌++◌, length, take, drop, map, Option, Result, Ok, Err, refl, sym, ap, subst, ◌∙◌, arith, append_assoc, append-nil, drop-drop, length-append}
use Rattle.std.specs.List.{concat, AllByRecursion}
use Rattle.std.specs.Str.{IsUtf8, is_utf8}
use Rattle.std.proofs.lemmas.Str.{IsCharBoundary-at_seam, IsCharBoundary-from_take, IsUtf8-drop, IsUtf8-from_is_utf8, IsUtf8-take, is_utf8-from_IsUtf8}
use Rattle.std.proofs.Math.Seq.{drop-append_seam, take-add, take-append_seam}
use Rattle.hl_base.specs.Items.{items_of, kind_of}
use Rattle.hl_base.specs.Lines.{first_line, lines_of}
use Rattle.hl_base.specs.declared.items.Kind.TheVariants as kinds
use Rattle.hl_base.specs.declared.items.Piece.{Piece}
use Rattle.book.specs.declared.fault.Cause.TheVariants as cause
use Rattle.book.specs.declared.fault.Fault.{Fault}
use Rattle.book.specs.declared.item.Item.{Item}
use Rattle.book.specs.declared.item.Item.TheVariants as item
use Rattle.book.specs.declared.item.Placed.{Placed}
use Rattle.entry_reader.specs.Causes.{fault_at}
use Rattle.entry_reader.specs.Contexts.{Context, context_of, directive_in}
use Rattle.journal_reader.specs.Items.{broken_line, items_in, reading, reading_from, said_by}
use Rattle.moved_lines.specs.Moving.{moved_piece, moved_placed}
use Rattle.text_ends.specs.Ends.{items_at}
use Rattle.text_ends.specs.Growth.{shifted}
use Rattle.text_ends.proofs.Stepping.{ok_same, placed_as}
use Rattle.changed_texts.specs.Meeting.{AreEntries, meeting, said_behind, with_piece}
use Rattle.changed_texts.specs.Replacing.{IsEntryOf, bytes_at, is_gap, offset_of, replaced}
use Rattle.changed_texts.proofs.Anew.{Told, all_stay, before_is, later_anew, told}
use Rattle.changed_texts.proofs.Cuts.{piece}
use Rattle.changed_texts.proofs.Cutting.{rest}
use Rattle.changed_texts.proofs.Found.{Found, found}
use Rattle.changed_texts.proofs.Gathered.{all_there, follow_behind, follow_front, follow_inner, follow_mid, kinds_all, kinds_front, kinds_inner, kinds_mid}
use Rattle.changed_texts.proofs.Joined.{Follows, IsOfKind, both_gaps, first_read, follows_along, gap_read, read_alike, read_bytes, reads_gap}
use Rattle.changed_texts.proofs.Joining.{read_none, read_one}
use Rattle.changed_texts.proofs.Meeting.{all_meet}
use Rattle.changed_texts.proofs.Reading.{SayAlike, same_said}

-- ---- UTF-8 of parts

utf8_front : (xs ys : List ℕ) → is_utf8 (xs ++ ys) ≡ true → is_utf8 ys ≡ true → is_utf8 xs ≡ true
utf8_front xs ys whole back =
    let u = IsUtf8-from_is_utf8 (xs ++ ys) whole in
    let seam = IsCharBoundary-at_seam (xs ++ ys) xs ys refl (IsUtf8-from_is_utf8 ys back) in
    is_utf8-from_IsUtf8 xs (subst IsUtf8 (take-append_seam xs ys) (IsUtf8-take (xs ++ ys) (length xs) u seam))

utf8_back : (xs ys : List ℕ) → is_utf8 (xs ++ ys) ≡ true → is_utf8 xs ≡ true → is_utf8 ys ≡ true
utf8_back xs ys whole front =
    let u = IsUtf8-from_is_utf8 (xs ++ ys) whole in
    let first : IsUtf8 (take (length xs) (xs ++ ys)) = subst IsUtf8 (sym (take-append_seam xs ys)) (IsUtf8-from_is_utf8 xs front) in
    let seam = IsCharBoundary-from_take (xs ++ ys) (length xs) u (omega (arith, length-append xs ys)) first in
    is_utf8-from_IsUtf8 ys (subst IsUtf8 (drop-append_seam xs ys) (IsUtf8-drop (xs ++ ys) (length xs) u seam))

valid_by : (t : Bool) (r : Result Item Fault) (fault : Fault) (i : Item) → (let s : Result Item Fault = cond t r (Err fault) in s) ≡ Ok i → t ≡ true
valid_by true r fault i h = refl
valid_by false r fault i h = absurd (let never : ⊥ = cc in never)

-- bytes that read are UTF-8
read_valid : (c : Context) (l : ℕ) (bytes : List ℕ) (i : Item) → reading c l bytes ≡ Ok i → is_utf8 bytes ≡ true
unfolding reading
read_valid c l bytes i h = valid_by (is_utf8 bytes) (said_by (kind_of (first_line bytes)) c l bytes) (fault_at (broken_line l bytes) cause.Encoding) i h

abbrev IsValid : List ℕ → Piece → Type 0
IsValid text p = is_utf8 (bytes_at text p) ≡ true

all_valid : (year : Option ℕ) (before : List Item) (text : List ℕ) (ps : List Piece) (items : List Placed) → reading_from year before text ps ≡ Ok items → AllByRecursion (IsValid text) ps
all_valid year before text [] items h = tt
all_valid year before text (p ∷ ps) items h =
    let f = first_read year before text p ps items h in
    (read_valid (context_of year before) p.line (bytes_at text p) f.said f.one, all_valid year (before ++ f.said ∷ []) text ps f.more f.others)

-- ---- pieces that were read as one

joint_bytes : (text : List ℕ) (p q : Piece) → q.at ≡ p.at + p.len → bytes_at text (piece p.at (p.len + q.len) p.line p.kind) ≡ bytes_at text p ++ bytes_at text q
joint_bytes text p q next =
    take-add p.len q.len (drop p.at text)
    ∙ ap (λ (xs : List ℕ). bytes_at text p ++ take q.len xs) (drop-drop p.len p.at text ∙ ap (λ (m : ℕ). drop m text) (sym next))

-- what some pieces read as
record AreRead (year : Option ℕ) (before : List Item) (text : List ℕ) (ps : List Piece) : Type 0 where
  items : List Placed
  is : reading_from year before text ps ≡ Ok items

item_same : (a b : Item) → (let x : Result Item Fault = Ok a in x) ≡ Ok b → a ≡ b
item_same a b e = cc

-- The first pieces of those that meet, where the others are valid by themselves.
front_by : (year : Option ℕ) (before : List Item) (text : List ℕ) (p q : Piece) (qs : List Piece) (all : List Placed) → q.at ≡ p.at + p.len → IsOfKind text p → IsValid text q
    → (b : Bool) → (b ≡ true → (p.kind ≡ kinds.Gap) × (q.kind ≡ kinds.Gap)) → reading_from year before text (cond b (piece p.at (p.len + q.len) p.line p.kind ∷ qs) (p ∷ q ∷ qs)) ≡ Ok all → AreRead year before text (p ∷ [])
front_by year before text p q qs all next kind valid false f h =
    let r = first_read year before text p (q ∷ qs) all h in
    record { items = placed_as p r.said ∷ []; is = read_one year before text p [] r.said [] r.one (read_none year (before ++ r.said ∷ []) text) }
front_by year before text p q qs all next kind valid true f h =
    let both = f refl in
    let joint = piece p.at (p.len + q.len) p.line p.kind in
    let r = first_read year before text joint qs all h in
    let whole : is_utf8 (bytes_at text p ++ bytes_at text q) ≡ true = ap is_utf8 (sym (joint_bytes text p q next)) ∙ read_valid (context_of year before) p.line (bytes_at text joint) r.said r.one in
    let own = utf8_front (bytes_at text p) (bytes_at text q) whole valid in
    let reads : reading (context_of year before) p.line (bytes_at text p) ≡ Ok item.Gap = reads_gap (context_of year before) p.line (bytes_at text p) (kind ∙ both.0) own in
    record { items = placed_as p item.Gap ∷ []; is = read_one year before text p [] item.Gap [] reads (read_none year (before ++ item.Gap ∷ []) text) }

front_one : (year : Option ℕ) (before : List Item) (text : List ℕ) (p : Piece) (qs : List Piece) (all : List Placed) (to : ℕ) → Follows (p.at + p.len) to qs → IsOfKind text p → AllByRecursion (IsValid text) qs
    → reading_from year before text (with_piece p qs) ≡ Ok all → AreRead year before text (p ∷ [])
front_one year before text p [] all to follow kind valid h = record { items = all; is = h }
front_one year before text p (q ∷ qs) all to follow kind valid h = front_by year before text p q qs all follow.0 kind valid.0 (is_gap p.kind && is_gap q.kind) (both_gaps p q) h

front_reads : (year : Option ℕ) (before : List Item) (text : List ℕ) (ps qs : List Piece) (all : List Placed) (from mid to : ℕ) → Follows from mid ps → Follows mid to qs → AllByRecursion (IsOfKind text) ps → AllByRecursion (IsValid text) qs
    → reading_from year before text (meeting ps qs) ≡ Ok all → AreRead year before text ps
front_reads year before text [] qs all from mid to fp fq kinds_ valid h = record { items = []; is = read_none year before text }
front_reads year before text (p ∷ []) qs all from mid to fp fq kinds_ valid h =
    front_one year before text p qs all to (follows_along _ _ _ _ qs (sym fp.1 ∙ ap (λ (m : ℕ). m + p.len) (sym fp.0)) refl fq) kinds_.0 valid h
front_reads year before text (p ∷ r ∷ ps) qs all from mid to fp fq kinds_ valid h =
    let f = first_read year before text p (meeting (r ∷ ps) qs) all h in
    let rest = front_reads year (before ++ f.said ∷ []) text (r ∷ ps) qs f.more (from + p.len) mid to fp.1 fq kinds_.1 valid f.others in
    record { items = placed_as p f.said ∷ rest.items; is = read_one year before text p (r ∷ ps) f.said rest.items f.one rest.is }

-- The pieces behind others that were read, where gaps that meet are one.
back_by : (year : Option ℕ) (before : List Item) (text : List ℕ) (p q : Piece) (i : Item) (qs : List Piece) (all : List Placed) → q.at ≡ p.at + p.len → IsOfKind text p → IsOfKind text q → reading (context_of year before) p.line (bytes_at text p) ≡ Ok i
    → (b : Bool) → (b ≡ true → (p.kind ≡ kinds.Gap) × (q.kind ≡ kinds.Gap)) → AllByRecursion (IsOfKind text) (cond b (piece p.at (p.len + q.len) p.line p.kind ∷ qs) (p ∷ q ∷ qs))
    → reading_from year before text (cond b (piece p.at (p.len + q.len) p.line p.kind ∷ qs) (p ∷ q ∷ qs)) ≡ Ok all → AreRead year (before ++ i ∷ []) text (q ∷ qs)
back_by year before text p q i qs all next kind_p kind_q one false f kinds_ h =
    let r = first_read year before text p (q ∷ qs) all h in
    let same : r.said ≡ i = item_same r.said i (sym r.one ∙ one) in
    record { items = r.more; is = ap (λ (j : Item). reading_from year (before ++ j ∷ []) text (q ∷ qs)) (sym same) ∙ r.others }
back_by year before text p q i qs all next kind_p kind_q one true f kinds_ h =
    let both = f refl in
    let joint = piece p.at (p.len + q.len) p.line p.kind in
    let r = first_read year before text joint qs all h in
    let whole : is_utf8 (bytes_at text p ++ bytes_at text q) ≡ true = ap is_utf8 (sym (joint_bytes text p q next)) ∙ read_valid (context_of year before) p.line (bytes_at text joint) r.said r.one in
    let own = utf8_back (bytes_at text p) (bytes_at text q) whole (read_valid (context_of year before) p.line (bytes_at text p) i one) in
    let gap = gap_read (context_of year before) p.line (bytes_at text p) i (kind_p ∙ both.0) one in
    let first = gap_read (context_of year before) p.line (bytes_at text joint) r.said (kinds_.0 ∙ both.0) r.one in
    let reads : reading (context_of year (before ++ i ∷ [])) q.line (bytes_at text q) ≡ Ok item.Gap = reads_gap (context_of year (before ++ i ∷ [])) q.line (bytes_at text q) (kind_q ∙ both.1) own in
    let alike : SayAlike (before ++ r.said ∷ []) ((before ++ i ∷ []) ++ item.Gap ∷ []) =
    same_said (before ++ i ∷ []) item.Gap refl ∙ same_said before i (ap directive_in gap.gap) ∙ sym (same_said before r.said (ap directive_in first.gap)) in
    record {
      items = placed_as q item.Gap ∷ r.more;
      is =
          read_one year (before ++ i ∷ []) text q qs item.Gap r.more reads
          (read_alike year (before ++ r.said ∷ []) ((before ++ i ∷ []) ++ item.Gap ∷ []) text qs alike ∙ r.others);
    }

back_one : (year : Option ℕ) (before : List Item) (text : List ℕ) (p : Piece) (i : Item) (qs : List Piece) (all : List Placed) (to : ℕ) → Follows (p.at + p.len) to qs → IsOfKind text p → AllByRecursion (IsOfKind text) qs → AllByRecursion (IsOfKind text) (with_piece p qs)
    → reading (context_of year before) p.line (bytes_at text p) ≡ Ok i → reading_from year before text (with_piece p qs) ≡ Ok all → AreRead year (before ++ i ∷ []) text qs
back_one year before text p i [] all to follow kind kinds_ joined one h = record { items = []; is = read_none year (before ++ i ∷ []) text }
back_one year before text p i (q ∷ qs) all to follow kind kinds_ joined one h =
    back_by year before text p q i qs all follow.0 kind kinds_.0 one (is_gap p.kind && is_gap q.kind) (both_gaps p q) joined h

back_reads : (year : Option ℕ) (before : List Item) (text : List ℕ) (ps qs : List Piece) (is all : List Placed) (from mid to : ℕ) → Follows from mid ps → Follows mid to qs → AllByRecursion (IsOfKind text) ps → AllByRecursion (IsOfKind text) qs → AllByRecursion (IsOfKind text) (meeting ps qs)
    → reading_from year before text ps ≡ Ok is → reading_from year before text (meeting ps qs) ≡ Ok all → AreRead year (before ++ items_at is) text qs
back_reads year before text [] qs is all from mid to fp fq kp kq joined own h =
    let none : [] ≡ is = ok_same [] is (sym (read_none year before text) ∙ own) in
    record { items = all; is = ap (λ (xs : List Placed). reading_from year (before ++ items_at xs) text qs) (sym none) ∙ ap (λ (b : List Item). reading_from year b text qs) (append-nil before) ∙ h }
back_reads year before text (p ∷ []) qs is all from mid to fp fq kp kq joined own h =
    let f = first_read year before text p [] is own in
    let none : [] ≡ f.more = ok_same [] f.more (sym (read_none year (before ++ f.said ∷ []) text) ∙ f.others) in
    let whole : placed_as p f.said ∷ [] ≡ is = ap (λ (xs : List Placed). placed_as p f.said ∷ xs) none ∙ f.are in
    let r = back_one year before text p f.said qs all to (follows_along _ _ _ _ qs (sym fp.1 ∙ ap (λ (m : ℕ). m + p.len) (sym fp.0)) refl fq) kp.0 kq joined f.one h in
    record { items = r.items; is = ap (λ (xs : List Placed). reading_from year (before ++ items_at xs) text qs) (sym whole) ∙ r.is }
back_reads year before text (p ∷ r ∷ ps) qs is all from mid to fp fq kp kq joined own h =
    let f = first_read year before text p (r ∷ ps) is own in
    let g = first_read year before text p (meeting (r ∷ ps) qs) all h in
    let same : g.said ≡ f.said = item_same g.said f.said (sym g.one ∙ f.one) in
    let others : reading_from year (before ++ f.said ∷ []) text (meeting (r ∷ ps) qs) ≡ Ok g.more = ap (λ (j : Item). reading_from year (before ++ j ∷ []) text (meeting (r ∷ ps) qs)) (sym same) ∙ g.others in
    let rest = back_reads year (before ++ f.said ∷ []) text (r ∷ ps) qs f.more g.more (from + p.len) mid to fp.1 fq kp.1 kq joined.1 f.others others in
    record {
      items = rest.items;
      is =
          ap (λ (xs : List Placed). reading_from year (before ++ items_at xs) text qs) (sym f.are)
          ∙ ap (λ (b : List Item). reading_from year b text qs) (sym (append_assoc before (f.said ∷ []) (items_at f.more)))
          ∙ rest.is;
    }

-- bytes that stand further on in another text
further_back : (year : Option ℕ) (before : List Item) (bytes new : List ℕ) (at lines : ℕ) (ps : List Piece) (said : List Placed) → AllByRecursion (λ (p : Piece). take p.len (drop (at + p.at) new) ≡ take p.len (drop (0 + p.at) bytes)) ps
    → reading_from year before new (map (shifted at lines) ps) ≡ Ok said → AreRead year before bytes (map (shifted 0 lines) ps)
further_back year before bytes new at lines [] said all h = record { items = []; is = read_none year before bytes }
further_back year before bytes new at lines (p ∷ ps) said all h =
    let f = first_read year before new (shifted at lines p) (map (shifted at lines) ps) said h in
    let rest = further_back year (before ++ f.said ∷ []) bytes new at lines ps f.more all.1 f.others in
    record {
      items = placed_as (shifted 0 lines p) f.said ∷ rest.items;
      is = read_one year before bytes (shifted 0 lines p) (map (shifted 0 lines) ps) f.said rest.items (ap (reading (context_of year before) (lines + p.line)) (sym all.0) ∙ f.one) rest.is;
    }

-- ---- the text

module _ (year : Option ℕ) (text : List ℕ) (items : List Placed) (n : ℕ) (p : Piece) (c : Found text n p) (t : Told year text items n p c) (bytes : List ℕ) (entries : AreEntries bytes) where
  reads_there : (after : List Placed) → items_in year (replaced text p bytes) ≡ Ok after → AreRead year (items_at t.before) bytes (map (shifted 0 (p.line - 1)) (items_of bytes))
  reads_there after h =
      let new = replaced text p bytes in
      let is = items_at t.before in
      let ps = take n (items_of text) in
      let mid = map (shifted p.at (p.line - 1)) (items_of bytes) in
      let behind = map (moved_piece (offset_of text p bytes)) (rest text n p c) in
      let size = length (concat (lines_of bytes)) in
      let later = map (moved_placed (offset_of text p bytes)) t.later in
      let front_read : reading_from year [] new ps ≡ Ok t.before = read_bytes year [] text new ps (all_stay text n p c bytes) ∙ t.before_read in
      let whole : reading_from year [] new (meeting ps (meeting mid behind)) ≡ Ok after = sym (ap (reading_from year [] new) (all_meet text n p c bytes entries)) ∙ h in
      let inner = back_reads year [] new ps (meeting mid behind) t.before after (0 + 0) p.at (p.at + length (concat (lines_of bytes ++ c.post))) (follow_front text n p c bytes entries) (follow_inner text n p c bytes entries)
      (kinds_front text n p c bytes entries) (kinds_inner text n p c bytes entries) (kinds_all text n p c bytes entries) front_read whole in
      let valid = all_valid year (is ++ t.old ∷ []) new behind later (later_anew year text items n p c t bytes (is ++ t.old ∷ []) refl) in
      let own = front_reads year is new mid behind inner.items p.at (p.at + size) (p.at + size + length (concat c.post)) (follow_mid text n p c bytes entries) (follow_behind text n p c bytes entries)
      (kinds_mid text n p c bytes entries) valid inner.is in
      further_back year is bytes new p.at (p.line - 1) (items_of bytes) own.items (all_there text n p c bytes entries) own.is

no_read : (fault : Fault) (items : List Placed) → (let r : Result (List Placed) Fault = Err fault in r) ≡ Ok items → ⊥
no_read fault items h = cc

-- where the bytes have a fault, the text doesn't read
pub reads_not : (year : Option ℕ) (text bytes : List ℕ) (items : List Placed) (n : ℕ) (p : Piece) → IsEntryOf text n p → AreEntries bytes → items_in year text ≡ Ok items
    → (fault : Fault) → said_behind year (items_at (take n items)) (p.line - 1) bytes ≡ Err fault → (after : List Placed) → items_in year (replaced text p bytes) ≡ Ok after → ⊥
reads_not year text bytes items n p of entries read fault h after k =
    let c = found text n p of in
    let t = told year text items n p c read in
    let r = reads_there year text items n p c t bytes entries after k in
    no_read fault r.items
    (
    sym h
    ∙ ap (λ (xs : List Placed). reading_from year (items_at xs) bytes (map (shifted 0 (p.line - 1)) (items_of bytes))) (before_is year text items n p c t)
    ∙ r.is
    )
