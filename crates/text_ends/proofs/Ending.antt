-- What is kept of a text's end once bytes stand behind it is what is kept of the whole.
use Rattle.std.proofs.Common.{ℕ, suc, ◌≡◌, ◌+◌, ◌-◌, ◌≤◌, Bool, true, false, cond, ◌==◌, ◌&&◌, ◌||◌, not, List, [], ◌∷◌, ◌++◌, length, take, drop, map, Option, Some, None, option_map, Ok, refl, sym, ap, subst, ◌∙◌, arith, append_assoc, append-nil, length-append}
use Rattle.std.specs.Prelude.{IfSome, slice_index}
use Rattle.std.specs.List.{list_any, slice_get, AllByRecursion}
use Rattle.std.proofs.Math.Seq.{drop-append_seam}
use Rattle.std.proofs.lemmas.Bool.{eqb-true, false_from_ne_true}
use Rattle.std.proofs.lemmas.Grind.{flat_map-append}
use Rattle.std.proofs.lemmas.List.Folds.{list_any-append}
use Rattle.hl_base.specs.Items.{closes_block, items_of, kind_of}
use Rattle.hl_base.specs.Lines.{lines_of}
use Rattle.hl_base.specs.declared.items.Piece.{Piece}
use Rattle.book.specs.declared.directive.Directive.{Directive}
use Rattle.book.specs.declared.item.Item.{Item}
use Rattle.book.specs.declared.item.Item.TheVariants as item
use Rattle.book.specs.declared.item.Placed.{Placed}
use Rattle.entry_reader.specs.Contexts.{context_from, context_of, directive_in, directives_in}
use Rattle.journal_reader.specs.Items.{items_in}
use Rattle.text_ends.specs.Ends.{end_of, ends_line, front_of, is_block, is_unclosed, items_at, last_of}
use Rattle.text_ends.specs.Going.{GoesOn, grown_item, grown_piece, items_behind, longer}
use Rattle.text_ends.specs.Growth.{begins_apart, begins_empty, goes_behind, goes_indented, lacked, lines_taken, rest_of, shifted, taken}
use Rattle.text_ends.specs.Told.{is_directive, told_behind}
use Rattle.text_ends.specs.Whole.{ComesTo, end_behind, ended_behind, last_behind, unclosed_behind}
use Rattle.text_ends.specs.declared.kept.KeptEnd.{KeptEnd}
use Rattle.text_ends.specs.declared.reading.Grown.{Grown}
use Rattle.text_ends.proofs.Alike.{alike_closes}
use Rattle.text_ends.proofs.Bounds.{last_open}
use Rattle.text_ends.proofs.Cutting as cut
use Rattle.text_ends.proofs.Cutting.{last_is}
use Rattle.text_ends.proofs.Lining.{lines_front}
use Rattle.text_ends.proofs.Measures.{Stands, last_cons, lines_is, piece_at, stands_behind, taken_is, tells}
use Rattle.text_ends.proofs.Saying.{both_of, drop_behind, goes_on}
use Rattle.text_ends.proofs.Stepping.{items_parts}

-- ---- the last of lists

record HasLast {X : Type 0} (xs : List X) : Type 0 where
  pub one : X
  pub is : last_of xs ≡ Some one

has_last : {X : Type 0} (x : X) (xs : List X) → HasLast (x ∷ xs)
has_last {X} x [] = record { one = x; is = refl }
has_last {X} x (y ∷ ys) = let r = has_last y ys in record { one = r.one; is = last_cons x y ys ∙ r.is }

last_over : {X : Type 0} (xs : List X) (y : X) (ys : List X) → last_of (xs ++ y ∷ ys) ≡ last_of (y ∷ ys)
last_over {X} [] y ys = refl
last_over {X} (x ∷ []) y ys = last_cons x y ys
last_over {X} (x ∷ w ∷ ws) y ys = last_cons x w (ws ++ y ∷ ys) ∙ last_over (w ∷ ws) y ys

last_map : (ps : List Placed) → last_of (map piece_at ps) ≡ option_map piece_at (last_of ps)
last_map [] = refl
last_map (p ∷ []) = refl
last_map (p ∷ q ∷ qs) = last_cons (piece_at p) (piece_at q) (map piece_at qs) ∙ last_map (q ∷ qs) ∙ ap (option_map piece_at) (sym (last_cons p q qs))

none_front : {X : Type 0} (xs : List X) → last_of xs ≡ None → front_of xs ≡ []
none_front {X} [] h = refl
none_front {X} (x ∷ xs) h = let same = sym h ∙ (has_last x xs).is in absurd (let never : ⊥ = cc in never)

-- the last piece of the whole
last_own : (front : List Piece) (more : ℕ) (o : Option Piece) → (o ≡ None → front ≡ []) → last_behind None more o ≡ last_of (front ++ (grown_piece more o ++ []))
last_own front more None none = sym (ap (λ (f : List Piece). last_of (f ++ [])) (none refl))
last_own front more (Some p) none = sym (last_is front (longer more p))

last_told : (front : List Piece) (more : ℕ) (o : Option Piece) (qs : List Piece) (is : List Placed) → (o ≡ None → front ≡ []) → map piece_at is ≡ qs
    → last_behind (last_of is) more o ≡ last_of (front ++ (grown_piece more o ++ qs))
last_told front more o qs [] none e = last_own front more o none ∙ ap (λ (rs : List Piece). last_of (front ++ (grown_piece more o ++ rs))) e
last_told front more o qs (i ∷ is) none e =
    let l = has_last i is in
    ap (λ (x : Option Placed). last_behind x more o) l.is
    ∙ sym (last_map (i ∷ is) ∙ ap (option_map piece_at) l.is)
    ∙ sym (last_over (front ++ grown_piece more o) (piece_at i) (map piece_at is))
    ∙ ap (λ (rs : List Piece). last_of rs) (append_assoc front (grown_piece more o) (piece_at i ∷ map piece_at is))
    ∙ ap (λ (rs : List Piece). last_of (front ++ (grown_piece more o ++ rs))) e

-- ---- the whole ends with LF

index_over : (xs ys : List ℕ) (n : ℕ) → slice_index (xs ++ ys) (length xs + n) ≡ slice_index ys n
index_over [] ys n = ap (λ (k : ℕ). slice_index ys k) (let e : 0 + n ≡ n = omega arith in e)
index_over (x ∷ xs) ys n = ap (λ (k : ℕ). slice_index (x ∷ (xs ++ ys)) k) (let e : length (x ∷ xs) + n ≡ suc (length xs + n) = omega arith in e) ∙ index_over xs ys n

some_bytes : (n : ℕ) → (suc n == 0) ≡ false
some_bytes n = false_from_ne_true (suc n == 0) (λ h. let e : suc n ≡ 0 = eqb-true (suc n) 0 h in omega (arith, e))

ended_same : (text bytes : List ℕ) → ended_behind (ends_line text) bytes ≡ ends_line (text ++ bytes)
ended_same text [] = sym (ap (λ (t : List ℕ). ends_line t) (append-nil text))
ended_same text (b ∷ bs) =
    let place : length (text ++ b ∷ bs) - 1 ≡ length text + (length (b ∷ bs) - 1) = omega (arith, length-append text (b ∷ bs)) in
    ap (λ (t : Bool). cond t (ends_line text) (ends_line (b ∷ bs))) (some_bytes (length bs))
    ∙ sym (ap (λ (k : ℕ). slice_index (text ++ b ∷ bs) k == 10) place ∙ ap (λ (c : ℕ). c == 10) (index_over text (b ∷ bs) (length (b ∷ bs) - 1)))

-- ---- a block without its end

three : (a b c : Bool) → (a && not (b || c)) ≡ ((a && not b) && not c)
three true true c = refl
three true false c = refl
three false b c = refl

module _ (b : ℕ) (bs bytes : List ℕ) (begins : (ends_line (b ∷ bs) || begins_empty bytes) ≡ true) (apart : (not (goes_indented (kind_of (cut.l b bs))) || begins_empty (drop (lacked (ends_line (b ∷ bs))) bytes)) ≡ true) where
  abbrev text : List ℕ
  text = b ∷ bs

  abbrev l : List ℕ
  l = cut.l b bs

  abbrev r : List ℕ
  r = drop (lacked (ends_line text)) bytes

  abbrev x : List ℕ
  x = cut.x b bs bytes begins apart

  abbrev head : List ℕ
  head = cut.head b bs

  abbrev ended : Bool
  ended = list_any closes_block (lines_of r)

  open_lines : lines_of (drop (cut.at b bs) (text ++ bytes)) ≡ cut.first b bs bytes begins apart ∷ (cut.others b bs bytes begins apart ++ lines_of r)
  open_lines =
      ap (λ (t : List ℕ). lines_of (drop (cut.at b bs) t)) (cut.whole_is b bs bytes begins apart)
      ∙ ap (λ (k : ℕ). lines_of (drop k (head ++ (x ++ r)))) (let e : 0 + length head ≡ length head = omega arith in e)
      ∙ ap (λ (t : List ℕ). lines_of t) (drop-append_seam head (x ++ r))
      ∙ lines_front x r (cut.grown b bs bytes begins apart).ended
      ∙ ap (λ (ls : List (List ℕ)). ls ++ lines_of r) (cut.grown b bs bytes begins apart).lines

  any_line : list_any closes_block (cut.first b bs bytes begins apart ∷ (cut.others b bs bytes begins apart ++ lines_of r)) ≡ ((closes_block l || list_any closes_block (cut.rest b bs)) || ended)
  any_line =
      let g = cut.grown b bs bytes begins apart in
      let first = (g.like).closes in
      let others = alike_closes (cut.rest b bs) (cut.others b bs bytes begins apart) g.likes in
      list_any-append closes_block (cut.first b bs bytes begins apart ∷ cut.others b bs bytes begins apart) (lines_of r) ∙ (λ i. ((first i || others i) || ended))

  own_open : (is_block (kind_of l) && not (closes_block l || list_any closes_block (cut.rest b bs))) ≡ is_unclosed text (last_of (items_of text))
  own_open = last_open (kind_of l) l (cut.rest b bs) refl ∙ sym (cut.unclosed_is b bs)

  pub unclosed_own : (more : ℕ) → (is_unclosed text (last_of (items_of text)) && not ended) ≡ is_unclosed (text ++ bytes) (last_behind None more (last_of (items_of text)))
  unclosed_own more =
      ap (λ (t : Bool). t && not ended) (sym own_open)
      ∙ sym (three (is_block (kind_of l)) (closes_block l || list_any closes_block (cut.rest b bs)) ended)
      ∙ sym (ap (λ (t : Bool). is_block (kind_of l) && not t) (ap (λ (ls : List (List ℕ)). list_any closes_block ls) open_lines ∙ any_line))
      ∙ sym (ap (λ (o : Option Piece). is_unclosed (text ++ bytes) (last_behind None more o)) (cut.last_found b bs))

unclosed_none : (year : Option ℕ) (text bytes : List ℕ) (items : List Placed) (more : ℕ) → goes_behind (end_of year text items) bytes ≡ true
    → unclosed_behind (end_of year text items) bytes None ≡ is_unclosed (text ++ bytes) (last_behind None more (last_of (items_of text)))
unclosed_none year [] bytes items more behind = refl
unclosed_none year (b ∷ bs) bytes items more behind =
    let tests : ((ends_line (b ∷ bs) || begins_empty bytes) && (not (goes_indented (kind_of (cut.l b bs))) || begins_empty (drop (lacked (ends_line (b ∷ bs))) bytes))) ≡ true =
    ap (begins_apart (ends_line (b ∷ bs)) bytes) (sym (cut.last_found b bs)) ∙ behind in
    let both = both_of (ends_line (b ∷ bs) || begins_empty bytes) (not (goes_indented (kind_of (cut.l b bs))) || begins_empty (drop (lacked (ends_line (b ∷ bs))) bytes)) tests in
    unclosed_own b bs bytes both.0 both.1 more

-- ---- the context stays

no_directive : (i : Item) → is_directive i ≡ false → directive_in i ≡ []
no_directive (item.Txn t) h = refl
no_directive item.Gap h = refl
no_directive item.Block h = refl
no_directive (item.Auto r) h = refl
no_directive (item.Periodic r) h = refl
no_directive (item.Price p) h = refl
no_directive (item.Directive d) h = absurd (let never : ⊥ = cc in never)

no_directives : (at size : ℕ) (ps : List Placed) → AllByRecursion (Stands at size) ps → directives_in (items_at ps) ≡ []
no_directives at size [] h = refl
no_directives at size (p ∷ ps) h =
    let one = no_directive p.item (h.0).plain in
    let more = no_directives at size ps h.1 in
    λ j. one j ++ more j

context_stays : (year : Option ℕ) (xs ys : List Item) → directives_in ys ≡ [] → context_of year (xs ++ ys) ≡ context_of year xs
context_stays year xs ys none =
    ap (context_from year) (flat_map-append directive_in xs ys ∙ ap (λ (ds : List Directive). directives_in xs ++ ds) none ∙ append-nil (directives_in xs))

longer_same : (xs : List Placed) (more : ℕ) → items_at (front_of xs ++ grown_item more (last_of xs)) ≡ items_at xs
longer_same [] more = refl
longer_same (p ∷ []) more = refl
longer_same (p ∷ q ∷ qs) more =
    ap (λ (k : ℕ). items_at (take k (p ∷ q ∷ qs) ++ grown_item more (slice_get (p ∷ q ∷ qs) k))) (let e : length (p ∷ q ∷ qs) - 1 ≡ suc (length (q ∷ qs) - 1) = omega arith in e)
    ∙ ap (λ (is : List Item). p.item ∷ is) (longer_same (q ∷ qs) more)

items_whole : (items : List Placed) (g : Grown) → items_at (items_behind items g) ≡ items_at items ++ items_at g.items
items_whole items g =
    ap (λ (xs : List Placed). items_at xs) (sym (append_assoc (front_of items) (grown_item g.taken (last_of items)) g.items))
    ∙ items_parts (front_of items ++ grown_item g.taken (last_of items)) g.items
    ∙ ap (λ (is : List Item). is ++ items_at g.items) (longer_same items g.taken)

-- ---- all of it

module _ (year : Option ℕ) (text bytes : List ℕ) (items : List Placed) (g : Grown) (read : items_in year text ≡ Ok items) (behind : goes_behind (end_of year text items) bytes ≡ true) (told : told_behind (end_of year text items) bytes ≡ Ok (Some g)) where
  abbrev e : KeptEnd
  e = end_of year text items

  whole : GoesOn year text bytes items
  whole = goes_on year text bytes items read behind

  last_same : last_behind (last_of g.items) g.taken (last_of (items_of text)) ≡ last_of (items_of (text ++ bytes))
  last_same =
      ap (λ (m : ℕ). last_behind (last_of g.items) m (last_of (items_of text))) (taken_is e bytes g told)
      ∙ last_told (front_of (items_of text)) (taken e bytes) (last_of (items_of text)) (map (shifted (length text + taken e bytes) (length (lines_of text) + lines_taken e bytes)) (items_of (rest_of e bytes))) g.items
      (none_front (items_of text)) (tells e bytes g told).pieces
      ∙ sym (ap (λ (ps : List Piece). last_of ps) whole.cut)

  unclosed_by : (o : Option Placed) → IfSome o (λ placed. length text ≤ placed.piece.at) → unclosed_behind e bytes o ≡ is_unclosed (text ++ bytes) (last_behind o g.taken (last_of (items_of text)))
  unclosed_by None h = unclosed_none year text bytes items g.taken behind
  unclosed_by (Some placed) h =
      let at = placed.piece.at in
      let far : length text ≤ at = h in
      let place : at ≡ length text + (at - length text) = omega (arith, far) in
      let there : drop at (text ++ bytes) ≡ drop (at - length text) bytes = ap (λ (k : ℕ). drop k (text ++ bytes)) place ∙ drop_behind text bytes (at - length text) in
      sym (ap (λ (t : List ℕ). is_block placed.piece.kind && not (list_any closes_block (lines_of t))) there)

  unclosed_same : unclosed_behind e bytes (last_of g.items) ≡ is_unclosed (text ++ bytes) (last_of (items_of (text ++ bytes)))
  unclosed_same = unclosed_by (last_of g.items) (stands_behind e bytes g told) ∙ ap (is_unclosed (text ++ bytes)) last_same

  lines_same : length (lines_of text) + g.lines + length (lines_of (drop g.taken bytes)) ≡ length (lines_of (text ++ bytes))
  lines_same =
      let lines = lines_is e bytes g told in
      let bytes_are = taken_is e bytes g told in
      (λ j. length (lines_of text) + lines j + length (lines_of (drop (bytes_are j) bytes))) ∙ sym whole.lines

  context_same : e.context ≡ context_of year (items_at (items_behind items g))
  context_same =
      sym (ap (context_of year) (items_whole items g)
      ∙ context_stays year (items_at items) (items_at g.items) (no_directives (e.bytes + taken e bytes) (length (rest_of e bytes)) g.items (tells e bytes g told).stand))

  end_same : end_behind e bytes g ≡ end_of year (text ++ bytes) (items_behind items g)
  end_same =
      let last = last_same in
      let ended = ended_same text bytes in
      let unclosed = unclosed_same in
      let lines = lines_same in
      let size = sym (length-append text bytes) in
      let context = context_same in
      λ j. record { last = last j; ended = ended j; unclosed = unclosed j; lines = lines j; bytes = size j; context = context j }

-- what is kept of a text that reads becomes what is kept of the whole
pub ends_so : (e : KeptEnd) (bytes : List ℕ) (g : Grown) (new : KeptEnd) → ComesTo e bytes g → new ≡ end_behind e bytes g → (year : Option ℕ) (text : List ℕ) (items : List Placed) → items_in year text ≡ Ok items
    → e ≡ end_of year text items → new ≡ end_of year (text ++ bytes) (items_behind items g)
ends_so e bytes g new comes made year text items read is =
    made
    ∙ subst (λ (d : KeptEnd). goes_behind d bytes ≡ true → told_behind d bytes ≡ Ok (Some g) → end_behind d bytes g ≡ end_of year (text ++ bytes) (items_behind items g)) (sym is)
    (λ behind told. end_same year text bytes items g read behind told) (comes.may).goes comes.told
