-- What a text says in which other bytes stand in the place of an entry.
use Rattle.std.proofs.Common.{ℕ, suc, ◌≡◌, false, ◌+◌, ◌-◌, ◌≤◌, List, [], ◌∷◌, ◌++◌, length, take, drop, map, Option, Result, Ok, Err, refl, sym, ap, ◌∙◌, arith, append_assoc, drop-drop, length-append}
use Rattle.std.specs.List.{concat, AllByRecursion}
use Rattle.std.proofs.lemmas.List.{length-take-le}
use Rattle.std.proofs.Math.Seq.{drop-append_seam, take-append_seam}
use Rattle.hl_base.specs.Items.{items_of, kind_of}
use Rattle.hl_base.specs.Lines.{first_line}
use Rattle.hl_base.specs.declared.items.Kind.TheVariants as kinds
use Rattle.hl_base.specs.declared.items.Piece.{Piece}
use Rattle.book.specs.declared.fault.Fault.{Fault}
use Rattle.book.specs.declared.item.Item.{Item}
use Rattle.book.specs.declared.item.Placed.{Placed}
use Rattle.entry_reader.specs.Causes.{◌>>=◌}
use Rattle.entry_reader.specs.Contexts.{context_of, directive_in}
use Rattle.journal_reader.specs.Items.{items_in, reading, reading_from}
use Rattle.moved_lines.specs.Moving.{moved_number, moved_piece, moved_placed}
use Rattle.moved_lines.specs.declared.shift.Offset.{Offset}
use Rattle.text_ends.specs.Ends.{items_at}
use Rattle.text_ends.proofs.Stepping.{bound, front_bytes, ok_same, placed_as}
use Rattle.changed_texts.proofs.Lists.{all_map}
use Rattle.text_ends.proofs.Saying.{drop_behind}
use Rattle.changed_texts.specs.LinesOf.{relined_read}
use Rattle.changed_texts.specs.Replacing.{IsEntry, IsEntryOf, IsTxn, bytes_at, changed_items, changed_pieces, is_between_gaps, left_items, left_pieces, offset_of, piece_of, read_anew, replaced, said_there}
use Rattle.changed_texts.proofs.Cuts.{BeginsBehind, EndsBy}
use Rattle.changed_texts.proofs.Cutting.{all_behind, cut_anew, rest, rest_is}
use Rattle.changed_texts.proofs.Found.{Found, alone, behind_number, found, parted}
use Rattle.changed_texts.proofs.Holding.{Holds}
use Rattle.changed_texts.proofs.Leaving.{cut_gone_is}
use Rattle.changed_texts.proofs.Near.{first_is, reading-txn, txn-says-none}
use Rattle.changed_texts.proofs.Reading.{Follows, SayAlike, follow-late, front_again, more_alike, same_said, split}

-- ---- bytes that stay

module _ (text : List ℕ) (n : ℕ) (p : Piece) (c : Found text n p) (bytes : List ℕ) where
  abbrev by : Offset
  by = offset_of text p bytes

  abbrev front : List ℕ
  front = concat c.pre

  abbrev back : List ℕ
  back = concat c.post

  pub new_is : replaced text p bytes ≡ (front ++ bytes) ++ back
  new_is = let parts = parted text n p c in λ i. (parts.before i ++ bytes) ++ parts.behind i

  front_stays : (q : Piece) → EndsBy p.at q → take q.len (drop q.at (replaced text p bytes)) ≡ take q.len (drop q.at text)
  front_stays q ends =
      let within : q.at + q.len ≤ length front = omega (arith, ends, c.at_is) in
      ap (λ (xs : List ℕ). take q.len (drop q.at xs)) (new_is ∙ append_assoc front bytes back)
      ∙ front_bytes front (bytes ++ back) q within
      ∙ sym (ap (λ (xs : List ℕ). take q.len (drop q.at xs)) (parted text n p c).whole ∙ front_bytes front (concat (c.first ∷ c.own) ++ back) q within)

  entry_there : take (piece_of p bytes).len (drop (piece_of p bytes).at (replaced text p bytes)) ≡ bytes
  entry_there =
      ap (take (length bytes)) ((λ i. drop (c.at_is i) ((new_is ∙ append_assoc front bytes back) i)) ∙ drop-append_seam front (bytes ++ back))
      ∙ take-append_seam bytes back

  behind_by : (q : Piece) (k : ℕ) → q.at ≡ p.at + p.len + k → by.lines.removed ≤ q.line → Follows by text (replaced text p bytes) q
  behind_by q k e low =
      let there : moved_number by.bytes q.at ≡ length (front ++ bytes) + k = omega (arith, e, c.at_is, length-append front bytes) in
      record {
        line = low;
        bytes =
            ap (take q.len)
            ((λ i. drop (there i) (new_is i)) ∙ drop_behind (front ++ bytes) back k
            ∙ sym (ap (λ (m : ℕ). drop m text) e ∙ sym (drop-drop k (p.at + p.len) text) ∙ ap (drop k) (parted text n p c).behind));
      }

  follows : (q : Piece) → BeginsBehind (p.at + p.len) (p.line + by.lines.removed) q → Follows by text (replaced text p bytes) q
  follows q h =
      let at = h.0 in
      let line = h.1 in
      behind_by q (q.at - (p.at + p.len)) (omega (arith, at)) (omega (arith, line))

  all_follow : AllByRecursion (Follows by text (replaced text p bytes)) (rest text n p c)
  all_follow = all_map (BeginsBehind (p.at + p.len) (p.line + by.lines.removed)) (Follows by text (replaced text p bytes)) follows (rest text n p c) (all_behind text n p c bytes)

  pub all_stay : AllByRecursion (λ (q : Piece). take q.len (drop q.at (replaced text p bytes)) ≡ take q.len (drop q.at text)) (take n (items_of text))
  all_stay = all_map (EndsBy p.at) (λ (q : Piece). take q.len (drop q.at (replaced text p bytes)) ≡ take q.len (drop q.at text)) front_stays (take n (items_of text)) c.ends

-- ---- the items of the text

-- The items before an entry, what it says, and the items behind it.
pub record Told (year : Option ℕ) (text : List ℕ) (items : List Placed) (n : ℕ) (p : Piece) (c : Found text n p) : Type 0 where
  pub before : List Placed
  pub old : Item
  pub later : List Placed
  pub items_are : items ≡ before ++ placed_as p old ∷ later
  pub count : length before ≡ n
  pub before_read : reading_from year [] text (take n (items_of text)) ≡ Ok before
  pub old_read : reading (context_of year (items_at before)) p.line (bytes_at text p) ≡ Ok old
  pub later_read : reading_from year (items_at before ++ old ∷ []) text (rest text n p c) ≡ Ok later

pub told : (year : Option ℕ) (text : List ℕ) (items : List Placed) (n : ℕ) (p : Piece) (c : Found text n p) → items_in year text ≡ Ok items → Told year text items n p c
unfolding reading_from
told year text items n p c read =
    let ps = items_of text in
    let s = split year [] text (take n ps) (p ∷ rest text n p c) items (sym (ap (reading_from year [] text) c.old) ∙ read) in
    let one = bound (reading (context_of year (items_at s.front)) p.line (bytes_at text p)) (λ i. reading_from year (items_at s.front ++ i ∷ []) text (rest text n p c) >>= λ more. Ok (placed_as p i ∷ more)) s.back s.back_read in
    let two = bound (reading_from year (items_at s.front ++ one.value ∷ []) text (rest text n p c)) (λ more. Ok (placed_as p one.value ∷ more)) s.back one.second in
    let few = c.few in
    record {
      before = s.front;
      old = one.value;
      later = two.value;
      items_are = s.items_are ∙ ap (λ (is : List Placed). s.front ++ is) (sym (ok_same (placed_as p one.value ∷ two.value) s.back two.second));
      count = s.count ∙ length-take-le n ps (omega (arith, few));
      before_read = s.front_read;
      old_read = one.first;
      later_read = two.first;
    }

-- what an entry of a text says is no directive
pub old_none : (year : Option ℕ) (text : List ℕ) (items : List Placed) (n : ℕ) (p : Piece) (c : Found text n p) (t : Told year text items n p c) → directive_in t.old ≡ []
old_none year text items n p c t =
    let kind : kind_of (first_line (bytes_at text p)) ≡ kinds.Entry = ap kind_of (first_is (bytes_at text p) c.first c.own (parted text n p c).own_lines) ∙ c.is_entry in
    txn-says-none t.old ((reading-txn (context_of year (items_at t.before)) p.line (bytes_at text p) kind).is t.old t.old_read)

-- what stands there is no directive either
pub new_txn : (year : Option ℕ) (items : List Placed) (n : ℕ) (p : Piece) (bytes : List ℕ) → IsEntry bytes → Holds IsTxn (said_there year items n p bytes)
new_txn year items n p bytes entry =
    let a = alone bytes entry in
    let kind : kind_of (first_line bytes) ≡ kinds.Entry = ap kind_of (first_is bytes a.first a.own a.lines) ∙ a.is_entry in
    reading-txn (context_of year (items_at (take n items))) p.line bytes kind

module _ (year : Option ℕ) (text : List ℕ) (items : List Placed) (n : ℕ) (p : Piece) (c : Found text n p) (t : Told year text items n p c) where
  pub before_is : take n items ≡ t.before
  before_is = (λ i. take (sym t.count i) (t.items_are i)) ∙ take-append_seam t.before (placed_as p t.old ∷ t.later)

  pub later_is : drop (suc n) items ≡ t.later
  later_is = (λ i. drop (suc (sym t.count i)) (t.items_are i)) ∙ behind_number t.before (placed_as p t.old) t.later

  -- the pieces behind the entry, after items that say the same to them
  pub later_anew : (bytes : List ℕ) (js : List Item) → SayAlike (items_at t.before ++ t.old ∷ []) js
      → reading_from year js (replaced text p bytes) (map (moved_piece (offset_of text p bytes)) (rest text n p c)) ≡ Ok (map (moved_placed (offset_of text p bytes)) t.later)
  later_anew bytes js alike =
      let move = offset_of text p bytes in
      (follow-late year move text (replaced text p bytes) (items_at t.before ++ t.old ∷ []) js (rest text n p c) alike (all_follow text n p c bytes)).is
      ∙ ap (relined_read (moved_number move.lines) (map (moved_placed move))) t.later_read

module _ (year : Option ℕ) (text : List ℕ) (items : List Placed) (n : ℕ) (p : Piece) (c : Found text n p) (t : Told year text items n p c) (bytes : List ℕ) (entry : IsEntry bytes) where
  -- what stands there changes no context
  new_alike : (i : Item) → directive_in i ≡ [] → SayAlike (items_at t.before ++ t.old ∷ []) (items_at t.before ++ i ∷ [])
  new_alike i none = let is = items_at t.before in more_alike is is t.old i refl (none ∙ sym (old_none year text items n p c t))

  -- the entry, and the pieces behind it
  by_entry : (r : Result Item Fault) → ((i : Item) → r ≡ Ok i → IsTxn i)
      → ((r >>= λ i. reading_from year (items_at t.before ++ i ∷ []) (replaced text p bytes) (map (moved_piece (offset_of text p bytes)) (rest text n p c)) >>= λ more. Ok (placed_as (piece_of p bytes) i ∷ more)) >>= λ more. Ok (t.before ++ more))
      ≡ (r >>= λ i. Ok (changed_items text items n p bytes i))
  by_entry (Err fault) txn = refl
  by_entry (Ok i) txn =
      ap (λ (q : Result (List Placed) Fault). (q >>= λ more. Ok (placed_as (piece_of p bytes) i ∷ more)) >>= λ more. Ok (t.before ++ more)) (later_anew year text items n p c t bytes (items_at t.before ++ i ∷ []) (new_alike i (txn-says-none i (txn i refl))))
      ∙ (λ k. Ok (sym (before_is year text items n p c t) k ++ placed_as (piece_of p bytes) i ∷ map (moved_placed (offset_of text p bytes)) (sym (later_is year text items n p c t) k)))

  read_by : items_in year (replaced text p bytes) ≡ read_anew year text items n p bytes
  unfolding reading_from
  read_by =
      let move = offset_of text p bytes in
      let new = replaced text p bytes in
      let is = items_at t.before in
      let said = reading (context_of year is) p.line bytes in
      let same : said_there year items n p bytes ≡ said = ap (λ (before : List Placed). reading (context_of year (items_at before)) p.line bytes) (before_is year text items n p c t) in
      ap (reading_from year [] new) (cut_anew text n p c bytes entry)
      ∙ ap (λ (qs : List Piece). reading_from year [] new (take n (items_of text) ++ piece_of p bytes ∷ map (moved_piece move) qs)) (rest_is text n p c)
      ∙ front_again year [] text new (take n (items_of text)) (piece_of p bytes ∷ map (moved_piece move) (rest text n p c)) t.before (all_stay text n p c bytes) t.before_read
      ∙ ap (λ (xs : List ℕ). (reading (context_of year is) p.line xs >>= λ i. reading_from year (is ++ i ∷ []) new (map (moved_piece move) (rest text n p c)) >>= λ more. Ok (placed_as (piece_of p bytes) i ∷ more)) >>= λ more. Ok (t.before ++ more))
      (entry_there text n p c bytes)
      ∙ by_entry said (λ i e. (new_txn year items n p bytes entry).is i (same ∙ e))
      ∙ sym (ap (λ (r : Result Item Fault). r >>= λ i. Ok (changed_items text items n p bytes i)) same)

-- ---- the text without the entry

module _ (year : Option ℕ) (text : List ℕ) (items : List Placed) (n : ℕ) (p : Piece) (c : Found text n p) (t : Told year text items n p c) where
  gone_alike : SayAlike (items_at t.before ++ t.old ∷ []) (items_at t.before)
  gone_alike = sym (same_said (items_at t.before) t.old (old_none year text items n p c t))

  gone_by : items_of (replaced text p []) ≡ left_pieces text n p → items_in year (replaced text p []) ≡ Ok (left_items text items n p)
  gone_by cut =
      let move = offset_of text p [] in
      let new = replaced text p [] in
      ap (reading_from year [] new) cut
      ∙ ap (λ (qs : List Piece). reading_from year [] new (take n (items_of text) ++ map (moved_piece move) qs)) (rest_is text n p c)
      ∙ front_again year [] text new (take n (items_of text)) (map (moved_piece move) (rest text n p c)) t.before (all_stay text n p c []) t.before_read
      ∙ ap (λ (q : Result (List Placed) Fault). q >>= λ more. Ok (t.before ++ more)) (later_anew year text items n p c t [] (items_at t.before) gone_alike)
      ∙ (λ k. Ok (sym (before_is year text items n p c t) k ++ map (moved_placed move) (sym (later_is year text items n p c t) k)))

pub read_gone_is : (year : Option ℕ) (text : List ℕ) (items : List Placed) (n : ℕ) (p : Piece) → IsEntryOf text n p → is_between_gaps n (items_of text) ≡ false → items_in year text ≡ Ok items
    → items_in year (replaced text p []) ≡ Ok (left_items text items n p)
read_gone_is year text items n p of apart read =
    let c = found text n p of in
    gone_by year text items n p c (told year text items n p c read) (cut_gone_is text n p of apart)

-- What the text reads as in which the bytes stand in the place of an entry: its items with another one, or the fault of the
-- bytes.
pub read_anew_is : (year : Option ℕ) (text bytes : List ℕ) (items : List Placed) (n : ℕ) (p : Piece) → IsEntryOf text n p → IsEntry bytes → items_in year text ≡ Ok items
    → items_in year (replaced text p bytes) ≡ read_anew year text items n p bytes
read_anew_is year text bytes items n p of entry read =
    let c = found text n p of in
    read_by year text items n p c (told year text items n p c read) bytes entry

pub cut_anew_is : (text bytes : List ℕ) (n : ℕ) (p : Piece) → IsEntryOf text n p → IsEntry bytes → items_of (replaced text p bytes) ≡ changed_pieces text n p bytes
cut_anew_is text bytes n p of entry = cut_anew text n p (found text n p of) bytes entry
