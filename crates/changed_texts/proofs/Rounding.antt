-- An entry, and the gaps around it or none, are taken of what bytes say, and can be put in the place of an entry.
use Rattle.std.proofs.Common.{◌≡◌, ℕ, zero, suc, ◌+◌, ◌-◌, ◌^◌, ◌<◌, ◌≤◌, true, false, List, [], ◌∷◌, ◌++◌, length, take, drop, map, get_or, Option, Some, None, Result, Ok, Err, refl, sym, ap, subst, ◌∙◌, arith}
use Rattle.std.specs.Prelude.{IfNone, IfSome, option_map}
use Rattle.std.specs.Option.{option_to_list}
use Rattle.std.specs.List.{slice_get, AllByRecursion}
use Rattle.std.proofs.lemmas.Bool.{false≢true}
use Rattle.std.proofs.Math.Seq.{get_or-append_seam}
use Rattle.hl_base.specs.Items.{items_of}
use Rattle.hl_base.specs.Pieces.{IsWithin}
use Rattle.hl_base.specs.declared.items.Piece.{Piece}
use Rattle.book.specs.declared.fault.Fault.{Fault}
use Rattle.book.specs.declared.item.Item.{Item}
use Rattle.book.specs.declared.item.Placed.{Placed}
use Rattle.entry_reader.specs.Causes.{cause_in}
use Rattle.entry_reader.specs.declared.fault.ReadFault.{ReadFault}
use Rattle.entry_reader.specs.declared.fault.ReadFault.TheVariants as faults
use Rattle.journal_reader.specs.Items.{items_in}
use Rattle.moved_lines.specs.Moving.{moved_placed}
use Rattle.text_ends.specs.Ends.{ends_line, items_at, last_of}
use Rattle.text_ends.specs.Growth.{shifted}
use Rattle.text_ends.proofs.Stepping.{Ends, placed_as}
use Rattle.changed_texts.specs.Meeting.{further_on, is_ended, meeting_items, met_items, said_behind}
use Rattle.changed_texts.specs.OneEntry.{AreAround, HasOneEntry, HasRoom, HaveEntry, IsGapBeside, IsMet, first_of, is_gap_item, items_met, more_items, round_entry}
use Rattle.changed_texts.specs.Replacing.{IsEntryOf, is_entry_kind, is_gap, offset_of, replaced}
use Rattle.changed_texts.specs.Standing.{Replaces}
use Rattle.changed_texts.specs.declared.met.Met.{Met}
use Rattle.changed_texts.proofs.Anew.{old_none, told}
use Rattle.changed_texts.proofs.Found.{found}
use Rattle.changed_texts.proofs.Gathered.{gathered_is}
use Rattle.changed_texts.proofs.Joining.{all_within, within_text}
use Rattle.changed_texts.proofs.Lists.{all_map}
use Rattle.changed_texts.proofs.Moves.{all_drop}
use Rattle.changed_texts.proofs.Shapes.{pieces_read}
use Rattle.changed_texts.proofs.Silent.{IsPlain, entry_no_gap, further_plain, said_plain, text_plain}
use Rattle.changed_texts.proofs.Sites.{each_within}
use Rattle.changed_texts.proofs.Standing.{here_is, met_context}
use Rattle.changed_texts.proofs.Undoing.{reads_not}

-- ---- items that are taken one after another

pub some_first : (xs : List Placed) → is_gap_item (first_of xs) ≡ true → 0 < length xs
some_first [] h = absurd (false≢true h)
some_first (x ∷ xs) h = omega arith

-- the first of some items is a gap, and is taken out
pub taken_gap : (xs rest : List Placed) (g : Placed) → is_gap_item (first_of xs) ≡ true → g ≡ get_or xs 0 g → rest ≡ take 0 xs ++ drop 1 xs → (g ∷ rest ≡ xs) × (is_gap g.piece.kind ≡ true)
taken_gap [] rest g h e r = absurd (false≢true h)
taken_gap (x ∷ xs) rest g h e r = ((λ i. e i ∷ r i), ap (λ (q : Placed). is_gap q.piece.kind) e ∙ h)

head_same : (x y : Placed) (xs ys : List Placed) → x ∷ xs ≡ y ∷ ys → x ≡ y
head_same x y xs ys h = cc

tail_same : (x y : Placed) (xs ys : List Placed) → x ∷ xs ≡ y ∷ ys → xs ≡ ys
tail_same x y xs ys h = cc

-- the gap before an entry is the one that was taken
front_by : (b before : Option Placed) (placed : Placed) (behind : Option Placed) (rest items : List Placed) → items ≡ round_entry b placed behind → IfSome b (λ g. is_gap g.piece.kind ≡ true) → is_entry_kind placed.piece.kind ≡ true
    → option_to_list before ++ rest ≡ items → IfSome before (λ g. is_gap g.piece.kind ≡ true) → IfNone before (is_gap_item (first_of rest) ≡ false) → (before ≡ b) × (rest ≡ placed ∷ option_to_list behind)
front_by None None placed behind rest items is gap entry e taken none = (refl, e ∙ is)
front_by None (Some x) placed behind rest items is gap entry e taken none =
    let same = head_same x placed rest (option_to_list behind) (e ∙ is) in
    absurd (false≢true (sym (entry_no_gap placed.piece.kind entry) ∙ ap (λ (q : Placed). is_gap q.piece.kind) (sym same) ∙ taken))
front_by (Some g) None placed behind rest items is gap entry e taken none =
    absurd (false≢true (sym none ∙ ap (λ (xs : List Placed). is_gap_item (first_of xs)) (e ∙ is) ∙ gap))
front_by (Some g) (Some x) placed behind rest items is gap entry e taken none =
    (ap (λ (q : Placed). Some q) (head_same x g rest (placed ∷ option_to_list behind) (e ∙ is)), tail_same x g rest (placed ∷ option_to_list behind) (e ∙ is))

pub front_is : (items : List Placed) (a : HaveEntry items) (before : Option Placed) (rest : List Placed) → option_to_list before ++ rest ≡ items → IfSome before (λ g. is_gap g.piece.kind ≡ true) → IfNone before (is_gap_item (first_of rest) ≡ false)
    → (before ≡ a.before) × (rest ≡ a.placed ∷ option_to_list a.behind)
front_is items a before rest e taken none = front_by a.before before a.placed a.behind rest items a.parts.are a.parts.gap_before a.parts.entry e taken none

pub some_rest : (x : Placed) (ys xs : List Placed) → xs ≡ x ∷ ys → 0 < length xs
some_rest x ys xs e = let size : length xs ≡ suc (length ys) = ap length e in omega (arith, size)

pub entry_taken : (x p : Placed) (ys xs rest : List Placed) → xs ≡ x ∷ ys → p ≡ get_or xs 0 p → rest ≡ take 0 xs ++ drop 1 xs → (p ≡ x) × (rest ≡ ys)
entry_taken x p ys xs rest e first others =
    (first ∙ ap (λ (zs : List Placed). get_or zs 0 p) e, others ∙ ap (λ (zs : List Placed). take 0 zs ++ drop 1 zs) e)

at_most_one : (h : Option Placed) → length (option_to_list h) - 1 ≡ 0
at_most_one None = refl
at_most_one (Some x) = refl

list_same : (a b : Option Placed) → option_to_list a ≡ option_to_list b → a ≡ b
list_same None None e = refl
list_same None (Some y) e = absurd (let never : ⊥ = cc in never)
list_same (Some x) None e = absurd (let never : ⊥ = cc in never)
list_same (Some x) (Some y) e = ap (λ (q : Placed). Some q) (head_same x y [] [] e)

pub last_taken : (h r : Option Placed) (n : ℕ) (xs ys : List Placed) → xs ≡ option_to_list h → n ≡ length xs → ys ≡ take (n - 1) xs → xs ≡ ys ++ option_to_list r → r ≡ h
last_taken h r n xs ys is size front whole =
    let zero_left : n - 1 ≡ 0 = ap (λ (k : ℕ). k - 1) (size ∙ ap length is) ∙ at_most_one h in
    let none : ys ≡ [] = front ∙ ap (λ (k : ℕ). take k xs) zero_left in
    list_same r h (sym (whole ∙ ap (λ (zs : List Placed). zs ++ option_to_list r) none) ∙ is)

pub around_same : (items : List Placed) (b c h k : Option Placed) (p q : Placed) → AreAround items b p h → c ≡ b → q ≡ p → k ≡ h → AreAround items c q k
around_same items b c h k p q a eb ep eh = record {
  are = a.are ∙ (λ i. round_entry (sym eb i) (sym ep i) (sym eh i));
  gap_before = subst (λ (o : Option Placed). IfSome o (λ g. is_gap g.piece.kind ≡ true)) (sym eb) a.gap_before;
  entry = subst (λ (x : Placed). is_entry_kind x.piece.kind ≡ true) (sym ep) a.entry;
  gap_behind = subst (λ (o : Option Placed). IfSome o (λ g. is_gap g.piece.kind ≡ true)) (sym eh) a.gap_behind;
}

-- ---- items further on

round_further : (at : ℕ) (b h : Option Placed) (p : Placed) → map (further_on at) (round_entry b p h) ≡ round_entry (option_map (further_on at) b) (further_on at p) (option_map (further_on at) h)
round_further at None None p = refl
round_further at None (Some h) p = refl
round_further at (Some g) None p = refl
round_further at (Some g) (Some h) p = refl

gap_further : (at : ℕ) (o : Option Placed) → IfSome o (λ g. is_gap g.piece.kind ≡ true) → IfSome (option_map (further_on at) o) (λ g. is_gap g.piece.kind ≡ true)
gap_further at None h = tt
gap_further at (Some g) h = h

pub further_around : (at : ℕ) (items : List Placed) (b h : Option Placed) (p : Placed) → AreAround items b p h → AreAround (map (further_on at) items) (option_map (further_on at) b) (further_on at p) (option_map (further_on at) h)
further_around at items b h p a = record {
  are = ap (map (further_on at)) a.are ∙ round_further at b h p;
  gap_before = gap_further at b a.gap_before;
  entry = a.entry;
  gap_behind = gap_further at h a.gap_behind;
}

all_round : (P : Placed → Type 0) (b h : Option Placed) (p : Placed) → AllByRecursion P (round_entry b p h) → (IfSome b P × P p × IfSome h P)
all_round P None None p all = (tt, all.0, tt)
all_round P None (Some h) p all = (tt, all.0, all.1.0)
all_round P (Some g) None p all = (all.0, all.1.0, tt)
all_round P (Some g) (Some h) p all = (all.0, all.1.0, all.1.1.0)

-- what is so of all of them is so of the entry and of the gaps
pub each_part : (P : Placed → Type 0) (items : List Placed) (b h : Option Placed) (p : Placed) → items ≡ round_entry b p h → AllByRecursion P items → (IfSome b P × P p × IfSome h P)
each_part P items b h p e all = all_round P b h p (subst (AllByRecursion P) e all)

-- ---- where they lie

each_of : (P : Piece → Type 0) (items : List Placed) → AllByRecursion P (map (λ (q : Placed). q.piece) items) → AllByRecursion (λ (q : Placed). P q.piece) items
each_of P [] h = tt
each_of P (q ∷ qs) h = (h.0, each_of P qs h.1)

shifted_ends : (size lines : ℕ) (ps : List Piece) → AllByRecursion (Ends size) ps → AllByRecursion (Ends size) (map (shifted 0 lines) ps)
shifted_ends size lines [] h = tt
shifted_ends size lines (p ∷ ps) h = let ends = h.0 in (omega (arith, ends), shifted_ends size lines ps h.1)

abbrev EndsBy : ℕ → Placed → Type 0
EndsBy size q = q.piece.at + q.piece.len ≤ size

said_ends : (year : Option ℕ) (before : List Item) (lines : ℕ) (bytes : List ℕ) (said : List Placed) → said_behind year before lines bytes ≡ Ok said → AllByRecursion (EndsBy (length bytes)) said
said_ends year before lines bytes said h =
    each_of (Ends (length bytes)) said
    (subst (AllByRecursion (Ends (length bytes))) (sym (pieces_read year before bytes (map (shifted 0 lines) (items_of bytes)) said h)) (shifted_ends (length bytes) lines (items_of bytes) (within_text bytes)))

place_fits : (at size most : ℕ) (q : Placed) → at ≤ size → size + most + 1 < 2 ^ 64 → EndsBy most q → at + q.piece.at < 2 ^ 64
place_fits at size most q low few ends = omega (arith, low, few, ends)

pub places_fit : (year : Option ℕ) (before : List Item) (lines : ℕ) (text bytes : List ℕ) (said : List Placed) (old : Piece) → said_behind year before lines bytes ≡ Ok said → old.at + old.len ≤ length text → length text + length bytes + 1 < 2 ^ 64
    → AllByRecursion (λ (q : Placed). old.at + q.piece.at < 2 ^ 64) said
places_fit year before lines text bytes said old h within few =
    all_map (EndsBy (length bytes)) (λ (q : Placed). old.at + q.piece.at < 2 ^ 64) (λ q ends. place_fits old.at (length text) (length bytes) q (omega (arith, within)) few ends) said (said_ends year before lines bytes said h)

pub lines_room : (text bytes : List ℕ) (p : Piece) (lines : ℕ) → lines ≡ p.line - 1 → IsWithin (length text) p → length text + length bytes + 1 < 2 ^ 64 → lines + length bytes + 1 < 2 ^ 64
lines_room text bytes p lines e within few = let last = within.lines in omega (arith, e, last, few)

-- ---- what may stand beside a gap

abbrev IsShort : ℕ → Placed → Type 0
IsShort size q = q.piece.len ≤ size

further_short : (at size : ℕ) (items : List Placed) → AllByRecursion (EndsBy size) items → AllByRecursion (IsShort size) (map (further_on at) items)
further_short at size [] h = tt
further_short at size (q ∷ qs) h = let ends = h.0 in (omega (arith, ends), further_short at size qs h.1)

within_short : (size : ℕ) (items : List Placed) → AllByRecursion (λ (q : Placed). IsWithin size q.piece) items → AllByRecursion (IsShort size) items
within_short size items h = all_map (λ (q : Placed). IsWithin size q.piece) (IsShort size) (λ q within. let bytes = within.bytes in omega (arith, bytes)) items h

gap_beside : (gap other : Option Placed) (size most : ℕ) → IfSome gap (λ g. is_gap g.piece.kind ≡ true) → IfSome gap IsPlain → IfSome gap (IsShort most) → IfSome other IsPlain → IfSome other (IsShort size) → size + most + 1 < 2 ^ 64 → IsGapBeside gap other
gap_beside None other size most kind plain short plain_other short_other few = tt
gap_beside (Some g) None size most kind plain short plain_other short_other few = (kind, plain.gap kind, tt)
gap_beside (Some g) (Some q) size most kind plain short plain_other short_other few =
    (kind, plain.gap kind, record { says = plain_other.gap; fits = omega (arith, short, short_other, few) })

all_got : (P : Placed → Type 0) (xs : List Placed) (k : ℕ) → AllByRecursion P xs → IfSome (slice_get xs k) P
all_got P [] k h = tt
all_got P (x ∷ xs) zero h = h.0
all_got P (x ∷ xs) (suc k) h = all_got P xs k h.1

all_first : (P : Placed → Type 0) (xs : List Placed) → AllByRecursion P xs → IfSome (first_of xs) P
all_first P [] h = tt
all_first P (x ∷ xs) h = h.0

all_taken : (P : Placed → Type 0) (n : ℕ) (xs : List Placed) → AllByRecursion P xs → AllByRecursion P (take n xs)
all_taken P zero xs h = tt
all_taken P (suc n) [] h = tt
all_taken P (suc n) (x ∷ xs) h = (h.0, all_taken P n xs h.1)

pub met_is : (year : Option ℕ) (text bytes : List ℕ) (items said : List Placed) (before : List Item) (lines n at : ℕ) (met : Met) → items_in year text ≡ Ok items → said_behind year before lines bytes ≡ Ok said → length text + length bytes + 1 < 2 ^ 64
    → AreAround (map (further_on at) said) met.before met.placed met.behind → HasRoom (length items) (more_items n items met) met.room → IsMet n items met
met_is year text bytes items said before lines n at met read h few a room =
    let xs = map (further_on at) said in
    let plain = each_part IsPlain xs met.before met.behind met.placed a.are (further_plain at said (said_plain year before lines bytes said h)) in
    let short = each_part (IsShort (length bytes)) xs met.before met.behind met.placed a.are (further_short at (length bytes) said (said_ends year before lines bytes said h)) in
    let others = text_plain year text items read in
    let sizes = within_short (length text) items (each_within year text (length text) [] (items_of text) items (all_within text) read) in
    record {
      before = gap_beside met.before (last_of (take n items)) (length text) (length bytes) a.gap_before plain.0 short.0
          (all_got IsPlain (take n items) (length (take n items) - 1) (all_taken IsPlain n items others))
          (all_got (IsShort (length text)) (take n items) (length (take n items) - 1) (all_taken (IsShort (length text)) n items sizes)) few;
      behind = gap_beside met.behind (first_of (drop (suc n) items)) (length text) (length bytes) a.gap_behind plain.2 short.2
          (all_first IsPlain (drop (suc n) items) (all_drop IsPlain (suc n) items others))
          (all_first (IsShort (length text)) (drop (suc n) items) (all_drop (IsShort (length text)) (suc n) items sizes)) few;
      entry = a.entry;
      txn = plain.1.entry a.entry;
      room = room;
    }

-- ---- the text

no_entry : zero ≡ 1 → ⊥
no_entry h = omega (arith, h)

ends_by : (bytes : List ℕ) → is_ended bytes ≡ true → HasOneEntry bytes → ends_line bytes ≡ true
ends_by [] h one = absurd (no_entry one.one)
ends_by (b ∷ bs) h one = h

module _ (year : Option ℕ) (text bytes : List ℕ) (items before : List Placed) (n : ℕ) (d : Placed) (p : Piece) (read : items_in year text ≡ Ok items) (of : IsEntryOf text n p) (one : HasOneEntry bytes) (is : d ≡ get_or items n d)
    (before_are : before ≡ take n items) (lines : ℕ) (line_is : lines ≡ d.piece.line - 1) where
  there_is : d.piece ≡ p
  there_is =
      let t = told year text items n p (found text n p of) read in
      ap (λ (q : Placed). q.piece) (is ∙ (λ i. get_or (t.items_are i) (sym t.count i) d) ∙ get_or-append_seam t.before (placed_as p t.old) t.later d)

  said_there : (r : Result (List Placed) Fault) → said_behind year (items_at before) lines bytes ≡ r → said_behind year (items_at (take n items)) (p.line - 1) bytes ≡ r
  said_there r h =
      sym (λ k. said_behind year (items_at (before_are k)) ((line_is ∙ ap (λ (q : Piece). q.line - 1) there_is) k) bytes) ∙ h

  pub replaces_met : (said : List Placed) (met : Met) → said_behind year (items_at before) lines bytes ≡ Ok said → AreAround (map (further_on d.piece.at) said) met.before met.placed met.behind → met.by ≡ offset_of text d.piece bytes → IsMet n items met
      → Replaces year text items n p bytes (items_met n items met)
  replaces_met said met h a by m =
      let c = found text n p of in
      let t = told year text items n p c read in
      let parts : map (further_on p.at) said ≡ round_entry met.before met.placed met.behind = ap (λ (q : Piece). map (further_on q.at) said) (sym there_is) ∙ a.are in
      let move : offset_of text p bytes ≡ met.by = sym (by ∙ ap (λ (q : Piece). offset_of text q bytes) there_is) in
      let same : met_items text items n p bytes said ≡ items_met n items met =
      λ k. meeting_items (take n items) (meeting_items (parts k) (map (moved_placed (move k)) (drop (suc n) items))) in
      record {
        of = of;
        entries = one.entries;
        ends = ends_by bytes one.entries.ends one;
        was = read;
        is = gathered_is year text bytes items n p of one.entries read said (said_there (Ok said) h) ∙ (λ k. Ok (same k));
        context = met_context year n items met (placed_as p t.old) m (here_is year text items n p c t) (old_none year text items n p c t);
      }

  pub by_met : (met : Met) → met.by ≡ offset_of text d.piece bytes → met.by ≡ offset_of text p bytes
  by_met met by = by ∙ ap (λ (q : Piece). offset_of text q bytes) there_is

  pub not_read : (e : ReadFault) → IfSome (cause_in e) (λ f. said_behind year (items_at before) lines bytes ≡ Err f)
      → IfSome (cause_in e) (λ fault. (after : List Placed) → items_in year (replaced text p bytes) ≡ Ok after → ⊥)
  not_read faults.Memory h = tt
  not_read (faults.Read f) h = reads_not year text bytes items n p of one.entries read f (said_there (Err f) h)
