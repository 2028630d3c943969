-- A gap says nothing, so that gaps may be one; and an entry says a transaction.
use Rattle.std.proofs.Common.{◌≡◌, ℕ, suc, ◌+◌, Bool, true, false, cond, ◌&&◌, List, [], ◌∷◌, ◌++◌, take, drop, map, Option, Some, None, Ok, refl, sym, ap, subst, ◌∙◌, append_assoc, append-nil}
use Rattle.std.specs.Prelude.{IfSome}
use Rattle.std.specs.Option.{option_to_list}
use Rattle.std.specs.List.{concat, flat_map, AllByRecursion}
use Rattle.std.proofs.lemmas.Bool.{false≢true}
use Rattle.std.proofs.lemmas.Grind.{flat_map-append}
use Rattle.hl_base.specs.Items.{items_of}
use Rattle.hl_base.specs.Lines.{lines_of}
use Rattle.hl_base.specs.declared.items.Kind.{Kind}
use Rattle.hl_base.specs.declared.items.Kind.TheVariants as kinds
use Rattle.hl_base.specs.declared.items.Piece.{Piece}
use Rattle.book.specs.declared.item.Item.{Item}
use Rattle.book.specs.declared.item.Item.TheVariants as item
use Rattle.book.specs.declared.item.Placed.{Placed}
use Rattle.entry_reader.specs.Contexts.{context_of}
use Rattle.journal_reader.specs.Items.{items_in, reading_from}
use Rattle.moved_lines.specs.Moving.{moved_item, moved_placed}
use Rattle.moved_lines.specs.declared.shift.Offset.{Offset}
use Rattle.text_ends.specs.Ends.{last_of}
use Rattle.text_ends.specs.Growth.{shifted}
use Rattle.text_ends.proofs.Lining.{concat_lines}
use Rattle.text_ends.proofs.Stepping.{ok_same}
use Rattle.changed_texts.specs.Meeting.{further_on, meeting_items, said_behind, with_item}
use Rattle.changed_texts.specs.OneEntry.{CanJoin, IsGapBeside, IsMet, first_of, items_met, round_entry}
use Rattle.changed_texts.specs.declared.met.Met.{Met}
use Rattle.changed_texts.specs.Replacing.{IsTxn, bytes_at, is_entry_kind, is_gap}
use Rattle.changed_texts.proofs.Counted.{shifted_kinds}
use Rattle.changed_texts.proofs.Joined.{IsOfKind, all_of_kind, first_read, gap_kind, gap_read}
use Rattle.changed_texts.proofs.Joining.{read_none}
use Rattle.changed_texts.proofs.Lines.{are_lines}
use Rattle.changed_texts.proofs.Near.{reading-txn}
use Rattle.changed_texts.proofs.Testing.{kind_is}

-- ---- what is read

-- what a gap or an entry says
pub record IsPlain (q : Placed) : Type 0 where
  pub gap : is_gap q.piece.kind ≡ true → q.item ≡ item.Gap
  pub entry : is_entry_kind q.piece.kind ≡ true → IsTxn q.item

read_plain : (year : Option ℕ) (before : List Item) (text : List ℕ) (ps : List Piece) (items : List Placed) → AllByRecursion (IsOfKind text) ps → reading_from year before text ps ≡ Ok items → AllByRecursion IsPlain items
read_plain year before text [] items kinds h = subst (λ (is : List Placed). AllByRecursion IsPlain is) (ok_same [] items (sym (read_none year before text) ∙ h)) tt
read_plain year before text (p ∷ ps) items kinds h =
    let f = first_read year before text p ps items h in
    subst (λ (is : List Placed). AllByRecursion IsPlain is) f.are (
      record {
        gap = λ gap. (gap_read (context_of year before) p.line (bytes_at text p) f.said (kinds.0 ∙ gap_kind p.kind gap) f.one).gap;
        entry = λ entry. (reading-txn (context_of year before) p.line (bytes_at text p) (kinds.0 ∙ kind_is p.kind entry)).is f.said f.one;
      },
      read_plain year (before ++ f.said ∷ []) text ps f.more kinds.1 f.others,
    )

text_kinds : (text : List ℕ) → AllByRecursion (IsOfKind text) (items_of text)
text_kinds text = all_of_kind text 0 0 1 (lines_of text) [] (are_lines text) (sym (concat_lines text) ∙ sym (append-nil (concat (lines_of text))))

-- all items of a text
pub text_plain : (year : Option ℕ) (text : List ℕ) (items : List Placed) → items_in year text ≡ Ok items → AllByRecursion IsPlain items
text_plain year text items h = read_plain year [] text (items_of text) items (text_kinds text) h

-- all that bytes say
pub said_plain : (year : Option ℕ) (before : List Item) (lines : ℕ) (bytes : List ℕ) (said : List Placed) → said_behind year before lines bytes ≡ Ok said → AllByRecursion IsPlain said
said_plain year before lines bytes said h =
    read_plain year before bytes (map (shifted 0 lines) (items_of bytes)) said (shifted_kinds bytes lines (items_of bytes) (text_kinds bytes)) h

pub further_plain : (at : ℕ) (items : List Placed) → AllByRecursion IsPlain items → AllByRecursion IsPlain (map (further_on at) items)
further_plain at [] h = tt
further_plain at (q ∷ qs) h = (record { gap = h.0.gap; entry = h.0.entry }, further_plain at qs h.1)

-- a gap says nothing
abbrev pub IsSilent : Placed → Type 0
IsSilent q = is_gap q.piece.kind ≡ true → q.item ≡ item.Gap

-- ---- what all say

abbrev pub all_said : {Y : Type 0} → (Item → List Y) → List Placed → List Y
all_said f items = flat_map (λ q. f q.item) items

pub entry_no_gap : (k : Kind) → is_entry_kind k ≡ true → is_gap k ≡ false
entry_no_gap kinds.Entry h = refl
entry_no_gap kinds.Gap h = absurd (false≢true h)
entry_no_gap kinds.Block h = absurd (false≢true h)
entry_no_gap kinds.Head h = absurd (false≢true h)
entry_no_gap kinds.Stray h = absurd (false≢true h)

-- an item that is no gap stands before any others
with_entry : (p : Placed) (ys : List Placed) → is_gap p.piece.kind ≡ false → with_item p ys ≡ p ∷ ys
with_entry p [] h = refl
with_entry p (q ∷ qs) h =
    ap (λ (t : Bool). cond {A = List Placed} (t && is_gap q.piece.kind) (record { piece = record p.piece { len = p.piece.len + q.piece.len }; item = p.item } ∷ qs) (p ∷ q ∷ qs)) h

-- an entry and the gaps around it, before others: the gap behind it may be one with the first of them
pub round_meets : (before : Option Placed) (placed : Placed) (behind : Option Placed) (ys : List Placed) → is_entry_kind placed.piece.kind ≡ true
    → meeting_items (round_entry before placed behind) ys ≡ option_to_list before ++ placed ∷ meeting_items (option_to_list behind) ys
round_meets None placed None ys entry = with_entry placed ys (entry_no_gap placed.piece.kind entry)
round_meets None placed (Some h) ys entry = refl
round_meets (Some g) placed None ys entry = ap (λ (zs : List Placed). g ∷ zs) (with_entry placed ys (entry_no_gap placed.piece.kind entry))
round_meets (Some g) placed (Some h) ys entry = refl

module _ {Y : Type 0} (f : Item → List Y) (none : f item.Gap ≡ []) where
  with_said : (p : Placed) (ys : List Placed) → IfSome (first_of ys) IsSilent → all_said f (with_item p ys) ≡ f p.item ++ all_said f ys
  with_said p [] plain = refl
  with_said p (q ∷ qs) plain = by (is_gap p.piece.kind) (is_gap q.piece.kind) plain
    where
      by : (s t : Bool) → (t ≡ true → q.item ≡ item.Gap)
          → all_said f (cond {A = List Placed} (s && t) (record { piece = record p.piece { len = p.piece.len + q.piece.len }; item = p.item } ∷ qs) (p ∷ q ∷ qs)) ≡ f p.item ++ (f q.item ++ all_said f qs)
      by true true gap = sym (ap (λ (ts : List Y). f p.item ++ (ts ++ all_said f qs)) (ap f (gap refl) ∙ none))
      by true false gap = refl
      by false true gap = refl
      by false false gap = refl

  pub meeting_said : (xs ys : List Placed) → IfSome (first_of ys) IsSilent → all_said f (meeting_items xs ys) ≡ all_said f xs ++ all_said f ys
  meeting_said [] ys plain = refl
  meeting_said (p ∷ []) ys plain = with_said p ys plain ∙ ap (λ (ts : List Y). ts ++ all_said f ys) (sym (append-nil (f p.item)))
  meeting_said (p ∷ q ∷ xs) ys plain =
      ap (λ (ts : List Y). f p.item ++ ts) (meeting_said (q ∷ xs) ys plain) ∙ sym (append_assoc (f p.item) (all_said f (q ∷ xs)) (all_said f ys))

  gap_said : (gap : Option Placed) → IfSome gap (λ g. g.item ≡ item.Gap) → all_said f (option_to_list gap) ≡ []
  gap_said None h = refl
  gap_said (Some g) h = append-nil (f g.item) ∙ ap f h ∙ none

  behind_said : (gap : Option Placed) (ys : List Placed) → IfSome gap (λ g. (g.item ≡ item.Gap) × IfSome (first_of ys) IsSilent) → all_said f (meeting_items (option_to_list gap) ys) ≡ all_said f ys
  behind_said None ys h = refl
  behind_said (Some g) ys h = with_said g ys h.1 ∙ ap (λ (ts : List Y). ts ++ all_said f ys) (ap f h.0 ∙ none)

-- ---- an entry that is put among items

gap_item : (gap other : Option Placed) → IsGapBeside gap other → IfSome gap (λ g. g.item ≡ item.Gap)
gap_item None other h = tt
gap_item (Some g) other h = h.1

moved_silent : (by : Offset) (g : Placed) (zs : List Placed) → IfSome (first_of zs) (CanJoin g) → IfSome (first_of (map (moved_placed by) zs)) IsSilent
moved_silent by g [] h = tt
moved_silent by g (q ∷ qs) h = λ gap. ap (moved_item by.lines) (h.says gap)

gap_behind : (by : Offset) (gap : Option Placed) (zs : List Placed) → IsGapBeside gap (first_of zs) → IfSome gap (λ g. (g.item ≡ item.Gap) × IfSome (first_of (map (moved_placed by) zs)) IsSilent)
gap_behind by None zs h = tt
gap_behind by (Some g) zs h = (h.1, moved_silent by g zs h.2)

front_silent : (gap : Option Placed) (placed : Placed) (zs : List Placed) → IfSome gap (λ g. g.item ≡ item.Gap) → is_entry_kind placed.piece.kind ≡ true → IfSome (first_of (option_to_list gap ++ placed ∷ zs)) IsSilent
front_silent None placed zs h entry = λ gap. absurd (false≢true (sym (entry_no_gap placed.piece.kind entry) ∙ gap))
front_silent (Some g) placed zs h entry = λ gap. h

-- the items before it, the entry, and the items behind it say all
pub met_said : {Y : Type 0} (f : Item → List Y) → f item.Gap ≡ [] → (n : ℕ) (items : List Placed) (met : Met) → IsMet n items met
    → all_said f (items_met n items met) ≡ all_said f (take n items) ++ (f met.placed.item ++ all_said f (map (moved_placed met.by) (drop (suc n) items)))
met_said {Y} f none n items met h =
    let rest = map (moved_placed met.by) (drop (suc n) items) in
    let behind = meeting_items (option_to_list met.behind) rest in
    let gap = gap_item met.before (last_of (take n items)) h.before in
    ap (λ (ys : List Placed). all_said f (meeting_items (take n items) ys)) (round_meets met.before met.placed met.behind rest h.entry)
    ∙ meeting_said f none (take n items) (option_to_list met.before ++ met.placed ∷ behind) (front_silent met.before met.placed behind gap h.entry)
    ∙ ap (λ (ts : List Y). all_said f (take n items) ++ ts)
    (
    flat_map-append (λ (q : Placed). f q.item) (option_to_list met.before) (met.placed ∷ behind)
    ∙ (λ i. gap_said f none met.before gap i ++ (f met.placed.item ++ behind_said f none met.behind rest (gap_behind met.by met.behind (drop (suc n) items) h.behind) i))
    )
