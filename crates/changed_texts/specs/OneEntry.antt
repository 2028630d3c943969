-- One entry, with gaps around it or none, in the place of an entry of a text.
use Rattle.std.specs.Prelude.{◌≡◌, ℕ, suc, ◌+◌, ◌^◌, ◌<◌, ◌≤◌, Bool, true, false, List, [], ◌∷◌, ◌++◌, count_by, length, map, take, drop, Option, Some, None, IfSome, if◌then◌else◌, vec_capacity}
use Rattle.std.specs.Option.{option_to_list}
use Rattle.hl_base.specs.Items.{items_of}
use Rattle.hl_base.specs.declared.items.Piece.{Piece}
use Rattle.book.specs.declared.item.Item.TheVariants as item
use Rattle.book.specs.declared.item.Placed.{Placed}
use Rattle.moved_lines.specs.Moving.{moved_placed}
use Rattle.moved_lines.specs.declared.shift.Offset.{Offset}
use Rattle.text_ends.specs.Ends.{last_of}
use Rattle.text_ends.specs.Going.{longer}
use Rattle.changed_texts.specs.Meeting.{AreEntries, meeting_items}
use Rattle.changed_texts.specs.Replacing.{IsTxn, is_entry_kind, is_gap}
use Rattle.changed_texts.specs.declared.met.Met.{Met}
use Rattle.changed_texts.specs.declared.met.Room.{Room}

abbrev pub is_entry_piece : Piece → Bool
is_entry_piece q = is_entry_kind q.kind

-- Bytes are gaps and exactly one entry; they end with the end of a line, and their first line isn't indented.
pub record HasOneEntry (bytes : List ℕ) : Type 0 where
  pub entries : AreEntries bytes
  pub one : count_by is_entry_piece (items_of bytes) ≡ 1

-- an entry with the gap before it and the one behind it, where there are any
abbrev pub round_entry : Option Placed → Placed → Option Placed → List Placed
round_entry before placed behind = option_to_list before ++ placed ∷ option_to_list behind

-- Some items are an entry, with a gap before it or none, and with a gap behind it or none.
pub record AreAround (items : List Placed) (before : Option Placed) (placed : Placed) (behind : Option Placed) : Type 0 where
  pub are : items ≡ round_entry before placed behind
  pub gap_before : IfSome before (λ g. is_gap g.piece.kind ≡ true)
  pub entry : is_entry_kind placed.piece.kind ≡ true
  pub gap_behind : IfSome behind (λ g. is_gap g.piece.kind ≡ true)

-- there are such an entry and such gaps
pub record HaveEntry (items : List Placed) : Type 0 where
  pub before : Option Placed
  pub placed : Placed
  pub behind : Option Placed
  pub parts : AreAround items before placed behind

-- The items of a text, of which the n-th is replaced by these, and those behind it are moved: where two gaps meet they are one.
abbrev pub items_met : ℕ → List Placed → Met → List Placed
items_met n items met =
    meeting_items (take n items) (meeting_items (round_entry met.before met.placed met.behind) (map (moved_placed met.by) (drop (suc n) items)))

-- the first of some items, if there are any
abbrev pub first_of : List Placed → Option Placed
first_of [] = None
first_of (p ∷ ps) = Some p

-- there is an item, and it is a gap
abbrev pub is_gap_item : Option Placed → Bool
is_gap_item None = false
is_gap_item (Some placed) = is_gap placed.piece.kind

-- an item whose piece has so many more bytes
abbrev pub longer_item : ℕ → Placed → Placed
longer_item more placed = record placed { piece = longer more placed.piece }

-- the item that a gap is beside another one: none where that is a gap, since then they are one
abbrev pub beside : Option Placed → Option Placed → List Placed
beside gap other = if is_gap_item other then [] else option_to_list gap

-- how many more items there are
abbrev pub more_items : ℕ → List Placed → Met → ℕ
more_items n items met = length (beside met.before (last_of (take n items))) + length (beside met.behind (first_of (drop (suc n) items)))

-- An entry stands in the place of the n-th of some items, and those behind it are moved. The gaps around it have gone into those
-- beside it, or are left to stand before and behind it.
pub record IsSpread (n : ℕ) (items : List Placed) (by : Offset) (before : Option Placed) (placed : Placed) (behind : Option Placed) (put : List Placed) (ahead after : Option Placed) : Type 0 where
  pub here : drop n put ≡ placed ∷ drop (suc n) put
  pub all : meeting_items (take n items) (meeting_items (round_entry before placed behind) (map (moved_placed by) (drop (suc n) items))) ≡ take n put ++ (option_to_list ahead ++ placed ∷ (option_to_list after ++ drop (suc n) put))
  pub first : option_to_list ahead ≡ beside before (last_of (take n items))
  pub last : option_to_list after ≡ beside behind (first_of (drop (suc n) items))
  pub count : length put ≡ length items

-- another item, if it is a gap, says what a gap says, and isn't too long to be one with it
pub record CanJoin (gap other : Placed) : Type 0 where
  pub says : is_gap other.piece.kind ≡ true → other.item ≡ item.Gap
  pub fits : gap.piece.len + other.piece.len < 2 ^ 64

-- what may be there is a gap, and can be one with the item beside it
abbrev pub IsGapBeside : Option Placed → Option Placed → Type 0
IsGapBeside gap other = IfSome gap (λ g. (is_gap g.piece.kind ≡ true) × (g.item ≡ item.Gap) × IfSome other (CanJoin g))

-- room for so many items, of which none is taken
pub record IsRoomFor (count : ℕ) (room : Room) : Type 0 where
  pub none : room.items.items ≡ []
  pub some : count ≤ vec_capacity room.items

-- there is room for so many items and so many more; none is needed where there are no more
abbrev pub HasRoom : ℕ → ℕ → Option Room → Type 0
HasRoom count more None = more ≡ 0
HasRoom count more (Some room) = IsRoomFor (count + more) room

-- An entry, with a gap before and behind it or none, can be put in the place of the n-th of some items.
pub record IsMet (n : ℕ) (items : List Placed) (met : Met) : Type 0 where
  pub before : IsGapBeside met.before (last_of (take n items))
  pub behind : IsGapBeside met.behind (first_of (drop (suc n) items))
  pub entry : is_entry_kind met.placed.piece.kind ≡ true
  pub txn : IsTxn met.placed.item
  pub room : HasRoom (length items) (more_items n items met) met.room
