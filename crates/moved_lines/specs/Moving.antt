-- What stands behind a change of a text: it moves by what was removed and added.
use Rattle.std.specs.Prelude.{ℕ, ◌+◌, ◌-◌, ◌^◌, ◌<◌, ◌≤◌, nat_lt, List, ◌++◌, map, take, drop, if◌then◌else◌}
use Rattle.std.specs.List.{AllByRecursion}
use Rattle.hl_base.specs.declared.items.Piece.{Piece}
use Rattle.book.specs.declared.item.Item.{Item}
use Rattle.book.specs.declared.item.Item.TheVariants as item
use Rattle.book.specs.declared.item.Placed.{Placed}
use Rattle.book.specs.declared.rules.AutoRule.{AutoRule}
use Rattle.book.specs.declared.rules.PeriodicRule.{PeriodicRule}
use Rattle.book.specs.declared.rules.RulePosting.{RulePosting}
use Rattle.book.specs.declared.transaction.Posting.{Posting}
use Rattle.book.specs.declared.transaction.Txn.{Txn}
use Rattle.moved_lines.specs.Relined.{relined_posting, relined_txn}
use Rattle.moved_lines.specs.declared.shift.Offset.{Offset}
use Rattle.moved_lines.specs.declared.shift.Shift.{Shift}

-- ---- numbers

-- a number behind a change: less by what was removed, and more by what was added
abbrev pub moved_number : Shift → ℕ → ℕ
moved_number by n = n - by.removed + by.added

-- It can be moved: no more was removed than it counts, and with what was added it stays below 2^64.
pub record CanMove (by : Shift) (n : ℕ) : Type 0 where
  pub behind : by.removed ≤ n
  pub below : n + by.added < 2 ^ 64

-- what takes a change back
abbrev pub back : Shift → Shift
back by = record { removed = by.added; added = by.removed }

-- ---- transactions

abbrev pub moved_posting : Shift → Posting → Posting
moved_posting by p = relined_posting (moved_number by) p

abbrev pub moved_txn : Shift → Txn → Txn
moved_txn by t = relined_txn (moved_number by) t

abbrev pub CanMovePosting : Shift → Posting → Type 0
CanMovePosting by p = CanMove by p.line

-- its own line and those of its postings can be moved
pub record CanMoveTxn (by : Shift) (t : Txn) : Type 0 where
  pub line : CanMove by t.line
  pub postings : AllByRecursion (CanMovePosting by) t.postings

-- of some transactions those before a number stay, and the others are moved
abbrev pub moved_from : ℕ → Shift → List Txn → List Txn
moved_from n by txns = take n txns ++ map (moved_txn by) (drop n txns)

-- the line that this makes of a line of the transaction with a number
abbrev pub line_from : ℕ → Shift → ℕ → ℕ → ℕ
line_from n by number line = if nat_lt number n then line else moved_number by line

-- ---- items

abbrev pub moved_rule_posting : Shift → RulePosting → RulePosting
moved_rule_posting by r = record r { posting = moved_posting by r.posting }

abbrev pub moved_auto : Shift → AutoRule → AutoRule
moved_auto by r = record r { line = moved_number by r.line; postings = map (moved_rule_posting by) r.postings }

abbrev pub moved_periodic : Shift → PeriodicRule → PeriodicRule
moved_periodic by r = record r { line = moved_number by r.line; postings = map (moved_posting by) r.postings }

-- an item with its lines moved, if it has any
abbrev pub moved_item : Shift → Item → Item
moved_item by (item.Txn t) = item.Txn (moved_txn by t)
moved_item by (item.Auto r) = item.Auto (moved_auto by r)
moved_item by (item.Periodic r) = item.Periodic (moved_periodic by r)
moved_item by item.Gap = item.Gap
moved_item by item.Block = item.Block
moved_item by (item.Price p) = item.Price p
moved_item by (item.Directive d) = item.Directive d

abbrev pub CanMoveRulePosting : Shift → RulePosting → Type 0
CanMoveRulePosting by r = CanMove by r.posting.line

pub record CanMoveAuto (by : Shift) (r : AutoRule) : Type 0 where
  pub line : CanMove by r.line
  pub postings : AllByRecursion (CanMoveRulePosting by) r.postings

pub record CanMovePeriodic (by : Shift) (r : PeriodicRule) : Type 0 where
  pub line : CanMove by r.line
  pub postings : AllByRecursion (CanMovePosting by) r.postings

-- each line of it can be moved
abbrev pub CanMoveItem : Shift → Item → Type 0
CanMoveItem by (item.Txn t) = CanMoveTxn by t
CanMoveItem by (item.Auto r) = CanMoveAuto by r
CanMoveItem by (item.Periodic r) = CanMovePeriodic by r
CanMoveItem by item.Gap = Unit {0}
CanMoveItem by item.Block = Unit {0}
CanMoveItem by (item.Price p) = Unit {0}
CanMoveItem by (item.Directive d) = Unit {0}

-- a piece of the text, in bytes and lines
abbrev pub moved_piece : Offset → Piece → Piece
moved_piece by p = record p { at = moved_number by.bytes p.at; line = moved_number by.lines p.line }

pub record CanMovePiece (by : Offset) (p : Piece) : Type 0 where
  pub at : CanMove by.bytes p.at
  pub line : CanMove by.lines p.line

abbrev pub moved_placed : Offset → Placed → Placed
moved_placed by p = record { piece = moved_piece by p.piece; item = moved_item by.lines p.item }

pub record CanMovePlaced (by : Offset) (p : Placed) : Type 0 where
  pub piece : CanMovePiece by p.piece
  pub item : CanMoveItem by.lines p.item

-- of some items or pieces those before a number stay, and the others are moved
abbrev pub moved_items_from : ℕ → Offset → List Placed → List Placed
moved_items_from n by items = take n items ++ map (moved_placed by) (drop n items)

abbrev pub moved_pieces_from : ℕ → Offset → List Piece → List Piece
moved_pieces_from n by pieces = take n pieces ++ map (moved_piece by) (drop n pieces)

abbrev pub back_offset : Offset → Offset
back_offset by = record { bytes = back by.bytes; lines = back by.lines }
