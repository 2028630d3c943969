-- All that is made of a text may go to another thread: each type by its parts, since one search through all of them takes too many steps.
use denote.RattleType.{RattleType}
use denote.Param.Send.{IsSend, IsSync, sendable}
use Rattle.std.proofs.Crossing.{Arc-send, Arc-sync, crosses}
use Rattle.additions.proofs.book_end.BookEnd.TheSendSync as ends
use Rattle.asked_days.proofs.counts.DayCount.TheSendSync as counts
use Rattle.asked_days.specs.contracts.asked.AskedDays as asked
use Rattle.book.proofs.item.Book.TheSendSync as books
use Rattle.book.proofs.item.Placed.TheSendSync as placed
use Rattle.book.proofs.style.Styles.TheSendSync as styles
use Rattle.counted_styles.proofs.mark.Mark.TheSendSync as marks
use Rattle.counted_styles.specs.contracts.styles.CountedStyles as counted
use Rattle.counted_styles.specs.contracts.text.TextStyles as text_styles
use Rattle.hl_base.proofs.list.List.TheSendSync as lists
use Rattle.hl_base.proofs.text.Text.TheSendSync as names
use Rattle.index_cells.specs.contracts.kept.Kept as sums
use Rattle.kept_books.specs.contracts.kept.KeptBook as kept_book
use Rattle.kept_books.specs.contracts.walks.Walks as walks
use Rattle.kept_texts.specs.contracts.kept.KeptText as kept_text
use Rattle.kept_turnover.proofs.turnover.Turnover.TheSendSync as turnovers
use Rattle.live_index.proofs.cell.Cell.TheSendSync as cells
use Rattle.live_index.proofs.puts.Puts.TheLaws.TheKnot as steps
use Rattle.live_index.proofs.tree.Tree.TheLaws.TheKnot as index_trees
use Rattle.live_index.specs.contracts.cell.Cell as cell
use Rattle.live_index.specs.contracts.index.Index as index
use Rattle.live_index.specs.contracts.puts.Puts as puts
use Rattle.live_index.specs.contracts.tree.Tree as index_tree
use Rattle.loaded_texts.specs.contracts.loaded.Loaded as loaded
use Rattle.placed_sums.proofs.days.Days.TheSendSync as days
use Rattle.shared_days.proofs.day_places.DayPlaces.TheSendSync as places
use Rattle.shared_days.specs.contracts.days.SharedDays as shared_days
use Rattle.shared_set.proofs.tree.Tree.TheLaws.TheKnot as set_trees
use Rattle.shared_set.specs.contracts.set.SharedSet as sets
use Rattle.shared_set.specs.contracts.tree.Tree as set_tree
use Rattle.shared_set.specs.declared.order.Ranked as ranked
use Rattle.text_ends.proofs.kept.KeptEnd.TheSendSync as text_ends
use Rattle.walked_edits.specs.contracts.kept.Kept as walks_kept
use Rattle.watchers.proofs.watch.Watch.TheSendSync as watches
use Rattle.watchers.specs.contracts.watchers.Watchers as watchers

-- a shared set, whose tree goes through an Arc, of items that may go and be shared
module _ (T : RattleType) where
  set_tree_send : IsSend T → IsSync T → IsSend (set_tree.the_field T).row
  set_tree_send s y = set_trees.both_send-Tree T Arc-send Arc-sync (Arc-send T s y) (Arc-sync T s y) (search sendable) (search sendable)

  set_send : (r : ranked.Ghosts T.Denot) → IsSend T → IsSync T → IsSend (sets.the_field T r).row
  set_send r s y = let t = set_tree_send s y in search sendable depth 20

-- an index: its tree of cells, and the rows that were put in, which contracts alone see
index_tree_send : IsSend (index_tree.the_field).row
index_tree_send =
    let s = cells.the_send in let y = cells.the_sync in
    index_trees.both_send-Tree Arc-send Arc-sync (Arc-send cell.the_row s y) (Arc-sync cell.the_row s y) (search sendable) (search sendable)

puts_send : IsSend (puts.the_field).row
puts_send = search (steps.crosses, sendable, crosses) depth 20

index_send : IsSend (index.the_field).row
index_send = let p = puts_send in let t = index_tree_send in search sendable depth 20

-- what is kept of a text
counted_send : IsSend (counted.the_field).row
counted_send = search (marks.the_send, marks.the_sync, set_send, sendable) depth 20

text_styles_send : IsSend (text_styles.the_field).row
text_styles_send = search (counted_send, styles.the_field_send, sendable) depth 20

asked_send : IsSend (asked.the_field).row
asked_send = search (counts.the_send, counts.the_sync, set_send, sendable) depth 20

kept_text_send : IsSend (kept_text.the_field).row
kept_text_send = search (text_ends.the_field_send, text_styles_send, asked_send, sendable) depth 20

-- what is kept of a book
shared_days_send : IsSend (shared_days.the_field).row
shared_days_send = search (days.the_send, days.the_sync, places.the_send, places.the_sync, set_send, sendable, crosses) depth 20

walks_kept_send : IsSend (walks_kept.the_field).row
walks_kept_send = search (index_send, shared_days_send, turnovers.the_field_send, sendable) depth 20

watchers_send : IsSend (watchers.the_field).row
watchers_send = search (watches.the_send, watches.the_sync, set_send, sendable) depth 20

walks_send : IsSend (walks.the_field).row
walks_send = search (walks_kept_send, watchers_send, names.the_send, lists.the_send, sendable) depth 20

sums_send : IsSend (sums.the_field).row
sums_send = search (index_send, names.the_send, lists.the_send, sendable) depth 20

kept_book_send : IsSend (kept_book.the_field).row
kept_book_send = search (walks_send, sums_send, sendable) depth 20

pub loaded_send : IsSend (loaded.the_field).row
loaded_send = search (placed.the_send, lists.the_send, books.the_field_send, kept_text_send, ends.the_field_send, kept_book_send, sendable) depth 20
