-- What a walk counts, by the sets that an edit's reach is the least of.
use Rattle.std.specs.Prelude.{◌+◌, ◌≤◌, ◌++◌, ℕ, Bool, List, filter, length, sum_by}
use Rattle.std.specs.List.{range_with_len, slice_get}
use Rattle.book.specs.declared.transaction.Txn.{Txn}
use Rattle.hl_base.specs.Counts.{Counts}
use Rattle.reached_walk.specs.Closed.{Edit, IsClosed, size_in}
use Rattle.walked_edits.specs.Counting.{nodes_at}
use Rattle.kept_books.specs.Writing.{symbols_written}

-- No more transactions are checked than any set holds that holds the edited ones and with each all to which it hands on: so no
-- more than the edit reaches.
abbrev pub ChecksFew : Edit → Counts → Counts → Type 0
ChecksFew edit before after = (set : ℕ → Bool) → IsClosed edit set → after.checked ≤ before.checked + size_in set edit.after

-- The nodes of an index that the checks of a set's transactions ask at most: for each of their assertions and assignments 22 for the
-- sum of its own symbol, and where nothing else may be there 22 for that of each other one of some symbols.
abbrev pub nodes_in : List (List ℕ) → (ℕ → Bool) → List Txn → ℕ
nodes_in symbols set txns = sum_by (λ n. nodes_at symbols (slice_get txns n)) (filter set (range_with_len 0 (length txns)))

-- no more nodes are asked than for any such set, so no more than for those that the edit reaches
abbrev pub AsksFew : List (List ℕ) → Edit → Counts → Counts → Type 0
AsksFew symbols edit before after = (set : ℕ → Bool) → IsClosed edit set → after.nodes ≤ before.nodes + nodes_in symbols set edit.after

-- nor for any such set than its transactions want of the symbols that the old and the new text write
abbrev pub AsksWritten : Edit → Counts → Counts → Type 0
AsksWritten edit before after = AsksFew (symbols_written (edit.before ++ edit.after)) edit before after
