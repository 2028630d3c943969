-- What is kept of a book with other lines for walks, and what a walk of an edit counts.
use Rattle.std.proofs.Common.{◌≡◌, ◌≤◌, ◌+◌, ℕ, Bool, List, ◌++◌, Option, Some, None, refl, sym, ap, subst, ◌∙◌}
use Rattle.std.specs.Prelude.{IfSome}
use Rattle.std.specs.Ordering.{nat_cmp}
use Rattle.std.specs.Cmp.Lexicographic.{slice_cmp}
use Rattle.hl_base.specs.Counts.{Counts}
use Rattle.book.specs.Order.{each_once}
use Rattle.book.specs.declared.transaction.Txn.{Txn}
use Rattle.index_cells.specs.Books.{KeepsBook}
use Rattle.placed_sums.specs.Accounts.{nodes_beside}
use Rattle.reached_walk.specs.Closed.{IsClosed, edits_of, size_in}
use Rattle.walked_edits.specs.Counting.{nodes_at}
use Rattle.walked_edits.specs.Keeping.{IsKept}
use Rattle.walked_edits.specs.declared.kept.Kept.{Kept}
use Rattle.kept_books.specs.Counting.{AsksWritten, ChecksFew, nodes_in}
use Rattle.kept_books.specs.Keeping.{AreWalks, IsOf}
use Rattle.kept_books.specs.declared.kept.KeptBook.{KeptBook}
use Rattle.kept_books.specs.declared.walks.Walks.{Walks}
use Rattle.moved_lines.specs.Moving.{line_from, moved_from}
use Rattle.moved_lines.specs.Relined.{relined, relined_txn}
use Rattle.moved_lines.specs.declared.shift.Shift.{Shift}
use Rattle.moved_lines.proofs.Numbering.{moved-is}
use Rattle.book_laws.specs.Writing.{symbols_at, symbols_written}
use Rattle.book_laws.proofs.Lined.{beside-same, days-same, stand-same, turnover-same, written-same}
use Rattle.book_laws.proofs.Reached.{closed-bare, nodes-same, size-same, weights-same}
use Rattle.book_laws.proofs.Watched.{text-of}
use Rattle.taking_laws.proofs.Taken.{keeps-same}

if_some : {X : Type 0} (P Q : X → Type 0) → ((x : X) → P x → Q x) → (o : Option X) → IfSome o P → IfSome o Q
if_some P Q f None h = h
if_some P Q f (Some x) h = f x h

module _ (f : ℕ → ℕ → ℕ) where
  pub kept-same : (book : List Txn) (kept : Kept) → IsKept book kept → IsKept (relined f book) kept
  kept-same book kept h = record {
    stand = stand-same f kept.index book h.stand;
    days = days-same f book kept.days h.days;
    turnover = turnover-same f book kept.turnover h.turnover;
  }

  pub walks-same : (written book : List Txn) (w : Walks) → AreWalks written book w → AreWalks (relined f written) (relined f book) w
  walks-same written book w h = record {
    kept = kept-same book w.kept h.kept;
    watched = text-of f written w.watchers h.watched;
    symbols = h.symbols ∙ sym (ap (each_once (slice_cmp nat_cmp)) (written-same f written));
  }

  pub of-same : (written book : List Txn) (k : KeptBook) → IsOf written book k → IsOf (relined f written) (relined f book) k
  of-same written book k h = record {
    walks = walks-same written book k.walks h.walks;
    sums = if_some (KeepsBook book) (KeepsBook (relined f book)) (keeps-same f book) k.sums h.sums;
  }

  -- ---- what is counted

  nodes-one : (symbols : List (List ℕ)) (g : ℕ → ℕ) (t : Txn) → nodes_at symbols (Some (relined_txn g t)) ≡ nodes_at symbols (Some t)
  nodes-one symbols g t = nodes-same g (λ account symbol below. 22) (λ account symbol below. nodes_beside symbol symbols) t.postings

  module _ (edited : ℕ → Bool) (before after : List Txn) (old new : Counts) where
    pub checked-same : ChecksFew (edits_of edited before after) old new → ChecksFew (edits_of edited before (relined f after)) old new
    checked-same h = λ set closed.
        subst (λ (n : ℕ). new.checked ≤ old.checked + n) (sym (size-same f set after)) (h set (closed-bare f edited before after set closed))

    nodes-set : (set : ℕ → Bool) → nodes_in (symbols_written (before ++ relined f after)) set (relined f after) ≡ nodes_in (symbols_written (before ++ after)) set after
    nodes-set set =
        ap (λ (symbols : List (List ℕ)). nodes_in symbols set (relined f after)) (beside-same f before after)
        ∙ weights-same f (nodes_at (symbols_written (before ++ after))) (nodes-one (symbols_written (before ++ after))) set after

    pub asked-same : AsksWritten (edits_of edited before after) old new → AsksWritten (edits_of edited before (relined f after)) old new
    asked-same h = λ set closed.
        subst (λ (n : ℕ). new.nodes ≤ old.nodes + n) (sym (nodes-set set)) (h set (closed-bare f edited before after set closed))

-- ---- where later transactions have moved

pub of-moved : (n : ℕ) (by : Shift) (written book : List Txn) (k : KeptBook) → IsOf written book k → IsOf (moved_from n by written) (moved_from n by book) k
of-moved n by written book k h =
    subst (λ (ws : List Txn). IsOf ws (moved_from n by book) k) (sym (moved-is n by written))
    (subst (λ (bs : List Txn). IsOf (relined (line_from n by) written) bs k) (sym (moved-is n by book)) (of-same (line_from n by) written book k h))

module _ (n : ℕ) (by : Shift) (edited : ℕ → Bool) (before after : List Txn) (old new : Counts) where
  pub checked-moved : ChecksFew (edits_of edited before after) old new → ChecksFew (edits_of edited before (moved_from n by after)) old new
  checked-moved h =
      subst (λ (ts : List Txn). ChecksFew (edits_of edited before ts) old new) (sym (moved-is n by after)) (checked-same (line_from n by) edited before after old new h)

  pub asked-moved : AsksWritten (edits_of edited before after) old new → AsksWritten (edits_of edited before (moved_from n by after)) old new
  asked-moved h =
      subst (λ (ts : List Txn). AsksWritten (edits_of edited before ts) old new) (sym (moved-is n by after)) (asked-same (line_from n by) edited before after old new h)
