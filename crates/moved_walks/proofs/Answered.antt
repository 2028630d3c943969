-- What comes of a walk holds where later transactions have moved.
use Rattle.std.proofs.Common.{◌≡◌, ℕ, Bool, List, Result, Ok, Err}
use Rattle.std.specs.Prelude.{IfErr, IfOk, drop}
use Rattle.std.specs.List.{AllByRecursion}
use Rattle.hl_base.specs.Counts.{Counts}
use Rattle.book.specs.declared.transaction.Txn.{Txn}
use Rattle.reached_walk.specs.Closed.{edits_of}
use Rattle.walked_edits.specs.Causes.{IsCause}
use Rattle.walked_edits.specs.declared.fault.WalkFault.{WalkFault}
use Rattle.walked_edits.specs.declared.fault.WalkFault.TheVariants.{Load, Memory}
use Rattle.kept_books.specs.Counting.{AsksWritten}
use Rattle.walked_texts.specs.Making.{Answers}
use Rattle.moved_lines.specs.Moving.{CanMoveTxn, moved_from}
use Rattle.moved_lines.specs.declared.shift.Shift.{Shift}
use Rattle.book_laws.specs.Reaching.{HasNoPlainReach}
use Rattle.book_laws.proofs.Reached.{none-moved}
use Rattle.moved_walks.proofs.Walks.{asked-moved, checked-moved}

if_ok : {A E : Type 0} (P Q : A → Type 0) → ((x : A) → P x → Q x) → (r : Result A E) → IfOk r P → IfOk r Q
if_ok P Q f (Ok x) h = f x h
if_ok P Q f (Err e) h = h

if_err : {A E : Type 0} (P Q : E → Type 0) → ((e : E) → P e → Q e) → (r : Result A E) → IfErr r P → IfErr r Q
if_err P Q f (Ok x) h = h
if_err P Q f (Err e) h = f e h

for_cause : (P Q : Type 0) → (P → Q) → (fault : WalkFault) → IsCause fault P → IsCause fault Q
for_cause P Q f Load h = f h
for_cause P Q f Memory h = h

pub answers-moved : {A : Type 0} (IsMade : A → Type 0) (answer : Result A WalkFault) (n : ℕ) (by : Shift) (edited : ℕ → Bool) (before after : List Txn) (old new : Counts)
    → AllByRecursion (CanMoveTxn by) (drop n after) → Answers (edits_of edited before after) IsMade answer old new
    → Answers (edits_of edited before (moved_from n by after)) IsMade answer old new
answers-moved IsMade answer n by edited before after old new can h = record {
  made = h.made;
  few = checked-moved n by edited before after old new h.few;
  read = h.read;
  nodes = if_ok (λ _. AsksWritten (edits_of edited before after) old new) (λ _. AsksWritten (edits_of edited before (moved_from n by after)) old new)
      (λ _. asked-moved n by edited before after old new) answer h.nodes;
  load = if_err (λ fault. IsCause fault (HasNoPlainReach (edits_of edited before after))) (λ fault. IsCause fault (HasNoPlainReach (edits_of edited before (moved_from n by after))))
      (for_cause (HasNoPlainReach (edits_of edited before after)) (HasNoPlainReach (edits_of edited before (moved_from n by after))) (none-moved n by edited before after can)) answer h.load;
}
