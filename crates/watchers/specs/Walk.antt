-- Watches that go into a set, and out of it, one after another.
use Rattle.std.specs.Prelude.{ℕ, suc, List, [], ◌∷◌, ◌++◌, unwrap_or}
use Rattle.std.specs.BTreeSet.{replace_key}
use Rattle.shared_set.specs.Sorted.{without_key}
use Rattle.hl_time.specs.declared.day.Day.{Day}
use Rattle.book.specs.declared.transaction.Posting.{Posting}
use Rattle.book.specs.declared.transaction.Txn.{Txn}
use Rattle.watchers.specs.declared.watch.Watch.{Watch}
use Rattle.watchers.specs.Order.{watch_cmp}
use Rattle.watchers.specs.Watches.{watch_if}

abbrev pub put_all : List Watch → List Watch → List Watch
put_all watches [] = watches
put_all watches (w ∷ more) = put_all (replace_key watch_cmp watches w) more

abbrev pub gone_all : List Watch → List Watch → List Watch
gone_all watches [] = watches
gone_all watches (w ∷ more) = gone_all (without_key watch_cmp w watches) more

-- the day of a posting
abbrev pub day_in : Txn → Posting → Day
day_in txn p = unwrap_or p.day txn.day

-- the watch of the n-th posting of a transaction, if it has an assertion
abbrev pub watches_posting : Txn → ℕ → ℕ → Posting → List Watch
watches_posting txn number n p = watch_if (record { day = day_in txn p; txn = number; posting = n }) p p.wanted

-- those of its postings from the n-th on
abbrev pub watches_from : Txn → ℕ → ℕ → List Posting → List Watch
watches_from txn number n [] = []
watches_from txn number n (p ∷ ps) = watches_posting txn number n p ++ watches_from txn number (suc n) ps
