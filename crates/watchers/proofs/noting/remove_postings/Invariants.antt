use Rattle.std.proofs.Common.{◌≡◌, drop}
use Rattle.watchers.specs.Walk.{gone_all, watches_from}
use Rattle.watchers.proofs.noting.remove_postings.Given as goal

-- what was done and what is left are all
abbrev pub invariant-loop-n : goal.invariant-loop-n
invariant-loop-n l =
    gone_all l.watches (watches_from l.txn l.number l.n (drop l.n l.postings))
    ≡ gone_all l.initial.watches (watches_from l.txn l.number 0 l.postings)
