use Rattle.std.proofs.Common.{◌≡◌, [], drop}
use Rattle.watchers.specs.Walk.{put_all}
use Rattle.watchers.specs.Watches.{numbered_from, watches_of}
use Rattle.watchers.proofs.noting.watches_in_all.Given as goal

-- what was put in and what is left are all
abbrev pub invariant-loop-number : goal.invariant-loop-number
invariant-loop-number l =
    put_all l.watches (watches_of (numbered_from l.number (drop l.number l.txns)))
    ≡ put_all [] (watches_of (numbered_from 0 l.txns))
