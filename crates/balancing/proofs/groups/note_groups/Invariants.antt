use Rattle.std.proofs.Common.{◌≡◌, List, ◌++◌, map, take}
use Rattle.book.specs.Order.{each_once}
use Rattle.balancing.specs.Groups.{Group, group_cmp, day_of}
use Rattle.balancing.proofs.groups.note_groups.Given as goal

abbrev pub invariant-loop-posting : goal.invariant-loop-posting
invariant-loop-posting l = (rest : List Group) → each_once group_cmp (l.groups.items ++ rest)
    ≡ each_once group_cmp (l.initial.groups.items ++ (map (λ q. (day_of l.txn q, l.number)) (take l.posting-index l.txn.postings) ++ rest))
