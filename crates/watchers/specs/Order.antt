-- The order of watches: by account, then by whether the accounts below it count, then by place.
use Rattle.std.specs.Prelude.{ℕ, Bool, List}
use Rattle.std.specs.declared.cmp.Ordering.{Ordering}
use Rattle.std.specs.Ordering.{nat_cmp, bool_cmp, ordering_then}
use Rattle.std.specs.Cmp.Lexicographic.{slice_cmp}
use Rattle.watchers.specs.declared.watch.Place.{Place}
use Rattle.watchers.specs.declared.watch.Watch.{Watch}

-- by day, then by transaction, then by posting
abbrev pub place_cmp : Place → Place → Ordering
place_cmp a b =
    ordering_then (nat_cmp a.day.0 b.day.0)
    (ordering_then (nat_cmp a.txn b.txn) (nat_cmp a.posting b.posting))

-- an account, and whether those below it count, beside those of a watch
abbrev pub kind_cmp : List ℕ → Bool → Watch → Ordering
kind_cmp account below w = ordering_then (slice_cmp nat_cmp account w.account) (bool_cmp below w.below)

abbrev pub watch_cmp : Watch → Watch → Ordering
watch_cmp a b = ordering_then (kind_cmp a.account a.below b) (place_cmp a.place b.place)
