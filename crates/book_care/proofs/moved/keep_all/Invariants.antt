use Rattle.std.proofs.Common.{◌≡◌, ◌++◌, take}
use Rattle.std.specs.List.{flat_map}
use Rattle.book_care.specs.Kept.{kept_of}
use Rattle.book_care.proofs.moved.keep_all.Given as goal

abbrev pub invariant-loop-posting : goal.invariant-loop-posting
invariant-loop-posting l = l.kept.items ≡ l.initial.kept.items ++ flat_map (kept_of l.names l.into) (take l.posting-index l.posting-items)
