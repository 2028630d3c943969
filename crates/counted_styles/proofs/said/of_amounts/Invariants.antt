use Rattle.std.proofs.Common.{◌≡◌, take}
use Rattle.std.specs.List.{flat_map}
use Rattle.book.specs.Style.{amount_style}
use Rattle.counted_styles.proofs.said.of_amounts.Given as goal

abbrev pub invariant-loop-posting : goal.invariant-loop-posting
invariant-loop-posting l = l.said.items ≡ flat_map amount_style (take l.posting-index l.postings)
