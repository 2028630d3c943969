use Rattle.std.proofs.Common.{◌≡◌, take}
use Rattle.std.specs.List.{flat_map}
use Rattle.book.specs.Style.{further_styles}
use Rattle.counted_styles.proofs.said.of_further.Given as goal

abbrev pub invariant-loop-posting : goal.invariant-loop-posting
invariant-loop-posting l = l.said.items ≡ flat_map further_styles (take l.posting-index l.postings)
