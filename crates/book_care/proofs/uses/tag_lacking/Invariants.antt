use Rattle.std.proofs.Common.{◌≡◌, drop}
use Rattle.std.specs.List.{find}
use Rattle.book_care.specs.Uses.{lacks, tag_names}
use Rattle.book_care.proofs.uses.tag_lacking.Given as goal

abbrev pub invariant-loop-tag : goal.invariant-loop-tag
invariant-loop-tag l =
    find (lacks l.declared) (tag_names l.tags) ≡ find (lacks l.declared) (tag_names (drop l.tag-index l.tags))
