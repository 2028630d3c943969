use Rattle.std.proofs.Common.{◌≡◌, drop}
use Rattle.std.specs.List.{find, flat_map}
use Rattle.book_care.specs.Uses.{is_lacking, posting_uses}
use Rattle.book_care.proofs.uses.postings_use.Given as goal

abbrev pub invariant-loop-posting : goal.invariant-loop-posting
invariant-loop-posting l =
    find (is_lacking l.declared) (flat_map (posting_uses l.declared.check) l.postings) ≡ find (is_lacking l.declared) (flat_map (posting_uses l.declared.check) (drop l.posting-index l.postings))
