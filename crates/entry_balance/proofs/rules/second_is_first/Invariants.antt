use Rattle.std.proofs.Common.{◌≡◌, drop}
use Rattle.std.specs.List.{find}
use Rattle.entry_balance.specs.Entry.{is_of_either}
use Rattle.entry_balance.proofs.rules.second_is_first.Given as goal

abbrev pub invariant-loop-posting : goal.invariant-loop-posting
invariant-loop-posting l = find (is_of_either l.a l.b) l.postings ≡ find (is_of_either l.a l.b) (drop l.posting-index l.postings)
