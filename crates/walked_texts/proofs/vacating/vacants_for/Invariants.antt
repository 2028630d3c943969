use Rattle.std.proofs.Common.{◌≡◌, take}
use Rattle.book.specs.Postings.{txns_of}
use Rattle.walked_texts.proofs.Numbered.{vacants_of}
use Rattle.walked_texts.proofs.vacating.vacants_for.Given as goal

abbrev pub invariant-loop-placed : goal.invariant-loop-placed
invariant-loop-placed l = l.vacants.items ≡ vacants_of (txns_of (take l.placed-index l.items))
