use Rattle.std.proofs.Common.{ℕ, ap, ◌∙◌}
use Rattle.std.specs.Prelude.{nat_lt}
use Rattle.book.specs.Postings.{postings_of}
use Rattle.asked_days.proofs.Assigning.{some-assigned}
use Rattle.asked_days.proofs.asked.AskedDays.has_assigned.Goals as goal

pub returns : goal.returns
returns c = λ book h. ap (λ (n : ℕ). nat_lt 0 n) h.assigned ∙ some-assigned (postings_of book)
