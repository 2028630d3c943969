use Rattle.book.specs.Postings.{postings_of}
use Rattle.entry_balance.specs.Entry.{moved}
use Rattle.walked_texts.proofs.making.end_with.Goals as goal

pub returns : goal.returns
returns c = λ items book h turns. record { asked = c.last-asked.ensures book h.asked; assigned = c.has_assigned-assigned.ensures book h.asked; moves = c.in_ok-turnover.ensures (moved (postings_of book)) turns }
