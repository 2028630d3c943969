use Rattle.std.proofs.Common.{refl, sym, subst}
use Rattle.hl_base.specs.Gives.{Gives}
use Rattle.additions.specs.Meaning.{cause_in}
use Rattle.additions.specs.Words.{plain_txns}
use Rattle.additions.proofs.Judging.{nothing_told, told_fault, told_txns}
use Rattle.additions.proofs.book_end.put_apart.Goals as goal

pub returns-in-Some-clause-value : goal.returns-in-Some-clause-value
returns-in-Some-clause-value c = λ written summed.
    subst (Gives plain_txns cause_in c.refused.result)
    (sym (told_fault c.args.book.now.assigned written c.args.all.items _ c.in-Some.first summed c.in_ok-txns.ensures.first c.in-Some.is))
    c.refused.ensures.value

pub returns-in-Some-clause-end : goal.returns-in-Some-clause-end
returns-in-Some-clause-end c = nothing_told _ c.refused.result c.refused.ensures.none

pub returns-in-Some-clause-txns : goal.returns-in-Some-clause-txns
returns-in-Some-clause-txns c = nothing_told _ c.refused.result c.refused.ensures.none

pub returns-in-None-clause-value : goal.returns-in-None-clause-value
returns-in-None-clause-value c = λ written summed.
    told_txns c.args.book.now.assigned written c.args.all.items _ _ summed c.in_ok-txns.ensures.first c.in-None.is c.in_ok-txns.ensures.txns

pub returns-in-None-clause-end : goal.returns-in-None-clause-end
returns-in-None-clause-end c = record { asked = refl; assigned = refl; moves = refl }
