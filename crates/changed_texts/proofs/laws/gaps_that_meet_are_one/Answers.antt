use Rattle.changed_texts.proofs.Counted.{met_txns}
use Rattle.changed_texts.proofs.Gathered.{gathered_is}
use Rattle.changed_texts.proofs.Meeting.{meets_is}
use Rattle.changed_texts.proofs.laws.gaps_that_meet_are_one.Goals as goal

pub returns-clause-cut : goal.returns-clause-cut
returns-clause-cut c text bytes n p of entries = meets_is text bytes n p of entries

pub returns-clause-read : goal.returns-clause-read
returns-clause-read c year text bytes items said n p of entries read h = gathered_is year text bytes items n p of entries read said h

pub returns-clause-txns : goal.returns-clause-txns
returns-clause-txns c year text bytes items said n p read h = met_txns year text bytes items said n p read h
