use Rattle.placed_sums.proofs.Lasting.{days_blank, days_stay_with, earlier_told, within_on}
use Rattle.placed_sums.proofs.laws.day_laws.Goals as goal

pub returns-clause-earlier : goal.returns-clause-earlier
returns-clause-earlier c places book day number days = earlier_told places book day number days

pub returns-clause-stays : goal.returns-clause-stays
returns-clause-stays c places book number old new days is same = days_stay_with places book number old new days is same

pub returns-clause-blank : goal.returns-clause-blank
returns-clause-blank c places book blank days none = days_blank places book blank days none

pub returns-clause-one : goal.returns-clause-one
returns-clause-one c day txn other within some = within_on day txn other within some
