use Rattle.query.proofs.SameMeaning.{boundless_by_terms, posting_by_terms, undated_by_terms, txn_by_terms}
use Rattle.query.proofs.law.means_its_terms.Goals as goal

pub returns-clause-posting : goal.returns-clause-posting
returns-clause-posting c = λ day words query types posting txn is. posting_by_terms query types is.built posting txn

pub returns-clause-undated : goal.returns-clause-undated
returns-clause-undated c = λ day words query types posting txn is. undated_by_terms query types is.built posting txn

pub returns-clause-boundless : goal.returns-clause-boundless
returns-clause-boundless c = λ day words query types posting txn is. boundless_by_terms query types is.built posting txn

pub returns-clause-txn : goal.returns-clause-txn
returns-clause-txn c = λ day words query types txn is. txn_by_terms query types is.built txn
