use Rattle.changed_texts.proofs.Anew.{cut_anew_is, new_txn, read_anew_is}
use Rattle.changed_texts.proofs.Holding.{told_ok}
use Rattle.changed_texts.specs.Replacing.{IsTxn, said_there}
use Rattle.changed_texts.proofs.laws.an_entry_is_changed.Goals as goal

pub returns-clause-cut : goal.returns-clause-cut
returns-clause-cut c text bytes n p of entry = cut_anew_is text bytes n p of entry

pub returns-clause-read : goal.returns-clause-read
returns-clause-read c year text bytes items n p of entry read = read_anew_is year text bytes items n p of entry read

pub returns-clause-txn : goal.returns-clause-txn
returns-clause-txn c year items n p bytes entry = told_ok IsTxn (said_there year items n p bytes) (new_txn year items n p bytes entry)
