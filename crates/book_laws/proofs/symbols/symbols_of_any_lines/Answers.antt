use Rattle.book_laws.proofs.Lined.{beside-same, few-same, named-same, symbols-same, written-same}
use Rattle.book_laws.proofs.symbols.symbols_of_any_lines.Goals as goal

pub returns-clause-written : goal.returns-clause-written
returns-clause-written c line text = written-same line text

pub returns-clause-beside : goal.returns-clause-beside
returns-clause-beside c line others text = beside-same line others text

pub returns-clause-moved : goal.returns-clause-moved
returns-clause-moved c line symbol book = named-same line symbol book

pub returns-clause-serve : goal.returns-clause-serve
returns-clause-serve c line symbols book h = symbols-same line symbols book h

pub returns-clause-few : goal.returns-clause-few
returns-clause-few c line book h = few-same line book h
