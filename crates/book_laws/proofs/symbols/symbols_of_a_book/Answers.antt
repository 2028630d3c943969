use Rattle.book_laws.proofs.Written.{own_symbols, symbols_before, symbols_behind, written_in}
use Rattle.book_laws.proofs.symbols.symbols_of_a_book.Goals as goal

pub returns-clause-written : goal.returns-clause-written
returns-clause-written c text book symbol solves moved = written_in text book symbol solves moved

pub returns-clause-own : goal.returns-clause-own
returns-clause-own c text book solves = own_symbols text book solves

pub returns-clause-before : goal.returns-clause-before
returns-clause-before c text more book solves = symbols_before text more book solves

pub returns-clause-behind : goal.returns-clause-behind
returns-clause-behind c text more book solves = symbols_behind text more book solves
