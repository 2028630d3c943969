use Rattle.placed_sums.proofs.Besides.{own_symbols, replaced_symbols, wider_symbols}
use Rattle.placed_sums.proofs.laws.symbol_laws.Goals as goal

pub returns-clause-own : goal.returns-clause-own
returns-clause-own c book = own_symbols book

pub returns-clause-wider : goal.returns-clause-wider
returns-clause-wider c symbols wider book more known is = wider_symbols symbols wider book more known is

pub returns-clause-replaced : goal.returns-clause-replaced
returns-clause-replaced c symbols book number old new known is named = replaced_symbols symbols book number old new known is named
