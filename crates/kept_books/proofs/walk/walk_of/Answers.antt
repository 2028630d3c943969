use Rattle.kept_books.proofs.walk.walk_of.Goals as goal

pub symbols_kept-requires-clause-alone : goal.symbols_kept-requires-clause-alone
symbols_kept-requires-clause-alone c = c.requires.alone

pub symbols_kept-requires-clause-both : goal.symbols_kept-requires-clause-both
symbols_kept-requires-clause-both c = c.requires.both

pub returns-clause-symbols : goal.returns-clause-symbols
returns-clause-symbols c = c.in_ok-symbols.ensures
