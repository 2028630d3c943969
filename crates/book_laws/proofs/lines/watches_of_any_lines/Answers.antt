use Rattle.book_laws.proofs.Watched.{are-of, numbered-same, text-of, watches-same}
use Rattle.book_laws.proofs.lines.watches_of_any_lines.Goals as goal

pub returns-clause-watches : goal.returns-clause-watches
returns-clause-watches c line standing = watches-same line standing

pub returns-clause-are : goal.returns-clause-are
returns-clause-are c line standing watches h = are-of line standing watches h

pub returns-clause-numbered : goal.returns-clause-numbered
returns-clause-numbered c line book = numbered-same line 0 book

pub returns-clause-text : goal.returns-clause-text
returns-clause-text c line text watches h = text-of line text watches h
