use Rattle.std.proofs.Common.{length}
use Rattle.journal_reader.specs.Items.{reading}
use Rattle.changed_texts.specs.LinesOf.{EachLine, IsNear}
use Rattle.changed_texts.proofs.Holding.{told_ok}
use Rattle.changed_texts.proofs.Near.{reading-near}
use Rattle.changed_texts.proofs.Pieces.{reading-moved}
use Rattle.changed_texts.proofs.laws.other_items_stay.Goals as goal

pub returns-clause-reads : goal.returns-clause-reads
returns-clause-reads c context by line bytes low = reading-moved context by line bytes low

pub returns-clause-lines : goal.returns-clause-lines
returns-clause-lines c context line bytes = told_ok (EachLine (IsNear line (length bytes))) (reading context line bytes) (reading-near context line bytes)
