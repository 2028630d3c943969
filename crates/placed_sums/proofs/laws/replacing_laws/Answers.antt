use Rattle.std.proofs.Common.{refl}
use Rattle.placed_sums.specs.Rows.{rows_of}
use Rattle.placed_sums.proofs.Indexing.{stand_own}
use Rattle.placed_sums.proofs.Replacing.{stand_blank, stand_more, stand_replaced}
use Rattle.placed_sums.proofs.Walking.{other_same, same_before, sum_same}
use Rattle.placed_sums.proofs.laws.replacing_laws.Goals as goal

pub returns-clause-own : goal.returns-clause-own
returns-clause-own c book = stand_own (rows_of book) book refl

pub returns-clause-more : goal.returns-clause-more
returns-clause-more c rows book more s = stand_more rows book more s

pub returns-clause-blank : goal.returns-clause-blank
returns-clause-blank c rows book blank s none = stand_blank rows book blank s none

pub returns-clause-replaced : goal.returns-clause-replaced
returns-clause-replaced c rows book number old new s h = stand_replaced rows book number old new s h

pub returns-clause-postings : goal.returns-clause-postings
returns-clause-postings c book number day old new place account below h of_old of_new not_after = same_before book number day old new place account below h of_old of_new not_after

pub returns-clause-sums : goal.returns-clause-sums
returns-clause-sums c book number day old new place account symbol below h of_old of_new not_after = sum_same book number day old new place account symbol below h of_old of_new not_after

pub returns-clause-others : goal.returns-clause-others
returns-clause-others c book number day old new place account symbol below h of_old of_new not_after = other_same book number day old new place account symbol below h of_old of_new not_after
