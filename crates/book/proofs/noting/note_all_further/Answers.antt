use Rattle.std.proofs.Common.{arith}
use Rattle.std.proofs.lemmas.Grind.{common_steps}
use Rattle.book.proofs.Others.{same-then}
use Rattle.book.proofs.noting.note_all_further.Goals as goal

pub loop-posting-preserved : goal.loop-posting-preserved
loop-posting-preserved c = record {
  noted = grind (arith, common_steps);
  others = same-then c.loop-posting.invariant.others c.note_further.ensures.others;
}
