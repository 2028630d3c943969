use Rattle.std.proofs.Common.{sym, ◌∙◌, arith}
use Rattle.kept_books.proofs.Gathered.{same_all, same_step}
use Rattle.kept_books.proofs.gathering.are_same.Goals as goal

pub loop-at-preserved : goal.loop-at-preserved
loop-at-preserved c =
    same_step c.args.a.now c.args.b.now c.loop-at.at c.index-a-at.result c.index-b-at.result (omega arith) (omega arith) c.index-a-at.is c.index-b-at.is (sym c.is_same-same.ensures ∙ c.if-not-same.false) c.loop-at.invariant

pub returns : goal.returns
returns c = λ _. same_all c.args.a.now c.args.b.now c.loop-at.at (omega arith) (omega arith) c.loop-at.invariant
