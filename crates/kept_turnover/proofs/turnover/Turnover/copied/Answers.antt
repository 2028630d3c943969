use Rattle.kept_turnover.proofs.Fitting.{copy_of}
use Rattle.kept_turnover.proofs.turnover.Turnover.copied.Goals as goal

pub returns : goal.returns
returns c = λ values h. copy_of c.args.self.now.symbols c.in_ok-clone.field-0 c.in_ok-clone.ensures.cases values h
