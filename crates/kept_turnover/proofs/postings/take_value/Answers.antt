use Rattle.kept_turnover.proofs.Holding.{loses_one}
use Rattle.kept_turnover.proofs.postings.take_value.Goals as goal

pub returns : goal.returns
returns c = loses_one c.args.symbols.now c.take_number.new.symbols c.args.symbol.now c.args.number c.take_number.ensures
