use Rattle.kept_turnover.proofs.Booking.{replaces}
use Rattle.entry_balance.proofs.Adding.{on_ok}
use Rattle.kept_turnover.proofs.turnover.Turnover.replace.Goals as goal

pub returns : goal.returns
returns c =
    on_ok c.add.result
    (λ gains. replaces c.args.self.now.symbols c.remove.new.self.symbols c.add.new.self.symbols c.args.old.now c.args.new.now c.remove.ensures gains)
    c.add.ensures
