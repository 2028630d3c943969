use Rattle.std.proofs.Common.{refl}
use Rattle.shared_desk.proofs.Passes.{first_on_err, second_on_err, with_err, with_ok}
use Rattle.shared_desk.proofs.locked.LockedAsk.ask.Goals as goal

pub returns-clause-answered : goal.returns-clause-answered
returns-clause-answered g c = with_ok _ _ c.ask_in_turn.result refl c.ask_in_turn.ensures.answered

pub returns-clause-spent : goal.returns-clause-spent
returns-clause-spent g c = with_err _ _ c.ask_in_turn.result refl (first_on_err _ _ c.ask_in_turn.result c.ask_in_turn.ensures.spent)

pub returns-clause-shown : goal.returns-clause-shown
returns-clause-shown g c = second_on_err _ _ c.ask_in_turn.result c.ask_in_turn.ensures.spent
