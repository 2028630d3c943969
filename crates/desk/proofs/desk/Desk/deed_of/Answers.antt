use Rattle.desk.proofs.desk.Desk.deed_of.Goals as goal

pub returns-in-Ok-clause-deed : goal.returns-in-Ok-clause-deed
returns-in-Ok-clause-deed g c = rw c.as_slice.ensures at c.in-Ok.ensures
