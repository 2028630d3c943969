use Rattle.text_store.proofs.Both.{stays}
use Rattle.desk.proofs.keep.make_room.Goals as goal

pub returns-then-not-is_due-clause-any_moment : goal.returns-then-not-is_due-clause-any_moment
returns-then-not-is_due-clause-any_moment g c = λ shown is held tell. stays g.D.Disk _ _ (held.shows tell)
