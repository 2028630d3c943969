use Rattle.std.proofs.Common.{ℕ, ◌==◌, List, length, ap}
use Rattle.serve_rows.proofs.Doors.{is_new}
use Rattle.serve_rows.proofs.case.door_of.Goals as goal

pub returns : goal.returns
returns c = (
  is_new c.in_ok-door.door c.in_ok-door.ensures.given c.in_ok-door.ensures.faults,
  λ none. ap (λ (xs : List ℕ). length xs == 0) (c.in_ok-door.ensures.sound none),
)
