use Rattle.std.proofs.Common.{ℕ, subst, sym}
use denote.Param.Send.{sendable}
use Rattle.serve_line.specs.Runs.{IsServeStatus}
use Rattle.waiting_room.proofs.Sendable.{caller_send, entrance_send}
use Rattle.process_run.proofs.Ending.{run_status}
use Rattle.process_run.proofs.run.run_process.Goals as goal

-- a door and a connection may go to another thread, since what they have of the room may
pub counted-requires-send-H-Door : goal.counted-requires-send-H-Door
counted-requires-send-H-Door g c κs = let r = c.type_bounds.sync-R in let l = entrance_send in search sendable depth 20

pub counted-requires-send-H-Door-Link : goal.counted-requires-send-H-Door-Link
counted-requires-send-H-Door-Link g c κs = let r = c.type_bounds.sync-R in let l = caller_send in search sendable depth 20

pub returns-in-Ok : goal.returns-in-Ok
returns-in-Ok g c = run_status c.counted.ensures

pub returns-in-Err : goal.returns-in-Err
returns-in-Err g c = subst (λ (n : ℕ). IsServeStatus n) (sym c.code_of.ensures) c.refuse.ensures.status
