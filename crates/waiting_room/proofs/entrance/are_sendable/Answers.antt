use denote.Param.Send.{sendable}
use Rattle.waiting_room.proofs.Sendable.{caller_send, entrance_send}
use Rattle.waiting_room.proofs.entrance.are_sendable.Goals as goal

pub assert_send-requires-send-T : goal.assert_send-requires-send-T
assert_send-requires-send-T c κs = let l = entrance_send in search sendable depth 20

pub assert_send-requires-2-send-T : goal.assert_send-requires-2-send-T
assert_send-requires-2-send-T c κs = let l = caller_send in search sendable depth 20
