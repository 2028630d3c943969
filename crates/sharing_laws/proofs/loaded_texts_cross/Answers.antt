use denote.Param.Send.{sendable}
use Rattle.sharing_laws.proofs.Sendable.{loaded_send}
use Rattle.sharing_laws.proofs.loaded_texts_cross.Goals as goal

pub crosses-requires-send-T : goal.crosses-requires-send-T
crosses-requires-send-T c κs = let l = loaded_send in search sendable depth 20
