use Rattle.text_store.specs.Changes.{kind_of, payload_of}
use Rattle.replica_laws.proofs.Left.{either_frames}
use Rattle.replica_laws.proofs.laws.crashes_leave_either.Goals as goal

pub returns : goal.returns
returns c = λ front left entries change half fits at. either_frames front entries (kind_of change) (payload_of change) half fits left at
