use Rattle.std.proofs.Common.{arith}
use Rattle.text_store.specs.Edits.{whole_size}
use Rattle.text_store.specs.Stores.{limit_of, size_of}
use Rattle.follower.proofs.Rooms.{due_same}
use Rattle.follower.proofs.keep.is_due.Goals as goal

pub returns : goal.returns
returns g c =
    due_same (size_of c.args.store.now) (limit_of c.args.store.now) c.args.size (whole_size c.args.image.now) c.size.result c.due.result (omega arith) c.size.ensures c.due.ensures.0 c.due.ensures.1
