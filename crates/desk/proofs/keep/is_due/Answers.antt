use Rattle.std.proofs.Common.{◌≡◌, ◌-◌, ◌^◌, min, arith}
use Rattle.text_store.specs.declared.image.Image.{Image}
use Rattle.text_store.specs.Edits.{whole_size}
use Rattle.text_store.specs.Stores.{limit_of, size_of}
use Rattle.desk.proofs.Rooms.{due_same}
use Rattle.desk.proofs.keep.is_due.Goals as goal

pub returns : goal.returns
returns g c =
    let image : Image = record { text = c.args.live.now.text; latest = c.args.latest.now; revision = c.args.live.now.revision } in
    let counted : c.size_of_parts.result ≡ min (whole_size image) (2 ^ 64 - 1) =
    rw (← c.text.ensures.text, ← c.as_slice.ensures) (c.size_of_parts.ensures c.args.live.now.revision) in
    due_same (size_of c.args.store.now) (limit_of c.args.store.now) c.args.size (whole_size image) c.size_of_parts.result c.due.result (omega arith) counted c.due.ensures.0 c.due.ensures.1
