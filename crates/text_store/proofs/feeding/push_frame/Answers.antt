use Rattle.std.proofs.Common.{rules}
use Rattle.text_store.proofs.Framing.{frame_pushed}
use Rattle.text_store.proofs.feeding.push_frame.Goals as goal

pub returns : goal.returns
returns c =
    let old = c.args.frames.now.items in
    let file = c.args.file.now in
    let r = c.args.entry in
    frame_pushed old file c.args.revision r.kind r.payload r.len c.requires _ (search rules)
