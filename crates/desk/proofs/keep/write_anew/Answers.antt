use Rattle.std.proofs.Common.{sym, ◌∙◌}
use Rattle.text_store.specs.declared.image.Image.{Image}
use Rattle.text_store.proofs.Both.{less_said, stays}
use Rattle.desk.proofs.Keeping.{same_image}
use Rattle.desk.proofs.Opened.{writes}
use Rattle.desk.proofs.keep.write_anew.Goals as goal

pub checkpoint-requires-clause-writable : goal.checkpoint-requires-clause-writable
checkpoint-requires-clause-writable g c =
    let image : Image = record { text = c.args.live.now.text; latest = c.args.latest.now; revision = c.args.live.now.revision } in
    rw c.in-Ok.ensures (writes image c.requires.writable)

pub returns-in-Ok-checkpoint-clause-any_moment : goal.returns-in-Ok-checkpoint-clause-any_moment
returns-in-Ok-checkpoint-clause-any_moment g c = λ shown is held tell.
    less_said g.D.Disk _ _ _ _ (same_image shown c.in-Ok.image (c.in-Ok.ensures ∙ sym is)) (c.checkpoint.ensures.any_moment shown held tell)

pub returns-clause-any_moment : goal.returns-clause-any_moment
returns-clause-any_moment g c = λ shown is held tell.
    less_said g.D.Disk _ _ _ _ (same_image shown c.in-Ok.image (c.in-Ok.ensures ∙ sym is)) (c.checkpoint.ensures.any_moment shown held tell)

pub returns-in-Err-clause-any_moment : goal.returns-in-Err-clause-any_moment
returns-in-Err-clause-any_moment g c = λ shown is held tell. stays g.D.Disk _ _ (held.shows tell)
