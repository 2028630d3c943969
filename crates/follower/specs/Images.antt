-- The image that a frame makes.
use Rattle.std.specs.Prelude.{ℕ, ◌^◌, ◌==◌, nat_le, if◌then◌else◌, Option, None}
use Rattle.text_store.specs.declared.image.Image.{Image}
use Rattle.text_store.specs.Edits.{at_revision, content_in}
use Rattle.text_store.specs.Image.{Content, changed, checkpointed}
use Rattle.follower.specs.declared.frame.Frame.{Frame}
use Rattle.text_store.specs.Kinds.{image_kind}

-- at a revision of at most 2^62
abbrev pub within : ℕ → Option Content → Option Image
within revision content = if nat_le revision (2 ^ 62) then at_revision revision content else None

-- the image of a C, if its payload reads
abbrev pub snapshot : Frame → Option Image
snapshot frame = within frame.revision (checkpointed frame.payload)

-- the image after a frame: that of a C, or the one before with the change of another record; none, where the payload doesn't read, its
-- part lies outside the text, it makes 2^32 import states, or the revision is above 2^62
abbrev pub image_after : Image → Frame → Option Image
image_after image frame =
    if frame.kind == image_kind
    then snapshot frame
    else within frame.revision (changed (content_in image) (record { at = 0; kind = frame.kind; payload = frame.payload }))
