-- A frame that is about to be stored.
use Rattle.std.specs.Prelude.{◌≡◌, ◌^◌, ◌<◌, length, Option, None, Some}
use Rattle.text_store.specs.declared.image.Image.{Image}
use Rattle.text_store.specs.Changes.{payload_of, HasShortName}
use Rattle.text_store.specs.Edits.{edited}
use Rattle.follower.specs.declared.frame.Frame.{Frame}
use Rattle.follower.specs.declared.preparing.Prepared.{Prepared}
use Rattle.follower.specs.Changing.{with_next, LiesIn}
use Rattle.follower.specs.Images.{image_after}

-- the image with the change of a frame made
abbrev pub next_image : Image → Prepared → Image
next_image image prepared = with_next image prepared.change prepared.next

-- the change that a frame makes of an image, and what it makes anew
pub record IsReady (image : Image) (frame : Frame) (prepared : Prepared) : Type 0 where
  pub edits : edited image prepared.change ≡ Some (next_image image prepared)
  pub after : image_after image frame ≡ Some (next_image image prepared)
  pub inside : LiesIn prepared.change (length image.text)
  pub name : HasShortName prepared.change
  pub size : length (payload_of prepared.change) ≡ length frame.payload
  pub below : image.revision < 2 ^ 62

abbrev pub IsPrepared : Image → Frame → Option Prepared → Type 0
IsPrepared image frame None = image_after image frame ≡ None
IsPrepared image frame (Some prepared) = IsReady image frame prepared
