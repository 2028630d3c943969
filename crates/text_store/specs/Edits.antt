-- An image with a change made.
use Rattle.std.specs.Prelude.{ℕ, ◌+◌, ◌^◌, List, ◌++◌, length, take, drop, if◌then◌else◌, nat_lt, nat_le, Option, None, Some, sum_by}
use Rattle.hl_base.specs.declared.change.Splice.{Splice as Part}
use Rattle.text_store.specs.declared.change.Change.{Change}
use Rattle.text_store.specs.declared.change.Change.TheVariants.{Splice, Whole, Import}
use Rattle.text_store.specs.declared.image.Image.{Image}
use Rattle.text_store.specs.Image.{Content, with_mark, with_text}

-- a text with a part of it replaced; none, where the part lies outside
abbrev pub replaced : List ℕ → Part → Option (List ℕ)
replaced text part =
    if nat_le (part.at + part.removed) (length text)
    then Some (take part.at text ++ part.inserted ++ drop (part.at + part.removed) text)
    else None

abbrev pub edited_content : Content → Change → Option Content
edited_content content (Splice part) = with_text content.latest (replaced content.text part)
edited_content content (Whole text) = Some (record { text = text; latest = content.latest })
edited_content content (Import state part) =
    let latest = with_mark state content.latest in
    if nat_lt (length latest) (2 ^ 32) then with_text latest (replaced content.text part) else None

abbrev pub content_in : Image → Content
content_in image = record { text = image.text; latest = image.latest }

abbrev pub at_revision : ℕ → Option Content → Option Image
at_revision revision None = None
at_revision revision (Some content) = Some (record { text = content.text; latest = content.latest; revision = revision })

-- The image after a change, at the next revision. There is none where the change's part lies outside the text, or where
-- it would make 2^32 import states.
abbrev pub edited : Image → Change → Option Image
edited image change = at_revision (image.revision + 1) (edited_content (content_in image) change)

-- the length of a file that holds an image and no further record: a header of 32 bytes, a gate, a record's 9 bytes, the
-- number of states in 4, each state in 12 and its name, the text, and the gate at the end
abbrev pub whole_size : Image → ℕ
whole_size image = 47 + sum_by (λ state. 12 + length state.name) image.latest + length image.text
