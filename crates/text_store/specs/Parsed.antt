-- What is read of a record.
use Rattle.std.specs.Prelude.{◌≡◌, ℕ, ◌+◌, List, length, Option, Some, None}
use Rattle.hl_base.specs.declared.change.Splice.{Splice as Part}
use Rattle.text_store.specs.declared.change.Change.{Change}
use Rattle.text_store.specs.declared.image.Image.{Image}
use Rattle.text_store.specs.Changes.{payload_of, HasShortName}
use Rattle.text_store.specs.Edits.{replaced, edited_content, content_in}
use Rattle.text_store.specs.Files.{IsWritable}
use Rattle.text_store.specs.Image.{Content, spliced, changed, checkpointed}

-- a splice's payload replaces this part of every text, or is short
abbrev pub IsPartIn : List ℕ → Option Part → Type 0
IsPartIn payload None = (text : List ℕ) → spliced text payload ≡ None
IsPartIn payload (Some part) = ((text : List ℕ) → spliced text payload ≡ replaced text part) × (16 + length part.inserted ≡ length payload)

-- a record of this kind with this payload makes this change of every content, or is bad for every one
abbrev pub IsChangeIn : ℕ → List ℕ → Option Change → Type 0
IsChangeIn kind payload None = (content : Content) (at : ℕ) → changed content (record { at = at; kind = kind; payload = payload }) ≡ None
IsChangeIn kind payload (Some change) =
    ((content : Content) (at : ℕ) → changed content (record { at = at; kind = kind; payload = payload }) ≡ edited_content content change)
    × HasShortName change × (length (payload_of change) ≡ length payload)

-- the payload of a C has this image, which can be written, or doesn't read
abbrev pub IsImageIn : List ℕ → ℕ → Option Image → Type 0
IsImageIn payload revision None = checkpointed payload ≡ None
IsImageIn payload revision (Some image) = (checkpointed payload ≡ Some (content_in image)) × (image.revision ≡ revision) × IsWritable image
