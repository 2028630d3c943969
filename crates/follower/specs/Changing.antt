-- The parts of an image that a change makes anew, and a text that is changed where it lies.
use Rattle.std.specs.Prelude.{◌≡◌, ℕ, ◌+◌, ◌≤◌, List, ◌++◌, length, take, drop, Option, None, Some}
use Rattle.hl_base.specs.declared.change.Latest.{Latest}
use Rattle.hl_base.specs.declared.change.Splice.{Splice as Part}
use Rattle.text_store.specs.declared.change.Change.{Change}
use Rattle.text_store.specs.declared.change.Change.TheVariants.{Splice, Whole, Import}
use Rattle.text_store.specs.declared.image.Image.{Image}
use Rattle.text_store.specs.Edits.{edited}
use Rattle.follower.specs.declared.puts.Next.{Next}

-- a text with a part of it replaced that lies in it
abbrev pub with_part : List ℕ → Part → List ℕ
with_part text part = take part.at text ++ part.inserted ++ drop (part.at + part.removed) text

-- a text whose bytes from a place on were turned, so that so many of them stand last
abbrev pub turned : ℕ → ℕ → List ℕ → List ℕ
turned from count text = take from text ++ (drop count (drop from text) ++ take count (drop from text))

-- the text that a change makes of another one
abbrev pub text_after : Change → List ℕ → List ℕ
text_after (Splice part) text = with_part text part
text_after (Whole whole) text = whole
text_after (Import state part) text = with_part text part

-- the part that a change replaces lies in a text of so many bytes
abbrev pub LiesIn : Change → ℕ → Type 0
LiesIn (Splice part) long = part.at + part.removed ≤ long
LiesIn (Whole whole) long = Unit {0}
LiesIn (Import state part) long = part.at + part.removed ≤ long

-- a text of so many bytes, with room for so many in all, has room for what a change inserts
abbrev pub HasRoom : Change → ℕ → ℕ → Type 0
HasRoom (Splice part) long room = long + length part.inserted ≤ room
HasRoom (Whole whole) long room = Unit {0}
HasRoom (Import state part) long room = long + length part.inserted ≤ room

abbrev pub states_or : Option (List Latest) → List Latest → List Latest
states_or None states = states
states_or (Some other) states = other

-- an image with a text, and with import states where there are others, at the next revision
abbrev pub with_parts : Image → List ℕ → Next → Image
with_parts image text next = record { text = text; latest = states_or next.latest image.latest; revision = image.revision + 1 }

-- an image with a change made
abbrev pub with_next : Image → Change → Next → Image
with_next image change next = with_parts image (text_after change image.text) next

-- what a change makes anew of an image, in whose text its part lies, or it can't be made
abbrev pub IsNextOf : Image → Change → Option Next → Type 0
IsNextOf image change None = edited image change ≡ None
IsNextOf image change (Some next) = LiesIn change (length image.text) × (edited image change ≡ Some (with_next image change next))
