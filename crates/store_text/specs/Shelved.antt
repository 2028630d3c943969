-- A store among the files of a shelf.
use Rattle.std.specs.Prelude.{ℕ, List, [], ◌++◌, codes, Option, Some, None, Result}
use Rattle.text_store.specs.declared.image.Image.{Image}
use Rattle.text_store.specs.Image.{NoImage, image}

-- the name of a store's second file
abbrev pub second_name : List ℕ → List ℕ
second_name name = name ++ codes ".2"

-- an absent second file is an empty one
abbrev pub or_empty : Option (List ℕ) → List ℕ
or_empty None = []
or_empty (Some bytes) = bytes

-- the image of a store's two files, or why they have none; nothing, where the first is absent
abbrev pub image_in : Option (List ℕ) → Option (List ℕ) → Option (Result Image NoImage)
image_in None second = None
image_in (Some first) second = Some (image first (or_empty second))

-- that of the store of a name, among the files of a shelf
abbrev pub image_under : (List ℕ → Option (List ℕ)) → List ℕ → Option (Result Image NoImage)
image_under file name = image_in (file name) (file (second_name name))
