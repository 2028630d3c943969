-- A file in use, and the images of it beside another file.
use Rattle.std.specs.Prelude.{◌≡◌, ◌⊎◌, ℕ, List, [], ◌∷◌, ◌++◌, take}
use Rattle.text_store.specs.Entries.{Entry, IsFront}
use Rattle.text_store.specs.Image.{letters, image}

-- the bytes up to a file's last gate: a header of version 2, and whole open records
pub record IsHalf (front : List ℕ) (entries : List Entry) : Type 0 where
  pub version : take 8 front ≡ letters ++ 2 ∷ []
  pub records : IsFront 32 front entries

-- beside another file, as the first or as the second, two files have one image
abbrev pub SameImage : List ℕ → List ℕ → List ℕ → Type 0
SameImage other a b = (image a other ≡ image b other) × (image other a ≡ image other b)

-- beside another file, as the first or as the second, a file has the image of one of two
abbrev pub HasEitherImage : List ℕ → List ℕ → List ℕ → List ℕ → Type 0
HasEitherImage other before after file = SameImage other file before ⊎ SameImage other file after
