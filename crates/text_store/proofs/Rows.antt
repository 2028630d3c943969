-- The image of written files, computed.
use Rattle.std.specs.Prelude.{◌≡◌, ℕ, List, [], ◌∷◌, Ok, Err, refl}
use Rattle.text_store.specs.Entries.{open_from, open_entries}
use Rattle.text_store.specs.Image.{image, NotAStore, Newer}

-- a new store of the empty text with a limit of 1048576
abbrev new_file : List ℕ
new_file = 72 ∷ 76 ∷ 83 ∷ 84 ∷ 79 ∷ 82 ∷ 69 ∷ 2 ∷ 0 ∷ 0 ∷ 16 ∷ 0 ∷ 0 ∷ 0 ∷ 0 ∷ 0 ∷ 1 ∷ 0 ∷ 0 ∷ 0 ∷ 0 ∷ 0 ∷ 0 ∷ 0 ∷ 0 ∷ 0 ∷ 0 ∷ 0 ∷ 0 ∷ 0 ∷ 0 ∷ 0 ∷ 1 ∷ 67 ∷ 4 ∷ 0 ∷ 0 ∷ 0 ∷ 0 ∷ 0 ∷ 0 ∷ 0 ∷ 0 ∷ 0 ∷ 0 ∷ 0 ∷ 0 ∷ []

pub new_store : image new_file [] ≡ Ok (record { text = []; latest = []; revision = 0 })
unfolding open_from open_entries
new_store = refl

-- the empty text in a store of version 1
abbrev old_file : List ℕ
old_file = 72 ∷ 76 ∷ 83 ∷ 84 ∷ 79 ∷ 82 ∷ 69 ∷ 1 ∷ 0 ∷ 0 ∷ 16 ∷ 0 ∷ 0 ∷ 0 ∷ 0 ∷ 0 ∷ 1 ∷ 84 ∷ 0 ∷ 0 ∷ 0 ∷ 0 ∷ 0 ∷ 0 ∷ 0 ∷ 0 ∷ 0 ∷ []

pub old_store : image old_file [] ≡ Ok (record { text = []; latest = []; revision = 0 })
unfolding open_from open_entries
old_store = refl

-- a shut gate makes it no store
pub shut_store : image (72 ∷ 76 ∷ 83 ∷ 84 ∷ 79 ∷ 82 ∷ 69 ∷ 1 ∷ 0 ∷ 0 ∷ 16 ∷ 0 ∷ 0 ∷ 0 ∷ 0 ∷ 0 ∷ 0 ∷ 84 ∷ 0 ∷ 0 ∷ 0 ∷ 0 ∷ 0 ∷ 0 ∷ 0 ∷ 0 ∷ 0 ∷ []) [] ≡ Err (NotAStore 16)
unfolding open_from open_entries
shut_store = refl

-- a record that is open stands for a change, and one that is not for none
abbrev inserted : ℕ → List ℕ
inserted gate = 72 ∷ 76 ∷ 83 ∷ 84 ∷ 79 ∷ 82 ∷ 69 ∷ 2 ∷ 0 ∷ 0 ∷ 16 ∷ 0 ∷ 0 ∷ 0 ∷ 0 ∷ 0 ∷ 1 ∷ 0 ∷ 0 ∷ 0 ∷ 0 ∷ 0 ∷ 0 ∷ 0 ∷ 0 ∷ 0 ∷ 0 ∷ 0 ∷ 0 ∷ 0 ∷ 0 ∷ 0 ∷ 1 ∷ 67 ∷ 4 ∷ 0 ∷ 0 ∷ 0 ∷ 0 ∷ 0 ∷ 0 ∷ 0 ∷ 0 ∷ 0 ∷ 0 ∷ 0 ∷ gate ∷ 83 ∷ 18 ∷ 0 ∷ 0 ∷ 0 ∷ 0 ∷ 0 ∷ 0 ∷ 0 ∷ 0 ∷ 0 ∷ 0 ∷ 0 ∷ 0 ∷ 0 ∷ 0 ∷ 0 ∷ 0 ∷ 0 ∷ 0 ∷ 0 ∷ 0 ∷ 0 ∷ 0 ∷ 0 ∷ 97 ∷ 10 ∷ 0 ∷ []

pub one_change : image (inserted 1) [] ≡ Ok (record { text = 97 ∷ 10 ∷ []; latest = []; revision = 1 })
unfolding open_from open_entries
one_change = refl

pub no_change : image (inserted 0) [] ≡ Ok (record { text = []; latest = []; revision = 0 })
unfolding open_from open_entries
no_change = refl

-- the next generation is chosen
pub next_half : image new_file (72 ∷ 76 ∷ 83 ∷ 84 ∷ 79 ∷ 82 ∷ 69 ∷ 2 ∷ 0 ∷ 0 ∷ 16 ∷ 0 ∷ 0 ∷ 0 ∷ 0 ∷ 0 ∷ 2 ∷ 0 ∷ 0 ∷ 0 ∷ 0 ∷ 0 ∷ 0 ∷ 0 ∷ 7 ∷ 0 ∷ 0 ∷ 0 ∷ 0 ∷ 0 ∷ 0 ∷ 0 ∷ 1 ∷ 67 ∷ 5 ∷ 0 ∷ 0 ∷ 0 ∷ 0 ∷ 0 ∷ 0 ∷ 0 ∷ 0 ∷ 0 ∷ 0 ∷ 0 ∷ 120 ∷ 0 ∷ []) ≡ Ok (record { text = 120 ∷ []; latest = []; revision = 7 })
unfolding open_from open_entries
next_half = refl

pub newer_store : image (72 ∷ 76 ∷ 83 ∷ 84 ∷ 79 ∷ 82 ∷ 69 ∷ 3 ∷ 0 ∷ 0 ∷ []) [] ≡ Err (Newer 3)
unfolding open_from open_entries
newer_store = refl
