-- The bytes of a half that was just written, and the moments of making and opening a store.
use Rattle.std.specs.Prelude.{◌≡◌, ◌⊎◌, ℕ, ◌+◌, ◌-◌, ◌%◌, ◌^◌, ◌<◌, ◌==◌, max, Bool, true, false, if◌then◌else◌, List, [], ◌∷◌, ◌++◌, length, flat_map, sum_by, take, drop, Option, Some, None, Result, Ok, Err, IsErr}
use Rattle.std.specs.Int.{w32, w64, to_le_bytes}
use Rattle.hl_base.specs.declared.change.Latest.{Latest}
use Rattle.hl_base.specs.declared.disk.Disk.{Ghosts}
use Rattle.text_store.specs.declared.image.Image.{Image}
use Rattle.text_store.specs.Changes.{mark_payload}
use Rattle.text_store.specs.Edits.{whole_size}
use Rattle.text_store.specs.Entries.{Entry, body}
use Rattle.text_store.specs.Image.{Half, NoImage, letters, live, chosen, image, have_own_names, number_8}
use Rattle.text_store.specs.Kinds.{image_kind}

-- the letters, the version 2, and then the limit, the generation and the base revision in 8 bytes each
abbrev pub header : ℕ → ℕ → ℕ → List ℕ
header limit generation base = (letters ++ 2 ∷ []) ++ to_le_bytes w64 limit ++ to_le_bytes w64 generation ++ to_le_bytes w64 base

-- the payload of a C: the number of import states in 4 bytes, the states, and the text
abbrev pub whole_payload : Image → List ℕ
whole_payload image = to_le_bytes w32 (length image.latest) ++ flat_map mark_payload image.latest ++ image.text

-- the bytes up to the last gate of a half that holds an image and no further record
abbrev pub new_front : ℕ → ℕ → Image → List ℕ
new_front limit generation image = header limit generation image.revision ++ 1 ∷ body image_kind (whole_payload image)

abbrev pub next_generation : ℕ → ℕ
next_generation generation = (generation + 1) % 3

-- each import's name has fewer than 2^32 bytes
abbrev pub HaveShortNames : List Latest → Type 0
HaveShortNames [] = Unit {0}
HaveShortNames (state ∷ states) = (length state.name < 2 ^ 32) × HaveShortNames states

-- fewer than 2^32 import states, with names that differ, each of fewer than 2^32 bytes
abbrev pub AreWritable : List Latest → Type 0
AreWritable latest = (length latest < 2 ^ 32) × HaveShortNames latest × (have_own_names latest ≡ true)

pub record IsWritable (image : Image) : Type 0 where
  pub few : length image.latest < 2 ^ 32
  pub short : HaveShortNames image.latest
  pub own : have_own_names image.latest ≡ true

-- the image of a text alone
abbrev pub fresh : List ℕ → Image
fresh text = record { text = text; latest = []; revision = 0 }

-- files that a crash might have left before, files without an image, or files with this one
abbrev pub WhileMade : {D : Type 0} → Ghosts D → D × D → Image → List ℕ → List ℕ → Type 0
WhileMade g old shown first second = (g.may_leave old.0 first × g.may_leave old.1 second) ⊎ (IsErr (image first second) ⊎ (image first second ≡ Ok shown))

-- files that a crash might have left before, or files with the image, or the want of one, of those that the disks read as,
-- which a crash might have left before
abbrev pub WhileOpened : {D : Type 0} → Ghosts D → D × D → List ℕ → List ℕ → List ℕ → List ℕ → Type 0
WhileOpened g old seen_first seen_second first second =
    (g.may_leave old.0 first × g.may_leave old.1 second)
    ⊎ ((g.may_leave old.0 seen_first × g.may_leave old.1 seen_second) × (image first second ≡ image seen_first seen_second))

-- files with an image in place of two that a crash might have left before
abbrev pub ShowsOf : {D : Type 0} → Ghosts D → D × D → List ℕ → List ℕ → Image → List ℕ → List ℕ → Type 0
ShowsOf g old seen_first seen_second shown first second =
    (g.may_leave old.0 seen_first × g.may_leave old.1 seen_second) × (image first second ≡ Ok shown)

-- the limit of a store of two files: that of the chosen half; of an older store its own, or the length of a file that holds
-- its image, if that is greater; 0 where there is no image
abbrev pub limit_in : Option Half → List ℕ → Result Image NoImage → ℕ
limit_in chosen_half first (Err none) = 0
limit_in None first (Ok shown) = max (number_8 (drop 8 first)) (whole_size shown)
limit_in (Some half) first (Ok shown) = half.limit

abbrev pub opened_limit : List ℕ → List ℕ → ℕ
opened_limit first second = limit_in (chosen (live first) (live second)) first (image first second)

-- the length of a record with its gate
abbrev pub record_size : Entry → ℕ
record_size entry = 10 + length entry.payload

-- the length of a half: that of a file which holds its first image alone, and its further records
abbrev pub half_size : Half → ℕ
half_size half = whole_size (record { text = half.start.text; latest = half.start.latest; revision = half.base }) + sum_by record_size half.entries

-- the length of the half in use of a store of two files: that of the chosen half; of an older store that of a file which holds
-- its image; 0 where there is no image
abbrev pub size_in : Option Half → Result Image NoImage → ℕ
size_in chosen_half (Err none) = 0
size_in None (Ok shown) = whole_size shown
size_in (Some half) (Ok shown) = half_size half

abbrev pub opened_size : List ℕ → List ℕ → ℕ
opened_size first second = size_in (chosen (live first) (live second)) (image first second)

-- of two halves the second is the one in use
abbrev pub uses_second : Option Half → Option Half → Bool
uses_second None second = true
uses_second (Some first) None = false
uses_second (Some first) (Some second) = second.generation == (first.generation + 1) % 3

-- the file of the half in use
abbrev pub file_in_use : List ℕ → List ℕ → List ℕ
file_in_use first second = if uses_second (live first) (live second) then second else first

-- the bytes of a half of a file up to its last gate, and that gate shut; of an older store those of a new half that holds its image
abbrev pub rest_in : Option Half → List ℕ → ℕ → Result Image NoImage → List ℕ
rest_in (Some half) file limit found = take (half_size half - 1) file ++ 0 ∷ []
rest_in None file limit (Ok shown) = new_front limit 1 shown ++ 0 ∷ []
rest_in None file limit (Err none) = []

-- the bytes of the half in use of a store of two files, once it is opened
abbrev pub rest_of : List ℕ → List ℕ → List ℕ
rest_of first second = rest_in (chosen (live first) (live second)) (file_in_use first second) (opened_limit first second) (image first second)
