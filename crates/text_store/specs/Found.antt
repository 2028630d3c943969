-- What is found in two files.
use Rattle.std.specs.Prelude.{◌≡◌, ℕ, ◌<◌, ◌≤◌, ◌^◌, Bool, true, false, List, [], ◌∷◌, ◌++◌, length, take, drop, Option, Some, None, Result, Ok, Err}
use Rattle.text_store.specs.declared.fault.StoreFault.{StoreFault}
use Rattle.text_store.specs.declared.fault.StoreFault.TheVariants.{DiskFault, NotAStore, Newer, Full, Exists, Memory}
use Rattle.text_store.specs.declared.image.Image.{Image}
use Rattle.text_store.specs.declared.finding.Head.{Head}
use Rattle.text_store.specs.declared.finding.LiveHalf.{LiveHalf}
use Rattle.text_store.specs.declared.finding.Choice.{Choice}
use Rattle.text_store.specs.declared.finding.Choice.TheVariants.{Neither, First, Second}
use Rattle.text_store.specs.declared.finding.InUse.{InUse}
use Rattle.text_store.specs.declared.finding.Place.{Place}
use Rattle.text_store.specs.declared.finding.Place.TheVariants.{Half as InHalf, Older}
use Rattle.text_store.specs.Contents.{content_in_code}
use Rattle.text_store.specs.Entries.{Entry, open_entries}
use Rattle.text_store.specs.Files.{AreWritable}
use Rattle.text_store.specs.Halves.{IsHalf}
use Rattle.text_store.specs.Image.{Half, NoImage, NotAStore as NoStore, Newer as NewerStore, letters, number_8, live, live_of, first_of, chosen, half_image, image}
use Rattle.text_store.specs.Reads.{from_place}
use Rattle.text_store.specs.Stores.{IsChosen}

-- what a header says of a half, if it is one's
abbrev pub IsHead : List ℕ → Option Head → Type 0
IsHead head None = (entries : List Entry) → live_of head entries ≡ None
IsHead head (Some h) =
    ((entries : List Entry) → live_of head entries ≡ first_of h.limit h.generation h.base entries)
    × (h.generation < 3) × (h.base ≤ 2 ^ 62) × (take 8 head ≡ letters ++ 2 ∷ [])

abbrev pub half_in_code : List ℕ → LiveHalf → Half
half_in_code file h = record { limit = h.limit; generation = h.generation; base = h.base; start = content_in_code h.start; entries = from_place file h.at }

-- a file is this live half, whose first record ends before a gate at its place
pub record IsLiveHalf (file : List ℕ) (h : LiveHalf) : Type 0 where
  pub is_live : live file ≡ Some (half_in_code file h)
  pub first : Entry
  pub entries : open_entries 32 file ≡ first ∷ from_place file h.at
  pub is_half : IsHalf (take h.at file) (first ∷ [])
  pub inside : h.at < length file
  pub generation : h.generation < 3
  pub base : h.base ≤ 2 ^ 62
  pub writable : AreWritable h.start.latest.states.items

abbrev pub IfLive : List ℕ → Option LiveHalf → Type 0
IfLive file None = live file ≡ None
IfLive file (Some h) = IsLiveHalf file h

-- of two files the chosen half
abbrev pub IsChoice : List ℕ → List ℕ → Choice → Type 0
IsChoice f s Neither = chosen (live f) (live s) ≡ None
IsChoice f s (First h) = IsLiveHalf f h × IsChosen false h.generation (live s)
IsChoice f s (Second h) = IsLiveHalf s h × IsChosen true h.generation (live f)

-- a file is the half in use beside the other, with this image: up to its last gate it is whole open records, and no open one
-- stands behind
pub record IsHalfInUse (file beside : List ℕ) (u : InUse) (shown : Image) : Type 0 where
  pub half : Half
  pub is_live : live file ≡ Some half
  pub limit : half.limit ≡ u.limit
  pub generation : half.generation ≡ u.generation
  pub one_of_three : u.generation < 3
  pub is_chosen : IsChosen u.in_second u.generation (live beside)
  pub gives : half_image half ≡ Ok shown
  pub is_half : IsHalf (take u.gate file) (open_entries 32 file)
  pub inside : u.gate < length file
  pub shut : from_place file u.gate ≡ []

abbrev pub IsInUse : List ℕ → List ℕ → Bool → Image → Place → Type 0
IsInUse file beside in_second shown (InHalf u) = (u.in_second ≡ in_second) × IsHalfInUse file beside u shown
IsInUse file beside in_second shown (Older limit) = ⊥

-- two files have this image, in one of them as a half, or in the first of version 1
abbrev pub half_found : List ℕ → List ℕ → Bool → InUse → Image → Type 0
half_found first second true u shown = IsHalfInUse second first u shown
half_found first second false u shown = IsHalfInUse first second u shown

abbrev pub IsFound : List ℕ → List ℕ → Image → Place → Type 0
IsFound first second shown (InHalf u) = half_found first second u.in_second u shown
IsFound first second shown (Older limit) =
    (chosen (live first) (live second) ≡ None) × (image first second ≡ Ok shown) × (shown.revision ≤ 2 ^ 62) × (limit ≡ number_8 (drop 8 first))

-- why there is no image
abbrev pub OldRefused : Result Image NoImage → StoreFault → Type 0
OldRefused result (NotAStore at) = result ≡ Err (NoStore at)
OldRefused result (Newer version) = result ≡ Err (NewerStore version)
OldRefused result Memory = Unit {0}
OldRefused result DiskFault = ⊥
OldRefused result (Full size limit) = ⊥
OldRefused result (Exists len) = ⊥

abbrev pub HalfRefused : Half → StoreFault → Type 0
HalfRefused half fault = OldRefused (half_image half) fault

abbrev pub ImageRefused : List ℕ → List ℕ → StoreFault → Type 0
ImageRefused first second fault = OldRefused (image first second) fault
