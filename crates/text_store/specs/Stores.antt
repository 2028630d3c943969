-- A store over two disks, at rest and where a repair is due, and what a crash may leave of both.
use Rattle.std.specs.Prelude.{◌≡◌, ◌⊎◌, ℕ, ◌+◌, ◌-◌, ◌^◌, ◌%◌, ◌==◌, ◌≤◌, min, max, Bool, true, false, ◌||◌, if◌then◌else◌, IsTrue, List, [], ◌∷◌, ◌++◌, take, Option, Some, None, Result, Ok, Err}
use Rattle.hl_base.specs.declared.disk.Disk.{Ghosts}
use Rattle.hl_base.specs.Disk.{LeavesOnly}
use Rattle.text_store.specs.declared.store.Store.{Store}
use Rattle.text_store.specs.declared.fault.StoreFault.{StoreFault}
use Rattle.text_store.specs.declared.image.Image.{Image}
use Rattle.text_store.specs.Entries.{Entry}
use Rattle.text_store.specs.Image.{Half, NoImage, live, half_image, image}
use Rattle.text_store.specs.Rest.{RestsAs, StandsIn}
use Rattle.text_store.specs.Settled.{IsSettled, IsUnsettled}

-- two disks in their places
abbrev pub placed : {D : Type 0} → Bool → D → D → D × D
placed in_second live spare = if in_second then (spare, live) else (live, spare)

-- the first and the second disk of a store
abbrev pub disks : {D : Type 0} {g : Ghosts D} → Store D g → D × D
disks store = if store.in_second then (store.spare, store.live.device) else (store.live.device, store.spare)

-- the length of the half in use, and the limit of each half
abbrev pub size_of : {D : Type 0} {g : Ghosts D} → Store D g → ℕ
size_of store = store.live.gate + 1

abbrev pub limit_of : {D : Type 0} {g : Ghosts D} → Store D g → ℕ
limit_of store = store.live.limit

abbrev pub repair_due : {D : Type 0} {g : Ghosts D} → Store D g → Bool
repair_due store = store.is_torn || store.live.is_torn

-- both disks tell what a crash may leave
abbrev pub Tell : {D : Type 0} → Ghosts D → D × D → Type 0
Tell g pair = IsTrue (g.tells_crashes pair.0) × IsTrue (g.tells_crashes pair.1)

-- how often the calls of two disks failed, at most 2^64 - 1
abbrev pub fault_count : {D : Type 0} → Ghosts D → D × D → ℕ
fault_count g pair = min (g.failures pair.0 + g.failures pair.1) (2 ^ 64 - 1)

-- what a crash now may leave of two disks has P
abbrev pub Leaves : {D : Type 0} → Ghosts D → D × D → (List ℕ → List ℕ → Type 0) → Type 0
Leaves g pair P = (first second : List ℕ) → g.may_leave pair.0 first → g.may_leave pair.1 second → P first second

-- One disk moves and the other stays. At each moment since, what a crash leaves of the one, beside what a crash may leave of
-- the other, has P.
abbrev pub Moves : {D : Type 0} → Ghosts D → D × D → D × D → (List ℕ → List ℕ → Type 0) → Type 0
Moves g old new P =
    ((old.1 ≡ new.1) × LeavesOnly g.moment g.left_since old.0 new.0 (λ first. (second : List ℕ) → g.may_leave old.1 second → P first second))
    ⊎ ((old.0 ≡ new.0) × LeavesOnly g.moment g.left_since old.1 new.1 (λ second. (first : List ℕ) → g.may_leave old.0 first → P first second))

-- from the one state of two disks to the other, by way of these
abbrev pub Passes : {D : Type 0} → Ghosts D → D × D → List (D × D) → D × D → (List ℕ → List ℕ → Type 0) → Type 0
Passes g old [] new P = (old ≡ new) × Leaves g new P
Passes g old (next ∷ states) new P = Moves g old next P × Passes g next states new P

-- a crash at any moment from the one state of two disks to the other leaves files of which P holds
pub record Throughout {D : Type 0} (g : Ghosts D) (old new : D × D) (P : List ℕ → List ℕ → Type 0) : Type 0 where
  pub states : List (D × D)
  pub passes : Passes g old states new P

-- two files have an image, or either of two
abbrev pub Shows : Image → List ℕ → List ℕ → Type 0
Shows shown first second = image first second ≡ Ok shown

abbrev pub ShowsEither : Image → Image → List ℕ → List ℕ → Type 0
ShowsEither one other first second = (image first second ≡ Ok one) ⊎ (image first second ≡ Ok other)

-- a file and the one beside it, in their places
abbrev pub image_beside : Bool → List ℕ → List ℕ → Result Image NoImage
image_beside in_second file beside = if in_second then image beside file else image file beside

-- of two live halves the one of this generation is chosen: as the second it follows the first, and as the first it isn't
-- followed by the second
abbrev pub IsChosen : Bool → ℕ → Option Half → Type 0
IsChosen in_second generation None = Unit {0}
IsChosen true generation (Some other) = (generation == (other.generation + 1) % 3) ≡ true
IsChosen false generation (Some other) = (other.generation == (generation + 1) % 3) ≡ false

-- a file is a live half of this generation, chosen beside the other, with this image
pub record Leads (in_second : Bool) (generation : ℕ) (file beside : List ℕ) (shown : Image) : Type 0 where
  pub half : Half
  pub is_live : live file ≡ Some half
  pub is_next : half.generation ≡ generation
  pub is_chosen : IsChosen in_second generation (live beside)
  pub gives : half_image half ≡ Ok shown

-- A store at rest, which holds exactly this image: its two files are on the disk, they have this image, and a crash now leaves
-- files that have it.
pub record Holds {D : Type 0} {g : Ghosts D} (store : Store D g) (shown : Image) : Type 0 where
  pub front : List ℕ
  pub entries : List Entry
  pub beside : List ℕ
  pub settled : IsSettled g.seen g.tells_crashes g.may_leave store.live front entries
  pub rests : RestsAs g.seen g.tells_crashes g.may_leave store.spare beside
  pub leads : Leads store.in_second store.generation (front ++ 0 ∷ []) beside shown
  pub shows : Tell g (disks store) → Leaves g (disks store) (Shows shown)

-- a fault in the half in use left it with a further record or without
pub record IsTornInUse {D : Type 0} {g : Ghosts D} (store : Store D g) (shown other : Image) : Type 0 where
  pub front : List ℕ
  pub entries : List Entry
  pub entry : List ℕ
  pub beside : List ℕ
  pub is_due : (store.live.is_torn ≡ true) × (store.is_torn ≡ false)
  pub unsettled : IsUnsettled g.seen g.tells_crashes g.may_leave store.live front entries entry
  pub rests : RestsAs g.seen g.tells_crashes g.may_leave store.spare beside
  pub leads : Leads store.in_second store.generation (front ++ 0 ∷ []) beside shown
  pub after : Leads store.in_second store.generation (front ++ 1 ∷ entry) beside other

-- each front of a file has either image beside the half in use
abbrev pub FrontsShow : Bool → List ℕ → Image → Image → List ℕ → Type 0
FrontsShow in_second in_use shown other file =
    (n : ℕ) → (image_beside in_second in_use (take n file) ≡ Ok shown) ⊎ (image_beside in_second in_use (take n file) ≡ Ok other)

-- a fault in the other file left it so that it and each front of it has either image beside the half in use
pub record IsTornBeside {D : Type 0} {g : Ghosts D} (store : Store D g) (shown other : Image) : Type 0 where
  pub front : List ℕ
  pub entries : List Entry
  pub is_due : (store.live.is_torn ≡ false) × (store.is_torn ≡ true)
  pub settled : IsSettled g.seen g.tells_crashes g.may_leave store.live front entries
  pub stands : StandsIn g.seen g.tells_crashes g.may_leave store.spare (FrontsShow store.in_second (front ++ 0 ∷ []) shown other)
  pub leads : Leads store.in_second store.generation (front ++ 0 ∷ []) [] shown

-- A store of which a repair is due, and which then holds the first image: until then a crash leaves files that have the one
-- or the other.
pub record MayShow {D : Type 0} {g : Ghosts D} (store : Store D g) (shown other : Image) : Type 0 where
  pub torn : IsTornInUse store shown other ⊎ IsTornBeside store shown other
  pub shows : Tell g (disks store) → Leaves g (disks store) (ShowsEither shown other)

-- how far a call of a store may reach on each disk: the limit, or on that of the half in use its length
abbrev pub bounds : {D : Type 0} {g : Ghosts D} → Store D g → ℕ × ℕ
bounds store = if store.in_second then (limit_of store, max (limit_of store) (size_of store)) else (max (limit_of store) (size_of store), limit_of store)

-- neither bound is greater
abbrev pub NoWider : {D : Type 0} {g : Ghosts D} → Store D g → Store D g → Type 0
NoWider old new = ((bounds new).0 ≤ (bounds old).0) × ((bounds new).1 ≤ (bounds old).1)

-- two disks tell what they told, and none reached past a bound that it hadn't passed before
pub record Keeps {D : Type 0} (g : Ghosts D) (old new : D × D) (ends : ℕ × ℕ) : Type 0 where
  pub tells_first : g.tells_crashes new.0 ≡ g.tells_crashes old.0
  pub tells_second : g.tells_crashes new.1 ≡ g.tells_crashes old.1
  pub unfailing_first : g.unfailing_to new.0 ≡ g.unfailing_to old.0
  pub unfailing_second : g.unfailing_to new.1 ≡ g.unfailing_to old.1
  pub reach_first : g.reach new.0 ≤ max (g.reach old.0) ends.0
  pub reach_second : g.reach new.1 ≤ max (g.reach old.1) ends.1
  pub later_first : g.failures old.0 ≤ g.failures new.0
  pub later_second : g.failures old.1 ≤ g.failures new.1

-- the disks of what was made or opened, or those that are given back
abbrev pub disks_made : {D : Type 0} {g : Ghosts D} → Result (Store D g) (D × D × StoreFault) → D × D
disks_made (Ok store) = disks store
disks_made (Err refusal) = (refusal.0, refusal.1)

abbrev pub disks_opened : {D : Type 0} {g : Ghosts D} → Result (Store D g × Image) (D × D × StoreFault) → D × D
disks_opened (Ok opened) = disks opened.0
disks_opened (Err refusal) = (refusal.0, refusal.1)
