-- A store's two disks, taken from a shelf and given back.
use Rattle.std.specs.Prelude.{◌≡◌, ◌≢◌, ◌⊎◌, ℕ, ◌≤◌, Bool, true, List, Some, Result, Ok, Err, IfSome, IsTrue}
use Rattle.hl_base.specs.Causes.{Rose}
use Rattle.hl_base.specs.Disk.{Only}
use Rattle.hl_base.specs.Shelf.{Keeps, taken}
use Rattle.hl_base.specs.declared.disk.Disk.{Ghosts as Disks}
use Rattle.hl_base.specs.declared.shelf.Shelf.{Ghosts as Shelves}
use Rattle.hl_base.specs.declared.shelf.ShelfFault.TheVariants as fault
use Rattle.store_text.specs.Refusals.{IsOfTaking}
use Rattle.store_text.specs.declared.refusal.StoreRefusal.{StoreRefusal}
use Rattle.store_text.specs.declared.refusal.StoreRefusal.TheVariants as refusal

-- No call of a shelf failed, nor one of a disk that it has back: neither count rose.
abbrev pub NoneFailed : {S D : Type 0} → Shelves S D → S → S → Type 0
NoneFailed s old new =
    (Rose (s.faults old) (s.faults new) → ⊥) × (Rose (s.disk_faults old) (s.disk_faults new) → ⊥)

module _ {S D : Type 0} (s : Shelves S D) (g : Disks D) where
  -- what a shelf tells of these names stays
  abbrev pub KeepsNames : S → S → (List ℕ → Type 0) → Type 0
  KeepsNames old new of = Keeps s.file s.may_leave s.left_since s.HasPlace old new of

  -- A disk was handed out under a name. It reads as the file, where that is told; it is at rest, and no call of it has been
  -- made.
  pub record IsTaken (make : Bool) (name : List ℕ) (old new : S) (disk : D) : Type 0 where
    pub reads : IsTrue ((s.tells old).files) → taken make (s.file old name) ≡ Ok (g.seen disk)
    pub rests : IsTrue ((s.tells old).crashes) → IfSome (g.seen disk) (λ file. Only file (g.may_leave disk))
    pub telling : g.tells_crashes disk ≡ (s.tells old).crashes
    pub unfailing : IfSome ((s.tells old).disk_room) (λ room. (reach : ℕ) × (room ≤ reach) × (g.unfailing_to disk ≡ Some reach))
    pub moment : g.moment disk ≡ 0
    pub reach : g.reach disk ≡ 0
    pub no_faults : g.failures disk ≡ 0
    pub place : s.HasPlace new name
    pub keeps : KeepsNames old new (λ _. Unit {0})
    pub tells : s.tells new ≡ s.tells old
    pub faults : s.faults new ≡ s.faults old
    pub last_failed : s.last_failed new ≡ s.last_failed old
    pub disk_faults : s.disk_faults new ≡ s.disk_faults old
    pub sound : s.IsSound old → s.IsSound new

  -- No disk was handed out under a name.
  pub record IsUntaken (make : Bool) (name : List ℕ) (old new : S) (r : StoreRefusal) : Type 0 where
    pub absent : IsTrue ((s.tells old).files) → r ≡ refusal.Absent → taken make (s.file old name) ≡ Err fault.Absent
    pub kind : IsOfTaking r
    pub rose : r ≡ refusal.ReadFault → Rose (s.faults old) (s.faults new) × (s.last_failed new ≡ Some name)
    pub same : r ≢ refusal.ReadFault → (s.faults new ≡ s.faults old) × (s.last_failed new ≡ s.last_failed old)
    pub later : s.faults old ≤ s.faults new
    pub keeps : KeepsNames old new (λ _. Unit {0})
    pub tells : s.tells new ≡ s.tells old
    pub disk_faults : s.disk_faults new ≡ s.disk_faults old
    pub sound : s.IsSound old → (r ≢ refusal.ReadFault) × s.IsSound new

  -- A disk came back under a name: the shelf tells of it what the disk does, and counts its faults.
  pub record IsBack (name : List ℕ) (old new : S) (disk : D) : Type 0 where
    pub reads : IsTrue ((s.tells old).files) → IfSome (g.seen disk) (λ bytes. s.file new name ≡ Some bytes)
    pub crash : (c : List ℕ) → s.may_leave new name c → g.may_leave disk c
    pub since : (c : List ℕ) → s.left_since new name c → g.left_since disk 0 c
    pub place : s.HasPlace new name
    pub keeps : KeepsNames old new (λ other. other ≢ name)
    pub tells : s.tells new ≡ s.tells old
    pub faults : s.faults new ≡ s.faults old
    pub last_failed : s.last_failed new ≡ s.last_failed old
    pub clean : g.failures disk ≡ 0 → s.disk_faults new ≡ s.disk_faults old
    pub rose : g.failures disk ≢ 0 → Rose (s.disk_faults old) (s.disk_faults new)
    pub later : s.disk_faults old ≤ s.disk_faults new
    pub sound : s.IsSound old → s.IsSound new

  -- Both disks were handed out, the first before the second.
  pub record AreTaken (make : Bool) (name beside : List ℕ) (old new : S) (lent : D × D) : Type 0 where
    pub mid : S
    pub first : IsTaken make name old mid lent.0
    pub second : IsTaken true beside mid new lent.1

  -- One wasn't; where it is the second, the first came back.
  pub record ComesBack (name beside : List ℕ) (first : D) (old new : S) (r : StoreRefusal) : Type 0 where
    pub mid : S
    pub second : IsUntaken true beside old mid r
    pub back : IsBack name mid new first

  pub record AreUntaken (make : Bool) (name beside : List ℕ) (old new : S) (r : StoreRefusal) : Type 0 where
    pub way : IsUntaken make name old new r ⊎ ((mid : S) × (first : D) × IsTaken make name old mid first × ComesBack name beside first mid new r)

  -- what became of the take of a second disk beside a first, and of both
  abbrev pub SecondIsTaken : List ℕ → List ℕ → D → S → S → Result (D × D) StoreRefusal → Type 0
  SecondIsTaken name beside first old new (Ok lent) = (lent.0 ≡ first) × IsTaken true beside old new lent.1
  SecondIsTaken name beside first old new (Err r) = ComesBack name beside first old new r

  abbrev pub TakesDisks : Bool → List ℕ → List ℕ → S → S → Result (D × D) StoreRefusal → Type 0
  TakesDisks make name beside old new (Ok lent) = AreTaken make name beside old new lent
  TakesDisks make name beside old new (Err r) = AreUntaken make name beside old new r

  -- Both disks came back, the first before the second.
  pub record CameBack (name beside : List ℕ) (old new : S) (back : D × D) : Type 0 where
    pub mid : S
    pub first : IsBack name old mid back.0
    pub second : IsBack beside mid new back.1

  -- A shelf handed out both disks of a store, and has both back.
  pub record Lends (make : Bool) (name beside : List ℕ) (old new : S) (lent back : D × D) : Type 0 where
    pub out : S
    pub takes : AreTaken make name beside old out lent
    pub returns : CameBack name beside out new back
