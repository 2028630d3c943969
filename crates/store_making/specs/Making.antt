-- What making a store of a text answers, and what it leaves.
use Rattle.std.specs.Prelude.{◌≡◌, ◌≢◌, ◌⊎◌, ℕ, ◌≤◌, true, List, [], ◌∷◌, ◌++◌, Option, Some, None, IfSome, Result, Ok, Err, IfErr, IsErr, OnOk, IsTrue}
use Rattle.hl_base.specs.Causes.{Rose}
use Rattle.hl_base.specs.declared.disk.Disk.{Ghosts as Disks}
use Rattle.hl_base.specs.declared.shelf.Shelf.{Ghosts as Shelves}
use Rattle.live_journal.specs.Loading.{fault_of}
use Rattle.text_store.specs.Files.{WhileMade, fresh, new_front}
use Rattle.text_store.specs.Image.{image}
use Rattle.text_store.specs.Refusals.{ReadTheSame, Told}
use Rattle.text_store.specs.Stores.{Keeps, Leaves, Shows, Tell, Throughout, fault_count}
use Rattle.store_text.specs.Lending.{AreUntaken, Lends, NoneFailed}
use Rattle.store_text.specs.Refusals.{cause_of}
use Rattle.store_text.specs.Shelved.{or_empty, second_name}
use Rattle.store_text.specs.declared.refusal.StoreRefusal.{StoreRefusal}
use Rattle.store_text.specs.declared.refusal.StoreRefusal.TheVariants as refusal
use Rattle.store_making.specs.Refusals.{IsOfText, files_refusal}
use Rattle.store_making.specs.declared.refusal.JournalRefusal.{JournalRefusal}
use Rattle.store_making.specs.declared.refusal.JournalRefusal.TheVariants as making

-- the first file of a new store of a text: the half of generation 1 that holds it alone, with a shut gate behind it
abbrev pub first_file : List ℕ → ℕ → List ℕ
first_file text limit = new_front limit 1 (fresh text) ++ 0 ∷ []

-- Two files became a store, or were refused for this; a failed call and want of memory have no cause in the files.
abbrev pub Answers : {U : Type 0} → Result U StoreRefusal → Option StoreRefusal → Type 0
Answers (Ok done) told = told ≡ None
Answers (Err r) told = IfSome (cause_of r) (λ e. told ≡ Some e)

-- two disks, or the files of a shelf, may be refused for this
abbrev pub IsOfDisks : StoreRefusal → Type 0
IsOfDisks (refusal.Exists len) = Unit {0}
IsOfDisks (refusal.Full size limit) = Unit {0}
IsOfDisks refusal.DiskFault = Unit {0}
IsOfDisks refusal.Memory = Unit {0}
IsOfDisks _ = ⊥

abbrev pub IsOfMaking : StoreRefusal → Type 0
IsOfMaking (refusal.NotAStore at) = ⊥
IsOfMaking (refusal.Newer version) = ⊥
IsOfMaking _ = Unit {0}

-- A store of a text was made in two disks, or why it wasn't.
pub record MakesDisks {D U : Type 0} (g : Disks D) (old new : D × D) (text : List ℕ) (limit : ℕ) (result : Result U StoreRefusal) : Type 0 where
  pub answer : Told g old (λ first second. Answers result (files_refusal text limit first second))
  -- they hold the store, which has the text's image, also after any crash
  pub made : OnOk result (Told g old (λ _ _. (g.seen new.0 ≡ Some (first_file text limit)) × (g.seen new.1 ≡ Some [])
      × (image (first_file text limit) [] ≡ Ok (fresh text)) × (Tell g new → Leaves g new (Shows (fresh text)))))
  -- but for a disk fault they read as they did
  pub stays : IfErr result (λ r. r ≢ refusal.DiskFault → ReadTheSame g old new)
  -- a crash at any moment leaves files that it might have left before, files without an image, or the store
  pub any_moment : Told g old (λ _ _. Tell g old → Throughout g old new (WhileMade g old (fresh text)))
  pub kind : IfErr result IsOfDisks
  pub rose : IfErr result (λ r. r ≡ refusal.DiskFault → Rose (fault_count g old) (fault_count g new))
  pub no_fault : OnOk result (fault_count g new ≡ fault_count g old)
  pub keeps : Keeps g old new (limit, limit)

-- the disks weren't taken, for this
abbrev pub Untaken : {S D U : Type 0} → Shelves S D → Disks D → List ℕ → S → S → Result U StoreRefusal → Type 0
Untaken s g name old new (Ok done) = ⊥
Untaken s g name old new (Err r) = AreUntaken s g true name (second_name name) old new r

-- the disks were taken, as the result says
abbrev pub WereTaken : {U : Type 0} → Result U StoreRefusal → Type 0
WereTaken (Ok done) = Unit {0}
WereTaken (Err (refusal.Exists len)) = Unit {0}
WereTaken (Err (refusal.Full size limit)) = Unit {0}
WereTaken (Err refusal.DiskFault) = Unit {0}
WereTaken (Err _) = ⊥

-- what a crash leaves while a store is made: the files as they were, files without an image, or the store
abbrev pub IsLeft : List ℕ → List ℕ → List ℕ → List ℕ → List ℕ → Type 0
IsLeft text first second f s = ((f ≡ first) × (s ≡ second)) ⊎ (IsErr (image f s) ⊎ (image f s ≡ Ok (fresh text)))

-- A store of a text was made under a name among the files of a shelf, or why it wasn't. An absent file is an empty one.
pub record MakesFiles {S D U : Type 0} (s : Shelves S D) (g : Disks D) (name text : List ℕ) (limit : ℕ) (old new : S) (result : Result U StoreRefusal) : Type 0 where
  pub answer : IsTrue ((s.tells old).files) → Answers result (files_refusal text limit (or_empty (s.file old name)) (or_empty (s.file old (second_name name))))
  -- its first file holds the text with the limit, its second file is empty, and this has the text's image, at revision 0
  pub made : IsTrue ((s.tells old).files) → OnOk result ((s.file new name ≡ Some (first_file text limit)) × (s.file new (second_name name) ≡ Some [])
      × (image (first_file text limit) [] ≡ Ok (fresh text)))
  -- else, but for a disk fault, the bytes of both stay
  pub stays : IsTrue ((s.tells old).files) → IfErr result (λ r. r ≢ refusal.DiskFault
      → (or_empty (s.file new name) ≡ or_empty (s.file old name)) × (or_empty (s.file new (second_name name)) ≡ or_empty (s.file old (second_name name))))
  -- what a crash leaves, and that it leaves the store once that is made
  pub crash : IsTrue ((s.tells old).files) → IsTrue ((s.tells old).crashes) → WereTaken result → (f t : List ℕ) → s.may_leave new name f → s.may_leave new (second_name name) t
      → IsLeft text (or_empty (s.file old name)) (or_empty (s.file old (second_name name))) f t
  pub safe : IsTrue ((s.tells old).files) → IsTrue ((s.tells old).crashes) → OnOk result ((f t : List ℕ) → s.may_leave new name f → s.may_leave new (second_name name) t
      → image f t ≡ Ok (fresh text))
  -- each name but those of the store's files keeps what stands under it
  pub others : (other : List ℕ) → other ≢ name → other ≢ second_name name → s.file new other ≡ s.file old other
  pub kind : IfErr result IsOfMaking
  -- a call failed only where the count rose: of the shelf's takes, with the name of the file, or of the disks that came back
  pub read_fault : IfErr result (λ r. r ≡ refusal.ReadFault → Rose (s.faults old) (s.faults new)
      × ((s.last_failed new ≡ Some name) ⊎ (s.last_failed new ≡ Some (second_name name))))
  pub disk_fault : IfErr result (λ r. r ≡ refusal.DiskFault → Rose (s.disk_faults old) (s.disk_faults new))
  pub no_read_fault : result ≢ Err refusal.ReadFault → (s.faults new ≡ s.faults old) × (s.last_failed new ≡ s.last_failed old)
  pub no_disk_fault : OnOk result (s.disk_faults new ≡ s.disk_faults old)
  pub later : (s.faults old ≤ s.faults new) × (s.disk_faults old ≤ s.disk_faults new)
  pub sound : s.IsSound old → (result ≢ Err refusal.ReadFault) × s.IsSound new
  pub tells : s.tells new ≡ s.tells old
  -- its disks were taken and came back; or they weren't taken
  pub way : ((lent : D × D) × (back : D × D) × Lends s g true name (second_name name) old new lent back × MakesDisks g lent back text limit result)
      ⊎ Untaken s g name old new result

-- The text is judged first, and where it makes no journal, or memory ran out, the shelf stays; else its files are made, or refused.
abbrev pub JudgesAndMakes : {S D U : Type 0} → Shelves S D → Disks D → List ℕ → List ℕ → ℕ → S → S → Result U JournalRefusal → Type 0
JudgesAndMakes s g name text limit old new (Ok done) = (fault_of None text ≡ None) × MakesFiles s g name text limit old new (Ok done)
JudgesAndMakes {S} {D} {U} s g name text limit old new (Err (making.Store r)) =
    (fault_of None text ≡ None) × (r ≢ refusal.Memory) × MakesFiles {U = U} s g name text limit old new (Err r)
JudgesAndMakes s g name text limit old new (Err (making.Load fault)) = IsOfText (making.Load fault) (fault_of None text) × (new ≡ old)
JudgesAndMakes s g name text limit old new (Err (making.TooLarge most size)) = IsOfText (making.TooLarge most size) (fault_of None text) × (new ≡ old)
JudgesAndMakes {S} {D} {U} s g name text limit old new (Err making.Memory) =
    (new ≡ old) ⊎ ((fault_of None text ≡ None) × MakesFiles {U = U} s g name text limit old new (Err refusal.Memory))

-- Making the store of a text. Where the text loads, a store of it has the room, its files are empty or absent, and no call
-- failed, it is made, but for want of memory.
pub record MakesStore {S D U : Type 0} (s : Shelves S D) (g : Disks D) (name text : List ℕ) (limit : ℕ) (old new : S) (result : Result U JournalRefusal) : Type 0 where
  pub outcome : JudgesAndMakes s g name text limit old new result
  pub complete : IsTrue ((s.tells old).files) → fault_of None text ≡ None
      → files_refusal text limit (or_empty (s.file old name)) (or_empty (s.file old (second_name name))) ≡ None
      → NoneFailed s old new → IfErr result (λ e. e ≡ making.Memory)
