-- What serving a store comes to.
use Rattle.std.specs.Prelude.{◌≡◌, ◌≢◌, ◌⊎◌, ℕ, ◌≤◌, true, List, length, filter, Option, Some, Result, Ok, Err, IsTrue}
use Rattle.hl_base.specs.Causes.{Rose}
use Rattle.hl_base.specs.declared.disk.Disk.{Ghosts as Disks}
use Rattle.hl_base.specs.declared.shelf.Shelf.{Ghosts as Shelves}
use Rattle.text_store.specs.declared.image.Image.{Image}
use Rattle.text_store.specs.Image.{NoImage, image}
use Rattle.turn_lock.specs.declared.known.Entered.{Entered}
use Rattle.desk.specs.declared.desk.Desk.{Desk}
use Rattle.desk.specs.declared.request.Allow.{Allow}
use Rattle.desk.specs.Desks.{counts_of, shown_by, state_of}
use Rattle.desk.specs.Entries.{Entry}
use Rattle.shared_desk.specs.Histories.{IsRefused, Loads, count_told, has_fault, is_refusal}
use Rattle.shared_desk.specs.Stays.{KitTold}
use Rattle.desk_team.specs.Hostings.{Hosts, Unserved as UnservedHouse}
use Rattle.desk_team.specs.Houses.{HouseTold}
use Rattle.desk_team.specs.declared.hosting.HouseFault.{HouseFault}
use Rattle.store_text.specs.Shelved.{image_under, second_name}
use Rattle.store_text.specs.declared.refusal.StoreRefusal.TheVariants as refusal
use Rattle.store_making.specs.declared.refusal.JournalRefusal.{JournalRefusal}
use Rattle.store_making.specs.declared.refusal.JournalRefusal.TheVariants as journal
use Rattle.store_commands.specs.Asking.{IsUnasked, limit_under, size_under}
use Rattle.web_messages.specs.declared.page.Page.{Page}
use Rattle.serve_commands.specs.Hosting.{bound_at}
use Rattle.serve_commands.specs.declared.outcome.Tally.{Tally}
use Rattle.serve_commands.specs.declared.outcome.Unserved.{Unserved}
use Rattle.serve_commands.specs.declared.outcome.Unserved.TheVariants as unserved
use Rattle.serve_commands.specs.declared.store.Post.{Post}

module _ {D : Type 0} {g : Disks D} where
  -- A machine was opened on the files of the store of a name: it stands for their image, with their limit, and with the length of the
  -- half in use as its size.
  pub record StandsFor (file : List ℕ → Option (List ℕ)) (name : List ℕ) (opening : Desk D g) : Type 0 where
    pub shown : image_under file name ≡ Some (Ok (shown_by opening))
    pub limit : (state_of opening).limit ≡ limit_under file name
    pub size : (state_of opening).size ≡ size_under file name

  -- The numbers that are told are the last state's revision, how many requests there were, and how many of them were refused.
  pub record IsTally (told : Tally) (history : List (Entered Entry)) (last : Desk D g) : Type 0 where
    pub revision : told.revision ≡ (state_of last).revision
    pub requests : told.requests ≡ count_told (length history)
    pub refused : told.refused ≡ count_told (length (filter is_refusal history))

  -- Files have the image of the last state, or that of one edit that was refused for a disk fault since the last one that was
  -- acknowledged.
  abbrev pub ShowsLast : Desk D g → List (Entered Entry) → Desk D g → Option (Result Image NoImage) → Type 0
  ShowsLast opening history last found =
      (found ≡ Some (Ok (shown_by last)))
      ⊎ ((other : Image) × IsRefused opening history (Some other) × (found ≡ Some (Ok other)))

module _ {S D : Type 0} (s : Shelves S D) (g : Disks D) (name : List ℕ) where
  -- what a crash may leave of the store's files, where the shelf tells it
  abbrev pub IsLeft : S → S → List ℕ → List ℕ → Type 0
  IsLeft old new f t = IsTrue ((s.tells old).crashes) × s.may_leave new name f × s.may_leave new (second_name name) t

  -- The disks of a store were taken and came back: each other name keeps what stands under it, and no call of the shelf failed.
  pub record WasLent (old new : S) : Type 0 where
    pub others : (other : List ℕ) → other ≢ name → other ≢ second_name name → s.file new other ≡ s.file old other
    pub faults : (s.faults new ≡ s.faults old) × (s.last_failed new ≡ s.last_failed old)
    pub later : s.disk_faults old ≤ s.disk_faults new
    pub sound : s.IsSound old → s.IsSound new
    pub tells : s.tells new ≡ s.tells old

  -- A store was served until all workers had ended. What is told of its files holds where the shelf tells of files.
  pub record IsServed {A K : Type 0} (tell : A → KitTold K) (coming sent : K → Option (List ℕ)) (page : Page) (post : Post) (old new : S)
      (house house_now : HouseTold A) (told : Tally) : Type 0 where
    -- the machine as it was opened, as it was closed, and all that was asked between
    pub opening : Desk D g
    pub last : Desk D g
    pub history : List (Entered Entry)
    -- it was opened as the store's image, whose text makes a journal, with what is allowed, and had counted nothing
    pub opened : IsTrue ((s.tells old).files) → StandsFor (s.file old) name opening
    pub loads : Loads (state_of opening)
    pub allowed : (state_of opening).allowed ≡ post.allow
    pub counts : counts_of opening ≡ (0, 0)
    -- the house was asked to bind once, at the address; it handed out a kit for each worker, these served the machine, and the kits
    -- came back: the history is legal, and under each worker's number stands exactly what came over the links of its door
    pub hosts : Hosts tell coming sent page post.crew.workers post.crew.links (bound_at house post.address) opening house house_now told.failed history last
    -- the numbers of the line
    pub line : IsTally told history last
    -- the files have the last state, or beside it one refused edit, and so does each outcome of a crash
    pub shows : IsTrue ((s.tells old).files) → ShowsLast opening history last (image_under (s.file new) name)
    pub safe : IsTrue ((s.tells old).files) → (f t : List ℕ) → IsLeft old new f t → ShowsLast opening history last (Some (image f t))
    -- an entry tells a disk fault only where the shelf's count rose
    pub disk_fault : has_fault history ≡ true → Rose (s.disk_faults old) (s.disk_faults new)
    pub lent : WasLent old new

  -- A store was opened, and no link was served: its image stays, and each outcome of a crash has it. The house was asked to bind once.
  pub record IsUnserved {A : Type 0} (post : Post) (old new : S) (house house_now : HouseTold A) (fault : HouseFault) : Type 0 where
    -- it was opened as the store's image, whose text makes a journal, before the house was asked
    pub opening : Desk D g
    pub opened : IsTrue ((s.tells old).files) → StandsFor (s.file old) name opening
    pub loads : Loads (state_of opening)
    pub hosting : UnservedHouse post.crew.workers (bound_at house post.address) house house_now fault
    pub stays : IsTrue ((s.tells old).files) → image_under (s.file new) name ≡ image_under (s.file old) name
    pub crash : IsTrue ((s.tells old).files) → (f t : List ℕ) → IsLeft old new f t → Some (image f t) ≡ image_under (s.file old) name
    pub lent : WasLent old new

  -- A store wasn't opened, for this, and the house wasn't asked. Its files have the image, or the want of one, that they had.
  pub record IsUnopened {A : Type 0} (old new : S) (house house_now : HouseTold A) (e : JournalRefusal) : Type 0 where
    pub unasked : IsUnasked s g name old new e
    pub others : (other : List ℕ) → other ≢ name → other ≢ second_name name → s.file new other ≡ s.file old other
    -- a call failed only where the count rose: of the shelf's takes, with the name of the file, or of the disks that came back
    pub read_fault : e ≡ journal.Store refusal.ReadFault → Rose (s.faults old) (s.faults new)
        × ((s.last_failed new ≡ Some name) ⊎ (s.last_failed new ≡ Some (second_name name)))
    pub disk_fault : e ≡ journal.Store refusal.DiskFault → Rose (s.disk_faults old) (s.disk_faults new)
    pub no_read_fault : e ≢ journal.Store refusal.ReadFault → (s.faults new ≡ s.faults old) × (s.last_failed new ≡ s.last_failed old)
    pub later : (s.faults old ≤ s.faults new) × (s.disk_faults old ≤ s.disk_faults new)
    pub sound : s.IsSound old → (e ≢ journal.Store refusal.ReadFault) × s.IsSound new
    pub tells : s.tells new ≡ s.tells old
    pub not_asked : house_now ≡ house

  -- A store was served, or why not.
  abbrev pub ServesStore : {A K : Type 0} → (A → KitTold K) → (K → Option (List ℕ)) → (K → Option (List ℕ)) → Page → Post → S → S
      → HouseTold A → HouseTold A → Result Tally Unserved → Type 0
  ServesStore tell coming sent page post old new house house_now (Ok told) = IsServed tell coming sent page post old new house house_now told
  ServesStore tell coming sent page post old new house house_now (Err (unserved.House fault)) = IsUnserved post old new house house_now fault
  ServesStore tell coming sent page post old new house house_now (Err (unserved.Store e)) = IsUnopened old new house house_now e
