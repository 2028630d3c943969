-- What opening a journal and a store says of a machine.
use Rattle.std.proofs.Common.{◌≡◌, ℕ, ◌+◌, ◌%◌, ◌==◌, Bool, true, false, ◌&&◌, ltb, if◌then◌else◌, List, [], ◌∷◌, ◌++◌, length, Option, Some, None, IfSome, Result, Ok, Err, refl, sym, ap, subst, ◌∙◌, arith, length-append}
use Rattle.std.proofs.lemmas.Bool.Decides.{nat_tests}
use Rattle.hl_base.specs.declared.change.Latest.{Latest}
use Rattle.hl_base.specs.declared.disk.Disk.{Ghosts}
use Rattle.live_journal.specs.Journals.{Journal}
use Rattle.live_journal.specs.Loading.{fault_of, open_cause, opened, or_fault, Tells}
use Rattle.live_journal.specs.declared.fault.OpenFault.{OpenFault}
use Rattle.live_journal.specs.declared.fault.OpenFault.TheVariants as unopened
use Rattle.text_store.specs.declared.fault.StoreFault.{StoreFault}
use Rattle.text_store.specs.declared.fault.StoreFault.TheVariants as store_fault
use Rattle.text_store.specs.declared.image.Image.{Image}
use Rattle.text_store.specs.declared.store.Store.{Store}
use Rattle.text_store.specs.Edits.{whole_size}
use Rattle.text_store.specs.Files.{HaveShortNames, IsWritable, WhileOpened, file_in_use, fresh, opened_limit, uses_second}
use Rattle.text_store.specs.Image.{Half, NoImage, have_own_names, image, live}
use Rattle.text_store.specs.Refusals.{CreateRefused, ImageStays, OpenRefused, ReadTheSame, TellImage}
use Rattle.text_store.specs.Stores.{Holds, IsChosen, Keeps, Leads, Tell, Throughout, disks, image_beside, limit_of, placed, size_of}
use Rattle.text_store.proofs.Holding.{led}
use Rattle.desk.specs.Keeping.{are_writable, have_short_names}
use Rattle.desk.specs.Openings.{MakingRefused, OpeningRefused, load_refusal, store_refusal}

-- a journal that was opened is the one that was asked for
opened_by : (j : Journal) (o : Option OpenFault) (live : Journal) → or_fault j o ≡ Ok live → live ≡ j
opened_by j None live h = cc
opened_by j (Some f) live h = cc

pub opened_is : (j live : Journal) → opened j ≡ Ok live → live ≡ j
opened_is j live h = opened_by j (fault_of j.year j.text) live h

tells_by : (told : Option OpenFault) (j : Journal) (o : Option OpenFault) → IfSome told (λ f. or_fault j o ≡ Err f) → IfSome told (λ f. o ≡ Some f)
tells_by None j o h = tt
tells_by (Some f) j None h = cc
tells_by (Some f) j (Some x) h = cc

-- an error of opening tells why its text makes no journal
pub tells_of : (e : OpenFault) (j : Journal) → IfSome (open_cause e) (λ f. opened j ≡ Err f) → Tells e (fault_of j.year j.text)
tells_of e j h = tells_by (open_cause e) j (fault_of j.year j.text) h

both_of : (a b : Bool) → (a && b) ≡ true → (a ≡ true) × (b ≡ true)
both_of true b h = (refl, h)
both_of false b h = cc

short_names : (states : List Latest) → HaveShortNames states → have_short_names states ≡ true
short_names [] h = refl
short_names (s ∷ states) h = rw (short_names states h.1) (let few = h.0 in grind (arith, nat_tests))

names_short : (states : List Latest) → have_short_names states ≡ true → HaveShortNames states
names_short [] h = tt
names_short (s ∷ states) h =
    let both = both_of (ltb (length s.name) 4294967296) (have_short_names states) h in
    (let first = both.0 in grind (arith, nat_tests), names_short states both.1)

pub can_write : (image : Image) → IsWritable image → are_writable image.latest ≡ true
can_write image h =
    rw (short_names image.latest h.short, h.own) (let few = h.few in grind (arith, nat_tests))

pub writes : (image : Image) → are_writable image.latest ≡ true → IsWritable image
writes image h =
    let few = both_of (ltb (length image.latest) 4294967296) (have_short_names image.latest && have_own_names image.latest) h in
    let more = both_of (have_short_names image.latest) (have_own_names image.latest) few.1 in
    record { few = (let first = few.0 in grind (arith, nat_tests)); short = names_short image.latest more.0; own = more.1 }

pub moved : {D : Type 0} (g : Ghosts D) (old mid new : D × D) (first second : List ℕ) → mid ≡ new → (Tell g old → Throughout g old mid (WhileOpened g old first second)) → Tell g old → Throughout g old new (WhileOpened g old first second)
moved {D} g old mid new first second e h tell =
    subst (λ (d : D × D). Throughout g old d (WhileOpened g old first second)) e (h tell)

pub kept_moved : {D : Type 0} (g : Ghosts D) (old mid new : D × D) (ends : ℕ × ℕ) → mid ≡ new → Keeps g old mid ends → Keeps g old new ends
kept_moved {D} g old mid new ends e h = subst (λ (d : D × D). Keeps g old d ends) e h

-- ---- refusals

loads_by : (j : Journal) (o : Option OpenFault) (live : Journal) → or_fault j o ≡ Ok live → o ≡ None
loads_by j None live h = refl
loads_by j (Some f) live h = cc

-- a journal that was opened has a text that loads
pub loads : (j live : Journal) → opened j ≡ Ok live → fault_of j.year j.text ≡ None
loads j live h = loads_by j (fault_of j.year j.text) live h

-- a text that doesn't load makes no machine
pub unmade : {D : Type 0} (g : Ghosts D) (pair : D × D) (text : List ℕ) (limit : ℕ) (fault : OpenFault) → Tells fault (fault_of None text) → MakingRefused g pair pair text limit (load_refusal fault)
unmade g pair text limit unopened.Memory h = refl
unmade g pair text limit (unopened.Load fault) h = (h, refl)
unmade g pair text limit (unopened.TooLarge most size) h = (h, refl)

-- nor does a store that isn't made
pub unstored : {D : Type 0} (g : Ghosts D) (old new : D × D) (text : List ℕ) (limit : ℕ) (fault : StoreFault) → fault_of None text ≡ None
    → CreateRefused g old new (whole_size (fresh text)) limit fault → MakingRefused g old new text limit (store_refusal fault)
unstored g old new text limit store_fault.Memory loads h = h
unstored g old new text limit store_fault.DiskFault loads h = (loads, h)
unstored g old new text limit (store_fault.NotAStore at) loads h = (loads, h)
unstored g old new text limit (store_fault.Newer version) loads h = (loads, h)
unstored g old new text limit (store_fault.Full size most) loads h = (loads, h)
unstored g old new text limit (store_fault.Exists len) loads h = (loads, h)

some_same : (a b : List ℕ) → Some a ≡ Some b → a ≡ b
some_same a b h = cc

-- disks that read as they did show what they did
pub read_stays : {D : Type 0} (g : Ghosts D) (old new : D × D) → ReadTheSame g old new → ImageStays g old new
read_stays g old new same = λ f s a b. (f, s, same.0 ∙ a, same.1 ∙ b, refl)

-- a store that isn't opened is no machine
pub unread : {D : Type 0} (g : Ghosts D) (old new : D × D) (fault : StoreFault) → OpenRefused g old new fault → OpeningRefused g old new (store_refusal fault)
unread g old new store_fault.Memory h = tt
unread g old new store_fault.DiskFault h = h
unread g old new (store_fault.NotAStore at) h = h
unread g old new (store_fault.Newer version) h = h
unread g old new (store_fault.Full size limit) h = h
unread g old new (store_fault.Exists len) h = h

-- and it leaves the image, or the want of one
pub image_left : {D : Type 0} (g : Ghosts D) (old new : D × D) (fault : StoreFault) → OpenRefused g old new fault
    → (fault ≡ store_fault.DiskFault → ImageStays g old new) → ImageStays g old new
image_left g old new store_fault.Memory h stays = read_stays g old new h
image_left g old new store_fault.DiskFault h stays = stays refl
image_left g old new (store_fault.NotAStore at) h stays = read_stays g old new h.1
image_left g old new (store_fault.Newer version) h stays = read_stays g old new h.1
image_left g old new (store_fault.Full size limit) h stays = absurd h
image_left g old new (store_fault.Exists len) h stays = absurd h

-- ---- what the disks of a store read as

module _ {D : Type 0} (g : Ghosts D) where
  -- the file in use and the one beside it, by the places of both disks
  files_are : (b : Bool) (live spare : D) (file beside f s : List ℕ) → g.seen live ≡ Some file → g.seen spare ≡ Some beside
      → g.seen (placed b live spare).0 ≡ Some f → g.seen (placed b live spare).1 ≡ Some s → (f ≡ (placed b file beside).0) × (s ≡ (placed b file beside).1)
  files_are true live spare file beside f s x y a b = (some_same f beside (sym a ∙ y), some_same s file (sym b ∙ x))
  files_are false live spare file beside f s x y a b = (some_same f file (sym a ∙ x), some_same s beside (sym b ∙ y))

  -- two disks in their places tell the file in use and the one beside it
  both_told : (b : Bool) (live spare : D) (file beside : List ℕ) (shown : Image) → g.seen live ≡ Some file → g.seen spare ≡ Some beside
      → image_beside b file beside ≡ Ok shown → TellImage g (placed b live spare) (Ok shown)
  both_told true live spare file beside shown x y is = (beside, file, y, x, is)
  both_told false live spare file beside shown x y is = (file, beside, x, y, is)

  -- the disks of a store at rest tell files of its image
  pub held_image : (store : Store D g) (shown : Image) → Holds store shown → TellImage g (disks store) (Ok shown)
  held_image store shown holds =
      let file = holds.front ++ 0 ∷ [] in
      both_told store.in_second store.live.device store.spare file holds.beside shown holds.settled.rests.told holds.rests.told
      (led store.in_second store.generation file holds.beside shown holds.leads)

  -- an image that was opened stays
  pub opened_stays : (old new : D × D) (store : Store D g) (shown : Image)
      → ((f s : List ℕ) → g.seen old.0 ≡ Some f → g.seen old.1 ≡ Some s → (image f s ≡ Ok shown) × Holds store shown × (limit_of store ≡ opened_limit f s))
      → new ≡ disks store → ImageStays g old new
  opened_stays old new store shown opened is = λ f s a b.
      let m = opened f s a b in
      let held = subst (λ (found : Result Image NoImage). TellImage g (disks store) found) (sym m.0) (held_image store shown m.1) in
      subst (λ (d : D × D). TellImage g d (image f s)) (sym is) held

  second_used : (o : Option Half) (half : Half) (generation : ℕ) → IsChosen true generation o → half.generation ≡ generation → uses_second o (Some half) ≡ true
  second_used None half generation chosen is = refl
  second_used (Some other) half generation chosen is = ap (λ (n : ℕ). n == (other.generation + 1) % 3) is ∙ chosen

  first_used : (o : Option Half) (half : Half) (generation : ℕ) → IsChosen false generation o → half.generation ≡ generation → uses_second (Some half) o ≡ false
  first_used None half generation chosen is = refl
  first_used (Some other) half generation chosen is = ap (λ (n : ℕ). other.generation == (n + 1) % 3) is ∙ chosen

  in_use : (b : Bool) (generation : ℕ) (file beside : List ℕ) (shown : Image) → Leads b generation file beside shown → file_in_use (placed b file beside).0 (placed b file beside).1 ≡ file
  in_use true generation file beside shown leads =
      let second = ap (λ (o : Option Half). uses_second (live beside) o) leads.is_live ∙ second_used (live beside) leads.half generation leads.is_chosen leads.is_next in
      ap (λ (b : Bool). if b then file else beside) second
  in_use false generation file beside shown leads =
      let first = ap (λ (o : Option Half). uses_second o (live beside)) leads.is_live ∙ first_used (live beside) leads.half generation leads.is_chosen leads.is_next in
      ap (λ (b : Bool). if b then beside else file) first

  -- its size is the length of the file in use
  pub held_size : (store : Store D g) (shown : Image) → Holds store shown → (f s : List ℕ) → g.seen (disks store).0 ≡ Some f → g.seen (disks store).1 ≡ Some s
      → size_of store ≡ length (file_in_use f s)
  held_size store shown holds f s a b =
      let file = holds.front ++ 0 ∷ [] in
      let files = files_are store.in_second store.live.device store.spare file holds.beside f s holds.settled.rests.told holds.rests.told a b in
      let used : file_in_use f s ≡ file = (λ i. file_in_use (files.0 i) (files.1 i)) ∙ in_use store.in_second store.generation file holds.beside shown holds.leads in
      let long : length file ≡ size_of store = omega (arith, length-append holds.front (0 ∷ []), holds.settled.place) in
      sym (ap length used ∙ long)

-- the text of a store that was opened makes no machine
pub unloaded_store : {D : Type 0} (g : Ghosts D) (old new : D × D) (store : Store D g) (shown : Image) (fault : OpenFault)
    → ((f s : List ℕ) → g.seen old.0 ≡ Some f → g.seen old.1 ≡ Some s → (image f s ≡ Ok shown) × Holds store shown × (limit_of store ≡ opened_limit f s))
    → Tells fault (fault_of None shown.text) → OpeningRefused g old new (load_refusal fault)
unloaded_store g old new store shown unopened.Memory opened told = tt
unloaded_store g old new store shown (unopened.Load fault) opened told = λ f s a b. (shown, (opened f s a b).0, told)
unloaded_store g old new store shown (unopened.TooLarge limit size) opened told = λ f s a b. (shown, (opened f s a b).0, told)
