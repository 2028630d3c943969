-- The text of a store among the files of a shelf.
use Rattle.std.proofs.Common.{◌≡◌, inl, inr, ℕ, List, Result, Ok, Err, IfSome, refl, ap, sym, ◌∙◌, subst}
use Rattle.hl_base.specs.declared.disk.Disk.{Ghosts as Disks}
use Rattle.hl_base.specs.declared.shelf.Shelf.{Ghosts as Shelves}
use Rattle.refusals.specs.Outcomes.{Outcome, refused}
use Rattle.refusals.specs.Refusing.{Refuses}
use Rattle.refusals.specs.declared.refusal.Refusal.{Refusal}
use Rattle.refusals.specs.declared.refusal.Refusal.TheVariants as refusal
use Rattle.store_text.specs.Reading.{ReadsStore}
use Rattle.store_text.specs.Refusals.{cause_of, line_of, status_of, text_in as text_of_store}
use Rattle.store_text.specs.Shelved.{image_under}
use Rattle.store_text.specs.declared.refusal.StoreRefusal.{StoreRefusal}
use Rattle.store_text.specs.declared.refusal.StoreRefusal.TheVariants as store
use Rattle.command_line.specs.Answers.{FindsText, IsOfStore, IsTextStatus}
use Rattle.command_line.specs.Sources.{text_stored}
use Rattle.command_line.specs.Stored.{RefusesStore, StoreText}

abbrev failed : Refusal → Result (List ℕ) Refusal
failed x = Err x

abbrev refusing : Outcome → Result (List ℕ) Outcome
refusing outcome = Err outcome

abbrev told_of : Refusal → Result (List ℕ) Refusal → Refusal
told_of y (Ok text) = y
told_of y (Err z) = z

abbrev untold : StoreRefusal → Result (List ℕ) StoreRefusal
untold r = Err r

-- ---- a text that was read

stored_found : (name text : List ℕ) (told : Result (List ℕ) StoreRefusal) → told ≡ Ok text → FindsText (Ok text) (text_stored name told)
stored_found name text told e = ap (λ (t : Result (List ℕ) StoreRefusal). text_stored name t) e

-- ---- a store that was refused

-- its line is told
line_found : (name : List ℕ) (told : Result (List ℕ) StoreRefusal) (r : StoreRefusal) (x : Refusal) → told ≡ Err r → Refuses x (status_of r) (line_of name r)
    → FindsText (Err x) (text_stored name told)
line_found name told r (refusal.Line status line) e k =
    ap (λ (t : Result (List ℕ) StoreRefusal). text_stored name t) e
    ∙ ap (λ (n : ℕ). refusing (refused n (line_of name r))) (sym k.0)
    ∙ ap (λ (l : List ℕ). refusing (refused status l)) (sym k.1)
line_found name told r (refusal.Pattern what line) e k = absurd k
line_found name told r refusal.ReadFault e k = tt
line_found name told r refusal.DiskFault e k = tt
line_found name told r refusal.Memory e k = tt

free_found : (told : Result (List ℕ) Outcome) (x y : Refusal) → x ≡ y → FindsText (Err y) told → FindsText (Err x) told
free_found told x y e h =
    let F : Refusal → Type 0 = λ z. FindsText (Err z) told in
    subst F (sym e) h

unread_found : (name : List ℕ) (told : Result (List ℕ) StoreRefusal) (r : StoreRefusal) (x : Refusal) → IfSome (cause_of r) (λ f. told ≡ Err f) → RefusesStore x name r
    → FindsText (Err x) (text_stored name told)
unread_found name told store.Absent x e k = line_found name told store.Absent x e k
unread_found name told (store.NotAStore at) x e k = line_found name told (store.NotAStore at) x e k
unread_found name told (store.Newer version) x e k = line_found name told (store.Newer version) x e k
unread_found name told (store.Exists len) x e k = line_found name told (store.Exists len) x e k
unread_found name told (store.Full size limit) x e k = line_found name told (store.Full size limit) x e k
unread_found name told store.ReadFault x e k = free_found (text_stored name told) x refusal.ReadFault k tt
unread_found name told store.DiskFault x e k = free_found (text_stored name told) x refusal.DiskFault k tt
unread_found name told store.Memory x e k = free_found (text_stored name told) x refusal.Memory k tt

-- and has a status of its kind
line_kind : (status : ℕ) (line : List ℕ) (x : Refusal) → IsTextStatus status → Refuses x status line → IsOfStore x
line_kind status line (refusal.Line own said) h k = subst (λ (n : ℕ). IsTextStatus n) (sym k.0) h
line_kind status line (refusal.Pattern what said) h k = k
line_kind status line refusal.ReadFault h k = tt
line_kind status line refusal.DiskFault h k = tt
line_kind status line refusal.Memory h k = tt

free_kind : (x y : Refusal) → x ≡ y → IsOfStore y → IsOfStore x
free_kind x y e h = subst (λ (z : Refusal). IsOfStore z) (sym e) h

store_kind : (name : List ℕ) (r : StoreRefusal) (x : Refusal) → RefusesStore x name r → IsOfStore x
store_kind name store.Absent x k = line_kind 8 (line_of name store.Absent) x (inr (inr refl)) k
store_kind name (store.NotAStore at) x k = line_kind 8 (line_of name (store.NotAStore at)) x (inr (inr refl)) k
store_kind name (store.Newer version) x k = line_kind 8 (line_of name (store.Newer version)) x (inr (inr refl)) k
store_kind name (store.Exists len) x k = line_kind 8 (line_of name (store.Exists len)) x (inr (inr refl)) k
store_kind name (store.Full size limit) x k = line_kind 7 (line_of name (store.Full size limit)) x (inr (inl refl)) k
store_kind name store.ReadFault x k = free_kind x refusal.ReadFault k tt
store_kind name store.DiskFault x k = free_kind x refusal.DiskFault k tt
store_kind name store.Memory x k = free_kind x refusal.Memory k tt

-- a line is no failed call
line_read : (status : ℕ) (line : List ℕ) (x : Refusal) → Refuses x status line → failed x ≡ failed refusal.ReadFault → ⊥
line_read status line (refusal.Line own said) k e = cc
line_read status line (refusal.Pattern what said) k e = k
line_read status line refusal.ReadFault k e = k
line_read status line refusal.DiskFault k e = k
line_read status line refusal.Memory k e = cc

line_disk : (status : ℕ) (line : List ℕ) (x : Refusal) → Refuses x status line → failed x ≡ failed refusal.DiskFault → ⊥
line_disk status line (refusal.Line own said) k e = cc
line_disk status line (refusal.Pattern what said) k e = k
line_disk status line refusal.ReadFault k e = k
line_disk status line refusal.DiskFault k e = k
line_disk status line refusal.Memory k e = cc

other_fault : (x y z : Refusal) → x ≡ y → failed x ≡ failed z → (y ≡ z → ⊥) → ⊥
other_fault x y z is e apart = apart (sym is ∙ ap (λ (r : Result (List ℕ) Refusal). told_of x r) e)

read_is : (name : List ℕ) (r : StoreRefusal) (x : Refusal) → RefusesStore x name r → failed x ≡ failed refusal.ReadFault → untold r ≡ untold store.ReadFault
read_is name store.Absent x k e = absurd (line_read 8 (line_of name store.Absent) x k e)
read_is name (store.NotAStore at) x k e = absurd (line_read 8 (line_of name (store.NotAStore at)) x k e)
read_is name (store.Newer version) x k e = absurd (line_read 8 (line_of name (store.Newer version)) x k e)
read_is name (store.Exists len) x k e = absurd (line_read 8 (line_of name (store.Exists len)) x k e)
read_is name (store.Full size limit) x k e = absurd (line_read 7 (line_of name (store.Full size limit)) x k e)
read_is name store.ReadFault x k e = refl
read_is name store.DiskFault x k e = absurd (other_fault x refusal.DiskFault refusal.ReadFault k e (λ h. cc))
read_is name store.Memory x k e = absurd (other_fault x refusal.Memory refusal.ReadFault k e (λ h. cc))

disk_is : (name : List ℕ) (r : StoreRefusal) (x : Refusal) → RefusesStore x name r → failed x ≡ failed refusal.DiskFault → untold r ≡ untold store.DiskFault
disk_is name store.Absent x k e = absurd (line_disk 8 (line_of name store.Absent) x k e)
disk_is name (store.NotAStore at) x k e = absurd (line_disk 8 (line_of name (store.NotAStore at)) x k e)
disk_is name (store.Newer version) x k e = absurd (line_disk 8 (line_of name (store.Newer version)) x k e)
disk_is name (store.Exists len) x k e = absurd (line_disk 8 (line_of name (store.Exists len)) x k e)
disk_is name (store.Full size limit) x k e = absurd (line_disk 7 (line_of name (store.Full size limit)) x k e)
disk_is name store.ReadFault x k e = absurd (other_fault x refusal.ReadFault refusal.DiskFault k e (λ h. cc))
disk_is name store.DiskFault x k e = refl
disk_is name store.Memory x k e = absurd (other_fault x refusal.Memory refusal.DiskFault k e (λ h. cc))

-- ---- by the call

module _ {S D : Type 0} (s : Shelves S D) (g : Disks D) (name : List ℕ) (old new : S) where
  pub loads_text : (text : List ℕ) → ReadsStore s g name old new (Ok text) → StoreText s name old new (Ok text)
  loads_text text reads = record {
    found = λ told. stored_found name text (text_of_store (image_under (s.file old) name)) (reads.text told);
    kind = tt;
    rose = λ e. cc;
    disk_rose = λ e. cc;
    others = reads.others;
    image = reads.kept;
    sound = λ k e. cc;
    goes_on = record { later = reads.later; tells = reads.tells; sound = λ k. (reads.sound k).1 };
  }

  pub loads_refused : (r : StoreRefusal) (x : Refusal) → ReadsStore s g name old new (Err r) → RefusesStore x name r → StoreText s name old new (Err x)
  loads_refused r x reads k = record {
    found = λ told. unread_found name (text_of_store (image_under (s.file old) name)) r x (reads.text told) k;
    kind = store_kind name r x k;
    rose = λ e. reads.read_fault (read_is name r x k e);
    disk_rose = λ e. reads.disk_fault (disk_is name r x k e);
    others = reads.others;
    image = reads.kept;
    sound = λ sound e. (reads.sound sound).0 (read_is name r x k e);
    goes_on = record { later = reads.later; tells = reads.tells; sound = λ sound. (reads.sound sound).1 };
  }
