-- A store's records beside a task that was done in part.
use Rattle.std.proofs.Common.{◌≡◌, inl, ℕ, ◌≤◌, List, [], ◌∷◌, ◌++◌, length, arith, Bool, true, false, IsTrue, refl, sym, ◌∙◌, ap, subst}
use Rattle.std.proofs.lemmas.List.{take_all}
use Rattle.hl_base.specs.Disk.{Cut, Becomes, Follows, LeavesOnly}
use Rattle.hl_base.specs.declared.disk.Disk.{Ghosts}
use Rattle.text_store.specs.declared.half.Half.{Half}
use Rattle.text_store.specs.declared.image.Image.{Image}
use Rattle.text_store.specs.declared.store.Store.{Store}
use Rattle.text_store.specs.Entries.{Entry}
use Rattle.text_store.specs.Rest.{AfterStep, IsAt, IsReadOn, IsRewritten, RestsAs, StandsIn}
use Rattle.text_store.specs.Settled.{IsSettled, IsUnsettled}
use Rattle.text_store.specs.Standing.{IsPartDone, Stand, StandFor, Task, put, rewrite}
use Rattle.text_store.specs.Stores.{disks, Holds, Leaves, Moves, Tell, Throughout, placed}
use Rattle.text_store.proofs.Both.{Beside, leaves_of, moves_live, moves_spare, once, tell_live, tell_spare}
use Rattle.text_store.proofs.Framing.{left_beside}
use Rattle.text_store.proofs.Holding.{leads_on}
use Rattle.text_store.proofs.Rewriting.{rewritten_front}
use Rattle.text_store.proofs.Resting.{outcome, steps_on}

-- a test that is both
pub clash : {X : Type 0} → (b : Bool) → b ≡ true → b ≡ false → X
clash b is not = absurd (impossible (sym is ∙ not))
  where
    impossible : true ≡ false → ⊥
    impossible e = cc

pub stand_at : (in_second : Bool) (P Q : List ℕ → Type 0) (file beside : List ℕ) → P file → Q beside → Beside in_second (Stand in_second P Q) file beside
stand_at true P Q file beside p q = record { file = file; beside = beside; of_file = p; of_beside = q; places = refl }
stand_at false P Q file beside p q = record { file = file; beside = beside; of_file = p; of_beside = q; places = refl }

-- a file that is as it was, is written anew in part
pub not_begun : (old head entry : List ℕ) → IsRewritten old head entry old
not_begun old head entry = inl (length old, sym (take_all (length old) old (omega arith)))

-- what a cut leaves of a file that is being written anew is such a file
pub rewritten_cut : (old head entry : List ℕ) (n : ℕ) → length head ≡ 32 → (d c : List ℕ) → IsRewritten old head entry d → Cut n d c → IsRewritten old head entry c
rewritten_cut old head entry n size d c is cut =
    subst (λ (f : List ℕ). IsRewritten old head entry f) cut.front (rewritten_front old head entry d (length c) size is)

-- ---- a store at rest

module _ {D : Type 0} {g : Ghosts D} (store : Store D g) (shown : Image) (held : Holds store shown) where
  abbrev used : List ℕ
  used = held.front ++ 0 ∷ []

  pub still : Tell g (disks store) → Leaves g (disks store) (Stand store.in_second (λ file. file ≡ used) (λ file. file ≡ held.beside))
  still tell =
      leaves_of g store.in_second store.live.device store.spare (λ c. c ≡ used) (λ c. c ≡ held.beside) (Stand store.in_second (λ file. file ≡ used) (λ file. file ≡ held.beside))
      (held.settled.rests.durable (tell_live g store.in_second store.live.device store.spare tell)) (held.rests.durable (tell_spare g store.in_second store.live.device store.spare tell))
      (λ file beside is is_beside. stand_at store.in_second (λ f. f ≡ used) (λ f. f ≡ held.beside) file beside is is_beside)

  -- before an entry is put there
  pub still_put : (entry : List ℕ) → Tell g (disks store) → Leaves g (disks store) (StandFor store.in_second held.front (put entry held.beside))
  still_put entry tell =
      leaves_of g store.in_second store.live.device store.spare (λ c. c ≡ used) (λ c. c ≡ held.beside) (StandFor store.in_second held.front (put entry held.beside))
      (held.settled.rests.durable (tell_live g store.in_second store.live.device store.spare tell)) (held.rests.durable (tell_spare g store.in_second store.live.device store.spare tell))
      (λ file beside is is_beside. stand_at store.in_second (IsAt held.front entry) (λ f. f ≡ held.beside) file beside (inl ([], is)) is_beside)

  -- before the other file is written anew
  pub still_rewrite : (head entry : List ℕ) → Tell g (disks store) → Leaves g (disks store) (StandFor store.in_second held.front (rewrite held.beside head entry))
  still_rewrite head entry tell =
      leaves_of g store.in_second store.live.device store.spare (λ c. c ≡ used) (λ c. c ≡ held.beside) (StandFor store.in_second held.front (rewrite held.beside head entry))
      (held.settled.rests.durable (tell_live g store.in_second store.live.device store.spare tell)) (held.rests.durable (tell_spare g store.in_second store.live.device store.spare tell))
      (λ file beside is is_beside. stand_at store.in_second (λ f. f ≡ used) (IsRewritten held.beside head entry) file beside is
      (subst (λ (f : List ℕ). IsRewritten held.beside head entry f) (sym is_beside) (not_begun held.beside head entry)))

  module _ (counts_now : (disk : D) (t : ℕ) (c : List ℕ) → t ≤ g.moment disk → g.may_leave disk c → g.left_since disk t c) (tell : Tell g (disks store)) where
    pub putting_on : (entry : List ℕ) (after : D) → (IsTrue (g.tells_crashes store.live.device) → LeavesOnly g.moment g.left_since store.live.device after (IsAt held.front entry))
        → Throughout g (disks store) (placed store.in_second after store.spare) (StandFor store.in_second held.front (put entry held.beside))
    putting_on entry after run =
        once g counts_now (disks store) (placed store.in_second after store.spare) (StandFor store.in_second held.front (put entry held.beside))
        (moves_live g store.in_second store.live.device after store.spare (IsAt held.front entry) (λ c. c ≡ held.beside) (StandFor store.in_second held.front (put entry held.beside))
        (run (tell_live g store.in_second store.live.device store.spare tell)) (held.rests.durable (tell_spare g store.in_second store.live.device store.spare tell))
        (λ file beside at is_beside. stand_at store.in_second (IsAt held.front entry) (λ f. f ≡ held.beside) file beside at is_beside))

    pub rewriting_on : (head entry : List ℕ) (after : D) → (IsTrue (g.tells_crashes store.spare) → LeavesOnly g.moment g.left_since store.spare after (IsRewritten held.beside head entry))
        → Throughout g (disks store) (placed store.in_second store.live.device after) (StandFor store.in_second held.front (rewrite held.beside head entry))
    rewriting_on head entry after run =
        once g counts_now (disks store) (placed store.in_second store.live.device after) (StandFor store.in_second held.front (rewrite held.beside head entry))
        (moves_spare g store.in_second store.live.device store.spare after (λ c. c ≡ used) (IsRewritten held.beside head entry) (StandFor store.in_second held.front (rewrite held.beside head entry))
        (run (tell_spare g store.in_second store.live.device store.spare tell)) (held.settled.rests.durable (tell_live g store.in_second store.live.device store.spare tell))
        (λ file beside is rewritten. stand_at store.in_second (λ f. f ≡ used) (IsRewritten held.beside head entry) file beside is rewritten))

    pub reading_on : (after : D) → IsReadOn g store.live.device after
        → Throughout g (placed store.in_second store.live.device store.spare) (placed store.in_second after store.spare) (Stand store.in_second (λ file. file ≡ used) (λ file. file ≡ held.beside))
    reading_on after reads =
        once g counts_now (placed store.in_second store.live.device store.spare) (placed store.in_second after store.spare) (Stand store.in_second (λ file. file ≡ used) (λ file. file ≡ held.beside))
        (moves_live g store.in_second store.live.device after store.spare (g.may_leave store.live.device) (g.may_leave store.spare)
        (Stand store.in_second (λ file. file ≡ used) (λ file. file ≡ held.beside)) reads.any_moment (λ c left. left)
        (left_beside g store.in_second store.live.device store.spare (Stand store.in_second (λ file. file ≡ used) (λ file. file ≡ held.beside)) (still tell)))

-- ---- a store of which a repair is due

module _ {D : Type 0} {g : Ghosts D} (old new : Store D g) (front : List ℕ) (entries : List Entry) (shown : Image) where
  -- the other file is emptied
  module _ (is_torn : old.is_torn ≡ true) (same_live : new.live ≡ old.live) where
    pub emptied_records : (task : Task) → IsPartDone old front entries shown task → IsSettled g.seen g.tells_crashes g.may_leave new.live front entries
    emptied_records (put entry beside) part = clash old.is_torn is_torn part.is_due.1
    emptied_records (rewrite before head entry) part =
        subst (λ (h : Half D g). IsSettled g.seen g.tells_crashes g.may_leave h front entries) (sym same_live) part.settled

    pub not_emptied_records : (task : Task) → IsPartDone old front entries shown task → new.is_torn ≡ true → Becomes (Cut 0) (g.seen old.spare) (g.seen new.spare)
        → Follows (Cut 0) (g.may_leave old.spare) (g.may_leave new.spare) → g.tells_crashes new.spare ≡ g.tells_crashes old.spare
        → new.in_second ≡ old.in_second → new.generation ≡ old.generation → IsPartDone new front entries shown task
    not_emptied_records (put entry beside) part due partial crash tells same_place same_number = clash old.is_torn is_torn part.is_due.1
    not_emptied_records (rewrite before head entry) part due partial crash tells same_place same_number = record {
      is_due = (ap (λ (h : Half D g). h.is_torn) same_live ∙ part.is_due.0, due);
      settled = subst (λ (h : Half D g). IsSettled g.seen g.tells_crashes g.may_leave h front entries) (sym same_live) part.settled;
      stands = steps_on g.seen g.tells_crashes g.may_leave old.spare new.spare (IsRewritten before head entry) (IsRewritten before head entry) (Cut 0) part.stands partial crash tells
          (rewritten_cut before head entry 0 part.size);
      leads = leads_on old.in_second new.in_second old.generation new.generation (front ++ 0 ∷ []) before shown same_place same_number part.leads;
      size = part.size;
    }

    pub emptying_records : (task : Task) → IsPartDone old front entries shown task
        → ((disk : D) (t : ℕ) (c : List ℕ) → t ≤ g.moment disk → g.may_leave disk c → g.left_since disk t c) → Tell g (disks old)
        → new.in_second ≡ old.in_second → LeavesOnly g.moment g.left_since old.spare new.spare (AfterStep (Cut 0) (g.may_leave old.spare))
        → Throughout g (disks old) (disks new) (StandFor old.in_second front task)
    emptying_records (put entry beside) part counts_now tell same_place run = clash old.is_torn is_torn part.is_due.1
    emptying_records (rewrite before head entry) part counts_now tell same_place run =
        let P : List ℕ → List ℕ → Type 0 = StandFor old.in_second front (rewrite before head entry) in
        let at : disks new ≡ placed old.in_second old.live.device new.spare =
        subst (λ (b : Bool). disks new ≡ placed b old.live.device new.spare) same_place
        (ap (λ (h : Half D g). placed new.in_second h.device new.spare) same_live) in
        once g counts_now (disks old) (disks new) P
        (subst (λ (d : D × D). Moves g (disks old) d P) (sym at)
        (moves_spare g old.in_second old.live.device old.spare new.spare (λ c. c ≡ front ++ 0 ∷ []) (AfterStep (Cut 0) (g.may_leave old.spare)) P run
        (part.settled.rests.durable (tell_live g old.in_second old.live.device old.spare tell))
        (λ file aside is after. stand_at old.in_second (λ f. f ≡ front ++ 0 ∷ []) (IsRewritten before head entry) file aside is
        (outcome g.seen g.tells_crashes g.may_leave old.spare (IsRewritten before head entry) (IsRewritten before head entry) (Cut 0) part.stands
        (tell_spare g old.in_second old.live.device old.spare tell) (rewritten_cut before head entry 0 part.size) aside after))))

  -- the half in use is mended
  module _ (not_beside : old.is_torn ≡ false) (is_torn : old.live.is_torn ≡ true) (same_spare : new.spare ≡ old.spare) where
    pub not_mended_records : ((front entry : List ℕ) (entries : List Entry) → IsUnsettled g.seen g.tells_crashes g.may_leave old.live front entries entry
        → IsUnsettled g.seen g.tells_crashes g.may_leave new.live front entries entry) → (new.live.is_torn ≡ true) × (new.is_torn ≡ false) → new.in_second ≡ old.in_second → new.generation ≡ old.generation
        → (task : Task) → IsPartDone old front entries shown task → IsPartDone new front entries shown task
    not_mended_records unsettled due same_place same_number (put entry beside) part = record {
      is_due = due;
      unsettled = unsettled front entry entries part.unsettled;
      rests = subst (λ (d : D). RestsAs g.seen g.tells_crashes g.may_leave d beside) (sym same_spare) part.rests;
      leads = leads_on old.in_second new.in_second old.generation new.generation (front ++ 0 ∷ []) beside shown same_place same_number part.leads;
    }
    not_mended_records unsettled due same_place same_number (rewrite before head entry) part = clash old.live.is_torn is_torn part.is_due.0

module _ {D : Type 0} {g : Ghosts D} (old : Store D g) (front : List ℕ) (entries : List Entry) (shown : Image) (is_torn : old.live.is_torn ≡ true) where
  pub mended_records : (half : Half D g) → ((front entry : List ℕ) (entries : List Entry) → IsUnsettled g.seen g.tells_crashes g.may_leave old.live front entries entry
      → IsSettled g.seen g.tells_crashes g.may_leave half front entries) → (task : Task) → IsPartDone old front entries shown task
      → IsSettled g.seen g.tells_crashes g.may_leave half front entries
  mended_records half settles (put entry beside) part = settles front entry entries part.unsettled
  mended_records half settles (rewrite before head entry) part = clash old.live.is_torn is_torn part.is_due.0

  module _ (next : D) (counts_now : (disk : D) (t : ℕ) (c : List ℕ) → t ≤ g.moment disk → g.may_leave disk c → g.left_since disk t c) (tell : Tell g (disks old)) where
    pub mending_records : ((front entry : List ℕ) → length front ≡ old.live.gate → StandsIn g.seen g.tells_crashes g.may_leave old.live.device (IsAt front entry)
        → IsTrue (g.tells_crashes old.live.device) → LeavesOnly g.moment g.left_since old.live.device next (IsAt front entry))
        → (task : Task) → IsPartDone old front entries shown task → Throughout g (disks old) (placed old.in_second next old.spare) (StandFor old.in_second front task)
    mending_records run (put entry beside) part =
        let P : List ℕ → List ℕ → Type 0 = StandFor old.in_second front (put entry beside) in
        once g counts_now (disks old) (placed old.in_second next old.spare) P
        (moves_live g old.in_second old.live.device next old.spare (IsAt front entry) (λ c. c ≡ beside) P
        (run front entry part.unsettled.place part.unsettled.stands (tell_live g old.in_second old.live.device old.spare tell))
        (part.rests.durable (tell_spare g old.in_second old.live.device old.spare tell))
        (λ file aside at is. stand_at old.in_second (IsAt front entry) (λ f. f ≡ beside) file aside at is))
    mending_records run (rewrite before head entry) part = clash old.live.is_torn is_torn part.is_due.0

-- a repair is due of one file, so none of neither
pub none_is_due : {D X : Type 0} {g : Ghosts D} (store : Store D g) (front : List ℕ) (entries : List Entry) (shown : Image) (task : Task) → store.is_torn ≡ false → store.live.is_torn ≡ false
    → IsPartDone store front entries shown task → X
none_is_due store front entries shown (put entry beside) aside in_use part = clash store.live.is_torn part.is_due.0 in_use
none_is_due store front entries shown (rewrite before head entry) aside in_use part = clash store.is_torn part.is_due.1 aside
