-- What following a source comes to, by what was taken and what came back.
use Rattle.std.proofs.Common.{◌≡◌, ◌≢◌, ◌⊎◌, inl, inr, ⊎_elim, ℕ, true, List, Option, None, Some, Result, Ok, Err, IfOk, IfErr, IfSome, OnOk, IsTrue, refl, sym, ◌∙◌, ap, subst, arith}
use Rattle.hl_base.specs.Causes.{Rose}
use Rattle.hl_base.specs.declared.disk.Disk.{Ghosts as Disks}
use Rattle.hl_base.specs.declared.outside.Source.{Ghosts as Sources}
use Rattle.hl_base.specs.declared.shelf.Shelf.{Ghosts as Shelves}
use Rattle.text_store.specs.declared.change.Change.{Change}
use Rattle.text_store.specs.declared.image.Image.{Image}
use Rattle.text_store.specs.Image.{NoImage, image}
use Rattle.text_store.specs.Stores.{Leaves, Tell}
use Rattle.follower.specs.declared.fault.FrameFault.TheVariants as frame_fault
use Rattle.follow_commands.specs.Genuine.{HasFrames}
use Rattle.follow_commands.specs.Whole.{HasAll}
use Rattle.store_text.specs.Lending.{AreTaken, AreUntaken, CameBack, ComesBack, IsTaken, IsUntaken}
use Rattle.store_text.specs.Reading.{ReadAs}
use Rattle.store_text.specs.Refusals.{IsOfTaking}
use Rattle.store_text.specs.Shelved.{image_in, image_under, or_empty, second_name}
use Rattle.store_text.specs.declared.refusal.StoreRefusal.{StoreRefusal}
use Rattle.store_text.specs.declared.refusal.StoreRefusal.TheVariants as store_refusal
use Rattle.store_text.proofs.LendingLaws.{apart, back_faults, back_first, back_others, back_second, back_sound, back_tells, both_tell, first_reads, later_faults, left_first, left_second, made_reads, never_absent, one_failed, out_faults, out_file, out_sound, out_tells, rose_back, second_reads, told_on}
use Rattle.store_following.specs.Following.{FollowsStore, HasAfter, HasEarlier, HasLater, HasLed, IsKept, IsNew}
use Rattle.store_following.specs.Ready.{IsFailed}
use Rattle.store_following.specs.Replicas.{FollowsDisks}
use Rattle.store_following.specs.declared.refusal.FollowRefusal.{FollowRefusal}
use Rattle.store_following.specs.declared.refusal.FollowRefusal.TheVariants as refusal
use Rattle.store_following.specs.declared.refusal.Followed.{Followed}
use Rattle.store_following.proofs.Completing.{follows_complete}
use Rattle.store_following.proofs.Ending.{AtEnd, Ended, IsEarlier, IsReached, follows_ends, follows_failed, follows_rose, follows_taken, not_both, refused, stands_reads, store_unread}
use Rattle.store_following.proofs.LedLaws.{one_rests, refused_is}

abbrev pub untaken_as : StoreRefusal → Result Followed FollowRefusal
untaken_as r = refused (refusal.Store r)

untaken_is : (a b : StoreRefusal) → untaken_as a ≡ untaken_as b → a ≡ b
untaken_is a b e = ap of (refused_is (refusal.Store a) (refusal.Store b) e)
  where
    of : FollowRefusal → StoreRefusal
    of (refusal.Store r) = r
    of (refusal.Unread f) = a
    of refusal.NoSnapshot = a
    of refusal.Payload = a

memory_read : untaken_as store_refusal.Memory ≡ untaken_as store_refusal.ReadFault → ⊥
memory_read e = let other : store_refusal.Memory ≡ store_refusal.ReadFault = untaken_is store_refusal.Memory store_refusal.ReadFault e in cc

memory_disk : untaken_as store_refusal.Memory ≡ untaken_as store_refusal.DiskFault → ⊥
memory_disk e = let other : store_refusal.Memory ≡ store_refusal.DiskFault = untaken_is store_refusal.Memory store_refusal.DiskFault e in cc

-- a take wasn't refused for a disk's own fault
no_disk : (r : StoreRefusal) → IsOfTaking r → r ≢ store_refusal.DiskFault
no_disk r kind e = subst (λ (x : StoreRefusal). IsOfTaking x) e kind

-- a disk that is made where it is absent is refused only for a failed call or want of memory
take_failed : (r : StoreRefusal) → IsOfTaking r → (r ≡ store_refusal.Absent → ⊥) → IsFailed (refusal.Store r)
take_failed store_refusal.ReadFault kind there = tt
take_failed store_refusal.Memory kind there = tt
take_failed store_refusal.Absent kind there = absurd (there refl)
take_failed store_refusal.DiskFault kind there = tt
take_failed (store_refusal.NotAStore at) kind there = absurd kind
take_failed (store_refusal.Newer version) kind there = absurd kind
take_failed (store_refusal.Exists len) kind there = absurd kind
take_failed (store_refusal.Full size limit) kind there = absurd kind

if_ok : {P : Followed → Type 0} (result : Result Followed FollowRefusal) → ((f : Followed) → result ≡ Ok f → P f) → IfOk result P
if_ok (Ok f) from = from f refl
if_ok (Err r) from = tt

if_err : {P : FollowRefusal → Type 0} (result : Result Followed FollowRefusal) → ((r : FollowRefusal) → result ≡ refused r → P r) → IfErr result P
if_err (Ok f) from = tt
if_err (Err r) from = from r refl

on_ok : {P : Type 0} (result : Result Followed FollowRefusal) → ((f : Followed) → result ≡ Ok f → P) → OnOk result P
on_ok (Ok f) from = from f refl
on_ok (Err r) from = tt

-- a refusal without a failed call isn't one of a disk
kept_unlike : (r : FollowRefusal) → IsKept r → refused r ≢ refused (refusal.Store store_refusal.DiskFault)
kept_unlike r kept e = subst (λ (x : FollowRefusal). IsKept x) (refused_is r (refusal.Store store_refusal.DiskFault) e) kept

-- what a replica shows, by its two files
under_files : (file : List ℕ → Option (List ℕ)) (name first second : List ℕ) (found : Result Image NoImage) → file name ≡ Some first → or_empty (file (second_name name)) ≡ second
    → image first second ≡ found → image_under file name ≡ Some found
under_files file name first second found is_first is_second is =
    ap (λ (o : Option (List ℕ)). image_in o (file (second_name name))) is_first
    ∙ ap (λ (l : List ℕ). Some (image first l)) is_second
    ∙ ap (λ (x : Result Image NoImage). Some x) is

-- of files that were told
files_under : (file : List ℕ → Option (List ℕ)) (name : List ℕ) (shown : Image) → image_under file name ≡ Some (Ok shown)
    → image (or_empty (file name)) (or_empty (file (second_name name))) ≡ Ok shown
files_under file name shown is = of_file (file name) is
  where
    of_file : (o : Option (List ℕ)) → image_in o (file (second_name name)) ≡ Some (Ok shown) → image (or_empty o) (or_empty (file (second_name name))) ≡ Ok shown
    of_file None e = absurd (none_some e)
      where
        IsThere : Option (Result Image NoImage) → Type 0
        IsThere None = ⊥
        IsThere (Some x) = Unit {0}

        none_some : image_in None (file (second_name name)) ≡ Some (Ok shown) → ⊥
        none_some e = subst IsThere (sym e) tt
    of_file (Some f) e = ap of e
      where
        of : Option (Result Image NoImage) → Result Image NoImage
        of None = Ok shown
        of (Some x) = x

-- files that are as they were
module _ (old new : List ℕ → Option (List ℕ)) (name : List ℕ) where
  still_new : or_empty (new name) ≡ or_empty (old name) → or_empty (new (second_name name)) ≡ or_empty (old (second_name name)) → IsNew old name → IsNew new name
  still_new first second is_new = (first ∙ is_new.0, second ∙ is_new.1)

  still_after : (start : Image) (changes : List Change) (n : ℕ) → new name ≡ Some (or_empty (old name)) → or_empty (new (second_name name)) ≡ or_empty (old (second_name name))
      → HasAfter start changes old name n → HasLater start changes new name n
  still_after start changes n first second has = record {
    count = n;
    later = omega arith;
    has = record {
      shown = has.shown;
      under = under_files new name (or_empty (old name)) (or_empty (old (second_name name))) (Ok has.shown) first second (files_under old name has.shown has.under);
      after = has.after;
    };
  }

  same_after : (start : Image) (changes : List Change) (n : ℕ) → new name ≡ old name → new (second_name name) ≡ old (second_name name)
      → HasAfter start changes old name n → HasLater start changes new name n
  same_after start changes n first second has = record {
    count = n;
    later = omega arith;
    has = record { shown = has.shown; under = (λ i. image_in (first i) (second i)) ∙ has.under; after = has.after };
  }

reached_led : (start : Image) (changes : List Change) (file : List ℕ → Option (List ℕ)) (name : List ℕ) (n : ℕ) (f : Followed) (end : Image)
    → image_under file name ≡ Some (Ok end) → end.revision ≡ f.revision → IsReached start changes end n → HasLed start changes file name n f
reached_led start changes file name n f end under revision reached = record {
  count = reached.count;
  later = reached.later;
  revision = sym revision ∙ reached.revision;
  has = record { shown = end; under = under; after = reached.after };
}

module _ {J S D : Type 0} (i : Sources J) (s : Shelves S D) (g : Disks D) (name : List ℕ) (limit : ℕ) (source : J) (old : S) where
  abbrev pub beside : List ℕ
  beside = second_name name

  abbrev pub Does : J → S → Result Followed FollowRefusal → Type 0
  Does source_then new result = FollowsStore i s g name limit source source_then old new result

  -- nothing was called
  pub uncalled : Does source old (untaken_as store_refusal.Memory)
  uncalled = record {
    shows = λ told. tt;
    begins = λ told is_new start changes frames. tt;
    goes_on = λ told start changes n frames has. tt;
    kept_new = λ told is_new start changes frames kept. inl is_new;
    kept = λ told start changes n frames has kept. same_after (s.file old) (s.file old) name start changes n refl refl has;
    whole = λ told last all earlier. tt;
    complete = λ told ready. tt;
    crash = λ told telling. tt;
    others = λ other first second. refl;
    input_fault = λ e. absurd (store_unread store_refusal.Memory frame_fault.ReadFault e);
    read_fault = λ e. absurd (memory_read e);
    disk_fault = λ e. absurd (memory_disk e);
    no_read_fault = λ unlike. (refl, refl);
    later = (omega arith, omega arith);
    sound = λ h. (memory_read, h);
    sound_input = λ h e. store_unread store_refusal.Memory frame_fault.ReadFault e;
    tells = refl;
    way = inr (refl, inl (refl, refl));
  }

  module _ (new : S) (r : StoreRefusal) where
    first_untaken : IsUntaken s g true name old new r → Does source new (untaken_as r)
    first_untaken unlike = record {
      shows = λ told. tt;
      begins = λ told is_new start changes frames. tt;
      goes_on = λ told start changes n frames has. tt;
      kept_new = λ told is_new start changes frames kept.
          inl (still_new (s.file old) (s.file new) name (ap or_empty (unlike.keeps.files name tt)) (ap or_empty (unlike.keeps.files beside tt)) is_new);
      kept = λ told start changes n frames has kept.
          same_after (s.file old) (s.file new) name start changes n (unlike.keeps.files name tt) (unlike.keeps.files beside tt) has;
      whole = λ told last all earlier. tt;
      complete = λ told ready. take_failed r unlike.kind (λ e. never_absent (s.file old name) (unlike.absent told e));
      crash = λ told telling. tt;
      others = λ other first second. unlike.keeps.files other tt;
      input_fault = λ e. absurd (store_unread r frame_fault.ReadFault e);
      read_fault = λ e. let rose = unlike.rose (untaken_is r store_refusal.ReadFault e) in (rose.0, inl rose.1);
      disk_fault = λ e. absurd (no_disk r unlike.kind (untaken_is r store_refusal.DiskFault e));
      no_read_fault = λ not. unlike.same (λ e. not (ap untaken_as e));
      later = (unlike.later, omega (arith, unlike.disk_faults));
      sound = λ h. ((λ e. (unlike.sound h).0 (untaken_is r store_refusal.ReadFault e)), (unlike.sound h).1);
      sound_input = λ h e. store_unread r frame_fault.ReadFault e;
      tells = unlike.tells;
      way = inr (refl, inr (record { way = inl unlike }));
    }

    second_untaken : (mid : S) (first : D) → IsTaken s g true name old mid first → ComesBack s g name beside first mid new r → Does source new (untaken_as r)
    second_untaken mid first first_taken comes =
        let unlike = comes.second in
        let back = comes.back in
        let same_file : (other : List ℕ) → s.file comes.mid other ≡ s.file old other = λ other. unlike.keeps.files other tt ∙ first_taken.keeps.files other tt in
        let same_tells : s.tells comes.mid ≡ s.tells old = unlike.tells ∙ first_taken.tells in
        let first_file : IsTrue ((s.tells old).files) → s.file new name ≡ Some (or_empty (s.file old name)) = λ told.
        subst (λ (o : Option (List ℕ)). IfSome o (λ bytes. s.file new name ≡ Some bytes)) (made_reads (s.file old name) (g.seen first) (first_taken.reads told))
        (back.reads (told_on (s.tells old) (s.tells comes.mid) same_tells told)) in
        let second_file : s.file new beside ≡ s.file old beside = back.keeps.files beside (λ e. apart name (sym e)) ∙ same_file beside in
        record {
          shows = λ told. tt;
          begins = λ told is_new start changes frames. tt;
          goes_on = λ told start changes n frames has. tt;
          kept_new = λ told is_new start changes frames kept.
              inl (still_new (s.file old) (s.file new) name (ap or_empty (first_file told)) (ap or_empty second_file) is_new);
          kept = λ told start changes n frames has kept.
              still_after (s.file old) (s.file new) name start changes n (first_file told) (ap or_empty second_file) has;
          whole = λ told last all earlier. tt;
          complete = λ told ready.
              take_failed r unlike.kind (λ e. never_absent (s.file mid beside) (unlike.absent (told_on (s.tells old) (s.tells mid) first_taken.tells told) e));
          crash = λ told telling. tt;
          others = λ other not_first not_second. back.keeps.files other not_first ∙ same_file other;
          input_fault = λ e. absurd (store_unread r frame_fault.ReadFault e);
          read_fault = λ e.
              let rose = unlike.rose (untaken_is r store_refusal.ReadFault e) in (
                subst (λ (n : ℕ). Rose n (s.faults new)) first_taken.faults (subst (λ (n : ℕ). Rose (s.faults mid) n) (sym back.faults) rose.0),
                inr (back.last_failed ∙ rose.1),
              );
          disk_fault = λ e. absurd (no_disk r unlike.kind (untaken_is r store_refusal.DiskFault e));
          no_read_fault = λ not.
              let same = unlike.same (λ e. not (ap untaken_as e)) in
              (back.faults ∙ same.0 ∙ first_taken.faults, back.last_failed ∙ same.1 ∙ first_taken.last_failed);
          later = (omega (arith, unlike.later, back.faults, first_taken.faults), omega (arith, back.later, unlike.disk_faults, first_taken.disk_faults));
          sound = λ h.
              let so = unlike.sound (first_taken.sound h) in
              ((λ e. so.0 (untaken_is r store_refusal.ReadFault e)), back.sound so.1);
          sound_input = λ h e. store_unread r frame_fault.ReadFault e;
          tells = back.tells ∙ same_tells;
          way = inr (refl, inr (record { way = inr (mid, first, first_taken, comes) }));
        }

    untaken_files : AreUntaken s g true name beside old new r → Does source new (untaken_as r)
    untaken_files untaken = by_way untaken.way
      where
        by_way : IsUntaken s g true name old new r ⊎ ((mid : S) × (first : D) × IsTaken s g true name old mid first × ComesBack s g name beside first mid new r)
            → Does source new (untaken_as r)
        by_way (inl unlike) = first_untaken unlike
        by_way (inr (mid, first, first_taken, comes)) = second_untaken mid first first_taken comes

  module _ (source_then : J) (out new : S) (lent back : D × D) (result : Result Followed FollowRefusal)
      (takes : AreTaken s g true name beside old out lent) (follows : FollowsDisks i g source source_then lent back limit result) (returns : CameBack s g name beside out new back) where
    told_out : IsTrue ((s.tells old).files) → IsTrue ((s.tells out).files)
    told_out told = told_on (s.tells old) (s.tells out) (out_tells s g true name beside old out lent takes) told

    abbrev first_file : List ℕ
    first_file = or_empty (s.file old name)

    abbrev second_file : List ℕ
    second_file = or_empty (s.file old beside)

    at_end : IsTrue ((s.tells old).files) → result ≢ refused (refusal.Store store_refusal.DiskFault) → Ended i g source first_file second_file lent back result
    at_end told unlike =
        follows_ends i g source source_then first_file second_file lent back limit result unlike follows
        (made_reads (s.file old name) (g.seen lent.0) (first_reads s g true name beside old out lent takes told))
        (second_reads s g true name beside old out lent takes told)

    -- at Ok a source was followed
    ok_end : IsTrue ((s.tells old).files) → (f : Followed) → result ≡ Ok f → AtEnd i g source first_file second_file lent back result
    ok_end told f is =
        ⊎_elim (λ stays. absurd (stays.refused_for f is)) (λ end. end)
        (at_end told (λ e. not_both f (refusal.Store store_refusal.DiskFault) (sym is ∙ e)))

    revision_of : (f : Followed) → result ≡ Ok f → (end : AtEnd i g source first_file second_file lent back result) → end.end.image.revision ≡ f.revision
    revision_of f is end = subst (λ (r : Result Followed FollowRefusal). IfOk r (λ x. end.end.image.revision ≡ x.revision)) is end.revision

    -- what the two disks read as is what stands under the names
    reads_under : IsTrue ((s.tells old).files) → (a b : List ℕ) (found : Result Image NoImage) → g.seen back.0 ≡ Some a → g.seen back.1 ≡ Some b → image a b ≡ found
        → image_under (s.file new) name ≡ Some found
    reads_under told a b found is_first is_second is =
        under_files (s.file new) name a b found
        (back_first s g name beside out new back returns (apart name) (told_out told) a is_first)
        (ap or_empty (back_second s g name beside out new back returns (apart name) (told_out told) b is_second)) is

    under : IsTrue ((s.tells old).files) → (end : AtEnd i g source first_file second_file lent back result) → image_under (s.file new) name ≡ Some (Ok end.end.image)
    under told end =
        let r : ReadAs g back (λ a b. image a b ≡ Ok end.end.image) =
        subst (λ (d : D × D). ReadAs g d (λ a b. image a b ≡ Ok end.end.image)) (sym end.closed) (stands_reads end.end.store end.end.image end.stands) in
        reads_under told r.0 r.1 (Ok end.end.image) r.2 r.3 r.4

    -- what a replica had before, of the files that were told
    was : (shown : Image) → image_under (s.file old) name ≡ Some (Ok shown) → image first_file second_file ≡ Ok shown
    was shown is = files_under (s.file old) name shown is

    reached_later : IsTrue ((s.tells old).files) → (start : Image) (changes : List Change) (n : ℕ) (end : AtEnd i g source first_file second_file lent back result)
        → IsReached start changes end.end.image n → HasLater start changes (s.file new) name n
    reached_later told start changes n end reached = record {
      count = reached.count;
      later = reached.later;
      has = record { shown = end.end.image; under = under told end; after = reached.after };
    }

    -- the frames before a refusal
    stays_after : IsTrue ((s.tells old).files) → (start : Image) (changes : List Change) (n : ℕ) → HasFrames (i.left source) start changes
        → HasAfter start changes (s.file old) name n → result ≢ refused (refusal.Store store_refusal.DiskFault) → HasLater start changes (s.file new) name n
    stays_after told start changes n frames has unlike =
        ⊎_elim
        (λ stays.
        still_after (s.file old) (s.file new) name start changes n
        (back_first s g name beside out new back returns (apart name) (told_out told) first_file stays.is_first)
        (ap or_empty (back_second s g name beside out new back returns (apart name) (told_out told) second_file stays.is_second)) has)
        (λ end. reached_later told start changes n end (end.goes_on start changes n has.shown frames (was has.shown has.under) has.after))
        (at_end told unlike)

    begun_after : IsTrue ((s.tells old).files) → IsNew (s.file old) name → (start : Image) (changes : List Change) → HasFrames (i.left source) start changes
        → result ≢ refused (refusal.Store store_refusal.DiskFault) → IsNew (s.file new) name ⊎ HasLater start changes (s.file new) name 0
    begun_after told is_new start changes frames unlike =
        ⊎_elim
        (λ stays.
        inl (still_new (s.file old) (s.file new) name
        (ap or_empty (back_first s g name beside out new back returns (apart name) (told_out told) first_file stays.is_first))
        (ap or_empty (back_second s g name beside out new back returns (apart name) (told_out told) second_file stays.is_second)) is_new))
        (λ end. inr (reached_later told start changes 0 end (end.begins is_new.0 is_new.1 start changes frames)))
        (at_end told unlike)

    earlier_files : (start : Image) (changes : List Change) → IsNew (s.file old) name ⊎ HasEarlier start changes (s.file old) name → IsEarlier first_file second_file start changes
    earlier_files start changes (inl is_new) = inl is_new
    earlier_files start changes (inr has) = inr (has.shown, was has.shown has.under, has.behind)

    whole_under : IsTrue ((s.tells old).files) → (last : Image) (all : HasAll (i.left source) last) → IsEarlier first_file second_file all.start all.changes
        → (f : Followed) → result ≡ Ok f → image_under (s.file new) name ≡ Some (Ok last)
    whole_under told last all earlier f is =
        let end = ok_end told f is in
        let same : end.end.image ≡ last = subst (λ (r : Result Followed FollowRefusal). OnOk r (end.end.image ≡ last)) is (end.whole last all earlier) in
        under told end ∙ ap (λ (x : Image). Some (Ok x)) same

    through : Does source_then new result
    through =
        let faults = out_faults s g true name beside old out lent takes in
        let back_same = back_faults s g name beside out new back returns (apart name) in
        let tells_so : s.tells new ≡ s.tells old = back_tells s g name beside out new back returns (apart name) ∙ out_tells s g true name beside old out lent takes in
        let not_read = follows_taken i g source source_then lent back limit result follows in
        record {
          shows = λ told. if_ok result (λ f is. let end = ok_end told f is in (end.end.image, under told end, revision_of f is end));
          begins = λ told is_new start changes frames. if_ok result
              (λ f is. let end = ok_end told f is in
              reached_led start changes (s.file new) name 0 f end.end.image (under told end) (revision_of f is end) (end.begins is_new.0 is_new.1 start changes frames));
          goes_on = λ told start changes n frames has. if_ok result
              (λ f is. let end = ok_end told f is in
              reached_led start changes (s.file new) name n f end.end.image (under told end) (revision_of f is end)
              (end.goes_on start changes n has.shown frames (was has.shown has.under) has.after));
          kept_new = λ told is_new start changes frames. if_err result
              (λ r is kept. begun_after told is_new start changes frames (λ e. kept_unlike r kept (sym is ∙ e)));
          kept = λ told start changes n frames has. if_err result
              (λ r is kept. stays_after told start changes n frames has (λ e. kept_unlike r kept (sym is ∙ e)));
          whole = λ told last all earlier. on_ok result (λ f is. whole_under told last all (earlier_files all.start all.changes earlier) f is);
          complete = λ told ready.
              follows_complete i g result source source_then first_file second_file lent back limit follows
              (made_reads (s.file old name) (g.seen lent.0) (first_reads s g true name beside old out lent takes told))
              (second_reads s g true name beside old out lent takes told) ready;
          crash = λ told telling. if_ok result
              (λ f is first second of_first of_second.
              let end = ok_end told f is in
              let tell = end.tells (both_tell s g true name beside old out lent takes telling) in
              let rests = one_rests end.end end.stands (subst (λ (d : D × D). Tell g d) end.closed tell) in
              let leaves = subst (λ (d : D × D). Leaves g d (λ a b. image a b ≡ Ok end.end.image)) (sym end.closed) rests in
              ap (λ (x : Result Image NoImage). Some x)
              (leaves first second (left_first s g name beside out new back returns (apart name) first of_first) (left_second s g name beside out new back returns (apart name) second of_second))
              ∙ sym (under told end));
          others = λ other not_first not_second.
              back_others s g name beside out new back returns (apart name) other not_first not_second ∙ out_file s g true name beside old out lent takes other;
          input_fault = λ e. (follows_failed i g source source_then lent back limit result follows e).0;
          read_fault = λ e. absurd (not_read e);
          disk_fault = λ e.
              subst (λ (n : ℕ). Rose n (s.disk_faults new)) faults.2
              (rose_back s g name beside out new back returns (apart name)
              (one_failed (g.failures back.0) (g.failures back.1) (follows_rose i g source source_then lent back limit result follows e)));
          no_read_fault = λ unlike. (back_same.0 ∙ faults.0, back_same.1 ∙ faults.1);
          later = (omega (arith, back_same.0, faults.0), omega (arith, later_faults s g name beside out new back returns (apart name), faults.2));
          sound = λ h. (not_read, back_sound s g name beside out new back returns (apart name) (out_sound s g true name beside old out lent takes h));
          sound_input = λ h e. (follows_failed i g source source_then lent back limit result follows e).1 h;
          tells = tells_so;
          way = inl (lent, back, record { out = out; takes = takes; returns = returns }, follows);
        }

  -- the same, of a second name that was made
  pub through_at : (b : List ℕ) → b ≡ beside → (source_then : J) (out new : S) (lent back : D × D) (result : Result Followed FollowRefusal)
      → AreTaken s g true name b old out lent → FollowsDisks i g source source_then lent back limit result → CameBack s g name b out new back → Does source_then new result
  through_at b is source_then out new lent back result takes follows returns =
      through source_then out new lent back result (subst (λ (x : List ℕ). AreTaken s g true name x old out lent) is takes) follows
      (subst (λ (x : List ℕ). CameBack s g name x out new back) is returns)

  pub untaken_at : (b : List ℕ) → b ≡ beside → (new : S) (r : StoreRefusal) → AreUntaken s g true name b old new r → Does source new (untaken_as r)
  untaken_at b is new r untaken = untaken_files new r (subst (λ (x : List ℕ). AreUntaken s g true name x old new r) is untaken)
