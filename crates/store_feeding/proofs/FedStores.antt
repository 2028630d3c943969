-- What feeding a store comes to, by what was taken and what came back.
use Rattle.std.proofs.Common.{◌≡◌, ◌≢◌, ◌⊎◌, inl, inr, ℕ, ◌+◌, ◌^◌, ◌-◌, min, false, List, Option, None, Some, Result, Ok, Err, OnOk, IfErr, IfSome, IsTrue, refl, sym, ◌∙◌, ap, subst, arith}
use Rattle.hl_base.specs.Causes.{Rose}
use Rattle.hl_base.specs.declared.disk.Disk.{Ghosts as Disks}
use Rattle.hl_base.specs.declared.shelf.Shelf.{Ghosts as Shelves}
use Rattle.text_store.specs.declared.image.Image.{Image}
use Rattle.text_store.specs.Image.{NoImage, image}
use Rattle.text_store.specs.Stores.{fault_count}
use Rattle.store_text.specs.Lending.{AreTaken, AreUntaken, CameBack, ComesBack, IsTaken, IsUntaken}
use Rattle.store_text.specs.Reading.{WereTaken}
use Rattle.store_text.specs.Refusals.{IsOfOpening, IsOfReading, IsOfTaking, cause_of}
use Rattle.store_text.specs.Shelved.{image_in, image_under, or_empty, second_name}
use Rattle.store_text.specs.declared.refusal.StoreRefusal.{StoreRefusal}
use Rattle.store_text.specs.declared.refusal.StoreRefusal.TheVariants as refusal
use Rattle.store_text.proofs.LendingLaws.{apart, absent_there, back_faults, back_first, back_others, back_second, back_sound, back_tells, both_tell, clean_back, first_reads, first_rests, later_faults, left_first, left_second, never_absent, one_failed, out_faults, out_file, out_sound, out_tells, rose_back, second_reads, second_rests, there_reads, told_on}
use Rattle.store_text.proofs.OpeningLaws.{ends}
use Rattle.store_feeding.specs.Feeding.{Feeds, FeedsDisks, FeedsIn, FeedsStore, RefusedIn, WhileFed}
use Rattle.store_feeding.proofs.FedDisks.{refused}

opening_reads : (result : Result (List ℕ) StoreRefusal) → IfErr result IsOfOpening → IfErr result IsOfReading
opening_reads (Ok text) kind = tt
opening_reads (Err refusal.Absent) kind = tt
opening_reads (Err (refusal.NotAStore at)) kind = tt
opening_reads (Err (refusal.Newer version)) kind = tt
opening_reads (Err (refusal.Exists len)) kind = kind
opening_reads (Err (refusal.Full size limit)) kind = kind
opening_reads (Err refusal.ReadFault) kind = tt
opening_reads (Err refusal.DiskFault) kind = tt
opening_reads (Err refusal.Memory) kind = tt

taking_reads : (r : StoreRefusal) → IsOfTaking r → IsOfReading r
taking_reads refusal.Absent kind = tt
taking_reads (refusal.NotAStore at) kind = tt
taking_reads (refusal.Newer version) kind = tt
taking_reads (refusal.Exists len) kind = kind
taking_reads (refusal.Full size limit) kind = kind
taking_reads refusal.ReadFault kind = tt
taking_reads refusal.DiskFault kind = tt
taking_reads refusal.Memory kind = tt

-- a take wasn't refused for a disk's own fault
no_disk : (r : StoreRefusal) → IsOfTaking r → r ≢ refusal.DiskFault
no_disk r kind e = subst (λ (x : StoreRefusal). IsOfTaking x) e kind

not_taken : (r : StoreRefusal) → IsOfTaking r → WereTaken (refused r) → ⊥
not_taken refusal.Absent kind were = were
not_taken (refusal.NotAStore at) kind were = kind
not_taken (refusal.Newer version) kind were = kind
not_taken (refusal.Exists len) kind were = kind
not_taken (refusal.Full size limit) kind were = kind
not_taken refusal.ReadFault kind were = were
not_taken refusal.DiskFault kind were = kind
not_taken refusal.Memory kind were = were

-- a refusal of a take is that of the files where these are absent
taking_gives : (r : StoreRefusal) (found : Option (Result Image NoImage)) → IsOfTaking r → (r ≡ refusal.Absent → found ≡ None) → IfSome (cause_of r) (RefusedIn found)
taking_gives refusal.Absent found kind absent = subst (λ (o : Option (Result Image NoImage)). RefusedIn o refusal.Absent) (sym (absent refl)) refl
taking_gives (refusal.NotAStore at) found kind absent = absurd kind
taking_gives (refusal.Newer version) found kind absent = absurd kind
taking_gives (refusal.Exists len) found kind absent = absurd kind
taking_gives (refusal.Full size limit) found kind absent = absurd kind
taking_gives refusal.ReadFault found kind absent = tt
taking_gives refusal.DiskFault found kind absent = absurd kind
taking_gives refusal.Memory found kind absent = tt

-- what two files feed is what those of a shelf do
shelved : (result : Result (List ℕ) StoreRefusal) (first second : Option (List ℕ)) (f : List ℕ) → first ≡ Some f → Feeds result f (or_empty second) → FeedsIn result first second
shelved (Ok frames) first second f is fed = (f, is, fed)
shelved (Err r) first second f is fed = subst (λ (o : Option (List ℕ)). IfSome (cause_of r) (RefusedIn (image_in o second))) (sym is) fed

refused_is : (a b : StoreRefusal) → refused a ≡ Err b → a ≡ b
refused_is a b e = ap of e
  where
    of : Result (List ℕ) StoreRefusal → StoreRefusal
    of (Ok text) = a
    of (Err r) = r

none_failed : (a b : ℕ) → min (a + b) (2 ^ 64 - 1) ≡ 0 → (a ≡ 0) × (b ≡ 0)
none_failed a b e = (omega (arith, e), omega (arith, e))

on_ok_with : {P Q : Type 0} (result : Result (List ℕ) StoreRefusal) → (P → Q) → OnOk result P → OnOk result Q
on_ok_with (Ok text) f p = f p
on_ok_with (Err r) f p = tt

left_so : (a b f s : List ℕ) (shown : Result Image NoImage) → image f s ≡ shown → a ≡ f → b ≡ s → image a b ≡ shown
left_so a b f s shown is first second = ap (λ (x : List ℕ). image x b) first ∙ ap (λ (x : List ℕ). image f x) second ∙ is

module _ {S D : Type 0} (s : Shelves S D) (g : Disks D) (name : List ℕ) (old : S) where
  abbrev pub beside : List ℕ
  beside = second_name name

  -- nothing was called
  pub uncalled : FeedsStore s g name old old (refused refusal.Memory)
  uncalled = record {
    frames = λ told. tt;
    stays = λ told. refl;
    crash = λ told telling were. absurd were;
    others = λ other first second. refl;
    kind = tt;
    read_fault = λ e. absurd cc;
    disk_fault = λ e. absurd cc;
    no_read_fault = λ unlike. (refl, refl);
    no_disk_fault = tt;
    later = (omega arith, omega arith);
    sound = λ h. ((λ e. cc), h);
    tells = refl;
    way = inr (inl (refl, refl));
  }

  module _ (new : S) (r : StoreRefusal) where
    first_untaken : IsUntaken s g false name old new r → FeedsStore s g name old new (refused r)
    first_untaken unlike = record {
      frames = λ told. taking_gives r (image_under (s.file old) name) unlike.kind
          (λ e. ap (λ (o : Option (List ℕ)). image_in o (s.file old beside)) (absent_there (s.file old name) (unlike.absent told e)));
      stays = λ told.
          ap (λ (o : Option (List ℕ)). image_in o (s.file new beside)) (unlike.keeps.files name tt)
          ∙ ap (λ (o : Option (List ℕ)). image_in (s.file old name) o) (unlike.keeps.files beside tt);
      crash = λ told telling were. absurd (not_taken r unlike.kind were);
      others = λ other first second. unlike.keeps.files other tt;
      kind = taking_reads r unlike.kind;
      read_fault = λ e. let rose = unlike.rose (refused_is r refusal.ReadFault e) in (rose.0, inl rose.1);
      disk_fault = λ e. absurd (no_disk r unlike.kind (refused_is r refusal.DiskFault e));
      no_read_fault = λ not. unlike.same (λ e. not (ap refused e));
      no_disk_fault = tt;
      later = (unlike.later, omega (arith, unlike.disk_faults));
      sound = λ h. ((λ e. (unlike.sound h).0 (refused_is r refusal.ReadFault e)), (unlike.sound h).1);
      tells = unlike.tells;
      way = inr (inr (record { way = inl unlike }));
    }

    second_untaken : (mid : S) (first : D) → IsTaken s g false name old mid first → ComesBack s g name beside first mid new r → FeedsStore s g name old new (refused r)
    second_untaken mid first first_taken comes =
        let unlike = comes.second in
        let back = comes.back in
        let same_file : (other : List ℕ) → s.file comes.mid other ≡ s.file old other = λ other. unlike.keeps.files other tt ∙ first_taken.keeps.files other tt in
        let same_tells : s.tells comes.mid ≡ s.tells old = unlike.tells ∙ first_taken.tells in
        record {
          frames = λ told. taking_gives r (image_under (s.file old) name) unlike.kind
              (λ e. absurd (never_absent (s.file mid beside) (unlike.absent (told_on (s.tells old) (s.tells mid) first_taken.tells told) e)));
          stays = λ told.
              let there = there_reads (s.file old name) (g.seen first) (first_taken.reads told) in
              let of_first : s.file new name ≡ s.file old name =
              subst (λ (o : Option (List ℕ)). IfSome o (λ bytes. s.file new name ≡ Some bytes)) there.2 (back.reads (told_on (s.tells old) (s.tells comes.mid) same_tells told))
              ∙ sym there.1 in
              let of_second : s.file new beside ≡ s.file old beside = back.keeps.files beside (λ e. apart name (sym e)) ∙ same_file beside in
              ap (λ (o : Option (List ℕ)). image_in o (s.file new beside)) of_first ∙ ap (λ (o : Option (List ℕ)). image_in (s.file old name) o) of_second;
          crash = λ told telling were. absurd (not_taken r unlike.kind were);
          others = λ other not_first not_second. back.keeps.files other not_first ∙ same_file other;
          kind = taking_reads r unlike.kind;
          read_fault = λ e.
              let rose = unlike.rose (refused_is r refusal.ReadFault e) in (
                subst (λ (n : ℕ). Rose n (s.faults new)) first_taken.faults (subst (λ (n : ℕ). Rose (s.faults mid) n) (sym back.faults) rose.0),
                inr (back.last_failed ∙ rose.1),
              );
          disk_fault = λ e. absurd (no_disk r unlike.kind (refused_is r refusal.DiskFault e));
          no_read_fault = λ not.
              let same = unlike.same (λ e. not (ap refused e)) in
              (back.faults ∙ same.0 ∙ first_taken.faults, back.last_failed ∙ same.1 ∙ first_taken.last_failed);
          no_disk_fault = tt;
          later = (omega (arith, unlike.later, back.faults, first_taken.faults), omega (arith, back.later, unlike.disk_faults, first_taken.disk_faults));
          sound = λ h.
              let so = unlike.sound (first_taken.sound h) in
              ((λ e. so.0 (refused_is r refusal.ReadFault e)), back.sound so.1);
          tells = back.tells ∙ same_tells;
          way = inr (inr (record { way = inr (mid, first, first_taken, comes) }));
        }

    pub untaken_reads : AreUntaken s g false name beside old new r → FeedsStore s g name old new (refused r)
    untaken_reads untaken = by_way untaken.way
      where
        by_way : IsUntaken s g false name old new r ⊎ ((mid : S) × (first : D) × IsTaken s g false name old mid first × ComesBack s g name beside first mid new r)
            → FeedsStore s g name old new (refused r)
        by_way (inl unlike) = first_untaken unlike
        by_way (inr (mid, first, first_taken, comes)) = second_untaken mid first first_taken comes

  module _ (out new : S) (lent back : D × D) (result : Result (List ℕ) StoreRefusal)
      (takes : AreTaken s g false name beside old out lent) (reads : FeedsDisks g lent back result) (returns : CameBack s g name beside out new back) where
    there : IsTrue ((s.tells old).files) → (f : List ℕ) × (s.file old name ≡ Some f) × (g.seen lent.0 ≡ Some f)
    there told = there_reads (s.file old name) (g.seen lent.0) (first_reads s g false name beside old out lent takes told)

    reads_second : IsTrue ((s.tells old).files) → g.seen lent.1 ≡ Some (or_empty (s.file old beside))
    reads_second told = second_reads s g false name beside old out lent takes told

    told_out : IsTrue ((s.tells old).files) → IsTrue ((s.tells out).files)
    told_out told = told_on (s.tells old) (s.tells out) (out_tells s g false name beside old out lent takes) told

    image_old : (told : IsTrue ((s.tells old).files)) → image_under (s.file old) name ≡ Some (image (there told).0 (or_empty (s.file old beside)))
    image_old told = ap (λ (o : Option (List ℕ)). image_in o (s.file old beside)) (there told).1

    stays_so : IsTrue ((s.tells old).files) → image_under (s.file new) name ≡ image_under (s.file old) name
    stays_so told =
        let r = reads.stays (there told).0 (or_empty (s.file old beside)) (there told).2 (reads_second told) in
        let first : s.file new name ≡ Some r.0 = back_first s g name beside out new back returns (apart name) (told_out told) r.0 r.2 in
        let second : s.file new beside ≡ Some r.1 = back_second s g name beside out new back returns (apart name) (told_out told) r.1 r.3 in
        ap (λ (o : Option (List ℕ)). image_in o (s.file new beside)) first
        ∙ ap (λ (o : Option (List ℕ)). image_in (Some r.0) o) second
        ∙ ap (λ (x : Result Image NoImage). Some x) r.4 ∙ sym (image_old told)

    left_so_by : (told : IsTrue ((s.tells old).files)) → IsTrue ((s.tells old).crashes) → (a b : List ℕ) → g.may_leave back.0 a → g.may_leave back.1 b
        → image a b ≡ image (there told).0 (or_empty (s.file old beside))
    left_so_by told telling a b first second =
        let f = (there told).0 in
        let t = or_empty (s.file old beside) in
        by_case f t (first_rests s g false name beside old out lent takes telling f (there told).2) (second_rests s g false name beside old out lent takes telling t (reads_second told))
        (ends g lent back (WhileFed g lent f t)
        (reads.any_moment f t (there told).2 (reads_second told) (both_tell s g false name beside old out lent takes telling)) a b first second)
      where
        by_case : (f t : List ℕ) → ((c : List ℕ) → g.may_leave lent.0 c → c ≡ f) → ((c : List ℕ) → g.may_leave lent.1 c → c ≡ t) → WhileFed g lent f t a b → image a b ≡ image f t
        by_case f t only_first only_second (inl same) = left_so a b f t (image f t) refl (only_first a same.0) (only_second b same.1)
        by_case f t only_first only_second (inr same) = same

    pub through : FeedsStore s g name old new result
    through =
        let faults = out_faults s g false name beside old out lent takes in
        let back_same = back_faults s g name beside out new back returns (apart name) in
        let tells_so : s.tells new ≡ s.tells old = back_tells s g name beside out new back returns (apart name) ∙ out_tells s g false name beside old out lent takes in
        let zero : fault_count g lent ≡ 0 = omega (arith, takes.first.no_faults, takes.second.no_faults) in
        let not_read : result ≢ Err refusal.ReadFault = λ e. subst (λ (x : Result (List ℕ) StoreRefusal). IfErr x IsOfOpening) e reads.kind in
        record {
          frames = λ told.
              shelved result (s.file old name) (s.file old beside) (there told).0 (there told).1 (reads.frames (there told).0 (or_empty (s.file old beside)) (there told).2 (reads_second told));
          stays = stays_so;
          crash = λ told telling were a b first second.
              ap (λ (x : Result Image NoImage). Some x)
              (left_so_by told telling a b (left_first s g name beside out new back returns (apart name) a first) (left_second s g name beside out new back returns (apart name) b second))
              ∙ sym (image_old told);
          others = λ other not_first not_second.
              back_others s g name beside out new back returns (apart name) other not_first not_second ∙ out_file s g false name beside old out lent takes other;
          kind = opening_reads result reads.kind;
          read_fault = λ e. absurd (not_read e);
          disk_fault = λ e.
              subst (λ (n : ℕ). Rose n (s.disk_faults new)) faults.2
              (rose_back s g name beside out new back returns (apart name)
              (one_failed (g.failures back.0) (g.failures back.1) (subst (λ (n : ℕ). Rose n (fault_count g back)) zero (reads.rose e))));
          no_read_fault = λ unlike. (back_same.0 ∙ faults.0, back_same.1 ∙ faults.1);
          no_disk_fault = on_ok_with result
              (λ same. let none = none_failed (g.failures back.0) (g.failures back.1) (same ∙ zero) in
              clean_back s g name beside out new back returns (apart name) none.0 none.1 ∙ faults.2)
              reads.no_fault;
          later = (omega (arith, back_same.0, faults.0), omega (arith, later_faults s g name beside out new back returns (apart name), faults.2));
          sound = λ h. (not_read, back_sound s g name beside out new back returns (apart name) (out_sound s g false name beside old out lent takes h));
          tells = tells_so;
          way = inl (lent, back, record { out = out; takes = takes; returns = returns }, reads);
        }

  -- the same, of a second name that was made
  pub through_at : (b : List ℕ) → b ≡ beside → (out new : S) (lent back : D × D) (result : Result (List ℕ) StoreRefusal)
      → AreTaken s g false name b old out lent → FeedsDisks g lent back result → CameBack s g name b out new back → FeedsStore s g name old new result
  through_at b is out new lent back result takes reads returns =
      through out new lent back result (subst (λ (x : List ℕ). AreTaken s g false name x old out lent) is takes) reads
      (subst (λ (x : List ℕ). CameBack s g name x out new back) is returns)

  pub untaken_at : (b : List ℕ) → b ≡ beside → (new : S) (r : StoreRefusal) → AreUntaken s g false name b old new r → FeedsStore s g name old new (refused r)
  untaken_at b is new r untaken = untaken_reads new r (subst (λ (x : List ℕ). AreUntaken s g false name x old new r) is untaken)
