-- What asking a store comes to, by what was taken and what came back.
use Rattle.std.proofs.Common.{◌≡◌, ◌≢◌, ◌⊎◌, inl, inr, ℕ, ◌+◌, ◌^◌, ◌-◌, min, false, List, Option, None, Some, IfSome, Result, Ok, Err, IfOk, IsTrue, refl, sym, ◌∙◌, ap, subst, arith}
use Rattle.hl_base.specs.Causes.{Rose}
use Rattle.hl_base.specs.declared.disk.Disk.{Ghosts as Disks}
use Rattle.hl_base.specs.declared.shelf.Shelf.{Ghosts as Shelves}
use Rattle.hl_time.specs.declared.day.Day.{Day}
use Rattle.live_journal.specs.declared.fault.OpenFault.{OpenFault}
use Rattle.live_journal.specs.declared.fault.OpenFault.TheVariants as unopened_text
use Rattle.live_journal.specs.Loading.{fault_of}
use Rattle.text_store.specs.declared.image.Image.{Image}
use Rattle.text_store.specs.Files.{WhileOpened, opened_limit, opened_size}
use Rattle.text_store.specs.Image.{NoImage, image}
use Rattle.text_store.specs.Stores.{Tell, fault_count}
use Rattle.desk.specs.declared.desk.Desk.{Desk}
use Rattle.desk.specs.declared.reply.Reply.{Reply}
use Rattle.desk.specs.declared.request.Request.{Request}
use Rattle.desk.specs.declared.request.Request.TheVariants as requests
use Rattle.desk.specs.Desks.{faults_of, shown_by, state_of}
use Rattle.desk.specs.States.{State, answer_to, deed_in}
use Rattle.desk.specs.Steps.{is_fault, next_of}
use Rattle.store_text.specs.Lending.{AreTaken, AreUntaken, CameBack, ComesBack, IsTaken, IsUntaken as IsNotTaken, NoneFailed}
use Rattle.store_text.specs.Refusals.{IsOfTaking, text_in}
use Rattle.store_text.specs.Shelved.{image_in, image_under, or_empty, second_name}
use Rattle.store_text.specs.declared.refusal.StoreRefusal.{StoreRefusal}
use Rattle.store_text.specs.declared.refusal.StoreRefusal.TheVariants as refusal
use Rattle.store_text.proofs.LendingLaws.{absent_there, apart, back_faults, back_first, back_others, back_second, back_sound, back_tells, both_tell, clean_back, first_reads, first_rests, later_faults, left_first, left_second, never_absent, one_failed, out_faults, out_file, out_sound, out_tells, rose_back, second_reads, second_rests, there_reads, told_on}
use Rattle.store_text.proofs.OpeningLaws.{ends}
use Rattle.store_making.specs.Refusals.{of_store}
use Rattle.store_making.specs.declared.refusal.JournalRefusal.{JournalRefusal}
use Rattle.store_making.specs.declared.refusal.JournalRefusal.TheVariants as journal
use Rattle.store_commands.specs.Asking.{AsksDisks, EditsStore, HasFault, IsAsked, IsOfOpening, IsRefusedBy, IsReplied, IsUnopened, OpensAs, Outcome, Patterns, PatternsStay, ShowsAfter, WereTaken, limit_under, size_under, state_under}
use Rattle.store_commands.specs.Replacing.{ReplacesDisks, ReplacesStore, base_or, revision_of}
use Rattle.store_commands.specs.Replies.{IsEdit, IsEditReply}
use Rattle.store_commands.proofs.AskingLaws.{is_step, kind_is, no_read, reads_after, refused_by, reply_kind, reply_rose, rose_is, state_so}
use Rattle.store_commands.proofs.ReplyLaws.{gives_same}
use Rattle.store_commands.proofs.StandingLaws.{after_leaves}

abbrev pub refused : JournalRefusal → Result Reply JournalRefusal
refused e = Err e

abbrev pub replied : Reply → Result Reply JournalRefusal
replied r = Ok r

refused_is : (a b : JournalRefusal) → refused a ≡ Err b → a ≡ b
refused_is a b e = ap of e
  where
    of : Result Reply JournalRefusal → JournalRefusal
    of (Ok r) = a
    of (Err x) = x

-- ---- a store that wasn't taken

taking_kind : (r : StoreRefusal) → IsOfTaking r → IsOfOpening (of_store r) × (WereTaken (of_store r) → ⊥)
taking_kind refusal.Absent kind = (tt, λ were. were)
taking_kind (refusal.NotAStore at) kind = absurd kind
taking_kind (refusal.Newer version) kind = absurd kind
taking_kind (refusal.Exists len) kind = absurd kind
taking_kind (refusal.Full size limit) kind = absurd kind
taking_kind refusal.ReadFault kind = (tt, λ were. were)
taking_kind refusal.DiskFault kind = absurd kind
taking_kind refusal.Memory kind = (tt, λ were. were)

taking_refused : (r : StoreRefusal) (found : Option (Result Image NoImage)) → IsOfTaking r → (r ≡ refusal.Absent → found ≡ None) → IsRefusedBy found (of_store r)
taking_refused refusal.Absent found kind absent = ap text_in (absent refl)
taking_refused (refusal.NotAStore at) found kind absent = absurd kind
taking_refused (refusal.Newer version) found kind absent = absurd kind
taking_refused (refusal.Exists len) found kind absent = absurd kind
taking_refused (refusal.Full size limit) found kind absent = absurd kind
taking_refused refusal.ReadFault found kind absent = tt
taking_refused refusal.DiskFault found kind absent = absurd kind
taking_refused refusal.Memory found kind absent = tt

taking_read : (r : StoreRefusal) → IsOfTaking r → of_store r ≡ journal.Store refusal.ReadFault → r ≡ refusal.ReadFault
taking_read refusal.Absent kind e = absurd cc
taking_read (refusal.NotAStore at) kind e = absurd kind
taking_read (refusal.Newer version) kind e = absurd kind
taking_read (refusal.Exists len) kind e = absurd kind
taking_read (refusal.Full size limit) kind e = absurd kind
taking_read refusal.ReadFault kind e = refl
taking_read refusal.DiskFault kind e = absurd kind
taking_read refusal.Memory kind e = absurd cc

taking_disk : (r : StoreRefusal) → IsOfTaking r → of_store r ≡ journal.Store refusal.DiskFault → ⊥
taking_disk refusal.Absent kind e = cc
taking_disk (refusal.NotAStore at) kind e = kind
taking_disk (refusal.Newer version) kind e = kind
taking_disk (refusal.Exists len) kind e = kind
taking_disk (refusal.Full size limit) kind e = kind
taking_disk refusal.ReadFault kind e = cc
taking_disk refusal.DiskFault kind e = kind
taking_disk refusal.Memory kind e = cc

none_failed : (a b : ℕ) → min (a + b) (2 ^ 64 - 1) ≡ 0 → (a ≡ 0) × (b ≡ 0)
none_failed a b e = (omega (arith, e), omega (arith, e))

-- ---- what is left where the files have an image whose text loads, and no call failed

no_image_there : (found : Option (Result Image NoImage)) (shown : Image) → found ≡ None → found ≡ Some (Ok shown) → ⊥
no_image_there found shown none some = cc

-- a take is refused for want of memory alone
taking_memory : (r : StoreRefusal) (found : Option (Result Image NoImage)) (shown : Image) → IsOfTaking r → (r ≡ refusal.Absent → found ≡ None)
    → (r ≡ refusal.ReadFault → ⊥) → found ≡ Some (Ok shown) → of_store r ≡ journal.Memory
taking_memory refusal.Absent found shown kind absent unfailed e = absurd (no_image_there found shown (absent refl) e)
taking_memory (refusal.NotAStore at) found shown kind absent unfailed e = absurd kind
taking_memory (refusal.Newer version) found shown kind absent unfailed e = absurd kind
taking_memory (refusal.Exists len) found shown kind absent unfailed e = absurd kind
taking_memory (refusal.Full size limit) found shown kind absent unfailed e = absurd kind
taking_memory refusal.ReadFault found shown kind absent unfailed e = absurd (unfailed refl)
taking_memory refusal.DiskFault found shown kind absent unfailed e = absurd kind
taking_memory refusal.Memory found shown kind absent unfailed e = refl

abbrev told_text : List ℕ → Result (List ℕ) StoreRefusal
told_text text = Ok text

text_refused : (text : List ℕ) (r : StoreRefusal) → told_text text ≡ Err r → ⊥
text_refused text r e = cc

shown_in : (found : Option (Result Image NoImage)) (a b : Image) → found ≡ Some (Ok a) → found ≡ Some (Ok b) → a ≡ b
shown_in found a b is same = cc

faultless : (told : Option OpenFault) (fault : OpenFault) → told ≡ Some fault → told ≡ None → ⊥
faultless told fault some none = cc

text_faultless : (found : Option (Result Image NoImage)) (shown : Image) (fault : OpenFault) → HasFault found fault → found ≡ Some (Ok shown)
    → fault_of None shown.text ≡ None → ⊥
text_faultless found shown fault has is loads =
    let same = ap (λ (i : Image). fault_of None i.text) (shown_in found has.0 shown has.1 is) in
    faultless (fault_of None shown.text) fault (sym same ∙ has.2) loads

-- an opening is refused for want of memory alone
opening_memory : (e : JournalRefusal) (found : Option (Result Image NoImage)) (shown : Image) → IsRefusedBy found e → IsOfOpening e
    → (e ≡ journal.Store refusal.ReadFault → ⊥) → (e ≡ journal.Store refusal.DiskFault → ⊥) → found ≡ Some (Ok shown) → fault_of None shown.text ≡ None
    → e ≡ journal.Memory
opening_memory (journal.Store refusal.Absent) found shown by kind unfailed unfaulted is loads = absurd (text_refused shown.text refusal.Absent (sym (ap text_in is) ∙ by))
opening_memory (journal.Store (refusal.NotAStore at)) found shown by kind unfailed unfaulted is loads = absurd (text_refused shown.text (refusal.NotAStore at) (sym (ap text_in is) ∙ by))
opening_memory (journal.Store (refusal.Newer version)) found shown by kind unfailed unfaulted is loads = absurd (text_refused shown.text (refusal.Newer version) (sym (ap text_in is) ∙ by))
opening_memory (journal.Store (refusal.Exists len)) found shown by kind unfailed unfaulted is loads = absurd kind
opening_memory (journal.Store (refusal.Full size limit)) found shown by kind unfailed unfaulted is loads = absurd kind
opening_memory (journal.Store refusal.ReadFault) found shown by kind unfailed unfaulted is loads = absurd (unfailed refl)
opening_memory (journal.Store refusal.DiskFault) found shown by kind unfailed unfaulted is loads = absurd (unfaulted refl)
opening_memory (journal.Store refusal.Memory) found shown by kind unfailed unfaulted is loads = absurd kind
opening_memory (journal.Load fault) found shown by kind unfailed unfaulted is loads = absurd (text_faultless found shown (unopened_text.Load fault) by is loads)
opening_memory (journal.TooLarge limit size) found shown by kind unfailed unfaulted is loads = absurd (text_faultless found shown (unopened_text.TooLarge limit size) by is loads)
opening_memory journal.Memory found shown by kind unfailed unfaulted is loads = refl

module _ {S D : Type 0} (s : Shelves S D) (g : Disks D) (name : List ℕ) (request : Request) (day : Day) (p : Patterns) (old : S) where
  abbrev pub beside : List ℕ
  beside = second_name name

  abbrev pub Edits : S → Result Reply JournalRefusal → Type 0
  Edits new result = EditsStore s g name request day p old new result

  abbrev CompletesBy : S → Result Reply JournalRefusal → Type 0
  CompletesBy new result = IsTrue ((s.tells old).files) → (shown : Image) → image_under (s.file old) name ≡ Some (Ok shown)
      → fault_of None shown.text ≡ None → NoneFailed s old new → (Rose p.before p.now → ⊥)
      → IsReplied result (answer_to (state_under (s.file old) name shown) day.0 request).reply

  -- nothing was called
  pub uncalled : PatternsStay p → Edits old (refused journal.Memory)
  uncalled quiet = record {
    outcome = (
      record {
        cause = λ told. tt;
        stays = λ told. refl;
        crash = λ told telling were. absurd were;
        kind = tt;
        way = inr (inl (refl, refl));
      },
      quiet,
    );
    complete = λ told shown is loads none patterns. refl;
    others = λ other first second. refl;
    read_fault = λ e. absurd cc;
    disk_fault = λ e. absurd cc;
    no_disk_fault = tt;
    no_read_fault = λ unlike. (refl, refl);
    later = (omega arith, omega arith);
    sound = λ h. ((λ e. cc), h);
    tells = refl;
  }

  -- ---- a store whose disks weren't taken

  module _ (new : S) (r : StoreRefusal) (quiet : PatternsStay p) where
    first_untaken : IsNotTaken s g false name old new r → Edits new (refused (of_store r))
    first_untaken unlike =
        let kind = taking_kind r unlike.kind in
        let absent_so : IsTrue ((s.tells old).files) → r ≡ refusal.Absent → image_under (s.file old) name ≡ None = λ told e.
        ap (λ (o : Option (List ℕ)). image_in o (s.file old beside)) (absent_there (s.file old name) (unlike.absent told e)) in
        record {
          outcome = (
            record {
              cause = λ told. taking_refused r (image_under (s.file old) name) unlike.kind (absent_so told);
              stays = λ told.
                  ap (λ (o : Option (List ℕ)). image_in o (s.file new beside)) (unlike.keeps.files name tt)
                  ∙ ap (λ (o : Option (List ℕ)). image_in (s.file old name) o) (unlike.keeps.files beside tt);
              crash = λ told telling were. absurd (kind.1 were);
              kind = kind.0;
              way = inr (inr (r, refl, record { way = inl unlike }));
            },
            quiet,
          );
          complete = λ told shown is loads none patterns.
              taking_memory r (image_under (s.file old) name) shown unlike.kind (absent_so told) (λ e. none.0 (unlike.rose e).0) is;
          others = λ other first second. unlike.keeps.files other tt;
          read_fault = λ e. let rose = unlike.rose (taking_read r unlike.kind (refused_is (of_store r) (journal.Store refusal.ReadFault) e)) in (rose.0, inl rose.1);
          disk_fault = λ e. absurd (taking_disk r unlike.kind (refused_is (of_store r) (journal.Store refusal.DiskFault) e));
          no_disk_fault = tt;
          no_read_fault = λ other. unlike.same (λ e. other (ap (λ (x : StoreRefusal). refused (of_store x)) e));
          later = (unlike.later, omega (arith, unlike.disk_faults));
          sound = λ h. let so = unlike.sound h in ((λ e. so.0 (taking_read r unlike.kind (refused_is (of_store r) (journal.Store refusal.ReadFault) e))), so.1);
          tells = unlike.tells;
        }

    second_untaken : (mid : S) (first : D) → IsTaken s g false name old mid first → ComesBack s g name beside first mid new r → Edits new (refused (of_store r))
    second_untaken mid first first_taken comes =
        let unlike = comes.second in
        let back = comes.back in
        let kind = taking_kind r unlike.kind in
        let same_file : (other : List ℕ) → s.file comes.mid other ≡ s.file old other = λ other. unlike.keeps.files other tt ∙ first_taken.keeps.files other tt in
        let same_tells : s.tells comes.mid ≡ s.tells old = unlike.tells ∙ first_taken.tells in
        let absent_so : IsTrue ((s.tells old).files) → r ≡ refusal.Absent → image_under (s.file old) name ≡ None = λ told e.
        absurd (never_absent (s.file mid beside) (unlike.absent (told_on (s.tells old) (s.tells mid) first_taken.tells told) e)) in
        let rose_so : r ≡ refusal.ReadFault → Rose (s.faults old) (s.faults new) = λ e.
        subst (λ (n : ℕ). Rose n (s.faults new)) first_taken.faults (subst (λ (n : ℕ). Rose (s.faults mid) n) (sym back.faults) (unlike.rose e).0) in
        record {
          outcome = (
            record {
              cause = λ told. taking_refused r (image_under (s.file old) name) unlike.kind (absent_so told);
              stays = λ told.
                  let there = there_reads (s.file old name) (g.seen first) (first_taken.reads told) in
                  let of_first : s.file new name ≡ s.file old name =
                  subst (λ (o : Option (List ℕ)). IfSome o (λ bytes. s.file new name ≡ Some bytes)) there.2 (back.reads (told_on (s.tells old) (s.tells comes.mid) same_tells told))
                  ∙ sym there.1 in
                  let of_second : s.file new beside ≡ s.file old beside = back.keeps.files beside (λ e. apart name (sym e)) ∙ same_file beside in
                  ap (λ (o : Option (List ℕ)). image_in o (s.file new beside)) of_first ∙ ap (λ (o : Option (List ℕ)). image_in (s.file old name) o) of_second;
              crash = λ told telling were. absurd (kind.1 were);
              kind = kind.0;
              way = inr (inr (r, refl, record { way = inr (mid, first, first_taken, comes) }));
            },
            quiet,
          );
          complete = λ told shown is loads none patterns.
              taking_memory r (image_under (s.file old) name) shown unlike.kind (absent_so told) (λ e. none.0 (rose_so e)) is;
          others = λ other not_first not_second. back.keeps.files other not_first ∙ same_file other;
          read_fault = λ e.
              let same = taking_read r unlike.kind (refused_is (of_store r) (journal.Store refusal.ReadFault) e) in
              (rose_so same, inr (back.last_failed ∙ (unlike.rose same).1));
          disk_fault = λ e. absurd (taking_disk r unlike.kind (refused_is (of_store r) (journal.Store refusal.DiskFault) e));
          no_disk_fault = tt;
          no_read_fault = λ other.
              let same = unlike.same (λ e. other (ap (λ (x : StoreRefusal). refused (of_store x)) e)) in
              (back.faults ∙ same.0 ∙ first_taken.faults, back.last_failed ∙ same.1 ∙ first_taken.last_failed);
          later = (omega (arith, unlike.later, back.faults, first_taken.faults), omega (arith, back.later, unlike.disk_faults, first_taken.disk_faults));
          sound = λ h.
              let so = unlike.sound (first_taken.sound h) in
              ((λ e. so.0 (taking_read r unlike.kind (refused_is (of_store r) (journal.Store refusal.ReadFault) e))), back.sound so.1);
          tells = back.tells ∙ same_tells;
        }

    untaken_edits : AreUntaken s g false name beside old new r → Edits new (refused (of_store r))
    untaken_edits untaken = by_way untaken.way
      where
        by_way : IsNotTaken s g false name old new r ⊎ ((mid : S) × (first : D) × IsTaken s g false name old mid first × ComesBack s g name beside first mid new r)
            → Edits new (refused (of_store r))
        by_way (inl unlike) = first_untaken unlike
        by_way (inr (mid, first, first_taken, comes)) = second_untaken mid first first_taken comes

    pub untaken_at : (b : List ℕ) → b ≡ beside → AreUntaken s g false name b old new r → Edits new (refused (of_store r))
    untaken_at b is untaken = untaken_edits (subst (λ (x : List ℕ). AreUntaken s g false name x old new r) is untaken)

  -- ---- a store whose disks were taken and came back

  module _ (out new : S) (lent back : D × D) (takes : AreTaken s g false name beside old out lent) (returns : CameBack s g name beside out new back) where
    there : IsTrue ((s.tells old).files) → (f : List ℕ) × (s.file old name ≡ Some f) × (g.seen lent.0 ≡ Some f)
    there told = there_reads (s.file old name) (g.seen lent.0) (first_reads s g false name beside old out lent takes told)

    abbrev second_bytes : List ℕ
    second_bytes = or_empty (s.file old beside)

    reads_second : IsTrue ((s.tells old).files) → g.seen lent.1 ≡ Some second_bytes
    reads_second told = second_reads s g false name beside old out lent takes told

    told_out : IsTrue ((s.tells old).files) → IsTrue ((s.tells out).files)
    told_out told = told_on (s.tells old) (s.tells out) (out_tells s g false name beside old out lent takes) told

    image_old : (told : IsTrue ((s.tells old).files)) → image_under (s.file old) name ≡ Some (image (there told).0 second_bytes)
    image_old told = ap (λ (o : Option (List ℕ)). image_in o (s.file old beside)) (there told).1

    limit_old : (told : IsTrue ((s.tells old).files)) → opened_limit (there told).0 second_bytes ≡ limit_under (s.file old) name
    limit_old told = ap (λ (o : Option (List ℕ)). opened_limit (or_empty o) second_bytes) (sym (there told).1)

    -- the image of the files that came back
    image_new : IsTrue ((s.tells old).files) → (f t : List ℕ) → g.seen back.0 ≡ Some f → g.seen back.1 ≡ Some t → image_under (s.file new) name ≡ Some (image f t)
    image_new told f t first second =
        ap (λ (o : Option (List ℕ)). image_in o (s.file new beside)) (back_first s g name beside out new back returns (apart name) (told_out told) f first)
        ∙ ap (λ (o : Option (List ℕ)). image_in (Some f) o) (back_second s g name beside out new back returns (apart name) (told_out told) t second)

    size_old : (told : IsTrue ((s.tells old).files)) → opened_size (there told).0 second_bytes ≡ size_under (s.file old) name
    size_old told = ap (λ (o : Option (List ℕ)). opened_size (or_empty o) second_bytes) (sym (there told).1)

    -- no call of the disks had failed when they were handed out, and the shelf counts those that did since
    none_before : fault_count g lent ≡ 0
    none_before = omega (arith, takes.first.no_faults, takes.second.no_faults)

    disks_rose : Rose 0 (fault_count g back) → Rose (s.disk_faults old) (s.disk_faults new)
    disks_rose rose =
        subst (λ (n : ℕ). Rose n (s.disk_faults new)) (out_faults s g false name beside old out lent takes).2
        (rose_back s g name beside out new back returns (apart name) (one_failed (g.failures back.0) (g.failures back.1) rose))

    lent_rose : Rose (fault_count g lent) (fault_count g back) → Rose (s.disk_faults old) (s.disk_faults new)
    lent_rose rose = disks_rose (subst (λ (n : ℕ). Rose n (fault_count g back)) none_before rose)

    -- what every result comes to
    common : (result : Result Reply JournalRefusal) → Outcome s g name request day p old new result → CompletesBy new result
        → result ≢ Err (journal.Store refusal.ReadFault)
        → (result ≡ Err (journal.Store refusal.DiskFault) → Rose (fault_count g lent) (fault_count g back))
        → IfOk result (λ r. is_fault r ≡ false → s.disk_faults new ≡ s.disk_faults old) → Edits new result
    common result outcome complete not_read rose same =
        let faults = out_faults s g false name beside old out lent takes in
        let back_same = back_faults s g name beside out new back returns (apart name) in
        record {
          outcome = outcome;
          complete = complete;
          others = λ other not_first not_second.
              back_others s g name beside out new back returns (apart name) other not_first not_second ∙ out_file s g false name beside old out lent takes other;
          read_fault = λ e. absurd (not_read e);
          disk_fault = λ e. lent_rose (rose e);
          no_disk_fault = same;
          no_read_fault = λ unlike. (back_same.0 ∙ faults.0, back_same.1 ∙ faults.1);
          later = (omega (arith, back_same.0, faults.0), omega (arith, later_faults s g name beside out new back returns (apart name), faults.2));
          sound = λ h. (not_read, back_sound s g name beside out new back returns (apart name) (out_sound s g false name beside old out lent takes h));
          tells = back_tells s g name beside out new back returns (apart name) ∙ out_tells s g false name beside old out lent takes;
        }

    -- the revision of the machine that was opened is that of the files
    revision_so : (desk : Desk D g) → OpensAs g lent desk → IsTrue ((s.tells old).files) → revision_of (image_under (s.file old) name) ≡ desk.live.revision
    revision_so desk opens told =
        ap revision_of (image_old told)
        ∙ ap (λ (x : Result Image NoImage). revision_of (Some x)) (opens.shown (there told).0 second_bytes (there told).2 (reads_second told)).0

    -- it wasn't opened
    unopened : (e : JournalRefusal) → IsUnopened g lent back e → PatternsStay p → Edits new (refused e)
    unopened e is quiet = common (refused e) (
      record {
        cause = cause_so;
        stays = λ told.
            let kept = is.stays (there told).0 second_bytes (there told).2 (reads_second told) in
            image_new told kept.0 kept.1 kept.2 kept.3 ∙ ap (λ (x : Result Image NoImage). Some x) kept.4 ∙ sym (image_old told);
        crash = λ told telling were f t first second.
            ap (λ (x : Result Image NoImage). Some x)
            (left_so told telling f t (left_first s g name beside out new back returns (apart name) f first) (left_second s g name beside out new back returns (apart name) t second))
            ∙ sym (image_old told);
        kind = kind_is g lent back e is;
        way = inl (lent, back, record { out = out; takes = takes; returns = returns }, is);
      },
      quiet,
    )
        (λ told shown found loads none patterns.
        opening_memory e (image_under (s.file old) name) shown (cause_so told) (kind_is g lent back e is) (no_read g lent back e is)
        (λ same. none.1 (lent_rose (rose_is g lent back e is same))) found loads)
        (λ same. no_read g lent back e is (refused_is e (journal.Store refusal.ReadFault) same))
        (λ same. rose_is g lent back e is (refused_is e (journal.Store refusal.DiskFault) same))
        tt
      where
        cause_so : IsTrue ((s.tells old).files) → IsRefusedBy (image_under (s.file old) name) e
        cause_so told = subst (λ (o : Option (Result Image NoImage)). IsRefusedBy o e) (sym (image_old told))
            (refused_by g lent back e is (there told).0 second_bytes (there told).2 (reads_second told))

        left_so : (told : IsTrue ((s.tells old).files)) → IsTrue ((s.tells old).crashes) → (a b : List ℕ) → g.may_leave back.0 a → g.may_leave back.1 b
            → image a b ≡ image (there told).0 second_bytes
        left_so told telling a b first second =
            by_case (there told).0 second_bytes (first_rests s g false name beside old out lent takes telling (there told).0 (there told).2)
            (second_rests s g false name beside old out lent takes telling second_bytes (reads_second told))
            (ends g lent back (WhileOpened g lent (there told).0 second_bytes)
            (is.any_moment (there told).0 second_bytes (there told).2 (reads_second told) (both_tell s g false name beside old out lent takes telling)) a b first second)
          where
            by_case : (f t : List ℕ) → ((c : List ℕ) → g.may_leave lent.0 c → c ≡ f) → ((c : List ℕ) → g.may_leave lent.1 c → c ≡ t) → WhileOpened g lent f t a b → image a b ≡ image f t
            by_case f t only_first only_second (inl same) = ap (λ (x : List ℕ). image x b) (only_first a same.0) ∙ ap (λ (x : List ℕ). image f x) (only_second b same.1)
            by_case f t only_first only_second (inr same) = same.1

    -- it was asked
    module _ (is_edit : IsEdit request) (r : Reply) (desk : Desk D g) (opens : OpensAs g lent desk) (asked : IsAsked desk request day p r back) where
      abbrev shows : Option (Result Image NoImage) → Type 0
      shows found = ShowsAfter (next_of (answer_to (state_of desk) day.0 request)) r (state_of asked.now) found

      tells_then : (told : IsTrue ((s.tells old).files)) → IsTrue ((s.tells old).crashes) → Tell g back
      tells_then told telling =
          let f = (there told).0 in
          let tell = both_tell s g false name beside old out lent takes telling in
          let opening = opens.keeps f second_bytes (there told).2 (reads_second told) in
          let serving = asked.served.serves.keeps in
          subst (λ (d : D × D). Tell g d) (sym asked.returned)
          (serving.tells_first ∙ opening.tells_first ∙ tell.0, serving.tells_second ∙ opening.tells_second ∙ tell.1)

      shows_so : (told : IsTrue ((s.tells old).files)) → shows (image_under (s.file new) name)
      shows_so told =
          let read = reads_after g lent desk request day p r back opens asked is_edit (there told).0 second_bytes (there told).2 (reads_second told) in
          subst shows (sym (image_new told read.0 read.1 read.2 read.3)) read.4

      safe_so : (told : IsTrue ((s.tells old).files)) → IsTrue ((s.tells old).crashes) → (f t : List ℕ) → s.may_leave new name f → s.may_leave new beside t → shows (Some (image f t))
      safe_so told telling f t first second =
          let shown = opens.shown (there told).0 second_bytes (there told).2 (reads_second told) in
          let stands = asked.served.serves.stands None shown.1 in
          let of_first = subst (λ (d : D × D). g.may_leave d.0 f) asked.returned (left_first s g name beside out new back returns (apart name) f first) in
          let of_second = subst (λ (d : D × D). g.may_leave d.1 t) asked.returned (left_second s g name beside out new back returns (apart name) t second) in
          after_leaves g asked.now.store (state_of asked.now) r (next_of (answer_to (state_of desk) day.0 request)) stands.0 stands.1 stands.2
          (subst (λ (d : D × D). Tell g d) asked.returned (tells_then told telling)) f t of_first of_second

      size_so : (told : IsTrue ((s.tells old).files)) → (state_of desk).size ≡ size_under (s.file old) name
      size_so told = opens.size (there told).0 second_bytes (there told).2 (reads_second told) ∙ size_old told

      -- the state that was opened is that of the files
      opened_so : (told : IsTrue ((s.tells old).files)) (shown : Image) → image_under (s.file old) name ≡ Some (Ok shown)
          → state_of desk ≡ state_under (s.file old) name shown
      opened_so told shown is =
          let read = opens.shown (there told).0 second_bytes (there told).2 (reads_second told) in
          let same = shown_in (image_under (s.file old) name) (shown_by desk) shown (image_old told ∙ ap (λ (x : Result Image NoImage). Some x) read.0) is in
          state_so (state_of desk) (size_under (s.file old) name) (limit_under (s.file old) name) opens.allowed (size_so told) (read.2 ∙ limit_old told)
          ∙ ap (λ (i : Image). state_under (s.file old) name i) same

      desk_rose : Rose (faults_of desk) (faults_of asked.now) → Rose (s.disk_faults old) (s.disk_faults new)
      desk_rose rose =
          let from_zero = subst (λ (n : ℕ). Rose n (faults_of asked.now)) (opens.no_fault ∙ none_before) rose in
          disks_rose (subst (λ (d : D × D). Rose 0 (fault_count g d)) (sym asked.returned) from_zero)

      desk_clean : is_fault r ≡ false → s.disk_faults new ≡ s.disk_faults old
      desk_clean unlike =
          let st = state_of desk in
          let same = gives_same (answer_to st day.0 request) (deed_in st request) st (faults_of desk) r (state_of asked.now) (faults_of asked.now) asked.served.serves.gives unlike in
          let none = none_failed (g.failures back.0) (g.failures back.1) (ap (λ (d : D × D). fault_count g d) asked.returned ∙ same ∙ opens.no_fault ∙ none_before) in
          clean_back s g name beside out new back returns (apart name) none.0 none.1 ∙ (out_faults s g false name beside old out lent takes).2

      completes_so : CompletesBy new (replied r)
      completes_so told shown is loads none patterns =
          subst (λ (st : State). IsReplied (replied r) (answer_to st day.0 request).reply) (opened_so told shown is)
          (asked.complete (λ rose. none.1 (desk_rose rose)) patterns)

      answered : Edits new (replied r)
      answered = common (replied r)
          (record {
            step = λ told.
                let shown = opens.shown (there told).0 second_bytes (there told).2 (reads_second told) in (
                  shown_by desk,
                  image_old told ∙ ap (λ (x : Result Image NoImage). Some x) shown.0,
                  is_step g lent desk request day p r back opens asked is_edit (there told).0 second_bytes (there told).2 (reads_second told)
                      (size_under (s.file old) name) (limit_under (s.file old) name) (size_so told) (shown.2 ∙ limit_old told)
                      (image_under (s.file new) name) (shows_so told)
                      (λ f t. IsTrue ((s.tells old).crashes) × s.may_leave new name f × s.may_leave new beside t)
                      (λ f t left. safe_so told left.0 f t left.1 left.2),
                );
            kind = reply_kind g lent desk request day p r back opens asked is_edit;
            maker = asked.maker;
            disk_fault = λ fault. disks_rose (reply_rose g lent desk request day p r back opens asked is_edit fault);
            way = (lent, back, record { out = out; takes = takes; returns = returns }, (desk, opens, asked));
          })
          completes_so
          (λ e. cc) (λ e. absurd cc) desk_clean

    through : IsEdit request → (result : Result Reply JournalRefusal) → AsksDisks g lent back request day p result → Edits new result
    through is_edit (Ok r) asks = answered is_edit r asks.0 asks.1 asks.2
    through is_edit (Err e) asks = unopened e asks.0 asks.1

  pub through_at : (b : List ℕ) → b ≡ beside → (out new : S) (lent back : D × D) → AreTaken s g false name b old out lent → CameBack s g name b out new back
      → IsEdit request → (result : Result Reply JournalRefusal) → AsksDisks g lent back request day p result → Edits new result
  through_at b is out new lent back takes returns is_edit result asks =
      through out new lent back (subst (λ (x : List ℕ). AreTaken s g false name x old out lent) is takes)
      (subst (λ (x : List ℕ). CameBack s g name x out new back) is returns) is_edit result asks

  pub revision_at : (b : List ℕ) → b ≡ beside → (out new : S) (lent back : D × D) → AreTaken s g false name b old out lent → CameBack s g name b out new back
      → (desk : Desk D g) → OpensAs g lent desk → IsTrue ((s.tells old).files) → revision_of (image_under (s.file old) name) ≡ desk.live.revision
  revision_at b is out new lent back takes returns desk opens told =
      revision_so out new lent back (subst (λ (x : List ℕ). AreTaken s g false name x old out lent) is takes)
      (subst (λ (x : List ℕ). CameBack s g name x out new back) is returns) desk opens told

  -- what a store that was asked replies is a reply to an edit
  pub edits_kind : (new : S) (result : Result Reply JournalRefusal) → Edits new result → IfOk result IsEditReply
  edits_kind new (Ok r) edits = edits.outcome.kind
  edits_kind new (Err e) edits = tt

-- ---- a text in the place of a store's

-- what is asked of a store with a revision
abbrev asks_at : Option ℕ → List ℕ → ℕ → Request
asks_at base text revision = requests.Replace (base_or base revision) text

module _ {S D : Type 0} (s : Shelves S D) (g : Disks D) (name text : List ℕ) (base : Option ℕ) (day : Day) (p : Patterns) (old : S) where
  abbrev pub Replaces : S → Result Reply JournalRefusal → Type 0
  Replaces new result = ReplacesStore s g name text base day p old new result

  -- the revision that the files have
  abbrev of_files : ℕ
  of_files = revision_of (image_under (s.file old) name)

  pub uncalled_replaces : PatternsStay p → Replaces old (refused journal.Memory)
  uncalled_replaces quiet = record { revision = of_files; is = λ told. refl; edits = uncalled s g name (asks_at base text of_files) day p old quiet }

  pub untaken_replaces : (new : S) (r : StoreRefusal) → PatternsStay p → (b : List ℕ) → b ≡ second_name name → AreUntaken s g false name b old new r
      → Replaces new (refused (of_store r))
  untaken_replaces new r quiet b is untaken =
      record { revision = of_files; is = λ told. refl; edits = untaken_at s g name (asks_at base text of_files) day p old new r quiet b is untaken }

  pub replaces_at : (b : List ℕ) → b ≡ second_name name → (out new : S) (lent back : D × D) → AreTaken s g false name b old out lent → CameBack s g name b out new back
      → (result : Result Reply JournalRefusal) → ReplacesDisks g lent back text base day p result → Replaces new result
  replaces_at b is out new lent back takes returns (Ok r) replaces =
      let desk = replaces.0 in
      let asked : Request = asks_at base text desk.live.revision in
      record {
        revision = desk.live.revision;
        is = λ told. sym (revision_at s g name asked day p old b is out new lent back takes returns desk replaces.1 told);
        edits = through_at s g name asked day p old b is out new lent back takes returns tt (Ok r) (desk, replaces.1, replaces.2);
      }
  replaces_at b is out new lent back takes returns (Err e) replaces = record {
    revision = of_files;
    is = λ told. refl;
    edits = through_at s g name (asks_at base text of_files) day p old b is out new lent back takes returns tt (Err e) replaces;
  }

  pub replaces_kind : (new : S) (result : Result Reply JournalRefusal) → Replaces new result → IfOk result IsEditReply
  replaces_kind new result replaces = edits_kind s g name (asks_at base text replaces.revision) day p old new result replaces.edits
