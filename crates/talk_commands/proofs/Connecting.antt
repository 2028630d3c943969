-- What a connection to a store comes to, by what was taken and what came back.
use Rattle.std.proofs.Common.{◌≡◌, inl, inr, ℕ, true, false, List, [], Option, None, Some, IfSome, Result, Ok, Err, IsTrue, refl, sym, ◌∙◌, ap, subst, arith}
use Rattle.hl_base.specs.Causes.{Rose}
use Rattle.hl_base.specs.declared.disk.Disk.{Ghosts as Disks}
use Rattle.hl_base.specs.declared.shelf.Shelf.{Ghosts as Shelves}
use Rattle.hl_time.specs.declared.day.Day.{Day}
use Rattle.text_store.specs.declared.image.Image.{Image}
use Rattle.text_store.specs.Files.{opened_limit, opened_size}
use Rattle.text_store.specs.Image.{NoImage, image}
use Rattle.text_store.specs.Stores.{Tell, disks, fault_count}
use Rattle.desk.specs.declared.desk.Desk.{Desk}
use Rattle.desk.specs.declared.reply.Reply.{Reply}
use Rattle.desk.specs.declared.request.Allow.{Allow}
use Rattle.desk.specs.declared.request.Request.{Request}
use Rattle.desk.specs.declared.request.Request.TheVariants as request
use Rattle.desk.specs.Desks.{faults_of, shown_by, state_of}
use Rattle.desk.specs.Entries.{Entry}
use Rattle.desk.specs.Stands.{Stands}
use Rattle.desk.specs.States.{State, image_of}
use Rattle.store_text.specs.Lending.{AreTaken, AreUntaken, CameBack}
use Rattle.store_text.specs.Reading.{ReadAs}
use Rattle.store_text.specs.Shelved.{image_in, image_under, or_empty, second_name}
use Rattle.store_text.specs.declared.refusal.StoreRefusal.{StoreRefusal}
use Rattle.store_text.specs.declared.refusal.StoreRefusal.TheVariants as refusal
use Rattle.store_text.proofs.LendingLaws.{apart, back_faults, back_first, back_others, back_second, back_sound, back_tells, both_tell, first_reads, later_faults, left_first, left_second, one_failed, out_faults, out_file, out_sound, out_tells, rose_back, second_reads, there_reads, told_on}
use Rattle.store_making.specs.Refusals.{of_store}
use Rattle.store_making.specs.declared.refusal.JournalRefusal.{JournalRefusal}
use Rattle.store_making.specs.declared.refusal.JournalRefusal.TheVariants as journal
use Rattle.store_commands.specs.Asking.{EditsStore, Patterns, PatternsStay, limit_under, size_under}
use Rattle.store_commands.proofs.EditLaws.{through_at, uncalled, untaken_at}
use Rattle.web_desk.specs.Served.{AreOf}
use Rattle.web_desk.specs.declared.conn_end.ConnEnd.{ConnEnd}
use Rattle.talk_commands.specs.Histories.{Leads, ShowsLast, has_fault}
use Rattle.talk_commands.specs.Links.{IsSilent, Wire}
use Rattle.talk_commands.specs.Stores.{IsConnected, IsOpened, IsTalked, TalksDisks, TalksStore, opened_state}
use Rattle.talk_commands.proofs.Faults.{fault_rose}
use Rattle.talk_commands.proofs.Leading.{history_of, tells_on}
use Rattle.talk_commands.proofs.Standing.{Last, last_leaves, last_reads}

-- the entries are of the clock's day
pub of_day : (always : Option ℕ) (day : ℕ) (entries : List Entry) → always ≡ Some day → IfSome always (λ d. AreOf d entries) → AreOf day entries
of_day always day entries e h =
    let F : Option ℕ → Type 0 = λ o. IfSome o (λ d. AreOf d entries) in
    subst F e h

abbrev refused : JournalRefusal → Result Reply JournalRefusal
refused e = Err e

abbrev pub unconnected : JournalRefusal → Result ConnEnd JournalRefusal
unconnected e = Err e

refused_is : (a b : JournalRefusal) → refused a ≡ Err b → a ≡ b
refused_is a b e = ap of e
  where
    of : Result Reply JournalRefusal → JournalRefusal
    of (Ok r) = a
    of (Err x) = x

-- the state that was opened is that of its image, with what may be asked of it
state_so : (st : State) (level : Allow) (size limit : ℕ) → st.allowed ≡ level → st.size ≡ size → st.limit ≡ limit → st ≡ opened_state level (image_of st) size limit
state_so st level size limit allowed same is =
    ap (λ a. record { text = st.text; latest = st.latest; revision = st.revision; allowed = a; size = st.size; limit = st.limit }) allowed
    ∙ ap (λ (n : ℕ). opened_state level (image_of st) n st.limit) same
    ∙ ap (λ (l : ℕ). opened_state level (image_of st) size l) is

unrisen : Rose 0 0 → ⊥
unrisen (inl less) = omega (arith, less)
unrisen (inr top) = omega (arith, top)

-- any edit, on any day
abbrev some_edit : Request
some_edit = request.Add []

abbrev some_day : Day
some_day = record { 0 = 1 }

-- a maker that was asked nothing
abbrev still : Patterns
still = record { before = 0; now = 0; last_before = None; last_now = None }

quiet_still : PatternsStay still
quiet_still = record { count = refl; told = refl }

module _ {S D : Type 0} (s : Shelves S D) (g : Disks D) (name : List ℕ) (level : Allow) (day : ℕ) (p : Patterns) (w : Wire) (old : S) where
  abbrev pub beside : List ℕ
  beside = second_name name

  abbrev pub Talks : S → Result ConnEnd JournalRefusal → Type 0
  Talks new result = TalksStore s g name level day p w old new result

  abbrev Edits : S → Result Reply JournalRefusal → Type 0
  Edits new result = EditsStore s g name some_edit some_day still old new result

  -- what refuses a store of which an edit is asked refuses it here
  as_edit : (new : S) (e : JournalRefusal) → IsSilent w → PatternsStay p → Edits new (refused e) → Talks new (unconnected e)
  as_edit new e silent quiet edits = record {
    outcome = record {
      unasked = edits.outcome.0;
      quiet = quiet;
      silent = silent;
      read_fault = λ is. edits.read_fault (ap refused is);
      disk_fault = λ is. edits.disk_fault (ap refused is);
      no_read_fault = λ unlike. edits.no_read_fault (λ is. unlike (refused_is e (journal.Store refusal.ReadFault) is));
      sound = λ h is. (edits.sound h).0 (ap refused is);
      complete = λ told shown is loads none. edits.complete told shown is loads none unrisen;
    };
    others = edits.others;
    later = edits.later;
    sound = λ h. (edits.sound h).1;
    tells = edits.tells;
  }

  pub uncalled_talk : IsSilent w → PatternsStay p → Talks old (unconnected journal.Memory)
  uncalled_talk silent quiet = as_edit old journal.Memory silent quiet (uncalled s g name some_edit some_day still old quiet_still)

  pub untaken_talk : (new : S) (r : StoreRefusal) → IsSilent w → PatternsStay p → (b : List ℕ) → b ≡ beside → AreUntaken s g false name b old new r
      → Talks new (unconnected (of_store r))
  untaken_talk new r silent quiet b is untaken =
      as_edit new (of_store r) silent quiet (untaken_at s g name some_edit some_day still old new r quiet_still b is untaken)

  module _ (out new : S) (lent back : D × D) (takes : AreTaken s g false name beside old out lent) (returns : CameBack s g name beside out new back) where
    there : IsTrue ((s.tells old).files) → (f : List ℕ) × (s.file old name ≡ Some f) × (g.seen lent.0 ≡ Some f)
    there told = there_reads (s.file old name) (g.seen lent.0) (first_reads s g false name beside old out lent takes told)

    abbrev second_bytes : List ℕ
    second_bytes = or_empty (s.file old beside)

    reads_second : IsTrue ((s.tells old).files) → g.seen lent.1 ≡ Some second_bytes
    reads_second told = second_reads s g false name beside old out lent takes told

    told_out : IsTrue ((s.tells old).files) → IsTrue ((s.tells out).files)
    told_out told = told_on (s.tells old) (s.tells out) (out_tells s g false name beside old out lent takes) told

    image_old : (told : IsTrue ((s.tells old).files)) → image_under (s.file old) name ≡ Some (image (there told).0 second_bytes)
    image_old told = ap (λ (o : Option (List ℕ)). image_in o (s.file old beside)) (there told).1

    limit_old : (told : IsTrue ((s.tells old).files)) → opened_limit (there told).0 second_bytes ≡ limit_under (s.file old) name
    limit_old told = ap (λ (o : Option (List ℕ)). opened_limit (or_empty o) second_bytes) (sym (there told).1)

    size_old : (told : IsTrue ((s.tells old).files)) → opened_size (there told).0 second_bytes ≡ size_under (s.file old) name
    size_old told = ap (λ (o : Option (List ℕ)). opened_size (or_empty o) second_bytes) (sym (there told).1)

    -- the image of the files that came back
    image_new : IsTrue ((s.tells old).files) → (f t : List ℕ) → g.seen back.0 ≡ Some f → g.seen back.1 ≡ Some t → image_under (s.file new) name ≡ Some (image f t)
    image_new told f t first second =
        ap (λ (o : Option (List ℕ)). image_in o (s.file new beside)) (back_first s g name beside out new back returns (apart name) (told_out told) f first)
        ∙ ap (λ (o : Option (List ℕ)). image_in (Some f) o) (back_second s g name beside out new back returns (apart name) (told_out told) t second)

    module _ (end : ConnEnd) (desk : Desk D g) (opens : IsOpened g level lent desk) (entries : List Entry) (talked : IsTalked desk day p w end back entries) where
      abbrev last : State
      last = state_of talked.now

      stands_first : IsTrue ((s.tells old).files) → Stands desk.store (shown_by desk) None
      stands_first told = (opens.shown (there told).0 second_bytes (there told).2 (reads_second told)).1

      -- the history, and the edit beside its last state
      led_so : IsTrue ((s.tells old).files) → (after : Option Image) × Stands talked.now.store (shown_by talked.now) after
          × Leads (state_of desk) (faults_of desk) None entries last (faults_of talked.now) after
      led_so told = history_of desk talked.now entries None (stands_first told) talked.led

      shows_so : (told : IsTrue ((s.tells old).files)) → ShowsLast last (led_so told).0 (image_under (s.file new) name)
      shows_so told =
          let led = led_so told in
          let read = subst (λ (d : D × D). ReadAs g d (Last last led.0)) (sym talked.returned) (last_reads g talked.now.store last led.0 led.1) in
          subst (λ (o : Option (Result Image NoImage)). ShowsLast last led.0 o) (sym (image_new told read.0 read.1 read.2 read.3)) read.4

      tells_then : IsTrue ((s.tells old).files) → IsTrue ((s.tells old).crashes) → Tell g (disks talked.now.store)
      tells_then told telling =
          let tell = both_tell s g false name beside old out lent takes telling in
          let opening = opens.keeps (there told).0 second_bytes (there told).2 (reads_second told) in
          tells_on desk talked.now entries talked.led (opening.tells_first ∙ tell.0, opening.tells_second ∙ tell.1)

      safe_so : (told : IsTrue ((s.tells old).files)) → IsTrue ((s.tells old).crashes) → (f t : List ℕ) → s.may_leave new name f → s.may_leave new beside t
          → ShowsLast last (led_so told).0 (Some (image f t))
      safe_so told telling f t first second =
          let led = led_so told in
          last_leaves g talked.now.store last led.0 led.1 (tells_then told telling) f t
          (subst (λ (d : D × D). g.may_leave d.0 f) talked.returned (left_first s g name beside out new back returns (apart name) f first))
          (subst (λ (d : D × D). g.may_leave d.1 t) talked.returned (left_second s g name beside out new back returns (apart name) t second))

      from_zero : (a b : ℕ) → Rose a b → Rose 0 b
      from_zero a b (inl less) = inl (omega (arith, less))
      from_zero a b (inr top) = inr top

      disk_rose : has_fault entries ≡ true → Rose (s.disk_faults old) (s.disk_faults new)
      disk_rose has =
          let rose = from_zero (faults_of desk) (faults_of talked.now) (fault_rose desk talked.now entries talked.led has) in
          let of_back = subst (λ (d : D × D). Rose 0 (fault_count g d)) (sym talked.returned) rose in
          subst (λ (n : ℕ). Rose n (s.disk_faults new)) (out_faults s g false name beside old out lent takes).2
          (rose_back s g name beside out new back returns (apart name) (one_failed (g.failures back.0) (g.failures back.1) of_back))

      connected : IsConnected s g name level day p w old new end
      connected =
          let faults = out_faults s g false name beside old out lent takes in
          let back_same = back_faults s g name beside out new back returns (apart name) in
          record {
            entries = entries;
            held = talked.held;
            course = λ told.
                let shown = opens.shown (there told).0 second_bytes (there told).2 (reads_second told) in
                let led = led_so told in
                let size = opens.size (there told).0 second_bytes (there told).2 (reads_second told) in
                let same = state_so (state_of desk) level (size_under (s.file old) name) (limit_under (s.file old) name) opens.allowed (size ∙ size_old told)
                (shown.2 ∙ limit_old told) in (
                  shown_by desk,
                  image_old told ∙ ap (λ (x : Result Image NoImage). Some x) shown.0,
                  record {
                    faults = faults_of desk;
                    faults_now = faults_of talked.now;
                    last = last;
                    beside = led.0;
                    led = subst (λ (x : State). Leads x (faults_of desk) None entries last (faults_of talked.now) led.0) same led.2;
                    shows = shows_so told;
                    safe = λ f t left. safe_so told left.0 f t left.1 left.2;
                  },
                );
            disk_fault = disk_rose;
            faults = (back_same.0 ∙ faults.0, back_same.1 ∙ faults.1);
            way = (lent, back, record { out = out; takes = takes; returns = returns }, (desk, opens, talked));
          }

      talks : Talks new (Ok end)
      talks =
          let faults = out_faults s g false name beside old out lent takes in
          let back_same = back_faults s g name beside out new back returns (apart name) in
          record {
            outcome = connected;
            others = λ other not_first not_second.
                back_others s g name beside out new back returns (apart name) other not_first not_second ∙ out_file s g false name beside old out lent takes other;
            later = (omega (arith, back_same.0, faults.0), omega (arith, later_faults s g name beside out new back returns (apart name), faults.2));
            sound = λ h. back_sound s g name beside out new back returns (apart name) (out_sound s g false name beside old out lent takes h);
            tells = back_tells s g name beside out new back returns (apart name) ∙ out_tells s g false name beside old out lent takes;
          }

    through : (result : Result ConnEnd JournalRefusal) → TalksDisks g level lent back day p w result → Talks new result
    through (Ok end) (entries, (desk, opens, talked)) = talks end desk opens entries talked
    through (Err e) refused_so =
        as_edit new e refused_so.2 refused_so.1
        (through_at s g name some_edit some_day still old beside refl out new lent back takes returns tt (refused e) (refused_so.0, quiet_still))

  pub through_talk : (b : List ℕ) → b ≡ beside → (out new : S) (lent back : D × D) → AreTaken s g false name b old out lent → CameBack s g name b out new back
      → (result : Result ConnEnd JournalRefusal) → TalksDisks g level lent back day p w result → Talks new result
  through_talk b is out new lent back takes returns result asks =
      through out new lent back (subst (λ (x : List ℕ). AreTaken s g false name x old out lent) is takes)
      (subst (λ (x : List ℕ). CameBack s g name x out new back) is returns) result asks
