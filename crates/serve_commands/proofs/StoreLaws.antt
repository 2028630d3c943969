-- What serving a store comes to, by what was taken and what came back.
use Rattle.std.proofs.Common.{◌≡◌, ◌≢◌, inl, inr, ℕ, ◌+◌, ◌-◌, ◌^◌, ◌≤◌, min, true, false, List, [], ◌∷◌, Option, None, Some, IfSome, Result, Ok, Err, IsTrue, refl, sym, ◌∙◌, ap, subst, arith}
use Rattle.hl_base.specs.Causes.{Rose}
use Rattle.hl_base.specs.declared.disk.Disk.{Ghosts as Disks}
use Rattle.hl_base.specs.declared.shelf.Shelf.{Ghosts as Shelves}
use Rattle.hl_time.specs.declared.day.Day.{Day}
use Rattle.text_store.specs.declared.image.Image.{Image}
use Rattle.text_store.specs.Files.{opened_limit, opened_size}
use Rattle.text_store.specs.Image.{NoImage, image}
use Rattle.text_store.specs.Stores.{Tell, disks, fault_count}
use Rattle.turn_lock.specs.declared.known.Entered.{Entered}
use Rattle.desk.specs.declared.desk.Desk.{Desk}
use Rattle.desk.specs.declared.reply.Reply.{Reply}
use Rattle.desk.specs.declared.reply.Reply.TheVariants as reply
use Rattle.desk.specs.declared.request.Allow.{Allow}
use Rattle.desk.specs.declared.request.Request.{Request}
use Rattle.desk.specs.declared.request.Request.TheVariants as request
use Rattle.desk.specs.Desks.{counts_of, faults_of, shown_by, state_of}
use Rattle.desk.specs.Entries.{Entry}
use Rattle.shared_desk.specs.Histories.{IsLegal, has_fault}
use Rattle.shared_desk.specs.Stays.{KitTold}
use Rattle.shared_desk.proofs.Counting.{tallied}
use Rattle.shared_desk.proofs.Faulting.{rose}
use Rattle.shared_desk.proofs.Lasting.{left}
use Rattle.desk_team.specs.Houses.{HouseTold}
use Rattle.desk_team.specs.declared.hosting.HouseFault.{HouseFault}
use Rattle.store_text.specs.Lending.{AreTaken, AreUntaken, CameBack}
use Rattle.store_text.specs.Reading.{ReadAs}
use Rattle.store_text.specs.Shelved.{image_in, image_under, or_empty, second_name}
use Rattle.store_text.specs.declared.refusal.StoreRefusal.{StoreRefusal}
use Rattle.store_text.specs.declared.refusal.StoreRefusal.TheVariants as refusal
use Rattle.store_text.proofs.LendingLaws.{apart, back_faults, back_first, back_others, back_second, back_sound, back_tells, both_tell, first_reads, later_faults, left_first, left_second, one_failed, out_faults, out_file, out_sound, out_tells, rose_back, second_reads, there_reads, told_on}
use Rattle.store_making.specs.Refusals.{of_store}
use Rattle.store_making.specs.declared.refusal.JournalRefusal.{JournalRefusal}
use Rattle.store_making.specs.declared.refusal.JournalRefusal.TheVariants as journal
use Rattle.store_commands.specs.Asking.{EditsStore, Patterns, PatternsStay, ShowsAfter, limit_under}
use Rattle.store_commands.proofs.EditLaws.{refused, through_at, uncalled, untaken_at}
use Rattle.store_commands.proofs.StandingLaws.{after_leaves, stands_reads}
use Rattle.web_messages.specs.declared.page.Page.{Page}
use Rattle.serve_commands.specs.Hosting.{IsHosted, IsUnhosted, OpensWith, ServesDisks, tally_of}
use Rattle.serve_commands.specs.Stores.{IsLeft, IsServed, IsTally, IsUnopened, IsUnserved, ServesStore, ShowsLast, StandsFor, WasLent}
use Rattle.serve_commands.specs.declared.outcome.Tally.{Tally}
use Rattle.serve_commands.specs.declared.outcome.Unserved.{Unserved}
use Rattle.serve_commands.specs.declared.outcome.Unserved.TheVariants as unserved
use Rattle.serve_commands.specs.declared.store.Post.{Post}
use Rattle.serve_commands.proofs.HistoryLaws.{last_leaves, last_reads, rose_zero, tells_on}

-- ---- the numbers that are told

tally_is : {D : Type 0} {g : Disks D} (told : Tally) (opening last : Desk D g) (history : List (Entered Entry)) → IsLegal opening history last → counts_of opening ≡ (0, 0)
    → told ≡ tally_of last told.failed → IsTally told history last
tally_is told opening last history legal none is =
    let counts = tallied opening last history legal none in
    record {
      revision = ap (λ (t : Tally). t.revision) is;
      requests = ap (λ (t : Tally). t.requests) is ∙ ap (λ (c : ℕ × ℕ). c.0) counts;
      refused = ap (λ (t : Tally). t.refused) is ∙ ap (λ (c : ℕ × ℕ). c.1) counts;
    }

-- ---- a store that wasn't opened

-- a request that no store was asked, on a day, with a maker that wasn't called
abbrev some_request : Request
some_request = request.Add []

abbrev some_day : Day
some_day = record { 0 = 1 }

abbrev uncalled_maker : Patterns
uncalled_maker = record { before = 0; now = 0; last_before = None; last_now = None }

quiet : PatternsStay uncalled_maker
quiet = record { count = refl; told = refl }

refusal_is : (a b : JournalRefusal) → refused a ≡ refused b → a ≡ b
refusal_is a b is = ap of is
  where
    of : Result Reply JournalRefusal → JournalRefusal
    of (Ok r) = a
    of (Err x) = x

module _ {S D : Type 0} (s : Shelves S D) (g : Disks D) (name : List ℕ) (old : S) where
  unopened_so : {A : Type 0} (new : S) (house house_now : HouseTold A) (e : JournalRefusal)
      → EditsStore s g name some_request some_day uncalled_maker old new (refused e) → house_now ≡ house → IsUnopened s g name old new house house_now e
  unopened_so new house house_now e edits same = record {
    unasked = edits.outcome.0;
    others = edits.others;
    read_fault = λ is. edits.read_fault (ap (λ (x : JournalRefusal). refused x) is);
    disk_fault = λ is. edits.disk_fault (ap (λ (x : JournalRefusal). refused x) is);
    no_read_fault = λ unlike. edits.no_read_fault (λ is. unlike (refusal_is e (journal.Store refusal.ReadFault) is));
    later = edits.later;
    sound = λ h. let so = edits.sound h in ((λ is. so.0 (ap (λ (x : JournalRefusal). refused x) is)), so.1);
    tells = edits.tells;
    not_asked = same;
  }

  -- memory ran out before anything was called
  pub memory_so : {A : Type 0} (house : HouseTold A) → IsUnopened s g name old old house house journal.Memory
  memory_so house = unopened_so old house house journal.Memory (uncalled s g name some_request some_day uncalled_maker old quiet) refl

  -- the disks weren't taken
  pub untaken_so : {A : Type 0} (new : S) (house : HouseTold A) (r : StoreRefusal) (beside : List ℕ) → beside ≡ second_name name
      → AreUntaken s g false name beside old new r → IsUnopened s g name old new house house (of_store r)
  untaken_so new house r beside is untaken =
      unopened_so new house house (of_store r) (untaken_at s g name some_request some_day uncalled_maker old new r quiet beside is untaken) refl

  -- ---- a store whose disks were taken and came back

  abbrev beside : List ℕ
  beside = second_name name

  module _ (out new : S) (lent back : D × D) (takes : AreTaken s g false name beside old out lent) (returns : CameBack s g name beside out new back) where
    there : IsTrue ((s.tells old).files) → (f : List ℕ) × (s.file old name ≡ Some f) × (g.seen lent.0 ≡ Some f)
    there told = there_reads (s.file old name) (g.seen lent.0) (first_reads s g false name beside old out lent takes told)

    abbrev second_bytes : List ℕ
    second_bytes = or_empty (s.file old beside)

    reads_second : IsTrue ((s.tells old).files) → g.seen lent.1 ≡ Some second_bytes
    reads_second told = second_reads s g false name beside old out lent takes told

    told_out : IsTrue ((s.tells old).files) → IsTrue ((s.tells out).files)
    told_out told = told_on (s.tells old) (s.tells out) (out_tells s g false name beside old out lent takes) told

    image_old : (told : IsTrue ((s.tells old).files)) → image_under (s.file old) name ≡ Some (image (there told).0 second_bytes)
    image_old told = ap (λ (o : Option (List ℕ)). image_in o (s.file old beside)) (there told).1

    limit_old : (told : IsTrue ((s.tells old).files)) → opened_limit (there told).0 second_bytes ≡ limit_under (s.file old) name
    limit_old told = ap (λ (o : Option (List ℕ)). opened_limit (or_empty o) second_bytes) (sym (there told).1)

    -- the image of the files that came back
    image_new : IsTrue ((s.tells old).files) → (f t : List ℕ) → g.seen back.0 ≡ Some f → g.seen back.1 ≡ Some t → image_under (s.file new) name ≡ Some (image f t)
    image_new told f t first second =
        ap (λ (o : Option (List ℕ)). image_in o (s.file new beside)) (back_first s g name beside out new back returns (apart name) (told_out told) f first)
        ∙ ap (λ (o : Option (List ℕ)). image_in (Some f) o) (back_second s g name beside out new back returns (apart name) (told_out told) t second)

    was_lent : WasLent s g name old new
    was_lent =
        let faults = out_faults s g false name beside old out lent takes in
        let back_same = back_faults s g name beside out new back returns (apart name) in
        record {
          others = λ other not_first not_second.
              back_others s g name beside out new back returns (apart name) other not_first not_second ∙ out_file s g false name beside old out lent takes other;
          faults = (back_same.0 ∙ faults.0, back_same.1 ∙ faults.1);
          later = omega (arith, later_faults s g name beside out new back returns (apart name), faults.2);
          sound = λ h. back_sound s g name beside out new back returns (apart name) (out_sound s g false name beside old out lent takes h);
          tells = back_tells s g name beside out new back returns (apart name) ∙ out_tells s g false name beside old out lent takes;
        }

    disks_rose : Rose 0 (fault_count g back) → Rose (s.disk_faults old) (s.disk_faults new)
    disks_rose up =
        subst (λ (n : ℕ). Rose n (s.disk_faults new)) (out_faults s g false name beside old out lent takes).2
        (rose_back s g name beside out new back returns (apart name) (one_failed (g.failures back.0) (g.failures back.1) up))

    module _ (allowed : Allow) (opening : Desk D g) (opens : OpensWith g allowed lent opening) where
      stands_for : IsTrue ((s.tells old).files) → StandsFor (s.file old) name opening
      stands_for told =
          let is_first = (there told).2 in
          let is_second = reads_second told in
          let shown = opens.shown (there told).0 second_bytes is_first is_second in
          record {
            shown = image_old told ∙ ap (λ (x : Result Image NoImage). Some x) shown.0;
            limit = shown.2 ∙ limit_old told;
            size = opens.size (there told).0 second_bytes is_first is_second
                ∙ ap (λ (o : Option (List ℕ)). opened_size (or_empty o) second_bytes) (sym (there told).1);
          }

      -- that it was closed after a legal history
      module _ (last : Desk D g) (history : List (Entered Entry)) (legal : IsLegal opening history last) (returned : back ≡ disks last.store) where
        tells_then : IsTrue ((s.tells old).files) → IsTrue ((s.tells old).crashes) → Tell g (disks last.store)
        tells_then told telling =
            let tell = both_tell s g false name beside old out lent takes telling in
            let keeps = opens.keeps (there told).0 second_bytes (there told).2 (reads_second told) in
            let along = tells_on g opening last history legal in
            (along.0 ∙ keeps.tells_first ∙ tell.0, along.1 ∙ keeps.tells_second ∙ tell.1)

        shows_so : IsTrue ((s.tells old).files) → ShowsLast opening history last (image_under (s.file new) name)
        shows_so told =
            let shown = opens.shown (there told).0 second_bytes (there told).2 (reads_second told) in
            let rest = left opening last history None legal shown.1 in
            let read = subst (λ (d : D × D). ReadAs g d (λ f t. ShowsLast opening history last (Some (image f t)))) (sym returned)
            (last_reads g opening last history rest.0 rest.1 rest.2) in
            subst (λ (found : Option (Result Image NoImage)). ShowsLast opening history last found) (sym (image_new told read.0 read.1 read.2 read.3)) read.4

        safe_so : IsTrue ((s.tells old).files) → (f t : List ℕ) → IsLeft s g name old new f t → ShowsLast opening history last (Some (image f t))
        safe_so told f t is_left =
            let shown = opens.shown (there told).0 second_bytes (there told).2 (reads_second told) in
            let rest = left opening last history None legal shown.1 in
            let of_first = subst (λ (d : D × D). g.may_leave d.0 f) returned (left_first s g name beside out new back returns (apart name) f is_left.1) in
            let of_second = subst (λ (d : D × D). g.may_leave d.1 t) returned (left_second s g name beside out new back returns (apart name) t is_left.2) in
            last_leaves g opening last history rest.0 rest.1 rest.2 (tells_then told is_left.0) f t of_first of_second

        fault_so : has_fault history ≡ true → Rose (s.disk_faults old) (s.disk_faults new)
        fault_so any =
            disks_rose (subst (λ (b : D × D). Rose 0 (fault_count g b)) (sym returned)
            (rose_zero (faults_of opening) (faults_of last) (rose opening last history legal any)))

      -- it wasn't served
      module _ (returned : back ≡ disks opening.store) where
        stays_so : IsTrue ((s.tells old).files) → image_under (s.file new) name ≡ image_under (s.file old) name
        stays_so told =
            let shown = opens.shown (there told).0 second_bytes (there told).2 (reads_second told) in
            let read = subst (λ (d : D × D). ReadAs g d (λ f t. image f t ≡ Ok (shown_by opening))) (sym returned)
            (stands_reads g opening.store (shown_by opening) shown.1) in
            image_new told read.0 read.1 read.2 read.3
            ∙ ap (λ (x : Result Image NoImage). Some x) (read.4 ∙ sym shown.0)
            ∙ sym (image_old told)

        crash_so : IsTrue ((s.tells old).files) → (f t : List ℕ) → IsLeft s g name old new f t → Some (image f t) ≡ image_under (s.file old) name
        crash_so told f t is_left =
            let shown = opens.shown (there told).0 second_bytes (there told).2 (reads_second told) in
            let of_first = subst (λ (d : D × D). g.may_leave d.0 f) returned (left_first s g name beside out new back returns (apart name) f is_left.1) in
            let of_second = subst (λ (d : D × D). g.may_leave d.1 t) returned (left_second s g name beside out new back returns (apart name) t is_left.2) in
            alone (image f t) (after_leaves g opening.store (state_of opening) reply.Memory None None (inl refl) shown.1
            (tells_then opening [] refl returned told is_left.0) f t of_first of_second)
            ∙ ap (λ (x : Result Image NoImage). Some x) (sym shown.0)
            ∙ sym (image_old told)
          where
            alone : (found : Result Image NoImage) → ShowsAfter None reply.Memory (state_of opening) (Some found) → Some found ≡ Some (Ok (shown_by opening))
            alone found (inl is) = is
            alone found (inr other) = absurd other.1

    module _ {A K : Type 0} (tell : A → KitTold K) (coming sent : K → Option (List ℕ)) (page : Page) (post : Post) (house house_now : HouseTold A) where
      served : (told : Tally) (opening : Desk D g) → OpensWith g post.allow lent opening
          → IsHosted tell coming sent page opening post.address post.crew house house_now told back
          → IsServed s g name tell coming sent page post old new house house_now told
      served told opening opens hosted =
          let last = hosted.last in
          let history = hosted.history in
          let legal = hosted.hosts.team.legal in
          record {
            opening = opening;
            last = last;
            history = history;
            opened = stands_for post.allow opening opens;
            loads = opens.loads;
            allowed = opens.allows;
            counts = opens.counts;
            hosts = hosted.hosts;
            line = tally_is told opening last history legal opens.counts hosted.told;
            shows = shows_so post.allow opening opens last history legal hosted.returned;
            safe = safe_so post.allow opening opens last history legal hosted.returned;
            disk_fault = fault_so post.allow opening opens last history legal hosted.returned;
            lent = was_lent;
          }

      unhosted : (fault : HouseFault) (opening : Desk D g) → OpensWith g post.allow lent opening
          → IsUnhosted opening post.crew.workers post.address house house_now fault back → IsUnserved s g name post old new house house_now fault
      unhosted fault opening opens un = record {
        opening = opening;
        opened = stands_for post.allow opening opens;
        loads = opens.loads;
        hosting = un.hosting;
        stays = stays_so post.allow opening opens un.returned;
        crash = crash_so post.allow opening opens un.returned;
        lent = was_lent;
      }

      through : (result : Result Tally Unserved) → ServesDisks g tell coming sent page post lent back house house_now result
          → ServesStore s g name tell coming sent page post old new house house_now result
      through (Ok told) is = served told is.0 is.1 is.2
      through (Err (unserved.House fault)) is = unhosted fault is.0 is.1 is.2
      through (Err (unserved.Store e)) is =
          unopened_so new house house_now e
          (through_at s g name some_request some_day uncalled_maker old beside refl out new lent back takes returns tt (refused e) (is.0, quiet)) is.1

  pub served_at : {A K : Type 0} (tell : A → KitTold K) (coming sent : K → Option (List ℕ)) (page : Page) (post : Post) (house house_now : HouseTold A)
      (b : List ℕ) → b ≡ beside → (out new : S) (lent back : D × D) → AreTaken s g false name b old out lent → CameBack s g name b out new back
      → (result : Result Tally Unserved) → ServesDisks g tell coming sent page post lent back house house_now result
      → ServesStore s g name tell coming sent page post old new house house_now result
  served_at tell coming sent page post house house_now b is out new lent back takes returns result serves =
      through out new lent back (subst (λ (x : List ℕ). AreTaken s g false name x old out lent) is takes)
      (subst (λ (x : List ℕ). CameBack s g name x out new back) is returns) tell coming sent page post house house_now result serves
