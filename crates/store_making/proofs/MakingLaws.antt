-- What making a store of a text comes to, by what was taken and what came back.
use Rattle.std.proofs.Common.{◌≡◌, ◌≢◌, ◌⊎◌, inl, inr, ℕ, ◌+◌, ◌^◌, ◌-◌, min, true, List, [], Option, None, Some, Result, Ok, Err, OnOk, IfErr, IfSome, IsTrue, refl, sym, ◌∙◌, ap, subst, arith}
use Rattle.hl_base.specs.Causes.{Rose}
use Rattle.hl_base.specs.declared.disk.Disk.{Ghosts as Disks}
use Rattle.hl_base.specs.declared.shelf.Shelf.{Ghosts as Shelves}
use Rattle.live_journal.specs.declared.fault.OpenFault.{OpenFault}
use Rattle.live_journal.specs.declared.fault.OpenFault.TheVariants as unopened
use Rattle.live_journal.specs.Loading.{Tells, fault_of}
use Rattle.text_store.specs.Files.{WhileMade, fresh}
use Rattle.text_store.specs.Stores.{fault_count}
use Rattle.store_text.specs.Lending.{AreTaken, AreUntaken, CameBack, ComesBack, IsTaken, IsUntaken, NoneFailed}
use Rattle.store_text.specs.Refusals.{IsOfTaking}
use Rattle.store_text.specs.Shelved.{or_empty, second_name}
use Rattle.store_text.specs.declared.refusal.StoreRefusal.{StoreRefusal}
use Rattle.store_text.specs.declared.refusal.StoreRefusal.TheVariants as refusal
use Rattle.store_text.proofs.LendingLaws.{apart, back_faults, back_first, back_others, back_second, back_sound, back_tells, both_tell, clean_back, first_reads, first_rests, later_faults, left_first, left_second, made_reads, never_absent, one_failed, out_faults, out_file, out_sound, out_tells, rose_back, second_reads, second_rests, told_on}
use Rattle.store_text.proofs.OpeningLaws.{ends}
use Rattle.store_making.specs.Making.{Answers, IsLeft, IsOfDisks, IsOfMaking, MakesDisks, JudgesAndMakes, MakesFiles, WereTaken, first_file}
use Rattle.store_making.specs.Refusals.{IsOfText, files_refusal, of_store, of_text}
use Rattle.store_making.specs.declared.refusal.JournalRefusal.{JournalRefusal}
use Rattle.store_making.specs.declared.refusal.JournalRefusal.TheVariants as making

disks_made : {U : Type 0} (result : Result U StoreRefusal) → IfErr result IsOfDisks → IfErr result IsOfMaking
disks_made (Ok done) kind = tt
disks_made (Err refusal.Absent) kind = tt
disks_made (Err (refusal.NotAStore at)) kind = kind
disks_made (Err (refusal.Newer version)) kind = kind
disks_made (Err (refusal.Exists len)) kind = tt
disks_made (Err (refusal.Full size limit)) kind = tt
disks_made (Err refusal.ReadFault) kind = tt
disks_made (Err refusal.DiskFault) kind = tt
disks_made (Err refusal.Memory) kind = tt

taking_makes : (r : StoreRefusal) → IsOfTaking r → IsOfMaking r
taking_makes refusal.Absent kind = tt
taking_makes (refusal.NotAStore at) kind = kind
taking_makes (refusal.Newer version) kind = kind
taking_makes (refusal.Exists len) kind = tt
taking_makes (refusal.Full size limit) kind = tt
taking_makes refusal.ReadFault kind = tt
taking_makes refusal.DiskFault kind = tt
taking_makes refusal.Memory kind = tt

no_disk : (r : StoreRefusal) → IsOfTaking r → r ≢ refusal.DiskFault
no_disk r kind e = subst (λ (x : StoreRefusal). IsOfTaking x) e kind

-- the room and the files are judged of disks that were taken; that an absent one is made rules the last refusal out
taking_answers : (U : Type 0) (r : StoreRefusal) (told : Option StoreRefusal) → IsOfTaking r → r ≢ refusal.Absent → Answers {U = U} (Err r) told
taking_answers U refusal.Absent told kind unlike = absurd (unlike refl)
taking_answers U (refusal.NotAStore at) told kind unlike = absurd kind
taking_answers U (refusal.Newer version) told kind unlike = absurd kind
taking_answers U (refusal.Exists len) told kind unlike = absurd kind
taking_answers U (refusal.Full size limit) told kind unlike = absurd kind
taking_answers U refusal.ReadFault told kind unlike = tt
taking_answers U refusal.DiskFault told kind unlike = absurd kind
taking_answers U refusal.Memory told kind unlike = tt

not_taken : (U : Type 0) (r : StoreRefusal) → IsOfTaking r → WereTaken {U = U} (Err r) → ⊥
not_taken U refusal.Absent kind were = were
not_taken U (refusal.NotAStore at) kind were = kind
not_taken U (refusal.Newer version) kind were = kind
not_taken U (refusal.Exists len) kind were = kind
not_taken U (refusal.Full size limit) kind were = kind
not_taken U refusal.ReadFault kind were = were
not_taken U refusal.DiskFault kind were = kind
not_taken U refusal.Memory kind were = were

none_failed : (a b : ℕ) → min (a + b) (2 ^ 64 - 1) ≡ 0 → (a ≡ 0) × (b ≡ 0)
none_failed a b e = (omega (arith, e), omega (arith, e))

on_ok_with : {U P Q : Type 0} (result : Result U StoreRefusal) → (P → Q) → OnOk result P → OnOk result Q
on_ok_with (Ok done) f p = f p
on_ok_with (Err r) f p = tt

if_err_with : {U : Type 0} {P Q : StoreRefusal → Type 0} (result : Result U StoreRefusal) → ((r : StoreRefusal) → P r → Q r) → IfErr result P → IfErr result Q
if_err_with (Ok done) f p = tt
if_err_with (Err r) f p = f r p

or_empty_of : (o : Option (List ℕ)) (f : List ℕ) → o ≡ Some f → or_empty o ≡ f
or_empty_of o f e = ap or_empty e

module _ {S D U : Type 0} (s : Shelves S D) (g : Disks D) (name text : List ℕ) (limit : ℕ) (old : S) where
  abbrev pub refused : StoreRefusal → Result U StoreRefusal
  refused r = Err r

  abbrev pub Made : S → Result U StoreRefusal → Type 0
  Made new result = MakesFiles s g name text limit old new result

  refused_is : (a b : StoreRefusal) → refused a ≡ Err b → a ≡ b
  refused_is a b e = ap of e
    where
      of : Result U StoreRefusal → StoreRefusal
      of (Ok done) = a
      of (Err r) = r

  module _ (new : S) (r : StoreRefusal) where
    first_untaken : IsUntaken s g true name old new r → Made new (refused r)
    first_untaken unlike = record {
      answer = λ told. taking_answers U r _ unlike.kind (λ e. never_absent (s.file old name) (unlike.absent told e));
      made = λ told. tt;
      stays = λ told _. (ap or_empty (unlike.keeps.files name tt), ap or_empty (unlike.keeps.files (second_name name) tt));
      crash = λ told telling were. absurd (not_taken U r unlike.kind were);
      safe = λ told telling. tt;
      others = λ other first second. unlike.keeps.files other tt;
      kind = taking_makes r unlike.kind;
      read_fault = λ e. let rose = unlike.rose e in (rose.0, inl rose.1);
      disk_fault = λ e. absurd (no_disk r unlike.kind e);
      no_read_fault = λ not. unlike.same (λ e. not (ap refused e));
      no_disk_fault = tt;
      later = (unlike.later, omega (arith, unlike.disk_faults));
      sound = λ h. ((λ e. (unlike.sound h).0 (refused_is r refusal.ReadFault e)), (unlike.sound h).1);
      tells = unlike.tells;
      way = inr (record { way = inl unlike });
    }

    second_untaken : (mid : S) (first : D) → IsTaken s g true name old mid first → ComesBack s g name (second_name name) first mid new r → Made new (refused r)
    second_untaken mid first first_taken comes =
        let unlike = comes.second in
        let back = comes.back in
        let same_file : (other : List ℕ) → s.file comes.mid other ≡ s.file old other = λ other. unlike.keeps.files other tt ∙ first_taken.keeps.files other tt in
        let same_tells : s.tells comes.mid ≡ s.tells old = unlike.tells ∙ first_taken.tells in
        record {
          answer = λ told. taking_answers U r _ unlike.kind
              (λ e. never_absent (s.file mid (second_name name)) (unlike.absent (told_on (s.tells old) (s.tells mid) first_taken.tells told) e));
          made = λ told. tt;
          stays = λ told _.
              let is = made_reads (s.file old name) (g.seen first) (first_taken.reads told) in (
                or_empty_of (s.file new name) (or_empty (s.file old name))
                    (subst (λ (o : Option (List ℕ)). IfSome o (λ bytes. s.file new name ≡ Some bytes)) is (back.reads (told_on (s.tells old) (s.tells comes.mid) same_tells told))),
                ap or_empty (back.keeps.files (second_name name) (λ e. apart name (sym e)) ∙ same_file (second_name name)),
              );
          crash = λ told telling were. absurd (not_taken U r unlike.kind were);
          safe = λ told telling. tt;
          others = λ other not_first not_second. back.keeps.files other not_first ∙ same_file other;
          kind = taking_makes r unlike.kind;
          read_fault = λ e.
              let rose = unlike.rose e in (
                subst (λ (n : ℕ). Rose n (s.faults new)) first_taken.faults (subst (λ (n : ℕ). Rose (s.faults mid) n) (sym back.faults) rose.0),
                inr (back.last_failed ∙ rose.1),
              );
          disk_fault = λ e. absurd (no_disk r unlike.kind e);
          no_read_fault = λ not.
              let same = unlike.same (λ e. not (ap refused e)) in
              (back.faults ∙ same.0 ∙ first_taken.faults, back.last_failed ∙ same.1 ∙ first_taken.last_failed);
          no_disk_fault = tt;
          later = (omega (arith, unlike.later, back.faults, first_taken.faults), omega (arith, back.later, unlike.disk_faults, first_taken.disk_faults));
          sound = λ h.
              let so = unlike.sound (first_taken.sound h) in
              ((λ e. so.0 (refused_is r refusal.ReadFault e)), back.sound so.1);
          tells = back.tells ∙ same_tells;
          way = inr (record { way = inr (mid, first, first_taken, comes) });
        }

    pub untaken_files : AreUntaken s g true name (second_name name) old new r → Made new (refused r)
    untaken_files untaken = by_way untaken.way
      where
        by_way : IsUntaken s g true name old new r ⊎ ((mid : S) × (first : D) × IsTaken s g true name old mid first × ComesBack s g name (second_name name) first mid new r)
            → Made new (refused r)
        by_way (inl unlike) = first_untaken unlike
        by_way (inr (mid, first, first_taken, comes)) = second_untaken mid first first_taken comes

  module _ (out new : S) (lent back : D × D) (result : Result U StoreRefusal)
      (takes : AreTaken s g true name (second_name name) old out lent) (makes : MakesDisks g lent back text limit result) (returns : CameBack s g name (second_name name) out new back) where
    abbrev first_bytes : List ℕ
    first_bytes = or_empty (s.file old name)

    abbrev second_bytes : List ℕ
    second_bytes = or_empty (s.file old (second_name name))

    reads_first : IsTrue ((s.tells old).files) → g.seen lent.0 ≡ Some first_bytes
    reads_first told = made_reads (s.file old name) (g.seen lent.0) (first_reads s g true name (second_name name) old out lent takes told)

    reads_second : IsTrue ((s.tells old).files) → g.seen lent.1 ≡ Some second_bytes
    reads_second told = second_reads s g true name (second_name name) old out lent takes told

    told_out : IsTrue ((s.tells old).files) → IsTrue ((s.tells out).files)
    told_out told = told_on (s.tells old) (s.tells out) (out_tells s g true name (second_name name) old out lent takes) told

    first_is : IsTrue ((s.tells old).files) → (f : List ℕ) → g.seen back.0 ≡ Some f → s.file new name ≡ Some f
    first_is told f is = back_first s g name (second_name name) out new back returns (apart name) (told_out told) f is

    second_is : IsTrue ((s.tells old).files) → (f : List ℕ) → g.seen back.1 ≡ Some f → s.file new (second_name name) ≡ Some f
    second_is told f is = back_second s g name (second_name name) out new back returns (apart name) (told_out told) f is

    left_so : IsTrue ((s.tells old).files) → IsTrue ((s.tells old).crashes) → (f t : List ℕ) → g.may_leave back.0 f → g.may_leave back.1 t → IsLeft text first_bytes second_bytes f t
    left_so told telling f t first second =
        by_case (first_rests s g true name (second_name name) old out lent takes telling first_bytes (reads_first told))
        (second_rests s g true name (second_name name) old out lent takes telling second_bytes (reads_second told))
        (ends g lent back (WhileMade g lent (fresh text))
        (makes.any_moment first_bytes second_bytes (reads_first told) (reads_second told) (both_tell s g true name (second_name name) old out lent takes telling)) f t first second)
      where
        by_case : ((c : List ℕ) → g.may_leave lent.0 c → c ≡ first_bytes) → ((c : List ℕ) → g.may_leave lent.1 c → c ≡ second_bytes) → WhileMade g lent (fresh text) f t
            → IsLeft text first_bytes second_bytes f t
        by_case only_first only_second (inl same) = inl (only_first f same.0, only_second t same.1)
        by_case only_first only_second (inr other) = inr other

    pub through : Made new result
    through =
        let faults = out_faults s g true name (second_name name) old out lent takes in
        let back_same = back_faults s g name (second_name name) out new back returns (apart name) in
        let tells_so : s.tells new ≡ s.tells old = back_tells s g name (second_name name) out new back returns (apart name) ∙ out_tells s g true name (second_name name) old out lent takes in
        let zero : fault_count g lent ≡ 0 = omega (arith, takes.first.no_faults, takes.second.no_faults) in
        let not_read : result ≢ Err refusal.ReadFault = λ e. subst (λ (x : Result U StoreRefusal). IfErr x IsOfDisks) e makes.kind in
        record {
          answer = λ told. makes.answer first_bytes second_bytes (reads_first told) (reads_second told);
          made = λ told. on_ok_with result
              (λ made. let m = made first_bytes second_bytes (reads_first told) (reads_second told) in
              (first_is told (first_file text limit) m.0, second_is told [] m.1, m.2))
              makes.made;
          stays = λ told. if_err_with result
              (λ r stays unlike. let same = stays unlike in (
                or_empty_of (s.file new name) first_bytes (first_is told first_bytes (same.0 ∙ reads_first told)),
                or_empty_of (s.file new (second_name name)) second_bytes (second_is told second_bytes (same.1 ∙ reads_second told)),
              ))
              makes.stays;
          crash = λ told telling were f t first second.
              left_so told telling f t (left_first s g name (second_name name) out new back returns (apart name) f first) (left_second s g name (second_name name) out new back returns (apart name) t second);
          safe = λ told telling. on_ok_with result
              (λ made f t first second.
              let m = made first_bytes second_bytes (reads_first told) (reads_second told) in
              let tell = both_tell s g true name (second_name name) old out lent takes telling in
              m.3 (makes.keeps.tells_first ∙ tell.0, makes.keeps.tells_second ∙ tell.1) f t
              (left_first s g name (second_name name) out new back returns (apart name) f first) (left_second s g name (second_name name) out new back returns (apart name) t second))
              makes.made;
          others = λ other not_first not_second.
              back_others s g name (second_name name) out new back returns (apart name) other not_first not_second ∙ out_file s g true name (second_name name) old out lent takes other;
          kind = disks_made result makes.kind;
          read_fault = if_err_with result (λ r kind e. absurd (subst (λ (x : StoreRefusal). IsOfDisks x) e kind)) makes.kind;
          disk_fault = if_err_with result
              (λ r rose e.
              subst (λ (n : ℕ). Rose n (s.disk_faults new)) faults.2
              (rose_back s g name (second_name name) out new back returns (apart name)
              (one_failed (g.failures back.0) (g.failures back.1) (subst (λ (n : ℕ). Rose n (fault_count g back)) zero (rose e)))))
              makes.rose;
          no_read_fault = λ unlike. (back_same.0 ∙ faults.0, back_same.1 ∙ faults.1);
          no_disk_fault = on_ok_with result
              (λ same. let none = none_failed (g.failures back.0) (g.failures back.1) (same ∙ zero) in
              clean_back s g name (second_name name) out new back returns (apart name) none.0 none.1 ∙ faults.2)
              makes.no_fault;
          later = (omega (arith, back_same.0, faults.0), omega (arith, later_faults s g name (second_name name) out new back returns (apart name), faults.2));
          sound = λ h. (not_read, back_sound s g name (second_name name) out new back returns (apart name) (out_sound s g true name (second_name name) old out lent takes h));
          tells = tells_so;
          way = inl (lent, back, record { out = out; takes = takes; returns = returns }, makes);
        }

  -- the same, of a second name that was made
  pub through_at : (b : List ℕ) → b ≡ (second_name name) → (out new : S) (lent back : D × D) (result : Result U StoreRefusal)
      → AreTaken s g true name b old out lent → MakesDisks g lent back text limit result → CameBack s g name b out new back → Made new result
  through_at b is out new lent back result takes makes returns =
      through out new lent back result (subst (λ (x : List ℕ). AreTaken s g true name x old out lent) is takes) makes
      (subst (λ (x : List ℕ). CameBack s g name x out new back) is returns)

  pub untaken_at : (b : List ℕ) → b ≡ (second_name name) → (new : S) (r : StoreRefusal) → AreUntaken s g true name b old new r → Made new (refused r)
  untaken_at b is new r untaken = untaken_files new r (subst (λ (x : List ℕ). AreUntaken s g true name x old new r) is untaken)

module _ {S D : Type 0} (U : Type 0) (s : Shelves S D) (g : Disks D) (name text : List ℕ) (limit : ℕ) (old : S) where
  -- what the files of a text that loads come to is what the store does
  pub of_files : (new : S) (r : StoreRefusal) → fault_of None text ≡ None → MakesFiles {U = U} s g name text limit old new (Err r)
      → JudgesAndMakes {U = U} s g name text limit old new (Err (of_store r))
  of_files new refusal.Memory good made = inr (good, made)
  of_files new refusal.Absent good made = (good, (λ e. cc), made)
  of_files new (refusal.NotAStore at) good made = (good, (λ e. cc), made)
  of_files new (refusal.Newer version) good made = (good, (λ e. cc), made)
  of_files new (refusal.Exists len) good made = (good, (λ e. cc), made)
  of_files new (refusal.Full size most) good made = (good, (λ e. cc), made)
  of_files new refusal.ReadFault good made = (good, (λ e. cc), made)
  of_files new refusal.DiskFault good made = (good, (λ e. cc), made)

  -- and a text that is refused
  pub of_judged : (new : S) (e : JournalRefusal) → IsOfText e (fault_of None text) → new ≡ old → JudgesAndMakes {U = U} s g name text limit old new (Err e)
  of_judged new (making.Store r) is same = absurd is
  of_judged new (making.Load fault) is same = (is, same)
  of_judged new (making.TooLarge most size) is same = (is, same)
  of_judged new making.Memory is same = inl same

  -- ---- a good text and good files

  unlike_some : (r : StoreRefusal) (told : Option StoreRefusal) → told ≡ Some r → told ≡ None → ⊥
  unlike_some r told some none = cc

  unlike_fault : (fault : OpenFault) (told : Option OpenFault) → told ≡ Some fault → told ≡ None → ⊥
  unlike_fault fault told some none = cc

  abbrev told_files : Option StoreRefusal
  told_files = files_refusal text limit (or_empty (s.file old name)) (or_empty (s.file old (second_name name)))

  -- files that could be made are refused for a call that failed, or memory ran out
  files_complete : (new : S) (r : StoreRefusal) → r ≢ refusal.Memory → MakesFiles {U = U} s g name text limit old new (Err r)
      → IsTrue ((s.tells old).files) → told_files ≡ None → NoneFailed s old new → ⊥
  files_complete new refusal.Absent unlike made told good none = unlike_some refusal.Absent told_files (made.answer told) good
  files_complete new (refusal.NotAStore at) unlike made told good none = unlike_some (refusal.NotAStore at) told_files (made.answer told) good
  files_complete new (refusal.Newer version) unlike made told good none = unlike_some (refusal.Newer version) told_files (made.answer told) good
  files_complete new (refusal.Exists len) unlike made told good none = unlike_some (refusal.Exists len) told_files (made.answer told) good
  files_complete new (refusal.Full size most) unlike made told good none = unlike_some (refusal.Full size most) told_files (made.answer told) good
  files_complete new refusal.ReadFault unlike made told good none = none.0 (made.read_fault refl).0
  files_complete new refusal.DiskFault unlike made told good none = none.1 (made.disk_fault refl)
  files_complete new refusal.Memory unlike made told good none = unlike refl

  pub completes : (new : S) (result : Result U JournalRefusal) → JudgesAndMakes s g name text limit old new result
      → IsTrue ((s.tells old).files) → fault_of None text ≡ None → told_files ≡ None → NoneFailed s old new → IfErr result (λ e. e ≡ making.Memory)
  completes new (Ok done) made told loads good none = tt
  completes new (Err (making.Store r)) made told loads good none = absurd (files_complete new r made.1 made.2 told good none)
  completes new (Err (making.Load fault)) made told loads good none =
      absurd (unlike_fault (unopened.Load fault) (fault_of None text) made.0 loads)
  completes new (Err (making.TooLarge most size)) made told loads good none =
      absurd (unlike_fault (unopened.TooLarge most size) (fault_of None text) made.0 loads)
  completes new (Err making.Memory) made told loads good none = refl

-- what a loading tells of a text is told of it as a refusal
pub told_of_text : (e : OpenFault) (o : Option OpenFault) → Tells e o → IsOfText (of_text e) o
told_of_text (unopened.Load fault) o h = h
told_of_text (unopened.TooLarge limit size) o h = h
told_of_text unopened.Memory o h = tt
