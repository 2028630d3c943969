-- A store that is made, edited or fed, to the end.
use Rattle.std.proofs.Common.{◌≡◌, ◌⊎◌, inl, inr, ⊎_elim, ℕ, ◌≤◌, false, List, Option, None, Some, Result, Ok, Err, IsTrue, refl, sym, ◌∙◌, ap, subst, arith}
use Rattle.std.proofs.lemmas.Bool.{false≢true}
use Rattle.hl_base.specs.Causes.{Rose}
use Rattle.hl_base.specs.declared.disk.Disk.{Ghosts as Disks}
use Rattle.hl_base.specs.declared.fault.Memory.{Memory}
use Rattle.hl_base.specs.declared.outside.Source.{Ghosts as Inputs}
use Rattle.hl_base.specs.declared.outside.Sink.{Ghosts as Outputs}
use Rattle.hl_base.specs.declared.shelf.Shelf.{Ghosts as Shelves}
use Rattle.hl_base.specs.Limits.{text_limit}
use Rattle.hl_time.specs.declared.day.Day.{Day}
use Rattle.query_terms.specs.declared.making.Maker.{Ghosts as Makers}
use Rattle.book.specs.declared.transaction.Txn.{Txn}
use Rattle.csv_rules.specs.Reading.{IsRulesOf, Reads}
use Rattle.csv_rules.specs.declared.faults.RulesFault.{RulesFault}
use Rattle.csv_rules.specs.declared.faults.RulesFault.TheVariants as rules_fault
use Rattle.csv_rules.specs.declared.reading.Rules.{Rules}
use Rattle.csv_entries.specs.Conversion.{conversion_by}
use Rattle.csv_entries.specs.declared.faults.ConvertFault.{ConvertFault}
use Rattle.bank_explanations.specs.FileFaults.{ExplainsFile, is_rules_memory}
use Rattle.bank_explanations.specs.declared.files.Explanation.{Explanation}
use Rattle.bank_explanations.specs.declared.files.Explanation.TheVariants as explanation
use Rattle.live_journal.specs.Loading.{fault_of}
use Rattle.text_store.specs.declared.image.Image.{Image}
use Rattle.text_store.specs.Files.{opened_limit, opened_size}
use Rattle.text_store.specs.Image.{NoImage, image}
use Rattle.desk.specs.Imports.{as_csv, entries_of}
use Rattle.desk.specs.declared.csv_fault.CsvFault.{CsvFault}
use Rattle.follower.specs.declared.fault.FrameFault.TheVariants as frame_fault
use Rattle.desk.specs.States.{State, answer_to}
use Rattle.desk.specs.declared.reply.Reply.{Reply}
use Rattle.desk.specs.declared.reply.Reply.TheVariants as reply
use Rattle.desk.specs.declared.request.Request.{Request}
use Rattle.desk.specs.declared.request.Request.TheVariants as request
use Rattle.desk.proofs.Converted.{bad_line, entries_are}
use Rattle.refusals.specs.Outcomes.{Outcome}
use Rattle.refusals.specs.declared.refusal.Refusal.{Refusal}
use Rattle.refusals.specs.declared.refusal.Refusal.TheVariants as refusal
use Rattle.store_feeding.specs.Feeding.{FeedsStore, RefusedIn}
use Rattle.store_text.specs.Lending.{NoneFailed}
use Rattle.store_text.specs.Shelved.{image_in, image_under, or_empty, second_name}
use Rattle.store_text.specs.declared.refusal.StoreRefusal.{StoreRefusal}
use Rattle.store_text.specs.declared.refusal.StoreRefusal.TheVariants as store_refusal
use Rattle.store_following.specs.Following.{FollowsStore}
use Rattle.store_following.specs.Lines.{refusal_status}
use Rattle.store_following.specs.Ready.{IsFailed, IsReady}
use Rattle.store_following.specs.declared.refusal.FollowRefusal.{FollowRefusal}
use Rattle.store_following.specs.declared.refusal.FollowRefusal.TheVariants as follow
use Rattle.store_following.specs.declared.refusal.Followed.{Followed}
use Rattle.store_making.specs.Making.{MakesStore}
use Rattle.store_making.specs.Refusals.{files_refusal}
use Rattle.store_making.specs.declared.refusal.JournalRefusal.{JournalRefusal}
use Rattle.store_commands.specs.Asking.{EditsStore, Patterns, opened_state, state_under, told_by}
use Rattle.store_commands.specs.Notices.{notices_of}
use Rattle.store_commands.specs.Previews.{Previews, state_in}
use Rattle.store_commands.specs.Replacing.{base_or, replacement}
use Rattle.store_commands.specs.Replies.{line_of as reply_line, status_of as reply_status}
use Rattle.store_commands.specs.declared.preview.Preview.{Preview}
use Rattle.store_commands.specs.declared.preview.Preview.TheVariants as preview
use Rattle.command_words.specs.declared.task.Explaining.{Explaining}
use Rattle.command_words.specs.declared.task.Following.{Following}
use Rattle.command_words.specs.declared.task.Importing.{Importing}
use Rattle.command_words.specs.declared.task.Making.{Making}
use Rattle.command_words.specs.declared.task.Replacing.{Replacing}
use Rattle.command_words.specs.declared.task.Origin.{Origin}
use Rattle.command_words.specs.declared.task.Origin.TheVariants as origins
use Rattle.command_words.specs.declared.task.StoreTask.{StoreTask}
use Rattle.command_words.specs.declared.task.StoreTask.TheVariants as stored
use Rattle.command_line.specs.BankFiles.{ExplainsBankFile, ExplainsBytes, ToldExplained}
use Rattle.command_line.specs.Answers.{FindsText, IsOfFile, IsOfSource, IsStore, status_of}
use Rattle.command_line.specs.Complete.{AnswersWell, AreWithin, CompletesStored, IsDone, NoneRose}
use Rattle.command_line.specs.Files.{LoadsFile, ReadsShelf}
use Rattle.command_line.specs.Frames.{FeedsFrames, FollowsFrames, ToldFollowing, ToldFrames}
use Rattle.command_line.specs.Previewing.{LoadsAny, NotesThen, OrMemory, PreviewsFiles, PreviewsImport, PreviewsNoted, PreviewsStore, ToldAsked, most_stored, or_none}
use Rattle.command_line.specs.Runs.{ReadsText}
use Rattle.command_line.specs.Scenes.{OutputsStay, Scene, SourceRose, scene, soundness, text_in}
use Rattle.command_line.specs.Sources.{file_within}
use Rattle.command_line.specs.StoreRuns.{Ends, RunsStored}
use Rattle.command_line.specs.StoreTasks.{AddedAfter, EditedBy, Goes, ImportsFile, InitsStore, Loads, LoadsImport, MadeAfter, ReplacedAfter, ReplacesText, ToldEdit, ToldLine, ToldMaking, most_imported}
use Rattle.command_line.specs.declared.outside.Outside.{Outside}
use Rattle.command_line.proofs.Completing.{said_memory}
use Rattle.command_line.proofs.PreviewEnds.{first_there, image_there, opened_well, refused_well, second_there}
use Rattle.command_line.proofs.TalkCompleting.{memory_of, ok_is, read_so, unread_by}

-- all was answered, or memory ran out
abbrev GoodAnswer : Result (List ℕ) Refusal → Type 0
GoodAnswer (Ok output) = Unit {0}
GoodAnswer (Err x) = status_of x ≡ 6

ended_well : (status : ℕ) (last new : Scene) (answer : Result (List ℕ) Refusal) → GoodAnswer answer → Ends status last new answer
    → (Rose last.output_faults new.output_faults → ⊥) → (Rose last.error_faults new.error_faults → ⊥) → IsDone status
ended_well status last new (Ok output) good (inl h) no_output no_error = inl h.0
ended_well status last new (Ok output) good (inr h) no_output no_error = absurd (no_output h.1.0)
ended_well status last new (Err x) good ends no_output no_error =
    said_memory x status last.error new.error last.error_faults new.error_faults good no_error ends.0

-- ---- what is said of a bank's file

never_both : (txns : List Txn) (fault : CsvFault) (r : Result (List Txn) CsvFault) → r ≡ Ok txns → r ≡ Err fault → ⊥
never_both txns fault r made refused = cc

-- rules by which it becomes entries aren't refused
rules_good : (rules csv : List ℕ) (before now : ℕ) (last_before last_now : Option (List ℕ)) (fault : RulesFault) → Reads rules before now last_before last_now (Err fault)
    → is_rules_memory fault ≡ false → (txns : List Txn) → entries_of rules csv ≡ Ok txns → (Rose before now → ⊥) → ⊥
rules_good rules csv before now last_before last_now (rules_fault.BadRule line) reads kind txns made patterns =
    never_both txns _ (entries_of rules csv) made (bad_line rules csv line reads.0.is)
rules_good rules csv before now last_before last_now (rules_fault.PatternRefused line) reads kind txns made patterns = patterns reads.refusal.rose
rules_good rules csv before now last_before last_now rules_fault.Memory reads kind txns made patterns = false≢true (sym kind)

-- nor a record of it
record_good : (rules csv : List ℕ) (read : Rules) (fault : ConvertFault) → IsRulesOf rules read → conversion_by read csv ≡ Err fault
    → (txns : List Txn) → entries_of rules csv ≡ Ok txns → ⊥
record_good rules csv read fault is bad txns made =
    never_both txns _ (entries_of rules csv) made (entries_are rules csv read is ∙ ap as_csv bad)

explained_good : (rules csv : List ℕ) (before now : ℕ) (last_before last_now : Option (List ℕ)) (found : Result (Option Explanation) Memory) (r : Result (List ℕ) Refusal)
    → ExplainsFile rules csv before now last_before last_now found → ToldExplained found r
    → (txns : List Txn) → entries_of rules csv ≡ Ok txns → (Rose before now → ⊥) → GoodAnswer r
explained_good rules csv before now last_before last_now (Err memory) (Ok output) finds said txns made patterns = tt
explained_good rules csv before now last_before last_now (Err memory) (Err x) finds said txns made patterns = ap status_of said
explained_good rules csv before now last_before last_now (Ok None) (Ok output) finds said txns made patterns = tt
explained_good rules csv before now last_before last_now (Ok None) (Err x) finds said txns made patterns = absurd said
explained_good rules csv before now last_before last_now (Ok (Some (explanation.Rules fault lines))) r finds said txns made patterns =
    absurd (rules_good rules csv before now last_before last_now fault finds.reads finds.kind txns made patterns)
explained_good rules csv before now last_before last_now (Ok (Some (explanation.Record fault lines))) r finds said txns made patterns =
    absurd (record_good rules csv finds.0.read fault finds.0.is finds.0.finds.0 txns made)

-- ---- what is said of a store

line_good : (status : ℕ) (line : List ℕ) (r : Result (List ℕ) Refusal) → (status ≡ 0) ⊎ (status ≡ 6) → ToldLine status line r → GoodAnswer r
line_good status line (Ok output) good said = tt
line_good status line (Err x) good (inl e) = ap status_of e
line_good status line (Err x) (inl zero) (inr h) = absurd (h.0 zero)
line_good status line (Err x) (inr six) (inr h) = ap status_of h.1 ∙ six

replied_status : (r good : Reply) → reply_status good ≡ 0 → (r ≡ reply.Memory) ⊎ (r ≡ good) → (reply_status r ≡ 0) ⊎ (reply_status r ≡ 6)
replied_status r good zero (inl e) = inr (ap reply_status e)
replied_status r good zero (inr e) = inl (ap reply_status e ∙ zero)

preview_good : (name first second : List ℕ) (shown : Image) (what : Request) (day : ℕ) (p : Patterns) (asked : Result Preview JournalRefusal) (r : Result (List ℕ) Refusal)
    → Previews first second what day p asked → ToldAsked name asked r → image first second ≡ Ok shown → fault_of None shown.text ≡ None
    → reply_status ((answer_to (state_in first second shown) day what).reply) ≡ 0 → (Rose p.before p.now → ⊥) → GoodAnswer r
preview_good name first second shown what day p (Ok (preview.Adds bytes)) (Ok output) previews told is loads zero patterns = tt
preview_good name first second shown what day p (Ok (preview.Adds bytes)) (Err x) previews told is loads zero patterns = absurd told
preview_good name first second shown what day p (Ok (preview.Refused x)) r previews told is loads zero patterns =
    line_good (reply_status x) (reply_line x) r
    (replied_status x ((answer_to (state_in first second shown) day what).reply) zero (refused_well first second shown what day p x is previews patterns)) told
preview_good name first second shown what day p (Err e) (Ok output) previews told is loads zero patterns = tt
preview_good name first second shown what day p (Err e) (Err x) previews told is loads zero patterns =
    let found : Some (image first second) ≡ Some (Ok shown) = ap (λ (i : Result Image NoImage). Some i) is in
    memory_of name e x (opened_well (Some (image first second)) shown found loads e previews.0 previews.1) told

module _ {S D : Type 0} (s : Shelves S D) (g : Disks D) (old new : S) where
  made_by : (what : Making) (text : List ℕ) (made : Result (Unit {0}) JournalRefusal) (r : Result (List ℕ) Refusal) → MakesStore s g what.store text what.limit old new made
      → ToldMaking what.store made r → IsTrue ((s.tells old).files) → fault_of None text ≡ None
      → files_refusal text what.limit (or_empty (s.file old what.store)) (or_empty (s.file old (second_name what.store))) ≡ None → NoneFailed s old new → GoodAnswer r
  made_by what text (Ok done) (Ok output) makes said told loads free none = tt
  made_by what text (Ok done) (Err x) makes said told loads free none = absurd said
  made_by what text (Err e) (Ok output) makes said told loads free none = tt
  made_by what text (Err e) (Err x) makes said told loads free none = memory_of what.store e x (makes.complete told loads free none) said

  edited_by : (name : List ℕ) (what : Request) (day : Day) (p : Patterns) (asked : Result Reply JournalRefusal) (r : Result (List ℕ) Refusal)
      → EditsStore s g name what day p old new asked → ToldEdit name asked r → IsTrue ((s.tells old).files) → (shown : Image) → image_under (s.file old) name ≡ Some (Ok shown)
      → fault_of None shown.text ≡ None → reply_status ((answer_to (state_under (s.file old) name shown) day.0 what).reply) ≡ 0 → NoneFailed s old new
      → (Rose p.before p.now → ⊥) → GoodAnswer r
  edited_by name what day p (Ok x) r edits said told shown is loads zero none patterns =
      line_good (reply_status x) (reply_line x) r
      (replied_status x ((answer_to (state_under (s.file old) name shown) day.0 what).reply) zero (edits.complete told shown is loads none patterns)) said
  edited_by name what day p (Err e) (Ok output) edits said told shown is loads zero none patterns = tt
  edited_by name what day p (Err e) (Err x) edits said told shown is loads zero none patterns = memory_of name e x (edits.complete told shown is loads none patterns) said

  -- files with an image aren't refused for a cause
  not_refused : (found : Option (Result Image NoImage)) (shown : Image) (r : StoreRefusal) → found ≡ Some (Ok shown) → RefusedIn found r → ⊥
  not_refused found shown r is refused = subst (λ (o : Option (Result Image NoImage)). RefusedIn o r) is refused

  fed_by : (name : List ℕ) (shown : Image) (fed : Result (List ℕ) StoreRefusal) (r : Result (List ℕ) Refusal) → FeedsStore s g name old new fed → ToldFrames name fed r
      → IsTrue ((s.tells old).files) → image_under (s.file old) name ≡ Some (Ok shown) → NoneFailed s old new → GoodAnswer r
  fed_by name shown (Ok frames) (Ok output) feeds said told is none = tt
  fed_by name shown (Ok frames) (Err x) feeds said told is none = absurd said
  fed_by name shown (Err e) (Ok output) feeds said told is none = tt
  fed_by name shown (Err store_refusal.ReadFault) (Err x) feeds said told is none = absurd (none.0 (feeds.read_fault refl).0)
  fed_by name shown (Err store_refusal.DiskFault) (Err x) feeds said told is none = absurd (none.1 (feeds.disk_fault refl))
  fed_by name shown (Err store_refusal.Memory) (Err x) feeds said told is none = ap status_of said
  fed_by name shown (Err store_refusal.Absent) (Err x) feeds said told is none =
      absurd (not_refused (image_under (s.file old) name) shown store_refusal.Absent is (feeds.frames told))
  fed_by name shown (Err (store_refusal.NotAStore at)) (Err x) feeds said told is none =
      absurd (not_refused (image_under (s.file old) name) shown (store_refusal.NotAStore at) is (feeds.frames told))
  fed_by name shown (Err (store_refusal.Newer version)) (Err x) feeds said told is none =
      absurd (not_refused (image_under (s.file old) name) shown (store_refusal.Newer version) is (feeds.frames told))
  fed_by name shown (Err (store_refusal.Exists len)) (Err x) feeds said told is none =
      absurd (not_refused (image_under (s.file old) name) shown (store_refusal.Exists len) is (feeds.frames told))
  fed_by name shown (Err (store_refusal.Full size limit)) (Err x) feeds said told is none =
      absurd (not_refused (image_under (s.file old) name) shown (store_refusal.Full size limit) is (feeds.frames told))

-- a source wasn't followed, for want of memory
module _ {J S D : Type 0} (j : Inputs J) (s : Shelves S D) (g : Disks D) (what : Following) (source source_then : J) (old new : S) where
  abbrev Does : Result Followed FollowRefusal → Type 0
  Does made = FollowsStore j s g what.replica what.limit source source_then old new made

  unfollowed : (e : FollowRefusal) → Does (Err e) → IsFailed e → NoneFailed s old new → (Rose (j.faults source) (j.faults source_then) → ⊥) → refusal_status e ≡ 6
  unfollowed (follow.Store store_refusal.ReadFault) follows failed none reads = absurd (none.0 (follows.read_fault refl).0)
  unfollowed (follow.Store store_refusal.DiskFault) follows failed none reads = absurd (none.1 (follows.disk_fault refl))
  unfollowed (follow.Store store_refusal.Memory) follows failed none reads = refl
  unfollowed (follow.Store store_refusal.Absent) follows failed none reads = absurd failed
  unfollowed (follow.Store (store_refusal.NotAStore at)) follows failed none reads = absurd failed
  unfollowed (follow.Store (store_refusal.Newer version)) follows failed none reads = absurd failed
  unfollowed (follow.Store (store_refusal.Exists len)) follows failed none reads = absurd failed
  unfollowed (follow.Store (store_refusal.Full size limit)) follows failed none reads = absurd failed
  unfollowed (follow.Unread frame_fault.ReadFault) follows failed none reads = absurd (reads (follows.input_fault refl))
  unfollowed (follow.Unread frame_fault.Memory) follows failed none reads = refl
  unfollowed (follow.Unread (frame_fault.Cut had)) follows failed none reads = absurd failed
  unfollowed (follow.Unread (frame_fault.BadFrame kind)) follows failed none reads = absurd failed
  unfollowed (follow.Unread (frame_fault.TooLong said limit)) follows failed none reads = absurd failed
  unfollowed follow.NoSnapshot follows failed none reads = absurd failed
  unfollowed follow.Payload follows failed none reads = absurd failed

  followed_by : (made : Result Followed FollowRefusal) (r : Result (List ℕ) Refusal) → Does made → ToldFollowing what.replica made r → IsTrue ((s.tells old).files)
      → IsReady (j.left source) (s.file old) what.replica what.limit → NoneFailed s old new → (Rose (j.faults source) (j.faults source_then) → ⊥) → GoodAnswer r
  followed_by (Ok followed) (Ok output) follows said told ready none reads = tt
  followed_by (Ok followed) (Err x) follows said told ready none reads = ap status_of said
  followed_by (Err e) (Ok output) follows said told ready none reads = tt
  followed_by (Err e) (Err x) follows said told ready none reads =
      ⊎_elim (λ memory. ap status_of memory) (λ line. ap status_of line ∙ unfollowed e follows (follows.complete told ready) none reads) said

-- ---- a shelf that tells what it told

record SameShelf {S D : Type 0} (s : Shelves S D) (old mid : S) : Type 0 where
  told : s.tells mid ≡ s.tells old
  files : (name : List ℕ) → s.file mid name ≡ s.file old name
  later : s.faults old ≤ s.faults mid
  disks : s.disk_faults old ≤ s.disk_faults mid

module _ {S D : Type 0} (s : Shelves S D) where
  same_at : (old mid : S) → mid ≡ old → SameShelf s old mid
  same_at old mid is =
      subst (λ (x : S). SameShelf s old x) (sym is) (record { told = refl; files = λ name. refl; later = omega arith; disks = omega arith })

  same_loaded : (most : ℕ) (name : List ℕ) (old mid : S) (r : Result (List ℕ) Refusal) → LoadsFile s most name old mid r → SameShelf s old mid
  same_loaded most name old mid r loads = record {
    told = loads.tells;
    files = λ other. loads.keeps.files other tt;
    later = loads.later;
    disks = omega (arith, loads.disks);
  }

  same_then : (old mid last : S) → SameShelf s old mid → SameShelf s mid last → SameShelf s old last
  same_then old mid last a b = record {
    told = b.told ∙ a.told;
    files = λ name. b.files name ∙ a.files name;
    later = omega (arith, a.later, b.later);
    disks = omega (arith, a.disks, b.disks);
  }

  rose_from : (a b c : ℕ) → a ≤ b → Rose b c → Rose a c
  rose_from a b c le (inl less) = inl (omega (arith, le, less))
  rose_from a b c le (inr top) = inr top

  module _ (old mid : S) (same : SameShelf s old mid) where
    told_on : IsTrue ((s.tells old).files) → IsTrue ((s.tells mid).files)
    told_on told = ap (λ t. t.files) same.told ∙ told

    none_on : (last : S) → NoneFailed s old last → NoneFailed s mid last
    none_on last none = (
      λ rose. none.0 (rose_from (s.faults old) (s.faults mid) (s.faults last) same.later rose),
      λ rose. none.1 (rose_from (s.disk_faults old) (s.disk_faults mid) (s.disk_faults last) same.disks rose),
    )

    both : {A : Type 0} (F : Option (List ℕ) → Option (List ℕ) → A) (name : List ℕ)
        → F (s.file mid name) (s.file mid (second_name name)) ≡ F (s.file old name) (s.file old (second_name name))
    both F name =
        ap (λ (o : Option (List ℕ)). F o (s.file mid (second_name name))) (same.files name)
        ∙ ap (λ (o : Option (List ℕ)). F (s.file old name) o) (same.files (second_name name))

    state_on : (name : List ℕ) (shown : Image) → state_under (s.file mid) name shown ≡ state_under (s.file old) name shown
    state_on name shown = both (λ a b. opened_state shown (opened_size (or_empty a) (or_empty b)) (opened_limit (or_empty a) (or_empty b))) name

-- ---- runs

-- no write to the output failed, and none fewer to the error output
pub record SameOutputs (old last : Scene) : Type 0 where
  pub output : last.output_faults ≡ old.output_faults
  pub error : old.error_faults ≤ last.error_faults

le_is : (a b : ℕ) → b ≡ a → a ≤ b
le_is a b e = omega (arith, e)

le_then : (a b c : ℕ) → a ≤ b → b ≤ c → a ≤ c
le_then a b c ab bc = omega (arith, ab, bc)

abbrev refused : Refusal → Result (List ℕ) Refusal
refused x = Err x

module _ {J O E S D M : Type 0} (j : Inputs J) (o : Outputs O) (e : Outputs E) (s : Shelves S D) (g : Disks D) (m : Makers M) (day : Day) where
  abbrev sc : Outside J O E S M → Scene
  sc x = scene j o e s m x

  -- the answer is good, and no write to the output failed
  abbrev IsWell : Outside J O E S M → Outside J O E S M → Result (List ℕ) Refusal → Type 0
  IsWell old last r = GoodAnswer r × SameOutputs (scene j o e s m old) (scene j o e s m last)

  stay_same : (old mid : Scene) → OutputsStay old mid → SameOutputs old mid
  stay_same old mid stay = record { output = stay.output_faults; error = le_is old.error_faults mid.error_faults stay.error_faults }

  -- a file wasn't read that is there
  file_unread : (most : ℕ) (name bytes : List ℕ) (old mid : S) (x : Refusal) → LoadsFile s most name old mid (refused x) → IsTrue ((s.tells old).files)
      → file_within most name (s.file old name) ≡ Ok bytes → (Rose (s.faults old) (s.faults mid) → ⊥) → status_of x ≡ 6
  file_unread most name bytes old mid x loads told is none =
      unread_by (origins.File name) x (file_within most name (s.file old name)) bytes is (loads.found told) loads.kind
      (λ fault. none (loads.rose (ap refused fault)).0)
      (λ fault. subst (λ (y : Refusal). IsOfFile y) fault loads.kind)

  read_bytes : (a b : List ℕ) (told : Result (List ℕ) Outcome) → told ≡ Ok b → FindsText (Ok a) told → a ≡ b
  read_bytes a b told is found = ok_is a b (sym found ∙ is)

  -- ---- init

  init_source : (origin : Origin) (old mid : Outside J O E S M) (read : Result (List ℕ) Refusal) → (IsStore origin → ⊥)
      → ReadsShelf s text_limit origin old.shelf mid.shelf read → SameShelf s old.shelf mid.shelf
  init_source origins.Input old mid read plain shelf = same_at s old.shelf mid.shelf shelf
  init_source (origins.File name) old mid read plain shelf = same_loaded s text_limit name old.shelf mid.shelf read shelf
  init_source (origins.Store name) old mid read plain shelf = absurd (plain tt)

  source_unread : (origin : Origin) (old mid : Outside J O E S M) (text : List ℕ) (x : Refusal) → (IsStore origin → ⊥) → ReadsText origin (refused x) (sc old) (sc mid)
      → text_in origin (sc old) ≡ Some (Ok text) → (Rose (j.faults old.streams.input) (j.faults mid.streams.input) → ⊥)
      → (Rose (s.faults old.shelf) (s.faults mid.shelf) → ⊥) → status_of x ≡ 6
  source_unread origin old mid text x plain reads is no_input no_shelf =
      unread_by origin x (Ok text) text refl (read_so origin (sc old) (sc mid) text (refused x) reads is) reads.kind
      (λ fault. source_rose origin plain (reads.rose (ap refused fault)))
      (λ fault. no_disk origin plain (subst (λ (y : Refusal). IsOfSource origin y) fault reads.kind))
    where
      no_disk : (from : Origin) → (IsStore from → ⊥) → IsOfSource from refusal.DiskFault → ⊥
      no_disk origins.Input plain kind = kind
      no_disk (origins.File name) plain kind = kind
      no_disk (origins.Store name) plain kind = plain tt

      source_rose : (from : Origin) → (IsStore from → ⊥) → SourceRose from (sc old) (sc mid) → ⊥
      source_rose origins.Input plain rose = no_input rose
      source_rose (origins.File name) plain rose = no_shelf rose.0
      source_rose (origins.Store name) plain rose = plain tt

  init_by : (what : Making) (old mid last : Outside J O E S M) (read : Result (List ℕ) Refusal) (r : Result (List ℕ) Refusal) (text : List ℕ)
      → ReadsText what.source read (sc old) (sc mid) → SameShelf s old.shelf mid.shelf → MadeAfter s g what read mid.shelf last.shelf r
      → (IsStore what.source → ⊥) → text_in what.source (sc old) ≡ Some (Ok text) → fault_of None text ≡ None → IsTrue ((s.tells old.shelf).files)
      → files_refusal text what.limit (or_empty (s.file old.shelf what.store)) (or_empty (s.file old.shelf (second_name what.store))) ≡ None
      → NoneFailed s old.shelf last.shelf → (Rose (j.faults old.streams.input) (j.faults mid.streams.input) → ⊥) → GoodAnswer r
  init_by what old mid last (Ok t) r text reads same makes plain is loads told free none no_input =
      let at : t ≡ text = sym (ok_is text t (read_so what.source (sc old) (sc mid) text (Ok t) reads is)) in
      let free_mid = both s old.shelf mid.shelf same (λ a b. files_refusal text what.limit (or_empty a) (or_empty b)) what.store ∙ free in
      made_by s g mid.shelf last.shelf what t makes.0 r makes.1 makes.2 (told_on s old.shelf mid.shelf same told)
      (subst (λ (x : List ℕ). fault_of None x ≡ None) (sym at) loads)
      (subst (λ (x : List ℕ). files_refusal x what.limit (or_empty (s.file mid.shelf what.store)) (or_empty (s.file mid.shelf (second_name what.store))) ≡ None) (sym at) free_mid)
      (none_on s old.shelf mid.shelf same last.shelf none)
  init_by what old mid last (Err x) r text reads same makes plain is loads told free none no_input =
      let six = source_unread what.source old mid text x plain reads is no_input
      (λ rose. none.0 (subst (λ (y : S). Rose (s.faults old.shelf) (s.faults y)) (sym makes.1) rose)) in
      subst (λ (y : Result (List ℕ) Refusal). GoodAnswer y) (sym makes.0) six

  pub init_well : (what : Making) (old last : Outside J O E S M) (r : Result (List ℕ) Refusal) (text : List ℕ) → InitsStore sc s g what old last r
      → (IsStore what.source → ⊥) → text_in what.source (sc old) ≡ Some (Ok text) → fault_of None text ≡ None → IsTrue ((s.tells old.shelf).files)
      → files_refusal text what.limit (or_empty (s.file old.shelf what.store)) (or_empty (s.file old.shelf (second_name what.store))) ≡ None
      → NoneFailed s old.shelf last.shelf → (Rose (j.faults old.streams.input) (j.faults last.streams.input) → ⊥) → IsWell old last r
  init_well what old last r text inits plain is loads told free none no_input =
      let streams : last.streams ≡ inits.mid.streams = ap (λ (x : Outside J O E S M). x.streams) inits.rest in
      let errors : last.err ≡ inits.mid.err = ap (λ (x : Outside J O E S M). x.err) inits.rest in (
        init_by what old inits.mid last inits.read r text inits.reads (init_source what.source old inits.mid inits.read plain inits.shelf) inits.makes plain is loads told free none
            (λ rose. no_input (subst (λ x. Rose (j.faults old.streams.input) (j.faults x.input)) (sym streams) rose)),
        record {
          output = ap (λ x. o.faults x.output) streams ∙ inits.reads.outputs.output_faults;
          error = le_is (e.faults old.err) (e.faults last.err) (ap (λ (x : E). e.faults x) errors ∙ inits.reads.outputs.error_faults);
        },
      )

  -- ---- edits

  edit_well : (name : List ℕ) (what : Request) (old mid last : Outside J O E S M) (r : Result (List ℕ) Refusal) → EditedBy s g m name what day mid last r
      → SameShelf s old.shelf mid.shelf → mid.maker ≡ old.maker → SameOutputs (sc old) (sc mid) → IsTrue ((s.tells old.shelf).files) → AnswersWell name what day.0 (sc old)
      → NoneFailed s old.shelf last.shelf → (Rose (m.refusals old.maker) (m.refusals last.maker) → ⊥) → IsWell old last r
  edit_well name what old mid last r edited same maker outputs told well none patterns =
      let image = both s old.shelf mid.shelf same (λ a b. image_in a b) name ∙ well.1 in
      let zero = ap (λ (x : State). reply_status ((answer_to x day.0 what).reply)) (state_on s old.shelf mid.shelf same name well.0) ∙ well.3 in (
        edited_by s g mid.shelf last.shelf name what day (told_by m mid.maker last.maker) edited.asked r edited.edits edited.told (told_on s old.shelf mid.shelf same told) well.0 image
            well.2 zero (none_on s old.shelf mid.shelf same last.shelf none)
            (λ rose. patterns (subst (λ (x : M). Rose (m.refusals x) (m.refusals last.maker)) maker rose)),
        record {
          output = ap (λ (x : Outside J O E S M). o.faults x.streams.output) edited.rest ∙ outputs.output;
          error = le_then (e.faults old.err) (e.faults mid.err) (e.faults last.err) outputs.error
              (le_is (e.faults mid.err) (e.faults last.err) (ap (λ (x : Outside J O E S M). e.faults x.err) edited.rest));
        },
      )

  stayed : (old mid last : Outside J O E S M) (r : Result (List ℕ) Refusal) (x : Refusal) → (r ≡ Err x) × (last ≡ mid) → status_of x ≡ 6 → SameOutputs (sc old) (sc mid)
      → IsWell old last r
  stayed old mid last r x h six outputs = (
    subst (λ (y : Result (List ℕ) Refusal). GoodAnswer y) (sym h.0) six,
    subst (λ (y : Outside J O E S M). SameOutputs (sc old) (sc y)) (sym h.1) outputs,
  )

  add_by : (name : List ℕ) (old mid last : Outside J O E S M) (read : Result (List ℕ) Refusal) (r : Result (List ℕ) Refusal) (entry : List ℕ)
      → ReadsText origins.Input read (sc old) (sc mid) → (mid.shelf ≡ old.shelf) × (mid.maker ≡ old.maker) → AddedAfter s g m name day read mid last r
      → text_in origins.Input (sc old) ≡ Some (Ok entry) → IsTrue ((s.tells old.shelf).files) → AnswersWell name (request.Add entry) day.0 (sc old)
      → NoneFailed s old.shelf last.shelf → (Rose (m.refusals old.maker) (m.refusals last.maker) → ⊥)
      → (Rose (j.faults old.streams.input) (j.faults last.streams.input) → ⊥) → IsWell old last r
  add_by name old mid last (Ok t) r entry reads stays adds is told well none patterns no_input =
      let at : t ≡ entry = sym (ok_is entry t (read_so origins.Input (sc old) (sc mid) entry (Ok t) reads is)) in
      edit_well name (request.Add t) old mid last r adds (same_at s old.shelf mid.shelf stays.0) stays.1 (stay_same (sc old) (sc mid) reads.outputs) told
      (subst (λ (x : List ℕ). AnswersWell name (request.Add x) day.0 (sc old)) (sym at) well) none patterns
  add_by name old mid last (Err x) r entry reads stays adds is told well none patterns no_input =
      stayed old mid last r x adds
      (source_unread origins.Input old mid entry x (λ h. h) reads is
      (λ rose. no_input (subst (λ (y : Outside J O E S M). Rose (j.faults old.streams.input) (j.faults y.streams.input)) (sym adds.1) rose))
      (λ rose. none.0 (subst (λ (y : Outside J O E S M). Rose (s.faults old.shelf) (s.faults y.shelf)) (sym adds.1) rose)))
      (stay_same (sc old) (sc mid) reads.outputs)

  replaced_by : (what : Replacing) (old mid last : Outside J O E S M) (read : Result (List ℕ) Refusal) (r : Result (List ℕ) Refusal) (text : List ℕ)
      → ReadsText what.source read (sc old) (sc mid) → SameShelf s old.shelf mid.shelf → mid.maker ≡ old.maker → ReplacedAfter s g m what day read mid last r
      → (IsStore what.source → ⊥) → text_in what.source (sc old) ≡ Some (Ok text) → IsTrue ((s.tells old.shelf).files)
      → AnswersWell what.store (replacement what.base text (image_under (s.file old.shelf) what.store)) day.0 (sc old)
      → NoneFailed s old.shelf last.shelf → (Rose (m.refusals old.maker) (m.refusals last.maker) → ⊥)
      → (Rose (j.faults old.streams.input) (j.faults last.streams.input) → ⊥) → IsWell old last r
  replaced_by what old mid last (Ok t) r text reads same maker replaced plain is told well none patterns no_input =
      let at : t ≡ text = sym (ok_is text t (read_so what.source (sc old) (sc mid) text (Ok t) reads is)) in
      let asked : Request = request.Replace (base_or what.base replaced.replaces.revision) t in
      let asked_is : asked ≡ replacement what.base text (image_under (s.file old.shelf) what.store) =
      ap (λ (revision : ℕ). request.Replace (base_or what.base revision) t) (replaced.replaces.is (told_on s old.shelf mid.shelf same told))
      ∙ ap (λ (x : List ℕ). replacement what.base x (image_under (s.file mid.shelf) what.store)) at
      ∙ ap (λ (found : Option (Result Image NoImage)). replacement what.base text found) (both s old.shelf mid.shelf same (λ a b. image_in a b) what.store) in
      edit_well what.store asked old mid last r
      (record { asked = replaced.asked; edits = replaced.replaces.edits; told = replaced.told; rest = replaced.rest })
      same maker (stay_same (sc old) (sc mid) reads.outputs) told
      (subst (λ (x : Request). AnswersWell what.store x day.0 (sc old)) (sym asked_is) well) none patterns
  replaced_by what old mid last (Err x) r text reads same maker replaced plain is told well none patterns no_input =
      stayed old mid last r x replaced
      (source_unread what.source old mid text x plain reads is
      (λ rose. no_input (subst (λ (y : Outside J O E S M). Rose (j.faults old.streams.input) (j.faults y.streams.input)) (sym replaced.1) rose))
      (λ rose. none.0 (subst (λ (y : Outside J O E S M). Rose (s.faults old.shelf) (s.faults y.shelf)) (sym replaced.1) rose)))
      (stay_same (sc old) (sc mid) reads.outputs)

  replace_well : (what : Replacing) (old last : Outside J O E S M) (r : Result (List ℕ) Refusal) (text : List ℕ) → ReplacesText sc s g m what day old last r
      → (IsStore what.source → ⊥) → text_in what.source (sc old) ≡ Some (Ok text) → IsTrue ((s.tells old.shelf).files)
      → AnswersWell what.store (replacement what.base text (image_under (s.file old.shelf) what.store)) day.0 (sc old)
      → NoneFailed s old.shelf last.shelf → (Rose (m.refusals old.maker) (m.refusals last.maker) → ⊥)
      → (Rose (j.faults old.streams.input) (j.faults last.streams.input) → ⊥) → IsWell old last r
  replace_well what old last r text replaces plain is told well none patterns no_input =
      replaced_by what old replaces.mid last replaces.read r text replaces.reads (init_source what.source old replaces.mid replaces.read plain replaces.shelf) replaces.maker
      replaces.replaces plain is told well none patterns no_input

  unchanged : (old : Outside J O E S M) (mid : S) → SameOutputs (sc old) (sc (record old { shelf = mid }))
  unchanged old mid = record { output = refl; error = le_is (e.faults old.err) (e.faults old.err) refl }

  -- ---- files that are loaded first

  -- a file that is there was loaded, and what then came of it is well
  loads_by : (most : ℕ) (name bytes : List ℕ) (Then : List ℕ → Outside J O E S M → Outside J O E S M → Result (List ℕ) Refusal → Type 0) (old last : Outside J O E S M)
      (mid shelf : S) (read : Result (List ℕ) Refusal) (r : Result (List ℕ) Refusal) → SameShelf s old.shelf mid → LoadsFile s most name mid shelf read
      → Goes Then read (record old { shelf = shelf }) last r → file_within most name (s.file old.shelf name) ≡ Ok bytes → IsTrue ((s.tells old.shelf).files)
      → NoneFailed s old.shelf last.shelf → (SameShelf s old.shelf shelf → Then bytes (record old { shelf = shelf }) last r → IsWell old last r) → IsWell old last r
  loads_by most name bytes Then old last mid shelf (Ok t) r same loads goes is told none rest =
      let here : file_within most name (s.file mid name) ≡ Ok bytes = ap (λ (x : Option (List ℕ)). file_within most name x) (same.files name) ∙ is in
      let at : t ≡ bytes = read_bytes t bytes (file_within most name (s.file mid name)) here (loads.found (told_on s old.shelf mid same told)) in
      rest (same_then s old.shelf mid shelf same (same_loaded s most name mid shelf (Ok t) loads))
      (subst (λ (x : List ℕ). Then x (record old { shelf = shelf }) last r) at goes)
  loads_by most name bytes Then old last mid shelf (Err x) r same loads goes is told none rest =
      let here : file_within most name (s.file mid name) ≡ Ok bytes = ap (λ (y : Option (List ℕ)). file_within most name y) (same.files name) ∙ is in
      stayed old (record old { shelf = shelf }) last r x goes
      (file_unread most name bytes mid shelf x loads (told_on s old.shelf mid same told) here
      (λ rose. (none_on s old.shelf mid same last.shelf none).0 (subst (λ (y : Outside J O E S M). Rose (s.faults mid) (s.faults y.shelf)) (sym goes.1) rose)))
      (unchanged old shelf)

  -- and so a file and its rules
  import_by : (what : Importing) (Then : List ℕ → Request → Day → Outside J O E S M → Outside J O E S M → Result (List ℕ) Refusal → Type 0) (old last : Outside J O E S M)
      (r : Result (List ℕ) Refusal) (csv rules : List ℕ) → LoadsImport s what day Then old last r → file_within most_imported what.file (s.file old.shelf what.file) ≡ Ok csv
      → file_within most_imported what.rules (s.file old.shelf what.rules) ≡ Ok rules → IsTrue ((s.tells old.shelf).files) → NoneFailed s old.shelf last.shelf
      → ((shelf : S) → SameShelf s old.shelf shelf → Then what.store (request.Import what.name rules csv) day (record old { shelf = shelf }) last r → IsWell old last r)
      → IsWell old last r
  import_by what Then old last r csv rules loads is is_rules told none rest =
      loads_by most_imported what.file csv (λ bytes. Loads s most_imported what.rules (λ text. Then what.store (request.Import what.name text bytes) day)) old last old.shelf loads.mid loads.read r
      (same_at s old.shelf old.shelf refl) loads.reads loads.goes is told none
      (λ same more. loads_by most_imported what.rules rules (λ text. Then what.store (request.Import what.name text csv) day) old last loads.mid more.mid more.read r
      same more.reads more.goes is_rules told none (λ again goes. rest more.mid again goes))

  import_well : (what : Importing) (old last : Outside J O E S M) (r : Result (List ℕ) Refusal) (csv rules : List ℕ) → ImportsFile s g m what day old last r
      → file_within most_imported what.file (s.file old.shelf what.file) ≡ Ok csv → file_within most_imported what.rules (s.file old.shelf what.rules) ≡ Ok rules
      → IsTrue ((s.tells old.shelf).files) → AnswersWell what.store (request.Import what.name rules csv) day.0 (sc old)
      → NoneFailed s old.shelf last.shelf → (Rose (m.refusals old.maker) (m.refusals last.maker) → ⊥) → IsWell old last r
  import_well what old last r csv rules imports is is_rules told well none patterns =
      import_by what (EditedBy s g m) old last r csv rules imports is is_rules told none
      (λ shelf same edited. edit_well what.store (request.Import what.name rules csv) old (record old { shelf = shelf }) last r edited same refl (unchanged old shelf) told well none patterns)

  -- ---- a file of a bank that is explained

  bytes_well : (csv rules : List ℕ) (old last : Outside J O E S M) (shelf : S) (r : Result (List ℕ) Refusal) (txns : List Txn)
      → ExplainsBytes m csv rules (record old { shelf = shelf }) last r → entries_of rules csv ≡ Ok txns
      → (Rose (m.refusals old.maker) (m.refusals last.maker) → ⊥) → IsWell old last r
  bytes_well csv rules old last shelf r txns judged made patterns = (
    explained_good rules csv (m.refusals old.maker) (m.refusals last.maker) (m.last_refused old.maker) (m.last_refused last.maker) judged.found r judged.finds judged.told
        txns made patterns,
    record {
      output = ap (λ (x : Outside J O E S M). o.faults x.streams.output) judged.rest;
      error = le_is (e.faults old.err) (e.faults last.err) (ap (λ (x : Outside J O E S M). e.faults x.err) judged.rest);
    },
  )

  explain_well : (what : Explaining) (old last : Outside J O E S M) (r : Result (List ℕ) Refusal) (csv rules : List ℕ) (txns : List Txn) → ExplainsBankFile s m what old last r
      → file_within most_imported what.file (s.file old.shelf what.file) ≡ Ok csv → file_within most_imported what.rules (s.file old.shelf what.rules) ≡ Ok rules
      → IsTrue ((s.tells old.shelf).files) → entries_of rules csv ≡ Ok txns
      → NoneFailed s old.shelf last.shelf → (Rose (m.refusals old.maker) (m.refusals last.maker) → ⊥) → IsWell old last r
  explain_well what old last r csv rules txns explains is is_rules told made none patterns =
      loads_by most_imported what.file csv (λ bytes. Loads s most_imported what.rules (ExplainsBytes m bytes)) old last old.shelf explains.mid explains.read r
      (same_at s old.shelf old.shelf refl) explains.reads explains.goes is told none
      (λ same more. loads_by most_imported what.rules rules (ExplainsBytes m csv) old last explains.mid more.mid more.read r
      same more.reads more.goes is_rules told none (λ again judged. bytes_well csv rules old last more.mid r txns judged made patterns))

  -- ---- a dry run

  files_well : (name : List ℕ) (what : Request) (old last : Outside J O E S M) (shelf : S) (r : Result (List ℕ) Refusal)
      → PreviewsFiles m name (or_empty (s.file old.shelf name)) (or_empty (s.file old.shelf (second_name name))) what day (record old { shelf = shelf }) last r
      → AnswersWell name what day.0 (sc old) → (Rose (m.refusals old.maker) (m.refusals last.maker) → ⊥) → IsWell old last r
  files_well name what old last shelf r files well patterns = (
    preview_good name (or_empty (s.file old.shelf name)) (or_empty (s.file old.shelf (second_name name))) well.0 what day.0 (told_by m old.maker last.maker) files.asked r
        files.previews files.told (image_there (s.file old.shelf name) (s.file old.shelf (second_name name)) well.0 well.1) well.2 well.3 patterns,
    record {
      output = ap (λ (x : Outside J O E S M). o.faults x.streams.output) files.rest;
      error = le_is (e.faults old.err) (e.faults last.err) (ap (λ (x : Outside J O E S M). e.faults x.err) files.rest);
    },
  )

  abbrev PreviewsSecond : List ℕ → List ℕ → Request → List ℕ → Outside J O E S M → Outside J O E S M → Result (List ℕ) Refusal → Type 0
  PreviewsSecond name first what second = PreviewsFiles m name first second what day

  kept_shelf : (name first : List ℕ) (what : Request) (old last : Outside J O E S M) (shelf : S) (found : Result (List ℕ) Refusal) (r : Result (List ℕ) Refusal)
      → Goes (PreviewsSecond name first what) found (record old { shelf = shelf }) last r → last.shelf ≡ shelf
  kept_shelf name first what old last shelf (Ok bytes) r goes = ap (λ (x : Outside J O E S M). x.shelf) goes.rest
  kept_shelf name first what old last shelf (Err x) r goes = ap (λ (y : Outside J O E S M). y.shelf) goes.1

  second_well : (name : List ℕ) (what : Request) (old last : Outside J O E S M) (mid shelf : S) (read : Result (List ℕ) Refusal) (r : Result (List ℕ) Refusal)
      → SameShelf s old.shelf mid → LoadsFile s most_stored (second_name name) mid shelf read
      → Goes (PreviewsSecond name (or_empty (s.file old.shelf name)) what) (or_none read) (record old { shelf = shelf }) last r → AreWithin name (sc old)
      → IsTrue ((s.tells old.shelf).files) → AnswersWell name what day.0 (sc old) → NoneFailed s old.shelf last.shelf
      → (Rose (m.refusals old.maker) (m.refusals last.maker) → ⊥) → IsWell old last r
  second_well name what old last mid shelf read r same loads goes within told well none patterns =
      let first = or_empty (s.file old.shelf name) in
      let beside = second_name name in
      let F : Result (List ℕ) Refusal → Type 0 = λ found. Goes (PreviewsSecond name first what) found (record old { shelf = shelf }) last r in
      let kept = kept_shelf name first what old last shelf (or_none read) r goes in
      let found = subst (λ (x : Option (List ℕ)). FindsText read (file_within most_stored beside x)) (same.files beside) (loads.found (told_on s old.shelf mid same told)) in
      ⊎_elim (λ is. files_well name what old last shelf r (subst F is goes) well patterns)
      (λ is. stayed old (record old { shelf = shelf }) last r refusal.Memory (subst F is goes) refl (unchanged old shelf))
      (second_there most_stored beside (s.file old.shelf beside) read within.1 found loads.kind
      (λ fault. (none_on s old.shelf mid same last.shelf none).0 (subst (λ (x : S). Rose (s.faults mid) (s.faults x)) (sym kept) (loads.rose fault).0)))

  store_well : (name : List ℕ) (what : Request) (old last : Outside J O E S M) (mid : S) (r : Result (List ℕ) Refusal) → SameShelf s old.shelf mid
      → PreviewsStore s m name what day (record old { shelf = mid }) last r → AreWithin name (sc old) → IsTrue ((s.tells old.shelf).files)
      → AnswersWell name what day.0 (sc old) → NoneFailed s old.shelf last.shelf → (Rose (m.refusals old.maker) (m.refusals last.maker) → ⊥) → IsWell old last r
  store_well name what old last mid r same previews within told well none patterns =
      loads_by most_stored name (or_empty (s.file old.shelf name))
      (λ first. OrMemory (LoadsAny s most_stored (second_name name) (λ second. PreviewsFiles m name first second what day))) old last mid previews.mid previews.read r
      same previews.reads previews.goes (first_there most_stored name (s.file old.shelf name) (s.file old.shelf (second_name name)) well.0 well.1 within.0) told none
      (λ again rest. ⊎_elim (λ any. second_well name what old last previews.mid any.mid any.read r again any.reads any.goes within told well none patterns)
      (λ h. stayed old (record old { shelf = previews.mid }) last r refusal.Memory h refl (unchanged old previews.mid)) rest)

  -- its notices were written, or not
  after_notes : (name : List ℕ) (what : Request) (old last : Outside J O E S M) (shelf : S) (r : Result (List ℕ) Refusal) → SameShelf s old.shelf shelf
      → NotesThen sc (notices_of what) (PreviewsStore s m name what day) (record old { shelf = shelf }) last r → AreWithin name (sc old) → IsTrue ((s.tells old.shelf).files)
      → AnswersWell name what day.0 (sc old) → NoneFailed s old.shelf last.shelf → (Rose (m.refusals old.maker) (m.refusals last.maker) → ⊥) → IsWell old last r
  after_notes name what old last shelf r same notes within told well none patterns =
      let done = store_well name what (record old { err = notes.err }) last shelf r same notes.goes within told well none patterns in (
        done.0,
        record {
          output = done.1.output;
          error = le_then (e.faults old.err) (e.faults notes.err) (e.faults last.err) notes.notes.later done.1.error;
        },
      )

  noted_well : (name : List ℕ) (what : Request) (old last : Outside J O E S M) (shelf : S) (r : Result (List ℕ) Refusal) → SameShelf s old.shelf shelf
      → PreviewsNoted sc s m name what day (record old { shelf = shelf }) last r → AreWithin name (sc old) → IsTrue ((s.tells old.shelf).files)
      → AnswersWell name what day.0 (sc old) → NoneFailed s old.shelf last.shelf → (Rose (m.refusals old.maker) (m.refusals last.maker) → ⊥) → IsWell old last r
  noted_well name what old last shelf r same noted within told well none patterns =
      ⊎_elim (λ notes. after_notes name what old last shelf r same notes within told well none patterns)
      (λ h. stayed old (record old { shelf = shelf }) last r refusal.Memory h refl (unchanged old shelf)) noted

  preview_well : (what : Importing) (old last : Outside J O E S M) (r : Result (List ℕ) Refusal) (csv rules : List ℕ) → PreviewsImport sc s m what day old last r
      → file_within most_imported what.file (s.file old.shelf what.file) ≡ Ok csv → file_within most_imported what.rules (s.file old.shelf what.rules) ≡ Ok rules
      → AreWithin what.store (sc old) → IsTrue ((s.tells old.shelf).files) → AnswersWell what.store (request.Import what.name rules csv) day.0 (sc old)
      → NoneFailed s old.shelf last.shelf → (Rose (m.refusals old.maker) (m.refusals last.maker) → ⊥) → IsWell old last r
  preview_well what old last r csv rules previews is is_rules within told well none patterns =
      import_by what (PreviewsNoted sc s m) old last r csv rules previews is is_rules told none
      (λ shelf same noted. noted_well what.store (request.Import what.name rules csv) old last shelf r same noted within told well none patterns)

  -- ---- frames

  feed_well : (name : List ℕ) (old last : Outside J O E S M) (r : Result (List ℕ) Refusal) (shown : Image) → FeedsFrames s g name old last r
      → IsTrue ((s.tells old.shelf).files) → image_under (s.file old.shelf) name ≡ Some (Ok shown) → NoneFailed s old.shelf last.shelf → IsWell old last r
  feed_well name old last r shown feeds told is none = (
    fed_by s g old.shelf last.shelf name shown feeds.fed r feeds.feeds feeds.told told is none,
    record {
      output = ap (λ (x : Outside J O E S M). o.faults x.streams.output) feeds.rest;
      error = le_is (e.faults old.err) (e.faults last.err) (ap (λ (x : Outside J O E S M). e.faults x.err) feeds.rest);
    },
  )

  follow_well : (what : Following) (old last : Outside J O E S M) (r : Result (List ℕ) Refusal) → FollowsFrames j s g what old last r → IsTrue ((s.tells old.shelf).files)
      → IsReady (j.left old.streams.input) (s.file old.shelf) what.replica what.limit → NoneFailed s old.shelf last.shelf
      → (Rose (j.faults old.streams.input) (j.faults last.streams.input) → ⊥) → IsWell old last r
  follow_well what old last r follows told ready none reads = (
    followed_by j s g what old.streams.input last.streams.input old.shelf last.shelf follows.made r follows.follows follows.told told ready none reads,
    record {
      output = ap (λ (x : Outside J O E S M). o.faults x.streams.output) follows.rest;
      error = le_is (e.faults old.err) (e.faults last.err) (ap (λ (x : Outside J O E S M). e.faults x.err) follows.rest);
    },
  )

-- ---- a run

module _ {J O E S D M : Type 0} (j : Inputs J) (o : Outputs O) (e : Outputs E) (s : Shelves S D) (g : Disks D) (m : Makers M) (day : Day) (status : ℕ) (old new : Outside J O E S M) where
  abbrev pub RunsIt : StoreTask → Type 0
  RunsIt what = RunsStored j (scene j o e s m) (soundness j o e s) s g m what day status old new

  module _ (what : StoreTask) (runs : RunsIt what) (none : NoneRose (scene j o e s m old) (scene j o e s m new)) where
    none_last : NoneFailed s old.shelf runs.last.shelf
    none_last = (
      λ rose. none.shelf (subst (λ (x : S). Rose (s.faults old.shelf) (s.faults x)) (sym runs.stays.0) rose),
      λ rose. none.disks (subst (λ (x : S). Rose (s.disk_faults old.shelf) (s.disk_faults x)) (sym runs.stays.0) rose),
    )

    input_last : Rose (j.faults old.streams.input) (j.faults runs.last.streams.input) → ⊥
    input_last rose = none.reads (subst (λ (x : J). Rose (j.faults old.streams.input) (j.faults x)) (sym runs.stays.2) rose)

    patterns_last : (Rose (m.refusals old.maker) (m.refusals new.maker) → ⊥) → Rose (m.refusals old.maker) (m.refusals runs.last.maker) → ⊥
    patterns_last patterns rose = patterns (subst (λ (x : M). Rose (m.refusals old.maker) (m.refusals x)) (sym runs.stays.1) rose)

    done : IsWell j o e s g m day old runs.last runs.answer → IsDone status
    done well =
        ended_well status (scene j o e s m runs.last) (scene j o e s m new) runs.answer well.0 runs.ends
        (λ rose. none.output (subst (λ (n : ℕ). Rose n (o.faults new.streams.output)) well.1.output rose))
        (λ rose. none.error (rose_from s (e.faults old.err) (e.faults runs.last.err) (e.faults new.err) well.1.error rose))

    unread_well : (runs.answer ≡ Err refusal.Memory) × (runs.last ≡ old) → IsWell j o e s g m day old runs.last runs.answer
    unread_well h = (
      subst (λ (y : Result (List ℕ) Refusal). GoodAnswer y) (sym h.0) refl,
      subst (λ (y : Outside J O E S M). SameOutputs (scene j o e s m old) (scene j o e s m y)) (sym h.1) (record { output = refl; error = le_is (e.faults old.err) (e.faults old.err) refl }),
    )

  pub complete_stored : (what : StoreTask) → RunsIt what → CompletesStored what day.0 status (scene j o e s m old) (scene j o e s m new)
  complete_stored (stored.Init what) runs = λ none plain text is loads told free.
      done (stored.Init what) runs none
      (⊎_elim (λ inits. init_well j o e s g m day what old runs.last runs.answer text inits plain is loads told free (none_last (stored.Init what) runs none) (input_last (stored.Init what) runs none))
      (λ h. unread_well (stored.Init what) runs none h) runs.answers)
  complete_stored (stored.Add name) runs = λ none patterns told entry is well.
      done (stored.Add name) runs none
      (⊎_elim (λ adds. add_by j o e s g m day name old adds.mid runs.last adds.read runs.answer entry adds.reads adds.stays adds.adds is told well (none_last (stored.Add name) runs none)
      (patterns_last (stored.Add name) runs none patterns) (input_last (stored.Add name) runs none))
      (λ h. unread_well (stored.Add name) runs none h) runs.answers)
  complete_stored (stored.Import what) runs = λ none patterns told csv rules is is_rules well.
      done (stored.Import what) runs none
      (⊎_elim (λ imports. import_well j o e s g m day what old runs.last runs.answer csv rules imports is is_rules told well
      (none_last (stored.Import what) runs none) (patterns_last (stored.Import what) runs none patterns))
      (λ h. unread_well (stored.Import what) runs none h) runs.answers)
  complete_stored (stored.Preview what) runs = λ none patterns told csv rules is is_rules within well.
      done (stored.Preview what) runs none
      (⊎_elim (λ previews. preview_well j o e s g m day what old runs.last runs.answer csv rules previews is is_rules within told well
      (none_last (stored.Preview what) runs none) (patterns_last (stored.Preview what) runs none patterns))
      (λ h. unread_well (stored.Preview what) runs none h) runs.answers)
  complete_stored (stored.Replace what) runs = λ none patterns plain told text is well.
      done (stored.Replace what) runs none
      (⊎_elim (λ replaces. replace_well j o e s g m day what old runs.last runs.answer text replaces plain is told well (none_last (stored.Replace what) runs none)
      (patterns_last (stored.Replace what) runs none patterns) (input_last (stored.Replace what) runs none))
      (λ h. unread_well (stored.Replace what) runs none h) runs.answers)
  complete_stored (stored.Explain what) runs = λ none patterns told csv rules is is_rules txns made.
      done (stored.Explain what) runs none
      (⊎_elim (λ explains. explain_well j o e s g m day what old runs.last runs.answer csv rules txns explains is is_rules told made
      (none_last (stored.Explain what) runs none) (patterns_last (stored.Explain what) runs none patterns))
      (λ h. unread_well (stored.Explain what) runs none h) runs.answers)
  complete_stored (stored.Feed name) runs = λ none told shown is.
      done (stored.Feed name) runs none
      (⊎_elim (λ feeds. feed_well j o e s g m day name old runs.last runs.answer shown feeds told is (none_last (stored.Feed name) runs none))
      (λ h. unread_well (stored.Feed name) runs none h) runs.answers)
  complete_stored (stored.Follow what) runs = λ none told ready.
      done (stored.Follow what) runs none
      (⊎_elim (λ follows. follow_well j o e s g m day what old runs.last runs.answer follows told ready
      (none_last (stored.Follow what) runs none) (input_last (stored.Follow what) runs none))
      (λ h. unread_well (stored.Follow what) runs none h) runs.answers)
