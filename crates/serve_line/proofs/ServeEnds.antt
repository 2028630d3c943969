-- How a run of `serve` ends.
use Rattle.std.proofs.Common.{◌≡◌, ◌⊎◌, ◌∙◌, inl, inr, ℕ, ◌-◌, ◌^◌, ◌<◌, Bool, true, false, List, Option, Some, IfSome, Result, Ok, Err, refl, sym, ap, ap₂, subst, arith}
use Rattle.std.specs.Prelude.{MatchBool}
use Rattle.std.proofs.lemmas.Bool.{false≢true}
use Rattle.hl_base.specs.Causes.{Rose}
use Rattle.hl_base.specs.declared.disk.Disk.{Ghosts as Disks}
use Rattle.hl_base.specs.declared.outside.Sink.{Ghosts as Outputs}
use Rattle.hl_base.specs.declared.shelf.Shelf.{Ghosts as Shelves}
use Rattle.refusals.specs.Errors.{usage_line}
use Rattle.refusals.specs.Refusing.{Refuses}
use Rattle.refusals.specs.declared.refusal.Refusal.{Refusal}
use Rattle.refusals.specs.declared.refusal.Refusal.TheVariants as refusal
use Rattle.turn_lock.specs.declared.known.Entered.{Entered}
use Rattle.desk.specs.declared.desk.Desk.{Desk}
use Rattle.desk.specs.Desks.{state_of}
use Rattle.desk.specs.Entries.{Entry}
use Rattle.shared_desk.specs.Histories.{IsLegal, Loads}
use Rattle.shared_desk.specs.Stays.{KitTold}
use Rattle.desk_team.specs.Houses.{HouseTold, IsFaultless}
use Rattle.serve_commands.specs.Answering.{IsComplete, IsMemory, post_of}
use Rattle.serve_commands.specs.Stores.{IsUnopened, ServesStore}
use Rattle.serve_commands.specs.declared.answer.Ended.{Ended}
use Rattle.serve_commands.specs.declared.answer.Serving.{Serving as Asked}
use Rattle.serve_commands.specs.declared.outcome.Tally.{Tally}
use Rattle.serve_commands.specs.declared.outcome.Unserved.{Unserved}
use Rattle.serve_commands.specs.declared.outcome.Unserved.TheVariants as unserved
use Rattle.serve_commands.specs.declared.store.Post.{Post}
use Rattle.command_line.specs.Answers.{Says, line_of, status_of}
use Rattle.command_line.specs.Complete.{IsDone}
use Rattle.serve_line.specs.Runs.{AnswersAll, AnswersEach, AnswersOrMemory, AnswersServe, CompletesServe, CompletesSurely, CountsNone, EndsServe, EndsSoundly, HasRoomFor, IsEnd, WasntOpened, IsWritten, NoneFailed, ServesSite, Sinks, door_fault_line, end_status}
use Rattle.serve_line.specs.Words.{no_reading_cause}
use Rattle.web_messages.specs.declared.page.Page.{Page}
use Rattle.serve_line.specs.declared.program.Site.{Site}
use Rattle.serve_line.specs.declared.words.NoReading.{NoReading}
use Rattle.serve_line.specs.declared.words.NoReading.TheVariants as no_reading

-- ---- words that ask for nothing

-- words without a reading are refused so, or memory ran out
usage_kind : (x : Refusal) → Refuses x 2 usage_line → (x ≡ refusal.Line 2 usage_line) ⊎ (x ≡ refusal.Memory)
usage_kind (refusal.Line status line) h = inl (ap₂ refusal.Line h.0 h.1)
usage_kind (refusal.Pattern what line) h = absurd h
usage_kind refusal.ReadFault h = absurd h
usage_kind refusal.DiskFault h = absurd h
usage_kind refusal.Memory h = inr refl

abbrev refused : Refusal → Result Ended Refusal
refused x = Err x

module _ {J O E S D M H A K : Type 0} (s : Shelves S D) (g : Disks D) (tell : A → KitTold K) (coming sent : K → Option (List ℕ))
    (told : H → HouseTold A) (old : Site J O E S M H) where
  abbrev Unanswered : Result Asked NoReading → Refusal → Type 0
  Unanswered read x = AnswersOrMemory s g tell coming sent told read old old (Err x)

  refused_usage : (x : Refusal) → (x ≡ refusal.Line 2 usage_line) ⊎ (x ≡ refusal.Memory) → Unanswered (Err no_reading.Usage) x
  refused_usage x (inl h) = inl (ap refused h, refl)
  refused_usage x (inr h) = inr (ap refused h, refl)

  -- the refusal of words that ask for nothing
  pub unasked : (read : Result Asked NoReading) (u : NoReading) (x : Refusal) → IfSome (no_reading_cause u) (λ f. read ≡ Err f)
      → Refuses x 2 usage_line → (u ≡ no_reading.Memory → x ≡ refusal.Memory) → Unanswered read x
  unasked read no_reading.Usage x is usage memory =
      subst (λ (r : Result Asked NoReading). Unanswered r x) (sym is) (refused_usage x (usage_kind x usage))
  unasked read no_reading.Memory x is usage memory =
      inr (ap refused (memory refl), refl)

  -- what is answered to words that ask for something
  pub asked_answer : (read : Result Asked NoReading) (asked : Asked) (new : Site J O E S M H) (result : Result Ended Refusal) → read ≡ Ok asked
      → ServesSite s g tell coming sent told asked old new result → AnswersOrMemory s g tell coming sent told read old new result
  asked_answer read asked new result is h =
      subst (λ (r : Result Asked NoReading). AnswersOrMemory s g tell coming sent told r old new result) (sym is) (inl h)

-- ---- how each request is answered

module _ {S D A K : Type 0} (s : Shelves S D) (g : Disks D) (tell : A → KitTold K) (coming sent : K → Option (List ℕ)) (page : Page)
    (name : List ℕ) (post : Post) (old new : S) (house house_now : HouseTold A) where
  pub answered_all : ((opening last : Desk D g) (history : List (Entered Entry)) → IsLegal opening history last → Loads (state_of opening)
      → AnswersEach opening history last) → (served : Result Tally Unserved)
      → (h : ServesStore s g name tell coming sent page post old new house house_now served)
      → AnswersAll s g tell coming sent page name post old new house house_now served h
  answered_all law (Ok told) h = law h.opening h.last h.history h.hosts.team.legal h.loads
  answered_all law (Err e) h = tt

-- ---- what is said

pub is_end : (failed : Bool) (status : ℕ) (error now : Option (List ℕ)) (faults faults_now : ℕ) → (failed ≡ false → (status ≡ 0) × (now ≡ error))
    → (failed ≡ true → Says status 9 door_fault_line error now faults faults_now) → IsEnd failed status error now faults faults_now
is_end false status error now faults faults_now well fault = well refl
is_end true status error now faults faults_now well fault = fault refl

-- ---- where nothing failed

said_done : (status own : ℕ) (line : List ℕ) (error now : Option (List ℕ)) (faults faults_now : ℕ) → (Rose faults faults_now → ⊥) → own ≡ 6
    → Says status own line error now faults faults_now → IsDone status
said_done status own line error now faults faults_now none six (inl h) = inr (h.0 ∙ six)
said_done status own line error now faults faults_now none six (inr h) = absurd (none h.1)

module _ (status : ℕ) (before now : Sinks) (none : NoneFailed before now) where
  refused_done : (x : Refusal) → IsMemory x → EndsServe (Err x) status before now → IsDone status
  refused_done refusal.Memory memory h =
      said_done status 6 (line_of refusal.Memory) before.error now.error before.error_faults now.error_faults none.error refl h.0
  refused_done (refusal.Line own line) memory h =
      said_done status own line before.error now.error before.error_faults now.error_faults none.error memory h.0
  refused_done (refusal.Pattern what line) memory h = absurd memory
  refused_done refusal.ReadFault memory h = absurd memory
  refused_done refusal.DiskFault memory h = absurd memory

  written_done : (failed : Bool) (line : List ℕ) → failed ≡ false → IsWritten failed line status before now → IsDone status
  written_done true line well h = absurd (false≢true (sym well))
  written_done false line well (inl h) = inl h.0.0
  written_done false line well (inr h) = absurd (none.output h.1)

  module _ {J O E S D M H A K : Type 0} (s : Shelves S D) (g : Disks D) (tell : A → KitTold K) (coming sent : K → Option (List ℕ))
      (told : H → HouseTold A) (asked : Asked) (old new : Site J O E S M H) where
    abbrev Stored : Result Tally Unserved → Type 0
    Stored served = ServesStore s g asked.store tell coming sent asked.page (post_of asked) old.outside.shelf new.outside.shelf
        (told old.house) (told new.house) served

    abbrev Done : Type 0
    Done = IsDone status ⊎ WasntOpened s g tell coming sent told asked old new

    done_by : (served : Result Tally Unserved) (answer : Result Ended Refusal) → Stored served → IsComplete served answer
        → EndsServe answer status before now → Done
    done_by (Err (unserved.Store e)) answer serves complete ends = inr (e, serves)
    done_by (Ok tally) (Ok said) serves complete ends = inl (written_done said.failed said.line complete ends)
    done_by (Ok tally) (Err x) serves complete ends = inl (refused_done x complete ends)
    done_by (Err (unserved.House fault)) (Ok said) serves complete ends = inl (written_done said.failed said.line complete ends)
    done_by (Err (unserved.House fault)) (Err x) serves complete ends = inl (refused_done x complete ends)

    -- what was answered to words that ask for something is done
    served_done : (answer : Result Ended Refusal) → AnswersOrMemory s g tell coming sent told (Ok asked) old new answer
        → (Rose (told old.house).faults (told new.house).faults → ⊥) → EndsServe answer status before now → Done
    served_done answer (inl h) quiet ends = done_by h.serves.served answer h.serves.serves (h.serves.complete quiet) ends
    served_done answer (inr h) quiet ends =
        inl (refused_done refusal.Memory tt (subst (λ (r : Result Ended Refusal). EndsServe r status before now) h.0 ends))

module _ {J O E S D M H A K : Type 0} (s : Shelves S D) (g : Disks D) (tell : A → KitTold K) (coming sent : K → Option (List ℕ))
    (told : H → HouseTold A) (old new : Site J O E S M H) where
  pub completes : (read : Result Asked NoReading) (status : ℕ) (before now : Sinks) (answer : Result Ended Refusal)
      → AnswersOrMemory s g tell coming sent told read old new answer → EndsServe answer status before now
      → CompletesServe s g tell coming sent told read status before now old new
  completes (Ok asked) status before now answer h ends = λ quiet none.
      served_done status before now none s g tell coming sent told asked old new answer h quiet ends
  completes (Err u) status before now answer h ends = tt

-- ---- where nothing was to fail

not_risen : (before now : ℕ) → now ≡ before → before < 2 ^ 64 - 1 → Rose before now → ⊥
not_risen before now same small (inl less) = omega (arith, same, less)
not_risen before now same small (inr last) = omega (arith, same, small, last)

refused_surely : (status : ℕ) (x : Refusal) → IsMemory x → status ≡ status_of x → IsDone status
refused_surely status refusal.Memory memory is = inr is
refused_surely status (refusal.Line own line) memory is = inr (is ∙ memory)
refused_surely status (refusal.Pattern what line) memory is = absurd memory
refused_surely status refusal.ReadFault memory is = absurd memory
refused_surely status refusal.DiskFault memory is = absurd memory

module _ {J O E S D M H A K : Type 0} (s : Shelves S D) (g : Disks D) (tell : A → KitTold K) (coming sent : K → Option (List ℕ))
    (told : H → HouseTold A) (asked : Asked) (old new : Site J O E S M H) where
  abbrev Held : Result Tally Unserved → Type 0
  Held served = ServesStore s g asked.store tell coming sent asked.page (post_of asked) old.outside.shelf new.outside.shelf
      (told old.house) (told new.house) served

  -- a house without faults counts none, whether the store was served or not
  held_quiet : (served : Result Tally Unserved) → Held served → IsFaultless (told old.house) asked.crew.workers
      → (told new.house).faults ≡ (told old.house).faults
  held_quiet (Ok tally) serves none =
      let same : Type 0 = (told new.house).faults ≡ (told old.house).faults in
      subst (λ (failed : Bool). MatchBool failed (Rose (told old.house).faults (told new.house).faults) same) (serves.hosts.sound none) serves.hosts.faults
  held_quiet (Err (unserved.House fault)) serves none = (serves.hosting.sound none).1
  held_quiet (Err (unserved.Store e)) serves none = ap (λ (house : HouseTold A). house.faults) serves.not_asked

  counts_none : (answer : Result Ended Refusal) → AnswersOrMemory s g tell coming sent told (Ok asked) old new answer
      → IsFaultless (told old.house) asked.crew.workers → (told new.house).faults ≡ (told old.house).faults
  counts_none answer (inl h) none = held_quiet h.serves.served h.serves.serves none
  counts_none answer (inr h) none = ap (λ (site : Site J O E S M H). (told site.house).faults) h.1

  module _ (o : Outputs O) (e : Outputs E) (out : O) (err : E) (status : ℕ) where
    abbrev Surely : Type 0
    Surely = IsDone status ⊎ WasntOpened s g tell coming sent told asked old new

    said_surely : (said : Ended) → said.failed ≡ false → EndsSoundly o e out err (Ok said) status → HasRoomFor o e out err (Ok said) → IsDone status
    said_surely said well soundly room =
        inl (soundly room (λ is. absurd (false≢true (sym well ∙ is))) ∙ ap end_status well)

    held_surely : (served : Result Tally Unserved) (answer : Result Ended Refusal) → Held served → IsComplete served answer
        → EndsSoundly o e out err answer status → HasRoomFor o e out err answer → Surely
    held_surely (Err (unserved.Store x)) answer serves complete soundly room = inr (x, serves)
    held_surely (Ok tally) (Ok said) serves complete soundly room = inl (said_surely said complete soundly room)
    held_surely (Ok tally) (Err x) serves complete soundly room = inl (refused_surely status x complete (soundly room))
    held_surely (Err (unserved.House fault)) (Ok said) serves complete soundly room = inl (said_surely said complete soundly room)
    held_surely (Err (unserved.House fault)) (Err x) serves complete soundly room = inl (refused_surely status x complete (soundly room))

    asked_surely : (answer : Result Ended Refusal) → AnswersOrMemory s g tell coming sent told (Ok asked) old new answer
        → IsFaultless (told old.house) asked.crew.workers → (told old.house).faults < 2 ^ 64 - 1
        → EndsSoundly o e out err answer status → HasRoomFor o e out err answer → Surely
    asked_surely answer (inl h) none small soundly room =
        let same = held_quiet h.serves.served h.serves.serves none in
        held_surely h.serves.served answer h.serves.serves (h.serves.complete (not_risen (told old.house).faults (told new.house).faults same small))
        soundly room
    asked_surely answer (inr h) none small soundly room =
        let memory : Result Ended Refusal = Err refusal.Memory in
        let ends : EndsSoundly o e out err memory status = subst (λ (r : Result Ended Refusal). EndsSoundly o e out err r status) h.0 soundly in
        inl (refused_surely status refusal.Memory tt (ends (subst (λ (r : Result Ended Refusal). HasRoomFor o e out err r) h.0 room)))

module _ {J O E S D M H A K : Type 0} (s : Shelves S D) (g : Disks D) (tell : A → KitTold K) (coming sent : K → Option (List ℕ))
    (told : H → HouseTold A) (old new : Site J O E S M H) where
  pub counts : (read : Result Asked NoReading) (answer : Result Ended Refusal) → AnswersOrMemory s g tell coming sent told read old new answer
      → CountsNone s g tell coming sent told read old new
  counts (Ok asked) answer h = λ none. counts_none s g tell coming sent told asked old new answer h none
  counts (Err u) answer h = tt

  pub completes_surely : (o : Outputs O) (e : Outputs E) (out : O) (err : E) (read : Result Asked NoReading) (status : ℕ)
      (answer : Result Ended Refusal) → AnswersOrMemory s g tell coming sent told read old new answer → EndsSoundly o e out err answer status
      → CompletesSurely o e s g tell coming sent told read answer status out err old new
  completes_surely o e out err (Ok asked) status answer h soundly = λ none small room.
      asked_surely s g tell coming sent told asked old new o e out err status answer h none small soundly room
  completes_surely o e out err (Err u) status answer h soundly = tt
