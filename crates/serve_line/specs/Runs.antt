-- What a run does with the words of `serve`, and with others.
use Rattle.std.specs.Prelude.{◌≡◌, ◌≢◌, ◌⊎◌, ℕ, ◌-◌, ◌^◌, ◌<◌, Bool, true, false, List, ◌∷◌, ◌++◌, length, Option, Result, Ok, Err, OnOk, codes}
use Rattle.hl_base.specs.Causes.{Rose}
use Rattle.hl_base.specs.declared.disk.Disk.{Ghosts as Disks}
use Rattle.hl_base.specs.declared.outside.Source.{Ghosts as Inputs}
use Rattle.hl_base.specs.declared.outside.Sink.{Ghosts as Outputs}
use Rattle.hl_base.specs.declared.shelf.Shelf.{Ghosts as Shelves}
use Rattle.hl_time.specs.declared.day.Day.{Day}
use Rattle.query_terms.specs.declared.making.Maker.{Ghosts as Makers}
use Rattle.book.specs.FaultLine.{ended}
use Rattle.refusals.specs.Errors.{usage_line, write_fault_line}
use Rattle.refusals.specs.declared.refusal.Refusal.{Refusal}
use Rattle.refusals.specs.declared.refusal.Refusal.TheVariants as refusal
use Rattle.turn_lock.specs.declared.known.Entered.{Entered}
use Rattle.desk.specs.declared.desk.Desk.{Desk}
use Rattle.desk.specs.declared.request.Request.TheVariants as request
use Rattle.desk.specs.Desks.{state_of}
use Rattle.desk.specs.Entries.{Entry}
use Rattle.shared_desk.specs.Histories.{IsAnswered, IsFreshRun, IsLegal, Loads}
use Rattle.shared_desk.specs.Stays.{KitTold}
use Rattle.desk_team.specs.Houses.{HouseTold, IsFaultless}
use Rattle.store_making.specs.declared.refusal.JournalRefusal.{JournalRefusal}
use Rattle.serve_commands.specs.Answering.{Serves, post_of}
use Rattle.serve_commands.specs.Stores.{IsUnopened, ServesStore}
use Rattle.serve_commands.specs.declared.answer.Ended.{Ended}
use Rattle.serve_commands.specs.declared.answer.Serving.{Serving as Asked}
use Rattle.serve_commands.specs.declared.outcome.Tally.{Tally}
use Rattle.serve_commands.specs.declared.outcome.Unserved.{Unserved}
use Rattle.serve_commands.specs.declared.store.Post.{Post}
use Rattle.command_words.specs.Commands.{task_of}
use Rattle.command_line.specs.Answers.{IsStatus, Says, Wrote, WrotePrefix, line_of, status_of}
use Rattle.command_line.specs.Complete.{Completes, IsDone}
use Rattle.command_line.specs.Runs.{Runs, RunsSoundly}
use Rattle.command_line.specs.Scenes.{scene, soundness}
use Rattle.command_line.specs.Tasks.{Stores}
use Rattle.command_line.specs.declared.outside.Outside.{Outside}
use Rattle.web_messages.specs.declared.page.Page.{Page}
use Rattle.serve_line.specs.RunReplies.{RepliesAsRuns}
use Rattle.serve_line.specs.declared.program.Site.{Site}
use Rattle.serve_line.specs.declared.words.NoReading.{NoReading}
use Rattle.serve_line.specs.declared.words.NoReading.TheVariants as no_reading

-- ---- what is written

-- what the output and the error output tell: the bytes that were written, each with its count of faults
pub record Sinks : Type 0 where
  pub output : Option (List ℕ)
  pub output_faults : ℕ
  pub error : Option (List ℕ)
  pub error_faults : ℕ

abbrev pub sinks : {O E : Type 0} → Outputs O → Outputs E → O → E → Sinks
sinks o e out err = record { output = o.written out; output_faults = o.faults out; error = e.written err; error_faults = e.faults err }

abbrev pub sinks_of : {J O E S M : Type 0} → Outputs O → Outputs E → Outside J O E S M → Sinks
sinks_of o e outside = sinks o e outside.streams.output outside.err

abbrev pub door_fault_line : List ℕ
door_fault_line = ended (codes "error: door fault")

-- all ended well; or a call of a door failed, which is said
abbrev pub IsEnd : Bool → ℕ → Option (List ℕ) → Option (List ℕ) → ℕ → ℕ → Type 0
IsEnd false status error error_now faults faults_now = (status ≡ 0) × (error_now ≡ error)
IsEnd true status error error_now faults faults_now = Says status 9 door_fault_line error error_now faults faults_now

-- The line was written, and its end said; or a write to the output failed after a front of it, and that is said.
abbrev pub IsWritten : Bool → List ℕ → ℕ → Sinks → Sinks → Type 0
IsWritten failed line status old new =
    (IsEnd failed status old.error new.error old.error_faults new.error_faults × Wrote old.output new.output line)
    ⊎ (Says status 4 write_fault_line old.error new.error old.error_faults new.error_faults
    × Rose old.output_faults new.output_faults × WrotePrefix old.output new.output line)

-- What was answered is written: the line; or why nothing was served, and then nothing to the output.
abbrev pub EndsServe : Result Ended Refusal → ℕ → Sinks → Sinks → Type 0
EndsServe (Ok said) status old new = IsWritten said.failed said.line status old new
EndsServe (Err x) status old new = Says status (status_of x) (line_of x) old.error new.error old.error_faults new.error_faults
    × (new.output ≡ old.output)

-- the status of a run whose line could be written
abbrev pub end_status : Bool → ℕ
end_status false = 0
end_status true = 9

-- Outputs with room are written to, and the status is its own.
abbrev pub EndsSoundly : {O E : Type 0} → Outputs O → Outputs E → O → E → Result Ended Refusal → ℕ → Type 0
EndsSoundly o e out err (Ok said) status =
    o.HasRoom out (length said.line) → (said.failed ≡ true → e.HasRoom err (length door_fault_line)) → status ≡ end_status said.failed
EndsSoundly o e out err (Err x) status = e.HasRoom err (length (line_of x)) → status ≡ status_of x

-- The outputs have room for what is written.
abbrev pub HasRoomFor : {O E : Type 0} → Outputs O → Outputs E → O → E → Result Ended Refusal → Type 0
HasRoomFor o e out err (Ok said) = o.HasRoom out (length said.line)
HasRoomFor o e out err (Err x) = e.HasRoom err (length (line_of x))

-- the exit statuses of words of `serve`
abbrev pub IsServeStatus : ℕ → Type 0
IsServeStatus status = IsStatus status ⊎ (status ≡ 9)

-- no write failed
pub record NoneFailed (old new : Sinks) : Type 0 where
  pub output : Rose old.output_faults new.output_faults → ⊥
  pub error : Rose old.error_faults new.error_faults → ⊥

-- ---- what is answered

module _ {D : Type 0} {g : Disks D} where
  -- A report is answered byte for byte as a fresh run of its words over the text there, which makes a journal: by the definition of what a
  -- report is, and as each run of the program with these words writes it, of its standard input or of a file behind `-f`.
  abbrev pub AnswersReport : Desk D g → List (Entered Entry) → Entry → Type 0
  AnswersReport opening earlier entry = (words : List (List ℕ)) → entry.request ≡ request.Report words
      → (before : Desk D g) × IsLegal opening earlier before × Loads (state_of before) × IsFreshRun (state_of before) entry.day.0 words entry.reply
      × RepliesAsRuns (state_of before) entry.day.0 words entry.reply

  -- Each request of a history is answered by the machine as those before it left it: a report as a fresh run, and a good edit by a
  -- fresh load of its text.
  abbrev pub AnswersEach : Desk D g → List (Entered Entry) → Desk D g → Type 0
  AnswersEach opening history last = (earlier later : List (Entered Entry)) (x : Entered Entry) → history ≡ earlier ++ x ∷ later
      → IsAnswered opening earlier x.entry later last × AnswersReport opening earlier x.entry

module _ {S D A K : Type 0} (s : Shelves S D) (g : Disks D) (tell : A → KitTold K) (coming sent : K → Option (List ℕ)) (page : Page)
    (name : List ℕ) (post : Post) (old new : S) (house house_now : HouseTold A) where
  -- Of a store that was served, each request of the one history is.
  abbrev pub AnswersAll : (served : Result Tally Unserved) → ServesStore s g name tell coming sent page post old new house house_now served → Type 0
  AnswersAll (Ok told) h = AnswersEach h.opening h.history h.last
  AnswersAll (Err e) h = Unit {0}

module _ {J O E S D M H A K : Type 0} (s : Shelves S D) (g : Disks D) (tell : A → KitTold K) (coming sent : K → Option (List ℕ))
    (told : H → HouseTold A) where
  -- A store was served or not, by one word of `serve_commands`, and each request was answered. Nothing but the shelf and the house is
  -- touched.
  pub record ServesSite (asked : Asked) (old new : Site J O E S M H) (result : Result Ended Refusal) : Type 0 where
    pub serves : Serves s g tell coming sent asked old.outside.shelf new.outside.shelf (told old.house) (told new.house) result
    pub answers : AnswersAll s g tell coming sent asked.page asked.store (post_of asked) old.outside.shelf new.outside.shelf (told old.house) (told new.house)
        serves.served serves.serves
    pub rest : new ≡ record old { outside = record (old.outside) { shelf = new.outside.shelf }; house = new.house }

  -- What the words ask for was done; words without a reading are refused, and nothing is touched.
  abbrev pub AnswersServe : Result Asked NoReading → Site J O E S M H → Site J O E S M H → Result Ended Refusal → Type 0
  AnswersServe (Ok asked) old new result = ServesSite asked old new result
  AnswersServe (Err no_reading.Usage) old new result = (result ≡ Err (refusal.Line 2 usage_line)) × (new ≡ old)
  AnswersServe (Err no_reading.Memory) old new result = ⊥

  -- or memory ran out for the words
  abbrev pub AnswersOrMemory : Result Asked NoReading → Site J O E S M H → Site J O E S M H → Result Ended Refusal → Type 0
  AnswersOrMemory read old new result = AnswersServe read old new result ⊎ ((result ≡ Err refusal.Memory) × (new ≡ old))

  -- the store of the words wasn't opened, for a cause of its own
  abbrev pub WasntOpened : Asked → Site J O E S M H → Site J O E S M H → Type 0
  WasntOpened asked old new = (e : JournalRefusal)
      × IsUnopened s g asked.store old.outside.shelf new.outside.shelf (told old.house) (told new.house) e

  -- Where no count of the house, of its doors or of an output rose, and the store was opened, the status is 0, or 6 for want of memory.
  abbrev pub CompletesServe : Result Asked NoReading → ℕ → Sinks → Sinks → Site J O E S M H → Site J O E S M H → Type 0
  CompletesServe (Ok asked) status before now old new =
      (Rose (told old.house).faults (told new.house).faults → ⊥) → NoneFailed before now → IsDone status ⊎ WasntOpened asked old new
  CompletesServe (Err e) status before now old new = Unit {0}

  -- A house that has a kit for each worker, and of which no call is to fail, nor one of a door, counts no fault.
  abbrev pub CountsNone : Result Asked NoReading → Site J O E S M H → Site J O E S M H → Type 0
  CountsNone (Ok asked) old new = IsFaultless (told old.house) asked.crew.workers → (told new.house).faults ≡ (told old.house).faults
  CountsNone (Err e) old new = Unit {0}

module _ {J O E S D M H A K : Type 0} (o : Outputs O) (e : Outputs E) (s : Shelves S D) (g : Disks D) (tell : A → KitTold K)
    (coming sent : K → Option (List ℕ)) (told : H → HouseTold A) where
  -- Over such a house, and outputs with room, the status is 0 where the store was opened, or 6 for want of memory.
  abbrev pub CompletesSurely : Result Asked NoReading → Result Ended Refusal → ℕ → O → E → Site J O E S M H → Site J O E S M H → Type 0
  CompletesSurely (Ok asked) answer status out err old new =
      IsFaultless (told old.house) asked.crew.workers → (told old.house).faults < 2 ^ 64 - 1 → HasRoomFor o e out err answer
      → IsDone status ⊎ WasntOpened s g tell coming sent told asked old new
  CompletesSurely (Err x) answer status out err old new = Unit {0}

  -- What is done with the words of `serve`: what they ask for, and then its end is written, which leaves all else.
  pub record RunsServe (read : Result Asked NoReading) (status : ℕ) (old new : Site J O E S M H) : Type 0 where
    pub last : Site J O E S M H
    pub answer : Result Ended Refusal
    pub answers : AnswersOrMemory s g tell coming sent told read old last answer
    pub ends : EndsServe answer status (sinks_of o e last.outside) (sinks_of o e new.outside)
    pub stays : new ≡ record last {
      outside = record (last.outside) {
        streams = record (last.outside.streams) { output = new.outside.streams.output };
        err = new.outside.err;
      };
    }
    pub soundly : EndsSoundly o e last.outside.streams.output last.outside.err answer status
    pub statuses : IsServeStatus status
    -- of words that have a reading it isn't that of words without one
    pub readable : OnOk read (status ≢ 2)
    pub complete : CompletesServe s g tell coming sent told read status (sinks_of o e last.outside) (sinks_of o e new.outside) old last
    pub quiet : CountsNone s g tell coming sent told read old last
    pub sure : CompletesSurely read answer status last.outside.streams.output last.outside.err old last

-- ---- other words

module _ {J O E S D M H : Type 0} (j : Inputs J) (o : Outputs O) (e : Outputs E) (s : Shelves S D) (g : Disks D) (m : Makers M) where
  -- What other words ask for is done as `command_line` does it, clause by clause; the house isn't asked.
  pub record RunsOther (words : List (List ℕ)) (day : Day) (status : ℕ) (old new : Site J O E S M H) : Type 0 where
    pub statuses : IsStatus status
    pub runs : Runs words day.0 status (scene j o e s m old.outside) (scene j o e s m new.outside) (task_of day.0 words)
    pub sound : RunsSoundly words day.0 status (scene j o e s m old.outside) (soundness j o e s old.outside) (task_of day.0 words)
    pub complete : Completes day.0 status (scene j o e s m old.outside) (scene j o e s m new.outside) (task_of day.0 words)
    pub stored : Stores j (scene j o e s m) (soundness j o e s) s g m day status old.outside new.outside (task_of day.0 words)
    pub house : new.house ≡ old.house
