-- What `serve` comes to where no call is to fail.
use Rattle.std.proofs.Common.{◌≡◌, ◌⊎◌, ◌∙◌, inl, inr, ⊎_elim, ℕ, ◌-◌, ◌^◌, ◌<◌, ◌≤◌, List, length, Option, Result, Ok, Err, IfOk, refl, sym, ap, subst, arith}
use Rattle.hl_base.specs.declared.disk.Disk.{Ghosts as Disks}
use Rattle.hl_base.specs.declared.outside.Sink.{Ghosts as Outputs}
use Rattle.hl_base.specs.declared.shelf.Shelf.{Ghosts as Shelves}
use Rattle.refusals.specs.Errors.{memory_line}
use Rattle.refusals.specs.declared.refusal.Refusal.{Refusal}
use Rattle.refusals.specs.declared.refusal.Refusal.TheVariants as refusal
use Rattle.shared_desk.specs.Stays.{KitTold}
use Rattle.desk_team.specs.Houses.{HouseTold, IsFaultless}
use Rattle.desk_team.specs.declared.hosting.HouseFault.{HouseFault}
use Rattle.desk_team.specs.declared.hosting.HouseFault.TheVariants as house_fault
use Rattle.store_making.specs.declared.refusal.JournalRefusal.{JournalRefusal}
use Rattle.serve_commands.specs.Answering.{post_of}
use Rattle.serve_commands.specs.Lines.{IsSaid, RefusedAs, house_line, house_status, most_of_a_tally}
use Rattle.serve_commands.specs.Stores.{IsUnopened, ServesStore}
use Rattle.serve_commands.specs.declared.answer.Ended.{Ended}
use Rattle.serve_commands.specs.declared.answer.Serving.{Serving as Asked}
use Rattle.serve_commands.specs.declared.outcome.Tally.{Tally}
use Rattle.serve_commands.specs.declared.outcome.Unserved.{Unserved}
use Rattle.serve_commands.specs.declared.outcome.Unserved.TheVariants as unserved
use Rattle.command_line.specs.Answers.{line_of}
use Rattle.command_line.specs.Complete.{IsDone}
use Rattle.serve_line.specs.Runs.{AnswersOrMemory, HasRoomFor, RunsServe, WasntOpened}
use Rattle.serve_line.specs.declared.program.Site.{Site}
use Rattle.serve_line.specs.declared.words.NoReading.{NoReading}
use Rattle.serve_rows.specs.Rooms.{HasRoomTo, IsSound, most_of_a_fault}

-- ---- the lines of refusals

is_few : (n m : ℕ) → n ≡ m → m ≤ 18 → n ≤ 18
is_few n m is few = omega (arith, is, few)

memory_length : length memory_line ≤ most_of_a_fault
memory_length = is_few (length memory_line) 14 refl (omega arith)

house_length : (fault : HouseFault) → length (house_line fault) ≤ most_of_a_fault
house_length house_fault.Failed = is_few (length (house_line house_fault.Failed)) 18 refl (omega arith)
house_length house_fault.Memory = is_few (length (house_line house_fault.Memory)) 14 refl (omega arith)

-- want of memory has a short line
is_memory : (x : Refusal) → x ≡ refusal.Memory → length (line_of x) ≤ most_of_a_fault
is_memory x is = subst (λ (y : Refusal). length (line_of y) ≤ most_of_a_fault) (sym is) memory_length

-- and so has what a house failed at
is_of_house : (fault : HouseFault) (x : Refusal) → RefusedAs (house_status fault) (house_line fault) x → length (line_of x) ≤ most_of_a_fault
is_of_house fault x (inl memory) = is_memory x memory
is_of_house fault x (inr is) = subst (λ (y : Refusal). length (line_of y) ≤ most_of_a_fault) (sym is) (house_length fault)

abbrev Short : Result Ended Refusal → Type 0
Short answer = IfOk answer (λ said. length said.line ≤ most_of_a_tally)

module _ {J O E S D M H A K : Type 0} (o : Outputs O) (e : Outputs E) (s : Shelves S D) (g : Disks D) (tell : A → KitTold K)
    (coming sent : K → Option (List ℕ)) (told : H → HouseTold A) (asked : Asked) where
  abbrev Unopened : Site J O E S M H → Site J O E S M H → Type 0
  Unopened old new = WasntOpened s g tell coming sent told asked old new

  abbrev Stored : Site J O E S M H → Site J O E S M H → Result Tally Unserved → Type 0
  Stored old new served = ServesStore s g asked.store tell coming sent asked.page (post_of asked) old.outside.shelf new.outside.shelf
      (told old.house) (told new.house) served

  -- ---- what is said has room, unless the store wasn't opened

  module _ (out : O) (err : E) (output : HasRoomTo o out most_of_a_tally) (error : HasRoomTo e err most_of_a_fault)
      (old new : Site J O E S M H) where
    abbrev Room : Result Ended Refusal → Type 0
    Room answer = HasRoomFor o e out err answer ⊎ Unopened old new

    room_by : (served : Result Tally Unserved) (answer : Result Ended Refusal) → Stored old new served → IsSaid asked.store served answer
        → Short answer → Room answer
    room_by (Err (unserved.Store x)) answer serves says short = inr (x, serves)
    room_by (Ok tally) (Ok said) serves says short = inl (output (length said.line) short)
    room_by (Ok tally) (Err x) serves says short = inl (error (length (line_of x)) (is_memory x says))
    room_by (Err (unserved.House fault)) (Ok said) serves says short = absurd says
    room_by (Err (unserved.House fault)) (Err x) serves says short = inl (error (length (line_of x)) (is_of_house fault x says))

    room_for : (answer : Result Ended Refusal) → AnswersOrMemory s g tell coming sent told (Ok asked) old new answer → Room answer
    room_for answer (inl h) = room_by h.serves.served answer h.serves.serves h.serves.says h.serves.short
    room_for answer (inr h) =
        let memory : Result Ended Refusal = Err refusal.Memory in
        let room : HasRoomFor o e out err memory = error (length memory_line) memory_length in
        inl (subst (λ (r : Result Ended Refusal). HasRoomFor o e out err r) (sym h.0) room)

  -- ---- what is answered leaves the outputs

  output_stays : (old new : Site J O E S M H) (answer : Result Ended Refusal) → AnswersOrMemory s g tell coming sent told (Ok asked) old new answer
      → (new.outside.streams.output ≡ old.outside.streams.output) × (new.outside.err ≡ old.outside.err)
  output_stays old new answer (inl h) =
      (ap (λ (x : Site J O E S M H). x.outside.streams.output) h.rest, ap (λ (x : Site J O E S M H). x.outside.err) h.rest)
  output_stays old new answer (inr h) =
      (ap (λ (x : Site J O E S M H). x.outside.streams.output) h.1, ap (λ (x : Site J O E S M H). x.outside.err) h.1)

  -- what was written afterwards leaves the shelf and the house
  unopened_stays : (old last new : Site J O E S M H) → new.outside.shelf ≡ last.outside.shelf → new.house ≡ last.house → Unopened old last → Unopened old new
  unopened_stays old last new shelf house h =
      let here = subst (λ (y : H). IsUnopened s g asked.store old.outside.shelf last.outside.shelf (told old.house) (told y) h.0) (sym house) h.1 in
      (h.0, subst (λ (y : S). IsUnopened s g asked.store old.outside.shelf y (told old.house) (told new.house) h.0) (sym shelf) here)

  module _ (status : ℕ) (old new : Site J O E S M H)
      (runs : RunsServe o e s g tell coming sent told (Ok asked) status old new) (sound : IsSound (told old.house) asked.crew.workers) where
    house_is : new.house ≡ runs.last.house
    house_is = ap (λ (x : Site J O E S M H). x.house) runs.stays

    -- no fault of the house is counted
    pub counts_none : (told new.house).faults ≡ (told old.house).faults
    counts_none = ap (λ (house : H). (told house).faults) house_is ∙ runs.quiet sound.faultless

    -- all was done, or memory ran out, unless the store wasn't opened
    pub completes : HasRoomTo o old.outside.streams.output most_of_a_tally → HasRoomTo e old.outside.err most_of_a_fault
        → IsDone status ⊎ Unopened old new
    completes output error =
        let last = runs.last in
        let same = output_stays old last runs.answer runs.answers in
        let out = subst (λ (x : O). HasRoomTo o x most_of_a_tally) (sym same.0) output in
        let err = subst (λ (x : E). HasRoomTo e x most_of_a_fault) (sym same.1) error in
        let shelf : new.outside.shelf ≡ last.outside.shelf = ap (λ (x : Site J O E S M H). x.outside.shelf) runs.stays in
        let unopened : Unopened old last → IsDone status ⊎ Unopened old new = λ h. inr (unopened_stays old last new shelf house_is h) in
        ⊎_elim
        (λ room. ⊎_elim (λ done. inl done) unopened (runs.sure sound.faultless sound.counts room))
        unopened
        (room_for last.outside.streams.output last.outside.err out err old last runs.answer runs.answers)
