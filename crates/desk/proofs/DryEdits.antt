-- Whether an edit would be stored, and what is replied where it wouldn't.
use Rattle.std.proofs.Common.{◌≡◌, ◌⊎◌, inl, inr, ℕ, ◌+◌, ◌-◌, ◌^◌, ◌<◌, min, true, false, [], ◌∷◌, Option, Some, None, IfSome, Err, refl, sym, ap, ◌∙◌, arith}
use Rattle.std.proofs.lemmas.Bool.{false≢true}
use Rattle.std.specs.Str.{bytes_eq}
use Rattle.hl_base.specs.declared.disk.Disk.{Ghosts}
use Rattle.live_journal.specs.Edits.{applied}
use Rattle.live_journal.specs.Journals.{Journal}
use Rattle.live_journal.specs.Loading.{first_of}
use Rattle.live_journal.specs.Refusals.{cause_in, prepared, refusal_of}
use Rattle.live_journal.specs.declared.fault.EditFault.{EditFault}
use Rattle.live_journal.specs.declared.fault.EditFault.TheVariants as refused
use Rattle.desk.specs.declared.deed.Deed.{Deed}
use Rattle.desk.specs.declared.desk.Desk.{Desk}
use Rattle.desk.specs.declared.reply.Reply.{Reply}
use Rattle.desk.specs.declared.reply.Reply.TheVariants as reply
use Rattle.desk.specs.declared.request.Allow.{Allow}
use Rattle.desk.specs.Desks.{state_of}
use Rattle.desk.specs.DryRuns.{IsRefusal}
use Rattle.desk.specs.Reading.{is_planned}
use Rattle.desk.specs.States.{Answer, State, as_reply, cases_left, change_of, edit_answer, forbidden, full_cases, journal_of, last_revision, long_name, many_states, no_room, or_done, record_size, refusals, states_with, stays, unaccepted, unchanged}
use Rattle.desk.specs.Steps.{is_done}
use Rattle.desk.proofs.ReadingLaws.{cases_planned}
use Rattle.desk.proofs.Rooms.{none_first, revision_below}
use Rattle.desk.proofs.Served.{cases_undone, changing, fault_undone, forbidden_answer, journal_is, refusal_is, refusals_undone, refused_answer, stop}

-- an answer that leaves the state as it was, and replies so
of_stays : (s : State) (answer : Answer) (r : Reply) → answer ≡ stays s r → is_done r ≡ false → IsRefusal s answer r
of_stays s answer r is undone = (undone, inr (inl (sym (ap (λ (a : Answer). a.reply) is), ap (λ (a : Answer). a.state) is)))

of_memory : (s : State) (answer : Answer) (r : Reply) → r ≡ reply.Memory → IsRefusal s answer r
of_memory s answer r is = (ap is_done is, inl is)

-- ---- a planned edit

-- it leaves the text as it is
pub same_left : (s : State) (d : Deed) → bytes_eq (applied s.text d.edit) s.text ≡ true → Some (reply.Same s.revision) ≡ first_of (cases_left s d)
same_left s d same =
    let first : unchanged (applied s.text d.edit) s.text s.revision ≡ Some (reply.Same s.revision) = rw same refl in
    sym (stop (unchanged (applied s.text d.edit) s.text s.revision) (full_cases s d.mark (states_with d.mark s.latest) (record_size (change_of s.text d))) (reply.Same s.revision) first)

-- it changes the text
pub room_left : (s : State) (d : Deed) (o : Option Reply) → bytes_eq (applied s.text d.edit) s.text ≡ false
    → (o ≡ Some reply.Memory) ⊎ (o ≡ first_of (full_cases s d.mark (states_with d.mark s.latest) (record_size (change_of s.text d))))
    → (o ≡ Some reply.Memory) ⊎ (o ≡ first_of (cases_left s d))
room_left s d o differs (inl h) = inl h
room_left s d o differs (inr h) = inr (h ∙ sym (changing s d differs))

some_is : (r x : Reply) (o : Option Reply) → o ≡ Some r → o ≡ Some x → r ≡ x
some_is r x None is h = cc
some_is r x (Some y) is h = cc

-- why it isn't stored
pub unstored_refusal : (s : State) (d : Deed) (o : Option Reply) (r : Reply) → o ≡ Some r → (o ≡ Some reply.Memory) ⊎ (o ≡ first_of (cases_left s d))
    → IsRefusal s (or_done s d (first_of (cases_left s d))) r
unstored_refusal s d o r is (inl h) = of_memory s (or_done s d (first_of (cases_left s d))) r (some_is r reply.Memory o is h)
unstored_refusal s d o r is (inr h) =
    let left : first_of (cases_left s d) ≡ Some r = sym h ∙ is in
    of_stays s (or_done s d (first_of (cases_left s d))) r (ap (or_done s d) left) (cases_undone s d r left)

pub unstored_planned : (s : State) (d : Deed) (o : Option Reply) (r : Reply) → o ≡ Some r → (o ≡ Some reply.Memory) ⊎ (o ≡ first_of (cases_left s d)) → is_planned r ≡ true
unstored_planned s d o r is (inl h) = ap is_planned (some_is r reply.Memory o is h)
unstored_planned s d o r is (inr h) = cases_planned s d r (sym h ∙ is)

none_some : (r : Reply) (o : Option Reply) → o ≡ None → o ≡ Some r → ⊥
none_some r None is h = cc
none_some r (Some x) is h = cc

-- or is
pub stored_done : (s : State) (d : Deed) (o : Option Reply) → o ≡ None → (o ≡ Some reply.Memory) ⊎ (o ≡ first_of (cases_left s d))
    → is_done (or_done s d (first_of (cases_left s d))).reply ≡ true
stored_done s d o is (inl h) = absurd (none_some reply.Memory o is h)
stored_done s d o is (inr h) = ap (λ (x : Option Reply). is_done (or_done s d x).reply) (sym h ∙ is)

-- ---- an edit that isn't planned

pub forbidden_dry : (s : State) (need : Allow) (d : Deed) (r : Reply) → forbidden s.allowed need ≡ Some r → is_done r ≡ false → IsRefusal s (edit_answer s need d) r
forbidden_dry s need d r f undone = of_stays s (edit_answer s need d) r (forbidden_answer s need d r f) undone

by_refusal : (s : State) (need : Allow) (d : Deed) (fault : EditFault) → forbidden s.allowed need ≡ None → refusal_of (journal_of s) d.edit ≡ Some fault
    → IsRefusal s (edit_answer s need d) (as_reply fault)
by_refusal s need d fault f h = of_stays s (edit_answer s need d) (as_reply fault) (refused_answer s need d fault f h) (fault_undone fault)

module _ {D : Type 0} {g : Ghosts D} (desk : Desk D g) (need : Allow) (d : Deed) (f : forbidden desk.allow need ≡ None) (year : desk.live.year ≡ None) where
  is_refused : (fault : EditFault) → prepared desk.live d.edit ≡ Err fault → refusal_of (journal_of (state_of desk)) d.edit ≡ Some fault
  is_refused fault h = ap (λ (j : Journal). refusal_of j d.edit) (journal_is desk year) ∙ refusal_is desk.live d.edit fault h

  by_fault : (fault : EditFault) → prepared desk.live d.edit ≡ Err fault → IsRefusal (state_of desk) (edit_answer (state_of desk) need d) (as_reply fault)
  by_fault fault h = by_refusal (state_of desk) need d fault f (is_refused fault h)

  -- the journal refuses it
  pub fault_refusal : (fault : EditFault) → IfSome (cause_in fault) (λ x. prepared desk.live d.edit ≡ Err x)
      → IsRefusal (state_of desk) (edit_answer (state_of desk) need d) (as_reply fault)
  fault_refusal refused.Memory h = of_memory (state_of desk) (edit_answer (state_of desk) need d) reply.Memory refl
  fault_refusal (refused.BadBase base current) h = by_fault (refused.BadBase base current) h
  fault_refusal (refused.Stale base current) h = by_fault (refused.Stale base current) h
  fault_refusal (refused.NoSuchItem n count) h = by_fault (refused.NoSuchItem n count) h
  fault_refusal (refused.NotTransactions line) h = by_fault (refused.NotTransactions line) h
  fault_refusal (refused.TooLarge limit size) h = by_fault (refused.TooLarge limit size) h
  fault_refusal (refused.Load cause) h = by_fault (refused.Load cause) h

-- ---- the revision that an edit would make

none_refused : (s : State) (need : Allow) (d : Deed) (o : Option Reply) → first_of (refusals s need d) ≡ o → is_done (or_done s d o).reply ≡ true → o ≡ None
none_refused s need d None h done = refl
none_refused s need d (Some r) h done = absurd (false≢true (sym (refusals_undone s need d r h) ∙ done))

-- nothing is refused of an edit that would be stored
pub none_left : (s : State) (need : Allow) (d : Deed) → is_done (edit_answer s need d).reply ≡ true → first_of (refusals s need d) ≡ None
none_left s need d done = none_refused s need d (first_of (refusals s need d)) refl done

next_within : (n : ℕ) → n < 2 ^ 62 → min (n + 1) (2 ^ 64 - 1) ≡ n + 1
next_within n below = omega arith

pub next_is : (s : State) (need : Allow) (d : Deed) → is_done (edit_answer s need d).reply ≡ true → min (s.revision + 1) (2 ^ 64 - 1) ≡ s.revision + 1
next_is s need d done =
    let full = full_cases s d.mark (states_with d.mark s.latest) (record_size (change_of s.text d)) in
    let allowed = none_first (forbidden s.allowed need) (unaccepted (refusal_of (journal_of s) d.edit) ∷ cases_left s d) (none_left s need d done) in
    let accepted = none_first (unaccepted (refusal_of (journal_of s) d.edit)) (cases_left s d) allowed.1 in
    let changed = none_first (unchanged (applied s.text d.edit) s.text s.revision) full accepted.1 in
    let room = none_first (no_room s (record_size (change_of s.text d))) (last_revision s.revision ∷ long_name d.mark ∷ many_states (states_with d.mark s.latest) ∷ []) changed.1 in
    let last = none_first (last_revision s.revision) (long_name d.mark ∷ many_states (states_with d.mark s.latest) ∷ []) room.1 in
    next_within s.revision (revision_below s.revision last.0)
