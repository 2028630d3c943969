-- What is counted for a request, by what it is.
use Rattle.std.proofs.Common.{◌≡◌, inl, inr, ℕ, ◌+◌, ◌-◌, ◌^◌, Bool, true, false, if◌then◌else◌, nat_lt, List, [], ◌∷◌, length, Option, Some, None, Result, Ok, Err, refl, sym, ap, subst, ◌∙◌}
use Rattle.std.specs.Prelude.{IfErr}
use Rattle.std.specs.Str.{bytes_eq}
use Rattle.std.proofs.lemmas.Bool.{false≢true}
use Rattle.hl_base.specs.Counts.{Counts}
use Rattle.hl_base.specs.declared.change.Latest.{Latest}
use Rattle.live_journal.specs.Checking.{CountsEdit, CountsRefused}
use Rattle.live_journal.specs.Edits.{applied}
use Rattle.live_journal.specs.Journals.{Journal, Planned}
use Rattle.live_journal.specs.Loading.{first_of}
use Rattle.live_journal.specs.declared.edit.Edit.{Edit}
use Rattle.live_journal.specs.declared.fault.EditFault.{EditFault}
use Rattle.live_journal.specs.declared.fault.EditFault.TheVariants as refused
use Rattle.live_journal.proofs.Checking.{none_counted, none_refused}
use Rattle.desk.specs.declared.deed.Deed.{Deed}
use Rattle.desk.specs.declared.reply.Reply.{Reply}
use Rattle.desk.specs.declared.reply.Reply.TheVariants as reply
use Rattle.desk.specs.declared.request.Request.{Request}
use Rattle.desk.specs.DryRuns.{IsToldOf}
use Rattle.desk.specs.Reading.{CountsDryRun, CountsFault, CountsFor, CountsRequest, CountsSteps, CountsTried, edit_reply, is_accepted, is_planned, is_refused, is_unasked}
use Rattle.desk.specs.States.{State, as_reply, cases_left, change_of, full_cases, is_due, last_revision, long_name, many_states, no_room, record_size, states_with, unchanged}

nothing_counted : (j : Journal) (d : Option Deed) (r : Reply) (c : Counts) → CountsFor j d r c c
nothing_counted j None r c = tt
nothing_counted j (Some d) r c =
    let none = none_counted j d.edit c in
    record { accepted = λ accepted. none; refusal = λ refused. none_refused j d.edit c; replied = inl none }

-- where nothing is counted, all is well
pub idle : (j : Journal) (d : Option Deed) (r : Reply) (c : Counts) → CountsSteps j d r c c
idle j d r c = record {
  edit = nothing_counted j d r c;
  no_edit = λ none. refl;
  unasked = λ unasked. refl;
}

-- a refusal of the journal isn't given where the edit is accepted, nor where the journal isn't asked
fault_unaccepted : (fault : EditFault) → is_accepted (as_reply fault) ≡ false
fault_unaccepted (refused.BadBase base current) = refl
fault_unaccepted (refused.Stale base current) = refl
fault_unaccepted (refused.NoSuchItem n count) = refl
fault_unaccepted (refused.NotTransactions line) = refl
fault_unaccepted (refused.TooLarge limit size) = refl
fault_unaccepted (refused.Load fault) = refl
fault_unaccepted refused.Memory = refl

fault_asked : (fault : EditFault) → is_unasked (as_reply fault) ≡ false
fault_asked (refused.BadBase base current) = refl
fault_asked (refused.Stale base current) = refl
fault_asked (refused.NoSuchItem n count) = refl
fault_asked (refused.NotTransactions line) = refl
fault_asked (refused.TooLarge limit size) = refl
fault_asked (refused.Load fault) = refl
fault_asked refused.Memory = refl

-- a reply to an edit that was planned is no refusal of the journal, which was asked
planned_unrefused : (r : Reply) → is_planned r ≡ true → is_refused r ≡ false
planned_unrefused (reply.Done revision) h = refl
planned_unrefused (reply.Same revision) h = refl
planned_unrefused (reply.Text revision bytes) h = refl
planned_unrefused (reply.Forbidden need have) h = refl
planned_unrefused (reply.Stale base current) h = absurd (false≢true h)
planned_unrefused (reply.BadBase base current) h = absurd (false≢true h)
planned_unrefused (reply.NoSuchItem n count) h = absurd (false≢true h)
planned_unrefused (reply.NotTransactions line) h = absurd (false≢true h)
planned_unrefused (reply.Load fault) h = absurd (false≢true h)
planned_unrefused (reply.TooLarge limit size) h = absurd (false≢true h)
planned_unrefused (reply.DiskFault before after) h = refl
planned_unrefused (reply.Words fault) h = refl
planned_unrefused (reply.Csv fault) h = refl
planned_unrefused (reply.Full size limit) h = refl
planned_unrefused reply.Memory h = refl

planned_asked : (r : Reply) → is_planned r ≡ true → is_unasked r ≡ false
planned_asked (reply.Done revision) h = refl
planned_asked (reply.Same revision) h = refl
planned_asked (reply.Text revision bytes) h = absurd (false≢true h)
planned_asked (reply.Forbidden need have) h = absurd (false≢true h)
planned_asked (reply.Stale base current) h = refl
planned_asked (reply.BadBase base current) h = refl
planned_asked (reply.NoSuchItem n count) h = refl
planned_asked (reply.NotTransactions line) h = refl
planned_asked (reply.Load fault) h = refl
planned_asked (reply.TooLarge limit size) h = refl
planned_asked (reply.DiskFault before after) h = refl
planned_asked (reply.Words fault) h = absurd (false≢true h)
planned_asked (reply.Csv fault) h = absurd (false≢true h)
planned_asked (reply.Full size limit) h = refl
planned_asked reply.Memory h = refl

-- what is counted to plan an edit is counted for it, whatever it is replied then
pub planned_steps : (j : Journal) (d : Deed) (r : Reply) (old new : Counts) → is_planned r ≡ true → CountsEdit j d.edit old new → CountsSteps j (Some d) r old new
planned_steps j d r old new planned counts = record {
  edit = record {
    accepted = λ accepted. counts;
    refusal = λ refusal. absurd (false≢true (sym (planned_unrefused r planned) ∙ refusal));
    replied = inl counts;
  };
  no_edit = λ none. absurd (cc none);
  unasked = λ unasked. absurd (false≢true (sym (planned_asked r planned) ∙ unasked));
}

-- what a refusal counts is counted whichever it is
pub fault_counts : (j : Journal) (edit : Edit) (fault : EditFault) (old new : Counts) → CountsRefused j edit old new → CountsFault j edit fault old new
fault_counts j edit (refused.BadBase base current) old new h = h
fault_counts j edit (refused.Stale base current) old new h = h
fault_counts j edit (refused.NoSuchItem n count) old new h = h
fault_counts j edit (refused.NotTransactions line) old new h = h
fault_counts j edit (refused.TooLarge limit size) old new h = h
fault_counts j edit (refused.Load fault) old new h = h
fault_counts j edit refused.Memory old new h = inr h

fault_refused : (j : Journal) (edit : Edit) (fault : EditFault) (old new : Counts) → is_refused (as_reply fault) ≡ true → CountsFault j edit fault old new → CountsRefused j edit old new
fault_refused j edit (refused.BadBase base current) old new is h = h
fault_refused j edit (refused.Stale base current) old new is h = h
fault_refused j edit (refused.NoSuchItem n count) old new is h = h
fault_refused j edit (refused.NotTransactions line) old new is h = h
fault_refused j edit (refused.TooLarge limit size) old new is h = h
fault_refused j edit (refused.Load fault) old new is h = h
fault_refused j edit refused.Memory old new is h = absurd (false≢true is)

fault_tried : (j : Journal) (edit : Edit) (fault : EditFault) (old new : Counts) → CountsFault j edit fault old new → CountsTried j edit old new
fault_tried j edit (refused.BadBase base current) old new h = inr h
fault_tried j edit (refused.Stale base current) old new h = inr h
fault_tried j edit (refused.NoSuchItem n count) old new h = inr h
fault_tried j edit (refused.NotTransactions line) old new h = inr h
fault_tried j edit (refused.TooLarge limit size) old new h = inr h
fault_tried j edit (refused.Load fault) old new h = inr h
fault_tried j edit refused.Memory old new h = h

-- and for one that the journal refuses what its refusal counts
pub refused_steps : (j : Journal) (d : Deed) (fault : EditFault) (r : Reply) (old new : Counts) → r ≡ as_reply fault
    → CountsFault j d.edit fault old new → CountsSteps j (Some d) r old new
refused_steps j d fault r old new is counts = record {
  edit = record {
    accepted = λ accepted. absurd (false≢true (sym (ap is_accepted is ∙ fault_unaccepted fault) ∙ accepted));
    refusal = λ refusal. fault_refused j d.edit fault old new (sym (ap is_refused is) ∙ refusal) counts;
    replied = fault_tried j d.edit fault old new counts;
  };
  no_edit = λ none. absurd (cc none);
  unasked = λ unasked. absurd (false≢true (sym (ap is_unasked is ∙ fault_asked fault) ∙ unasked));
}

-- the same of an edit that is seen as another
pub same_steps : (j : Journal) (a b : Option Deed) (r : Reply) (old new : Counts) → a ≡ b → CountsSteps j b r old new → CountsSteps j a r old new
same_steps j a b r old new is h = subst (λ (d : Option Deed). CountsSteps j d r old new) (sym is) h

-- the same of a request that is seen as another
pub seen_steps : (j : Journal) (s : State) (day : ℕ) (q seen : Request) (r : Reply) (old new : Counts) → q ≡ seen
    → CountsRequest j s day seen r old new → CountsRequest j s day q r old new
seen_steps j s day q seen r old new is h = subst (λ (x : Request). CountsRequest j s day x r old new) (sym is) h

-- a refusal, if there is one, is given to an edit that was planned
abbrev IsPlanned : Option Reply → Type 0
IsPlanned None = Unit {0}
IsPlanned (Some r) = is_planned r ≡ true

room_planned : (due past : Bool) (size limit : ℕ) → IsPlanned (if due then (if past then Some (reply.Full size limit) else None) else None)
room_planned true true size limit = refl
room_planned true false size limit = tt
room_planned false past size limit = tt

last_planned : (within : Bool) (size limit : ℕ) → IsPlanned (if within then None else Some (reply.Full size limit))
last_planned true size limit = tt
last_planned false size limit = refl

end_planned : (n : ℕ) (within : Bool) → IsPlanned (if within then None else Some (reply.Full n (2 ^ 32 - 1)))
end_planned n true = tt
end_planned n false = refl

name_planned : (mark : Option Latest) → IsPlanned (long_name mark)
name_planned None = tt
name_planned (Some mark) = end_planned (length mark.name) (nat_lt (length mark.name) (2 ^ 32))

states_planned : (states : Option (List Latest)) → IsPlanned (many_states states)
states_planned None = tt
states_planned (Some states) = end_planned (length states) (nat_lt (length states) (2 ^ 32))

-- nor is the first of several refusals another
next_planned : (o : Option Reply) (rest : List (Option Reply)) → IsPlanned o → IsPlanned (first_of rest) → IsPlanned (first_of (o ∷ rest))
next_planned None rest h more = more
next_planned (Some r) rest h more = h

-- the refusals of a store without room are of an edit that the journal accepts
full_are_planned : (s : State) (mark : Option Latest) (states : Option (List Latest)) (size : ℕ) → IsPlanned (first_of (full_cases s mark states size))
full_are_planned s mark states size =
    let room = no_room s size in
    let last = last_revision s.revision in
    let name = long_name mark in
    let many = many_states states in
    next_planned room (last ∷ name ∷ many ∷ []) (room_planned (is_due s size) _ _ _)
    (next_planned last (name ∷ many ∷ []) (last_planned (nat_lt s.revision (2 ^ 62)) _ _)
    (next_planned name (many ∷ []) (name_planned mark)
    (next_planned many [] (states_planned states) tt)))

pub full_planned : (s : State) (mark : Option Latest) (states : Option (List Latest)) (size : ℕ) (r : Reply) → first_of (full_cases s mark states size) ≡ Some r → is_planned r ≡ true
full_planned s mark states size r h = subst (λ (o : Option Reply). IsPlanned o) h (full_are_planned s mark states size)

same_planned : (same : Bool) (revision : ℕ) → IsPlanned (if same then Some (reply.Same revision) else None)
same_planned true revision = refl
same_planned false revision = tt

-- so is what else is left to judge of it
pub cases_planned : (s : State) (d : Deed) (r : Reply) → first_of (cases_left s d) ≡ Some r → is_planned r ≡ true
cases_planned s d r h =
    let full = full_cases s d.mark (states_with d.mark s.latest) (record_size (change_of s.text d)) in
    let planned : IsPlanned (first_of (cases_left s d)) =
    next_planned (unchanged (applied s.text d.edit) s.text s.revision) full (same_planned (bytes_eq (applied s.text d.edit) s.text) s.revision)
    (full_are_planned s d.mark (states_with d.mark s.latest) (record_size (change_of s.text d))) in
    subst (λ (o : Option Reply). IsPlanned o) h planned

-- ---- dry runs

planned_edit : (r : Reply) → is_planned r ≡ true → is_planned (edit_reply r) ≡ true
planned_edit (reply.Done next) h = h
planned_edit (reply.Same current) h = h
planned_edit (reply.Text now bytes) h = refl
planned_edit (reply.Forbidden need have) h = h
planned_edit (reply.Stale base current) h = h
planned_edit (reply.BadBase base current) h = h
planned_edit (reply.NoSuchItem n count) h = h
planned_edit (reply.NotTransactions line) h = h
planned_edit (reply.Load fault) h = h
planned_edit (reply.TooLarge limit size) h = h
planned_edit (reply.DiskFault before after) h = h
planned_edit (reply.Words fault) h = h
planned_edit (reply.Csv fault) h = h
planned_edit (reply.Full size limit) h = h
planned_edit reply.Memory h = h

edit_fault : (fault : EditFault) → edit_reply (as_reply fault) ≡ as_reply fault
edit_fault (refused.BadBase base current) = refl
edit_fault (refused.Stale base current) = refl
edit_fault (refused.NoSuchItem n count) = refl
edit_fault (refused.NotTransactions line) = refl
edit_fault (refused.TooLarge limit size) = refl
edit_fault (refused.Load fault) = refl
edit_fault refused.Memory = refl

-- what is counted to plan an edit is counted for its dry run
pub planned_dry : (j : Journal) (d : Deed) (made : Result Planned Reply) (old new : Counts) → IfErr made (λ r. is_planned r ≡ true) → CountsEdit j d.edit old new
    → CountsDryRun j d made old new
planned_dry j d (Ok plan) old new planned counts = counts
planned_dry j d (Err r) old new planned counts = planned_steps j d (edit_reply r) old new (planned_edit r planned) counts

pub fault_dry : (j : Journal) (d : Deed) (fault : EditFault) (r : Reply) (old new : Counts) → r ≡ as_reply fault → CountsFault j d.edit fault old new
    → CountsSteps j (Some d) (edit_reply r) old new
fault_dry j d fault r old new is counts = refused_steps j d fault (edit_reply r) old new (ap edit_reply is ∙ edit_fault fault) counts

-- and for the reply to it
pub told_steps : (j : Journal) (d : Deed) (revision : ℕ) (shown : Planned → List ℕ) (made : Result Planned Reply) (r : Reply) (old new : Counts)
    → CountsDryRun j d made old new → IsToldOf revision shown made r → CountsSteps j (Some d) (edit_reply r) old new
told_steps j d revision shown (Ok plan) r old new counts (inl h) =
    subst (λ (x : Reply). CountsSteps j (Some d) (edit_reply x) old new) (sym h) (planned_steps j d reply.Memory old new refl counts)
told_steps j d revision shown (Ok plan) r old new counts (inr h) =
    subst (λ (x : Reply). CountsSteps j (Some d) (edit_reply x) old new) (sym h) (planned_steps j d (reply.Done (revision + 1)) old new refl counts)
told_steps j d revision shown (Err x) r old new counts told =
    subst (λ (y : Reply). CountsSteps j (Some d) (edit_reply y) old new) (sym told) counts
