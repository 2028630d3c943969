-- How a machine serves a request, by what it did.
use Rattle.std.proofs.Common.{◌≡◌, ◌⊎◌, inl, inr, ℕ, Bool, true, false, if◌then◌else◌, nat_lt, ◌^◌, ◌-◌, List, [], ◌∷◌, ◌++◌, map, length, Option, Some, None, IfSome, Ok, Err, refl, ap, sym, subst, ◌∙◌}
use Rattle.std.specs.Str.{bytes_eq}
use Rattle.hl_base.specs.declared.disk.Disk.{Ghosts}
use Rattle.hl_base.specs.declared.change.Latest.{Latest}
use Rattle.live_journal.specs.declared.edit.Edit.{Edit}
use Rattle.live_journal.specs.declared.edit.Edit.TheVariants as edits
use Rattle.live_journal.specs.declared.fault.EditFault.{EditFault}
use Rattle.live_journal.specs.declared.fault.EditFault.TheVariants as refused
use Rattle.live_journal.specs.Edits.{applied}
use Rattle.live_journal.specs.Journals.{Journal, Planned}
use Rattle.live_journal.specs.Loading.{first_of}
use Rattle.live_journal.specs.Refusals.{cause_in, or_refused, planned, prepared, refusal_of}
use Rattle.query.specs.Building.{IsOneOf}
use Rattle.plan_commands.specs.Reports.{Report}
use Rattle.desk.specs.declared.deed.Deed.{Deed}
use Rattle.desk.specs.declared.desk.Desk.{Desk}
use Rattle.desk.specs.declared.request.Allow.{Allow}
use Rattle.desk.specs.declared.request.Allow.TheVariants as allow
use Rattle.desk.specs.declared.request.Request.{Request}
use Rattle.desk.specs.declared.request.Request.TheVariants as request
use Rattle.desk.specs.declared.reply.Reply.{Reply}
use Rattle.desk.specs.declared.reply.Reply.TheVariants as reply
use Rattle.desk.specs.Desks.{Serves, state_of}
use Rattle.desk.specs.Imports.{entries_of}
use Rattle.desk.specs.Reports.{refusable_lines, refusable_words, words_over}
use Rattle.desk.specs.States.{Answer, State, answer_to, as_reply, cases_left, change_of, check_answer, covers, deed_in, deed_of_file, edit_answer, forbidden, full_cases, import_answer, is_due, journal_of, last_revision, long_name, many_states, no_room, or_done, plain, preview_answer, record_size, refusals, refused_pattern, refused_rule, report_answer, report_reply, Replies, states_with, stays, unaccepted, unchanged}
use Rattle.desk.specs.Steps.{is_done}
use Rattle.desk.proofs.Still.{still}

-- want of memory
pub out_of_memory : {D : Type 0} {g : Ghosts D} (answer : Answer) (d : Option Deed) (desk : Desk D g) → Serves answer d desk reply.Memory desk
out_of_memory answer d desk = still answer d desk reply.Memory (inr (inl (refl, inl refl, refl))) refl

-- a reply that leaves the state as it is
pub replied : {D : Type 0} {g : Ghosts D} (d : Option Deed) (desk : Desk D g) (r : Reply) → is_done r ≡ false → Serves (stays (state_of desk) r) d desk r desk
replied d desk r undone = still (stays (state_of desk) r) d desk r (inl (refl, refl, refl)) undone

either_reply : {D : Type 0} {g : Ghosts D} (d : Option Deed) (desk : Desk D g) (given r : Reply) → is_done given ≡ false → (r ≡ reply.Memory) ⊎ (r ≡ given) → Serves (stays (state_of desk) given) d desk r desk
either_reply d desk given r undone (inl h) =
    subst (λ (x : Reply). Serves (stays (state_of desk) given) d desk x desk) (sym h) (out_of_memory (stays (state_of desk) given) d desk)
either_reply d desk given r undone (inr h) =
    subst (λ (x : Reply). Serves (stays (state_of desk) given) d desk x desk) (sym h) (replied d desk given undone)

not_done : (revision : ℕ) (output : Report) → is_done (report_reply revision output) ≡ false
not_done revision (Ok bytes) = refl
not_done revision (Err fault) = refl

-- a refused pattern is no edit that stands
lines_undone : (lines : List ℕ) (r : Reply) → IsOneOf r (map refused_rule lines) → is_done r ≡ false
lines_undone [] r among = absurd among
lines_undone (line ∷ lines) r (inl is) = sym (ap is_done is)
lines_undone (line ∷ lines) r (inr among) = lines_undone lines r among

refused_undone : (words : List (List ℕ)) (lines : List ℕ) (r : Reply) → IsOneOf r (map refused_pattern words ++ map refused_rule lines) → is_done r ≡ false
refused_undone [] lines r among = lines_undone lines r among
refused_undone (word ∷ words) lines r (inl is) = sym (ap is_done is)
refused_undone (word ∷ words) lines r (inr among) = refused_undone words lines r among

by_report : {D : Type 0} {g : Ghosts D} (desk : Desk D g) (day : ℕ) (words : List (List ℕ)) (r : Reply)
    → Replies desk.live.revision day desk.live.text words r → Serves (report_answer (state_of desk) day words) None desk r desk
by_report desk day words r (inl h) =
    subst (λ (x : Reply). Serves (report_answer (state_of desk) day words) None desk x desk) (sym h) (out_of_memory (report_answer (state_of desk) day words) None desk)
by_report desk day words r (inr (inl h)) =
    let given = report_reply desk.live.revision (words_over day None desk.live.text words) in
    subst (λ (x : Reply). Serves (report_answer (state_of desk) day words) None desk x desk) (sym h)
    (still (report_answer (state_of desk) day words) None desk given (inl (refl, refl, refl)) (not_done desk.live.revision (words_over day None desk.live.text words)))
by_report desk day words r (inr (inr among)) =
    still (report_answer (state_of desk) day words) None desk r (inr (inr (inr (among, refl, refl)))) (refused_undone (refusable_words day words) (refusable_lines day None desk.live.text words) r among)

pub reported : {D : Type 0} {g : Ghosts D} (desk : Desk D g) (day : ℕ) (q : Request) (words : List (List ℕ)) (r : Reply) → q ≡ request.Report words
    → Replies desk.live.revision day desk.live.text words r → Serves (answer_to (state_of desk) day q) (deed_in (state_of desk) q) desk r desk
unfolding answer_to
reported desk day q words r is h =
    subst (λ (x : Request). Serves (answer_to (state_of desk) day x) (deed_in (state_of desk) x) desk r desk) (sym is) (by_report desk day words r h)

pub downloaded : {D : Type 0} {g : Ghosts D} (desk : Desk D g) (day : ℕ) (q : Request) (r : Reply) → q ≡ request.Download
    → (r ≡ reply.Memory) ⊎ (r ≡ reply.Text desk.live.revision desk.live.text) → Serves (answer_to (state_of desk) day q) (deed_in (state_of desk) q) desk r desk
unfolding answer_to
downloaded desk day q r is h =
    subst (λ (x : Request). Serves (answer_to (state_of desk) day x) (deed_in (state_of desk) x) desk r desk) (sym is) (either_reply None desk _ r refl h)

pub was_add : {D : Type 0} {g : Ghosts D} (old new : Desk D g) (day : ℕ) (q : Request) (entry : List ℕ) (r : Reply) → q ≡ request.Add entry
    → Serves (edit_answer (state_of old) allow.Add (plain (edits.Add entry))) (Some (plain (edits.Add entry))) old r new
    → Serves (answer_to (state_of old) day q) (deed_in (state_of old) q) old r new
unfolding answer_to
was_add old new day q entry r is h =
    subst (λ (x : Request). Serves (answer_to (state_of old) day x) (deed_in (state_of old) x) old r new) (sym is) h

pub was_change : {D : Type 0} {g : Ghosts D} (old new : Desk D g) (day : ℕ) (q : Request) (base item : ℕ) (entry : List ℕ) (r : Reply) → q ≡ request.Change base item entry
    → Serves (edit_answer (state_of old) allow.Edit (plain (edits.Change base item entry))) (Some (plain (edits.Change base item entry))) old r new
    → Serves (answer_to (state_of old) day q) (deed_in (state_of old) q) old r new
unfolding answer_to
was_change old new day q base item entry r is h =
    subst (λ (x : Request). Serves (answer_to (state_of old) day x) (deed_in (state_of old) x) old r new) (sym is) h

pub was_replace : {D : Type 0} {g : Ghosts D} (old new : Desk D g) (day : ℕ) (q : Request) (base : ℕ) (text : List ℕ) (r : Reply) → q ≡ request.Replace base text
    → Serves (edit_answer (state_of old) allow.Edit (plain (edits.Replace base text))) (Some (plain (edits.Replace base text))) old r new
    → Serves (answer_to (state_of old) day q) (deed_in (state_of old) q) old r new
unfolding answer_to
was_replace old new day q base text r is h =
    subst (λ (x : Request). Serves (answer_to (state_of old) day x) (deed_in (state_of old) x) old r new) (sym is) h

pub was_import : {D : Type 0} {g : Ghosts D} (old new : Desk D g) (day : ℕ) (q : Request) (name rules csv : List ℕ) (r : Reply) → q ≡ request.Import name rules csv
    → Serves (import_answer (state_of old) name rules csv) (deed_of_file (state_of old) name (entries_of rules csv)) old r new
    → Serves (answer_to (state_of old) day q) (deed_in (state_of old) q) old r new
unfolding answer_to
was_import old new day q name rules csv r is h =
    subst (λ (x : Request). Serves (answer_to (state_of old) day x) (deed_in (state_of old) x) old r new) (sym is) h

pub was_check : {D : Type 0} {g : Ghosts D} (old new : Desk D g) (day : ℕ) (q : Request) (entry : List ℕ) (r : Reply) → q ≡ request.Check entry
    → Serves (check_answer (state_of old) (plain (edits.Add entry))) None old r new → Serves (answer_to (state_of old) day q) (deed_in (state_of old) q) old r new
unfolding answer_to
was_check old new day q entry r is h =
    subst (λ (x : Request). Serves (answer_to (state_of old) day x) (deed_in (state_of old) x) old r new) (sym is) h

pub was_preview : {D : Type 0} {g : Ghosts D} (old new : Desk D g) (day : ℕ) (q : Request) (name rules csv : List ℕ) (r : Reply) → q ≡ request.Preview name rules csv
    → Serves (preview_answer (state_of old) name rules csv) None old r new → Serves (answer_to (state_of old) day q) (deed_in (state_of old) q) old r new
unfolding answer_to
was_preview old new day q name rules csv r is h =
    subst (λ (x : Request). Serves (answer_to (state_of old) day x) (deed_in (state_of old) x) old r new) (sym is) h

-- the same of a machine that is seen in the same parts
pub reseen : {D : Type 0} {g : Ghosts D} (answer : State → Answer) (d : Option Deed) (old mid new : Desk D g) (r : Reply)
    → old.store ≡ mid.store → old.live ≡ mid.live → old.latest ≡ mid.latest → old.allow ≡ mid.allow → Serves (answer (state_of mid)) d mid r new → Serves (answer (state_of old)) d old r new
reseen answer d old mid new r store live latest allowed h = record {
  gives = rw (store, live, latest, allowed) h.gives;
  stands = rw (store, live, latest, allowed) h.stands;
  crash = rw (store, live, latest, allowed) h.crash;
  keeps = rw store h.keeps;
  no_wider = rw store h.no_wider;
}

-- a journal without a year is what the state says of it
pub journal_is : {D : Type 0} {g : Ghosts D} (desk : Desk D g) → desk.live.year ≡ None → journal_of (state_of desk) ≡ desk.live
journal_is desk h =
    ap (λ (y : Option ℕ). record { text = desk.live.text; year = y; revision = desk.live.revision }) (sym h)

skip : (a : Option Reply) (rest : List (Option Reply)) → a ≡ None → first_of (a ∷ rest) ≡ first_of rest
skip None rest h = refl
skip (Some x) rest h = cc

pub stop : (a : Option Reply) (rest : List (Option Reply)) (r : Reply) → a ≡ Some r → first_of (a ∷ rest) ≡ Some r
stop None rest r h = cc
stop (Some x) rest r h = h

pub accepted_answer : (s : State) (need : Allow) (d : Deed) → forbidden s.allowed need ≡ None → refusal_of (journal_of s) d.edit ≡ None → edit_answer s need d ≡ or_done s d (first_of (cases_left s d))
accepted_answer s need d f h =
    ap (or_done s d) (skip (forbidden s.allowed need) _ f ∙ skip (unaccepted (refusal_of (journal_of s) d.edit)) (cases_left s d) (ap unaccepted h))

pub forbidden_answer : (s : State) (need : Allow) (d : Deed) (r : Reply) → forbidden s.allowed need ≡ Some r → edit_answer s need d ≡ stays s r
forbidden_answer s need d r f = ap (or_done s d) (stop (forbidden s.allowed need) _ r f)

pub refused_answer : (s : State) (need : Allow) (d : Deed) (fault : EditFault) → forbidden s.allowed need ≡ None → refusal_of (journal_of s) d.edit ≡ Some fault → edit_answer s need d ≡ stays s (as_reply fault)
refused_answer s need d fault f h =
    ap (or_done s d) (skip (forbidden s.allowed need) _ f ∙ stop (unaccepted (refusal_of (journal_of s) d.edit)) (cases_left s d) (as_reply fault) (ap unaccepted h))

refusal_by : (plan : Planned) (o : Option EditFault) (fault : EditFault) → or_refused plan o ≡ Err fault → o ≡ Some fault
refusal_by plan None fault h = cc
refusal_by plan (Some x) fault h = cc

pub refusal_is : (j : Journal) (e : Edit) (fault : EditFault) → prepared j e ≡ Err fault → refusal_of j e ≡ Some fault
refusal_is j e fault h = refusal_by (planned j e) (refusal_of j e) fault h

plan_by : (plan given : Planned) (o : Option EditFault) → or_refused given o ≡ Ok plan → (o ≡ None) × (plan ≡ given)
plan_by plan given None h = (refl, cc)
plan_by plan given (Some x) h = cc

pub plan_is : (j : Journal) (e : Edit) (plan : Planned) → prepared j e ≡ Ok plan → (refusal_of j e ≡ None) × (plan ≡ planned j e)
plan_is j e plan h = plan_by plan (planned j e) (refusal_of j e) h

pub fault_undone : (fault : EditFault) → is_done (as_reply fault) ≡ false
fault_undone (refused.BadBase base current) = refl
fault_undone (refused.Stale base current) = refl
fault_undone (refused.NoSuchItem n count) = refl
fault_undone (refused.NotTransactions line) = refl
fault_undone (refused.TooLarge limit size) = refl
fault_undone (refused.Load fault) = refl
fault_undone refused.Memory = refl

by_cause : {D : Type 0} {g : Ghosts D} (desk : Desk D g) (need : Allow) (d : Deed) (fault : EditFault) → forbidden desk.allow need ≡ None → (refusal_of (journal_of (state_of desk)) d.edit ≡ Some fault) → Serves (edit_answer (state_of desk) need d) (Some d) desk (as_reply fault) desk
by_cause desk need d fault f h =
    subst (λ (a : Answer). Serves a (Some d) desk (as_reply fault) desk) (sym (refused_answer (state_of desk) need d fault f h)) (replied (Some d) desk (as_reply fault) (fault_undone fault))

-- an edit that the journal refuses is answered so
pub refused_by : {D : Type 0} {g : Ghosts D} (desk : Desk D g) (need : Allow) (d : Deed) (fault : EditFault) → forbidden desk.allow need ≡ None → desk.live.year ≡ None
    → IfSome (cause_in fault) (λ f. prepared desk.live d.edit ≡ Err f) → Serves (edit_answer (state_of desk) need d) (Some d) desk (as_reply fault) desk
refused_by desk need d refused.Memory f year h = out_of_memory (edit_answer (state_of desk) need d) (Some d) desk
refused_by desk need d (refused.BadBase base current) f year h = by_cause desk need d _ f (ap (λ (j : Journal). refusal_of j d.edit) (journal_is desk year) ∙ refusal_is desk.live d.edit _ h)
refused_by desk need d (refused.Stale base current) f year h = by_cause desk need d _ f (ap (λ (j : Journal). refusal_of j d.edit) (journal_is desk year) ∙ refusal_is desk.live d.edit _ h)
refused_by desk need d (refused.NoSuchItem n count) f year h = by_cause desk need d _ f (ap (λ (j : Journal). refusal_of j d.edit) (journal_is desk year) ∙ refusal_is desk.live d.edit _ h)
refused_by desk need d (refused.NotTransactions line) f year h = by_cause desk need d _ f (ap (λ (j : Journal). refusal_of j d.edit) (journal_is desk year) ∙ refusal_is desk.live d.edit _ h)
refused_by desk need d (refused.TooLarge limit size) f year h = by_cause desk need d _ f (ap (λ (j : Journal). refusal_of j d.edit) (journal_is desk year) ∙ refusal_is desk.live d.edit _ h)
refused_by desk need d (refused.Load fault) f year h = by_cause desk need d _ f (ap (λ (j : Journal). refusal_of j d.edit) (journal_is desk year) ∙ refusal_is desk.live d.edit _ h)

-- an edit that the journal accepts is answered as what is left to judge says
pub accepted_by : {D : Type 0} {g : Ghosts D} (old mid new : Desk D g) (need : Allow) (d : Deed) (r : Reply)
    → old.store ≡ mid.store → old.live ≡ mid.live → old.latest ≡ mid.latest → old.allow ≡ mid.allow → forbidden old.allow need ≡ None → refusal_of (journal_of (state_of old)) d.edit ≡ None
    → Serves (or_done (state_of mid) d (first_of (cases_left (state_of mid) d))) (Some d) mid r new → Serves (edit_answer (state_of old) need d) (Some d) old r new
accepted_by old mid new need d r store live latest allowed f h served =
    subst (λ (a : Answer). Serves a (Some d) old r new) (sym (accepted_answer (state_of old) need d f h)) (reseen (λ s. or_done s d (first_of (cases_left s d))) (Some d) old mid new r store live latest allowed served)

-- a first refusal that is left to judge is the reply
pub unchanged_by : {D : Type 0} {g : Ghosts D} (desk : Desk D g) (d : Deed) → bytes_eq (applied desk.live.text d.edit) desk.live.text ≡ true
    → Serves (or_done (state_of desk) d (first_of (cases_left (state_of desk) d))) (Some d) desk (reply.Same desk.live.revision) desk
unchanged_by desk d same =
    let s = state_of desk in
    let first : unchanged (applied s.text d.edit) s.text s.revision ≡ Some (reply.Same s.revision) = rw same refl in
    subst (λ (a : Answer). Serves a (Some d) desk (reply.Same s.revision) desk) (sym (ap (or_done s d) (stop _ _ _ first))) (replied (Some d) desk (reply.Same s.revision) refl)

-- the cases in which there is no room for an edit, or a number has come to its end
abbrev pub full_of : State → Deed → List (Option Reply)
full_of s d = full_cases s d.mark (states_with d.mark s.latest) (record_size (change_of s.text d))

-- what is left after the text was found to change
pub changing : (s : State) (d : Deed) → bytes_eq (applied s.text d.edit) s.text ≡ false → first_of (cases_left s d) ≡ first_of (full_of s d)
changing s d other =
    let first : unchanged (applied s.text d.edit) s.text s.revision ≡ None = rw other refl in
    skip (unchanged (applied s.text d.edit) s.text s.revision) (full_of s d) first

pub full_by : {D : Type 0} {g : Ghosts D} (desk : Desk D g) (d : Deed) (r : Reply) → bytes_eq (applied desk.live.text d.edit) desk.live.text ≡ false
    → first_of (full_of (state_of desk) d) ≡ Some r → is_done r ≡ false
    → Serves (or_done (state_of desk) d (first_of (cases_left (state_of desk) d))) (Some d) desk r desk
full_by desk d r other full undone =
    let s = state_of desk in
    subst (λ (a : Answer). Serves a (Some d) desk r desk) (sym (ap (or_done s d) (changing s d other ∙ full))) (replied (Some d) desk r undone)

pub kept_by : {D : Type 0} {g : Ghosts D} (old new : Desk D g) (d : Deed) (r : Reply) → bytes_eq (applied old.live.text d.edit) old.live.text ≡ false
    → first_of (full_of (state_of old) d) ≡ None
    → Serves (or_done (state_of old) d None) (Some d) old r new → Serves (or_done (state_of old) d (first_of (cases_left (state_of old) d))) (Some d) old r new
kept_by old new d r other roomed served =
    let s = state_of old in
    subst (λ (a : Answer). Serves a (Some d) old r new) (sym (ap (or_done s d) (changing s d other ∙ roomed))) served

abbrev Undone : Option Reply → Type 0
Undone None = Unit {0}
Undone (Some r) = is_done r ≡ false

next_undone : (o : Option Reply) (rest : List (Option Reply)) (r : Reply) → Undone o → (first_of rest ≡ Some r → is_done r ≡ false) → first_of (o ∷ rest) ≡ Some r → is_done r ≡ false
next_undone None rest r u more h = more h
next_undone (Some x) rest r u more h =
    let e : x ≡ r = cc in
    subst (λ (y : Reply). is_done y ≡ false) e u

only_undone : (o : Option Reply) (r : Reply) → Undone o → o ≡ Some r → is_done r ≡ false
only_undone None r u h = cc
only_undone (Some x) r u h =
    let e : x ≡ r = cc in
    subst (λ (y : Reply). is_done y ≡ false) e u

room_undone : (due past : Bool) (size limit : ℕ) → Undone (if due then (if past then Some (reply.Full size limit) else None) else None)
room_undone true true size limit = refl
room_undone true false size limit = tt
room_undone false past size limit = tt

last_undone : (more : Bool) (size limit : ℕ) → Undone (if more then None else Some (reply.Full size limit))
last_undone true size limit = tt
last_undone false size limit = refl

end_undone : (n : ℕ) (within : Bool) → Undone (if within then None else Some (reply.Full n (2 ^ 32 - 1)))
end_undone n true = tt
end_undone n false = refl

name_undone : (mark : Option Latest) → Undone (long_name mark)
name_undone None = tt
name_undone (Some mark) = end_undone (length mark.name) (nat_lt (length mark.name) (2 ^ 32))

states_undone : (states : Option (List Latest)) → Undone (many_states states)
states_undone None = tt
states_undone (Some states) = end_undone (length states) (nat_lt (length states) (2 ^ 32))

-- the replies of a store without room are refusals
pub full_undone : (s : State) (mark : Option Latest) (states : Option (List Latest)) (size : ℕ) (r : Reply) → first_of (full_cases s mark states size) ≡ Some r → is_done r ≡ false
full_undone s mark states size r h =
    next_undone (no_room s size) (last_revision s.revision ∷ long_name mark ∷ many_states states ∷ []) r (room_undone (is_due s size) _ _ _)
    (next_undone (last_revision s.revision) (long_name mark ∷ many_states states ∷ []) r (last_undone (nat_lt s.revision (2 ^ 62)) _ _)
    (next_undone (long_name mark) (many_states states ∷ []) r (name_undone mark)
    (next_undone (many_states states) [] r (states_undone states) (λ none. absurd (cc none))))) h

allowed_undone : (covered : Bool) (need have : Allow) → Undone (if covered then None else Some (reply.Forbidden need have))
allowed_undone true need have = tt
allowed_undone false need have = refl

same_undone : (same : Bool) (revision : ℕ) → Undone (if same then Some (reply.Same revision) else None)
same_undone true revision = refl
same_undone false revision = tt

accepted_undone : (o : Option EditFault) → Undone (unaccepted o)
accepted_undone None = tt
accepted_undone (Some fault) = fault_undone fault

-- what is left to judge of a planned edit is refused
pub cases_undone : (s : State) (d : Deed) (r : Reply) → first_of (cases_left s d) ≡ Some r → is_done r ≡ false
cases_undone s d r h =
    next_undone (unchanged (applied s.text d.edit) s.text s.revision) (full_of s d) r (same_undone (bytes_eq (applied s.text d.edit) s.text) s.revision)
    (full_undone s d.mark (states_with d.mark s.latest) (record_size (change_of s.text d)) r) h

-- what isn't allowed isn't done
pub forbidden_undone : (have need : Allow) (r : Reply) → forbidden have need ≡ Some r → is_done r ≡ false
forbidden_undone have need r h = only_undone (forbidden have need) r (allowed_undone (covers have need) need have) h

-- nor is what is refused
pub refusals_undone : (s : State) (need : Allow) (d : Deed) (r : Reply) → first_of (refusals s need d) ≡ Some r → is_done r ≡ false
refusals_undone s need d r h =
    next_undone (forbidden s.allowed need) (unaccepted (refusal_of (journal_of s) d.edit) ∷ cases_left s d) r (allowed_undone (covers s.allowed need) need s.allowed)
    (next_undone (unaccepted (refusal_of (journal_of s) d.edit)) (cases_left s d) r (accepted_undone (refusal_of (journal_of s) d.edit))
    (next_undone (unchanged (applied s.text d.edit) s.text s.revision) (full_of s d) r (same_undone (bytes_eq (applied s.text d.edit) s.text) s.revision)
    (full_undone s d.mark (states_with d.mark s.latest) (record_size (change_of s.text d)) r))) h

pub forbids : (have need : Allow) → covers have need ≡ false → forbidden have need ≡ Some (reply.Forbidden need have)
forbids have need h = rw h refl

pub permits : (have need : Allow) → covers have need ≡ true → forbidden have need ≡ None
permits have need h = rw h refl
