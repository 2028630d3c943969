-- Disk faults along a legal history.
use Rattle.std.proofs.Common.{◌≡◌, ◌⊎◌, inl, inr, ℕ, ◌+◌, ◌-◌, ◌≤◌, ◌^◌, min, Bool, true, false, ◌||◌, if◌then◌else◌, nat_lt, List, [], ◌∷◌, ◌++◌, length, map, Option, Some, None, Result, Ok, Err, refl, sym, ap, ◌∙◌, arith}
use Rattle.std.specs.Str.{bytes_eq}
use Rattle.std.proofs.lemmas.Bool.{false≢true}
use Rattle.hl_base.specs.Causes.{Rose}
use Rattle.hl_base.specs.declared.change.Latest.{Latest}
use Rattle.hl_base.specs.declared.disk.Disk.{Ghosts}
use Rattle.book.specs.declared.transaction.Txn.{Txn}
use Rattle.live_journal.specs.declared.edit.Edit.TheVariants as edits
use Rattle.live_journal.specs.declared.fault.EditFault.{EditFault}
use Rattle.live_journal.specs.declared.fault.EditFault.TheVariants as refused
use Rattle.live_journal.specs.Edits.{applied}
use Rattle.live_journal.specs.Loading.{first_of}
use Rattle.live_journal.specs.Refusals.{refusal_of}
use Rattle.turn_lock.specs.declared.known.Entered.{Entered}
use Rattle.query.specs.Building.{IsOneOf}
use Rattle.plan_commands.specs.Reports.{Report}
use Rattle.text_store.specs.Stores.{disks}
use Rattle.desk.specs.declared.csv_fault.CsvFault.{CsvFault}
use Rattle.desk.specs.declared.deed.Deed.{Deed}
use Rattle.desk.specs.declared.desk.Desk.{Desk}
use Rattle.desk.specs.declared.reply.Reply.{Reply}
use Rattle.desk.specs.declared.reply.Reply.TheVariants as reply
use Rattle.desk.specs.declared.request.Allow.{Allow}
use Rattle.desk.specs.declared.request.Allow.TheVariants as allow
use Rattle.desk.specs.declared.request.Request.{Request}
use Rattle.desk.specs.declared.request.Request.TheVariants as request
use Rattle.desk.specs.Desks.{IsServed, faults_of, state_of}
use Rattle.desk.specs.Entries.{Entry}
use Rattle.desk.specs.Imports.{entries_of, new_deed, pattern_lines}
use Rattle.desk.specs.Reports.{refusable_lines, refusable_words, words_over}
use Rattle.desk.specs.Previews.{revision_line}
use Rattle.desk.specs.States.{Answer, State, added_by, answer_to, change_of, covers, deed_answer, deed_in, dry_run, edit_answer, file_answer, forbidden, full_cases, import_answer, is_due, journal_of, last_revision, long_name, many_states, no_room, or_done, or_replies, past_end, plain, record_size, refusals, refused_line, refused_pattern, refused_rule, report_reply, states_with, stays, unaccepted, unchanged, unless_forbidden}
use Rattle.desk.specs.Steps.{Gives, is_fault}
use Rattle.desk.proofs.DryLaws.{text_or}
use Rattle.shared_desk.specs.Histories.{IsLegal, has_fault}

-- a reply, if there is one, tells no disk fault
abbrev NoFault : Option Reply → Type 0
NoFault None = Unit {0}
NoFault (Some r) = is_fault r ≡ false

allowed_no : (covered : Bool) (need have : Allow) → NoFault (if covered then None else Some (reply.Forbidden need have))
allowed_no true need have = tt
allowed_no false need have = refl

same_no : (same : Bool) (revision : ℕ) → NoFault (if same then Some (reply.Same revision) else None)
same_no true revision = refl
same_no false revision = tt

room_no : (due past : Bool) (size limit : ℕ) → NoFault (if due then (if past then Some (reply.Full size limit) else None) else None)
room_no true true size limit = refl
room_no true false size limit = tt
room_no false past size limit = tt

end_no : (more : Bool) (size limit : ℕ) → NoFault (if more then None else Some (reply.Full size limit))
end_no true size limit = tt
end_no false size limit = refl

past_no : (n : ℕ) → NoFault (past_end n)
past_no n = end_no (nat_lt n (2 ^ 32)) n (2 ^ 32 - 1)

name_no : (mark : Option Latest) → NoFault (long_name mark)
name_no None = tt
name_no (Some mark) = past_no (length mark.name)

states_no : (states : Option (List Latest)) → NoFault (many_states states)
states_no None = tt
states_no (Some states) = past_no (length states)

accepted_no : (o : Option EditFault) → NoFault (unaccepted o)
accepted_no None = tt
accepted_no (Some (refused.BadBase base current)) = refl
accepted_no (Some (refused.Stale base current)) = refl
accepted_no (Some (refused.NoSuchItem n count)) = refl
accepted_no (Some (refused.NotTransactions line)) = refl
accepted_no (Some (refused.TooLarge limit size)) = refl
accepted_no (Some (refused.Load fault)) = refl
accepted_no (Some refused.Memory) = refl

next_no : (o : Option Reply) (rest : List (Option Reply)) → NoFault o → NoFault (first_of rest) → NoFault (first_of (o ∷ rest))
next_no None rest h more = more
next_no (Some r) rest h more = h

full_no : (s : State) (mark : Option Latest) (states : Option (List Latest)) (size : ℕ) → NoFault (first_of (full_cases s mark states size))
full_no s mark states size =
    let room = no_room s size in
    let last = last_revision s.revision in
    let name = long_name mark in
    let many = many_states states in
    next_no room (last ∷ name ∷ many ∷ []) (room_no (is_due s size) _ _ _)
    (next_no last (name ∷ many ∷ []) (end_no (nat_lt s.revision (2 ^ 62)) _ _)
    (next_no name (many ∷ []) (name_no mark)
    (next_no many [] (states_no states) tt)))

refusals_no : (s : State) (need : Allow) (d : Deed) → NoFault (first_of (refusals s need d))
refusals_no s need d =
    let refused_by = unaccepted (refusal_of (journal_of s) d.edit) in
    let whole = unchanged (applied s.text d.edit) s.text s.revision in
    let full = full_cases s d.mark (states_with d.mark s.latest) (record_size (change_of s.text d)) in
    next_no (forbidden s.allowed need) (refused_by ∷ whole ∷ full) (allowed_no (covers s.allowed need) _ _)
    (next_no refused_by (whole ∷ full) (accepted_no (refusal_of (journal_of s) d.edit))
    (next_no whole full (same_no (bytes_eq (applied s.text d.edit) s.text) _)
    (full_no s d.mark (states_with d.mark s.latest) (record_size (change_of s.text d)))))

done_no : (s : State) (d : Deed) (o : Option Reply) → NoFault o → is_fault (or_done s d o).reply ≡ false
done_no s d None h = refl
done_no s d (Some r) h = h

edit_no : (s : State) (need : Allow) (d : Deed) → is_fault (edit_answer s need d).reply ≡ false
edit_no s need d = done_no s d (first_of (refusals s need d)) (refusals_no s need d)

report_no : (revision : ℕ) (made : Report) → is_fault (report_reply revision made) ≡ false
report_no revision (Ok bytes) = refl
report_no revision (Err fault) = refl

new_no : (s : State) (o : Option Deed) → is_fault (deed_answer s o).reply ≡ false
new_no s None = refl
new_no s (Some d) = edit_no s allow.Add d

file_no : (s : State) (name : List ℕ) (file : Result (List Txn) CsvFault) → is_fault (file_answer s name file).reply ≡ false
file_no s name (Ok txns) = new_no s (new_deed s.text s.latest name txns)
file_no s name (Err fault) = refl

unless_no : (s : State) (o : Option Reply) (answer : Answer) → NoFault o → is_fault answer.reply ≡ false
    → is_fault (unless_forbidden s o answer).reply ≡ false
unless_no s None answer h none = none
unless_no s (Some r) answer h none = h

import_no : (s : State) (name rules csv : List ℕ) → is_fault (import_answer s name rules csv).reply ≡ false
import_no s name rules csv =
    unless_no s (forbidden s.allowed allow.Add) (or_replies (map refused_line (pattern_lines rules)) (file_answer s name (entries_of rules csv)))
    (allowed_no (covers s.allowed allow.Add) _ _) (file_no s name (entries_of rules csv))

dry_no : (s : State) (text : List ℕ) (answer : Answer) → is_fault answer.reply ≡ false → is_fault (dry_run s text answer).reply ≡ false
dry_no s text answer none = text_or (λ (r : Reply). is_fault r ≡ false) s.revision text answer.reply refl none

-- an answer tells none
answer_no : (s : State) (day : ℕ) (q : Request) → is_fault (answer_to s day q).reply ≡ false
unfolding answer_to
answer_no s day (request.Report words) = report_no s.revision (words_over day None s.text words)
answer_no s day request.Download = refl
answer_no s day (request.Add entry) = edit_no s allow.Add (plain (edits.Add entry))
answer_no s day (request.Change base item entry) = edit_no s allow.Edit (plain (edits.Change base item entry))
answer_no s day (request.Replace base text) = edit_no s allow.Edit (plain (edits.Replace base text))
answer_no s day (request.Import name rules csv) = import_no s name rules csv
answer_no s day (request.Check entry) =
    let answer = edit_answer s allow.Add (plain (edits.Add entry)) in
    dry_no s (revision_line (s.revision + 1)) answer (edit_no s allow.Add (plain (edits.Add entry)))
answer_no s day (request.Preview name rules csv) =
    let answer = import_answer s name rules csv in
    dry_no s (added_by s answer) answer (import_no s name rules csv)

-- no reply of a list tells one
those_no : {X : Type 0} (f : X → Reply) (xs : List X) (r : Reply) → ((x : X) → is_fault (f x) ≡ false) → IsOneOf r (map f xs) → is_fault r ≡ false
those_no f [] r none among = absurd among
those_no f (x ∷ xs) r none (inl is) = ap is_fault (sym is) ∙ none x
those_no f (x ∷ xs) r none (inr later) = those_no f xs r none later

-- nor one of two lists
either_no : (xs ys : List Reply) (r : Reply) → (IsOneOf r xs → is_fault r ≡ false) → (IsOneOf r ys → is_fault r ≡ false)
    → IsOneOf r (xs ++ ys) → is_fault r ≡ false
either_no [] ys r first second among = second among
either_no (x ∷ xs) ys r first second (inl is) = first (inl is)
either_no (x ∷ xs) ys r first second (inr later) = either_no xs ys r (λ among. first (inr among)) second later

or_done_no : (s : State) (d : Deed) (o : Option Reply) (r : Reply) → IsOneOf r (or_done s d o).others → is_fault r ≡ false
or_done_no s d None r among = absurd among
or_done_no s d (Some x) r among = absurd among

unless_others_no : (s : State) (o : Option Reply) (answer : Answer) (r : Reply) → (IsOneOf r answer.others → is_fault r ≡ false)
    → IsOneOf r (unless_forbidden s o answer).others → is_fault r ≡ false
unless_others_no s None answer r none among = none among
unless_others_no s (Some x) answer r none among = absurd among

import_others_no : (s : State) (name rules csv : List ℕ) (r : Reply) → IsOneOf r (import_answer s name rules csv).others → is_fault r ≡ false
import_others_no s name rules csv r among =
    unless_others_no s (forbidden s.allowed allow.Add) (or_replies (map refused_line (pattern_lines rules)) (file_answer s name (entries_of rules csv))) r
    (λ other. those_no refused_line (pattern_lines rules) r (λ line. refl) other) among

-- nor does another reply of it
others_no : (s : State) (day : ℕ) (q : Request) (r : Reply) → IsOneOf r (answer_to s day q).others → is_fault r ≡ false
unfolding answer_to
others_no s day (request.Report words) r among =
    either_no (map refused_pattern (refusable_words day words)) (map refused_rule (refusable_lines day None s.text words)) r
    (λ other. those_no refused_pattern (refusable_words day words) r (λ word. refl) other)
    (λ other. those_no refused_rule (refusable_lines day None s.text words) r (λ line. refl) other) among
others_no s day request.Download r among = absurd among
others_no s day (request.Add entry) r among =
    or_done_no s (plain (edits.Add entry)) (first_of (refusals s allow.Add (plain (edits.Add entry)))) r among
others_no s day (request.Change base item entry) r among =
    or_done_no s (plain (edits.Change base item entry)) (first_of (refusals s allow.Edit (plain (edits.Change base item entry)))) r among
others_no s day (request.Replace base text) r among =
    or_done_no s (plain (edits.Replace base text)) (first_of (refusals s allow.Edit (plain (edits.Replace base text)))) r among
others_no s day (request.Import name rules csv) r among = import_others_no s name rules csv r among
others_no s day (request.Check entry) r among =
    or_done_no s (plain (edits.Add entry)) (first_of (refusals s allow.Add (plain (edits.Add entry)))) r among
others_no s day (request.Preview name rules csv) r among = import_others_no s name rules csv r among

-- one step: the count stays, and no fault is told; or it rose
counts_so : (s : State) (day : ℕ) (q : Request) (before : ℕ) (r : Reply) (new : State) (after : ℕ)
    → Gives (answer_to s day q) (deed_in s q) s before r new after
    → ((after ≡ before) × (is_fault r ≡ false)) ⊎ Rose before after
counts_so s day q before r new after (inl is) = inl (is.2, ap is_fault is.0 ∙ answer_no s day q)
counts_so s day q before r new after (inr (inl memory)) = inl (memory.2, ap is_fault memory.0)
counts_so s day q before r new after (inr (inr (inl fault))) = inr fault.2
counts_so s day q before r new after (inr (inr (inr other))) = inl (other.2, others_no s day q r other.0)

at_most : (n : ℕ) → min n (2 ^ 64 - 1) ≤ 2 ^ 64 - 1
at_most n = omega arith

-- a count that rose doesn't fall
later_rose : (a b : ℕ) → a ≤ 2 ^ 64 - 1 → Rose a b → a ≤ b
later_rose a b most (inl less) = omega (arith, less)
later_rose a b most (inr last) = omega (arith, most, last)

rose_and_later : (a b c : ℕ) → c ≤ 2 ^ 64 - 1 → Rose a b → b ≤ c → Rose a c
rose_and_later a b c most (inl less) le = inl (omega (arith, less, le))
rose_and_later a b c most (inr last) le = inr (omega (arith, most, last, le))

both_later : (a b c : ℕ) → a ≤ b → b ≤ c → a ≤ c
both_later a b c p q = omega (arith, p, q)

same_later : (a b : ℕ) → b ≡ a → a ≤ b
same_later a b is = omega (arith, is)

later_and_rose : (a b c : ℕ) → a ≤ b → Rose b c → Rose a c
later_and_rose a b c le (inl less) = inl (omega (arith, less, le))
later_and_rose a b c le (inr last) = inr last

step_later : (a b : ℕ) (Q : Type 0) → a ≤ 2 ^ 64 - 1 → ((b ≡ a) × Q) ⊎ Rose a b → a ≤ b
step_later a b Q le (inl is) = omega (arith, is.0)
step_later a b Q le (inr rose) = later_rose a b le rose

first_or_later : (a b c : ℕ) (fault more : Bool) → a ≤ 2 ^ 64 - 1 → c ≤ 2 ^ 64 - 1 → ((b ≡ a) × (fault ≡ false)) ⊎ Rose a b → b ≤ c
    → (more ≡ true → Rose b c) → (fault || more) ≡ true → Rose a c
first_or_later a b c true more am cm (inl is) le rose any = absurd (false≢true (sym is.1))
first_or_later a b c false more am cm (inl is) le rose any = later_and_rose a b c (omega (arith, is.0)) (rose any)
first_or_later a b c fault more am cm (inr up) le rose any = rose_and_later a b c cm up le

module _ {D : Type 0} {g : Ghosts D} where
  most : (desk : Desk D g) → faults_of desk ≤ 2 ^ 64 - 1
  most desk = at_most (g.failures (disks desk.store).0 + g.failures (disks desk.store).1)

  step : (before after : Desk D g) (entry : Entry) → IsServed before entry after
      → ((faults_of after ≡ faults_of before) × (is_fault entry.reply ≡ false)) ⊎ Rose (faults_of before) (faults_of after)
  step before after entry served =
      counts_so (state_of before) entry.day.0 entry.request (faults_of before) entry.reply (state_of after) (faults_of after) served.serves.gives

  later : (opening last : Desk D g) (history : List (Entered Entry)) → IsLegal opening history last → faults_of opening ≤ faults_of last
  later opening last [] is = same_later (faults_of opening) (faults_of last) (ap (λ (d : Desk D g). faults_of d) (sym is))
  later opening last (x ∷ xs) is =
      let mid : Desk D g = is.0 in
      let first = step_later (faults_of opening) (faults_of mid) (is_fault x.entry.reply ≡ false) (most opening) (step opening mid x.entry is.1) in
      both_later (faults_of opening) (faults_of mid) (faults_of last) first (later mid last xs is.2)

  pub rose : (opening last : Desk D g) (history : List (Entered Entry)) → IsLegal opening history last
      → has_fault history ≡ true → Rose (faults_of opening) (faults_of last)
  rose opening last [] is any = absurd (false≢true any)
  rose opening last (x ∷ xs) is any =
      let mid : Desk D g = is.0 in
      first_or_later (faults_of opening) (faults_of mid) (faults_of last) (is_fault x.entry.reply) (has_fault xs) (most opening) (most last)
      (step opening mid x.entry is.1) (later mid last xs is.2) (rose mid last xs is.2) any
