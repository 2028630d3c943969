-- What an edit is replied.
use Rattle.std.proofs.Common.{◌≡◌, inl, inr, ℕ, ◌^◌, ◌-◌, Bool, true, false, if◌then◌else◌, nat_lt, List, [], ◌∷◌, map, length, Option, Some, None, Result, Ok, Err, refl, sym, ap, subst, ◌∙◌}
use Rattle.std.specs.Str.{bytes_eq}
use Rattle.hl_base.specs.Causes.{Rose}
use Rattle.hl_base.specs.declared.change.Latest.{Latest}
use Rattle.book.specs.declared.transaction.Txn.{Txn}
use Rattle.query.specs.Building.{IsOneOf}
use Rattle.live_journal.specs.declared.edit.Edit.TheVariants as edits
use Rattle.live_journal.specs.declared.fault.EditFault.{EditFault}
use Rattle.live_journal.specs.declared.fault.EditFault.TheVariants as refused
use Rattle.live_journal.specs.Edits.{applied}
use Rattle.live_journal.specs.Loading.{first_of}
use Rattle.live_journal.specs.Refusals.{refusal_of}
use Rattle.desk.specs.declared.csv_fault.CsvFault.{CsvFault}
use Rattle.desk.specs.declared.deed.Deed.{Deed}
use Rattle.desk.specs.declared.request.Allow.{Allow}
use Rattle.desk.specs.declared.request.Allow.TheVariants as allow
use Rattle.desk.specs.declared.request.Request.{Request}
use Rattle.desk.specs.declared.request.Request.TheVariants as request
use Rattle.desk.specs.declared.reply.Reply.{Reply}
use Rattle.desk.specs.declared.reply.Reply.TheVariants as reply
use Rattle.desk.specs.Imports.{entries_of, new_deed, pattern_lines}
use Rattle.desk.specs.States.{Answer, State, answer_to, change_of, covers, deed_answer, edit_answer, file_answer, forbidden, import_answer, is_due, journal_of, last_revision, long_name, many_states, no_room, or_done, or_replies, plain, record_size, refusals, refused_line, states_with, unaccepted, unchanged, unless_forbidden}
use Rattle.desk.specs.Steps.{Gives, is_fault}
use Rattle.store_commands.specs.Replies.{IsEdit, IsEditReply}

-- a reply to an edit that tells no disk fault
abbrev pub IsPlain : Reply → Type 0
IsPlain r = IsEditReply r × (is_fault r ≡ false)

abbrev IfPlain : Option Reply → Type 0
IfPlain None = Unit {0}
IfPlain (Some r) = IsPlain r

allowed_plain : (covered : Bool) (need have : Allow) → IfPlain (if covered then None else Some (reply.Forbidden need have))
allowed_plain true need have = tt
allowed_plain false need have = (tt, refl)

same_plain : (same : Bool) (revision : ℕ) → IfPlain (if same then Some (reply.Same revision) else None)
same_plain true revision = (tt, refl)
same_plain false revision = tt

room_plain : (due past : Bool) (size limit : ℕ) → IfPlain (if due then (if past then Some (reply.Full size limit) else None) else None)
room_plain true true size limit = (tt, refl)
room_plain true false size limit = tt
room_plain false past size limit = tt

last_plain : (more : Bool) (size limit : ℕ) → IfPlain (if more then None else Some (reply.Full size limit))
last_plain true size limit = tt
last_plain false size limit = (tt, refl)

end_plain : (n : ℕ) (within : Bool) → IfPlain (if within then None else Some (reply.Full n (2 ^ 32 - 1)))
end_plain n true = tt
end_plain n false = (tt, refl)

name_plain : (mark : Option Latest) → IfPlain (long_name mark)
name_plain None = tt
name_plain (Some mark) = end_plain (length mark.name) (nat_lt (length mark.name) (2 ^ 32))

states_plain : (states : Option (List Latest)) → IfPlain (many_states states)
states_plain None = tt
states_plain (Some states) = end_plain (length states) (nat_lt (length states) (2 ^ 32))

accepted_plain : (o : Option EditFault) → IfPlain (unaccepted o)
accepted_plain None = tt
accepted_plain (Some (refused.BadBase base current)) = (tt, refl)
accepted_plain (Some (refused.Stale base current)) = (tt, refl)
accepted_plain (Some (refused.NoSuchItem n count)) = (tt, refl)
accepted_plain (Some (refused.NotTransactions line)) = (tt, refl)
accepted_plain (Some (refused.TooLarge limit size)) = (tt, refl)
accepted_plain (Some (refused.Load fault)) = (tt, refl)
accepted_plain (Some refused.Memory) = (tt, refl)

next_plain : (o : Option Reply) (rest : List (Option Reply)) → IfPlain o → IfPlain (first_of rest) → IfPlain (first_of (o ∷ rest))
next_plain None rest h more = more
next_plain (Some r) rest h more = h

refusals_plain : (s : State) (need : Allow) (d : Deed) → IfPlain (first_of (refusals s need d))
refusals_plain s need d =
    let refused_by = unaccepted (refusal_of (journal_of s) d.edit) in
    let whole = unchanged (applied s.text d.edit) s.text s.revision in
    let room = no_room s (record_size (change_of s.text d)) in
    let last = last_revision s.revision in
    let name = long_name d.mark in
    let states = many_states (states_with d.mark s.latest) in
    next_plain (forbidden s.allowed need) (refused_by ∷ whole ∷ room ∷ last ∷ name ∷ states ∷ []) (allowed_plain (covers s.allowed need) _ _)
    (next_plain refused_by (whole ∷ room ∷ last ∷ name ∷ states ∷ []) (accepted_plain (refusal_of (journal_of s) d.edit))
    (next_plain whole (room ∷ last ∷ name ∷ states ∷ []) (same_plain (bytes_eq (applied s.text d.edit) s.text) _)
    (next_plain room (last ∷ name ∷ states ∷ []) (room_plain (is_due s (record_size (change_of s.text d))) _ _ _)
    (next_plain last (name ∷ states ∷ []) (last_plain (nat_lt s.revision (2 ^ 62)) _ _)
    (next_plain name (states ∷ []) (name_plain d.mark)
    (next_plain states [] (states_plain (states_with d.mark s.latest)) tt))))))

-- an answer has plain replies alone
pub record AllPlain (answer : Answer) : Type 0 where
  pub one : IsPlain answer.reply
  pub others : (r : Reply) → IsOneOf r answer.others → IsPlain r

done_plain : (s : State) (d : Deed) (o : Option Reply) → IfPlain o → AllPlain (or_done s d o)
done_plain s d None h = record { one = (tt, refl); others = λ r among. absurd among }
done_plain s d (Some x) h = record { one = h; others = λ r among. absurd among }

edit_plain : (s : State) (need : Allow) (d : Deed) → AllPlain (edit_answer s need d)
edit_plain s need d = done_plain s d (first_of (refusals s need d)) (refusals_plain s need d)

deed_plain : (s : State) (o : Option Deed) → IsPlain (deed_answer s o).reply
deed_plain s None = (tt, refl)
deed_plain s (Some d) = (edit_plain s allow.Add d).one

file_plain : (s : State) (name : List ℕ) (made : Result (List Txn) CsvFault) → IsPlain (file_answer s name made).reply
file_plain s name (Ok txns) = deed_plain s (new_deed s.text s.latest name txns)
file_plain s name (Err fault) = (tt, refl)

lines_plain : (lines : List ℕ) (r : Reply) → IsOneOf r (map refused_line lines) → IsPlain r
lines_plain [] r among = absurd among
lines_plain (line ∷ lines) r (inl is) = subst IsPlain is (tt, refl)
lines_plain (line ∷ lines) r (inr among) = lines_plain lines r among

unless_plain : (s : State) (o : Option Reply) (answer : Answer) → IfPlain o → AllPlain answer → AllPlain (unless_forbidden s o answer)
unless_plain s None answer h all = all
unless_plain s (Some x) answer h all = record { one = h; others = λ r among. absurd among }

import_plain : (s : State) (name rules csv : List ℕ) → AllPlain (import_answer s name rules csv)
import_plain s name rules csv =
    unless_plain s (forbidden s.allowed allow.Add) (or_replies (map refused_line (pattern_lines rules)) (file_answer s name (entries_of rules csv)))
    (allowed_plain (covers s.allowed allow.Add) allow.Add s.allowed)
    (record { one = file_plain s name (entries_of rules csv); others = lines_plain (pattern_lines rules) })

pub answer_plain : (s : State) (day : ℕ) (q : Request) → IsEdit q → AllPlain (answer_to s day q)
unfolding answer_to
answer_plain s day (request.Report words) is = absurd is
answer_plain s day request.Download is = absurd is
answer_plain s day (request.Add entry) is = edit_plain s allow.Add (plain (edits.Add entry))
answer_plain s day (request.Change base item entry) is = edit_plain s allow.Edit (plain (edits.Change base item entry))
answer_plain s day (request.Replace base text) is = edit_plain s allow.Edit (plain (edits.Replace base text))
answer_plain s day (request.Import name rules csv) is = import_plain s name rules csv
answer_plain s day (request.Check entry) is = absurd is
answer_plain s day (request.Preview name rules csv) is = absurd is

no_fault : (r : Reply) → is_fault r ≡ false → is_fault r ≡ true → (a b : ℕ) → Rose a b
no_fault r lacks has a b = absurd (of (sym lacks ∙ has))
  where
    of : false ≡ true → ⊥
    of e = cc

-- what an edit is replied is a reply to an edit
pub gives_edit : (answer : Answer) (d : Option Deed) (old : State) (before : ℕ) (r : Reply) (new : State) (after : ℕ) → AllPlain answer
    → Gives answer d old before r new after → IsEditReply r
gives_edit answer d old before r new after all (inl h) = subst IsEditReply (sym h.0) all.one.0
gives_edit answer d old before r new after all (inr (inl h)) = subst IsEditReply (sym h.0) tt
gives_edit answer d old before r new after all (inr (inr (inl h))) = subst IsEditReply (sym h.0) tt
gives_edit answer d old before r new after all (inr (inr (inr h))) = (all.others r h.0).0

-- and a disk fault only where the count rose
pub gives_rose : (answer : Answer) (d : Option Deed) (old : State) (before : ℕ) (r : Reply) (new : State) (after : ℕ) → AllPlain answer
    → Gives answer d old before r new after → is_fault r ≡ true → Rose before after
gives_rose answer d old before r new after all (inl h) e = no_fault r (ap is_fault h.0 ∙ all.one.1) e before after
gives_rose answer d old before r new after all (inr (inl h)) e = no_fault r (ap is_fault h.0) e before after
gives_rose answer d old before r new after all (inr (inr (inl h))) e = h.2
gives_rose answer d old before r new after all (inr (inr (inr h))) e = no_fault r (all.others r h.0).1 e before after

true_false : true ≡ false → ⊥
true_false e = cc

-- with any other reply it stays
pub gives_same : (answer : Answer) (d : Option Deed) (old : State) (before : ℕ) (r : Reply) (new : State) (after : ℕ)
    → Gives answer d old before r new after → is_fault r ≡ false → after ≡ before
gives_same answer d old before r new after (inl h) e = h.2
gives_same answer d old before r new after (inr (inl h)) e = h.2
gives_same answer d old before r new after (inr (inr (inl h))) e = absurd (true_false (sym (ap is_fault h.0) ∙ e))
gives_same answer d old before r new after (inr (inr (inr h))) e = h.2
