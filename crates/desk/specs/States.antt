-- The state of the machine, and what each request makes of it.
use Rattle.std.specs.Prelude.{◌≡◌, ◌⊎◌, ℕ, ◌+◌, ◌-◌, ◌*◌, ◌^◌, min, Bool, true, false, ◌||◌, List, [], ◌∷◌, ◌++◌, map, nat_lt, Option, Some, None, Result, Ok, Err, if◌then◌else◌, length}
use Rattle.std.specs.Option.{option_map, unwrap_or}
use Rattle.std.specs.Str.{bytes_eq}
use Rattle.hl_base.specs.declared.change.Latest.{Latest}
use Rattle.book.specs.declared.transaction.Txn.{Txn}
use Rattle.csv_rules.specs.declared.faults.RulesFault.TheVariants as rules_fault
use Rattle.text_store.specs.declared.change.Change.{Change}
use Rattle.text_store.specs.declared.change.Change.TheVariants as change
use Rattle.text_store.specs.declared.image.Image.{Image}
use Rattle.text_store.specs.Changes.{payload_of}
use Rattle.text_store.specs.Edits.{whole_size}
use Rattle.text_store.specs.Image.{with_mark}
use Rattle.live_journal.specs.declared.edit.Edit.{Edit}
use Rattle.live_journal.specs.declared.edit.Edit.TheVariants as edits
use Rattle.live_journal.specs.declared.fault.EditFault.{EditFault}
use Rattle.live_journal.specs.declared.fault.EditFault.TheVariants as refused
use Rattle.live_journal.specs.Edits.{applied, splice_of}
use Rattle.live_journal.specs.Journals.{Journal}
use Rattle.live_journal.specs.Loading.{first_of}
use Rattle.live_journal.specs.Refusals.{refusal_of}
use Rattle.desk.specs.declared.csv_fault.CsvFault.{CsvFault}
use Rattle.desk.specs.declared.csv_fault.CsvFault.TheVariants as csv_fault
use Rattle.desk.specs.declared.deed.Deed.{Deed}
use Rattle.desk.specs.declared.request.Allow.{Allow}
use Rattle.desk.specs.declared.request.Allow.TheVariants as allow
use Rattle.desk.specs.declared.request.Request.{Request}
use Rattle.desk.specs.declared.request.Request.TheVariants as request
use Rattle.desk.specs.declared.reply.Reply.{Reply}
use Rattle.desk.specs.declared.reply.Reply.TheVariants as reply
use Rattle.generated.specs.declared.fault.GenFault.{GenFault}
use Rattle.generated.specs.declared.fault.GenFault.TheVariants as gen_fault
use Rattle.report_commands.specs.declared.fault.WordsFault.{WordsFault}
use Rattle.report_commands.specs.declared.fault.WordsFault.TheVariants as words_fault
use Rattle.plan_commands.specs.Reports.{Report}
use Rattle.plan_commands.specs.declared.fault.PlanFault.{PlanFault}
use Rattle.plan_commands.specs.declared.fault.PlanFault.TheVariants as plan_fault
use Rattle.query.specs.Building.{IsOneOf}
use Rattle.desk.specs.Imports.{entries_of, new_deed, pattern_lines}
use Rattle.desk.specs.Previews.{added_to, revision_line}
use Rattle.desk.specs.Reports.{refusable_lines, refusable_words, words_over}

-- the text, the states of its imports, its revision, what is allowed, and the size of the store and its limit
pub record State : Type 0 where
  pub text : List ℕ
  pub latest : List Latest
  pub revision : ℕ
  pub allowed : Allow
  pub size : ℕ
  pub limit : ℕ

-- a text of a store has no year before it
abbrev pub journal_of : State → Journal
journal_of s = record { text = s.text; year = None; revision = s.revision }

abbrev pub image_of : State → Image
image_of s = record { text = s.text; latest = s.latest; revision = s.revision }

-- a reply and the state after it, and other replies that may be given, which leave the state as it was
pub record Answer : Type 0 where
  pub reply : Reply
  pub state : State
  pub others : List Reply

-- what is allowed includes what is needed
abbrev pub covers : Allow → Allow → Bool
covers have allow.View = true
covers allow.View allow.Add = false
covers allow.Add allow.Add = true
covers allow.Edit allow.Add = true
covers allow.View allow.Edit = false
covers allow.Add allow.Edit = false
covers allow.Edit allow.Edit = true

abbrev pub forbidden : Allow → Allow → Option Reply
forbidden have need = if covers have need then None else Some (reply.Forbidden need have)

-- the refusal of an edit by the journal, as a reply
abbrev pub as_reply : EditFault → Reply
as_reply (refused.BadBase base current) = reply.BadBase base current
as_reply (refused.Stale base current) = reply.Stale base current
as_reply (refused.NoSuchItem n count) = reply.NoSuchItem n count
as_reply (refused.NotTransactions line) = reply.NotTransactions line
as_reply (refused.TooLarge limit size) = reply.TooLarge limit size
as_reply (refused.Load fault) = reply.Load fault
as_reply refused.Memory = reply.Memory

abbrev pub unaccepted : Option EditFault → Option Reply
unaccepted None = None
unaccepted (Some fault) = Some (as_reply fault)

-- the text stays as it is
abbrev pub unchanged : List ℕ → List ℕ → ℕ → Option Reply
unchanged new old revision = if bytes_eq new old then Some (reply.Same revision) else None

-- the edit alone, that is no import
abbrev pub plain : Edit → Deed
plain e = record { edit = e; mark = None }

-- the change of the store that an edit is: a whole text, or a splice
abbrev pub plain_change : List ℕ → Edit → Change
plain_change text (edits.Add entry) = change.Splice (splice_of text (edits.Add entry))
plain_change text (edits.Change base item entry) = change.Splice (splice_of text (edits.Change base item entry))
plain_change text (edits.Replace base new) = change.Whole new

-- that of an import is its state and a splice
abbrev pub change_with : List ℕ → Edit → Option Latest → Change
change_with text e None = plain_change text e
change_with text e (Some mark) = change.Import mark (splice_of text e)

abbrev pub change_of : List ℕ → Deed → Change
change_of text d = change_with text d.edit d.mark

-- the states of imports with that of one, if it is one
abbrev pub states_with : Option Latest → List Latest → Option (List Latest)
states_with mark states = option_map (λ m. with_mark m states) mark

-- the length of a change as a record of the store
abbrev pub record_size : Change → ℕ
record_size c = 10 + length (payload_of c)

-- the store is written anew before a record of so many bytes: it would pass the limit, or is longer than twice a new one and
-- 65536 bytes
abbrev pub is_due : State → ℕ → Bool
is_due s r = nat_lt s.limit (s.size + r) || nat_lt (2 * whole_size (image_of s) + 65536) s.size

-- the store's size before the record is put behind it
abbrev pub size_before : State → ℕ → ℕ
size_before s r = if is_due s r then whole_size (image_of s) else s.size

-- also a new store has no room for the record
abbrev pub no_room : State → ℕ → Option Reply
no_room s r =
    if is_due s r then (if nat_lt s.limit (whole_size (image_of s) + r) then Some (reply.Full (min (whole_size (image_of s) + r) (2 ^ 64 - 1)) s.limit) else None)
    else None

-- the revision has come to its end
abbrev pub last_revision : ℕ → Option Reply
last_revision revision = if nat_lt revision (2 ^ 62) then None else Some (reply.Full (min (revision + 1) (2 ^ 64 - 1)) (2 ^ 62))

-- a number of at least 2^32 is past its end
abbrev pub past_end : ℕ → Option Reply
past_end n = if nat_lt n (2 ^ 32) then None else Some (reply.Full n (2 ^ 32 - 1))

-- the name of an import is too long
abbrev pub long_name : Option Latest → Option Reply
long_name None = None
long_name (Some mark) = past_end (length mark.name)

-- an import would make too many states
abbrev pub many_states : Option (List Latest) → Option Reply
many_states None = None
many_states (Some states) = past_end (length states)

-- there is no room for an edit whose record has so many bytes, or a number has come to its end
abbrev pub full_cases : State → Option Latest → Option (List Latest) → ℕ → List (Option Reply)
full_cases s mark states size = no_room s size ∷ last_revision s.revision ∷ long_name mark ∷ many_states states ∷ []

-- what is judged of an edit that the journal accepts
abbrev pub cases_left : State → Deed → List (Option Reply)
cases_left s d =
    unchanged (applied s.text d.edit) s.text s.revision
    ∷ full_cases s d.mark (states_with d.mark s.latest) (record_size (change_of s.text d))

-- the refusals of an edit in the order in which they are judged: the first that holds is the reply
abbrev pub refusals : State → Allow → Deed → List (Option Reply)
refusals s need d = forbidden s.allowed need ∷ unaccepted (refusal_of (journal_of s) d.edit) ∷ cases_left s d

-- the state after an edit: its text, with the state of an import, at the next revision, with its record behind the store
abbrev pub edited_state : State → Deed → State
edited_state s d =
    let r = record_size (change_of s.text d) in
    record {
      text = applied s.text d.edit;
      latest = unwrap_or (states_with d.mark s.latest) s.latest;
      revision = s.revision + 1;
      allowed = s.allowed;
      size = size_before s r + r;
      limit = s.limit;
    }

abbrev pub stays : State → Reply → Answer
stays s r = record { reply = r; state = s; others = [] }

abbrev pub or_done : State → Deed → Option Reply → Answer
or_done s d None = record { reply = reply.Done (s.revision + 1); state = edited_state s d; others = [] }
or_done s d (Some r) = stays s r

-- what an edit is answered that needs so much
abbrev pub edit_answer : State → Allow → Deed → Answer
edit_answer s need d = or_done s d (first_of (refusals s need d))

abbrev pub report_reply : ℕ → Report → Reply
report_reply revision (Ok bytes) = reply.Text revision bytes
report_reply revision (Err fault) = reply.Words fault

-- what is replied to a report that came out so, where memory may have run out
abbrev pub words_reply : WordsFault → Reply
words_reply words_fault.Memory = reply.Memory
words_reply fault = reply.Words (plan_fault.Words fault)

abbrev pub generated_reply : GenFault → Reply
generated_reply gen_fault.Memory = reply.Memory
generated_reply fault = reply.Words (plan_fault.Generated fault)

abbrev pub plan_reply : PlanFault → Reply
plan_reply (plan_fault.Words fault) = words_reply fault
plan_reply (plan_fault.Generated fault) = generated_reply fault
plan_reply plan_fault.Memory = reply.Memory

abbrev pub made_reply : ℕ → Report → Reply
made_reply revision (Ok bytes) = reply.Text revision bytes
made_reply revision (Err fault) = plan_reply fault

abbrev pub refused_pattern : List ℕ → Reply
refused_pattern word = reply.Words (plan_fault.Words (words_fault.PatternRefused word))

abbrev pub refused_rule : ℕ → Reply
refused_rule line = reply.Words (plan_fault.Generated (gen_fault.PatternRefused line))

-- the replies to a report of which a pattern is refused: one of its words, or one of a rule of the text
abbrev pub refused_replies : ℕ → List ℕ → List (List ℕ) → List Reply
refused_replies day text words =
    map refused_pattern (refusable_words day words) ++ map refused_rule (refusable_lines day None text words)

-- what a report is replied: its text, or why there is none; or memory ran out; or a pattern of its query or of a rule was
-- refused
abbrev pub Replies : ℕ → ℕ → List ℕ → List (List ℕ) → Reply → Type 0
Replies revision day text words r =
    (r ≡ reply.Memory)
    ⊎ ((r ≡ report_reply revision (words_over day None text words)) ⊎ IsOneOf r (refused_replies day text words))

-- what a report is answered; or a pattern of its query or of a rule is refused
abbrev pub report_answer : State → ℕ → List (List ℕ) → Answer
report_answer s day words = record {
  reply = report_reply s.revision (words_over day None s.text words);
  state = s;
  others = refused_replies day s.text words;
}

-- what an import of some entries is answered, by what it puts in: it leaves the text as it is where none of them is new
abbrev pub deed_answer : State → Option Deed → Answer
deed_answer s None = stays s (reply.Same s.revision)
deed_answer s (Some d) = edit_answer s allow.Add d

-- what an import is answered, by the entries of its file
abbrev pub file_answer : State → List ℕ → Result (List Txn) CsvFault → Answer
file_answer s name (Ok txns) = deed_answer s (new_deed s.text s.latest name txns)
file_answer s name (Err fault) = stays s (reply.Csv fault)

abbrev pub refused_line : ℕ → Reply
refused_line line = reply.Csv (csv_fault.Rules (rules_fault.PatternRefused line))

-- or in another way
abbrev pub or_replies : List Reply → Answer → Answer
or_replies others answer = record { reply = answer.reply; state = answer.state; others = others }

-- only what is allowed is answered
abbrev pub unless_forbidden : State → Option Reply → Answer → Answer
unless_forbidden s None answer = answer
unless_forbidden s (Some r) answer = stays s r

-- what an import is answered; or a pattern of its rules is refused
abbrev pub import_answer : State → List ℕ → List ℕ → List ℕ → Answer
import_answer s name rules csv =
    unless_forbidden s (forbidden s.allowed allow.Add)
    (or_replies (map refused_line (pattern_lines rules)) (file_answer s name (entries_of rules csv)))

-- the reply of a dry run: a text where the edit would be stored, and else what the edit is replied
abbrev pub dry_reply : ℕ → List ℕ → Reply → Reply
dry_reply revision text (reply.Done next) = reply.Text revision text
dry_reply revision text other = other

-- what an edit is answered in a dry run: nothing is stored, and the state stays
abbrev pub dry_run : State → List ℕ → Answer → Answer
dry_run s text answer = record { reply = dry_reply s.revision text answer.reply; state = s; others = answer.others }

-- what an answer adds at the end of the text, without the blank line before it
abbrev pub added_by : State → Answer → List ℕ
added_by s answer = added_to s.text answer.state.text

-- what the check of an addition is answered: the line that the addition would be replied
abbrev pub check_answer : State → Deed → Answer
check_answer s d = dry_run s (revision_line (s.revision + 1)) (edit_answer s allow.Add d)

-- what the preview of an import is answered: the entries that the import would add
abbrev pub preview_answer : State → List ℕ → List ℕ → List ℕ → Answer
preview_answer s name rules csv =
    let answer = import_answer s name rules csv in
    dry_run s (added_by s answer) answer

-- What a request is answered on a day, and the state after it.
unfoldable pub answer_to : State → ℕ → Request → Answer
answer_to s day (request.Report words) = report_answer s day words
answer_to s day request.Download = stays s (reply.Text s.revision s.text)
answer_to s day (request.Add entry) = edit_answer s allow.Add (plain (edits.Add entry))
answer_to s day (request.Change base item entry) = edit_answer s allow.Edit (plain (edits.Change base item entry))
answer_to s day (request.Replace base text) = edit_answer s allow.Edit (plain (edits.Replace base text))
answer_to s day (request.Import name rules csv) = import_answer s name rules csv
answer_to s day (request.Check entry) = check_answer s (plain (edits.Add entry))
answer_to s day (request.Preview name rules csv) = preview_answer s name rules csv

abbrev pub deed_of_file : State → List ℕ → Result (List Txn) CsvFault → Option Deed
deed_of_file s name (Ok txns) = new_deed s.text s.latest name txns
deed_of_file s name (Err fault) = None

-- the edit that a request is; a dry run is none
abbrev pub deed_in : State → Request → Option Deed
deed_in s (request.Report words) = None
deed_in s request.Download = None
deed_in s (request.Add entry) = Some (plain (edits.Add entry))
deed_in s (request.Change base item entry) = Some (plain (edits.Change base item entry))
deed_in s (request.Replace base text) = Some (plain (edits.Replace base text))
deed_in s (request.Import name rules csv) = deed_of_file s name (entries_of rules csv)
deed_in s (request.Check entry) = None
deed_in s (request.Preview name rules csv) = None
