-- Histories of a journal that workers share: which are legal, and what stands in them.
use Rattle.std.specs.Prelude.{◌≡◌, ◌⊎◌, ℕ, ◌+◌, ◌-◌, ◌^◌, ◌≤◌, Bool, true, false, List, [], ◌∷◌, ◌++◌, length, map, filter, min, not, All, Option, Some, None, Result, Ok, Err}
use Rattle.std.specs.List.{list_any}
use Rattle.hl_base.specs.declared.disk.Disk.{Ghosts}
use Rattle.hl_base.specs.Items.{items_of}
use Rattle.book.specs.declared.fault.Fault.{Fault}
use Rattle.book.specs.declared.item.Book.{Book}
use Rattle.book.specs.declared.transaction.Txn.{Txn}
use Rattle.csv_rules.specs.declared.faults.RulesFault.{RulesFault}
use Rattle.csv_rules.specs.declared.faults.RulesFault.TheVariants as rules_fault
use Rattle.text_store.specs.declared.image.Image.{Image}
use Rattle.live_journal.specs.declared.edit.Edit.TheVariants as edits
use Rattle.live_journal.specs.Edits.{applied}
use Rattle.live_journal.specs.Loading.{book_of, fault_of, past_limit}
use Rattle.live_journal.specs.Refusals.{bad_base, base_of, no_such_item, not_transactions, stale}
use Rattle.query.specs.Building.{IsOneOf}
use Rattle.generated.specs.declared.fault.GenFault.{GenFault}
use Rattle.generated.specs.declared.fault.GenFault.TheVariants as gen_fault
use Rattle.plan_commands.specs.Commands.{asked_of}
use Rattle.plan_commands.specs.Reports.{Report, report_over}
use Rattle.plan_commands.specs.declared.fault.PlanFault.{PlanFault}
use Rattle.plan_commands.specs.declared.fault.PlanFault.TheVariants as plan_fault
use Rattle.report_commands.specs.declared.asked.Asked.{Asked}
use Rattle.report_commands.specs.declared.fault.WordsFault.{WordsFault}
use Rattle.report_commands.specs.declared.fault.WordsFault.TheVariants as words_fault
use Rattle.turn_lock.specs.History.{Leads}
use Rattle.turn_lock.specs.declared.known.Entered.{Entered}
use Rattle.desk.specs.declared.csv_fault.CsvFault.{CsvFault}
use Rattle.desk.specs.declared.csv_fault.CsvFault.TheVariants as csv_fault
use Rattle.desk.specs.declared.deed.Deed.{Deed}
use Rattle.desk.specs.declared.desk.Desk.{Desk}
use Rattle.desk.specs.declared.reply.Reply.{Reply}
use Rattle.desk.specs.declared.reply.Reply.TheVariants as reply
use Rattle.desk.specs.declared.request.Allow.{Allow}
use Rattle.desk.specs.declared.request.Allow.TheVariants as allow
use Rattle.desk.specs.declared.request.Request.{Request}
use Rattle.desk.specs.declared.request.Request.TheVariants as request
use Rattle.desk.specs.Desks.{IsServed, state_of}
use Rattle.desk.specs.Entries.{Entry}
use Rattle.desk.specs.Imports.{entries_of, new_deed, pattern_lines}
use Rattle.desk.specs.Previews.{added_to, revision_line}
use Rattle.desk.specs.States.{Replies, State, answer_to, change_of, covers, edited_state, last_revision, long_name, many_states, no_room, plain, record_size, refused_line, refused_replies, report_reply, states_with}
use Rattle.desk.specs.Steps.{is_done, is_fault, is_granted, next_of}

module _ {D : Type 0} {g : Ghosts D} where
  -- The history is legal: from the machine as it was opened, each entry is a request that the machine served, in order.
  abbrev pub IsLegal : Desk D g → List (Entered Entry) → Desk D g → Type 0
  IsLegal opening history last = Leads (λ (before : Desk D g) (entry : Entry) (after : Desk D g). IsServed before entry after) opening history last

-- the text of a state makes a journal
abbrev pub Loads : State → Type 0
Loads s = fault_of None s.text ≡ None

-- a fresh run of what is asked over a text makes this report, with any year before the text or none
abbrev pub RunsTo : ℕ → List ℕ → Asked → Report → Type 0
RunsTo day text asked report = (year : Option ℕ) → report_over asked day year text ≡ Ok report

-- the reply is that of a report; or memory ran out, or a pattern of its words or of a rule of the text was refused
abbrev pub IsReplyOf : State → ℕ → List (List ℕ) → Report → Reply → Type 0
IsReplyOf s day words report r =
    (r ≡ reply.Memory) ⊎ ((r ≡ report_reply s.revision report) ⊎ IsOneOf r (refused_replies day s.text words))

-- by what words ask for: a fresh run over the text makes the report; or they have no reading, and are refused for that
abbrev pub RunsFresh : State → ℕ → List (List ℕ) → Reply → Result Asked WordsFault → Type 0
RunsFresh s day words r (Ok asked) = (report : Report) × RunsTo day s.text asked report × IsReplyOf s day words report r
RunsFresh s day words r (Err fault) = (r ≡ reply.Memory) ⊎ (r ≡ reply.Words (plan_fault.Words fault))

-- A report of words is answered, byte for byte, as a fresh run of these over the text.
abbrev pub IsFreshRun : State → ℕ → List (List ℕ) → Reply → Type 0
IsFreshRun s day words r = RunsFresh s day words r (asked_of day words)

-- A report is answered, byte for byte, as a fresh run of its words over the text at its place; or a pattern of its words or of
-- a rule of the text was refused, or memory ran out. A download is answered by that text.
abbrev pub IsFresh : State → ℕ → Request → Reply → Type 0
IsFresh s day (request.Report words) r = Replies s.revision day s.text words r
IsFresh s day request.Download r = (r ≡ reply.Memory) ⊎ (r ≡ reply.Text s.revision s.text)
IsFresh s day other r = Unit {0}

-- An edit that is well formed and may be put in: what it needs is allowed, it comes from a current view, it is of an item that
-- there is and of transactions, its text is within the limits, the store has room, and no number has come to its end.
pub record IsGood (s : State) (need : Allow) (d : Deed) : Type 0 where
  pub allowed : covers s.allowed need ≡ true
  pub not_above : bad_base s.revision (base_of d.edit) ≡ None
  pub not_below : stale s.revision (base_of d.edit) ≡ None
  pub item : no_such_item (items_of s.text) d.edit ≡ None
  pub transactions : not_transactions (items_of s.text) d.edit ≡ None
  pub small : past_limit (applied s.text d.edit) ≡ None
  pub room : no_room s (record_size (change_of s.text d)) ≡ None
  pub revision : last_revision s.revision ≡ None
  pub name : long_name d.mark ≡ None
  pub states : many_states (states_with d.mark s.latest) ≡ None

-- The text of the edit stands, at the next revision, or it is the text as it was.
abbrev pub IsPutIn : State → Deed → Reply → State → Type 0
IsPutIn s d r after =
    ((r ≡ reply.Done (s.revision + 1)) × (after ≡ edited_state s d))
    ⊎ ((r ≡ reply.Same s.revision) × (applied s.text d.edit ≡ s.text) × (after ≡ s))

-- memory ran out, or a pattern was refused: one of these replies
abbrev pub IsExcused : List Reply → Reply → Type 0
IsExcused others r = (r ≡ reply.Memory) ⊎ IsOneOf r others

-- What becomes of an edit, by what a fresh load of its text comes to: accepted where that is a book, and else refused with the
-- load's fault. Or memory ran out, or a pattern was refused, or, where it would be accepted, a disk failed.
abbrev pub Judged : State → Deed → List Reply → Reply → State → Result Book Fault → Type 0
Judged s d others r after (Ok book) = IsPutIn s d r after ⊎ (IsExcused others r ⊎ (is_fault r ≡ true))
Judged s d others r after (Err fault) = (r ≡ reply.Load fault) ⊎ IsExcused others r

-- a good edit is judged by a fresh load of its text
abbrev pub IsJudged : State → Allow → Deed → List Reply → Reply → State → Type 0
IsJudged s need d others r after = IsGood s need d → Judged s d others r after (book_of None (applied s.text d.edit))

-- The reply of a dry run is this text where the edit would stand, or the edit's text is the text as it was. The state stays.
abbrev pub IsShown : State → Deed → List ℕ → Reply → State → Type 0
IsShown s d told r after =
    ((r ≡ reply.Text s.revision told) ⊎ ((r ≡ reply.Same s.revision) × (applied s.text d.edit ≡ s.text))) × (after ≡ s)

-- What a dry run is replied, by what a fresh load of the edit's text comes to. No disk fails in it.
abbrev pub DryJudged : State → Deed → List ℕ → List Reply → Reply → State → Result Book Fault → Type 0
DryJudged s d told others r after (Ok book) = IsShown s d told r after ⊎ IsExcused others r
DryJudged s d told others r after (Err fault) = (r ≡ reply.Load fault) ⊎ IsExcused others r

-- the dry run of a good edit is judged by a fresh load of the text that the edit would make
abbrev pub IsDryJudged : State → Allow → Deed → List ℕ → List Reply → Reply → State → Type 0
IsDryJudged s need d told others r after = IsGood s need d → DryJudged s d told others r after (book_of None (applied s.text d.edit))

-- the new entries of an import are judged so, as the edit that they are, and where none is new the text stays as it is
abbrev pub NewJudged : (Deed → Type 0) → State → Option Deed → List Reply → Reply → State → Type 0
NewJudged judged s None others r after = ((r ≡ reply.Same s.revision) × (after ≡ s)) ⊎ IsExcused others r
NewJudged judged s (Some d) others r after = judged d

-- by what becomes of its file: entries, or a cause for which it becomes none
abbrev pub FileJudged : (Deed → Type 0) → State → List ℕ → List Reply → Reply → State → Result (List Txn) CsvFault → Type 0
FileJudged judged s name others r after (Ok txns) = NewJudged judged s (new_deed s.text s.latest name txns) others r after
FileJudged judged s name others r after (Err fault) = (r ≡ reply.Csv fault) ⊎ IsExcused others r

-- an import that is allowed is so judged
abbrev pub ImportJudged : State → List ℕ → List ℕ → List ℕ → Reply → State → Type 0
ImportJudged s name rules csv r after =
    let others = map refused_line (pattern_lines rules) in
    covers s.allowed allow.Add ≡ true
    → FileJudged (λ d. IsJudged s allow.Add d others r after) s name others r after (entries_of rules csv)

-- and so is its preview, which shows what the import would add
abbrev pub PreviewJudged : State → List ℕ → List ℕ → List ℕ → Reply → State → Type 0
PreviewJudged s name rules csv r after =
    let others = map refused_line (pattern_lines rules) in
    covers s.allowed allow.Add ≡ true
    → FileJudged (λ d. IsDryJudged s allow.Add d (added_to s.text (applied s.text d.edit)) others r after) s name others r after (entries_of rules csv)

-- The edits that requests ask for, and the dry runs of additions and imports, are so judged, each with what it needs. The check
-- of an addition shows the line of the next revision.
abbrev pub AreJudged : State → Request → Reply → State → Type 0
AreJudged s (request.Add entry) r after = IsJudged s allow.Add (plain (edits.Add entry)) [] r after
AreJudged s (request.Change base item entry) r after = IsJudged s allow.Edit (plain (edits.Change base item entry)) [] r after
AreJudged s (request.Replace base text) r after = IsJudged s allow.Edit (plain (edits.Replace base text)) [] r after
AreJudged s (request.Import name rules csv) r after = ImportJudged s name rules csv r after
AreJudged s (request.Check entry) r after =
    IsDryJudged s allow.Add (plain (edits.Add entry)) (revision_line (s.revision + 1)) [] r after
AreJudged s (request.Preview name rules csv) r after = PreviewJudged s name rules csv r after
AreJudged s other r after = Unit {0}

module _ {D : Type 0} {g : Ghosts D} where
  -- Where an entry stands in a legal history, a machine stands before it and one after it, and the entry is answered by these.
  pub record IsAnswered (opening : Desk D g) (earlier : List (Entered Entry)) (entry : Entry) (later : List (Entered Entry)) (last : Desk D g) : Type 0 where
    pub before : Desk D g
    pub after : Desk D g
    pub led : IsLegal opening earlier before
    pub step : IsServed before entry after
    pub fresh : IsFresh (state_of before) entry.day.0 entry.request entry.reply
    pub judged : AreJudged (state_of before) entry.request entry.reply (state_of after)
    pub leads : IsLegal after later last

  -- An edit of the history was refused for a disk fault, and none was acknowledged after it; this is the image that it would
  -- have made.
  pub record IsRefused (opening : Desk D g) (history : List (Entered Entry)) (image : Option Image) : Type 0 where
    pub earlier : List (Entered Entry)
    pub refused : Entered Entry
    pub later : List (Entered Entry)
    pub before : Desk D g
    pub whole : history ≡ earlier ++ refused ∷ later
    pub led : IsLegal opening earlier before
    pub fault : is_fault refused.entry.reply ≡ true
    pub none_since : All (λ x. is_done x.entry.reply ≡ false) later
    pub would : image ≡ next_of (answer_to (state_of before) refused.entry.day.0 refused.entry.request)

  -- What the disks may show beside the last state: nothing; or what they might show at first, where no edit was acknowledged;
  -- or one edit that was refused for a disk fault since the last acknowledged one.
  abbrev pub MayBeLeft : Desk D g → List (Entered Entry) → Option Image → Option Image → Type 0
  MayBeLeft opening history pending after =
      (after ≡ None)
      ⊎ ((All (λ x. is_done x.entry.reply ≡ false) history × (after ≡ pending))
      ⊎ IsRefused opening history after)

-- some entry tells a disk fault
abbrev pub has_fault : List (Entered Entry) → Bool
has_fault history = list_any (λ x. is_fault x.entry.reply) history

-- the replies that are refusals
abbrev pub is_refusal : Entered Entry → Bool
is_refusal x = not (is_granted x.entry.reply)

-- what is told of a number by a count that stays at its last value
abbrev pub count_told : ℕ → ℕ
count_told n = min n (2 ^ 64 - 1)

-- how many requests there were, and how many of them were refused, as counts tell it
abbrev pub tally : List (Entered Entry) → ℕ × ℕ
tally history = (count_told (length history), count_told (length (filter is_refusal history)))

-- a pattern was refused: one of the words, one of a rule of the text, or one of the rules of an import
abbrev pub refuses_words : WordsFault → Bool
refuses_words (words_fault.PatternRefused word) = true
refuses_words other = false

abbrev pub refuses_made : GenFault → Bool
refuses_made (gen_fault.PatternRefused line) = true
refuses_made other = false

abbrev pub refuses_plan : PlanFault → Bool
refuses_plan (plan_fault.Words fault) = refuses_words fault
refuses_plan (plan_fault.Generated fault) = refuses_made fault
refuses_plan plan_fault.Memory = false

abbrev pub refuses_rules : RulesFault → Bool
refuses_rules (rules_fault.PatternRefused line) = true
refuses_rules other = false

abbrev pub refuses_file : CsvFault → Bool
refuses_file (csv_fault.Rules fault) = refuses_rules fault
refuses_file (csv_fault.Convert fault) = false

-- the reply says so
abbrev pub refuses_pattern : Reply → Bool
refuses_pattern (reply.Words fault) = refuses_plan fault
refuses_pattern (reply.Csv fault) = refuses_file fault
refuses_pattern other = false

-- how many of some entries say so
abbrev pub pattern_refusals : List Entry → ℕ
pattern_refusals entries = length (filter (λ entry. refuses_pattern entry.reply) entries)

-- a count rose by at least so many, or has come to its last value
abbrev pub RoseBy : ℕ → ℕ → ℕ → Type 0
RoseBy before now by = (before + by ≤ now) ⊎ (2 ^ 64 - 1 ≤ now)
