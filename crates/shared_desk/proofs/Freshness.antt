-- That the text of a machine makes a journal along a legal history, and that its reports are those of fresh runs.
use Rattle.std.proofs.Common.{◌≡◌, ◌⊎◌, inl, inr, ℕ, Bool, true, false, if◌then◌else◌, List, [], ◌∷◌, ◌++◌, map, Option, Some, None, Result, Ok, Err, IfOk, refl, sym, ap, subst, ◌∙◌}
use Rattle.hl_base.specs.declared.disk.Disk.{Ghosts}
use Rattle.book.specs.declared.fault.Fault.{Fault}
use Rattle.book.specs.declared.item.Book.{Book}
use Rattle.book.specs.declared.item.Placed.{Placed}
use Rattle.book.specs.declared.transaction.Txn.{Txn}
use Rattle.journal_reader.specs.Items.{items_in}
use Rattle.balancing.specs.Load.{load}
use Rattle.hl_base.specs.Items.{items_of}
use Rattle.live_journal.specs.declared.edit.Edit.TheVariants as edits
use Rattle.live_journal.specs.declared.fault.EditFault.{EditFault}
use Rattle.live_journal.specs.declared.fault.OpenFault.{OpenFault}
use Rattle.live_journal.specs.Edits.{applied}
use Rattle.live_journal.specs.Loading.{book_from, book_of, fault_of, first_of, limit_fault, past_limit, text_fault}
use Rattle.live_journal.specs.Refusals.{bad_base, base_of, no_book, no_such_item, not_transactions, refusal_of, stale, too_large}
use Rattle.query.specs.Building.{IsOneOf}
use Rattle.query_terms.specs.Reading.{terms_of}
use Rattle.report_commands.specs.declared.asked.Asked.{Asked}
use Rattle.report_commands.specs.declared.fault.WordsFault.{WordsFault}
use Rattle.plan_commands.specs.Commands.{asked_of}
use Rattle.plan_commands.specs.Reports.{Report, answer_over, report_loaded, report_over, report_read}
use Rattle.plan_commands.specs.declared.fault.PlanFault.TheVariants as plan_fault
use Rattle.plan_commands.proofs.AnyYear.{any_year}
use Rattle.turn_lock.specs.declared.known.Entered.{Entered}
use Rattle.desk.specs.declared.csv_fault.CsvFault.{CsvFault}
use Rattle.desk.specs.declared.deed.Deed.{Deed}
use Rattle.desk.specs.declared.desk.Desk.{Desk}
use Rattle.desk.specs.declared.reply.Reply.{Reply}
use Rattle.desk.specs.declared.reply.Reply.TheVariants as reply
use Rattle.desk.specs.declared.request.Allow.{Allow}
use Rattle.desk.specs.declared.request.Allow.TheVariants as allow
use Rattle.desk.specs.declared.request.Request.{Request}
use Rattle.desk.specs.declared.request.Request.TheVariants as request
use Rattle.desk.specs.Desks.{IsServed, faults_of, state_of}
use Rattle.desk.specs.Entries.{Entry}
use Rattle.desk.specs.Imports.{entries_of, new_deed, pattern_lines}
use Rattle.desk.specs.Reports.{asked_over, if_made, lines_by, refusable_words_in, shown}
use Rattle.desk.specs.States.{Answer, State, answer_to, cases_left, deed_answer, deed_in, edit_answer, edited_state, file_answer, forbidden, journal_of, or_done, or_replies, plain, refusals, refused_line, refused_pattern, refused_replies, refused_rule, report_reply, unaccepted, unless_forbidden}
use Rattle.desk.specs.Steps.{Gives, Stays, size_for}
use Rattle.shared_desk.specs.Histories.{IsFresh, IsFreshRun, IsLegal, IsReplyOf, Loads, RunsFresh, RunsTo}
use Rattle.shared_desk.proofs.Answering.{between, fresh}

-- ---- the text after an edit that stands makes a journal

module _ {A : Type 0} where
  -- where none of some is there, neither the first nor one of the others is
  pub none_first : (o : Option A) (more : List (Option A)) → first_of (o ∷ more) ≡ None → (o ≡ None) × (first_of more ≡ None)
  none_first None more e = (refl, e)
  none_first (Some a) more e = absurd cc

accepted_none : (o : Option EditFault) → unaccepted o ≡ None → o ≡ None
accepted_none None e = refl
accepted_none (Some fault) e = absurd cc

-- a text that is refused neither for its limits nor for a fault
no_fault : (past : Option (ℕ × ℕ)) (book : Result Book Fault) → too_large past ≡ None → no_book book ≡ None
    → first_of (limit_fault past ∷ text_fault book ∷ []) ≡ None
no_fault None (Ok book) small made = refl
no_fault None (Err fault) small made = absurd cc
no_fault (Some past) book small made = absurd cc

unrefused_loads : (s : State) (d : Deed) → refusal_of (journal_of s) d.edit ≡ None → fault_of None (applied s.text d.edit) ≡ None
unfolding refusal_of
unrefused_loads s d e =
    let edit = d.edit in
    let text = applied s.text edit in
    let book : List (Option EditFault) = no_book (book_of None text) ∷ [] in
    let past : List (Option EditFault) = too_large (past_limit text) ∷ book in
    let kind : List (Option EditFault) = not_transactions (items_of s.text) edit ∷ past in
    let item : List (Option EditFault) = no_such_item (items_of s.text) edit ∷ kind in
    let below : List (Option EditFault) = stale s.revision (base_of edit) ∷ item in
    let a = none_first (bad_base s.revision (base_of edit)) below e in
    let b = none_first (stale s.revision (base_of edit)) item a.1 in
    let c = none_first (no_such_item (items_of s.text) edit) kind b.1 in
    let t = none_first (not_transactions (items_of s.text) edit) past c.1 in
    let small = none_first (too_large (past_limit text)) book t.1 in
    let made = none_first (no_book (book_of None text)) [] small.1 in
    no_fault (past_limit text) (book_of None text) small.0 made.0

done_loads : (s : State) (need : Allow) (d : Deed) (o : Option Reply) → first_of (refusals s need d) ≡ o → Loads s → Loads (or_done s d o).state
done_loads s need d None e loads =
    let left = cases_left s d in
    let refused = unaccepted (refusal_of (journal_of s) d.edit) in
    let a = none_first (forbidden s.allowed need) (refused ∷ left) e in
    let b = none_first refused left a.1 in
    unrefused_loads s d (accepted_none (refusal_of (journal_of s) d.edit) b.0)
done_loads s need d (Some r) e loads = loads

edit_loads : (s : State) (need : Allow) (d : Deed) → Loads s → Loads (edit_answer s need d).state
edit_loads s need d loads = done_loads s need d (first_of (refusals s need d)) refl loads

new_loads : (s : State) (o : Option Deed) → Loads s → Loads (deed_answer s o).state
new_loads s None loads = loads
new_loads s (Some d) loads = edit_loads s allow.Add d loads

file_loads : (s : State) (name : List ℕ) (file : Result (List Txn) CsvFault) → Loads s → Loads (file_answer s name file).state
file_loads s name (Ok txns) loads = new_loads s (new_deed s.text s.latest name txns) loads
file_loads s name (Err fault) loads = loads

unless_loads : (s : State) (o : Option Reply) (answer : Answer) → Loads s → Loads answer.state → Loads (unless_forbidden s o answer).state
unless_loads s None answer loads kept = kept
unless_loads s (Some r) answer loads kept = loads

answer_loads : (s : State) (day : ℕ) (q : Request) → Loads s → Loads (answer_to s day q).state
unfolding answer_to
answer_loads s day (request.Report words) loads = loads
answer_loads s day request.Download loads = loads
answer_loads s day (request.Add entry) loads = edit_loads s allow.Add (plain (edits.Add entry)) loads
answer_loads s day (request.Change base item entry) loads = edit_loads s allow.Edit (plain (edits.Change base item entry)) loads
answer_loads s day (request.Replace base text) loads = edit_loads s allow.Edit (plain (edits.Replace base text)) loads
answer_loads s day (request.Import name rules csv) loads =
    unless_loads s (forbidden s.allowed allow.Add) (or_replies (map refused_line (pattern_lines rules)) (file_answer s name (entries_of rules csv)))
    loads (file_loads s name (entries_of rules csv) loads)
answer_loads s day (request.Check entry) loads = loads
answer_loads s day (request.Preview name rules csv) loads = loads

-- ---- along a history

same_loads : (s t : State) → t ≡ s → Loads s → Loads t
same_loads s t e loads = subst (λ (x : State). Loads x) (sym e) loads

stays_loads : (s : State) (d : Option Deed) (t : State) → Stays s d t → Loads s → Loads t
stays_loads s d t (inl e) loads = same_loads s t e loads
stays_loads s d t (inr e) loads = same_loads (record s { size = size_for s d }) t e loads

step_loads : (s : State) (day : ℕ) (q : Request) (before : ℕ) (r : Reply) (t : State) (after : ℕ)
    → Gives (answer_to s day q) (deed_in s q) s before r t after → Loads s → Loads t
step_loads s day q before r t after (inl is) loads = same_loads (answer_to s day q).state t is.1 (answer_loads s day q loads)
step_loads s day q before r t after (inr (inl memory)) loads = stays_loads s (deed_in s q) t memory.1 loads
step_loads s day q before r t after (inr (inr (inl fault))) loads = stays_loads s (deed_in s q) t fault.3 loads
step_loads s day q before r t after (inr (inr (inr other))) loads = same_loads s t other.1 loads

module _ {D : Type 0} {g : Ghosts D} where
  pub loads_on : (opening last : Desk D g) (history : List (Entered Entry)) → IsLegal opening history last → Loads (state_of opening) → Loads (state_of last)
  loads_on opening last [] is loads = subst (λ (d : Desk D g). Loads (state_of d)) is loads
  loads_on opening last (x ∷ xs) is loads =
      let mid : Desk D g = is.0 in
      loads_on mid last xs is.2
      (step_loads (state_of opening) x.entry.day.0 x.entry.request (faults_of opening) x.entry.reply (state_of mid) (faults_of mid) is.1.serves.gives loads)

-- ---- reports

loaded_to : (all : List Placed) (book : Result Book Fault) → load all ≡ book → first_of (text_fault book ∷ []) ≡ None
    → (made : Book) × (load all ≡ Ok made)
loaded_to all (Ok book) is e = (book, is)
loaded_to all (Err fault) is e = absurd cc

-- a text that makes a journal is read and loaded
read_and_loaded : (past : Option (ℕ × ℕ)) (items : Result (List Placed) Fault) → first_of (limit_fault past ∷ text_fault (book_from items) ∷ []) ≡ None
    → (all : List Placed) × (book : Book) × (items ≡ Ok all) × (load all ≡ Ok book)
read_and_loaded (Some past) items e = absurd cc
read_and_loaded None (Err fault) e = absurd cc
read_and_loaded None (Ok all) e = let book = loaded_to all (load all) refl e in (all, book.0, refl, book.1)

for_any : (asked : Asked) (day : ℕ) (text : List ℕ) (report : Report) → report_over asked day None text ≡ Ok report → RunsTo day text asked report
for_any asked day text report e None = e
for_any asked day text report e (Some y) =
    subst (λ (r : Result Report Fault). IfOk r (λ (p : Report). report_over asked day (Some y) text ≡ Ok p)) e (any_year asked day y text)

-- what is asked over such a text has a report
runs_to : (s : State) (day : ℕ) (asked : Asked) → Loads s → (report : Report) × RunsTo day s.text asked report
runs_to s day asked loads =
    let made = read_and_loaded (past_limit s.text) (items_in None s.text) loads in
    let items : List Placed = made.0 in
    let book : Book = made.1 in
    let report : Report = answer_over asked day items book in (
      report,
      for_any asked day s.text report
          (ap (λ (r : Result (List Placed) Fault). report_read asked day r) made.2 ∙ ap (λ (r : Result Book Fault). report_loaded asked day items r) made.3),
    )

-- the other replies to a report, by what its words ask for
abbrev others_by : ℕ → List ℕ → Result Asked WordsFault → List Reply
others_by day text asked =
    map refused_pattern (refusable_words_in day asked)
    ++ map refused_rule (if_made asked (λ a.
    if_made (items_in None text) (λ items.
    if_made (load items) (λ book.
    if_made (terms_of day a.words) (λ terms. lines_by a day items book terms)))))

-- what is replied to a report, by what its words ask for
abbrev RepliesBy : State → ℕ → Reply → Result Asked WordsFault → Type 0
RepliesBy s day r asked =
    (r ≡ reply.Memory) ⊎ ((r ≡ report_reply s.revision (asked_over day None s.text asked)) ⊎ IsOneOf r (others_by day s.text asked))

reply_is : (s : State) (day : ℕ) (words : List (List ℕ)) (asked : Asked) (report : Report) (r : Reply) → RunsTo day s.text asked report
    → asked_of day words ≡ Ok asked → RepliesBy s day r (Ok asked) → IsReplyOf s day words report r
reply_is s day words asked report r runs is (inl memory) = inl memory
reply_is s day words asked report r runs is (inr (inl told)) =
    inr (inl (told ∙ ap (λ (x : Result Report Fault). report_reply s.revision (shown x)) (runs None)))
reply_is s day words asked report r runs is (inr (inr among)) =
    inr (inr (subst (λ (x : Result Asked WordsFault). IsOneOf r (others_by day s.text x)) (sym is) among))

by_words : (s : State) (day : ℕ) (words : List (List ℕ)) (r : Reply) (asked : Result Asked WordsFault) → asked_of day words ≡ asked → Loads s
    → RepliesBy s day r asked → RunsFresh s day words r asked
by_words s day words r (Ok asked) is loads so =
    let runs = runs_to s day asked loads in (runs.0, runs.1, reply_is s day words asked runs.0 r runs.1 is so)
by_words s day words r (Err fault) is loads (inl memory) = inl memory
by_words s day words r (Err fault) is loads (inr (inl told)) = inr told
by_words s day words r (Err fault) is loads (inr (inr among)) = absurd among

fresh_run : (s : State) (day : ℕ) (words : List (List ℕ)) (r : Reply) → Loads s → IsFresh s day (request.Report words) r → IsFreshRun s day words r
fresh_run s day words r loads so = by_words s day words r (asked_of day words) refl loads so

module _ {D : Type 0} {g : Ghosts D} where
  pub reports_fresh : (opening last : Desk D g) (earlier later : List (Entered Entry)) (x : Entered Entry) (words : List (List ℕ))
      → IsLegal opening (earlier ++ x ∷ later) last → Loads (state_of opening) → x.entry.request ≡ request.Report words
      → (before : Desk D g) × IsLegal opening earlier before × Loads (state_of before)
      × IsFreshRun (state_of before) x.entry.day.0 words x.entry.reply
  reports_fresh opening last earlier later x words legal loads is =
      let at = between (λ (before : Desk D g) (entry : Entry) (after : Desk D g). IsServed before entry after) opening last earlier later x legal in
      let before : Desk D g = at.0 in
      let after : Desk D g = at.1 in
      let st = state_of before in
      let e = x.entry in
      let here = loads_on opening before earlier at.2 loads in
      let so = fresh st e.day.0 e.request e.reply (faults_of before) (faults_of after) (state_of after) at.3.serves.gives in
      (before, at.2, here, fresh_run st e.day.0 words e.reply here (subst (λ (q : Request). IsFresh st e.day.0 q e.reply) is so))
