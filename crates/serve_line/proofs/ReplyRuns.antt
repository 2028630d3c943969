-- A report's reply is what a run of its words over the text writes.
use Rattle.std.proofs.Common.{◌≡◌, ◌≢◌, ◌∙◌, ◌⊎◌, inl, inr, ℕ, ◌+◌, Bool, true, false, nat_lt, if◌then◌else◌, List, [], ◌∷◌, length, Option, Some, None, Result, Ok, Err, IsOk, IsTrue, IfSome, refl, sym, ap, subst, arith}
use Rattle.std.specs.List.{AllByRecursion}
use Rattle.std.specs.Option.{option_map}
use Rattle.std.proofs.lemmas.Bool.{false≢true}
use Rattle.hl_base.specs.Items.{items_of}
use Rattle.hl_base.specs.Limits.{item_limit, text_limit}
use Rattle.hl_time.specs.Calendar.{year_of}
use Rattle.book.specs.declared.fault.Cause.{Cause}
use Rattle.book.specs.declared.fault.Cause.TheVariants as causes
use Rattle.book.specs.declared.fault.Fault.{Fault}
use Rattle.book.specs.declared.item.Book.{Book}
use Rattle.book.specs.declared.item.Placed.{Placed}
use Rattle.balancing.specs.Load.{load}
use Rattle.journal_reader.specs.Items.{items_in}
use Rattle.live_journal.specs.Loading.{book_of, first_of, limit_fault, past_limit, text_fault}
use Rattle.report_options.specs.Programs.{NamesNoJournal}
use Rattle.report_cells.specs.declared.fault.ReportFault.{ReportFault}
use Rattle.report_cells.specs.declared.fault.ReportFault.TheVariants as report_fault
use Rattle.report_commands.specs.declared.asked.Asked.{Asked}
use Rattle.report_commands.specs.declared.fault.WordsFault.{WordsFault}
use Rattle.report_commands.specs.declared.fault.WordsFault.TheVariants as words_fault
use Rattle.generated.specs.declared.fault.GenFault.{GenFault}
use Rattle.generated.specs.declared.fault.GenFault.TheVariants as gen_fault
use Rattle.plan_commands.specs.Commands.{asked_of}
use Rattle.plan_commands.specs.Reports.{Report, report_loaded, report_over, report_read}
use Rattle.plan_commands.specs.declared.fault.PlanFault.{PlanFault}
use Rattle.plan_commands.specs.declared.fault.PlanFault.TheVariants as plan_fault
use Rattle.book_commands.specs.Texts.{made_loaded, made_read}
use Rattle.book_commands.specs.Works.{judge, report_made, report_outcome}
use Rattle.book_commands.specs.declared.work.Work.TheVariants as works
use Rattle.refusals.specs.Errors.{fault_status, limit_line, plan_line, plan_status, report_status, rules_status, words_status}
use Rattle.refusals.specs.Outcomes.{Judged, Outcome, outcome_of, refused}
use Rattle.desk.specs.declared.reply.Reply.{Reply}
use Rattle.desk.specs.declared.reply.Reply.TheVariants as reply
use Rattle.desk.specs.States.{State, report_reply}
use Rattle.shared_desk.specs.Histories.{IsFreshRun, IsReplyOf, Loads, RunsFresh, RunsTo}
use Rattle.command_words.specs.Commands.{usage_of}
use Rattle.command_words.specs.declared.task.Origin.{Origin}
use Rattle.command_words.specs.declared.task.Origin.TheVariants as origins
use Rattle.command_words.specs.declared.task.Task.{Task}
use Rattle.command_words.specs.declared.task.TextTask.{TextTask}
use Rattle.command_words.specs.declared.usage.UsageFault.{UsageFault}
use Rattle.command_words.specs.declared.usage.UsageFault.TheVariants as usages
use Rattle.command_line.specs.Answers.{IsTextStatus, Says, Wrote}
use Rattle.command_line.specs.Runs.{RefusedText, RefusesWords, Runs, RunsText}
use Rattle.command_line.specs.Scenes.{Scene, judged_in, text_in}
use Rattle.command_line.specs.Sources.{default_year, judged, text_under, within_bytes}
use Rattle.refusals.specs.Errors.{memory_line}
use Rattle.serve_line.specs.RunReplies.{BeginReport, IsDecided, IsWrittenByRuns, RepliesAsRuns, RunsOver, SayTheSame, SaysPattern, WritesReply, with_file}
use Rattle.serve_line.proofs.FileTasks.{begins_too, file_report, refused_file}
use Rattle.serve_line.proofs.ReportTasks.{input_report, refused_report}

err_ok : {A E X : Type 0} (err : E) (a : A) → Err err ≡ Ok a → X
err_ok {A} {E} {X} err a e = absurd (impossible e)
  where
    impossible : Err err ≡ Ok a → ⊥
    impossible e = cc

-- ---- what a run is to make of a text that loads

-- a text within the limits
by_limits : (a b : Bool) (x y : ℕ × ℕ) → (if a then Some x else if b then Some y else None) ≡ None → (a ≡ false) × (b ≡ false)
by_limits true b x y e = absurd cc
by_limits false true x y e = absurd cc
by_limits false false x y e = (refl, refl)

no_limit : (past : Option (ℕ × ℕ)) (book : Result Book Fault) → first_of (limit_fault past ∷ text_fault book ∷ []) ≡ None → past ≡ None
no_limit None book e = refl
no_limit (Some past) book e = absurd cc

module _ (asked : Asked) (day : ℕ) (report : Report) where
  abbrev outcome : Result Report Fault → Judged
  outcome (Ok r) = Ok (report_outcome r)
  outcome (Err fault) = Err (refused 0 [])

  by_load : (items : List Placed) (l : Result Book Fault) → report_loaded asked day items l ≡ Ok report → made_loaded (report_made asked day) items l ≡ Ok (report_outcome report)
  unfolding report_made
  by_load items (Ok book) e = ap outcome e
  by_load items (Err fault) e = err_ok fault report e

  by_reading : (r : Result (List Placed) Fault) → report_read asked day r ≡ Ok report → made_read (report_made asked day) r ≡ Ok (report_outcome report)
  by_reading (Ok items) e = by_load items (load items) e
  by_reading (Err fault) e = err_ok fault report e

  within : (text : List ℕ) → past_limit text ≡ None → (nat_lt text_limit (length text) ≡ false) × (nat_lt item_limit (length (items_of text)) ≡ false)
  within text none =
      by_limits (nat_lt text_limit (length text)) (nat_lt item_limit (length (items_of text))) (text_limit, length text) (item_limit, length (items_of text)) none

  is_judged : (year : Option ℕ) (text : List ℕ) → past_limit text ≡ None → report_over asked day year text ≡ Ok report
      → judged day year (works.Report asked) (within_bytes text) ≡ Ok (report_outcome report)
  is_judged year text none over =
      let limits = within text none in
      ap (λ (b : Bool). judged day year (works.Report asked) (if b then Err (refused 7 (limit_line (text_limit + 1) text_limit)) else Ok text)) limits.0
      ∙ ap (λ (b : Bool). if b then Err (refused 7 (limit_line (length text) text_limit)) else judge day year (works.Report asked) text) limits.0
      ∙ ap (λ (b : Bool). if b then Err (refused 7 (limit_line (length (items_of text)) item_limit)) else made_read (report_made asked day) (items_in year text)) limits.1
      ∙ by_reading (items_in year text) over

-- ---- a run that was decided

-- a report that isn't made has no status 0
text_status : (c : Cause) → fault_status c ≢ 0
text_status causes.TooLong e = omega (arith, e)
text_status causes.Form e = omega (arith, e)
text_status causes.Date e = omega (arith, e)
text_status causes.Number e = omega (arith, e)
text_status causes.Account e = omega (arith, e)
text_status causes.StatusMark e = omega (arith, e)
text_status causes.Directive e = omega (arith, e)
text_status causes.Quote e = omega (arith, e)
text_status causes.Encoding e = omega (arith, e)
text_status causes.TwoMissing e = omega (arith, e)
text_status causes.NotAllowed e = omega (arith, e)
text_status (causes.Unbalanced symbol sum) e = omega (arith, e)
text_status (causes.AssertionFailed wanted found) e = omega (arith, e)
text_status causes.Range e = omega (arith, e)

refused_status : (f : ReportFault) → report_status f ≢ 0
refused_status (report_fault.Range symbol) e = omega (arith, e)
refused_status (report_fault.TooWide columns limit) e = omega (arith, e)
refused_status report_fault.Memory e = omega (arith, e)

said_status : (f : WordsFault) → words_status f ≢ 0
said_status (words_fault.NoCommand word) e = omega (arith, e)
said_status (words_fault.BadOption word) e = omega (arith, e)
said_status (words_fault.Conflict a b) e = omega (arith, e)
said_status (words_fault.BadTerm word) e = omega (arith, e)
said_status (words_fault.PatternRefused word) e = omega (arith, e)
said_status (words_fault.Report fault) e = refused_status fault e
said_status words_fault.Memory e = omega (arith, e)

made_status : (f : GenFault) → rules_status f ≢ 0
made_status (gen_fault.Journal fault) e = text_status fault.cause e
made_status (gen_fault.BadTerm line) e = omega (arith, e)
made_status (gen_fault.PatternRefused line) e = omega (arith, e)
made_status (gen_fault.TooMany count limit) e = omega (arith, e)
made_status gen_fault.Memory e = omega (arith, e)

told_status : (f : PlanFault) → plan_status f ≢ 0
told_status (plan_fault.Words fault) e = said_status fault e
told_status (plan_fault.Generated fault) e = made_status fault e
told_status plan_fault.Memory e = omega (arith, e)

not_zero : (status : ℕ) → IsTextStatus status → 0 ≢ status
not_zero status (inl one) e = omega (arith, one, e)
not_zero status (inr (inl seven)) e = omega (arith, seven, e)
not_zero status (inr (inr eight)) e = omega (arith, eight, e)

module _ (revision : ℕ) (status : ℕ) (old new : Scene) where
  -- the run of a report that is answered writes its text, and that of one that isn't says why
  done_so : (report : Report) → status ≡ 0 → new.error ≡ old.error → ((report_outcome report).status ≡ 0) × Wrote old.output new.output (report_outcome report).output
      → WritesReply (report_reply revision report) status old new
  done_so (Ok bytes) zero quiet wrote = (zero, quiet, wrote.1)
  done_so (Err fault) zero quiet wrote = absurd (told_status fault wrote.0)

  refused_so : (report : Report) → IsTextStatus status → new.output ≡ old.output
      → ((report_outcome report).status ≡ status) × Wrote old.error new.error (report_outcome report).error → WritesReply (report_reply revision report) status old new
  refused_so (Ok bytes) of_text unwritten wrote = absurd (not_zero status of_text wrote.0)
  refused_so (Err fault) of_text unwritten wrote = (inl of_text, unwritten, wrote.1)

  module _ (origin : Origin) (asked : Asked) (day : ℕ) (report : Report) where
    abbrev given : TextTask
    given = record { origin = origin; work = works.Report asked }

    abbrev IsTold : Type 0
    IsTold = judged_in given day old ≡ Some (Ok (report_outcome report))

    by_cause : IsTold → IsTextStatus status → RefusedText given day status old new
        → WritesReply (report_reply revision report) status old new ⊎ SaysPattern status old new
    by_cause told of_text r = elim r.cause [
      | inl c ↦ inl (refused_so report of_text r.unwritten
          (subst (λ (o : Option Judged). IfSome o (λ t. ((outcome_of t).status ≡ status) × Wrote old.error new.error (outcome_of t).error)) told c.0))
      | inr p ↦ inr (p.2, r.unwritten, (p.0, p.3))
    ]

    decided : IsTold → RunsText given day status old new → IsDecided status → WritesReply (report_reply revision report) status old new ⊎ SaysPattern status old new
    decided told runs (inl zero) =
        let d = runs.done zero in
        inl (done_so report zero d.0
        (subst (λ (o : Option Judged). IfSome o (λ t. ((outcome_of t).status ≡ 0) × Wrote old.output new.output (outcome_of t).output)) told d.3))
    decided told runs (inr (inl of_text)) = by_cause told of_text (runs.refused of_text)
    decided told runs (inr (inr two)) = absurd (runs.read two)

-- the run of words without a reading says their line
module _ (status : ℕ) (old new : Scene) (line : List ℕ) (fault : PlanFault) (is : line ≡ plan_line fault) where
  not_text : (status : ℕ) → IsDecided status → status ≡ 6 → ⊥
  not_text status (inl zero) six = omega (arith, zero, six)
  not_text status (inr (inl (inl one))) six = omega (arith, one, six)
  not_text status (inr (inl (inr (inl seven)))) six = omega (arith, seven, six)
  not_text status (inr (inl (inr (inr eight)))) six = omega (arith, eight, six)
  not_text status (inr (inr two)) six = omega (arith, two, six)

  not_failed : (status : ℕ) → IsDecided status → status ≡ 4 → ⊥
  not_failed status (inl zero) four = omega (arith, zero, four)
  not_failed status (inr (inl (inl one))) four = omega (arith, one, four)
  not_failed status (inr (inl (inr (inl seven)))) four = omega (arith, seven, four)
  not_failed status (inr (inl (inr (inr eight)))) four = omega (arith, eight, four)
  not_failed status (inr (inr two)) four = omega (arith, two, four)

  abbrev Said : Type 0
  Said = Says status 2 line old.error new.error old.error_faults new.error_faults ⊎ Says status 6 memory_line old.error new.error old.error_faults new.error_faults

  unread_so : IsDecided status → new.output ≡ old.output → Said → WritesReply (reply.Words fault) status old new
  unread_so ended unwritten (inl (inl two)) = (inr two.0, unwritten, subst (λ (l : List ℕ). Wrote old.error new.error l) is two.1)
  unread_so ended unwritten (inl (inr failed)) = absurd (not_failed status ended failed.0)
  unread_so ended unwritten (inr (inl memory)) = absurd (not_text status ended memory.0)
  unread_so ended unwritten (inr (inr failed)) = absurd (not_failed status ended failed.0)

-- the line of words of a report
line_is : (words : List (List ℕ)) (fault : WordsFault) → BeginReport words → usage_of words (usages.Words fault) ≡ plan_line (plan_fault.Words fault)
line_is [] fault begins = absurd begins
line_is (word ∷ words) fault begins = refl

-- ---- a reply

module _ (s : State) (day : ℕ) (words : List (List ℕ)) (r : Reply) (loads : Loads s) where
  small : past_limit s.text ≡ None
  small = no_limit (past_limit s.text) (book_of None s.text) loads

  -- the text is that of the standard input, or of a file
  record IsTextOf (origin : Origin) (old : Scene) : Type 0 where
    year : default_year origin day ≡ Some (year_of day)
    text : text_in origin old ≡ Some (within_bytes s.text)

  of_input : (old : Scene) → old.left ≡ Some s.text → IsTextOf origins.Input old
  of_input old input = record { year = refl; text = ap (λ (o : Option (List ℕ)). option_map within_bytes o) input }

  of_file : (name : List ℕ) (old : Scene) → IsTrue old.files_told → old.file name ≡ Some s.text → IsTextOf (origins.File name) old
  of_file name old told holds = record {
    year = refl;
    text = ap (λ (b : Bool). if b then Some (text_under name (old.file name)) else None) told
        ∙ ap (λ (o : Option (List ℕ)). Some (text_under name o)) holds;
  }

  is_told : (origin : Origin) (asked : Asked) (report : Report) (old : Scene) → RunsTo day s.text asked report → IsTextOf origin old
      → judged_in (record { origin = origin; work = works.Report asked }) day old ≡ Some (Ok (report_outcome report))
  is_told origin asked report old runs of =
      ap (λ (o : Option (Result (List ℕ) Outcome)). option_map (judged day (default_year origin day) (works.Report asked)) o) of.text
      ∙ ap (λ (year : Option ℕ). Some (judged day year (works.Report asked) (within_bytes s.text))) of.year
      ∙ ap (λ (j : Judged). Some j) (is_judged asked day report (Some (year_of day)) s.text small (runs (Some (year_of day))))

  module _ (status : ℕ) (old new : Scene) (ended : IsDecided status) where
    abbrev IsSaid : Type 0
    IsSaid = WritesReply r status old new ⊎ SaysPattern status old new

    -- a report that reads
    over_text : (origin : Origin) (asked : Asked) (report : Report) → RunsTo day s.text asked report → r ≡ report_reply s.revision report
        → IsTextOf origin old → RunsText (record { origin = origin; work = works.Report asked }) day status old new → IsSaid
    over_text origin asked report runs is of ran =
        subst (λ (x : Reply). WritesReply x status old new ⊎ SaysPattern status old new) (sym is)
        (decided s.revision status old new origin asked day report (is_told origin asked report old runs of) ran ended)

    over_any : (asked : Asked) (report : Report) → asked_of day words ≡ Ok asked → RunsTo day s.text asked report → r ≡ report_reply s.revision report
        → RunsOver words day s.text status old new → IsSaid
    over_any asked report reads runs is (inl run) =
        over_text origins.Input asked report runs is (of_input old run.input) (subst (λ (t : Result Task UsageFault). Runs words day status old new t) (input_report day words asked reads) run.runs)
    over_any asked report reads runs is (inr named) =
        let run = named.1 in
        over_text (origins.File named.0) asked report runs is (of_file named.0 old run.told run.holds)
        (subst (λ (t : Result Task UsageFault). Runs (with_file named.0 words) day status old new t) (file_report day named.0 words asked run.named reads) run.runs)

    -- words that don't read
    unread_as : (those : List (List ℕ)) (fault : WordsFault) → r ≡ reply.Words (plan_fault.Words fault) → BeginReport those
        → RefusesWords (usage_of those (usages.Words fault)) status old new → IsSaid
    unread_as those fault is begins ran =
        subst (λ (x : Reply). WritesReply x status old new ⊎ SaysPattern status old new) (sym is)
        (inl (unread_so status old new (usage_of those (usages.Words fault)) (plan_fault.Words fault) (line_is those fault begins) ended ran.unwritten ran.said))

    unread_any : (fault : WordsFault) → asked_of day words ≡ Err fault → r ≡ reply.Words (plan_fault.Words fault) → BeginReport words
        → AllByRecursion NamesNoJournal words → RunsOver words day s.text status old new → IsSaid
    unread_any fault reads is begins none (inl run) =
        unread_as words fault is begins (subst (λ (t : Result Task UsageFault). Runs words day status old new t) (refused_report day words fault reads begins none) run.runs)
    unread_any fault reads is begins none (inr named) =
        let run = named.1 in
        unread_as (with_file named.0 words) fault is (begins_too named.0 words begins)
        (subst (λ (t : Result Task UsageFault). Runs (with_file named.0 words) day status old new t) (refused_file day named.0 words fault reads begins none) run.runs)

    unread_by : (fault : WordsFault) → asked_of day words ≡ Err fault → r ≡ reply.Words (plan_fault.Words fault) → SayTheSame day words
        → RunsOver words day s.text status old new → IsSaid
    unread_by fault reads is (inl ok) run = absurd (false≢true (subst (λ (a : Result Asked WordsFault). IsOk a) reads ok))
    unread_by fault reads is (inr say) run = unread_any fault reads is say.0 say.1 run

  answered : (asked : Asked) (report : Report) → asked_of day words ≡ Ok asked → RunsTo day s.text asked report → r ≡ report_reply s.revision report
      → IsWrittenByRuns day words s.text r
  answered asked report reads runs is = λ say status old new run ended. over_any status old new ended asked report reads runs is run

  by_reply : (asked : Asked) (report : Report) → asked_of day words ≡ Ok asked → RunsTo day s.text asked report → IsReplyOf s day words report r → RepliesAsRuns s day words r
  by_reply asked report reads runs (inl memory) = inl memory
  by_reply asked report reads runs (inr (inl is)) = inr (inr (answered asked report reads runs is))
  by_reply asked report reads runs (inr (inr one)) = inr (inl one)

  unread : (fault : WordsFault) → asked_of day words ≡ Err fault → r ≡ reply.Words (plan_fault.Words fault) → IsWrittenByRuns day words s.text r
  unread fault reads is = λ say status old new run ended. unread_by status old new ended fault reads is say run

  by_asked : (a : Result Asked WordsFault) → asked_of day words ≡ a → RunsFresh s day words r a → RepliesAsRuns s day words r
  by_asked (Ok asked) reads fresh = by_reply asked fresh.0 reads fresh.1 fresh.2
  by_asked (Err fault) reads (inl memory) = inl memory
  by_asked (Err fault) reads (inr is) = inr (inr (unread fault reads is))

  -- a report that is answered as a fresh run is answered as each run writes it
  pub replies_as_runs : IsFreshRun s day words r → RepliesAsRuns s day words r
  replies_as_runs fresh = by_asked (asked_of day words) refl fresh
