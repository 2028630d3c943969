-- What a command answers over a text that loads.
use Rattle.std.proofs.Common.{◌≡◌, inl, inr, ℕ, Option, List, Result, Ok, Err, IfSome, false, refl, ap, sym, ◌∙◌, subst}
use Rattle.book.specs.declared.item.Book.{Book}
use Rattle.book.specs.declared.item.Placed.{Placed}
use Rattle.book.specs.declared.transaction.Txn.{Txn}
use Rattle.entry_reader.specs.Lines.{contents_of}
use Rattle.generated.specs.declared.fault.GenFault.{GenFault}
use Rattle.generated.specs.declared.fault.GenFault.TheVariants as gen_fault
use Rattle.plan_commands.specs.Faults.{of_words, widened}
use Rattle.plan_commands.specs.Reports.{Report, answer_over, asks_rules}
use Rattle.plan_commands.specs.Telling.{Never, Tells as TellsPlanned}
use Rattle.plan_commands.specs.declared.fault.PlanFault.{PlanFault}
use Rattle.plan_commands.specs.declared.fault.PlanFault.TheVariants as plan_fault
use Rattle.plan_commands.proofs.Plain.{plain_reports}
use Rattle.plan_commands.proofs.Telling.{defined_so, plain_tells}
use Rattle.query.specs.Made.{IsPatternRefused}
use Rattle.refusals.specs.Errors.{rules_line, rules_status, words_line, words_status}
use Rattle.refusals.specs.Outcomes.{Judged, Outcome, refused, written}
use Rattle.refusals.specs.Refusing.{IsOfReport, IsOfText, Refuses, RefusesPattern, RefusesPlan, RefusesReport, RefusesRules}
use Rattle.refusals.specs.declared.refusal.PatternOf.{PatternOf}
use Rattle.refusals.specs.declared.refusal.PatternOf.TheVariants as pattern_of
use Rattle.refusals.specs.declared.refusal.Refusal.{Refusal}
use Rattle.refusals.specs.declared.refusal.Refusal.TheVariants as refusal
use Rattle.report_commands.specs.Reports as plain
use Rattle.report_commands.specs.declared.asked.Asked.{Asked}
use Rattle.report_commands.specs.declared.fault.WordsFault.{WordsFault}
use Rattle.report_commands.specs.declared.fault.WordsFault.TheVariants as words_fault
use Rattle.time_logs.specs.Faults.{log_cause}
use Rattle.time_logs.specs.declared.faults.LogFault.{LogFault}
use Rattle.time_logs.specs.declared.faults.LogFault.TheVariants as log_fault
use Rattle.book_commands.specs.Answers.{Finds, IsQuiet, MakerRefused, MakerStays, ReportRule, Telling, TellsMaker, TellsReport, TellsWords, TellsWork, WorkRule}
use Rattle.book_commands.specs.FaultLines.{log_line, log_status}
use Rattle.book_commands.specs.Journals.{IsWholeOf}
use Rattle.book_commands.specs.Works.{entries_text, hours_made, hours_outcome, log_txns, plain_context, report_made, report_outcome}
use Rattle.book_commands.specs.declared.journal.Whole.{Whole}
use Rattle.book_commands.specs.declared.work.CloseAsked.{CloseAsked}
use Rattle.book_commands.specs.declared.work.LogForm.{LogForm}
use Rattle.book_commands.specs.declared.work.Work.{Work}
use Rattle.book_commands.specs.declared.work.Work.TheVariants as works

abbrev pub answering : Outcome → Judged
answering outcome = Ok outcome

-- ---- refusals

-- a refusal that is told
pub refused_found : (r : Refusal) (status : ℕ) (line : List ℕ) (told : Outcome) → told ≡ refused status line → Refuses r status line → Finds (Err r) (Ok told)
refused_found (refusal.Line own said) status line told e k =
    e ∙ ap (λ (n : ℕ). refused n line) (sym k.0) ∙ ap (λ (l : List ℕ). refused own l) (sym k.1)
refused_found (refusal.Pattern what said) status line told e k = absurd k
refused_found refusal.ReadFault status line told e k = tt
refused_found refusal.DiskFault status line told e k = tt
refused_found refusal.Memory status line told e k = tt

-- of a pattern that isn't built
pattern_found : (what : PatternOf) (r : Refusal) (told : Outcome) → RefusesPattern r what → Finds (Err r) (Ok told)
pattern_found what (refusal.Line own said) told k = absurd k
pattern_found what (refusal.Pattern w said) told k = refl
pattern_found what refusal.ReadFault told k = tt
pattern_found what refusal.DiskFault told k = tt
pattern_found what refusal.Memory told k = tt

-- and want of memory
pub memory_found : (r : Refusal) (told : Outcome) → r ≡ refusal.Memory → Finds (Err r) (Ok told)
memory_found r told e = subst (λ (x : Refusal). Finds (Err x) (Ok told)) (sym e) tt

-- a refusal that was told has a kind, and asks for no pattern
pub told_kind : (r : Refusal) → IsOfText r → IsOfReport (Err r)
told_kind (refusal.Line own said) k = k
told_kind (refusal.Pattern what said) k = absurd k
told_kind refusal.ReadFault k = k
told_kind refusal.DiskFault k = k
told_kind refusal.Memory k = tt

pub told_quiet : (r : Refusal) (status : ℕ) (line : List ℕ) → Refuses r status line → IsQuiet (Err r)
told_quiet (refusal.Line own said) status line k = tt
told_quiet (refusal.Pattern what said) status line k = k
told_quiet refusal.ReadFault status line k = k
told_quiet refusal.DiskFault status line k = k
told_quiet refusal.Memory status line k = tt

-- ---- what the maker of patterns tells

module _ (day : ℕ) (words : List (List ℕ)) (OfRule : ℕ → Type 0) (t : Telling) where
  pub quiet_maker : (r : Result (List ℕ) Refusal) → IsQuiet r → MakerStays t → TellsMaker day words OfRule t r
  quiet_maker (Ok output) k s = s
  quiet_maker (Err (refusal.Line own said)) k s = s
  quiet_maker (Err (refusal.Pattern what said)) k s = absurd k
  quiet_maker (Err refusal.ReadFault) k s = absurd k
  quiet_maker (Err refusal.DiskFault) k s = absurd k
  quiet_maker (Err refusal.Memory) k s = inl s

  -- by what a refusal is that of
  stays : (status : ℕ) (line : List ℕ) (r : Refusal) → MakerStays t → Refuses r status line → TellsMaker day words OfRule t (Err r)
  stays status line (refusal.Line own said) h k = h
  stays status line (refusal.Pattern what said) h k = absurd k
  stays status line refusal.ReadFault h k = h
  stays status line refusal.DiskFault h k = h
  stays status line refusal.Memory h k = inl h

  stays_memory : (r : Refusal) → MakerStays t → r ≡ refusal.Memory → TellsMaker day words OfRule t (Err r)
  stays_memory r h e = subst (λ (x : Refusal). TellsMaker day words OfRule t (Err x)) (sym e) (inl h)

  refuses : (what : PatternOf) (r : Refusal) → MakerRefused day words OfRule t what → RefusesPattern r what → TellsMaker day words OfRule t (Err r)
  refuses what (refusal.Line own said) h k = absurd k
  refuses what (refusal.Pattern w said) h k = subst (λ (v : PatternOf). MakerRefused day words OfRule t v) (sym k.0) h
  refuses what refusal.ReadFault h k = absurd k
  refuses what refusal.DiskFault h k = absurd k
  refuses what refusal.Memory h k = inr (what, h)

-- of a rule's pattern that was refused more may be said
module _ (day : ℕ) (words : List (List ℕ)) (A B : ℕ → Type 0) (t : Telling) (so : (line : ℕ) → A line → B line) where
  refused_so : (what : PatternOf) → MakerRefused day words A t what → MakerRefused day words B t what
  refused_so (pattern_of.Word word) h = h
  refused_so (pattern_of.Rule line) h = so line h

  pub maker_so : (r : Result (List ℕ) Refusal) → TellsMaker day words A t r → TellsMaker day words B t r
  maker_so (Ok output) h = h
  maker_so (Err (refusal.Line status line)) h = h
  maker_so (Err (refusal.Pattern what line)) h = refused_so what h
  maker_so (Err refusal.ReadFault) h = h
  maker_so (Err refusal.DiskFault) h = h
  maker_so (Err refusal.Memory) (inl h) = inl h
  maker_so (Err refusal.Memory) (inr h) = inr (h.0, refused_so h.0 h.1)

-- that of a word, of what is asked over a text
pub words_report : (asked : Asked) (day : ℕ) (year : Option ℕ) (text : List ℕ) (t : Telling) (r : Result (List ℕ) Refusal)
    → TellsWords day asked.words t r → TellsWork day year (works.Report asked) text t r
words_report asked day year text t r h =
    maker_so day asked.words Never (WorkRule day year (works.Report asked) text t) t (λ line k. absurd k) r h

pub words_close : (work : Work) (asked : CloseAsked) (day : ℕ) (year : Option ℕ) (text : List ℕ) (t : Telling) (r : Result (List ℕ) Refusal)
    → work ≡ works.Close asked → TellsWords day asked.words t r → TellsWork day year work text t r
words_close work asked day year text t r is h =
    let F : Work → Type 0 = λ w. TellsWork day year w text t r in
    subst F (sym is) (maker_so day asked.words Never (WorkRule day year (works.Close asked) text t) t (λ line k. absurd k) r h)

-- and that of a rule, of a report
pub whole_report : (asked : Asked) (day : ℕ) (year : Option ℕ) (text : List ℕ) (whole : Whole) (t : Telling) (r : Result (List ℕ) Refusal)
    → IsWholeOf year text whole → TellsReport asked day whole.items whole.journal.book t r → TellsWork day year (works.Report asked) text t r
whole_report asked day year text whole t r is h =
    maker_so day asked.words (ReportRule asked day whole.items whole.journal.book t) (WorkRule day year (works.Report asked) text t) t
    (λ line told. record { items = whole.items; read = is.read; book = whole.journal.book; loaded = is.made.book; rule = told }) r h

-- ---- words

-- what is told of words: the refusal of a fault, or of a pattern by who builds it; want of memory tells nothing
abbrev pub Tells : ℕ → List (List ℕ) → Telling → Outcome → WordsFault → Type 0
Tells day words t told (words_fault.PatternRefused word) = IsPatternRefused day words word t.count_before t.count_now t.last_now
Tells day words t told words_fault.Memory = MakerStays t
Tells day words t told fault = (told ≡ refused (words_status fault) (words_line fault)) × MakerStays t

module _ (day : ℕ) (words : List (List ℕ)) (t : Telling) (told : Outcome) where
  pub words_found : (fault : WordsFault) (r : Refusal) → Tells day words t told fault → RefusesReport r fault → Finds (Err r) (Ok told)
  words_found (words_fault.NoCommand word) r h k = refused_found r 1 (words_line (words_fault.NoCommand word)) told h.0 k
  words_found (words_fault.BadOption word) r h k = refused_found r 1 (words_line (words_fault.BadOption word)) told h.0 k
  words_found (words_fault.Conflict a b) r h k = refused_found r 1 (words_line (words_fault.Conflict a b)) told h.0 k
  words_found (words_fault.BadTerm word) r h k = refused_found r 1 (words_line (words_fault.BadTerm word)) told h.0 k
  words_found (words_fault.PatternRefused word) r h k = pattern_found (pattern_of.Word word) r told k
  words_found (words_fault.Report fault) r h k = refused_found r (words_status (words_fault.Report fault)) (words_line (words_fault.Report fault)) told h.0 k
  words_found words_fault.Memory r h k = memory_found r told k

  -- with what the maker tells
  pub words_maker : (OfRule : ℕ → Type 0) (fault : WordsFault) (r : Refusal) → Tells day words t told fault → RefusesReport r fault
      → TellsMaker day words OfRule t (Err r)
  words_maker OfRule (words_fault.NoCommand word) r h k = stays day words OfRule t 1 (words_line (words_fault.NoCommand word)) r h.1 k
  words_maker OfRule (words_fault.BadOption word) r h k = stays day words OfRule t 1 (words_line (words_fault.BadOption word)) r h.1 k
  words_maker OfRule (words_fault.Conflict a b) r h k = stays day words OfRule t 1 (words_line (words_fault.Conflict a b)) r h.1 k
  words_maker OfRule (words_fault.BadTerm word) r h k = stays day words OfRule t 1 (words_line (words_fault.BadTerm word)) r h.1 k
  words_maker OfRule (words_fault.PatternRefused word) r h k = refuses day words OfRule t (pattern_of.Word word) r h k
  words_maker OfRule (words_fault.Report fault) r h k =
      stays day words OfRule t (words_status (words_fault.Report fault)) (words_line (words_fault.Report fault)) r h.1 k
  words_maker OfRule words_fault.Memory r h k = stays_memory day words OfRule t r h k

-- ---- rules

-- what is told of the rules of a text
abbrev TellsRules : (ℕ → Type 0) → Telling → Outcome → GenFault → Type 0
TellsRules OfRule t told (gen_fault.PatternRefused line) = OfRule line
TellsRules OfRule t told gen_fault.Memory = MakerStays t
TellsRules OfRule t told fault = (told ≡ refused (rules_status fault) (rules_line fault)) × MakerStays t

module _ (day : ℕ) (words : List (List ℕ)) (OfRule : ℕ → Type 0) (t : Telling) (told : Outcome) where
  rules_found : (fault : GenFault) (r : Refusal) → TellsRules OfRule t told fault → RefusesRules r fault → Finds (Err r) (Ok told)
  rules_found (gen_fault.Journal fault) r h k =
      refused_found r (rules_status (gen_fault.Journal fault)) (rules_line (gen_fault.Journal fault)) told h.0 k
  rules_found (gen_fault.BadTerm line) r h k = refused_found r 1 (rules_line (gen_fault.BadTerm line)) told h.0 k
  rules_found (gen_fault.PatternRefused line) r h k = pattern_found (pattern_of.Rule line) r told k
  rules_found (gen_fault.TooMany count limit) r h k = refused_found r 7 (rules_line (gen_fault.TooMany count limit)) told h.0 k
  rules_found gen_fault.Memory r h k = memory_found r told k

  rules_maker : (fault : GenFault) (r : Refusal) → TellsRules OfRule t told fault → RefusesRules r fault → TellsMaker day words OfRule t (Err r)
  rules_maker (gen_fault.Journal fault) r h k =
      stays day words OfRule t (rules_status (gen_fault.Journal fault)) (rules_line (gen_fault.Journal fault)) r h.1 k
  rules_maker (gen_fault.BadTerm line) r h k = stays day words OfRule t 1 (rules_line (gen_fault.BadTerm line)) r h.1 k
  rules_maker (gen_fault.PatternRefused line) r h k = refuses day words OfRule t (pattern_of.Rule line) r h k
  rules_maker (gen_fault.TooMany count limit) r h k = stays day words OfRule t 7 (rules_line (gen_fault.TooMany count limit)) r h.1 k
  rules_maker gen_fault.Memory r h k = stays_memory day words OfRule t r h k

  -- of either
  abbrev pub TellsFault : PlanFault → Type 0
  TellsFault (plan_fault.Words fault) = Tells day words t told fault
  TellsFault (plan_fault.Generated fault) = TellsRules OfRule t told fault
  TellsFault plan_fault.Memory = MakerStays t

  pub fault_found : (fault : PlanFault) (r : Refusal) → TellsFault fault → RefusesPlan r fault → Finds (Err r) (Ok told)
  fault_found (plan_fault.Words fault) r h k = words_found day words t told fault r h k
  fault_found (plan_fault.Generated fault) r h k = rules_found fault r h k
  fault_found plan_fault.Memory r h k = memory_found r told k

  pub fault_maker : (fault : PlanFault) (r : Refusal) → TellsFault fault → RefusesPlan r fault → TellsMaker day words OfRule t (Err r)
  fault_maker (plan_fault.Words fault) r h k = words_maker day words t told OfRule fault r h k
  fault_maker (plan_fault.Generated fault) r h k = rules_maker fault r h k
  fault_maker plan_fault.Memory r h k = stays_memory day words OfRule t r h k

-- the refusal of a report is that of one with what rules make
pub words_refused : (fault : WordsFault) (r : Refusal) → RefusesReport r fault → RefusesPlan r (of_words fault)
words_refused (words_fault.NoCommand word) r k = k
words_refused (words_fault.BadOption word) r k = k
words_refused (words_fault.Conflict a b) r k = k
words_refused (words_fault.BadTerm word) r k = k
words_refused (words_fault.PatternRefused word) r k = k
words_refused (words_fault.Report fault) r k = k
words_refused words_fault.Memory r k = k

-- ---- reports

module _ (asked : Asked) (day : ℕ) (items : List Placed) (book : Book) (t : Telling) (OfRule : ℕ → Type 0) where
  -- what is told of a report
  abbrev pub Says : Report → Type 0
  Says report = TellsPlanned day asked.words t.count_before t.count_now t.last_before t.last_now (answer_over asked day items book) OfRule report

  is_made : (report : Report) → answer_over asked day items book ≡ report → report_made asked day items book ≡ report_outcome report
  unfolding report_made
  is_made report e = ap (λ (x : Report). report_outcome x) e

  -- its text
  pub report_told : (text : List ℕ) → Says (Ok text) → Finds (Ok text) (Ok (report_made asked day items book))
  report_told text h = ap answering (is_made (Ok text) h.0)

  -- or why there is none
  pub report_tells : (fault : PlanFault) → Says (Err fault) → TellsFault day asked.words OfRule t (report_made asked day items book) fault
  report_tells (plan_fault.Words (words_fault.NoCommand word)) h = (is_made (Err (plan_fault.Words (words_fault.NoCommand word))) h.0, h.1)
  report_tells (plan_fault.Words (words_fault.BadOption word)) h = (is_made (Err (plan_fault.Words (words_fault.BadOption word))) h.0, h.1)
  report_tells (plan_fault.Words (words_fault.Conflict a b)) h = (is_made (Err (plan_fault.Words (words_fault.Conflict a b))) h.0, h.1)
  report_tells (plan_fault.Words (words_fault.BadTerm word)) h = (is_made (Err (plan_fault.Words (words_fault.BadTerm word))) h.0, h.1)
  report_tells (plan_fault.Words (words_fault.PatternRefused word)) h = h
  report_tells (plan_fault.Words (words_fault.Report fault)) h = (is_made (Err (plan_fault.Words (words_fault.Report fault))) h.0, h.1)
  report_tells (plan_fault.Words words_fault.Memory) h = absurd h
  report_tells (plan_fault.Generated (gen_fault.Journal fault)) h = (is_made (Err (plan_fault.Generated (gen_fault.Journal fault))) h.0, h.1)
  report_tells (plan_fault.Generated (gen_fault.BadTerm line)) h = (is_made (Err (plan_fault.Generated (gen_fault.BadTerm line))) h.0, h.1)
  report_tells (plan_fault.Generated (gen_fault.PatternRefused line)) h = h
  report_tells (plan_fault.Generated (gen_fault.TooMany count limit)) h = (is_made (Err (plan_fault.Generated (gen_fault.TooMany count limit))) h.0, h.1)
  report_tells (plan_fault.Generated gen_fault.Memory) h = absurd h
  report_tells plan_fault.Memory h = h

-- a report that asks for no rules is told as one that may
pub plain_says : (asked : Asked) (day : ℕ) (items : List Placed) (book : Book) (t : Telling) (r : plain.Report) → asks_rules asked.options ≡ false
    → plain.Answers asked day items book t.count_before t.count_now t.last_before t.last_now r → Says asked day items book t Never (widened r)
plain_says asked day items book t r none h =
    defined_so day asked.words t.count_before t.count_now t.last_before t.last_now
    (widened (plain.answer_over asked day items book)) (answer_over asked day items book) Never (widened r)
    (sym (plain_reports asked day items book none))
    (plain_tells asked day items book t.count_before t.count_now t.last_before t.last_now Never r h)

-- ---- hours

pub hours_is : (form : LogForm) (text : List ℕ) → hours_made form text ≡ hours_outcome (log_txns form (contents_of text))
unfolding hours_made
hours_is form text = refl

pub hours_told : (form : LogForm) (text : List ℕ) (read : Result (List Txn) LogFault) (txns : List Txn) (output : List ℕ)
    → hours_made form text ≡ hours_outcome read → read ≡ Ok txns → output ≡ entries_text plain_context txns
    → Finds (Ok output) (Ok (hours_made form text))
hours_told form text read txns output is e o =
    ap answering (is ∙ ap (λ (x : Result (List Txn) LogFault). hours_outcome x) e ∙ ap (λ (x : List ℕ). written x) (sym o))

module _ (read : Result (List Txn) LogFault) (r : Refusal) (told : Outcome) (is : told ≡ hours_outcome read) where
  log_said : (fault : LogFault) → read ≡ Err fault → told ≡ refused (log_status fault) (log_line fault)
  log_said fault e = is ∙ ap (λ (x : Result (List Txn) LogFault). hours_outcome x) e

  pub hours_refused : (fault : LogFault) → IfSome (log_cause fault) (λ f. read ≡ Err f) → Refuses r (log_status fault) (log_line fault)
      → (fault ≡ log_fault.Memory → r ≡ refusal.Memory) → Finds (Err r) (Ok told)
  hours_refused (log_fault.BadLine line) e k memory = refused_found r 1 (log_line (log_fault.BadLine line)) told (log_said (log_fault.BadLine line) e) k
  hours_refused (log_fault.Order line) e k memory = refused_found r 1 (log_line (log_fault.Order line)) told (log_said (log_fault.Order line) e) k
  hours_refused (log_fault.Backwards line) e k memory = refused_found r 1 (log_line (log_fault.Backwards line)) told (log_said (log_fault.Backwards line) e) k
  hours_refused (log_fault.Open line) e k memory = refused_found r 1 (log_line (log_fault.Open line)) told (log_said (log_fault.Open line) e) k
  hours_refused (log_fault.TooMany count limit) e k memory =
      refused_found r 7 (log_line (log_fault.TooMany count limit)) told (log_said (log_fault.TooMany count limit) e) k
  hours_refused log_fault.Memory e k memory = memory_found r told (memory refl)
