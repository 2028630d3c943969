-- What a report answers, from what its query and its command do.
use Rattle.std.proofs.Common.{◌≡◌, ℕ, List, Option, Result, Ok, Err, refl, sym, ap, subst, ◌∙◌}
use Rattle.std.specs.Prelude.{IfSome}
use Rattle.hl_base.specs.Gives.{Gives}
use Rattle.book.specs.declared.item.Book.{Book}
use Rattle.book.specs.declared.item.Placed.{Placed}
use Rattle.query.specs.Made.{Makes}
use Rattle.query.specs.Matching.{Own}
use Rattle.query.specs.OwnLetters.{own_in}
use Rattle.query.specs.declared.faults.QueryFault.{QueryFault}
use Rattle.query.specs.declared.faults.QueryFault.TheVariants as query_fault
use Rattle.query_terms.specs.Making.{Stays}
use Rattle.query_terms.specs.Reading.{terms_of}
use Rattle.query_terms.specs.declared.kinds.Term.{Term}
use Rattle.report_cells.specs.declared.fault.ReportFault.{ReportFault}
use Rattle.report_cells.specs.declared.fault.ReportFault.TheVariants as report_fault
use Rattle.report_sums.specs.Celled.{cause}
use Rattle.report_sums.specs.Matters.{Matter, matter_of}
use Rattle.report_sums.specs.declared.job.Job.{Job}
use Rattle.report_options.specs.declared.options.Options.{Options}
use Rattle.report_commands.specs.Answered.{text_by}
use Rattle.report_commands.specs.Commands.{words_cause}
use Rattle.report_commands.specs.Faults.{of_query, of_report}
use Rattle.report_commands.specs.Jobs.{IsMadeFor}
use Rattle.report_commands.specs.Matters.{letters_in, matter_over}
use Rattle.report_commands.specs.Reports.{Answers, Report, answer_by, answer_over, as_report}
use Rattle.report_commands.specs.declared.asked.Asked.{Asked}
use Rattle.report_commands.specs.declared.fault.WordsFault.{WordsFault}
use Rattle.report_commands.specs.declared.fault.WordsFault.TheVariants as words_fault
use Rattle.report_commands.proofs.Questions.{matter_is, same_letters}

-- an answer is that of the terms
pub by_terms : (asked : Asked) (day : ℕ) (items : List Placed) (book : Book) (read : Result (List Term) (List ℕ)) → terms_of day asked.words ≡ read
    → answer_over asked day items book ≡ answer_by asked.options day items book read
unfolding answer_over
by_terms asked day items book read is = ap (λ (q : Result (List Term) (List ℕ)). answer_by asked.options day items book q) is

-- the text of a command
pub text_given : (asked : Asked) (day : ℕ) (items : List Placed) (book : Book) (terms : List Term) (own : Own) (m : Matter)
    → terms_of day asked.words ≡ Ok terms → own ≡ letters_in items → m ≡ matter_over asked.options day items book terms
    → answer_over asked day items book ≡ as_report (text_by asked.options.command own m)
text_given asked day items book terms own m read letters is =
    by_terms asked day items book (Ok terms) read ∙ (λ i. as_report (text_by asked.options.command (sym letters i) (sym is i)))

-- that of a report's own query, letters, styles and prices
pub job_given : (asked : Asked) (items : List Placed) (job : Job) → IsMadeFor asked items job
    → answer_over asked job.scope.day.0 items job.scope.book.now
    ≡ as_report (text_by job.scope.options.now.command (own_in job.scope.types.now) (matter_of job))
job_given asked items job made =
    let day = job.scope.day.0 in
    let book = job.scope.book.now in
    let terms = job.scope.query.now.terms.items in
    let same : matter_of job ≡ matter_over asked.options day items book terms =
    matter_is job items made.query.built made.letters made.styles made.quotes
    ∙ ap (λ (o : Options). matter_over o day items book terms) made.options in
    text_given asked day items book terms (own_in job.scope.types.now) (matter_of job)
    made.query.read (same_letters (own_in job.scope.types.now) (letters_in items) made.letters) same
    ∙ ap (λ (o : Options). as_report (text_by o.command (own_in job.scope.types.now) (matter_of job))) (sym made.options)

pub made_report : (text : List ℕ) (made : Result (List ℕ) ReportFault) (whole : Report) → whole ≡ as_report made → made ≡ Ok text → whole ≡ Ok text
made_report text made whole is told = is ∙ ap as_report told

pub refused_report : (fault : ReportFault) (made : Result (List ℕ) ReportFault) (whole : Report) → whole ≡ as_report made
    → IfSome (cause fault) (λ f. made ≡ Err f) → IfSome (words_cause (of_report fault)) (λ f. whole ≡ Err f)
refused_report (report_fault.Range symbol) made whole is told = is ∙ ap as_report told
refused_report (report_fault.TooWide columns limit) made whole is told = is ∙ ap as_report told
refused_report report_fault.Memory made whole is told = tt

-- no command tells a pattern
never_pattern : (made : Result (List ℕ) ReportFault) (word : List ℕ) → as_report made ≡ Err (words_fault.PatternRefused word) → ⊥
never_pattern (Ok text) word is = cc
never_pattern (Err fault) word is = cc

-- what is answered by a query that was made
module _ (asked : Asked) (day : ℕ) (items : List Placed) (book : Book) (before now : ℕ) (last_before last_now : Option (List ℕ)) where
  pub answers_is : (terms : List Term) (r : Report) → terms_of day asked.words ≡ Ok terms → Stays before now last_before last_now
      → Gives (λ text. text) words_cause r (answer_over asked day items book) → Answers asked day items book before now last_before last_now r
  answers_is terms (Ok text) read stays given = (given, stays)
  answers_is terms (Err (words_fault.NoCommand word)) read stays given = (given, stays)
  answers_is terms (Err (words_fault.BadOption word)) read stays given = (given, stays)
  answers_is terms (Err (words_fault.Conflict a b)) read stays given = (given, stays)
  answers_is terms (Err (words_fault.BadTerm word)) read stays given = (given, stays)
  answers_is terms (Err (words_fault.PatternRefused word)) read stays given =
      absurd (never_pattern (text_by asked.options.command (letters_in items) (matter_over asked.options day items book terms)) word
      (sym (by_terms asked day items book (Ok terms) read) ∙ given))
  answers_is terms (Err (words_fault.Report fault)) read stays given = (given, stays)
  answers_is terms (Err words_fault.Memory) read stays given = stays

  -- where no query was made
  pub refused_is : (fault : QueryFault) → Makes day asked.words before now last_before last_now (Err fault)
      → Answers asked day items book before now last_before last_now (Err (of_query fault))
  refused_is (query_fault.BadTerm word) told = (by_terms asked day items book (Err word) told.0, told.1)
  refused_is (query_fault.PatternRefused word) told = told
  refused_is query_fault.Memory told = told
