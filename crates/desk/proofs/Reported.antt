-- The report of a journal that is kept open is that of its text.
use Rattle.std.proofs.Common.{◌≡◌, ℕ, List, [], ◌∷◌, Option, Some, None, IfSome, Result, Ok, Err, refl, sym, ap, ◌∙◌}
use Rattle.book.specs.declared.fault.Fault.{Fault}
use Rattle.book.specs.declared.item.Book.{Book}
use Rattle.book.specs.declared.item.Placed.{Placed}
use Rattle.balancing.specs.Load.{load}
use Rattle.generated.specs.declared.fault.GenFault.TheVariants as gen_fault
use Rattle.live_journal.specs.Loading.{book_from, book_of, reading_in}
use Rattle.report_options.specs.Commands.{command_named}
use Rattle.report_options.specs.Options.{reading}
use Rattle.report_options.specs.declared.command.Command.{Command}
use Rattle.report_options.specs.declared.fault.OptionFault.{OptionFault}
use Rattle.report_options.specs.declared.fault.OptionFault.TheVariants as option_fault
use Rattle.report_options.specs.declared.options.Options.{Options}
use Rattle.report_commands.specs.Commands.{words_cause}
use Rattle.report_commands.specs.declared.asked.Asked.{Asked}
use Rattle.report_commands.specs.declared.fault.WordsFault.{WordsFault}
use Rattle.report_commands.specs.declared.fault.WordsFault.TheVariants as words_fault
use Rattle.plan_commands.specs.Commands.{asked_by, asked_from, asked_of}
use Rattle.plan_commands.specs.Faults.{of_words}
use Rattle.plan_commands.specs.Reports.{Report, answer_over, report_loaded, report_read}
use Rattle.plan_commands.specs.Telling.{Answers}
use Rattle.plan_commands.specs.declared.fault.PlanFault.TheVariants as plan_fault
use Rattle.desk.specs.Reports.{Reports, asked_over, shown, words_over}

-- no words are faulty for a pattern
never_by : (r : Result (Options × List (List ℕ)) OptionFault) (word : List ℕ) → asked_by r ≡ Err (words_fault.PatternRefused word) → ⊥
never_by (Ok read) word h = cc
never_by (Err (option_fault.BadOption x)) word h = cc
never_by (Err (option_fault.Conflict a b)) word h = cc
never_by (Err option_fault.Memory) word h = cc

never_from : (first : List ℕ) (o : Option Command) (day : ℕ) (words : List (List ℕ)) (word : List ℕ) → asked_from first o day words ≡ Err (words_fault.PatternRefused word) → ⊥
never_from first None day words word h = cc
never_from first (Some command) day words word h = never_by (reading command day words) word h

never_refused : (day : ℕ) (words : List (List ℕ)) (word : List ℕ) → asked_of day words ≡ Err (words_fault.PatternRefused word) → ⊥
never_refused day [] word h = cc
never_refused day (x ∷ xs) word h = never_from x (command_named x) day xs word h

-- words that are faulty
pub unread : (day : ℕ) (year : Option ℕ) (text : List ℕ) (words : List (List ℕ)) (count : ℕ) (last : Option (List ℕ)) (fault : WordsFault)
    → IfSome (words_cause fault) (λ f. asked_of day words ≡ Err f) → Reports day year text words count count last last (Err (of_words fault))
unread day year text words count last (words_fault.NoCommand word) h = (ap (asked_over day year text) h, record { count = refl; told = refl })
unread day year text words count last (words_fault.BadOption word) h = (ap (asked_over day year text) h, record { count = refl; told = refl })
unread day year text words count last (words_fault.Conflict a b) h = (ap (asked_over day year text) h, record { count = refl; told = refl })
unread day year text words count last (words_fault.BadTerm word) h = (ap (asked_over day year text) h, record { count = refl; told = refl })
unread day year text words count last (words_fault.PatternRefused word) h = absurd (never_refused day words word h)
unread day year text words count last (words_fault.Report fault) h = (ap (asked_over day year text) h, record { count = refl; told = refl })
unread day year text words count last words_fault.Memory h = record { count = refl; told = refl }

module _ (asked : Asked) (day : ℕ) (year : Option ℕ) (text : List ℕ) (words : List (List ℕ)) (items : List Placed) (book : Book)
    (is : asked_of day words ≡ Ok asked) (read : reading_in year text ≡ Ok items) (made : book_of year text ≡ Ok book) where
  loaded : load items ≡ Ok book
  loaded = sym (ap book_from read) ∙ made

  words_are : words_over day year text words ≡ answer_over asked day items book
  words_are =
      ap (asked_over day year text) is
      ∙ ap (λ (r : Result (List Placed) Fault). shown (report_read asked day r)) read
      ∙ ap (λ (b : Result Book Fault). shown (report_loaded asked day items b)) loaded

  -- what is answered over the items and the book is the report of the words
  pub reports : (before now : ℕ) (last_before last_now : Option (List ℕ)) (r : Report)
      → Answers asked day items book before now last_before last_now r → Reports day year text words before now last_before last_now r
  reports before now last_before last_now (Ok report) h = (words_are ∙ h.0, h.1)
  reports before now last_before last_now (Err (plan_fault.Words (words_fault.NoCommand word))) h = (words_are ∙ h.0, h.1)
  reports before now last_before last_now (Err (plan_fault.Words (words_fault.BadOption word))) h = (words_are ∙ h.0, h.1)
  reports before now last_before last_now (Err (plan_fault.Words (words_fault.Conflict a b))) h = (words_are ∙ h.0, h.1)
  reports before now last_before last_now (Err (plan_fault.Words (words_fault.BadTerm word))) h = (words_are ∙ h.0, h.1)
  reports before now last_before last_now (Err (plan_fault.Words (words_fault.PatternRefused word))) h = record { asked = asked; is = is; refused = h }
  reports before now last_before last_now (Err (plan_fault.Words (words_fault.Report fault))) h = (words_are ∙ h.0, h.1)
  reports before now last_before last_now (Err (plan_fault.Words words_fault.Memory)) h = absurd h
  reports before now last_before last_now (Err (plan_fault.Generated (gen_fault.Journal fault))) h = (words_are ∙ h.0, h.1)
  reports before now last_before last_now (Err (plan_fault.Generated (gen_fault.BadTerm line))) h = (words_are ∙ h.0, h.1)
  reports before now last_before last_now (Err (plan_fault.Generated (gen_fault.PatternRefused line))) h =
      record { asked = asked; is = is; items = items; read = read; book = book; made = loaded; refused = h }
  reports before now last_before last_now (Err (plan_fault.Generated (gen_fault.TooMany count limit))) h = (words_are ∙ h.0, h.1)
  reports before now last_before last_now (Err (plan_fault.Generated gen_fault.Memory)) h = absurd h
  reports before now last_before last_now (Err plan_fault.Memory) h = h
