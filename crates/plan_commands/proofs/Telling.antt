-- What is told of a report by what its parts tell.
use Rattle.std.proofs.Common.{◌≡◌, ℕ, List, Option, Ok, Err, ap, subst}
use Rattle.hl_base.specs.Gives.{Gives}
use Rattle.generated.specs.declared.fault.GenFault.TheVariants as gen_fault
use Rattle.query_terms.specs.Making.{Stays}
use Rattle.report_commands.specs.declared.fault.WordsFault.TheVariants as words_fault
use Rattle.report_commands.specs.declared.asked.Asked.{Asked}
use Rattle.report_commands.specs.Reports as plain
use Rattle.book.specs.declared.item.Book.{Book}
use Rattle.book.specs.declared.item.Placed.{Placed}
use Rattle.plan_commands.specs.Faults.{plan_cause, widened}
use Rattle.plan_commands.specs.Reports.{Report}
use Rattle.plan_commands.specs.Telling.{Tells}
use Rattle.plan_commands.specs.declared.fault.PlanFault.{PlanFault}
use Rattle.plan_commands.specs.declared.fault.PlanFault.TheVariants as plan_fault

-- What no report is by its definition: a pattern that is refused, or want of memory as something else.
abbrev pub IsUntold : PlanFault → Type 0
IsUntold (plan_fault.Words (words_fault.PatternRefused word)) = Unit {0}
IsUntold (plan_fault.Words words_fault.Memory) = Unit {0}
IsUntold (plan_fault.Generated (gen_fault.PatternRefused line)) = Unit {0}
IsUntold (plan_fault.Generated gen_fault.Memory) = Unit {0}
IsUntold other = ⊥

-- What a maker told before stays, so what is said since then holds since before.
pub stays_back : (R : ℕ → Option (List ℕ) → Type 0) (before mid : ℕ) (last_before last_mid : Option (List ℕ))
    → Stays before mid last_before last_mid → R mid last_mid → R before last_before
stays_back R before mid last_before last_mid stays told =
    subst (λ (n : ℕ). R n last_before) stays.count (subst (λ (l : Option (List ℕ)). R mid l) stays.told told)

module _ (day : ℕ) (words : List (List ℕ)) (before now : ℕ) (last_before last_now : Option (List ℕ)) where
  -- a refusal may be told by what follows from it
  pub refused_so : (defined : Report) (R S : ℕ → Type 0) (r : Report) → ((line : ℕ) → R line → S line)
      → Tells day words before now last_before last_now defined R r → Tells day words before now last_before last_now defined S r
  refused_so defined R S (Ok text) so told = told
  refused_so defined R S (Err (plan_fault.Words fault)) so told = told
  refused_so defined R S (Err (plan_fault.Generated (gen_fault.Journal fault))) so told = told
  refused_so defined R S (Err (plan_fault.Generated (gen_fault.BadTerm line))) so told = told
  refused_so defined R S (Err (plan_fault.Generated (gen_fault.PatternRefused line))) so told = so line told
  refused_so defined R S (Err (plan_fault.Generated (gen_fault.TooMany count limit))) so told = told
  refused_so defined R S (Err (plan_fault.Generated gen_fault.Memory)) so told = told
  refused_so defined R S (Err plan_fault.Memory) so told = told

  -- a report may be told as one that equals it
  pub defined_so : (a b : Report) (R : ℕ → Type 0) (r : Report) → a ≡ b
      → Tells day words before now last_before last_now a R r → Tells day words before now last_before last_now b R r
  defined_so a b R r is told = subst (λ (d : Report). Tells day words before now last_before last_now d R r) is told

  -- what a definition gives is told, where no maker was asked
  pub given_tells : (defined : Report) (R : ℕ → Type 0) (r : Report) → Stays before now last_before last_now
      → ((fault : PlanFault) → IsUntold fault → defined ≡ Err fault → ⊥)
      → Gives (λ (text : List ℕ). text) plan_cause r defined → Tells day words before now last_before last_now defined R r
  given_tells defined R (Ok text) stays never given = (given, stays)
  given_tells defined R (Err (plan_fault.Words (words_fault.NoCommand w))) stays never given = (given, stays)
  given_tells defined R (Err (plan_fault.Words (words_fault.BadOption w))) stays never given = (given, stays)
  given_tells defined R (Err (plan_fault.Words (words_fault.Conflict a b))) stays never given = (given, stays)
  given_tells defined R (Err (plan_fault.Words (words_fault.BadTerm w))) stays never given = (given, stays)
  given_tells defined R (Err (plan_fault.Words (words_fault.PatternRefused w))) stays never given = absurd (never (plan_fault.Words (words_fault.PatternRefused w)) tt given)
  given_tells defined R (Err (plan_fault.Words (words_fault.Report fault))) stays never given = (given, stays)
  given_tells defined R (Err (plan_fault.Words words_fault.Memory)) stays never given = absurd (never (plan_fault.Words words_fault.Memory) tt given)
  given_tells defined R (Err (plan_fault.Generated (gen_fault.Journal fault))) stays never given = (given, stays)
  given_tells defined R (Err (plan_fault.Generated (gen_fault.BadTerm l))) stays never given = (given, stays)
  given_tells defined R (Err (plan_fault.Generated (gen_fault.PatternRefused l))) stays never given = absurd (never (plan_fault.Generated (gen_fault.PatternRefused l)) tt given)
  given_tells defined R (Err (plan_fault.Generated (gen_fault.TooMany count limit))) stays never given = (given, stays)
  given_tells defined R (Err (plan_fault.Generated gen_fault.Memory)) stays never given = absurd (never (plan_fault.Generated gen_fault.Memory) tt given)
  given_tells defined R (Err plan_fault.Memory) stays never given = stays

-- what is answered without rules is told so
pub plain_tells : (asked : Asked) (day : ℕ) (items : List Placed) (book : Book) (before now : ℕ) (last_before last_now : Option (List ℕ))
    (R : ℕ → Type 0) (r : plain.Report) → plain.Answers asked day items book before now last_before last_now r
    → Tells day asked.words before now last_before last_now (widened (plain.answer_over asked day items book)) R (widened r)
plain_tells asked day items book before now last_before last_now R (Ok text) told = (ap (λ (q : plain.Report). widened q) told.0, told.1)
plain_tells asked day items book before now last_before last_now R (Err (words_fault.NoCommand w)) told = (ap (λ (q : plain.Report). widened q) told.0, told.1)
plain_tells asked day items book before now last_before last_now R (Err (words_fault.BadOption w)) told = (ap (λ (q : plain.Report). widened q) told.0, told.1)
plain_tells asked day items book before now last_before last_now R (Err (words_fault.Conflict a b)) told = (ap (λ (q : plain.Report). widened q) told.0, told.1)
plain_tells asked day items book before now last_before last_now R (Err (words_fault.BadTerm w)) told = (ap (λ (q : plain.Report). widened q) told.0, told.1)
plain_tells asked day items book before now last_before last_now R (Err (words_fault.PatternRefused w)) told = told
plain_tells asked day items book before now last_before last_now R (Err (words_fault.Report fault)) told = (ap (λ (q : plain.Report). widened q) told.0, told.1)
plain_tells asked day items book before now last_before last_now R (Err words_fault.Memory) told = told
