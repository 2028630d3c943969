-- Checks one after another.
use Rattle.std.proofs.Common.{◌≡◌, ℕ, List, [], ◌∷◌, Option, Some, None, Ok, Err, refl, ap, subst, sym, ◌∙◌}
use Rattle.std.specs.Option.{option_or}
use Rattle.book.specs.declared.item.Book.{Book}
use Rattle.book.specs.declared.item.Placed.{Placed}
use Rattle.book.specs.declared.transaction.Txn.{Txn}
use Rattle.book_care.specs.Breaks.{IsFault, first_by}
use Rattle.book_care.specs.DeclaredNames.{AreDeclaredIn}
use Rattle.book_care.specs.declared.declarations.Declarations.{Declarations}
use Rattle.book_care.specs.declared.faults.Check.{Check}
use Rattle.book_care.specs.declared.faults.StrictFault.{StrictFault}
use Rattle.book_care.specs.declared.faults.StrictFault.TheVariants as strict_fault
use Rattle.refusals.specs.Refusing.{Refuses}
use Rattle.book_commands.specs.Answers.{Finds}
use Rattle.book_commands.specs.FaultLines.{strict_line}
use Rattle.refusals.specs.Outcomes.{refused, written}
use Rattle.book_commands.specs.Works.{first_broken, first_kept, first_said, strict_made, strict_outcome}
use Rattle.refusals.specs.declared.refusal.Refusal.{Refusal}
use Rattle.refusals.specs.declared.refusal.Refusal.TheVariants as refusal
use Rattle.book_care.proofs.Naming.{first_by_is}
use Rattle.book_commands.proofs.Answering.{answering, memory_found, refused_found}

module _ (declarations : Declarations) (txns : List Txn) where
  -- a check that holds leaves what the others say
  pub broken_more : (left rest : List Check) (check : Check) → left ≡ check ∷ rest → first_by declarations check txns ≡ None
      → first_kept left declarations txns ≡ first_kept rest declarations txns
  broken_more left rest check here holds =
      ap (λ (cs : List Check). first_kept cs declarations txns) here
      ∙ ap (λ (o : Option StrictFault). option_or o (first_kept rest declarations txns)) holds

  pub broken_none : (all left : List Check) → first_kept all declarations txns ≡ first_kept left declarations txns → left ≡ [] → first_kept all declarations txns ≡ None
  broken_none all left so_far here = so_far ∙ ap (λ (cs : List Check). first_kept cs declarations txns) here

  -- one that fails decides
  broken_here : (all left rest : List Check) (check : Check) (fault : StrictFault) → first_kept all declarations txns ≡ first_kept left declarations txns
      → left ≡ check ∷ rest → first_by declarations check txns ≡ Some fault → first_kept all declarations txns ≡ Some fault
  broken_here all left rest check fault so_far here told =
      so_far ∙ ap (λ (cs : List Check). first_kept cs declarations txns) here
      ∙ ap (λ (o : Option StrictFault). option_or o (first_kept rest declarations txns)) told

  pub broken_fault : (all left rest : List Check) (check : Check) (fault : StrictFault) → first_kept all declarations txns ≡ first_kept left declarations txns
      → left ≡ check ∷ rest → IsFault (first_by declarations check txns) fault → IsFault (first_kept all declarations txns) fault
  broken_fault all left rest check (strict_fault.Account line name) so_far here told = broken_here all left rest check (strict_fault.Account line name) so_far here told
  broken_fault all left rest check (strict_fault.Commodity line symbol) so_far here told = broken_here all left rest check (strict_fault.Commodity line symbol) so_far here told
  broken_fault all left rest check (strict_fault.Payee line payee) so_far here told = broken_here all left rest check (strict_fault.Payee line payee) so_far here told
  broken_fault all left rest check (strict_fault.Tag line name) so_far here told = broken_here all left rest check (strict_fault.Tag line name) so_far here told
  broken_fault all left rest check (strict_fault.Dates line before day) so_far here told = broken_here all left rest check (strict_fault.Dates line before day) so_far here told
  broken_fault all left rest check strict_fault.Memory so_far here told = tt

module _ (checks : List Check) (items : List Placed) (book : Book) where
  -- all hold
  pub strict_told : (output : List ℕ) → first_broken checks items book.txns ≡ None → output ≡ [] → Finds (Ok output) (Ok (strict_made checks items book))
  unfolding strict_made
  strict_told output e o =
      ap answering (ap (λ (x : Option StrictFault). strict_outcome x) e ∙ ap (λ (x : List ℕ). written x) (sym o))

  strict_said : (fault : StrictFault) → first_broken checks items book.txns ≡ Some fault → strict_made checks items book ≡ refused 1 (strict_line fault)
  unfolding strict_made
  strict_said fault e = ap (λ (x : Option StrictFault). strict_outcome x) e

  -- one fails
  pub strict_refused : (fault : StrictFault) (r : Refusal) → IsFault (first_broken checks items book.txns) fault → Refuses r 1 (strict_line fault)
      → (fault ≡ strict_fault.Memory → r ≡ refusal.Memory) → Finds (Err r) (Ok (strict_made checks items book))
  strict_refused (strict_fault.Account line name) r e k memory =
      refused_found r 1 (strict_line (strict_fault.Account line name)) (strict_made checks items book) (strict_said (strict_fault.Account line name) e) k
  strict_refused (strict_fault.Commodity line symbol) r e k memory =
      refused_found r 1 (strict_line (strict_fault.Commodity line symbol)) (strict_made checks items book) (strict_said (strict_fault.Commodity line symbol) e) k
  strict_refused (strict_fault.Payee line payee) r e k memory =
      refused_found r 1 (strict_line (strict_fault.Payee line payee)) (strict_made checks items book) (strict_said (strict_fault.Payee line payee) e) k
  strict_refused (strict_fault.Tag line name) r e k memory =
      refused_found r 1 (strict_line (strict_fault.Tag line name)) (strict_made checks items book) (strict_said (strict_fault.Tag line name) e) k
  strict_refused (strict_fault.Dates line before day) r e k memory =
      refused_found r 1 (strict_line (strict_fault.Dates line before day)) (strict_made checks items book) (strict_said (strict_fault.Dates line before day) e) k
  strict_refused strict_fault.Memory r e k memory = memory_found r (strict_made checks items book) (memory refl)

-- ---- by the names that are kept

-- where they are what items declare, they say the same
kept_says : (checks : List Check) (items : List Placed) (declarations : Declarations) (txns : List Txn) → AreDeclaredIn items declarations
    → first_kept checks declarations txns ≡ first_broken checks items txns
kept_says checks items declarations txns are =
    λ i. first_said (λ (check : Check). first_by_is items declarations check txns are i) checks

module _ (checks : List Check) (items : List Placed) (declarations : Declarations) (book : Book) (are : AreDeclaredIn items declarations) where
  pub checked_told : (output : List ℕ) → first_kept checks declarations book.txns ≡ None → output ≡ [] → Finds (Ok output) (Ok (strict_made checks items book))
  checked_told output e o = strict_told checks items book output (sym (kept_says checks items declarations book.txns are) ∙ e) o

  pub checked_refused : (fault : StrictFault) (r : Refusal) → IsFault (first_kept checks declarations book.txns) fault → Refuses r 1 (strict_line fault)
      → (fault ≡ strict_fault.Memory → r ≡ refusal.Memory) → Finds (Err r) (Ok (strict_made checks items book))
  checked_refused fault r e k memory =
      strict_refused checks items book fault r (subst (λ (o : Option StrictFault). IsFault o fault) (kept_says checks items declarations book.txns are) e) k memory
