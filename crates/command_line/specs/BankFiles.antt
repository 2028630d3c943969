-- Why a bank's file isn't imported, which is written with the lines that explain it.
use Rattle.std.specs.Prelude.{◌≡◌, ℕ, List, [], ◌++◌, Option, Some, None, Result, Ok, Err}
use Rattle.hl_base.specs.declared.fault.Memory.{Memory}
use Rattle.hl_base.specs.declared.shelf.Shelf.{Ghosts as Shelves}
use Rattle.query_terms.specs.declared.making.Maker.{Ghosts as Makers}
use Rattle.bank_explanations.specs.FileFaults.{ExplainsFile}
use Rattle.bank_explanations.specs.declared.files.Explanation.{Explanation}
use Rattle.bank_explanations.specs.declared.files.Explanation.TheVariants as explanation
use Rattle.desk.specs.declared.csv_fault.CsvFault.TheVariants as csv_fault
use Rattle.refusals.specs.declared.refusal.Refusal.{Refusal}
use Rattle.refusals.specs.declared.refusal.Refusal.TheVariants as refusal
use Rattle.store_commands.specs.Replies.{csv_line}
use Rattle.command_words.specs.declared.task.Explaining.{Explaining}
use Rattle.command_line.specs.StoreTasks.{Loads, RefusedAs, most_imported}
use Rattle.command_line.specs.declared.outside.Outside.{Outside}

-- the line that an import of the file is refused with, and the lines that explain it
abbrev pub explanation_lines : Explanation → List ℕ
explanation_lines (explanation.Rules fault lines) = csv_line (csv_fault.Rules fault) ++ lines
explanation_lines (explanation.Record fault lines) = csv_line (csv_fault.Convert fault) ++ lines

-- nothing is said of a file that becomes entries, and else what is wrong, with status 1
abbrev pub ToldFound : Option Explanation → Result (List ℕ) Refusal → Type 0
ToldFound None (Ok output) = output ≡ []
ToldFound None (Err x) = ⊥
ToldFound (Some e) (Ok output) = ⊥
ToldFound (Some e) (Err x) = RefusedAs 1 (explanation_lines e) x

abbrev pub ToldExplained : Result (Option Explanation) Memory → Result (List ℕ) Refusal → Type 0
ToldExplained (Ok found) r = ToldFound found r
ToldExplained (Err memory) (Ok output) = ⊥
ToldExplained (Err memory) (Err x) = x ≡ refusal.Memory

-- These bytes of a file were judged by these of its rules. Only patterns were built.
pub record ExplainsBytes {J O E S M : Type 0} (m : Makers M) (csv rules : List ℕ) (old new : Outside J O E S M) (r : Result (List ℕ) Refusal) : Type 0 where
  pub found : Result (Option Explanation) Memory
  pub finds : ExplainsFile rules csv (m.refusals old.maker) (m.refusals new.maker) (m.last_refused old.maker) (m.last_refused new.maker) found
  pub told : ToldExplained found r
  pub rest : new ≡ record old { maker = new.maker }

-- The file was loaded, then its rules, as an import loads them, and then its bytes were judged. No file is changed.
abbrev pub ExplainsBankFile : {J O E S D M : Type 0} → Shelves S D → Makers M → Explaining → Outside J O E S M → Outside J O E S M → Result (List ℕ) Refusal → Type 0
ExplainsBankFile s m what = Loads s most_imported what.file (λ csv. Loads s most_imported what.rules (ExplainsBytes m csv))
