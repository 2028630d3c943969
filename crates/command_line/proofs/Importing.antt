-- A file that is loaded with its rules, and what comes of the edit that imports it.
use Rattle.std.proofs.Common.{◌≡◌, List, ℕ, Result, Ok, Err, subst}
use Rattle.hl_base.specs.declared.shelf.Shelf.{Ghosts as Shelves}
use Rattle.hl_time.specs.declared.day.Day.{Day}
use Rattle.desk.specs.declared.request.Request.{Request}
use Rattle.desk.specs.declared.request.Request.TheVariants as request
use Rattle.refusals.specs.declared.refusal.Refusal.{Refusal}
use Rattle.store_commands.specs.declared.edit.StoreEdit.{StoreEdit}
use Rattle.command_words.specs.declared.task.Importing.{Importing}
use Rattle.command_line.specs.Files.{LoadsFile}
use Rattle.command_line.specs.StoreTasks.{Loads, LoadsEdit, LoadsImport, RulesAfter, import_edit, most_imported}
use Rattle.command_line.specs.declared.outside.Outside.{Outside}

module _ {J O E S D M : Type 0} (s : Shelves S D) (what : Importing) (day : Day)
    (Then : List ℕ → Request → Day → Outside J O E S M → Outside J O E S M → Result (List ℕ) Refusal → Type 0) (old last : Outside J O E S M) (r : Result (List ℕ) Refusal) where
  -- what came of the edit, or why there is none
  abbrev Comes : S → Result StoreEdit Refusal → Type 0
  Comes shelf (Ok edit) = Then edit.store edit.request edit.day (record old { shelf = shelf }) last r
  Comes shelf (Err x) = (r ≡ Err x) × (last ≡ record old { shelf = shelf })

  rules_by : (csv : List ℕ) (mid shelf : S) (edit : Result StoreEdit Refusal) (read : Result (List ℕ) Refusal) → LoadsFile s most_imported what.rules mid shelf read
      → edit ≡ import_edit what day csv read → Comes shelf edit
      → Loads s most_imported what.rules (λ rules. Then what.store (request.Import what.name rules csv) day) (record old { shelf = mid }) last r
  rules_by csv mid shelf edit (Ok rules) loads is comes = record {
    mid = shelf;
    read = Ok rules;
    reads = loads;
    goes = subst (λ (x : Result StoreEdit Refusal). Comes shelf x) is comes;
  }
  rules_by csv mid shelf edit (Err x) loads is comes = record {
    mid = shelf;
    read = Err x;
    reads = loads;
    goes = subst (λ (y : Result StoreEdit Refusal). Comes shelf y) is comes;
  }

  file_by : (mid shelf : S) (edit : Result StoreEdit Refusal) (read : Result (List ℕ) Refusal) → LoadsFile s most_imported what.file old.shelf mid read
      → RulesAfter s what day read mid shelf edit → Comes shelf edit → LoadsImport s what day Then old last r
  file_by mid shelf edit (Ok csv) loads rules comes = record {
    mid = mid;
    read = Ok csv;
    reads = loads;
    goes = rules_by csv mid shelf edit rules.read rules.reads rules.is comes;
  }
  file_by mid shelf edit (Err x) loads rules comes = record {
    mid = mid;
    read = Err x;
    reads = loads;
    goes = subst (λ (z : S). (r ≡ Err x) × (last ≡ record old { shelf = z })) rules.1 (subst (λ (y : Result StoreEdit Refusal). Comes shelf y) rules.0 comes);
  }

  pub imports_so : (shelf : S) (edit : Result StoreEdit Refusal) → LoadsEdit s what day old.shelf shelf edit → Comes shelf edit → LoadsImport s what day Then old last r
  imports_so shelf edit loads comes = file_by loads.mid shelf edit loads.read loads.reads loads.rules comes
