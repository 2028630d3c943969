-- Why a bank's file becomes no entries by a text of rules.
use Rattle.std.specs.Prelude.{◌≡◌, ◌⊎◌, ℕ, Bool, true, false, List, Option, Some, None, Result, Ok, Err}
use Rattle.hl_base.specs.declared.fault.Memory.{Memory}
use Rattle.book.specs.declared.transaction.Txn.{Txn}
use Rattle.query_terms.specs.Making.{Stays}
use Rattle.csv_rules.specs.Reading.{IsRefusedLine, IsRulesOf, Reads}
use Rattle.csv_rules.specs.declared.faults.RulesFault.{RulesFault}
use Rattle.csv_rules.specs.declared.faults.RulesFault.TheVariants as rules_fault
use Rattle.csv_rules.specs.declared.reading.Rules.{Rules}
use Rattle.csv_entries.specs.Conversion.{conversion_by}
use Rattle.csv_entries.specs.declared.faults.ConvertFault.{ConvertFault}
use Rattle.csv_entries.specs.declared.faults.ConvertFault.TheVariants as faults
use Rattle.bank_explanations.specs.Explained.{explained, rules_explained}
use Rattle.bank_explanations.specs.declared.files.Explanation.{Explanation}
use Rattle.bank_explanations.specs.declared.files.Explanation.TheVariants as explanation

abbrev pub is_rules_memory : RulesFault → Bool
is_rules_memory rules_fault.Memory = true
is_rules_memory _ = false

abbrev pub is_memory : ConvertFault → Bool
is_memory faults.Memory = true
is_memory _ = false

-- ---- a fault that is given

-- it is one of a line of the rules, and explained so
abbrev pub ExplainsRules : List ℕ → RulesFault → Option Explanation → Type 0
ExplainsRules rules fault found =
    (is_rules_memory fault ≡ false) × (found ≡ Some (explanation.Rules fault (rules_explained rules fault)))

-- it is one of a record, and explained so
abbrev pub ExplainsRecord : Rules → List ℕ → ConvertFault → Option Explanation → Type 0
ExplainsRecord rules csv fault found = (is_memory fault ≡ false) × (found ≡ Some (explanation.Record fault (explained rules csv fault)))

-- ---- a file

-- by rules that were read it becomes entries, or one of its records is the first that is refused
abbrev pub FindsRecord : Rules → List ℕ → Option Explanation → Type 0
FindsRecord rules csv None = (txns : List Txn) × (conversion_by rules csv ≡ Ok txns)
FindsRecord rules csv (Some (explanation.Rules fault lines)) = ⊥
FindsRecord rules csv (Some (explanation.Record fault lines)) = (conversion_by rules csv ≡ Err fault) × (lines ≡ explained rules csv fault)

-- the same by the rules that a text is
pub record FindsRead (rules csv : List ℕ) (found : Option Explanation) : Type 0 where
  pub read : Rules
  pub is : IsRulesOf rules read
  pub finds : FindsRecord read csv found

-- A line of the rules is refused, or its pattern by the maker, and explained so.
pub record RefusesRules (rules : List ℕ) (before now : ℕ) (last_before last_now : Option (List ℕ)) (fault : RulesFault) (lines : List ℕ) : Type 0 where
  pub reads : Reads rules before now last_before last_now (Err fault)
  pub kind : is_rules_memory fault ≡ false
  pub is : lines ≡ rules_explained rules fault

-- What is wrong with a file: a line of its rules is refused; or the text is rules, by which the file becomes entries, or one of
-- its records is the first that is refused. Each fault is explained. What the maker tells changes only where it refused the
-- pattern of a line.
abbrev pub ExplainsFile : List ℕ → List ℕ → ℕ → ℕ → Option (List ℕ) → Option (List ℕ) → Result (Option Explanation) Memory → Type 0
ExplainsFile rules csv before now last_before last_now (Ok None) = FindsRead rules csv None × Stays before now last_before last_now
ExplainsFile rules csv before now last_before last_now (Ok (Some (explanation.Rules fault lines))) =
    RefusesRules rules before now last_before last_now fault lines
ExplainsFile rules csv before now last_before last_now (Ok (Some (explanation.Record fault lines))) =
    FindsRead rules csv (Some (explanation.Record fault lines)) × Stays before now last_before last_now
ExplainsFile rules csv before now last_before last_now (Err memory) =
    Stays before now last_before last_now ⊎ ((line : ℕ) × IsRefusedLine rules line before now last_now)
