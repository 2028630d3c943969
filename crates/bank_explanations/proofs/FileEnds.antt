-- Why a file becomes no entries, from what its parts answer.
use Rattle.std.proofs.Common.{◌≡◌, ◌⊎◌, inl, inr, ℕ, false, List, Option, Some, None, IfOk, IfSome, Result, Ok, Err, refl, sym, ap, subst}
use Rattle.std.proofs.lemmas.Bool.{false≢true}
use Rattle.hl_base.specs.declared.fault.Memory.{Memory}
use Rattle.query_terms.specs.Making.{Stays}
use Rattle.csv_rules.specs.Reading.{IsRefusedLine, Reads}
use Rattle.csv_rules.specs.declared.faults.RulesFault.{RulesFault}
use Rattle.csv_rules.specs.declared.faults.RulesFault.TheVariants as rules_fault
use Rattle.csv_rules.specs.declared.reading.Rules.{Rules}
use Rattle.csv_entries.specs.Conversion.{cause_in, conversion_by}
use Rattle.csv_entries.specs.declared.faults.ConvertFault.{ConvertFault}
use Rattle.csv_entries.specs.declared.faults.ConvertFault.TheVariants as faults
use Rattle.bank_explanations.specs.Explained.{explained, rules_explained}
use Rattle.bank_explanations.specs.FileFaults.{ExplainsFile, ExplainsRecord, ExplainsRules, FindsRecord, is_memory, is_rules_memory}
use Rattle.bank_explanations.specs.declared.files.Explanation.{Explanation}
use Rattle.bank_explanations.specs.declared.files.Explanation.TheVariants as explanation

-- ---- a fault that is given

pub rules_said : (rules : List ℕ) (fault : RulesFault) (lines : List ℕ) → is_rules_memory fault ≡ false → lines ≡ rules_explained rules fault
    → ExplainsRules rules fault (Some (explanation.Rules fault lines))
rules_said rules fault lines other is = (other, ap (λ (l : List ℕ). Some (explanation.Rules fault l)) is)

pub record_said : (rules : Rules) (csv : List ℕ) (fault : ConvertFault) (lines : List ℕ) → is_memory fault ≡ false → lines ≡ explained rules csv fault
    → ExplainsRecord rules csv fault (Some (explanation.Record fault lines))
record_said rules csv fault lines other is = (other, ap (λ (l : List ℕ). Some (explanation.Record fault l)) is)

-- ---- a record

record_is : (rules : Rules) (csv : List ℕ) (fault : ConvertFault) → IfSome (cause_in fault) (λ f. conversion_by rules csv ≡ Err f) → is_memory fault ≡ false
    → conversion_by rules csv ≡ Err fault
record_is rules csv (faults.BadRecord n) told other = told
record_is rules csv (faults.NoDate n) told other = told
record_is rules csv (faults.NoAmount n) told other = told
record_is rules csv (faults.TwoAmounts n) told other = told
record_is rules csv (faults.CsvRefused n) told other = told
record_is rules csv faults.Memory told other = absurd (false≢true (sym other))

record_found : (rules : Rules) (csv : List ℕ) (fault : ConvertFault) (found : Option Explanation) → IfSome (cause_in fault) (λ f. conversion_by rules csv ≡ Err f)
    → ExplainsRecord rules csv fault found → FindsRecord rules csv found
record_found rules csv fault found told is =
    subst (λ (x : Option Explanation). FindsRecord rules csv x) (sym is.1) (record_is rules csv fault told is.0, refl)

pub unconverted : (rules : Rules) (csv : List ℕ) (fault : ConvertFault) (result : Result (Option Explanation) Memory)
    → IfSome (cause_in fault) (λ f. conversion_by rules csv ≡ Err f) → IfOk result (ExplainsRecord rules csv fault) → IfOk result (FindsRecord rules csv)
unconverted rules csv fault (Ok found) told is = record_found rules csv fault found told is
unconverted rules csv fault (Err memory) told is = tt

-- ---- a text of rules

module _ (rules csv : List ℕ) (before now : ℕ) (last_before last_now : Option (List ℕ)) where
  -- it is rules
  pub read_so : (read : Rules) (result : Result (Option Explanation) Memory) → Reads rules before now last_before last_now (Ok read) → IfOk result (FindsRecord read csv)
      → ExplainsFile rules csv before now last_before last_now result
  read_so read (Ok None) is found = (record { read = read; is = is.0; finds = found }, is.1)
  read_so read (Ok (Some (explanation.Rules fault lines))) is found = absurd found
  read_so read (Ok (Some (explanation.Record fault lines))) is found = (record { read = read; is = is.0; finds = found }, is.1)
  read_so read (Err memory) is found = inl is.1

  -- what the maker tells of rules that are refused
  maker_tells : (fault : RulesFault) → Reads rules before now last_before last_now (Err fault)
      → Stays before now last_before last_now ⊎ ((line : ℕ) × IsRefusedLine rules line before now last_now)
  maker_tells (rules_fault.BadRule line) is = inl is.1
  maker_tells (rules_fault.PatternRefused line) is = inr (line, is)
  maker_tells rules_fault.Memory is = inl is

  rules_found : (fault : RulesFault) (found : Option Explanation) → Reads rules before now last_before last_now (Err fault) → ExplainsRules rules fault found
      → ExplainsFile rules csv before now last_before last_now (Ok found)
  rules_found fault found reads is =
      subst (λ (x : Option Explanation). ExplainsFile rules csv before now last_before last_now (Ok x)) (sym is.1) (record { reads = reads; kind = is.0; is = refl })

  -- it is none
  pub unread_so : (fault : RulesFault) (result : Result (Option Explanation) Memory) → Reads rules before now last_before last_now (Err fault)
      → IfOk result (ExplainsRules rules fault) → ExplainsFile rules csv before now last_before last_now result
  unread_so fault (Ok found) reads is = rules_found fault found reads is
  unread_so fault (Err memory) reads is = maker_tells fault reads
