-- Automated rules that are read one after another.
use Rattle.std.specs.Prelude.{◌≡◌, ℕ, List, ◌++◌, Option, Result, Ok, Err}
use Rattle.book.specs.declared.rules.AutoRule.{AutoRule}
use Rattle.query.specs.Made.{IsPatternRefused}
use Rattle.query.specs.declared.faults.QueryFault.{QueryFault}
use Rattle.query.specs.declared.faults.QueryFault.TheVariants as query_fault
use Rattle.query_terms.specs.Making.{Stays}
use Rattle.query_terms.specs.Reading.{terms_of}
use Rattle.generated.specs.Queries.{AreRead, IsRead}
use Rattle.generated.specs.Rules.{IsRefusedRule, read_rules}
use Rattle.generated.specs.declared.fault.GenFault.{GenFault}
use Rattle.generated.specs.declared.fault.GenFault.TheVariants as gen_fault
use Rattle.generated.specs.declared.rules.RuleQuery.{RuleQuery}

-- why the rule at a line has no query
abbrev pub fault_at : ℕ → QueryFault → GenFault
fault_at line (query_fault.BadTerm word) = gen_fault.BadTerm line
fault_at line (query_fault.PatternRefused word) = gen_fault.PatternRefused line
fault_at line query_fault.Memory = gen_fault.Memory

-- a rule has its query, or why it has none
abbrev pub ReadsOne : ℕ → AutoRule → ℕ → ℕ → Option (List ℕ) → Option (List ℕ) → Result RuleQuery GenFault → Type 0
ReadsOne day rule before now last_before last_now (Ok read) =
    (read.rule.now ≡ rule) × (IsRead day read × Stays before now last_before last_now)
ReadsOne day rule before now last_before last_now (Err gen_fault.Memory) = Stays before now last_before last_now
ReadsOne day rule before now last_before last_now (Err (gen_fault.BadTerm line)) =
    (rule.line ≡ line) × (((word : List ℕ) × (terms_of day rule.words ≡ Err word)) × Stays before now last_before last_now)
ReadsOne day rule before now last_before last_now (Err (gen_fault.PatternRefused line)) =
    (rule.line ≡ line) × ((word : List ℕ) × IsPatternRefused day rule.words word before now last_now)
ReadsOne day rule before now last_before last_now (Err _) = ⊥

-- further rules are read behind others, or why the first of them that isn't read isn't
abbrev pub ReadsMore : ℕ → List AutoRule → List RuleQuery → ℕ → ℕ → Option (List ℕ) → Option (List ℕ) → List RuleQuery → Result (Unit {0}) GenFault → Type 0
ReadsMore day rules old before now last_before last_now new (Ok done) =
    ((earlier : List AutoRule) → AreRead day earlier old → AreRead day (earlier ++ rules) new) × Stays before now last_before last_now
ReadsMore day rules old before now last_before last_now new (Err gen_fault.Memory) = Stays before now last_before last_now
ReadsMore day rules old before now last_before last_now new (Err (gen_fault.BadTerm line)) =
    ((earlier later : List AutoRule) → AreRead day earlier old → read_rules day (earlier ++ (rules ++ later)) ≡ Err line)
    × Stays before now last_before last_now
ReadsMore day rules old before now last_before last_now new (Err (gen_fault.PatternRefused line)) =
    (earlier later : List AutoRule) → AreRead day earlier old → IsRefusedRule day (earlier ++ (rules ++ later)) line before now last_now
ReadsMore day rules old before now last_before last_now new (Err _) = ⊥
