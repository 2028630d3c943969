-- Automated rules with the queries that were made of their words.
use Rattle.std.specs.Prelude.{◌≡◌, ℕ, List, map, Option, Result, Ok, Err}
use Rattle.std.specs.List.{AllByRecursion}
use Rattle.book.specs.declared.rules.AutoRule.{AutoRule}
use Rattle.query.specs.Made.{IsQueryOf}
use Rattle.query_terms.specs.Making.{Stays}
use Rattle.generated.specs.Alone.{ask_accounts}
use Rattle.generated.specs.Rules.{Asked, IsRefusedRule, read_rules}
use Rattle.generated.specs.declared.fault.GenFault.{GenFault}
use Rattle.generated.specs.declared.fault.GenFault.TheVariants as gen_fault
use Rattle.generated.specs.declared.rules.RuleQuery.{RuleQuery}

-- the query is that of the rule's words, and it is told whether these ask for accounts alone
pub record IsRead (day : ℕ) (read : RuleQuery) : Type 0 where
  pub query : IsQueryOf day read.rule.now.words read.query
  pub alone : read.alone ≡ ask_accounts day read.rule.now.words

abbrev pub asked_by : RuleQuery → Asked
asked_by read = record { terms = read.query.terms.items; postings = read.rule.now.postings }

-- queries were made of some rules
pub record AreRead (day : ℕ) (rules : List AutoRule) (reads : List RuleQuery) : Type 0 where
  pub kept : map (λ (read : RuleQuery). read.rule.now) reads ≡ rules
  pub queries : AllByRecursion (IsRead day) reads

-- Queries were made of some rules, or why not. What the maker tells stays but where it refused a pattern.
abbrev pub Reads : ℕ → List AutoRule → ℕ → ℕ → Option (List ℕ) → Option (List ℕ) → Result (List RuleQuery) GenFault → Type 0
Reads day rules before now last_before last_now (Ok reads) = AreRead day rules reads × Stays before now last_before last_now
Reads day rules before now last_before last_now (Err gen_fault.Memory) = Stays before now last_before last_now
Reads day rules before now last_before last_now (Err (gen_fault.BadTerm line)) = (read_rules day rules ≡ Err line) × Stays before now last_before last_now
Reads day rules before now last_before last_now (Err (gen_fault.PatternRefused line)) = IsRefusedRule day rules line before now last_now
Reads day rules before now last_before last_now (Err _) = ⊥
