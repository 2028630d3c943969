-- Refused patterns along the entries of a maker.
use Rattle.std.proofs.Common.{◌≡◌, inl, inr, ℕ, ◌+◌, ◌-◌, ◌≤◌, Bool, true, false, cond, if◌then◌else◌, List, [], ◌∷◌, length, Option, subst, arith}
use Rattle.std.specs.Prelude.{filter}
use Rattle.hl_base.specs.Causes.{Rose}
use Rattle.csv_rules.specs.declared.faults.RulesFault.{RulesFault}
use Rattle.csv_rules.specs.declared.faults.RulesFault.TheVariants as rules_fault
use Rattle.generated.specs.declared.fault.GenFault.{GenFault}
use Rattle.generated.specs.declared.fault.GenFault.TheVariants as gen_fault
use Rattle.plan_commands.specs.declared.fault.PlanFault.{PlanFault}
use Rattle.plan_commands.specs.declared.fault.PlanFault.TheVariants as plan_fault
use Rattle.query_terms.specs.Making.{Stays}
use Rattle.report_commands.specs.Patterns.{TellsFault}
use Rattle.report_commands.specs.declared.fault.WordsFault.{WordsFault}
use Rattle.report_commands.specs.declared.fault.WordsFault.TheVariants as words_fault
use Rattle.desk.specs.declared.csv_fault.CsvFault.{CsvFault}
use Rattle.desk.specs.declared.csv_fault.CsvFault.TheVariants as csv_fault
use Rattle.desk.specs.declared.reply.Reply.{Reply}
use Rattle.desk.specs.declared.reply.Reply.TheVariants as reply
use Rattle.desk.specs.declared.request.Request.{Request}
use Rattle.desk.specs.Entries.{Entry}
use Rattle.desk.specs.Steps.{TellsFile, TellsMade, TellsPlan, TellsReply, TellsRules, rules_in}
use Rattle.web_desk.specs.Makers.{TellsEntries}
use Rattle.shared_desk.specs.Histories.{RoseBy, pattern_refusals, refuses_file, refuses_made, refuses_pattern, refuses_plan, refuses_rules, refuses_words}

-- a count that doesn't fall, and rose by so many
record Rises (before now by : ℕ) : Type 0 where
  later : before ≤ now
  rose : RoseBy before now by

-- one more, where this is so
abbrev one_where : Bool → ℕ
one_where b = if b then 1 else 0

stay : (before now : ℕ) (last_before last_now : Option (List ℕ)) → Stays before now last_before last_now → Rises before now 0
stay before now last_before last_now s =
    let same = s.count in record { later = omega (arith, same); rose = inl (omega (arith, same)) }

rose_one : (before now : ℕ) → before ≤ now → Rose before now → Rises before now 1
rose_one before now later (inl less) = record { later = later; rose = inl (omega (arith, less)) }
rose_one before now later (inr last) = record { later = later; rose = inr (omega (arith, last)) }

told_words : (day before now : ℕ) (last_before last_now : Option (List ℕ)) (fault : WordsFault) → TellsFault day before now last_before last_now fault
    → Rises before now (one_where (refuses_words fault))
told_words day before now last_before last_now (words_fault.NoCommand word) s = stay before now last_before last_now s
told_words day before now last_before last_now (words_fault.BadOption word) s = stay before now last_before last_now s
told_words day before now last_before last_now (words_fault.Conflict a b) s = stay before now last_before last_now s
told_words day before now last_before last_now (words_fault.BadTerm word) s = stay before now last_before last_now s
told_words day before now last_before last_now (words_fault.PatternRefused word) s = rose_one before now s.later s.rose
told_words day before now last_before last_now (words_fault.Report fault) s = stay before now last_before last_now s
told_words day before now last_before last_now words_fault.Memory s = stay before now last_before last_now s

told_made : (before now : ℕ) (last_before last_now : Option (List ℕ)) (fault : GenFault) → TellsMade before now last_before last_now fault
    → Rises before now (one_where (refuses_made fault))
told_made before now last_before last_now (gen_fault.Journal fault) s = stay before now last_before last_now s
told_made before now last_before last_now (gen_fault.BadTerm line) s = stay before now last_before last_now s
told_made before now last_before last_now (gen_fault.PatternRefused line) s = rose_one before now s.1.later s.1.rose
told_made before now last_before last_now (gen_fault.TooMany count limit) s = stay before now last_before last_now s
told_made before now last_before last_now gen_fault.Memory s = stay before now last_before last_now s

told_plan : (day before now : ℕ) (last_before last_now : Option (List ℕ)) (fault : PlanFault) → TellsPlan day before now last_before last_now fault
    → Rises before now (one_where (refuses_plan fault))
told_plan day before now last_before last_now (plan_fault.Words fault) s = told_words day before now last_before last_now fault s
told_plan day before now last_before last_now (plan_fault.Generated fault) s = told_made before now last_before last_now fault s
told_plan day before now last_before last_now plan_fault.Memory s = stay before now last_before last_now s

told_rules : (rules : List ℕ) (before now : ℕ) (last_before last_now : Option (List ℕ)) (fault : RulesFault)
    → TellsRules rules before now last_before last_now fault → Rises before now (one_where (refuses_rules fault))
told_rules rules before now last_before last_now (rules_fault.BadRule line) s = stay before now last_before last_now s
told_rules rules before now last_before last_now (rules_fault.PatternRefused line) s =
    rose_one before now s.refusal.later s.refusal.rose
told_rules rules before now last_before last_now rules_fault.Memory s = stay before now last_before last_now s

told_file : (rules : List ℕ) (before now : ℕ) (last_before last_now : Option (List ℕ)) (fault : CsvFault)
    → TellsFile rules before now last_before last_now fault → Rises before now (one_where (refuses_file fault))
told_file rules before now last_before last_now (csv_fault.Rules fault) s = told_rules rules before now last_before last_now fault s
told_file rules before now last_before last_now (csv_fault.Convert fault) s = stay before now last_before last_now s

told_one : (q : Request) (day before now : ℕ) (last_before last_now : Option (List ℕ)) (r : Reply) → TellsReply q day before now last_before last_now r
    → Rises before now (one_where (refuses_pattern r))
told_one q day before now last_before last_now (reply.Words fault) s = told_plan day before now last_before last_now fault s
told_one q day before now last_before last_now (reply.Csv fault) s = told_file (rules_in q) before now last_before last_now fault s
told_one q day before now last_before last_now (reply.Done revision) s = stay before now last_before last_now s
told_one q day before now last_before last_now (reply.Same revision) s = stay before now last_before last_now s
told_one q day before now last_before last_now (reply.Text revision bytes) s = stay before now last_before last_now s
told_one q day before now last_before last_now (reply.Forbidden need have) s = stay before now last_before last_now s
told_one q day before now last_before last_now (reply.Stale base current) s = stay before now last_before last_now s
told_one q day before now last_before last_now (reply.BadBase base current) s = stay before now last_before last_now s
told_one q day before now last_before last_now (reply.NoSuchItem n count) s = stay before now last_before last_now s
told_one q day before now last_before last_now (reply.NotTransactions line) s = stay before now last_before last_now s
told_one q day before now last_before last_now (reply.Load fault) s = stay before now last_before last_now s
told_one q day before now last_before last_now (reply.TooLarge limit size) s = stay before now last_before last_now s
told_one q day before now last_before last_now (reply.DiskFault faults faults_now) s = stay before now last_before last_now s
told_one q day before now last_before last_now (reply.Full size limit) s = stay before now last_before last_now s
told_one q day before now last_before last_now reply.Memory s = stay before now last_before last_now s

rose_on : (a b c n m : ℕ) → RoseBy a b n → b ≤ c → RoseBy b c m → RoseBy a c (n + m)
rose_on a b c n m (inl one) le (inl more) = inl (omega (arith, one, more))
rose_on a b c n m (inl one) le (inr last) = inr last
rose_on a b c n m (inr last) le more = inr (omega (arith, last, le))

rises_on : (a b c n m : ℕ) → Rises a b n → Rises b c m → Rises a c (n + m)
rises_on a b c n m p q =
    let first = p.later in
    let second = q.later in
    record { later = omega (arith, first, second); rose = rose_on a b c n m p.rose q.later q.rose }

-- one entry and others
with_one : (b : Bool) (entry : Entry) (those : List Entry) → one_where b + length those ≡ length (cond b (entry ∷ those) those)
with_one true entry those = omega arith
with_one false entry those = omega arith

rises_all : (before now : ℕ) (last_before last_now : Option (List ℕ)) (entries : List Entry) → TellsEntries before now last_before last_now entries
    → Rises before now (pattern_refusals entries)
rises_all before now last_before last_now [] tells = stay before now last_before last_now tells
rises_all before now last_before last_now (entry ∷ entries) tells =
    let mid : ℕ = tells.0 in
    let first = told_one entry.request entry.day.0 before mid last_before tells.1 entry.reply tells.2 in
    let rest = rises_all mid now tells.1 last_now entries tells.3 in
    subst (λ (n : ℕ). Rises before now n)
    (with_one (refuses_pattern entry.reply) entry (filter (λ (e : Entry). refuses_pattern e.reply) entries))
    (rises_on before mid now (one_where (refuses_pattern entry.reply)) (pattern_refusals entries) first rest)

pub counted : (before now : ℕ) (last_before last_now : Option (List ℕ)) (entries : List Entry) → TellsEntries before now last_before last_now entries
    → RoseBy before now (pattern_refusals entries)
counted before now last_before last_now entries tells = (rises_all before now last_before last_now entries tells).rose
