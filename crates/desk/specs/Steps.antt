-- One step of the machine: from a state and its disks' count of faults, a request may be given a reply, and leave a state and a
-- count.
use Rattle.std.specs.Prelude.{◌≡◌, ◌⊎◌, ℕ, ◌+◌, ◌^◌, ◌-◌, min, Bool, true, false, List, [], Option, Some, None, if◌then◌else◌}
use Rattle.hl_base.specs.Causes.{Rose}
use Rattle.text_store.specs.declared.image.Image.{Image}
use Rattle.csv_rules.specs.declared.faults.RulesFault.{RulesFault}
use Rattle.csv_rules.specs.declared.faults.RulesFault.TheVariants as rules_fault
use Rattle.csv_rules.specs.Reading.{IsRefusedLine}
use Rattle.desk.specs.declared.csv_fault.CsvFault.{CsvFault}
use Rattle.desk.specs.declared.csv_fault.CsvFault.TheVariants as csv_fault
use Rattle.desk.specs.declared.deed.Deed.{Deed}
use Rattle.desk.specs.declared.request.Request.{Request}
use Rattle.desk.specs.declared.request.Request.TheVariants as request
use Rattle.desk.specs.declared.reply.Reply.{Reply}
use Rattle.desk.specs.declared.reply.Reply.TheVariants as reply
use Rattle.query.specs.Building.{IsOneOf}
use Rattle.generated.specs.declared.fault.GenFault.{GenFault}
use Rattle.generated.specs.declared.fault.GenFault.TheVariants as gen_fault
use Rattle.query_terms.specs.Making.{IsRefusal, Stays as MakerStays}
use Rattle.report_commands.specs.Patterns.{TellsFault}
use Rattle.plan_commands.specs.declared.fault.PlanFault.{PlanFault}
use Rattle.plan_commands.specs.declared.fault.PlanFault.TheVariants as plan_fault
use Rattle.desk.specs.States.{State, Answer, answer_to, change_of, deed_in, image_of, record_size, size_before}

abbrev pub is_done : Reply → Bool
is_done (reply.Done revision) = true
is_done other = false

abbrev pub is_fault : Reply → Bool
is_fault (reply.DiskFault before after) = true
is_fault other = false

-- the reply says that words make no report, or that a file becomes no entries
abbrev pub is_words : Reply → Bool
is_words (reply.Words fault) = true
is_words (reply.Csv fault) = true
is_words other = false

-- the size of the store before the record of an edit, which may have been written anew
abbrev pub size_for : State → Option Deed → ℕ
size_for s None = s.size
size_for s (Some d) = size_before s (record_size (change_of s.text d))

-- the state stays; but where that was due before the edit, the store may have been written anew
abbrev pub Stays : State → Option Deed → State → Type 0
Stays old d new = (new ≡ old) ⊎ (new ≡ record old { size = size_for old d })

-- The reply and the state are those of an answer, and the count stays. Or memory ran out, and the count stays. Or, of an edit
-- that would stand, a disk failed, and the reply has the counts before and after, of which the second is greater. Or the reply
-- is another of the answer's, and the state and the count stay.
abbrev pub Gives : Answer → Option Deed → State → ℕ → Reply → State → ℕ → Type 0
Gives answer d old before r new after =
    ((r ≡ answer.reply) × (new ≡ answer.state) × (after ≡ before))
    ⊎ (((r ≡ reply.Memory) × Stays old d new × (after ≡ before))
    ⊎ (((r ≡ reply.DiskFault before after) × (is_done answer.reply ≡ true) × Rose before after × Stays old d new)
    ⊎ (IsOneOf r answer.others × (new ≡ old) × (after ≡ before))))

-- One step of the machine, on a day.
abbrev pub Step : State → ℕ → ℕ → Request → Reply → State → ℕ → Type 0
Step old before day q r new after = Gives (answer_to old day q) (deed_in old q) old before r new after

-- the rules of an import or its preview
abbrev pub rules_in : Request → List ℕ
rules_in (request.Import name rules csv) = rules
rules_in (request.Preview name rules csv) = rules
rules_in other = []

-- what the maker of patterns tells stays, but where that of a line is refused
abbrev pub TellsRules : List ℕ → ℕ → ℕ → Option (List ℕ) → Option (List ℕ) → RulesFault → Type 0
TellsRules rules before now last_before last_now (rules_fault.PatternRefused line) = IsRefusedLine rules line before now last_now
TellsRules rules before now last_before last_now other = MakerStays before now last_before last_now

abbrev pub TellsFile : List ℕ → ℕ → ℕ → Option (List ℕ) → Option (List ℕ) → CsvFault → Type 0
TellsFile rules before now last_before last_now (csv_fault.Rules fault) = TellsRules rules before now last_before last_now fault
TellsFile rules before now last_before last_now (csv_fault.Convert fault) = MakerStays before now last_before last_now

-- what it tells stays, but where that of a rule of the text is refused
abbrev pub TellsMade : ℕ → ℕ → Option (List ℕ) → Option (List ℕ) → GenFault → Type 0
TellsMade before now last_before last_now (gen_fault.PatternRefused line) = (pattern : List ℕ) × IsRefusal before now last_now pattern
TellsMade before now last_before last_now other = MakerStays before now last_before last_now

abbrev pub TellsPlan : ℕ → ℕ → ℕ → Option (List ℕ) → Option (List ℕ) → PlanFault → Type 0
TellsPlan day before now last_before last_now (plan_fault.Words fault) = TellsFault day before now last_before last_now fault
TellsPlan day before now last_before last_now (plan_fault.Generated fault) = TellsMade before now last_before last_now fault
TellsPlan day before now last_before last_now plan_fault.Memory = MakerStays before now last_before last_now

-- What it tells stays, but where the reply is that a pattern of the request's words or rules, or of the text's rules, is
-- refused.
abbrev pub TellsReply : Request → ℕ → ℕ → ℕ → Option (List ℕ) → Option (List ℕ) → Reply → Type 0
TellsReply q day before now last_before last_now (reply.Words fault) = TellsPlan day before now last_before last_now fault
TellsReply q day before now last_before last_now (reply.Csv fault) = TellsFile (rules_in q) before now last_before last_now fault
TellsReply q day before now last_before last_now other = MakerStays before now last_before last_now

-- Where no call of the disks failed and no pattern was refused, the reply is the answer's, or memory ran out.
abbrev pub Completes : Answer → ℕ → ℕ → ℕ → ℕ → Reply → Type 0
Completes answer faults faults_now refusals refusals_now r =
    (Rose faults faults_now → ⊥) → (Rose refusals refusals_now → ⊥) → (r ≡ reply.Memory) ⊎ (r ≡ answer.reply)

-- the image of the state that an answer makes, where it is an edit that stands
abbrev pub next_of : Answer → Option Image
next_of answer = if is_done answer.reply then Some (image_of answer.state) else None

-- one of the replies that aren't refusals
abbrev pub is_granted : Reply → Bool
is_granted (reply.Done revision) = true
is_granted (reply.Same revision) = true
is_granted (reply.Text revision bytes) = true
is_granted other = false

-- a count after one more, which stays at its last value
abbrev pub one_more : ℕ → ℕ
one_more n = min (n + 1) (2 ^ 64 - 1)

-- the requests so far, and those that were refused
abbrev pub counted : ℕ × ℕ → Reply → ℕ × ℕ
counted counts r = (one_more counts.0, if is_granted r then counts.1 else one_more counts.1)
