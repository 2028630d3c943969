-- Other replies than a step's own come only where a count rose, or memory ran out.
use Rattle.std.proofs.Common.{inl, inr, ℕ, List, [], ◌∷◌, ◌++◌, map, Option, Some, None, subst, sym}
use Rattle.hl_base.specs.Causes.{Rose}
use Rattle.live_journal.specs.Loading.{first_of}
use Rattle.live_journal.specs.declared.edit.Edit.TheVariants as edits
use Rattle.query.specs.Building.{IsOneOf}
use Rattle.desk.specs.declared.deed.Deed.{Deed}
use Rattle.desk.specs.declared.reply.Reply.{Reply}
use Rattle.desk.specs.declared.request.Allow.TheVariants as allow
use Rattle.desk.specs.declared.request.Request.{Request}
use Rattle.desk.specs.declared.request.Request.TheVariants as request
use Rattle.desk.specs.Imports.{entries_of, pattern_lines}
use Rattle.desk.specs.Reports.{refusable_lines, refusable_words}
use Rattle.desk.specs.States.{Answer, State, answer_to, file_answer, forbidden, or_replies, plain, refusals, refused_line, refused_pattern, refused_rule, unless_forbidden}
use Rattle.desk.specs.Steps.{Completes, Gives, TellsReply}
use Rattle.desk.proofs.Quiet.{no_others}

module _ (q : Request) (day before now : ℕ) (last_before last_now : Option (List ℕ)) where
  rule_rose : (lines : List ℕ) (r : Reply) → IsOneOf r (map refused_rule lines) → TellsReply q day before now last_before last_now r → Rose before now
  rule_rose [] r among tells = absurd among
  rule_rose (line ∷ lines) r (inl is) tells = (subst (λ (x : Reply). TellsReply q day before now last_before last_now x) (sym is) tells).1.rose
  rule_rose (line ∷ lines) r (inr more) tells = rule_rose lines r more tells

  word_rose : (words : List (List ℕ)) (lines : List ℕ) (r : Reply) → IsOneOf r (map refused_pattern words ++ map refused_rule lines)
      → TellsReply q day before now last_before last_now r → Rose before now
  word_rose [] lines r among tells = rule_rose lines r among tells
  word_rose (word ∷ words) lines r (inl is) tells = (subst (λ (x : Reply). TellsReply q day before now last_before last_now x) (sym is) tells).rose
  word_rose (word ∷ words) lines r (inr more) tells = word_rose words lines r more tells

  line_rose : (lines : List ℕ) (r : Reply) → IsOneOf r (map refused_line lines) → TellsReply q day before now last_before last_now r → Rose before now
  line_rose [] r among tells = absurd among
  line_rose (line ∷ lines) r (inl is) tells = (subst (λ (x : Reply). TellsReply q day before now last_before last_now x) (sym is) tells).refusal.rose
  line_rose (line ∷ lines) r (inr more) tells = line_rose lines r more tells

  import_rose : (s : State) (o : Option Reply) (lines : List ℕ) (answer : Answer) (r : Reply)
      → IsOneOf r (unless_forbidden s o (or_replies (map refused_line lines) answer)).others → TellsReply q day before now last_before last_now r → Rose before now
  import_rose s None lines answer r among tells = line_rose lines r among tells
  import_rose s (Some x) lines answer r among tells = absurd among

-- another reply than the answer's own comes with a refused pattern
others_rose : (q : Request) (day before now : ℕ) (last_before last_now : Option (List ℕ)) (s : State) (r : Reply)
    → IsOneOf r (answer_to s day q).others → TellsReply q day before now last_before last_now r → Rose before now
unfolding answer_to
others_rose (request.Report words) day before now last_before last_now s r among tells = word_rose (request.Report words) day before now last_before last_now (refusable_words day words) (refusable_lines day None s.text words) r among tells
others_rose request.Download day before now last_before last_now s r among tells = absurd among
others_rose (request.Add entry) day before now last_before last_now s r among tells =
    absurd (no_others s (plain (edits.Add entry)) (first_of (refusals s allow.Add (plain (edits.Add entry)))) r among)
others_rose (request.Change base item entry) day before now last_before last_now s r among tells =
    absurd (no_others s (plain (edits.Change base item entry)) (first_of (refusals s allow.Edit (plain (edits.Change base item entry)))) r among)
others_rose (request.Replace base text) day before now last_before last_now s r among tells =
    absurd (no_others s (plain (edits.Replace base text)) (first_of (refusals s allow.Edit (plain (edits.Replace base text)))) r among)
others_rose (request.Import name rules csv) day before now last_before last_now s r among tells =
    import_rose (request.Import name rules csv) day before now last_before last_now s (forbidden s.allowed allow.Add) (pattern_lines rules) (file_answer s name (entries_of rules csv)) r among tells
others_rose (request.Check entry) day before now last_before last_now s r among tells =
    absurd (no_others s (plain (edits.Add entry)) (first_of (refusals s allow.Add (plain (edits.Add entry)))) r among)
others_rose (request.Preview name rules csv) day before now last_before last_now s r among tells =
    import_rose (request.Preview name rules csv) day before now last_before last_now s (forbidden s.allowed allow.Add) (pattern_lines rules) (file_answer s name (entries_of rules csv)) r among tells

-- where no count rose the reply is the answer's own, or memory ran out
pub completes : (q : Request) (day before now : ℕ) (last_before last_now : Option (List ℕ)) (s : State) (d : Option Deed) (faults : ℕ) (r : Reply) (new : State) (faults_now : ℕ)
    → Gives (answer_to s day q) d s faults r new faults_now → TellsReply q day before now last_before last_now r
    → Completes (answer_to s day q) faults faults_now before now r
completes q day before now last_before last_now s d faults r new faults_now (inl h) tells = λ disks maker. inr h.0
completes q day before now last_before last_now s d faults r new faults_now (inr (inl h)) tells = λ disks maker. inl h.0
completes q day before now last_before last_now s d faults r new faults_now (inr (inr (inl h))) tells = λ disks maker. absurd (disks h.2)
completes q day before now last_before last_now s d faults r new faults_now (inr (inr (inr h))) tells =
    λ disks maker. absurd (maker (others_rose q day before now last_before last_now s r h.0 tells))
