-- Entries that tell a disk fault: the count of the disks rose.
use Rattle.std.proofs.Common.{◌≡◌, ◌⊎◌, inl, inr, ⊎_elim, ℕ, ◌+◌, ◌≤◌, Bool, true, false, ◌||◌, List, [], ◌∷◌, ◌++◌, map, Option, None, Ok, Err, refl, sym, ap, subst, ◌∙◌, arith}
use Rattle.hl_base.specs.Causes.{Rose}
use Rattle.hl_base.specs.declared.disk.Disk.{Ghosts as Disks}
use Rattle.query.specs.Building.{IsOneOf}
use Rattle.desk.specs.declared.deed.Deed.{Deed}
use Rattle.desk.specs.declared.desk.Desk.{Desk}
use Rattle.desk.specs.declared.reply.Reply.{Reply}
use Rattle.desk.specs.declared.request.Allow.TheVariants as allow
use Rattle.desk.specs.declared.request.Request.{Request}
use Rattle.desk.specs.declared.request.Request.TheVariants as request
use Rattle.desk.specs.Desks.{IsServed, Leads, faults_of, state_of}
use Rattle.desk.specs.Entries.{Entry}
use Rattle.desk.specs.Reports.{refusable_lines, refusable_words, words_over}
use Rattle.desk.specs.Previews.{revision_line}
use Rattle.desk.specs.States.{Answer, State, added_by, answer_to, deed_in, dry_run, edit_answer, import_answer, plain, refused_pattern, refused_rule, report_reply}
use Rattle.desk.specs.Steps.{Gives, is_fault}
use Rattle.desk.proofs.DryLaws.{text_or}
use Rattle.live_journal.specs.declared.edit.Edit.TheVariants as edits
use Rattle.plan_commands.specs.Reports.{Report}
use Rattle.store_text.proofs.LendingLaws.{rose_then}
use Rattle.store_commands.specs.Replies.{IsEdit}
use Rattle.store_commands.proofs.ReplyLaws.{answer_plain}
use Rattle.talk_commands.specs.Histories.{has_fault}

-- no reply of an answer tells a disk fault
record IsFaultless (answer : Answer) : Type 0 where
  one : is_fault answer.reply ≡ false
  others : (r : Reply) → IsOneOf r answer.others → is_fault r ≡ false

of_edit : (s : State) (day : ℕ) (q : Request) → IsEdit q → IsFaultless (answer_to s day q)
of_edit s day q is =
    let all = answer_plain s day q is in
    record { one = all.one.1; others = λ r among. (all.others r among).1 }

report_plain : (revision : ℕ) (report : Report) → is_fault (report_reply revision report) ≡ false
report_plain revision (Ok bytes) = refl
report_plain revision (Err fault) = refl

words_plain : (words : List (List ℕ)) (r : Reply) → IsOneOf r (map refused_pattern words) → is_fault r ≡ false
words_plain [] r among = absurd among
words_plain (word ∷ words) r (inl is) = ap is_fault (sym is)
words_plain (word ∷ words) r (inr among) = words_plain words r among

rules_plain : (lines : List ℕ) (r : Reply) → IsOneOf r (map refused_rule lines) → is_fault r ≡ false
rules_plain [] r among = absurd among
rules_plain (line ∷ lines) r (inl is) = ap is_fault (sym is)
rules_plain (line ∷ lines) r (inr among) = rules_plain lines r among

either_plain : (xs ys : List Reply) (r : Reply) → (IsOneOf r xs → is_fault r ≡ false) → (IsOneOf r ys → is_fault r ≡ false)
    → IsOneOf r (xs ++ ys) → is_fault r ≡ false
either_plain [] ys r first second among = second among
either_plain (x ∷ xs) ys r first second (inl is) = first (inl is)
either_plain (x ∷ xs) ys r first second (inr among) = either_plain xs ys r (λ a. first (inr a)) second among

of_dry : (s : State) (text : List ℕ) (answer : Answer) → IsFaultless answer → IsFaultless (dry_run s text answer)
of_dry s text answer h = record {
  one = text_or (λ (r : Reply). is_fault r ≡ false) s.revision text answer.reply refl h.one;
  others = h.others;
}

faultless : (s : State) (day : ℕ) (q : Request) → IsFaultless (answer_to s day q)
unfolding answer_to
faultless s day (request.Report words) = record {
  one = report_plain s.revision (words_over day None s.text words);
  others = λ r among.
      either_plain (map refused_pattern (refusable_words day words)) (map refused_rule (refusable_lines day None s.text words)) r
      (words_plain (refusable_words day words) r) (rules_plain (refusable_lines day None s.text words) r) among;
}
faultless s day request.Download = record { one = refl; others = λ r among. absurd among }
faultless s day (request.Add entry) = of_edit s day (request.Add entry) tt
faultless s day (request.Change base item entry) = of_edit s day (request.Change base item entry) tt
faultless s day (request.Replace base text) = of_edit s day (request.Replace base text) tt
faultless s day (request.Import name rules csv) = of_edit s day (request.Import name rules csv) tt
faultless s day (request.Check entry) =
    of_dry s (revision_line (s.revision + 1)) (edit_answer s allow.Add (plain (edits.Add entry))) (of_edit s day (request.Add entry) tt)
faultless s day (request.Preview name rules csv) =
    let answer = import_answer s name rules csv in
    of_dry s (added_by s answer) answer (of_edit s day (request.Import name rules csv) tt)

no_fault : (r : Reply) → is_fault r ≡ false → is_fault r ≡ true → (a b : ℕ) → Rose a b
no_fault r lacks has a b = absurd (of (sym lacks ∙ has))
  where
    of : false ≡ true → ⊥
    of e = cc

step_rose : (answer : Answer) (d : Option Deed) (old : State) (before : ℕ) (r : Reply) (new : State) (after : ℕ) → IsFaultless answer
    → Gives answer d old before r new after → is_fault r ≡ true → Rose before after
step_rose answer d old before r new after all (inl h) e = no_fault r (ap is_fault h.0 ∙ all.one) e before after
step_rose answer d old before r new after all (inr (inl h)) e = no_fault r (ap is_fault h.0) e before after
step_rose answer d old before r new after all (inr (inr (inl h))) e = h.2
step_rose answer d old before r new after all (inr (inr (inr h))) e = no_fault r (all.others r h.0) e before after

-- counts that don't fall
rose_from : (a b c : ℕ) → a ≤ b → Rose b c → Rose a c
rose_from a b c le (inl less) = inl (omega (arith, less, le))
rose_from a b c le (inr last) = inr last

either_rose : (a b c : ℕ) → a ≤ b → b ≤ c → Rose a b ⊎ Rose b c → Rose a c
either_rose a b c le more (inl rose) = rose_then a b c rose le more
either_rose a b c le more (inr rose) = rose_from a b c le rose

first_or_rest : (b rest : Bool) → (b || rest) ≡ true → (b ≡ true) ⊎ (rest ≡ true)
first_or_rest true rest e = inl refl
first_or_rest false rest e = inr e

module _ {D : Type 0} {g : Disks D} where
  later : (old : Desk D g) (entry : Entry) (new : Desk D g) → IsServed old entry new → faults_of old ≤ faults_of new
  later old entry new served = omega (arith, served.serves.keeps.later_first, served.serves.keeps.later_second)

  pub all_later : (old new : Desk D g) (entries : List Entry) → Leads old entries new → faults_of old ≤ faults_of new
  all_later old new [] led = subst (λ (d : Desk D g). faults_of old ≤ faults_of d) (sym led) (omega arith)
  all_later old new (entry ∷ entries) led = omega (arith, later old entry led.0 led.1, all_later led.0 new entries led.2)

  served_rose : (old : Desk D g) (entry : Entry) (new : Desk D g) → IsServed old entry new → is_fault entry.reply ≡ true → Rose (faults_of old) (faults_of new)
  served_rose old entry new served fault =
      step_rose (answer_to (state_of old) entry.day.0 entry.request) (deed_in (state_of old) entry.request) (state_of old) (faults_of old) entry.reply
      (state_of new) (faults_of new) (faultless (state_of old) entry.day.0 entry.request) served.serves.gives fault

  pub fault_rose : (old new : Desk D g) (entries : List Entry) → Leads old entries new → has_fault entries ≡ true → Rose (faults_of old) (faults_of new)
  fault_rose old new [] led has = absurd cc
  fault_rose old new (entry ∷ entries) led has =
      either_rose (faults_of old) (faults_of led.0) (faults_of new) (later old entry led.0 led.1) (all_later led.0 new entries led.2)
      (⊎_elim (λ first. inl (served_rose old entry led.0 led.1 first)) (λ rest. inr (fault_rose led.0 new entries led.2 rest))
      (first_or_rest (is_fault entry.reply) (has_fault entries) has))
