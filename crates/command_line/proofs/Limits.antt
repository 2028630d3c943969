-- Texts past the limit of their bytes, and texts within it.
use Rattle.std.proofs.Common.{◌≡◌, ℕ, ◌≤◌, Bool, true, false, ◌&&◌, List, Option, Result, Err, nat_lt, length, if◌then◌else◌, ap, sym, ◌∙◌, subst, arith}
use Rattle.std.proofs.lemmas.Bool.Decides.{nat_tests}
use Rattle.hl_base.specs.Limits.{text_limit}
use Rattle.book_commands.specs.Answers.{Finds}
use Rattle.book_commands.specs.Works.{IsWithin, judge}
use Rattle.book_commands.specs.declared.work.Work.{Work}
use Rattle.book_commands.specs.declared.work.Work.TheVariants as works
use Rattle.refusals.specs.Errors.{limit_line}
use Rattle.refusals.specs.Outcomes.{Judged, refused}
use Rattle.refusals.specs.Refusing.{Refuses}
use Rattle.refusals.specs.declared.refusal.Refusal.{Refusal}
use Rattle.refusals.specs.declared.refusal.Refusal.TheVariants as refusal
use Rattle.command_line.specs.Sources.{has_limit, judge_within}

within_length : (text : List ℕ) → nat_lt text_limit (length text) ≡ false → length text ≤ 16777216
within_length text e = grind (arith, nat_tests)

pub within_by : (work : Work) (text : List ℕ) → (has_limit work && nat_lt text_limit (length text)) ≡ false → IsWithin work text
within_by works.Text text e = tt
within_by (works.Report asked) text e = within_length text e
within_by (works.Hours form) text e = within_length text e
within_by (works.Strict checks) text e = within_length text e
within_by (works.Close asked) text e = within_length text e
within_by works.Explain text e = within_length text e
within_by works.Items text e = within_length text e

module _ (day : ℕ) (year : Option ℕ) (work : Work) (text : List ℕ) where
  abbrev past : Judged
  past = Err (refused 7 (limit_line (length text) text_limit))

  abbrev by_test : Bool → Judged
  by_test b = if b then past else judge day year work text

  -- the line of its size is told
  told_past : (r : Refusal) → Refuses r 7 (limit_line (length text) text_limit) → Finds (Err r) past
  told_past (refusal.Line own said) k =
      ap (λ (n : ℕ). refused n (limit_line (length text) text_limit)) (sym k.0) ∙ ap (λ (l : List ℕ). refused own l) (sym k.1)
  told_past (refusal.Pattern what said) k = absurd k
  told_past refusal.ReadFault k = tt
  told_past refusal.DiskFault k = tt
  told_past refusal.Memory k = tt

  pub past_found : (r : Refusal) → (has_limit work && nat_lt text_limit (length text)) ≡ true → Refuses r 7 (limit_line (length text) text_limit)
      → Finds (Err r) (judge_within day year work text)
  past_found r e k =
      let F : Bool → Type 0 = λ b. Finds (Err r) (by_test b) in
      subst F (sym e) (told_past r k)

  -- or what is judged of it
  pub within_found : (r : Result (List ℕ) Refusal) → (has_limit work && nat_lt text_limit (length text)) ≡ false → Finds r (judge day year work text)
      → Finds r (judge_within day year work text)
  within_found r e h =
      let F : Bool → Type 0 = λ b. Finds r (by_test b) in
      subst F (sym e) h
