use Rattle.std.proofs.Common.{◌≡◌, ℕ, ◌-◌, ◌<◌, ◌≤◌, false, length, get_or, ◌∙◌, subst, arith}
use Rattle.std.specs.Prelude.{nat_lt}
use Rattle.std.proofs.lemmas.Bool.{le-ltb}
use Rattle.std.proofs.lemmas.List.{get_or_default}
use Rattle.book.specs.declared.style.Style.{Style}
use Rattle.book.proofs.Standing.{insert-with}
use Rattle.book.proofs.marks.put_mark.Goals as goal
use Rattle.book.proofs.marks.put_mark.Goals.{then-loop-at-test+else-index-number, else-loop-at-test}

pub returns-clause-ok : goal.returns-clause-ok
returns-clause-ok c =
    let stop : (d : ℕ × Style) → 0 < c.loop-at.at → nat_lt c.args.number (get_or c.args.marks.now.items (c.loop-at.at - 1) d).0 ≡ false =
    elim c.loop-at-test.branch [
      | then-loop-at-test+else-index-number w ↦ λ d lt.
          let within : c.loop-at.at - 1 < length c.args.marks.now.items = omega arith in
          let le : w.index.result.now.0 ≤ c.args.number = w.if-index-number.false in
          le-ltb _ _ (subst (λ (m : ℕ × Style). m.0 ≤ c.args.number) (w.index.ensures ∙ get_or_default c.args.marks.now.items (c.loop-at.at - 1) w.index.result.now d within) le)
      | else-loop-at-test w ↦ λ d lt. absurd (omega arith)
    ] in
    c.in_ok-insert.ensures.items ∙ insert-with c.args.number c.args.style c.args.marks.now.items c.loop-at.at c.loop-at.invariant.within c.loop-at.invariant.greater stop
