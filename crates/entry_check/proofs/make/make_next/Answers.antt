use Rattle.std.proofs.Common.{◌≡◌, ◌≤◌, ◌+◌, List, [], ◌∷◌, ◌++◌, true, false, OnOk, sym, ap, ◌∙◌, subst}
use Rattle.book.specs.declared.transaction.Posting.{Posting}
use Rattle.assertions.specs.Kept.{IsBalance, is_asked}
use Rattle.entry_check.specs.Asking.{making}
use Rattle.entry_check.specs.Checked.{told_before}
use Rattle.entry_check.specs.Making.{IsMadeNext}
use Rattle.entry_check.specs.Ranging.{are_in_range}
use Rattle.entry_check.proofs.Within.{out_alone}
use Rattle.entry_check.proofs.make.make_next.Goals as goal
use Rattle.entry_check.proofs.make.make_next.Goals.{in-Ok-push, in-Err-push}

pub returns-in-Err-add_posting-clause-range : goal.returns-in-Err-add_posting-clause-range
returns-in-Err-add_posting-clause-range g c = λ range h asked.
    let told = told_before (g.S.Sums.txns c.args.sums.now) (g.S.Sums.place c.args.sums.now) in
    let done = c.args.made.now.items in
    subst (λ (x : Posting). are_in_range told (done ++ x ∷ []) ≡ false) (c.in-Ok.ensures.made done h asked)
    (out_alone told (done ++ c.in-Ok.posting ∷ []) (c.in-Err-add_posting.ensures.range range done h))

pub returns-clause-made : goal.returns-clause-made
returns-clause-made g c =
    let told = told_before (g.S.Sums.txns c.args.sums.now) (g.S.Sums.place c.args.sums.now) in
    let done = c.args.made.now.items in
    let old = c.args.here.now in
    let new = c.add_posting.new.balances in
    let p = c.args.posting in
    let all = c.push.new.self.items in
    elim c.match-push.branch [
      | in-Ok-push w ↦ subst (λ r. OnOk r (IsBalance done old.own old.below → is_asked old.own old.below p ≡ true → IsMadeNext told p done all new.own new.below)) (sym w.result-is) (λ h asked. record {
        is = w.in-Ok-push.ensures.items ∙ ap (λ (x : Posting). done ++ x ∷ []) (c.in-Ok.ensures.made done h asked);
        here = subst (λ (ps : List Posting). IsBalance ps new.own new.below) (sym w.in-Ok-push.ensures.items) (c.in-Ok-add_posting.ensures.ok done h);
      })
      | in-Err-push w ↦ subst (λ r. OnOk r (IsBalance done old.own old.below → is_asked old.own old.below p ≡ true → IsMadeNext told p done all new.own new.below)) (sym w.result-is) tt
    ]

pub returns-clause-few : goal.returns-clause-few
returns-clause-few g c =
    let P : Type 0 = c.make_one.new.steps.nodes ≤ c.args.steps.now.nodes + making (g.S.Sums.asks c.args.sums.now) c.args.posting in
    elim c.match-push.branch [
      | in-Ok-push w ↦ subst (λ r. OnOk r P) (sym w.result-is) c.in-Ok.ensures.few
      | in-Err-push w ↦ subst (λ r. OnOk r P) (sym w.result-is) tt
    ]
